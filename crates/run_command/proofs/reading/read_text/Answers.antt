-- The text was read, and became a tape or has a fault; or it was not read.
use Rattle.std.proofs.Common.{ℕ, List, [], ◌∷◌, inl, inr, refl, subst}
use Rattle.folders.specs.Doings.{Doing, saw_file, read_file}
use Rattle.run_command.specs.Working.{BecameTape, IsTapeOrFault}
use Rattle.run_command.proofs.Looking.{looks_whole, looks_longer, looks_failed, became, failed_became}
use Rattle.run_command.proofs.reading.read_text.Goals as goal

pub returns-in_err-text : goal.returns-in_err-text
returns-in_err-text g c =
    let name = c.args.file.now.name.now in
    looks_failed _ _ name _ c.in_err-text.ensures.err (λ doings. failed_became c.args.table.now doings name c.from_residual.result c.from_residual.ensures.0)

pub returns-in-Some : goal.returns-in-Some
returns-in-Some g c =
    let name = c.args.file.now.name.now in
    let text = c.in-Some.text.items in
    let done : List Doing = saw_file name ∷ read_file (record { name = name; bytes = text }) ∷ [] in
    looks_whole c.in_ok-text.field-0 c.in-Some.text _ _ name (λ doings. BecameTape c.args.table.now doings name c.punched.result) c.in-Some.is c.in_ok-text.ensures.whole
    (became c.args.table.now done name text c.punched.result (inr (inl refl))
    (subst (λ (bytes : List ℕ). IsTapeOrFault c.args.table.now bytes c.punched.result) c.as_slice.ensures.value c.punched.ensures))

pub returns-in-None : goal.returns-in-None
returns-in-None g c =
    looks_longer c.in_ok-text.field-0 _ _ c.args.file.now.name.now _ c.in-None.is c.in_ok-text.ensures.longer tt
