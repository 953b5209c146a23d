-- The file was read, or not.
use Rattle.std.proofs.Common.{ℕ, List, [], ◌∷◌, Ok, inl, inr, refl}
use Rattle.protocol.specs.Lists.{IsAmong}
use Rattle.folders.specs.Doings.{Doing, saw_file, read_file}
use Rattle.folders.specs.declared.fault.FolderFault.{FolderFault}
use Rattle.run_command.specs.Working.{IfRead}
use Rattle.run_command.proofs.Looking.{looks_whole, looks_failed, failed_read, read_ok}
use Rattle.run_command.proofs.reading.read_tape.Goals as goal

pub returns-in_err-bytes : goal.returns-in_err-bytes
returns-in_err-bytes g c =
    looks_failed _ _ c.args.file.now.name.now _ c.in_err-bytes.ensures.err (λ doings. failed_read c.from_residual.result _ c.from_residual.ensures.0)

pub returns-in-Some : goal.returns-in-Some
returns-in-Some g c =
    let file : List ℕ → Doing = λ (bytes : List ℕ). read_file (record { name = c.args.file.now.name.now; bytes = bytes }) in
    let bytes = c.in-Some.bytes.items in
    let done : List Doing = saw_file c.args.file.now.name.now ∷ file bytes ∷ [] in
    looks_whole c.in_ok-bytes.field-0 c.in-Some.bytes _ _ c.args.file.now.name.now
    (λ doings. IfRead {D = FolderFault} (Ok c.from_vec.result) (λ tape. IsAmong doings (file tape))) c.in-Some.is c.in_ok-bytes.ensures.whole
    (read_ok FolderFault _ c.from_vec.result bytes (λ tape. IsAmong done (file tape)) c.from_vec.ensures.ok (inr (inl refl)))
