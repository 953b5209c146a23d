-- Its path is that of its name in the folder, and its mode is that of the file.
use Rattle.std.proofs.Common.{◌≡◌, ◌++◌, ◌∙◌, ℕ, List, Option, Bor, ap, refl, option_map, string_bytes}
use Rattle.std.specs.Prelude.{codes}
use Rattle.init_command.specs.Files.{name_in_plant, mode_of}
use Rattle.init_command.specs.Making.{MadeThing}
use Rattle.init_command.proofs.making.thing_with.Goals as goal

-- things of one path and one mode, with the same bytes, are one
one_thing : (path other : List ℕ) (mode more : ℕ) (bytes : Option (List ℕ)) → path ≡ other → mode ≡ more
    → ◌≡◌ {A = MadeThing} (record { path = path; mode = mode; bytes = bytes }) (record { path = other; mode = more; bytes = bytes })
one_thing path other mode more bytes same alike = rw (same, alike) refl

pub returns : goal.returns
returns c =
    let folder : List ℕ = c.args.order.now.folder.now in
    one_thing (string_bytes c.in_ok-path.path) (folder ++ (codes "/" ++ name_in_plant c.args.file)) c.mode-mode.result (mode_of c.args.file)
    (option_map (λ (bytes : Bor (List ℕ)). bytes.now) c.args.bytes)
    (c.in_ok-path.ensures ∙ ap (λ (name : List ℕ). folder ++ (codes "/" ++ name)) c.name-name.ensures) c.mode-mode.ensures
