-- The lines of a rehearsal: how a step ended, and what it released.
use Rattle.std.specs.Prelude.{ℕ, List, ◌++◌, codes, decimal}
use Rattle.protocol.specs.Circuit.{Release}
use Rattle.line_check.specs.declared.slug.Slug.{Slug}
use Rattle.line_check.specs.declared.fault.SetFault.{SetFault}
use Rattle.world.specs.declared.step.Outcome.{Outcome}
use Rattle.release_texts.specs.ReleaseText.{release_text}
use Rattle.rehearse_command.specs.Words.{outcome_text}

-- who acted, and how it ended
abbrev pub outcome_line : ℕ → Outcome → List ℕ
outcome_line member outcome = decimal member ++ (codes " " ++ (outcome_text outcome ++ codes "\n"))

-- a release, behind a blank: its number, its frames, and what its member's table and widths made of them; or that it is withdrawn
abbrev pub released_text : Release (List Slug) SetFault → List ℕ
released_text r = release_text (codes " ") r.number r.entry r.set
