-- The words of causes: why a tape does not set.
use Rattle.std.specs.Prelude.{ℕ, List, ◌++◌, codes, decimal}
use Rattle.line_check.specs.declared.fault.Cause.{Cause}
use Rattle.line_check.specs.declared.fault.Cause.TheVariants.{UnknownCode, NoWidth, Unfinished, Overset, Loose}
use Rattle.line_check.specs.declared.fault.SetFault.{SetFault}

-- the word of a cause, with the units by which a line is overset or loose, before its place
abbrev pub cause_at : Cause → List ℕ → List ℕ
cause_at UnknownCode place = codes "unknown-code at " ++ place
cause_at NoWidth place = codes "no-width at " ++ place
cause_at Unfinished place = codes "unfinished at " ++ place
cause_at (Overset over) place = codes "overset " ++ (decimal over ++ (codes " at " ++ place))
cause_at (Loose under) place = codes "loose " ++ (decimal under ++ (codes " at " ++ place))

-- a cause with its place, as `unknown-code at 3 line 1`
abbrev pub cause_text : SetFault → List ℕ
cause_text f = cause_at f.cause (decimal f.at ++ (codes " line " ++ decimal f.line))
