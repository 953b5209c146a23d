-- How a command for editors ends, and what it has written then.
use Rattle.std.specs.Prelude.{◌≡◌, ◌⊎◌, ℕ, List, Option, Result, Ok, Err, IfSome}
use Rattle.streams.specs.Fronts.{AppendsFront}
use Rattle.command_ends.specs.Ends.{end_of, IsOfInput}
use Rattle.command_ends.specs.declared.end.End.{End}
use Rattle.command_ends.specs.declared.end.End.TheVariants.{Input}
use Rattle.editor_commands.specs.declared.cause.EditorFault.{EditorFault}
use Rattle.editor_commands.specs.declared.cause.EditorFault.TheVariants as faults

-- the end of a command by a fault: that of the fault that all commands share, else it is one of an input
abbrev pub end_in : EditorFault → End
end_in (faults.Other fault) = end_of fault
end_in (faults.NoCode piece place) = Input
end_in (faults.Text fault) = Input
end_in faults.EmptyText = Input
end_in (faults.NoFrame at byte) = Input

-- what an act of the command gives is so, or else a fault of an input, of the output or of memory
abbrev pub Gives : {A : Type 0} → Result A EditorFault → (A → Type 0) → Type 0
Gives (Ok given) P = P given
Gives (Err fault) P = IsOfInput (end_in fault)

-- a command that breaks off: an input is not taken or memory is refused before anything is written, or the output took no
-- more than a prefix
abbrev pub BreaksOff : Type 0 → End → Option (List ℕ) → Option (List ℕ) → Type 0
BreaksOff WrotePrefix end old new = (IsOfInput end × (new ≡ old)) ⊎ ((end ≡ Input) × WrotePrefix)

-- the same, where this text was to be written
abbrev pub BreaksOffText : List ℕ → End → Option (List ℕ) → Option (List ℕ) → Type 0
BreaksOffText text end old new = BreaksOff (AppendsFront old new text) end old new

-- what holds of the texts of two inputs, where these are known
abbrev pub IfBoth : Option (List ℕ) → Option (List ℕ) → (List ℕ → List ℕ → Type 0) → Type 0
IfBoth first second P = IfSome first (λ xs. IfSome second (λ ys. P xs ys))

-- what holds of the texts of three inputs, where these are known
abbrev pub IfAll : Option (List ℕ) → Option (List ℕ) → Option (List ℕ) → (List ℕ → List ℕ → List ℕ → Type 0) → Type 0
IfAll first second third P = IfSome first (λ xs. IfSome second (λ ys. IfSome third (λ zs. P xs ys zs)))
