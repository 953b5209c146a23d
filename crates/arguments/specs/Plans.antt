-- What the words of `serve` ask for by options that go together.
use Rattle.std.specs.Prelude.{◌≡◌, Bool, true, false, Option, Some, None, IsSome}
use Rattle.tape_frames.specs.declared.version.Version.{Version}
use Rattle.tape_frames.specs.declared.version.Version.TheVariants.{One}

-- one of two is given, and the other is not
abbrev pub IsUnpaired : {A B : Type 0} → Option A → Option B → Type 0
IsUnpaired None None = ⊥
IsUnpaired None (Some y) = Unit {0}
IsUnpaired (Some x) None = Unit {0}
IsUnpaired (Some x) (Some y) = ⊥

-- a layout is named of rows that are not to be made
abbrev pub IsLayoutAlone : Bool → Option Version → Type 0
IsLayoutAlone create layout = (create ≡ false) × IsSome layout

-- the version that rows are made in, if they are to be made: the one whose layout is named, else version 1
abbrev pub made_in : Bool → Option Version → Option Version
made_in false layout = None
made_in true None = Some One
made_in true (Some version) = Some version
