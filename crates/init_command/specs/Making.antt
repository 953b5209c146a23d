-- What is made of a plant, and what is told of it.
use Rattle.std.specs.Prelude.{◌≡◌, ℕ, List, [], ◌∷◌, ◌++◌, codes, string_bytes, Option, Some, None, option_map}
use Rattle.std.specs.Io.KnownBytes.{Appends}
use Rattle.init_command.specs.declared.made.Made.{Made}
use Rattle.init_command.specs.declared.made.Made.TheVariants.{New, Same, Other}
use Rattle.init_command.specs.declared.made.Thing.{Thing}

-- what was made: a file with these bytes, or a folder, and who may use it at most
pub record MadeThing : Type 0 where
  pub path : List ℕ
  pub mode : ℕ
  pub bytes : Option (List ℕ)

-- what was asked for, made
abbrev pub thing_made : Thing → MadeThing
thing_made thing = record { path = string_bytes thing.path; mode = thing.mode; bytes = option_map (λ bytes. bytes.now) thing.bytes }

-- these were made since, in this order, and nothing else; of a place that does not tell, nothing is said
abbrev pub Makes : Option (List MadeThing) → Option (List MadeThing) → List MadeThing → Type 0
Makes None new things = Unit {0}
Makes (Some old) None things = ⊥
Makes (Some old) (Some new) things = new ≡ old ++ things

-- what is made where this is what came of it: the thing, or nothing
abbrev pub made_by : Made → MadeThing → List MadeThing
made_by New thing = thing ∷ []
made_by Same thing = []
made_by Other thing = []

-- the line that tells what came of a path
abbrev pub line_of : Made → List ℕ → List ℕ
line_of New path = codes "made " ++ (path ++ codes "\n")
line_of Same path = codes "left " ++ (path ++ codes "\n")
line_of Other path = codes "left " ++ (path ++ codes ": it differs\n")

-- the line that is told is true: it says that a thing was made just where it was
pub record TellsTrue (thing : MadeThing) (old new : Option (List MadeThing)) (before after : Option (List ℕ)) : Type 0 where
  pub how : Made
  pub made : Makes old new (made_by how thing)
  pub told : Appends before after (line_of how thing.path)

-- of each of these things, in their order, there is such a line; nothing else was made, and nothing else told
abbrev pub TellsAllTrue : List MadeThing → Option (List MadeThing) → Option (List MadeThing) → Option (List ℕ) → Option (List ℕ) → Type 0
TellsAllTrue [] old new before after = (new ≡ old) × (after ≡ before)
TellsAllTrue (thing ∷ things) old new before after =
    (made : Option (List MadeThing)) × (told : Option (List ℕ)) × TellsTrue thing old made before told × TellsAllTrue things made new told after
