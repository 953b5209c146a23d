-- What is done with one file of the offers, step by step, where that is known.
use Rattle.std.specs.Prelude.{◌≡◌, ◌++◌, ℕ, List, [], ◌∷◌, Option, None, Some, Result, Ok, Err}
use Rattle.folders.specs.Stamps.{IsUnchanged}
use Rattle.folders.specs.declared.leaving.Place.{Place}
use Rattle.folders.specs.declared.stamp.Stamp.{Stamp}

-- one step of a reading: the file had this stamp as it was looked at; or it was read, and held these bytes
pub data Glance : Type 0 where
  had : (stamp : Stamp) → Glance
  held : (bytes : List ℕ) → Glance

-- one step of a move: this text was written beside where the file of this name goes; the file was moved there
pub data Step : Type 0 where
  wrote_text : (name : List ℕ) (to : Place) (text : List ℕ) → Step
  moved : (name : List ℕ) (to : Place) → Step

-- these steps came since, in this order, and no others; where none are told, nothing is said
abbrev pub Adds : {A : Type 0} → Option (List A) → Option (List A) → List A → Type 0
Adds None new steps = Unit {0}
Adds (Some old) None steps = ⊥
Adds (Some old) (Some new) steps = new ≡ old ++ steps

-- of these steps the first came since, in this order, and no others
pub record Begins {A : Type 0} (old new : Option (List A)) (steps : List A) : Type 0 where
  pub front : List A
  pub rest : List A
  pub adds : Adds old new front
  pub whole : steps ≡ front ++ rest

-- a look found the file unchanged since it had this stamp
pub record Finds (old new : Option (List Glance)) (stamp : Stamp) : Type 0 where
  pub found : Stamp
  pub same : IsUnchanged stamp found
  pub adds : Adds old new (had found ∷ [])

-- the file was read, and held these bytes, between two looks; both found it unchanged since it had this stamp
pub record IsReadBetween (old new : Option (List Glance)) (stamp : Stamp) (bytes : List ℕ) : Type 0 where
  pub first : Stamp
  pub second : Stamp
  pub before : IsUnchanged stamp first
  pub after : IsUnchanged stamp second
  pub adds : Adds old new (had first ∷ held bytes ∷ had second ∷ [])

-- the steps of a move: the text that is to lie beside the file, if one is, and then the file itself
abbrev pub steps_of : List ℕ → Place → Option (List ℕ) → List Step
steps_of name to None = moved name to ∷ []
steps_of name to (Some text) = wrote_text name to text ∷ moved name to ∷ []

-- all steps of a move came where it did not fail, and else the first of them
abbrev pub MovesBehind : {E : Type 0} → Option (List Step) → Option (List Step) → List Step → Result Unit E → Type 0
MovesBehind old new steps (Ok done) = Adds old new steps
MovesBehind old new steps (Err fault) = Begins old new steps
