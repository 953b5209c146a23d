-- The words of rows in a database that lies in memory, and lists of members whose rows were just made.
use Rattle.std.proofs.Common.{◌≡◌, ℕ, zero, suc, ◌⊎◌, inl, inr, true, refl, ap, subst, ◌∙◌, List, [], ◌∷◌, ◌++◌, Some, None}
use Rattle.std.specs.Prelude.{map, slice_get}
use Rattle.std.proofs.lemmas.List.{map-append}
use Rattle.sqlite_trees.specs.declared.memory.MemStore.{MemStore}
use Rattle.sqlite_trees.specs.View.{doubt}
use Rattle.sqlite.specs.Steps.{over_memory}
use Rattle.protocol.specs.Versions.{Version}
use Rattle.acceptor_store.specs.Calls.{in_database}
use Rattle.acceptor_store.specs.Sqlite.{SqliteOf}
use Rattle.rows_saved.specs.declared.rows.Rows.{Ghosts}
use Rattle.world.specs.Founding.{Part, Given, given_of, AreAt, AreBlank, IsNewlyMade, AreNewlyMade}

-- what is said of rows, of those in a database in memory
abbrev pub in_memory : Ghosts (SqliteOf MemStore)
in_memory = in_database over_memory

-- a disk in memory is never in doubt
pub no_doubt : doubt true ≡ 0
unfolding doubt
no_doubt = refl

-- rows that were made there are kept
pub keeps : (s : SqliteOf MemStore) → in_memory.made s → in_memory.kept s
keeps s made = (no_doubt, made)

no_item : {X : Type 0} {a : X} → None ≡ Some a → ⊥
no_item e = cc

some_is : {X : Type 0} {a b : X} → Some a ≡ Some b → a ≡ b
some_is e = cc

-- what stands in a list that grew by one
grown : {X : Type 0} (xs : List X) (x : X) (i : ℕ) (y : X) → slice_get (xs ++ x ∷ []) i ≡ Some y → (slice_get xs i ≡ Some y) ⊎ (x ≡ y)
grown [] x zero y e = inr (some_is e)
grown [] x (suc i) y e = absurd (no_item e)
grown (z ∷ xs) x zero y e = inl e
grown (z ∷ xs) x (suc i) y e = grown xs x i y e

-- there is no member yet
pub newly_none : {R : Type 0} (g : Ghosts R) → AreNewlyMade g []
newly_none g i q at_i = absurd (no_item at_i)

-- one member more whose rows were just made
pub newly_more : {R : Type 0} (g : Ghosts R) (parts : List (Part R)) (part : Part R) → AreNewlyMade g parts → IsNewlyMade g part.2 → AreNewlyMade g (parts ++ part ∷ [])
newly_more {R = R} g parts part all new i q at_i = elim (grown parts part i q at_i) [
  | inl before ↦ all i q before
  | inr now ↦ subst (λ (p : Part R). IsNewlyMade g p.2) now new
]

-- all so far are at this version
pub at_none : {R : Type 0} (version : R → Version) (v : Version) → AreAt version (λ m. v) []
at_none version v i q at_i = absurd (no_item at_i)

pub at_more : {R : Type 0} (version : R → Version) (v : Version) (parts : List (Part R)) (part : Part R) → AreAt version (λ m. v) parts → version part.2 ≡ v → AreAt version (λ m. v) (parts ++ part ∷ [])
at_more {R = R} version v parts part all new i q at_i = elim (grown parts part i q at_i) [
  | inl before ↦ all i q before
  | inr now ↦ subst (λ (p : Part R). version p.2 ≡ v) now new
]

-- one member more of those that were given
pub given_more : {R : Type 0} (parts : List (Part R)) (part : Part R) (members : List Given) → map given_of parts ≡ members → map given_of (parts ++ part ∷ []) ≡ members ++ given_of part ∷ []
given_more parts part members e = map-append given_of parts (part ∷ []) ∙ ap (λ (ms : List Given). ms ++ given_of part ∷ []) e

-- rows that were just made, and that nobody can spoil, are blank
pub newly_is_blank : {R : Type 0} (g : Ghosts R) → ((s : R) → g.made s → g.kept s) → (parts : List (Part R)) → AreNewlyMade g parts → AreBlank g.is_open g.saved parts
newly_is_blank g keeps parts new i part at_i = let its = new i part at_i in its.1 (keeps part.2 its.0)
