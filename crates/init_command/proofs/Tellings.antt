-- What was made, and the lines that tell of it, one after another.
use Rattle.std.proofs.Common.{◌≡◌, ℕ, List, [], ◌∷◌, ◌++◌, Option, Some, None, Result, Ok, Err, IfOk, OnOk, OnErr, refl, sym, subst, append-nil}
use Rattle.std.specs.Prelude.{flat_map}
use Rattle.std.specs.Io.KnownBytes.{Appends}
use Rattle.init_command.specs.Making.{MadeThing, Makes, TellsTrue, TellsAllTrue, made_by, line_of}
use Rattle.init_command.specs.Plants.{one_or_none, thing_in, things_of}
use Rattle.init_command.specs.declared.made.Made.{Made}
use Rattle.init_command.specs.declared.made.Made.TheVariants.{New, Same, Other}
use Rattle.init_command.specs.declared.made.NotMade.{NotMade}
use Rattle.init_command.specs.declared.making.PlantOrder.{PlantOrder}
use Rattle.init_command.specs.declared.plant_file.PlantFile.{PlantFile}

-- nothing was made of what is as it was
pub nothing_made : (old new : Option (List MadeThing)) → new ≡ old → Makes old new []
nothing_made None new is = tt
nothing_made (Some things) new is = subst (λ z. Makes (Some things) z []) (sym is) (sym (append-nil things))

-- what a place says of its own making, by what came of it
pub made_as : (result : Result Made NotMade) (old new : Option (List MadeThing)) (thing : MadeThing)
    → (result ≡ Ok New → Makes old new (thing ∷ [])) → (¬ (result ≡ Ok New) → new ≡ old) → IfOk result (λ how. Makes old new (made_by how thing))
made_as (Ok New) old new thing is_new left = is_new refl
made_as (Ok Same) old new thing is_new left = nothing_made old new (left (λ is. absurd cc))
made_as (Ok Other) old new thing is_new left = nothing_made old new (left (λ is. absurd cc))
made_as (Err e) old new thing is_new left = tt

-- nothing was made where it says that it was not
pub left_as : (result : Result Made NotMade) (old new : Option (List MadeThing)) → (¬ (result ≡ Ok New) → new ≡ old) → OnErr result (new ≡ old)
left_as (Ok how) old new left = tt
left_as (Err e) old new left = left (λ is. absurd cc)

-- the line says of this path what came of it
pub told_by : (how : Made) (thing : MadeThing) (old new : Option (List MadeThing)) (before after : Option (List ℕ)) (path : List ℕ)
    → Makes old new (made_by how thing) → path ≡ thing.path → Appends before after (line_of how path) → TellsTrue thing old new before after
told_by how thing old new before after path made is told = record {
  how = how;
  made = made;
  told = subst (λ p. Appends before after (line_of how p)) is told;
}

-- nothing was told, and nothing made
told_none : (old : Option (List MadeThing)) (before : Option (List ℕ)) → TellsAllTrue [] old old before before
told_none old before = (refl, refl)

-- the one thing was told
told_one : (thing : MadeThing) (old new : Option (List MadeThing)) (before after : Option (List ℕ)) → TellsTrue thing old new before after → TellsAllTrue (thing ∷ []) old new before after
told_one thing old new before after told = (new, after, told, told_none new after)

-- some things were told, and then others
told_more : (things others : List MadeThing) (old made new : Option (List MadeThing)) (before told after : Option (List ℕ))
    → TellsAllTrue things old made before told → TellsAllTrue others made new told after → TellsAllTrue (things ++ others) old new before after
told_more [] others old made new before told after p q = subst (λ z. TellsAllTrue others z new before after) p.0 (subst (λ z. TellsAllTrue others made new z after) p.1 q)
told_more (thing ∷ things) others old made new before told after p q =
    (p.0, p.1, p.2, told_more things others p.0 made new p.1 told after p.3 q)

-- the one thing was told, where there is one, as far as that ended well
pub told_if : {E : Type 0} (result : Result (Unit {0}) E) (some : Option MadeThing) (thing : MadeThing) (old new : Option (List MadeThing)) (before after : Option (List ℕ))
    → some ≡ Some thing → OnOk result (TellsTrue thing old new before after) → OnOk result (TellsAllTrue (one_or_none some) old new before after)
told_if (Ok u) some thing old new before after is told =
    subst (λ one. TellsAllTrue (one_or_none one) old new before after) (sym is) (told_one thing old new before after told)
told_if (Err e) some thing old new before after is told = tt

-- there was no thing to be told
pub told_no_thing : (some : Option MadeThing) (old : Option (List MadeThing)) (before : Option (List ℕ)) → some ≡ None → TellsAllTrue (one_or_none some) old old before before
told_no_thing some old before is = subst (λ one. TellsAllTrue (one_or_none one) old old before before) (sym is) (told_none old before)

-- there was no file to be told
pub told_no_file : (order : PlantOrder) (files : List PlantFile) (old : Option (List MadeThing)) (before : Option (List ℕ)) → files ≡ []
    → TellsAllTrue (flat_map (things_of order) files) old old before before
told_no_file order files old before is = subst (λ fs. TellsAllTrue (flat_map (things_of order) fs) old old before before) (sym is) (told_none old before)

-- the first file was told, and then the others, as far as that ended well
pub told_files : {E : Type 0} (result : Result (Unit {0}) E) (order : PlantOrder) (first : PlantFile) (rest files : List PlantFile) (one : Option MadeThing)
    (old made new : Option (List MadeThing)) (before told after : Option (List ℕ))
    → files ≡ first ∷ rest → one ≡ thing_in order first → TellsAllTrue (one_or_none one) old made before told
    → OnOk result (TellsAllTrue (flat_map (things_of order) rest) made new told after) → OnOk result (TellsAllTrue (flat_map (things_of order) files) old new before after)
told_files (Ok u) order first rest files one old made new before told after is same now later =
    subst (λ fs. TellsAllTrue (flat_map (things_of order) fs) old new before after) (sym is)
    (told_more (things_of order first) (flat_map (things_of order) rest) old made new before told after
    (subst (λ each. TellsAllTrue (one_or_none each) old made before told) same now) later)
told_files (Err e) order first rest files one old made new before told after is same now later = tt
