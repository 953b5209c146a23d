-- What a number costs the usual log that waits.
use Rattle.std.proofs.Common.{◌≡◌, ℕ, ◌+◌, ◌*◌, ◌≤◌, Bool, true, false, List, [], ◌∷◌, Some, None, arith, refl, sym}
use Rattle.std.proofs.lemmas.Bool.{leb-true}
use Rattle.std.specs.Prelude.{nat_le, if◌then◌else◌}
use Rattle.plant_log.specs.declared.story.Begun.{Begun}
use Rattle.plant_log.specs.declared.story.Begun.TheVariants.{Never, Once, Often}
use Rattle.plant_log.specs.declared.story.StoryNote.{StoryNote}
use Rattle.plant_log.specs.declared.story.BallotTurn.{BallotTurn}
use Rattle.plant_log.specs.declared.story.BallotTurn.TheVariants.{Begins, Ends}
use Rattle.plant_log.specs.Stories.{first_story, is_second, one_more}
use Rattle.plant_log.specs.Night.{AreWithin, lines}

-- how many ballots may still be told
abbrev left : Begun → ℕ
left Never = 1
left Once = 1
left Often = 0

-- one that is begun is taken from them
taken : (b : Begun) (n k : ℕ) → n ≤ left (one_more b) + k → (if is_second b then 1 else 0) + n ≤ left b + k
taken Never n k p = omega (arith, p)
taken Once n k p = omega (arith, p)
taken Often n k p = omega (arith, p)

abbrev story_at : Begun → ℕ → StoryNote
story_at b e = record { begun = b; ended = Some e }

-- where it was told last at this moment that the ballots came to nothing
abbrev Costs : Begun → ℕ → ℕ → List (BallotTurn × ℕ) → Type 0
Costs b e z xs = (k : ℕ) × (e + k * 3_600_000 ≤ z) × (lines (story_at b e) xs ≤ left b + k)

ends_told : (b : Begun) (e m z : ℕ) (xs : List (BallotTurn × ℕ)) (due : Bool) → due ≡ nat_le (e + 3_600_000) m → m ≤ z → Costs b m z xs → Costs b e z xs → Costs b e z ((Ends, m) ∷ xs)
ends_told b e m z xs true is late told kept =
    let hour : e + 3_600_000 ≤ m = leb-true (e + 3_600_000) m (sym is) in
    (told.0 + 1, omega (arith, told.1, hour), rw (← is) (omega (arith, told.2)))
ends_told b e m z xs false is late told kept = (kept.0, kept.1, rw (← is) (omega (arith, kept.2)))

next : (b : Begun) (e z : ℕ) (t : BallotTurn) (m : ℕ) (xs : List (BallotTurn × ℕ)) → e ≤ z → m ≤ z → ((b : Begun) (e : ℕ) → e ≤ z → Costs b e z xs) → Costs b e z ((t, m) ∷ xs)
next b e z Begins m xs early late rest =
    let more = rest (one_more b) e early in
    (more.0, more.1, taken b _ more.0 more.2)
next b e z Ends m xs early late rest = ends_told b e m z xs (nat_le (e + 3_600_000) m) refl late (rest b m late) (rest b e early)

costs : (b : Begun) (e a z : ℕ) (xs : List (BallotTurn × ℕ)) → e ≤ z → AreWithin a z xs → Costs b e z xs
costs b e a z [] early within = (0, omega (arith, early), omega arith)
costs b e a z (x ∷ xs) early within = next b e z x.0 x.1 xs early within.1 (λ c f before. costs c f a z xs before within.2)

-- where it was not told yet
abbrev First : Begun → ℕ → ℕ → List (BallotTurn × ℕ) → Type 0
First b a z xs = (k : ℕ) × (a + k * 3_600_000 ≤ z) × (lines (record { begun = b; ended = None }) xs ≤ left b + (k + 1))

next_first : (b : Begun) (a z : ℕ) (t : BallotTurn) (m : ℕ) (xs : List (BallotTurn × ℕ)) → a ≤ m → Costs b m z xs → ((b : Begun) → First b a z xs) → First b a z ((t, m) ∷ xs)
next_first b a z Begins m xs early told rest =
    let more = rest (one_more b) in
    (more.0, more.1, taken b _ (more.0 + 1) more.2)
next_first b a z Ends m xs early told rest = (told.0, omega (arith, told.1, early), omega (arith, told.2))

first_costs : (b : Begun) (a z : ℕ) (xs : List (BallotTurn × ℕ)) → a ≤ z → AreWithin a z xs → First b a z xs
first_costs b a z [] early within = (0, omega (arith, early), omega arith)
first_costs b a z (x ∷ xs) early within =
    next_first b a z x.0 x.1 xs within.0 (costs b x.1 a z xs within.1 within.2) (λ c. first_costs c a z xs early within.2)

pub by_the_hour : (befell : List (BallotTurn × ℕ)) (a z : ℕ) → a ≤ z → AreWithin a z befell → (hours : ℕ) × (a + hours * 3_600_000 ≤ z) × (lines first_story befell ≤ hours + 2)
by_the_hour befell a z early within =
    let all = first_costs Never a z befell early within in
    (all.0, all.1, omega (arith, all.2))
