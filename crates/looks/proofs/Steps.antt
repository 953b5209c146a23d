-- The steps of a look at the files whose names ask for nothing.
use Rattle.std.proofs.Common.{◌≡◌, ◌≤◌, ◌+◌, ◌-◌, ◌++◌, ℕ, List, [], ◌∷◌, map, drop, take, length, true, false, cond, None, Some, Option, Result, String, sym, ap, subst, ◌∙◌, refl, append_assoc, length-append, arith, string_bytes}
use Rattle.std.specs.declared.cmp.Ordering.TheVariants.{Less, Equal, Greater}
use Rattle.std.specs.Cmp.Lexicographic.{slice_cmp}
use Rattle.std.specs.Ordering.{is_eq, nat_cmp}
use Rattle.std.specs.Str.{bytes_eq}
use Rattle.std.specs.String.{string_cmp}
use Rattle.std.specs.Global.{Global}
use Rattle.std.proofs.Math.Nat.{add-sub_cancel}
use Rattle.std.proofs.lemmas.List.{drop_at, length-drop, take-append-drop, take_all}
use Rattle.std.specs.List.{AllByRecursion}
use Rattle.std.specs.Result.{is_ok, IsOk}
use Rattle.std.specs.List.Sorted.{IsStrictlySortedBy}
use Rattle.std.specs.Map.{keys_of}
use Rattle.folders.specs.declared.stamp.Stamp.{Stamp}
use Rattle.looks.specs.declared.sighting.Sighting.{Sighting}
use Rattle.looks.specs.declared.sighting.Stray.{Stray}
use Rattle.looks.specs.Merging.{fewer, MergingValue}
use Rattle.looks.specs.Names.{is_before}
use Rattle.std.proofs.lemmas.Map.Text.{is_eq-slice_cmp}
use Rattle.looks.specs.Strays.{AreInOrder, first_known, first_stands, from, known_of, known_where, left_where, looked, past, seen, starts_before}
use Rattle.looks.proofs.Texts.{before_from, apart, apart_back, before_more, behind, own_apart}

-- what stands before a name is none of those that are no such name: of the files from there on the same is known
known_from :
    (low q : List ℕ) (ss : List Stray) → ((x : List ℕ) → slice_cmp nat_cmp x low ≡ Less → bytes_eq x q ≡ false)
    → known_of (from low ss) q ≡ known_of ss q
known_from low q [] h = refl
known_from low q (s ∷ ss) h =
    elim (is_before (string_bytes s.name) low) as (λ b. b ≡ is_before (string_bytes s.name) low → known_of (cond b (from low ss) (s ∷ ss)) q ≡ known_of (s ∷ ss) q) [
      | true ↦ λ e. rw (h (string_bytes s.name) (before_from (string_bytes s.name) low (sym e))) (known_from low q ss h)
      | false ↦ λ e. refl
    ] refl

-- of the name itself, and of those behind it
pub known_from_own : (low : List ℕ) (ss : List Stray) → known_of (from low ss) low ≡ known_of ss low
known_from_own low ss = known_from low low ss (λ x h. apart x low h)

pub known_from_later : (low q : List ℕ) (ss : List Stray) → slice_cmp nat_cmp low q ≡ Less → known_of (from low ss) q ≡ known_of ss q
known_from_later low q ss later = known_from low q ss (λ x h. apart x q (before_more x low q h later))

-- behind a name that stands behind this one this one is not
none_behind :
    (low x : List ℕ) (ss : List Stray) → slice_cmp nat_cmp low x ≡ Less
    → AllByRecursion (λ (y : String Global). slice_cmp nat_cmp x (string_bytes y) ≡ Less) (map (λ (s : Stray). s.name) ss)
    → known_of ss low ≡ None
none_behind low x [] e h = refl
none_behind low x (s ∷ ss) e h = rw (apart_back low (string_bytes s.name) (before_more low x (string_bytes s.name) e h.0)) (none_behind low x ss e h.1)

-- what is known of a name is known of the first, where that does not stand before it
first_is_known : (low : List ℕ) (ss : List Stray) → AreInOrder ss → starts_before low ss ≡ false → first_known low ss ≡ known_of ss low
unfolding IsStrictlySortedBy
first_is_known low [] r e = refl
first_is_known low (s ∷ ss) r e =
    elim (bytes_eq (string_bytes s.name) low) as (λ b. b ≡ bytes_eq (string_bytes s.name) low → cond b (Some s.sighting) None ≡ cond b (Some s.sighting) (known_of ss low)) [
      | true ↦ λ f. refl
      | false ↦ λ f. sym (none_behind low (string_bytes s.name) ss (behind (string_bytes s.name) low e (sym f)) r.0)
    ] refl

-- those from a name on do not start before it, and are in order
from_stops : (low : List ℕ) (ss : List Stray) → starts_before low (from low ss) ≡ false
from_stops low [] = refl
from_stops low (s ∷ ss) =
    elim (is_before (string_bytes s.name) low) as (λ b. b ≡ is_before (string_bytes s.name) low → starts_before low (cond b (from low ss) (s ∷ ss)) ≡ false) [
      | true ↦ λ e. from_stops low ss
      | false ↦ λ e. sym e
    ] refl

pub from_in_order : (low : List ℕ) (ss : List Stray) → AreInOrder ss → AreInOrder (from low ss)
unfolding IsStrictlySortedBy
from_in_order low [] r = r
from_in_order low (s ∷ ss) r =
    elim (is_before (string_bytes s.name) low) as (λ b. AreInOrder (cond b (from low ss) (s ∷ ss))) [
      | true ↦ from_in_order low ss r.1
      | false ↦ r
    ]

-- what is known of a name is met first
pub met : (name : List ℕ) (rest : List Stray) → AreInOrder rest → first_known name (from name rest) ≡ known_of rest name
met name rest r = first_is_known name (from name rest) (from_in_order name rest r) (from_stops name rest) ∙ known_from_own name rest

-- of what is still to come the same is known
pub still_known :
    (known rest : List Stray) (name : String Global) (es : List (String Global × Stamp))
    → AllByRecursion (λ (y : String Global). string_cmp name y ≡ Less) (keys_of es)
    → AllByRecursion (λ (e : String Global × Stamp). known_of rest (string_bytes e.0) ≡ known_of known (string_bytes e.0)) es
    → AllByRecursion (λ (e : String Global × Stamp). known_of (from (string_bytes name) rest) (string_bytes e.0) ≡ known_of known (string_bytes e.0)) es
still_known known rest name [] l h = h
still_known known rest name (e ∷ es) l h = (known_from_later (string_bytes name) (string_bytes e.0) rest l.0 ∙ h.0, still_known known rest name es l.1 h.1)

-- at the start
pub all_known :
    (known : List Stray) (es : List (String Global × Stamp))
    → AllByRecursion (λ (e : String Global × Stamp). known_of known (string_bytes e.0) ≡ known_of known (string_bytes e.0)) es
all_known known [] = tt
all_known known (e ∷ es) = (refl, all_known known es)

-- the names are those that were found
names_looked : (known : List Stray) (now : ℕ) (es : List (String Global × Stamp)) → map (λ (s : Stray). s.name) (looked known now es) ≡ keys_of es
names_looked known now [] = refl
names_looked known now (e ∷ es) = ap (λ names. e.0 ∷ names) (names_looked known now es)

pub looked_in_order :
    (known : List Stray) (now : ℕ) (es : List (String Global × Stamp)) → IsStrictlySortedBy string_cmp (keys_of es) → AreInOrder (looked known now es)
looked_in_order known now es r = rw (names_looked known now es) r

-- the front and the rest of what is found in order
pub first_sorted :
    (e : String Global × Stamp) (es : List (String Global × Stamp)) → IsStrictlySortedBy string_cmp (keys_of (e ∷ es))
    → AllByRecursion (λ (y : String Global). string_cmp e.0 y ≡ Less) (keys_of es)
unfolding IsStrictlySortedBy
first_sorted e es r = r.0

pub rest_sorted :
    (e : String Global × Stamp) (es : List (String Global × Stamp)) → IsStrictlySortedBy string_cmp (keys_of (e ∷ es)) → IsStrictlySortedBy string_cmp (keys_of es)
unfolding IsStrictlySortedBy
rest_sorted e es r = r.1

-- none are in order
pub empty_in_order : AreInOrder []
unfolding IsStrictlySortedBy
empty_in_order = tt

-- what is known where the first of the files stands so to a name, and which files are left then
pub known_met : (name : List ℕ) (ss : List Stray) → known_where (first_stands name ss) ss ≡ first_known name ss
known_met name [] = refl
known_met name (s ∷ ss) =
    elim (slice_cmp nat_cmp (string_bytes s.name) name) as (λ o. o ≡ slice_cmp nat_cmp (string_bytes s.name) name → known_where o (s ∷ ss) ≡ first_known name (s ∷ ss)) [
      | Less ↦ λ e. rw (sym (is_eq-slice_cmp (string_bytes s.name) name) ∙ ap is_eq (sym e)) refl
      | Equal ↦ λ e. rw (sym (is_eq-slice_cmp (string_bytes s.name) name) ∙ ap is_eq (sym e)) refl
      | Greater ↦ λ e. rw (sym (is_eq-slice_cmp (string_bytes s.name) name) ∙ ap is_eq (sym e)) refl
    ] refl

pub left_met : (name : List ℕ) (ss : List Stray) → left_where (first_stands name ss) ss ≡ past name ss
left_met name [] = refl
left_met name (s ∷ ss) =
    elim (slice_cmp nat_cmp (string_bytes s.name) name) as (λ o. o ≡ slice_cmp nat_cmp (string_bytes s.name) name → left_where o (s ∷ ss) ≡ past name (s ∷ ss)) [
      | Less ↦ λ e. rw (sym (is_eq-slice_cmp (string_bytes s.name) name) ∙ ap is_eq (sym e)) refl
      | Equal ↦ λ e. rw (sym (is_eq-slice_cmp (string_bytes s.name) name) ∙ ap is_eq (sym e)) refl
      | Greater ↦ λ e. rw (sym (is_eq-slice_cmp (string_bytes s.name) name) ∙ ap is_eq (sym e)) refl
    ] refl

-- those behind a name are in order
pub past_in_order : (name : List ℕ) (ss : List Stray) → AreInOrder ss → AreInOrder (past name ss)
unfolding IsStrictlySortedBy
past_in_order name [] r = r
past_in_order name (s ∷ ss) r = elim (bytes_eq (string_bytes s.name) name) as (λ b. AreInOrder (cond b ss (s ∷ ss))) [
  | true ↦ r.1
  | false ↦ r
]

-- of a name that stands behind this one the same is known without it
known_past : (name q : List ℕ) (ss : List Stray) → slice_cmp nat_cmp name q ≡ Less → known_of (past name ss) q ≡ known_of ss q
known_past name q [] later = refl
known_past name q (s ∷ ss) later =
    elim (bytes_eq (string_bytes s.name) name) as (λ b. b ≡ bytes_eq (string_bytes s.name) name → known_of (cond b ss (s ∷ ss)) q ≡ known_of (s ∷ ss) q) [
      | true ↦ λ e. rw (own_apart (string_bytes s.name) name q (sym e) later) refl
      | false ↦ λ e. refl
    ] refl

-- of what is still to come the same is known without what was met
pub still_past :
    (known rest : List Stray) (name : String Global) (es : List (String Global × Stamp))
    → AllByRecursion (λ (y : String Global). string_cmp name y ≡ Less) (keys_of es)
    → AllByRecursion (λ (e : String Global × Stamp). known_of rest (string_bytes e.0) ≡ known_of known (string_bytes e.0)) es
    → AllByRecursion (λ (e : String Global × Stamp). known_of (past (string_bytes name) rest) (string_bytes e.0) ≡ known_of known (string_bytes e.0)) es
still_past known rest name [] l h = h
still_past known rest name (e ∷ es) l h = (known_past (string_bytes name) (string_bytes e.0) rest l.0 ∙ h.0, still_past known rest name es l.1 h.1)

-- these are the last of the files
abbrev pub Ends : List Stray → List Stray → Type 0
Ends rest ss = (gone : List Stray) × (gone ++ rest ≡ ss)

from_ends : (name : List ℕ) (ss : List Stray) → Ends (from name ss) ss
from_ends name [] = ([], refl)
from_ends name (s ∷ ss) = elim (is_before (string_bytes s.name) name) as (λ b. Ends (cond b (from name ss) (s ∷ ss)) (s ∷ ss)) [
  | true ↦ let e = from_ends name ss in (s ∷ e.0, ap (λ xs. s ∷ xs) e.1)
  | false ↦ ([], refl)
]

past_ends : (name : List ℕ) (ss : List Stray) → Ends (past name ss) ss
past_ends name [] = ([], refl)
past_ends name (s ∷ ss) = elim (bytes_eq (string_bytes s.name) name) as (λ b. Ends (cond b ss (s ∷ ss)) (s ∷ ss)) [
  | true ↦ (s ∷ [], refl)
  | false ↦ ([], refl)
]

then_ends : (a b c : List Stray) → Ends a b → Ends b c → Ends a c
then_ends a b c p q = (q.0 ++ p.0, append_assoc q.0 p.0 a ∙ ap (λ xs. q.0 ++ xs) p.1 ∙ q.1)

-- those behind a name, of those from a place on
pub left_ends : (name : List ℕ) (place : ℕ) (ss : List Stray) → Ends (past name (from name (drop place ss))) ss
left_ends name place ss =
    let low = from name (drop place ss) in
    then_ends (past name low) low ss (past_ends name low) (then_ends low (drop place ss) ss (from_ends name (drop place ss)) (take place ss, take-append-drop place ss))

-- as many are gone as the lengths tell
pub gone_by : (rest ss : List Stray) → Ends rest ss → drop (length ss - length rest) ss ≡ rest
gone_by rest ss e =
    subst (λ xs. drop (length xs - length rest) xs ≡ rest) e.1
    (drop_at e.0 rest (length (e.0 ++ rest) - length rest) (sym (rw (length-append e.0 rest) (add-sub_cancel (length e.0) (length rest)))))

pub no_longer : (rest ss : List Stray) → Ends rest ss → length rest ≤ length ss
no_longer rest ss e = subst (λ xs. length rest ≤ length xs) e.1 (omega (arith, length-append e.0 rest))

-- the files from a place on, as a slice has them
sliced : (place : ℕ) (ss : List Stray) → take (length ss - place) (drop place ss) ≡ drop place ss
sliced place ss = take_all (length ss - place) (drop place ss) (omega (arith, length-drop place ss))

-- what is left behind a name, and what is known of it, of the files from a place on
pub left_behind :
    (known whole rest : List Stray) (place : ℕ) (name text : List ℕ) → text ≡ name → whole ≡ known
    → rest ≡ past text (from text (take (length whole - place) (drop place whole))) → rest ≡ past name (from name (drop place known))
left_behind known whole rest place name text is same left = left ∙ rw (is, same) (ap (λ ss. past name (from name ss)) (sliced place known))

pub known_there :
    (known whole : List Stray) (found : Option Sighting) (place : ℕ) (name text : List ℕ) → text ≡ name → whole ≡ known → AreInOrder (drop place known)
    → found ≡ first_known text (from text (take (length whole - place) (drop place whole))) → found ≡ known_of (drop place known) name
known_there known whole found place name text is same order first =
    first ∙ rw (is, same) (ap (λ ss. first_known name (from name ss)) (sliced place known)) ∙ met name (drop place known) order

-- a push where there is room
pub pushed : {E : Type 0} (r : Result Unit E) (old new : List Stray) (s : Stray) → IsOk r → new ≡ cond (is_ok r) (old ++ (s ∷ [])) old → new ≡ old ++ (s ∷ [])
pushed r old new s ok is = is ∙ ap (λ b. cond b (old ++ (s ∷ [])) old) ok

pub longer : {E : Type 0} (r : Result Unit E) (old new : ℕ) → IsOk r → new ≡ cond (is_ok r) (old + 1) old → new ≡ old + 1
longer r old new ok is = is ∙ ap (λ b. cond b (old + 1) old) ok

-- the next of what is left is put behind what is done
pub one_fewer :
    (known before files : List Stray) (moment : ℕ) (e : String Global × Stamp) (later : List (String Global × Stamp)) → files ≡ before ++ (seen known moment e ∷ [])
    → (record { known = known; moment = moment; files = files ++ looked known moment later; left = length later })
    ≡ fewer 1 (record { known = known; moment = moment; files = before ++ looked known moment (e ∷ later); left = length (e ∷ later) })
one_fewer known before files moment e later filled =
    let make : List Stray → ℕ → MergingValue = λ fs n. record { known = known; moment = moment; files = fs; left = n } in
    let all : files ++ looked known moment later ≡ before ++ looked known moment (e ∷ later) =
    ap (λ fs. fs ++ looked known moment later) filled ∙ append_assoc before (seen known moment e ∷ []) (looked known moment later) in
    let few : length later ≡ length (e ∷ later) - 1 = omega arith in
    ap (λ fs. make fs (length later)) all ∙ ap (make (before ++ looked known moment (e ∷ later))) few
