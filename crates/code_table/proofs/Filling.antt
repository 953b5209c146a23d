-- The places of the entries that were read, and one entry more.
use Rattle.std.proofs.Common.{◌≡◌, ℕ, zero, suc, ℤ, pos, negsuc, nat_le, ◌+◌, ◌-◌, ◌<◌, ◌≤◌, ◌==◌, ◌≢◌, Bool, true, false, not, cond, List, [], ◌∷◌, ◌++◌, length, get_or, replicate, slice_get, slice_set, Option, Some, None, is_some, Result, Ok, Err, refl, sym, ap, ◌∙◌, arith, inl, inr, add-zero, zero-add, add-one}
use Rattle.std.specs.Option.{option_flatten}
use Rattle.std.specs.Prelude.{option_map}
use Rattle.std.specs.List.{AllByRecursion}
use Rattle.std.proofs.lemmas.Bool.{cases_lt}
use Rattle.std.proofs.lemmas.Option.{cond_some}
use Rattle.std.proofs.lemmas.Bool.Decides.{nat_tests}
use Rattle.toml.specs.Data.{Data, Items}
use Rattle.toml.specs.View.{view, items_view}
use Rattle.toml.specs.declared.value.Value.{Value}
use Rattle.code_table.specs.Tables.{Places, is_placed, in_column, mean, case_of, AreAlike}
use Rattle.code_table.specs.Texts.{is_same_case, may_stand}
use Rattle.code_table.specs.declared.case.Case.{Case}
use Rattle.code_table.specs.declared.case.Case.TheVariants as cases
use Rattle.code_table.specs.Entries.{Keys, ◌>>=◌, wanted, holds, frame_of, keys_of, free_frame, columns_of, read_entry}
use Rattle.code_table.specs.Reading.{entry_among, is_taken, places_from, places_of, count, item_at, first_entries, read_places}
use Rattle.code_table.specs.declared.entry.FrameMeanings.{FrameMeanings}
use Rattle.code_table.specs.declared.fault.TableFault.{TableFault}
use Rattle.code_table.specs.declared.fault.TableFault.TheVariants.{WrongType, BadFrame, DuplicateFrame}

abbrev pub Entries : Type 0
Entries = List (ℕ × FrameMeanings)

-- a test that found nothing
none_after : {A : Type 0} (test : Bool) (x : A) (rest : Option A) → cond test (Some x) rest ≡ None → (test ≡ false) × (rest ≡ None)
none_after true x rest h = absurd cc
none_after false x rest h = (refl, h)

-- two tests of which one fails may be tried in either order
crossed : {A : Type 0} (a b : Bool) (x y rest : A) → (a ≡ true → b ≡ true → ⊥) → cond a x (cond b y rest) ≡ cond b y (cond a x rest)
crossed true true x y rest h = absurd (h refl refl)
crossed true false x y rest h = refl
crossed false b x y rest h = refl

differ : (a b c : ℕ) → (a == b) ≡ false → (a == c) ≡ true → (b == c) ≡ true → ⊥
differ a b c h e f = grind (arith, nat_tests)

-- an entry more, of a frame that none had
among_more : (entries : Entries) (frame : ℕ) (entry : FrameMeanings) (asked : ℕ) → entry_among entries frame ≡ None → entry_among (entries ++ (frame, entry) ∷ []) asked ≡ cond (frame == asked) (Some entry) (entry_among entries asked)
among_more [] frame entry asked h = refl
among_more (first ∷ rest) frame entry asked h =
    let parts = none_after (first.0 == frame) first.1 (entry_among rest frame) h in
    rw (among_more rest frame entry asked parts.1)
    (crossed (first.0 == asked) (frame == asked) (Some first.1) (Some entry) (entry_among rest asked) (differ first.0 frame asked parts.0))

among_other : (entries : Entries) (frame : ℕ) (entry : FrameMeanings) (asked : ℕ) → entry_among entries frame ≡ None → frame ≢ asked → entry_among (entries ++ (frame, entry) ∷ []) asked ≡ entry_among entries asked
among_other entries frame entry asked h apart =
    let test : (frame == asked) ≡ false = grind (arith, nat_tests) in
    rw test at (among_more entries frame entry asked h)

among_same : (entries : Entries) (frame : ℕ) (entry : FrameMeanings) (asked : ℕ) → entry_among entries frame ≡ None → frame ≡ asked → entry_among (entries ++ (frame, entry) ∷ []) asked ≡ Some entry
among_same entries frame entry asked h same =
    let test : (frame == asked) ≡ true = grind (arith, nat_tests) in
    rw test at (among_more entries frame entry asked h)

get_places : (entries : Entries) (start many at : ℕ) → at < many → slice_get (places_from start many entries) at ≡ Some (entry_among entries (start + at))
get_places entries start zero at lt = absurd (omega arith)
get_places entries start (suc many) zero lt = rw add-zero refl
get_places entries start (suc many) (suc at) lt = get_places entries (suc start) many at (omega arith) ∙ ap (λ f. Some (entry_among entries f)) {x = suc start + at} {y = start + suc at} (omega arith)

-- the places above the frame stay
places_above : (entries : Entries) (frame : ℕ) (entry : FrameMeanings) (start many : ℕ) → entry_among entries frame ≡ None → frame < start → places_from start many (entries ++ (frame, entry) ∷ []) ≡ places_from start many entries
places_above entries frame entry start zero h lt = refl
places_above entries frame entry start (suc many) h lt =
    rw (among_other entries frame entry start h (omega arith), places_above entries frame entry (suc start) many h (omega arith)) refl

-- one place is filled
places_more : (entries : Entries) (frame : ℕ) (entry : FrameMeanings) (start many at : ℕ) → entry_among entries frame ≡ None → frame ≡ start + at → at < many → places_from start many (entries ++ (frame, entry) ∷ []) ≡ slice_set (places_from start many entries) at (Some entry)
places_more entries frame entry start zero at h is lt = absurd (omega arith)
places_more entries frame entry start (suc many) zero h is lt =
    rw (among_same entries frame entry start h (omega arith), places_above entries frame entry (suc start) many h (omega arith)) refl
places_more entries frame entry start (suc many) (suc at) h is lt =
    rw (among_other entries frame entry start h (omega arith), places_more entries frame entry (suc start) many at h (omega arith) (omega arith)) refl

-- the places say of each frame whether an entry has taken it
placed_taken : (entries : Entries) (frame : ℕ) → frame ≤ 63 → is_placed (places_of entries) frame ≡ is_taken entries frame
unfolding places_of
placed_taken entries frame le = ap (λ o. is_some (option_flatten o)) (rw zero-add at (get_places entries 0 64 frame (omega arith)))

-- a frame is 0 to 63
frame_small : (number : ℤ) (frame : ℕ) → frame_of number ≡ Some frame → frame ≤ 63
unfolding frame_of
frame_small (pos n) frame h =
    let parts = cond_some (nat_le n 63) n frame h in
    grind (arith, nat_tests)
frame_small (negsuc n) frame h = absurd cc

-- tests that agree on the frames give one answer
free_frame-same : (t u : ℕ → Bool) → ((frame : ℕ) → frame ≤ 63 → t frame ≡ u frame) → (place : ℕ) (number : ℤ) → free_frame t place number ≡ free_frame u place number
unfolding free_frame
free_frame-same t u agree place number = go (frame_of number) (frame_small number)
  where
    go : (o : Option ℕ) → ((frame : ℕ) → o ≡ Some frame → frame ≤ 63) → (wanted (BadFrame place) o >>= (λ frame. holds (DuplicateFrame place) (not (t frame)) >>= (λ _. Ok frame))) ≡ (wanted (BadFrame place) o >>= (λ frame. holds (DuplicateFrame place) (not (u frame)) >>= (λ _. Ok frame)))
    go None small = refl
    go (Some frame) small = rw (agree frame (small frame refl)) refl

-- what is read of an entry after its keys
abbrev after_keys : (ℕ → Bool) → ℕ → Keys → Result (ℕ × FrameMeanings) TableFault
after_keys is_taken place keys = do
  frame ← free_frame is_taken place keys.frame
  entry ← columns_of place keys.unshift keys.shift
  Ok (frame, entry)

read_entry-same : (t u : ℕ → Bool) → ((frame : ℕ) → frame ≤ 63 → t frame ≡ u frame) → (place : ℕ) (code : Data) → read_entry t place code ≡ read_entry u place code
unfolding read_entry
read_entry-same t u agree place code = go (keys_of code)
  where
    go : (o : Option Keys) → (wanted (WrongType place) o >>= after_keys t place) ≡ (wanted (WrongType place) o >>= after_keys u place)
    go None = refl
    go (Some keys) = rw (free_frame-same t u agree place keys.frame) refl

untaken_none : (entries : Entries) (frame : ℕ) → is_taken entries frame ≡ false → entry_among entries frame ≡ None
untaken_none entries frame h = none_of (entry_among entries frame) h
  where
    none_of : (o : Option FrameMeanings) → is_some o ≡ false → o ≡ None
    none_of None h = refl
    none_of (Some entry) h = absurd cc

-- the columns of each entry may stand together
abbrev AllFit : Entries → Type 0
AllFit = AllByRecursion (λ e. may_stand e.1.unshift e.1.shift ≡ true)

all_fit_more : (entries : Entries) (frame : ℕ) (entry : FrameMeanings) → AllFit entries → may_stand entry.unshift entry.shift ≡ true → AllFit (entries ++ (frame, entry) ∷ [])
all_fit_more [] frame entry fit h = (h, tt)
all_fit_more (first ∷ rest) frame entry fit h = (fit.0, all_fit_more rest frame entry fit.1 h)

same_case : (a b : Option Case) → is_same_case a b ≡ true → b ≡ a
same_case None None h = refl
same_case None (Some cases.Unshift) h = absurd cc
same_case None (Some cases.Shift) h = absurd cc
same_case (Some cases.Unshift) None h = absurd cc
same_case (Some cases.Shift) None h = absurd cc
same_case (Some cases.Unshift) (Some cases.Unshift) h = refl
same_case (Some cases.Unshift) (Some cases.Shift) h = absurd cc
same_case (Some cases.Shift) (Some cases.Unshift) h = absurd cc
same_case (Some cases.Shift) (Some cases.Shift) h = refl

column_alike : (entry : FrameMeanings) (c : Case) → may_stand entry.unshift entry.shift ≡ true → case_of (Some (in_column c entry)) ≡ case_of (Some entry.unshift)
unfolding may_stand
column_alike entry cases.Unshift h = refl
column_alike entry cases.Shift h = same_case (case_of (Some entry.unshift)) (case_of (Some entry.shift)) h

among_alike : (entries : Entries) → AllFit entries → (c : Case) (frame : ℕ) → case_of (option_map (in_column c) (entry_among entries frame)) ≡ case_of (option_map (in_column cases.Unshift) (entry_among entries frame))
among_alike [] fit c frame = refl
among_alike (first ∷ rest) fit c frame =
    elim (first.0 == frame) as (λ b. case_of (option_map (in_column c) (cond b (Some first.1) (entry_among rest frame))) ≡ case_of (option_map (in_column cases.Unshift) (cond b (Some first.1) (entry_among rest frame)))) [
      | true ↦ column_alike first.1 c fit.0
      | false ↦ among_alike rest fit.1 c frame
    ]

none_past : (entries : Entries) (start many at : ℕ) → many ≤ at → slice_get (places_from start many entries) at ≡ None
none_past entries start zero at le = refl
none_past entries start (suc many) zero le = absurd (omega (arith, le))
none_past entries start (suc many) (suc at) le = none_past entries (suc start) many at (omega (arith, le))

-- a case code means the same in both columns of the places of entries that fit
places_alike : (entries : Entries) → AllFit entries → AreAlike (places_of entries)
unfolding places_of mean
places_alike entries fit c frame =
    elim (cases_lt frame 64) [
      | inl less ↦ rw (get_places entries 0 64 frame less, zero-add) (among_alike entries fit c frame)
      | inr more ↦ rw (none_past entries 0 64 frame more) refl
    ]

counted : (codes : List Value) → count (items_view codes) ≡ length codes
counted [] = refl
counted (code ∷ rest) = ap suc (counted rest)

-- the item at a place is the value there
item_is : (codes : List Value) (place : ℕ) (d : Value) → place < length codes → item_at (items_view codes) place ≡ view (get_or codes place d)
item_is [] place d within = absurd (omega arith)
item_is (code ∷ rest) zero d within = refl
item_is (code ∷ rest) (suc place) d within = item_is rest place d (omega arith)

-- a fault of the first items is the fault of more
fault_stays : (codes : Items) (more n : ℕ) (e : TableFault) → first_entries codes n ≡ Err e → first_entries codes (more + n) ≡ Err e
fault_stays codes zero n e h = rw zero-add h
fault_stays codes (suc more) n e h =
    let next : suc more + n ≡ suc (more + n) = omega arith in
    rw (next, fault_stays codes more n e h) refl

fault_of_all : (codes : Items) (n : ℕ) (e : TableFault) → n ≤ count codes → first_entries codes n ≡ Err e → read_places codes ≡ Err e
unfolding read_places
fault_of_all codes n e le h =
    let all : (count codes - n) + n ≡ count codes = omega arith in
    rw (rw all at (fault_stays codes (count codes - n) n e h)) refl

-- how far the entries were read: those of the first items, which are placed
pub record ReadSoFar (codes : List Value) (places : Places) (index : ℕ) : Type 0 where
  pub done : Entries
  pub read : first_entries (items_view codes) index ≡ Ok done
  pub bound : index ≤ length codes
  pub filled : places ≡ places_of done
  pub fit : AllFit done

pub starts : (codes : List Value) → ReadSoFar codes (replicate 64 None) 0
unfolding places_of
starts codes = record { done = []; read = refl; bound = omega arith; filled = refl; fit = tt }

-- what is read next
module _ (codes : List Value) (places : Places) (index : ℕ) (so_far : ReadSoFar codes places index) (d : Value) (within : index < length codes) where
  next : first_entries (items_view codes) (index + 1) ≡ (read_entry (is_placed places) (index + 1) (view (get_or codes index d)) >>= (λ entry. Ok (so_far.done ++ entry ∷ [])))
  next = rw (add-one, so_far.read, item_is codes index d within, so_far.filled, read_entry-same (is_taken so_far.done) (is_placed (places_of so_far.done)) (λ frame le. sym (placed_taken so_far.done frame le)) (suc index) (view (get_or codes index d))) refl

  pub stops : (e : TableFault) → read_entry (is_placed places) (index + 1) (view (get_or codes index d)) ≡ Err e → read_places (items_view codes) ≡ Err e
  stops e h = fault_of_all (items_view codes) (index + 1) e (omega (arith, counted codes)) (rw h at next)

  pub goes_on : (frame : ℕ) (entry : FrameMeanings) → read_entry (is_placed places) (index + 1) (view (get_or codes index d)) ≡ Ok (frame, entry) → frame ≤ 63 → is_placed places frame ≡ false → may_stand entry.unshift entry.shift ≡ true → ReadSoFar codes (slice_set places frame (Some entry)) (index + 1)
  unfolding places_of
  goes_on frame entry h small free fit =
      let untaken : is_taken so_far.done frame ≡ false = sym (placed_taken so_far.done frame small) ∙ rw so_far.filled at free in
      record {
        done = so_far.done ++ (frame, entry) ∷ [];
        read = rw h at next;
        bound = omega arith;
        filled = rw so_far.filled (sym (places_more so_far.done frame entry 0 64 frame (untaken_none so_far.done frame untaken) (omega arith) (omega arith)));
        fit = all_fit_more so_far.done frame entry so_far.fit fit;
      }

pub ends : (codes : List Value) (places : Places) (index : ℕ) → ReadSoFar codes places index → length codes ≤ index → read_places (items_view codes) ≡ Ok places
unfolding read_places
ends codes places index so_far past =
    let all : count (items_view codes) ≡ index = omega (arith, counted codes, so_far.bound) in
    rw (all, so_far.read, so_far.filled) refl

length_places : (entries : Entries) (start many : ℕ) → length (places_from start many entries) ≡ many
length_places entries start zero = refl
length_places entries start (suc many) = ap suc (length_places entries (suc start) many)

pub full : (codes : List Value) (places : Places) (index : ℕ) → ReadSoFar codes places index → length places ≡ 64
unfolding places_of
full codes places index so_far = rw so_far.filled (length_places so_far.done 0 64)

pub alike : (codes : List Value) (places : Places) (index : ℕ) → ReadSoFar codes places index → AreAlike places
alike codes places index so_far = rw so_far.filled (places_alike so_far.done so_far.fit)
