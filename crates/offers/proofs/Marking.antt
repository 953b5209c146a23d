-- Files that are marked, and what becomes of the marks as they change.
use Rattle.std.proofs.Common.{◌≡◌, ◌≢◌, ℕ, ◌+◌, ◌<◌, ◌≤◌, ◌==◌, inl, inr, List, Option, Some, None, IsSome, Bool, true, false, length, get_or, set, cond, refl, sym, ap, ◌∙◌, arith, [], ◌∷◌, suc, nat_lt}
use Rattle.std.proofs.lemmas.Bool.{cases_lt}
use Rattle.std.proofs.lemmas.Bool.Decides.{nat_tests}
use Rattle.std.proofs.lemmas.List.{get_or-map, get_or-set_same, get_or-set_other, get_or_default, length-set, length-map}
use Rattle.folders.specs.declared.names.OfferKind.{OfferKind}
use Rattle.folders.specs.declared.names.OfferKind.TheVariants.{Tape, Text, Withdraw, Seek}
use Rattle.folders.specs.declared.names.FileRequest.{FileRequest}
use Rattle.offers.specs.declared.marks.Marks.{Marks}
use Rattle.offers.specs.declared.offer.Offer.{Offer}
use Rattle.offers.specs.declared.stage.Stage.{Stage}
use Rattle.offers.specs.Left.{NoMoves}
use Rattle.offers.specs.Marks.{flag, move_mark, other_mark, ask_mark, AreMarks, IsMarked, HasRoom, RemarksPlace, RemarksNumber}
use Rattle.offers.specs.Moments.{moment_at, NoneIn, NoneFrom}
use Rattle.pace.specs.UnderWay.{with_one, without}
use Rattle.tape_frames.specs.declared.entry.Entry.{Entry}
use Rattle.offers.specs.declared.offer.FoundOffer.{FoundOffer}
use Rattle.offers.specs.declared.stage.FileNews.TheVariants as news
use Rattle.offers.specs.Looks.{seen, looked}
use Rattle.offers.specs.Order.{rank, file_at, rising_from, Rises, IsPlaceOf}
use Rattle.offers.specs.Rules.{Standing, entry_in, is_under_way, is_leaving_of}
use Rattle.offers.specs.Stages.{after, change_at, changed, all_changed, tape_of, text_of, withdrawal_of, search_of}
use Rattle.offers.proofs.Airborne.{same_number, other_stays, other_joins}
use Rattle.offers.proofs.Asking.{standing_at}
use Rattle.offers.proofs.Editing.{two_ways, stays, only_one, file_is}

-- ---- what the marks say of the files

pub inside : (f : Offer → Option ℕ) (files : List Offer) (marks : List (Option ℕ)) (i m : ℕ) → AreMarks f files marks → moment_at marks i ≡ Some m → i < length files
inside f files marks i m are is = elim (cases_lt i (length files)) [
  | inl within ↦ within
  | inr behind ↦ let none = are.past i behind in cc
]

none_is : IsSome {T = ℕ} None → ⊥
none_is h = cc

some_is : (x : Option ℕ) → IsSome x → (m : ℕ) × (x ≡ Some m)
some_is None h = absurd (none_is h)
some_is (Some m) h = (m, refl)

pub inside_some : (f : Offer → Option ℕ) (files : List Offer) (marks : List (Option ℕ)) (i : ℕ) → AreMarks f files marks → IsSome (moment_at marks i) → i < length files
inside_some f files marks i are is = let some = some_is (moment_at marks i) is in inside f files marks i some.0 are some.1

flag_none : (b : Bool) → flag b ≡ None → b ≡ false
flag_none true e = cc
flag_none false e = refl

flag_some : (b : Bool) → b ≡ false → IsSome (flag b) → ⊥
flag_some true e h = cc
flag_some false e h = none_is h

pub none_move : (b : Standing) (m : Marks) (low high : ℕ) → IsMarked b m → high ≤ length b.files → NoneIn m.moves low high → NoMoves b low high
none_move b m low high marked le none = λ i d from lt. flag_none _ (sym (marked.moves.is i d (omega arith)) ∙ none i from lt)

-- none leaves before the first that is marked
pub move_before : (b : Standing) (m : Marks) (low i : ℕ) → IsMarked b m → IsSome (moment_at m.moves i) → NoneIn m.moves low i → NoMoves b low i
move_before b m low i marked some none = let within = inside_some _ b.files m.moves i marked.moves some in none_move b m low i marked (omega arith) none

-- one that is marked leaves
pub is_move : (b : Standing) (m : Marks) (i : ℕ) → IsMarked b m → IsSome (moment_at m.moves i) → NoMoves b i (i + 1) → ⊥
is_move b m i marked some none =
    let within = inside_some _ b.files m.moves i marked.moves some in
    let file = standing_at b.files i within in
    flag_some (is_leaving_of b (get_or b.files i file.0)) (none i file.0 (omega arith) (omega arith)) (rw (marked.moves.is i file.0 within) at some)

pub has_room : (b : Standing) (files : List Offer) (m : Marks) → IsMarked b m → length files ≡ length b.files → HasRoom files m
has_room b files m marked e = record {
  moves = rw e marked.moves.room;
  others = rw e marked.others.room;
  sought = rw e marked.sought.room;
  entries = rw e marked.entries.room;
  searches = rw e marked.searches.room;
}

-- ---- the files of a number are marked anew

-- a file of another number stands at none of its places
apart_place : (r s : FileRequest) → r.number ≢ s.number → rank r ≢ rank s
apart_place r s apart = λ e. apart (same_number r s e)

last_place : (n : ℕ) (k : OfferKind) (r : FileRequest) → rank r ≡ rank (record { number = n; kind = k }) → rank r ≢ rank (search_of n) → rank r ≢ rank (withdrawal_of n) → rank r ≢ rank (text_of n) → rank r ≡ rank (tape_of n)
last_place n Tape r is a b c = is
last_place n Text r is a b c = absurd (c is)
last_place n Withdraw r is a b c = absurd (b is)
last_place n Seek r is a b c = absurd (a is)

its_place : (r : FileRequest) (n : ℕ) → r.number ≡ n → rank r ≡ rank (record { number = n; kind = r.kind })
its_place r n e = rw e refl

-- the file of a place is the one at its index
pub set_place : (f : Offer → Option ℕ) (files : List Offer) (place index : ℕ) (old : List (Option ℕ)) (m : Option ℕ) (o : Offer) → Rises files → IsPlaceOf files place index → length files ≤ length old → o ≡ get_or files index o → m ≡ f o → RemarksPlace f files place old (set old index m)
set_place f files place index old m o rises there room at is = record {
  here = λ i d within placed.
      let same : i ≡ index = only_one files i index d rises within there.within (placed ∙ sym (there.is d)) in
      rw (same, get_or-set_same old index m None (omega (arith, there.within))) (is ∙ ap f (at ∙ get_or_default files index o d there.within));
  there = λ i d within apart.
      let other : i ≢ index = λ e. apart (rw e (there.is d)) in
      get_or-set_other old index i m None other;
  past = λ i behind. let other : i ≢ index = omega (arith, there.within) in get_or-set_other old index i m None other;
  room = length-set old index m;
}

-- where there is none nothing is marked
pub no_place : (f : Offer → Option ℕ) (files : List Offer) (place : ℕ) (old : List (Option ℕ)) → Rises files → file_at files place ≡ None → RemarksPlace f files place old old
no_place f files place old rises none = record {
  here = λ i d within placed. let found = file_is 0 files i d place rises within placed in cc;
  there = λ i d within apart. refl;
  past = λ i behind. refl;
  room = refl;
}

pub of_places : (f : Offer → Option ℕ) (files : List Offer) (n : ℕ) (a b c d e : List (Option ℕ)) → RemarksPlace f files (rank (tape_of n)) a b → RemarksPlace f files (rank (text_of n)) b c → RemarksPlace f files (rank (withdrawal_of n)) c d → RemarksPlace f files (rank (search_of n)) d e → RemarksNumber f files n a e
of_places f files n a b c d e one two three four = record {
  here = λ i o within is.
      let r = (get_or files i o).request in
      elim (two_ways (rank r == rank (search_of n))) [
        | inl search ↦ four.here i o within (grind (arith, nat_tests))
        | inr no_search ↦
            let apart4 : rank r ≢ rank (search_of n) = grind (arith, nat_tests) in
            let third : moment_at d i ≡ f (get_or files i o) = elim (two_ways (rank r == rank (withdrawal_of n))) [
              | inl withdrawal ↦ three.here i o within (grind (arith, nat_tests))
              | inr no_withdrawal ↦
                  let apart3 : rank r ≢ rank (withdrawal_of n) = grind (arith, nat_tests) in
                  let second : moment_at c i ≡ f (get_or files i o) = elim (two_ways (rank r == rank (text_of n))) [
                    | inl text ↦ two.here i o within (grind (arith, nat_tests))
                    | inr no_text ↦
                        let apart2 : rank r ≢ rank (text_of n) = grind (arith, nat_tests) in
                        two.there i o within apart2 ∙ one.here i o within (last_place n r.kind r (its_place r n is) apart4 apart3 apart2)
                  ] in
                  three.there i o within apart3 ∙ second
            ] in
            four.there i o within apart4 ∙ third
      ];
  there = λ i o within apart.
      let r = (get_or files i o).request in
      four.there i o within (apart_place r (search_of n) apart) ∙ three.there i o within (apart_place r (withdrawal_of n) apart) ∙ two.there i o within (apart_place r (text_of n) apart) ∙ one.there i o within (apart_place r (tape_of n) apart);
  past = λ i behind. four.past i behind ∙ three.past i behind ∙ two.past i behind ∙ one.past i behind;
  room = four.room ∙ three.room ∙ two.room ∙ one.room;
}

pub settle : (f g : Offer → Option ℕ) (n : ℕ) (files new_files : List Offer) (old new : List (Option ℕ)) → AreMarks f files old → length new_files ≡ length files → ((i : ℕ) (d : Offer) → i < length files → (get_or new_files i d).request.number ≢ n → g (get_or new_files i d) ≡ f (get_or files i d)) → RemarksNumber g new_files n old new → AreMarks g new_files new
settle f g n files new_files old new are many frame anew = record {
  is = λ i d within. elim (two_ways ((get_or new_files i d).request.number == n)) [
    | inl here ↦ anew.here i d within (grind (arith, nat_tests))
    | inr behind ↦
        let apart : (get_or new_files i d).request.number ≢ n = grind (arith, nat_tests) in
        let there : i < length files = omega arith in
        anew.there i d within apart ∙ are.is i d there ∙ sym (frame i d there apart)
  ];
  past = λ i behind. anew.past i behind ∙ are.past i (omega arith);
  room = omega (arith, are.room, anew.room);
}

-- the book changed of one number alone
pub record IsApart (n : ℕ) (b new : Standing) : Type 0 where
  pub entries : (m : ℕ) → m ≢ n → entry_in new.released m ≡ entry_in b.released m
  pub numbers : (m : ℕ) → m ≢ n → is_under_way m new.window ≡ is_under_way m b.window
  pub files : (i : ℕ) (d : Offer) → i < length b.files → (get_or new.files i d).request.number ≢ n → get_or new.files i d ≡ get_or b.files i d
  pub many : length new.files ≡ length b.files
  pub looked : new.looked ≡ b.looked
  pub still : new.still ≡ b.still

moves_apart : (n : ℕ) (b new : Standing) → IsApart n b new → (i : ℕ) (d : Offer) → i < length b.files → (get_or new.files i d).request.number ≢ n → move_mark new.released new.still new.looked (get_or new.files i d) ≡ move_mark b.released b.still b.looked (get_or b.files i d)
moves_apart n b new a i d within apart =
    let same = a.files i d within apart in
    let other : (get_or b.files i d).request.number ≢ n = rw same at apart in
    rw (same, a.looked, a.still, a.entries (get_or b.files i d).request.number other) refl

others_apart : (s : Bool) (n : ℕ) (b new : Standing) → IsApart n b new → (i : ℕ) (d : Offer) → i < length b.files → (get_or new.files i d).request.number ≢ n → other_mark s new.window new.still new.looked (get_or new.files i d) ≡ other_mark s b.window b.still b.looked (get_or b.files i d)
others_apart s n b new a i d within apart =
    let same = a.files i d within apart in
    let other : (get_or b.files i d).request.number ≢ n = rw same at apart in
    rw (same, a.looked, a.still, a.numbers (get_or b.files i d).request.number other) refl

asks_apart : (s : Bool) (n : ℕ) (b new : Standing) → IsApart n b new → (i : ℕ) (d : Offer) → i < length b.files → (get_or new.files i d).request.number ≢ n → ask_mark s new.released new.window new.still new.looked (get_or new.files i d) ≡ ask_mark s b.released b.window b.still b.looked (get_or b.files i d)
asks_apart s n b new a i d within apart =
    let same = a.files i d within apart in
    let other : (get_or b.files i d).request.number ≢ n = rw same at apart in
    rw (same, a.looked, a.still, a.entries (get_or b.files i d).request.number other, a.numbers (get_or b.files i d).request.number other) refl

-- then the marks are right where those of its files were made anew
pub remarked : (n : ℕ) (b new : Standing) (m marks : Marks) → IsMarked b m → IsApart n b new → RemarksNumber (move_mark new.released new.still new.looked) new.files n m.moves marks.moves → RemarksNumber (other_mark false new.window new.still new.looked) new.files n m.others marks.others → RemarksNumber (other_mark true new.window new.still new.looked) new.files n m.sought marks.sought → RemarksNumber (ask_mark false new.released new.window new.still new.looked) new.files n m.entries marks.entries → RemarksNumber (ask_mark true new.released new.window new.still new.looked) new.files n m.searches marks.searches → IsMarked new marks
remarked n b new m marks marked a moves others sought entries searches = record {
  moves = settle _ _ n b.files new.files m.moves marks.moves marked.moves a.many (moves_apart n b new a) moves;
  others = settle _ _ n b.files new.files m.others marks.others marked.others a.many (others_apart false n b new a) others;
  sought = settle _ _ n b.files new.files m.sought marks.sought marked.sought a.many (others_apart true n b new a) sought;
  entries = settle _ _ n b.files new.files m.entries marks.entries marked.entries a.many (asks_apart false n b new a) entries;
  searches = settle _ _ n b.files new.files m.searches marks.searches marked.searches a.many (asks_apart true n b new a) searches;
}

-- ---- which files change

pub many_changed : (k : ℕ) (g : Stage → Stage) (os : List Offer) → length (changed k g os) ≡ length os
many_changed k g os = length-map os (change_at k g)

go_apart : (r : FileRequest) (g : Stage → Stage) (o : Offer) → (change_at (rank r) g o).request.number ≢ r.number → change_at (rank r) g o ≡ o
go_apart r g o apart = elim (two_ways (rank o.request == rank r)) [
  | inl here ↦
      let same : rank o.request ≡ rank r = grind (arith, nat_tests) in
      let other : o.request.number ≢ r.number = rw here at apart in
      absurd (other (same_number o.request r same))
  | inr behind ↦ stays (rank r) g o behind
]

pub changed_apart : (r : FileRequest) (g : Stage → Stage) (os : List Offer) (i : ℕ) (d : Offer) → i < length os → (get_or (changed (rank r) g os) i d).request.number ≢ r.number → get_or (changed (rank r) g os) i d ≡ get_or os i d
changed_apart r g os i d within apart =
    let at = get_or-map (change_at (rank r) g) os i d d within in
    at ∙ go_apart r g (get_or os i d) (rw at at apart)

pub many_all : (n : ℕ) (g : Stage → Stage) (os : List Offer) → length (all_changed n g os) ≡ length os
many_all n g os =
    let one = changed (rank (tape_of n)) g os in
    let two = changed (rank (text_of n)) g one in
    let three = changed (rank (withdrawal_of n)) g two in
    many_changed (rank (search_of n)) g three ∙ many_changed (rank (withdrawal_of n)) g two ∙ many_changed (rank (text_of n)) g one ∙ many_changed (rank (tape_of n)) g os

pub all_apart : (n : ℕ) (g : Stage → Stage) (os : List Offer) (i : ℕ) (d : Offer) → i < length os → (get_or (all_changed n g os) i d).request.number ≢ n → get_or (all_changed n g os) i d ≡ get_or os i d
all_apart n g os i d within apart =
    let one = changed (rank (tape_of n)) g os in
    let two = changed (rank (text_of n)) g one in
    let three = changed (rank (withdrawal_of n)) g two in
    let many_one = many_changed (rank (tape_of n)) g os in
    let many_two = many_changed (rank (text_of n)) g one in
    let many_three = many_changed (rank (withdrawal_of n)) g two in
    let fourth = changed_apart (search_of n) g three i d (omega arith) apart in
    let apart_three : (get_or three i d).request.number ≢ n = rw fourth at apart in
    let third = changed_apart (withdrawal_of n) g two i d (omega arith) apart_three in
    let apart_two : (get_or two i d).request.number ≢ n = rw third at apart_three in
    let second = changed_apart (text_of n) g one i d (omega arith) apart_two in
    let apart_one : (get_or one i d).request.number ≢ n = rw second at apart_two in
    fourth ∙ third ∙ second ∙ changed_apart (tape_of n) g os i d within apart_one

-- ---- what each change leaves

-- a file was told news
pub told_marked : (b : Standing) (r : FileRequest) (g : Stage → Stage) (m marks : Marks) → IsMarked b m → RemarksNumber (move_mark b.released b.still b.looked) (changed (rank r) g b.files) r.number m.moves marks.moves → RemarksNumber (other_mark false b.window b.still b.looked) (changed (rank r) g b.files) r.number m.others marks.others → RemarksNumber (other_mark true b.window b.still b.looked) (changed (rank r) g b.files) r.number m.sought marks.sought → RemarksNumber (ask_mark false b.released b.window b.still b.looked) (changed (rank r) g b.files) r.number m.entries marks.entries → RemarksNumber (ask_mark true b.released b.window b.still b.looked) (changed (rank r) g b.files) r.number m.searches marks.searches → IsMarked (record b { files = changed (rank r) g b.files }) marks
told_marked b r g m marks marked moves others sought entries searches =
    let apart : IsApart r.number b (record b { files = changed (rank r) g b.files }) = record {
      entries = λ x e. refl;
      numbers = λ x e. refl;
      files = changed_apart r g b.files;
      many = many_changed (rank r) g b.files;
      looked = refl;
      still = refl;
    } in
    remarked r.number b (record b { files = changed (rank r) g b.files }) m marks marked apart moves others sought entries searches

-- a number is no longer under way, and may have been released
abbrev pub landed_files : (b : Standing) (n : ℕ) (g : Stage → Stage) (released : List (ℕ × Entry)) → Standing
landed_files b n g released = record b { files = all_changed n g b.files; window = without n b.window; released = released }

pub landed_marked : (b : Standing) (n : ℕ) (g : Stage → Stage) (released : List (ℕ × Entry)) (m marks : Marks) → IsMarked b m → ((x : ℕ) → x ≢ n → entry_in released x ≡ entry_in b.released x) → RemarksNumber (move_mark released b.still b.looked) (all_changed n g b.files) n m.moves marks.moves → RemarksNumber (other_mark false (without n b.window) b.still b.looked) (all_changed n g b.files) n m.others marks.others → RemarksNumber (other_mark true (without n b.window) b.still b.looked) (all_changed n g b.files) n m.sought marks.sought → RemarksNumber (ask_mark false released (without n b.window) b.still b.looked) (all_changed n g b.files) n m.entries marks.entries → RemarksNumber (ask_mark true released (without n b.window) b.still b.looked) (all_changed n g b.files) n m.searches marks.searches → IsMarked (landed_files b n g released) marks
landed_marked b n g released m marks marked same moves others sought entries searches =
    let apart : IsApart n b (landed_files b n g released) = record {
      entries = same;
      numbers = λ x e. other_stays x n b.window e;
      files = all_apart n g b.files;
      many = many_all n g b.files;
      looked = refl;
      still = refl;
    } in
    remarked n b (landed_files b n g released) m marks marked apart moves others sought entries searches

-- a file is asked for, where there is room
abbrev pub asked_files : Standing → FileRequest → Bool → Standing
asked_files b q found = record b { files = cond found (changed (rank q) (after news.Asked 0) b.files) b.files; window = with_one found q.number b.window }

asked_apart : (b : Standing) (q : FileRequest) (found : Bool) → IsApart q.number b (asked_files b q found)
asked_apart b q true = record {
  entries = λ x e. refl;
  numbers = λ x e. other_joins x q.number b.window e;
  files = changed_apart q (after news.Asked 0) b.files;
  many = many_changed (rank q) (after news.Asked 0) b.files;
  looked = refl;
  still = refl;
}
asked_apart b q false = record {
  entries = λ x e. refl;
  numbers = λ x e. refl;
  files = λ i d within e. refl;
  many = refl;
  looked = refl;
  still = refl;
}

pub many_asked : (q : FileRequest) (found : Bool) (os : List Offer) → length (cond found (changed (rank q) (after news.Asked 0) os) os) ≡ length os
many_asked q true os = many_changed (rank q) (after news.Asked 0) os
many_asked q false os = refl

pub asked_marked : (b : Standing) (q : FileRequest) (found : Bool) (m marks : Marks) → IsMarked b m → RemarksNumber (move_mark b.released b.still b.looked) (asked_files b q found).files q.number m.moves marks.moves → RemarksNumber (other_mark false (asked_files b q found).window b.still b.looked) (asked_files b q found).files q.number m.others marks.others → RemarksNumber (other_mark true (asked_files b q found).window b.still b.looked) (asked_files b q found).files q.number m.sought marks.sought → RemarksNumber (ask_mark false b.released (asked_files b q found).window b.still b.looked) (asked_files b q found).files q.number m.entries marks.entries → RemarksNumber (ask_mark true b.released (asked_files b q found).window b.still b.looked) (asked_files b q found).files q.number m.searches marks.searches → IsMarked (asked_files b q found) marks
asked_marked b q found m marks marked moves others sought entries searches = remarked q.number b (asked_files b q found) m marks marked (asked_apart b q found) moves others sought entries searches

-- a look finds no more than was found
few_rising : (low : ℕ) (found : List FoundOffer) → length (rising_from low found) ≤ length found
few_rising low [] = omega arith
few_rising low (f ∷ fs) = elim (two_ways (nat_lt (rank f.request) low)) [
  | inl below ↦ rw below (let rest = few_rising low fs in omega arith)
  | inr from ↦ rw from (let rest = few_rising (suc (rank f.request)) fs in omega arith)
]

pub few_looked : (old : List Offer) (now : ℕ) (found : List FoundOffer) → length (looked old now found) ≤ length found
few_looked old now found = rw (length-map (rising_from 0 found) (seen old now)) (few_rising 0 found)

pub room_for : (files : List Offer) (m : Marks) (n : ℕ) → length files ≤ n → length m.moves ≡ n → length m.others ≡ n → length m.sought ≡ n → length m.entries ≡ n → length m.searches ≡ n → HasRoom files m
room_for files m n le a b c d e = record { moves = omega arith; others = omega arith; sought = omega arith; entries = omega arith; searches = omega arith }

-- ---- all are marked, one after the other

pub record AreMarksUpTo (f : Offer → Option ℕ) (files : List Offer) (k : ℕ) (marks : List (Option ℕ)) : Type 0 where
  pub is : (i : ℕ) (d : Offer) → i < k → moment_at marks i ≡ f (get_or files i d)
  pub rest : NoneFrom marks k
  pub room : length files ≤ length marks

pub none_yet : (f : Offer → Option ℕ) (files : List Offer) (marks : List (Option ℕ)) → ((i : ℕ) → moment_at marks i ≡ None) → length files ≤ length marks → AreMarksUpTo f files 0 marks
none_yet f files marks none room = record { is = λ i d lt. absurd (omega arith); rest = λ i from. none i; room = room }

pub one_marked : (f : Offer → Option ℕ) (files : List Offer) (k : ℕ) (marks : List (Option ℕ)) (m : Option ℕ) (o : Offer) → AreMarksUpTo f files k marks → k < length files → o ≡ get_or files k o → m ≡ f o → AreMarksUpTo f files (k + 1) (set marks k m)
one_marked f files k marks m o are within at is = record {
  is = λ i d lt. elim (cases_lt i k) [
    | inl below ↦ get_or-set_other marks k i m None (omega arith) ∙ are.is i d below
    | inr behind ↦
        let same : i ≡ k = omega arith in
        rw (same, get_or-set_same marks k m None (omega (arith, are.room))) (is ∙ ap f (at ∙ get_or_default files k o d within))
  ];
  rest = λ i from. get_or-set_other marks k i m None (omega arith) ∙ are.rest i (omega arith);
  room = rw (length-set marks k m) are.room;
}

pub all_marked : (f : Offer → Option ℕ) (files : List Offer) (marks : List (Option ℕ)) → AreMarksUpTo f files (length files) marks → AreMarks f files marks
all_marked f files marks are = record { is = are.is; past = are.rest; room = are.room }
