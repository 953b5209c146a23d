-- The files that are under way, beside the numbers that are.
use Rattle.std.proofs.Common.{◌≡◌, ◌≢◌, ℕ, suc, ◌+◌, ◌≤◌, ◌==◌, ◌⊎◌, inl, inr, ◌++◌, List, [], ◌∷◌, map, true, false, Bool, ◌||◌, Option, Some, None, length, cond, nat_le, nat_lt, subst, refl, sym, ap, ◌∙◌, arith}
use Rattle.std.specs.List.{position_or_len, list_any}
use Rattle.std.specs.Set.{remove_key}
use Rattle.std.proofs.lemmas.Bool.Decides.{nat_tests}
use Rattle.std.proofs.lemmas.Map.Made.{length-remove_key}
use Rattle.std.proofs.lemmas.List.Folds.{list_any-append}
use Rattle.std.proofs.lemmas.List.Sums.{sum_by-cons}
use Rattle.pace.specs.UnderWay.{without, without_at}
use Rattle.folders.specs.declared.names.OfferKind.{OfferKind}
use Rattle.folders.specs.declared.names.OfferKind.TheVariants.{Tape, Text, Withdraw, Seek}
use Rattle.folders.specs.declared.names.FileRequest.{FileRequest}
use Rattle.folders.specs.declared.wishes.Wish.{Wish}
use Rattle.folders.specs.declared.wishes.Wish.TheVariants.{Offered, Sought}
use Rattle.offers.specs.declared.offer.FoundOffer.{FoundOffer}
use Rattle.offers.specs.declared.offer.Offer.{Offer}
use Rattle.offers.specs.declared.stage.Landing.{Landing}
use Rattle.offers.specs.declared.stage.Landing.TheVariants.{Ended, Nothing, Busy, Barred, Released}
use Rattle.offers.specs.declared.stage.FileNews.{FileNews}
use Rattle.offers.specs.declared.stage.FileNews.TheVariants as news
use Rattle.offers.specs.declared.stage.Stage.{Stage}
use Rattle.offers.specs.declared.stage.Tries.{Tries}
use Rattle.offers.specs.declared.stage.Stage.TheVariants.{Watched, Waiting, UnderWay, Refused, Answered, Gone}
use Rattle.offers.specs.Looks.{is_same_stamp, stage_after, seen, looked}
use Rattle.offers.specs.Order.{rank, kind_rank, file_at, RisesFrom, rising_from}
use Rattle.offers.specs.Rules.{is_under_way}
use Rattle.offers.specs.Stages.{after, anew, found_nothing, landed, changed, all_changed, tape_of, text_of, withdrawal_of, search_of}
use Rattle.offers.specs.UnderWay.{flies, file_flies, is_asked, asked_count, AreHeld, AreAlone, begins}
use Rattle.offers.proofs.Editing.{two_ways}
use Rattle.offers.proofs.Merging.{absent}

-- ---- the numbers, one less

one_behind : (x : ℕ) (w : List ℕ) (k l : ℕ) → without_at (cond (nat_lt (1 + k) (suc l)) (Some (1 + k)) None) (x ∷ w) ≡ x ∷ without_at (cond (nat_lt k l) (Some k) None) w
one_behind x w k l = let next : 1 + k ≡ suc k = omega arith in rw next (elim (two_ways (nat_lt k l)) [
  | inl within ↦ let more : nat_lt (suc k) (suc l) ≡ true = grind (arith, nat_tests) in rw (more, within) refl
  | inr past ↦ let more : nat_lt (suc k) (suc l) ≡ false = grind (arith, nat_tests) in rw (more, past) refl
])

-- without a number is without the first that is it
without_is : (n : ℕ) (w : List ℕ) → without n w ≡ remove_key (λ m. m == n) w
without_is n [] = refl
without_is n (x ∷ w) = elim (two_ways (x == n)) [
  | inl here ↦ let first : nat_lt 0 (suc (length w)) ≡ true = grind (arith, nat_tests) in rw (here, first) refl
  | inr apart ↦ rw (apart, one_behind x w (position_or_len (λ m. m == n) w) (length w)) (ap (λ v. x ∷ v) (without_is n w))
]

stays_in : (m n : ℕ) (w : List ℕ) → m ≢ n → list_any (λ x. x == m) (remove_key (λ x. x == n) w) ≡ list_any (λ x. x == m) w
stays_in m n [] apart = refl
stays_in m n (x ∷ w) apart = elim (two_ways (x == n)) [
  | inl here ↦ let other : (x == m) ≡ false = grind (arith, nat_tests) in rw (here, other) refl
  | inr behind ↦ rw behind (ap (λ b. (x == m) || b) (stays_in m n w apart))
]

-- a number is under way without another as it was with it
pub other_stays : (m n : ℕ) (w : List ℕ) → m ≢ n → is_under_way m (without n w) ≡ is_under_way m w
other_stays m n w apart = rw (without_is n w) (stays_in m n w apart)

-- one less is one fewer
pub one_fewer : (n : ℕ) (w : List ℕ) → is_under_way n w ≡ true → length (without n w) + 1 ≡ length w
one_fewer n w there = rw (without_is n w) (length-remove_key (λ m. m == n) w there)

or_none : (b : Bool) → (b || false) ≡ b
or_none true = refl
or_none false = refl

or_true : (b : Bool) → (b || true) ≡ true
or_true true = refl
or_true false = refl

-- and one more
pub other_joins : (m n : ℕ) (w : List ℕ) → m ≢ n → is_under_way m (w ++ n ∷ []) ≡ is_under_way m w
other_joins m n w apart = let other : (n == m) ≡ false = grind (arith, nat_tests) in list_any-append (λ x. x == m) w (n ∷ []) ∙ rw other (or_none (is_under_way m w))

-- ---- what asks for a file, by its place

same_kind : (i j : OfferKind) → kind_rank i ≡ kind_rank j → i ≡ j
same_kind Tape Tape e = refl
same_kind Tape Text e = cc
same_kind Tape Withdraw e = cc
same_kind Tape Seek e = cc
same_kind Text Tape e = cc
same_kind Text Text e = refl
same_kind Text Withdraw e = cc
same_kind Text Seek e = cc
same_kind Withdraw Tape e = cc
same_kind Withdraw Text e = cc
same_kind Withdraw Withdraw e = refl
same_kind Withdraw Seek e = cc
same_kind Seek Tape e = cc
same_kind Seek Text e = cc
same_kind Seek Withdraw e = cc
same_kind Seek Seek e = refl

few_kinds : (k : OfferKind) → kind_rank k ≤ 3
few_kinds Tape = omega arith
few_kinds Text = omega arith
few_kinds Withdraw = omega arith
few_kinds Seek = omega arith

-- of one place there is one that asks for it
pub same_number : (r s : FileRequest) → rank r ≡ rank s → r.number ≡ s.number
same_number r s e = omega (arith, few_kinds r.kind, few_kinds s.kind)

abbrev of_kind : ℕ → OfferKind → FileRequest
of_kind n k = record { number = n; kind = k }

by_parts : (a b : ℕ) (i j : OfferKind) → a ≡ b → i ≡ j → of_kind a i ≡ of_kind b j
by_parts a b i j n k = rw (n, k) refl

same_request : (r s : FileRequest) → r.number ≡ s.number → r.kind ≡ s.kind → r ≡ s
same_request r s n k = by_parts r.number s.number r.kind s.kind n k

pub same_place : (r s : FileRequest) → rank r ≡ rank s → r ≡ s
same_place r s e =
    let number = same_number r s e in
    let kinds : kind_rank r.kind ≡ kind_rank s.kind = omega arith in
    same_request r s number (same_kind r.kind s.kind kinds)

-- ---- a file that is under way, and news of it

-- a file at another place stays as it was
pub same_elsewhere : (k l : ℕ) (g : Stage → Stage) (os : List Offer) → l ≢ k → file_at (changed k g os) l ≡ file_at os l
same_elsewhere k l g [] apart = refl
same_elsewhere k l g (o ∷ os) apart = elim (two_ways (rank o.request == k)) [
  | inl here ↦
      let other : (rank o.request == l) ≡ false = grind (arith, nat_tests) in
      rw (here, other) (same_elsewhere k l g os apart)
  | inr behind ↦ rw behind (ap (λ rest. cond (rank o.request == l) (Some o) rest) (same_elsewhere k l g os apart))
]

flying_same : (l : ℕ) (o : Offer) (new os : List Offer) → file_flies (cond (rank o.request == l) (Some o) (file_at new l)) ≡ true → (file_flies (file_at new l) ≡ true → file_flies (file_at os l) ≡ true) → file_flies (cond (rank o.request == l) (Some o) (file_at os l)) ≡ true
flying_same l o new os h rest = elim (two_ways (rank o.request == l)) [
  | inl here ↦ rw here (rw here at h)
  | inr behind ↦ rw behind (rest (rw behind at h))
]

flying_there : (l : ℕ) (g : Stage → Stage) (o : Offer) (new os : List Offer) → ((s : Stage) → flies (g s) ≡ true → flies s ≡ true) → file_flies (cond (rank o.request == l) (Some (record o { stage = g o.stage })) (file_at new l)) ≡ true → (file_flies (file_at new l) ≡ true → file_flies (file_at os l) ≡ true) → file_flies (cond (rank o.request == l) (Some o) (file_at os l)) ≡ true
flying_there l g o new os lands h rest = elim (two_ways (rank o.request == l)) [
  | inl here ↦ rw here (lands o.stage (rw here at h))
  | inr behind ↦ rw behind (rest (rw behind at h))
]

-- news that puts none under way puts none under way, wherever it is
pub was_flying : (k l : ℕ) (g : Stage → Stage) (os : List Offer) → ((s : Stage) → flies (g s) ≡ true → flies s ≡ true) → file_flies (file_at (changed k g os) l) ≡ true → file_flies (file_at os l) ≡ true
was_flying k l g [] lands h = h
was_flying k l g (o ∷ os) lands h = elim (two_ways (rank o.request == k)) [
  | inl here ↦ flying_there l g o (changed k g os) os lands (rw here at h) (was_flying k l g os lands)
  | inr behind ↦ flying_same l o (changed k g os) os (rw behind at h) (was_flying k l g os lands)
]

-- news after which none is under way
pub none_flying : (k : ℕ) (g : Stage → Stage) (os : List Offer) → ((s : Stage) → flies (g s) ≡ false) → file_flies (file_at (changed k g os) k) ≡ false
none_flying k g [] ends = refl
none_flying k g (o ∷ os) ends = elim (two_ways (rank o.request == k)) [
  | inl here ↦ rw (here, here) (ends o.stage)
  | inr behind ↦ rw (behind, behind) (none_flying k g os ends)
]

found_none : (wish : Wish) (tries : Tries) (now : ℕ) → flies (found_nothing wish tries now) ≡ false
found_none (Offered entry) tries now = refl
found_none Sought tries now = elim (two_ways (nat_le 9 tries.nothings)) [
  | inl often ↦ rw often refl
  | inr seldom ↦ rw seldom refl
]

-- once it is known what became of a number none of its files is under way
pub has_landed : (landing : Landing) (now : ℕ) (s : Stage) → flies (landed landing now s) ≡ false
has_landed Ended now (Watched at replaced) = refl
has_landed Ended now (Waiting own at tries) = refl
has_landed Ended now (UnderWay own tries) = refl
has_landed Ended now (Refused reason at pause) = refl
has_landed Ended now (Answered at pause) = refl
has_landed Ended now Gone = refl
has_landed Nothing now (Watched at replaced) = refl
has_landed Nothing now (Waiting own at tries) = refl
has_landed Nothing now (UnderWay own tries) = found_none own tries now
has_landed Nothing now (Refused reason at pause) = refl
has_landed Nothing now (Answered at pause) = refl
has_landed Nothing now Gone = refl
has_landed Busy now (Watched at replaced) = refl
has_landed Busy now (Waiting own at tries) = refl
has_landed Busy now (UnderWay own tries) = refl
has_landed Busy now (Refused reason at pause) = refl
has_landed Busy now (Answered at pause) = refl
has_landed Busy now Gone = refl
has_landed (Barred why) now (Watched at replaced) = refl
has_landed (Barred why) now (Waiting own at tries) = refl
has_landed (Barred why) now (UnderWay own tries) = refl
has_landed (Barred why) now (Refused reason at pause) = refl
has_landed (Barred why) now (Answered at pause) = refl
has_landed (Barred why) now Gone = refl
has_landed Released now (Watched at replaced) = refl
has_landed Released now (Waiting own at tries) = refl
has_landed Released now (UnderWay own tries) = refl
has_landed Released now (Refused reason at pause) = refl
has_landed Released now (Answered at pause) = refl
has_landed Released now Gone = refl

-- such news puts none under way
pub never_begins : (n : FileNews) (now : ℕ) (s : Stage) → begins n ≡ false → flies (after n now s) ≡ true → flies s ≡ true
never_begins (news.Read wish) now (Watched at replaced) b h = cc
never_begins (news.Read wish) now (Waiting own at tries) b h = cc
never_begins (news.Read wish) now (UnderWay own tries) b h = refl
never_begins (news.Read wish) now (Refused reason at pause) b h = cc
never_begins (news.Read wish) now (Answered at pause) b h = cc
never_begins (news.Read wish) now Gone b h = cc
never_begins (news.NoOffer why) now (Watched at replaced) b h = cc
never_begins (news.NoOffer why) now (Waiting own at tries) b h = cc
never_begins (news.NoOffer why) now (UnderWay own tries) b h = refl
never_begins (news.NoOffer why) now (Refused reason at pause) b h = cc
never_begins (news.NoOffer why) now (Answered at pause) b h = cc
never_begins (news.NoOffer why) now Gone b h = cc
never_begins news.Asked now s b h = cc
never_begins news.PutOff now (Watched at replaced) b h = cc
never_begins news.PutOff now (Waiting own at tries) b h = cc
never_begins news.PutOff now (UnderWay own tries) b h = refl
never_begins news.PutOff now (Refused reason at pause) b h = cc
never_begins news.PutOff now (Answered at pause) b h = cc
never_begins news.PutOff now Gone b h = cc
never_begins news.Moved now s b h = cc
never_begins (news.Landed landing) now s b h = let none = has_landed landing now s in cc

-- ---- what holds of the files and the numbers, after each

-- where no more files are under way, the same holds
pub held_still : (w : List ℕ) (new old : List Offer) → ((r : FileRequest) → is_asked new r ≡ true → is_asked old r ≡ true) → AreHeld w old → AreHeld w new
held_still w new old fewer held = λ r h. held r (fewer r h)

pub alone_still : (new old : List Offer) → ((r : FileRequest) → is_asked new r ≡ true → is_asked old r ≡ true) → AreAlone old → AreAlone new
alone_still new old fewer alone = λ r s h k e. alone r s (fewer r h) (fewer s k) e

-- news that puts none under way
pub told_fewer : (k : ℕ) (n : FileNews) (now : ℕ) (os : List Offer) → begins n ≡ false → (r : FileRequest) → is_asked (changed k (after n now) os) r ≡ true → is_asked os r ≡ true
told_fewer k n now os b r h = was_flying k (rank r) (after n now) os (λ s g. never_begins n now s b g) h

-- what became of a number
lands : (landing : Landing) (now : ℕ) (s : Stage) → flies (after (news.Landed landing) now s) ≡ true → flies s ≡ true
lands landing now s h = never_begins (news.Landed landing) now s refl h

pub landed_fewer : (n : ℕ) (landing : Landing) (now : ℕ) (os : List Offer) (r : FileRequest) → is_asked (all_changed n (after (news.Landed landing) now) os) r ≡ true → is_asked os r ≡ true
landed_fewer n landing now os r h =
    let g = after (news.Landed landing) now in
    let one = changed (rank (tape_of n)) g os in
    let two = changed (rank (text_of n)) g one in
    let three = changed (rank (withdrawal_of n)) g two in
    let in_three : is_asked three r ≡ true = was_flying (rank (search_of n)) (rank r) g three (lands landing now) h in
    let in_two : is_asked two r ≡ true = was_flying (rank (withdrawal_of n)) (rank r) g two (lands landing now) in_three in
    let in_one : is_asked one r ≡ true = was_flying (rank (text_of n)) (rank r) g one (lands landing now) in_two in
    was_flying (rank (tape_of n)) (rank r) g os (lands landing now) in_one

none_landed : (n : ℕ) (kind : OfferKind) (landing : Landing) (now : ℕ) (os : List Offer) → is_asked (all_changed n (after (news.Landed landing) now) os) (record { number = n; kind = kind }) ≡ true → ⊥
none_landed n Tape landing now os h =
    let g = after (news.Landed landing) now in
    let one = changed (rank (tape_of n)) g os in
    let two = changed (rank (text_of n)) g one in
    let three = changed (rank (withdrawal_of n)) g two in
    let in_three : is_asked three (tape_of n) ≡ true = was_flying (rank (search_of n)) (rank (tape_of n)) g three (lands landing now) h in
    let in_two : is_asked two (tape_of n) ≡ true = was_flying (rank (withdrawal_of n)) (rank (tape_of n)) g two (lands landing now) in_three in
    let in_one : is_asked one (tape_of n) ≡ true = was_flying (rank (text_of n)) (rank (tape_of n)) g one (lands landing now) in_two in
    let none : is_asked one (tape_of n) ≡ false = none_flying (rank (tape_of n)) g os (has_landed landing now) in
    cc
none_landed n Text landing now os h =
    let g = after (news.Landed landing) now in
    let one = changed (rank (tape_of n)) g os in
    let two = changed (rank (text_of n)) g one in
    let three = changed (rank (withdrawal_of n)) g two in
    let in_three : is_asked three (text_of n) ≡ true = was_flying (rank (search_of n)) (rank (text_of n)) g three (lands landing now) h in
    let in_two : is_asked two (text_of n) ≡ true = was_flying (rank (withdrawal_of n)) (rank (text_of n)) g two (lands landing now) in_three in
    let none : is_asked two (text_of n) ≡ false = none_flying (rank (text_of n)) g one (has_landed landing now) in
    cc
none_landed n Withdraw landing now os h =
    let g = after (news.Landed landing) now in
    let one = changed (rank (tape_of n)) g os in
    let two = changed (rank (text_of n)) g one in
    let three = changed (rank (withdrawal_of n)) g two in
    let in_three : is_asked three (withdrawal_of n) ≡ true = was_flying (rank (search_of n)) (rank (withdrawal_of n)) g three (lands landing now) h in
    let none : is_asked three (withdrawal_of n) ≡ false = none_flying (rank (withdrawal_of n)) g two (has_landed landing now) in
    cc
none_landed n Seek landing now os h =
    let g = after (news.Landed landing) now in
    let one = changed (rank (tape_of n)) g os in
    let two = changed (rank (text_of n)) g one in
    let three = changed (rank (withdrawal_of n)) g two in
    let none : is_asked (changed (rank (search_of n)) g three) (search_of n) ≡ false = none_flying (rank (search_of n)) g three (has_landed landing now) in
    cc

-- none of its files is under way then
landed_apart : (n : ℕ) (landing : Landing) (now : ℕ) (os : List Offer) (r : FileRequest) → is_asked (all_changed n (after (news.Landed landing) now) os) r ≡ true → r.number ≢ n
landed_apart n landing now os r h = λ e.
    let same : r ≡ of_kind n r.kind = same_request r (of_kind n r.kind) e refl in
    none_landed n r.kind landing now os (subst (λ (x : FileRequest). is_asked (all_changed n (after (news.Landed landing) now) os) x ≡ true) same h)

pub held_landed : (w : List ℕ) (n : ℕ) (landing : Landing) (now : ℕ) (os : List Offer) → AreHeld w os → AreHeld (without n w) (all_changed n (after (news.Landed landing) now) os)
held_landed w n landing now os held = λ r h. other_stays r.number n w (landed_apart n landing now os r h) ∙ held r (landed_fewer n landing now os r h)

-- ---- one more is asked for

-- where a file is under way behind an ask, it was before, or it is the one that was asked for
pub asked_or : (q r : FileRequest) (os : List Offer) → is_asked (changed (rank q) (after news.Asked 0) os) r ≡ true → (is_asked os r ≡ true) ⊎ (r ≡ q)
asked_or q r os h = elim (two_ways (rank r == rank q)) [
  | inl here ↦ inr (same_place r q (grind (arith, nat_tests)))
  | inr behind ↦ inl (let same = same_elsewhere (rank q) (rank r) (after news.Asked 0) os (grind (arith, nat_tests)) in rw same at h)
]

joins : (n : ℕ) (w : List ℕ) → is_under_way n (w ++ n ∷ []) ≡ true
joins n w = let here : (n == n) ≡ true = grind (arith, nat_tests) in list_any-append (λ x. x == n) w (n ∷ []) ∙ rw here (or_true (is_under_way n w))

stays_with : (m n : ℕ) (w : List ℕ) → is_under_way m w ≡ true → is_under_way m (w ++ n ∷ []) ≡ true
stays_with m n w h = list_any-append (λ x. x == m) w (n ∷ []) ∙ rw h refl

pub held_asked : (w : List ℕ) (q : FileRequest) (os : List Offer) → AreHeld w os → AreHeld (w ++ q.number ∷ []) (changed (rank q) (after news.Asked 0) os)
held_asked w q os held = λ r h. elim (asked_or q r os h) [
  | inl before ↦ stays_with r.number q.number w (held r before)
  | inr same ↦ rw same (joins q.number w)
]

pub alone_asked : (w : List ℕ) (q : FileRequest) (os : List Offer) → AreHeld w os → AreAlone os → is_under_way q.number w ≡ false → AreAlone (changed (rank q) (after news.Asked 0) os)
alone_asked w q os held alone none = λ r s h k e. elim (asked_or q r os h) [
  | inl r_before ↦ elim (asked_or q s os k) [
    | inl s_before ↦ alone r s r_before s_before e
    | inr s_new ↦ let there : is_under_way q.number w ≡ true = rw (sym (ap (λ (x : FileRequest). x.number) s_new), sym e) (held r r_before) in cc
  ]
  | inr r_new ↦ elim (asked_or q s os k) [
    | inl s_before ↦ let there : is_under_way q.number w ≡ true = rw (sym (ap (λ (x : FileRequest). x.number) r_new), e) (held s s_before) in cc
    | inr s_new ↦ r_new ∙ sym s_new
  ]
]

-- ---- a look

none_anew : (now : ℕ) (s : Stage) → flies (anew now s) ≡ true → flies s ≡ true
none_anew now (Watched at replaced) h = cc
none_anew now (Waiting own at tries) h = cc
none_anew now (UnderWay own tries) h = refl
none_anew now (Refused reason at pause) h = cc
none_anew now (Answered at pause) h = cc
none_anew now Gone h = cc

-- a file that is under way after a look was so before it
kept_flying : (known : Option Offer) (now : ℕ) (f : FoundOffer) → flies (stage_after known now f) ≡ true → file_flies known ≡ true
kept_flying None now f h = cc
kept_flying (Some o) now f h = elim (two_ways (is_same_stamp o.stamp f.stamp)) [
  | inl same ↦ rw same at h
  | inr other ↦ none_anew now o.stage (rw other at h)
]

at_one : (old : List Offer) (now l : ℕ) (f : FoundOffer) (rest : List Offer) → file_flies (cond (rank f.request == l) (Some (seen old now f)) (file_at rest l)) ≡ true → (file_flies (file_at rest l) ≡ true → file_flies (file_at old l) ≡ true) → file_flies (file_at old l) ≡ true
at_one old now l f rest h behind = elim (two_ways (rank f.request == l)) [
  | inl here ↦
      let place : rank f.request ≡ l = grind (arith, nat_tests) in
      rw (sym place) (kept_flying (file_at old (rank f.request)) now f (rw here at h))
  | inr apart ↦ behind (rw apart at h)
]

go_looked : (old : List Offer) (now low l : ℕ) (found : List FoundOffer) → file_flies (file_at (map (seen old now) (rising_from low found)) l) ≡ true → file_flies (file_at old l) ≡ true
go_looked old now low l [] h = cc
go_looked old now low l (f ∷ fs) h = elim (two_ways (nat_lt (rank f.request) low)) [
  | inl below ↦ go_looked old now low l fs (rw below at h)
  | inr from ↦ at_one old now l f (map (seen old now) (rising_from (suc (rank f.request)) fs)) (rw from at h) (go_looked old now (suc (rank f.request)) l fs)
]

pub looked_fewer : (old : List Offer) (now : ℕ) (found : List FoundOffer) (r : FileRequest) → is_asked (looked old now found) r ≡ true → is_asked old r ≡ true
looked_fewer old now found r h = go_looked old now 0 (rank r) found h

-- ---- how many files are under way

-- those behind the first
first_apart : (o : Offer) (os : List Offer) (r : FileRequest) → RisesFrom (suc (rank o.request)) os → is_asked os r ≡ true → rank o.request ≢ rank r
first_apart o os r rises h = λ e.
    let none : file_at os (rank r) ≡ None = absent (rank r) (suc (rank o.request)) os (omega arith) rises in
    let flies_not : is_asked os r ≡ false = rw none refl in
    cc

behind_first : (o : Offer) (os : List Offer) (r : FileRequest) → RisesFrom (suc (rank o.request)) os → is_asked os r ≡ true → is_asked (o ∷ os) r ≡ true
behind_first o os r rises h =
    let apart = first_apart o os r rises h in
    let other : (rank o.request == rank r) ≡ false = grind (arith, nat_tests) in
    rw other h

abbrev counted : Offer → ℕ
counted o = cond (flies o.stage) 1 0

pub few_asked : (low : ℕ) (os : List Offer) (w : List ℕ) → RisesFrom low os → AreHeld w os → AreAlone os → asked_count os ≤ length w
few_asked low [] w rises held alone = omega arith
few_asked low (o ∷ os) w rises held alone =
    let behind = λ (r : FileRequest) (h : is_asked os r ≡ true). behind_first o os r rises.1 h in
    let rest_alone : AreAlone os = λ r s h k e. alone r s (behind r h) (behind s k) e in
    elim (two_ways (flies o.stage)) [
      | inl flying ↦
          let here : (rank o.request == rank o.request) ≡ true = grind (arith, nat_tests) in
          let first : is_asked (o ∷ os) o.request ≡ true = rw here flying in
          let fewer = one_fewer o.request.number w (held o.request first) in
          let rest_held : AreHeld (without o.request.number w) os = λ r h.
          let apart : r.number ≢ o.request.number = λ e. first_apart o os r rises.1 h (ap rank (alone o.request r first (behind r h) (sym e))) in
          other_stays r.number o.request.number w apart ∙ held r (behind r h) in
          let rest = few_asked (suc (rank o.request)) os (without o.request.number w) rises.1 rest_held rest_alone in
          let all : asked_count (o ∷ os) ≡ 1 + asked_count os = sum_by-cons counted o os ∙ rw flying refl in
          omega (arith, all)
      | inr still ↦
          let rest_held : AreHeld w os = λ r h. held r (behind r h) in
          let rest = few_asked (suc (rank o.request)) os w rises.1 rest_held rest_alone in
          let all : asked_count (o ∷ os) ≡ 0 + asked_count os = sum_by-cons counted o os ∙ rw still refl in
          omega (arith, all)
    ]
