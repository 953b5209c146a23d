-- What news of files, and a look at them, leave of what is known: nothing but what was read.
use Rattle.std.proofs.Common.{◌≡◌, ◌==◌, ◌∙◌, ◌⊎◌, inl, inr, ℕ, ◌+◌, ◌*◌, List, [], ◌∷◌, Option, Some, None, Result, Ok, Err, Bool, true, false, map, nat_le, refl, sym, ap, subst, arith}
use Rattle.std.proofs.lemmas.Bool.Decides.{nat_tests}
use Rattle.std.proofs.lemmas.List.Elements.{All-nil, All-cons, All-head, All-tail}
use Rattle.folders.specs.Doings.{Doing}
use Rattle.folders.specs.declared.names.OfferKind.{OfferKind}
use Rattle.folders.specs.declared.names.OfferKind.TheVariants.{Tape, Text, Withdraw, Seek}
use Rattle.folders.specs.declared.names.FileRequest.{FileRequest}
use Rattle.folders.specs.declared.wishes.Wish.{Wish}
use Rattle.folders.specs.declared.wishes.Wish.TheVariants.{Offered, Sought}
use Rattle.offers.specs.Looks.{seen, stage_after, is_same_stamp, looked}
use Rattle.offers.specs.Order.{rank, kind_rank, file_at, rising}
use Rattle.offers.specs.Stages.{after, anew, found_nothing, put_off, landed, change_at, changed, all_changed, wish_of, wish_at, news_of, tape_of, text_of, withdrawal_of, search_of}
use Rattle.offers.specs.Turns.{files_after}
use Rattle.offers.specs.declared.deed.Deed.{Deed}
use Rattle.offers.specs.declared.deed.Deed.TheVariants as deeds
use Rattle.offers.specs.declared.offer.FoundOffer.{FoundOffer}
use Rattle.offers.specs.declared.offer.Offer.{Offer}
use Rattle.offers.specs.declared.stage.Landing.{Landing}
use Rattle.offers.specs.declared.stage.Landing.TheVariants.{Ended, Nothing, Busy, Barred, Released}
use Rattle.offers.specs.declared.stage.FileNews.TheVariants as news
use Rattle.offers.specs.declared.stage.OfferFault.{OfferFault}
use Rattle.offers.specs.declared.stage.Stage.{Stage}
use Rattle.offers.specs.declared.stage.Stage.TheVariants.{Watched, Waiting, UnderWay, Refused, Answered, Gone}
use Rattle.offers.specs.declared.stage.Tries.{Tries}
use Rattle.run_command.specs.Standing.{Texts}
use Rattle.run_command.specs.Minding.{WasRead, IsRead, IsReadOffer, WereRead}

-- what is known of a wish then was known before
abbrev Keeps : Option Wish → Option Wish → Type 0
Keeps was None = Unit {0}
Keeps was (Some wish) = was ≡ Some wish

module _ (t : Texts) where
  read_still : (shown : List Doing) (r : FileRequest) (was is : Option Wish) → Keeps was is → IsRead t shown r was → IsRead t shown r is
  read_still shown r was None k h = tt
  read_still shown r was (Some wish) k h = subst (λ (o : Option Wish). IsRead t shown r o) k h

anew_keeps : (now : ℕ) (s : Stage) → Keeps (wish_of s) (wish_of (anew now s))
anew_keeps now (Watched at replaced) = tt
anew_keeps now (Waiting own at tries) = tt
anew_keeps now (UnderWay own tries) = tt
anew_keeps now (Refused reason at pause) = tt
anew_keeps now (Answered at pause) = tt
anew_keeps now Gone = tt

put_off_keeps : (now : ℕ) (s : Stage) → Keeps (wish_of s) (wish_of (put_off now s))
put_off_keeps now (Watched at replaced) = tt
put_off_keeps now (Waiting own at tries) = refl
put_off_keeps now (UnderWay own tries) = refl
put_off_keeps now (Refused reason at pause) = tt
put_off_keeps now (Answered at pause) = tt
put_off_keeps now Gone = tt

-- a test answers one or the other
two_ways : (b : Bool) → (b ≡ true) ⊎ (b ≡ false)
two_ways true = inl refl
two_ways false = inr refl

found_keeps : (wish : Wish) (tries : Tries) (now : ℕ) → Keeps (Some wish) (wish_of (found_nothing wish tries now))
found_keeps (Offered entry) tries now = refl
found_keeps Sought tries now = elim (two_ways (nat_le 9 tries.nothings)) [
  | inl often ↦ rw often tt
  | inr seldom ↦ rw seldom refl
]

landed_keeps : (l : Landing) (now : ℕ) (s : Stage) → Keeps (wish_of s) (wish_of (landed l now s))
landed_keeps Ended now (Watched at replaced) = tt
landed_keeps Ended now (Waiting own at tries) = refl
landed_keeps Ended now (UnderWay own tries) = refl
landed_keeps Ended now (Refused reason at pause) = tt
landed_keeps Ended now (Answered at pause) = tt
landed_keeps Ended now Gone = tt
landed_keeps Nothing now (Watched at replaced) = tt
landed_keeps Nothing now (Waiting own at tries) = refl
landed_keeps Nothing now (UnderWay own tries) = found_keeps own tries now
landed_keeps Nothing now (Refused reason at pause) = tt
landed_keeps Nothing now (Answered at pause) = tt
landed_keeps Nothing now Gone = tt
landed_keeps Busy now (Watched at replaced) = tt
landed_keeps Busy now (Waiting own at tries) = refl
landed_keeps Busy now (UnderWay own tries) = refl
landed_keeps Busy now (Refused reason at pause) = tt
landed_keeps Busy now (Answered at pause) = tt
landed_keeps Busy now Gone = tt
landed_keeps (Barred why) now (Watched at replaced) = tt
landed_keeps (Barred why) now (Waiting own at tries) = refl
landed_keeps (Barred why) now (UnderWay own tries) = tt
landed_keeps (Barred why) now (Refused reason at pause) = tt
landed_keeps (Barred why) now (Answered at pause) = tt
landed_keeps (Barred why) now Gone = tt
landed_keeps Released now (Watched at replaced) = tt
landed_keeps Released now (Waiting own at tries) = refl
landed_keeps Released now (UnderWay own tries) = refl
landed_keeps Released now (Refused reason at pause) = tt
landed_keeps Released now (Answered at pause) = tt
landed_keeps Released now Gone = tt

asked_keeps : (now : ℕ) (s : Stage) → Keeps (wish_of s) (wish_of (after news.Asked now s))
asked_keeps now (Watched at replaced) = tt
asked_keeps now (Waiting own at tries) = refl
asked_keeps now (UnderWay own tries) = refl
asked_keeps now (Refused reason at pause) = tt
asked_keeps now (Answered at pause) = tt
asked_keeps now Gone = tt

no_offer_keeps : (why : OfferFault) (now : ℕ) (s : Stage) → Keeps (wish_of s) (wish_of (after (news.NoOffer why) now s))
no_offer_keeps why now (Watched at replaced) = tt
no_offer_keeps why now (Waiting own at tries) = refl
no_offer_keeps why now (UnderWay own tries) = refl
no_offer_keeps why now (Refused reason at pause) = tt
no_offer_keeps why now (Answered at pause) = tt
no_offer_keeps why now Gone = tt

moved_keeps : (now : ℕ) (s : Stage) → Keeps (wish_of s) (wish_of (after news.Moved now s))
moved_keeps now s = tt

module _ (t : Texts) where
  changed_one :
      (shown : List Doing) (k : ℕ) (g : Stage → Stage) → ((s : Stage) → Keeps (wish_of s) (wish_of (g s))) → (o : Offer) → IsReadOffer t shown o → IsReadOffer t shown (change_at k g o)
  changed_one shown k g keeps o h = elim (two_ways (rank o.request == k)) [
    | inl here ↦ rw here (read_still t shown o.request (wish_of o.stage) (wish_of (g o.stage)) (keeps o.stage) h)
    | inr apart ↦ rw apart h
  ]

  -- one file has news that is no wish
  pub changed_still :
      (shown : List Doing) (k : ℕ) (g : Stage → Stage) → ((s : Stage) → Keeps (wish_of s) (wish_of (g s))) → (files : List Offer) → WereRead t shown files → WereRead t shown (changed k g files)
  changed_still shown k g keeps [] h = All-nil (IsReadOffer t shown)
  changed_still shown k g keeps (o ∷ files) h =
      All-cons (IsReadOffer t shown) (change_at k g o) (changed k g files) (changed_one shown k g keeps o (All-head (IsReadOffer t shown) o files h))
      (changed_still shown k g keeps files (All-tail (IsReadOffer t shown) o files h))

  pub put_off_still : (shown : List Doing) (k now : ℕ) (files : List Offer) → WereRead t shown files → WereRead t shown (changed k (after news.PutOff now) files)
  put_off_still shown k now files h = changed_still shown k (after news.PutOff now) (put_off_keeps now) files h

  pub moved_still : (shown : List Doing) (k now : ℕ) (files : List Offer) → WereRead t shown files → WereRead t shown (changed k (after news.Moved now) files)
  moved_still shown k now files h = changed_still shown k (after news.Moved now) (moved_keeps now) files h

  pub landed_still : (shown : List Doing) (n : ℕ) (l : Landing) (now : ℕ) (files : List Offer) → WereRead t shown files → WereRead t shown (all_changed n (after (news.Landed l) now) files)
  landed_still shown n l now files h =
      let g : Stage → Stage = after (news.Landed l) now in
      let taped = changed (rank (tape_of n)) g files in
      let texted = changed (rank (text_of n)) g taped in
      let withdrawn = changed (rank (withdrawal_of n)) g texted in
      let one = changed_still shown (rank (tape_of n)) g (landed_keeps l now) files h in
      let two = changed_still shown (rank (text_of n)) g (landed_keeps l now) taped one in
      let three = changed_still shown (rank (withdrawal_of n)) g (landed_keeps l now) texted two in
      changed_still shown (rank (search_of n)) g (landed_keeps l now) withdrawn three

  -- the station is asked for one, or not
  pub asked_still : (shown : List Doing) (d : Option Deed) (files : List Offer) → WereRead t shown files → WereRead t shown (files_after d files)
  asked_still shown None files h = h
  asked_still shown (Some (deeds.Move r found to)) files h = h
  asked_still shown (Some (deeds.Ask r)) files h = changed_still shown (rank r) (after news.Asked 0) (asked_keeps 0) files h
  asked_still shown (Some (deeds.Read r found replaced)) files h = h
  asked_still shown (Some (deeds.Refuse r found why)) files h = h

-- a place is that of one request

same_rank : (n m : ℕ) (j k : OfferKind) → 4 * n + kind_rank j ≡ 4 * m + kind_rank k → (n ≡ m) × (j ≡ k)
same_rank n m Tape Tape e = (omega arith, refl)
same_rank n m Tape Text e = absurd (omega arith)
same_rank n m Tape Withdraw e = absurd (omega arith)
same_rank n m Tape Seek e = absurd (omega arith)
same_rank n m Text Tape e = absurd (omega arith)
same_rank n m Text Text e = (omega arith, refl)
same_rank n m Text Withdraw e = absurd (omega arith)
same_rank n m Text Seek e = absurd (omega arith)
same_rank n m Withdraw Tape e = absurd (omega arith)
same_rank n m Withdraw Text e = absurd (omega arith)
same_rank n m Withdraw Withdraw e = (omega arith, refl)
same_rank n m Withdraw Seek e = absurd (omega arith)
same_rank n m Seek Tape e = absurd (omega arith)
same_rank n m Seek Text e = absurd (omega arith)
same_rank n m Seek Withdraw e = absurd (omega arith)
same_rank n m Seek Seek e = (omega arith, refl)

same_request : (a b : FileRequest) → rank a ≡ rank b → a ≡ b
same_request a b e =
    let same = same_rank a.number b.number a.kind b.kind e in
    let one : record { number = a.number; kind = a.kind } ≡ record { number = b.number; kind = a.kind } = ap (λ (n : ℕ). record { number = n; kind = a.kind }) same.0 in
    let two : record { number = b.number; kind = a.kind } ≡ record { number = b.number; kind = b.kind } = ap (λ (k : OfferKind). record { number = b.number; kind = k }) same.1 in
    one ∙ two

-- one file was read

module _ (t : Texts) where
  took_wish : (shown : List Doing) (r : FileRequest) (wish : Wish) (now : ℕ) (s : Stage) → IsRead t shown r (wish_of s) → WasRead t shown r wish → IsRead t shown r (wish_of (after (news.Read wish) now s))
  took_wish shown r wish now (Watched at replaced) h w = w
  took_wish shown r wish now (Waiting own at tries) h w = h
  took_wish shown r wish now (UnderWay own tries) h w = h
  took_wish shown r wish now (Refused reason at pause) h w = h
  took_wish shown r wish now (Answered at pause) h w = h
  took_wish shown r wish now Gone h w = h

  read_one : (shown : List Doing) (r : FileRequest) (wish : Wish) (now : ℕ) (o : Offer) → WasRead t shown r wish → IsReadOffer t shown o → IsReadOffer t shown (change_at (rank r) (after (news.Read wish) now) o)
  read_one shown r wish now o w h = elim (two_ways (rank o.request == rank r)) [
    | inl here ↦
        let same : rank o.request ≡ rank r = grind (arith, nat_tests) in
        rw here (took_wish shown o.request wish now o.stage h (subst (λ (q : FileRequest). WasRead t shown q wish) (sym (same_request o.request r same)) w))
    | inr apart ↦ rw apart h
  ]

  read_wish : (shown : List Doing) (r : FileRequest) (wish : Wish) (now : ℕ) (files : List Offer) → WasRead t shown r wish → WereRead t shown files → WereRead t shown (changed (rank r) (after (news.Read wish) now) files)
  read_wish shown r wish now [] w h = All-nil (IsReadOffer t shown)
  read_wish shown r wish now (o ∷ files) w h =
      All-cons (IsReadOffer t shown) (change_at (rank r) (after (news.Read wish) now) o) (changed (rank r) (after (news.Read wish) now) files)
      (read_one shown r wish now o w (All-head (IsReadOffer t shown) o files h)) (read_wish shown r wish now files w (All-tail (IsReadOffer t shown) o files h))

-- this holds of what a file asks for, if it is an offer
abbrev pub IfOffer : Result Wish OfferFault → (Wish → Type 0) → Type 0
IfOffer (Ok wish) P = P wish
IfOffer (Err why) P = Unit {0}

module _ (t : Texts) where
  pub read_now :
      (shown : List Doing) (r : FileRequest) (wish : Result Wish OfferFault) (now : ℕ) (files : List Offer) → IfOffer wish (WasRead t shown r) → WereRead t shown files → WereRead t shown (changed (rank r) (after (news_of wish) now) files)
  read_now shown r (Ok wish) now files w h = read_wish t shown r wish now files w h
  read_now shown r (Err why) now files w h = changed_still t shown (rank r) (after (news.NoOffer why) now) (no_offer_keeps why now) files h

-- a file of the book

no_wish : (wish : Wish) → None ≡ Some wish → ⊥
no_wish wish e = cc

module _ (t : Texts) where
  found_here : (shown : List Doing) (p o : Offer) (k : ℕ) → IsReadOffer t shown p → (rank p.request == k) ≡ true → p ≡ o → IsReadOffer t shown o × (rank o.request ≡ k)
  found_here shown p o k h here same =
      let at : rank p.request ≡ k = grind (arith, nat_tests) in
      subst (λ (q : Offer). IsReadOffer t shown q × (rank q.request ≡ k)) same (h, at)

first_of : (p o : Offer) → Some p ≡ Some o → p ≡ o
first_of p o e = cc

none_found : (o : Offer) → None ≡ Some o → ⊥
none_found o e = cc

module _ (t : Texts) where
  at_place : (shown : List Doing) (files : List Offer) (k : ℕ) (o : Offer) → WereRead t shown files → file_at files k ≡ Some o → IsReadOffer t shown o × (rank o.request ≡ k)
  at_place shown [] k o h e = absurd (none_found o e)
  at_place shown (p ∷ files) k o h e = elim (two_ways (rank p.request == k)) [
    | inl here ↦ found_here t shown p o k (All-head (IsReadOffer t shown) p files h) here (first_of p o (rw here at e))
    | inr apart ↦ at_place shown files k o (All-tail (IsReadOffer t shown) p files h) (rw apart at e)
  ]

  -- what a file asks for that is known was read
  wish_of_place : (shown : List Doing) (files : List Offer) (r : FileRequest) (x : Option Offer) (wish : Wish) → file_at files (rank r) ≡ x → WereRead t shown files → wish_at x ≡ Some wish → WasRead t shown r wish
  wish_of_place shown files r None wish e h is = absurd (no_wish wish is)
  wish_of_place shown files r (Some o) wish e h is =
      let it = at_place shown files (rank r) o h e in
      let read : WasRead t shown o.request wish = subst (λ (x : Option Wish). IsRead t shown o.request x) is it.0 in
      subst (λ (q : FileRequest). WasRead t shown q wish) (same_request o.request r it.1) read

  pub wish_read : (shown : List Doing) (files : List Offer) (r : FileRequest) (wish : Wish) → WereRead t shown files → wish_at (file_at files (rank r)) ≡ Some wish → WasRead t shown r wish
  wish_read shown files r wish h is = wish_of_place shown files r (file_at files (rank r)) wish refl h is

  -- a look

  -- where a file was known, what is known of its wish was read
  abbrev IfKnown : List Doing → Option Offer → FoundOffer → Type 0
  IfKnown shown None f = Unit {0}
  IfKnown shown (Some o) f = IsRead t shown f.request (wish_of o.stage)

  seen_stage : (shown : List Doing) (known : Option Offer) (now : ℕ) (f : FoundOffer) → IfKnown shown known f → IsRead t shown f.request (wish_of (stage_after known now f))
  seen_stage shown None now f h = tt
  seen_stage shown (Some o) now f h = elim (two_ways (is_same_stamp o.stamp f.stamp)) [
    | inl same ↦ rw same h
    | inr changed ↦ rw changed (read_still t shown f.request (wish_of o.stage) (wish_of (anew now o.stage)) (anew_keeps now o.stage) h)
  ]

  known_of : (shown : List Doing) (old : List Offer) (f : FoundOffer) (x : Option Offer) → WereRead t shown old → file_at old (rank f.request) ≡ x → IfKnown shown x f
  known_of shown old f None h e = tt
  known_of shown old f (Some o) h e =
      let it = at_place shown old (rank f.request) o h e in
      subst (λ (q : FileRequest). IsRead t shown q (wish_of o.stage)) (same_request o.request f.request it.1) it.0

  seen_all : (shown : List Doing) (old : List Offer) (now : ℕ) (found : List FoundOffer) → WereRead t shown old → WereRead t shown (map (seen old now) found)
  seen_all shown old now [] h = All-nil (IsReadOffer t shown)
  seen_all shown old now (f ∷ found) h =
      All-cons (IsReadOffer t shown) (seen old now f) (map (seen old now) found)
      (seen_stage shown (file_at old (rank f.request)) now f (known_of shown old f (file_at old (rank f.request)) h refl)) (seen_all shown old now found h)

  pub looked_still : (shown : List Doing) (old : List Offer) (now : ℕ) (found : List FoundOffer) → WereRead t shown old → WereRead t shown (looked old now found)
  looked_still shown old now found h = seen_all shown old now (rising found) h
