-- Looks at the offers, files that leave them, and what follows of it.
use Rattle.std.proofs.Common.{◌≡◌, ◌+◌, ◌++◌, ◌∙◌, ◌⊎◌, ℕ, Bool, zero, suc, drop, false, true, List, [], ◌∷◌, Option, Some, None, Result, Ok, Err, Vec, Global, inl, inr, refl, sym, ap, subst, append-nil, length, map, arith}
use Rattle.std.specs.Prelude.{flat_map, IfOk, IfSome, IfNone, IsErr, OnOk, OnErr}
use Rattle.std.proofs.lemmas.Bool.Decides.{nat_tests}
use Rattle.protocol.specs.Lists.{IsAmong}
use Rattle.code_table.specs.Tables.{Places}
use Rattle.tape_frames.specs.declared.entry.Entry.{Entry}
use Rattle.station.specs.declared.answer.Release.{Release}
use Rattle.folders.specs.Doings.{Doing, saw_file, read_file, wrote_file, noted_before, moved_file, writing, Does, MayDo}
use Rattle.folders.specs.Offers.{IsNameOf}
use Rattle.folders.specs.Written.{File}
use Rattle.folders.specs.declared.leaving.Place.{Place}
use Rattle.folders.specs.declared.leaving.Place.TheVariants as places
use Rattle.folders.specs.declared.names.FileRequest.{FileRequest}
use Rattle.folders.specs.declared.wishes.Wish.{Wish}
use Rattle.folders.proofs.Doings.{does_nothing, does_then}
use Rattle.offers.specs.Answers.{landed_in, Releases as IsReleasing}
use Rattle.offers.specs.Rules.{Standing, entry_in, entry_of, Leaves, MayDo as MayDoDeed}
use Rattle.offers.specs.declared.deed.Allowed.{Allowed}
use Rattle.offers.specs.declared.deed.Deed.{Deed}
use Rattle.offers.specs.declared.deed.Deed.TheVariants as deeds
use Rattle.offers.specs.declared.offer.Offer.{Offer}
use Rattle.offers.specs.declared.stage.Landing.{Landing}
use Rattle.offers.specs.declared.stage.Landing.TheVariants as landings
use Rattle.offers.specs.declared.stage.OfferFault.{OfferFault}
use Rattle.offers.specs.declared.stage.OfferFault.TheVariants as reasons
use Rattle.offers.specs.declared.stage.Stage.{Stage}
use Rattle.offers.specs.declared.stage.Stage.TheVariants as stages
use Rattle.offers.specs.Order.{rank}
use Rattle.offers.specs.Stages.{after, changed, news_of}
use Rattle.offers.specs.Turns.{IsInTurn}
use Rattle.plant_care.specs.Caring.{AreNotedBefore, AreNotedGone}
use Rattle.driver.specs.Events.{Event}
use Rattle.run_command.specs.Standing.{Texts}
use Rattle.run_command.specs.Departing.{departure_of, task_of, way_to, place_of, IsFree, IsFreeWay, IsFreeTask}
use Rattle.run_command.specs.Minding.{name_of, WasRead, WereRead, HasRelease, HaveReleases, onto, IsOfRelease, AreLooks, IsLook, AreSettlings, IsSettling}
use Rattle.run_command.specs.Story.{IsReleasedIn}
use Rattle.run_command.specs.Waiting.{Waiting, IsFiled, with_files, with_numbers}
use Rattle.run_command.specs.Working.{EndsRange, Follows, Looks, Looked, Departs, IsOfKnown, Settles, IfRead, IsTapeOrFault, BecameTape, Keeps, Releases}
use Rattle.run_command.specs.declared.departures.Departure.{Departure}
use Rattle.run_command.specs.declared.departures.LeavingCause.{LeavingCause}
use Rattle.run_command.specs.declared.departures.LeavingCause.TheVariants.{Released, NoOffer, Answered}
use Rattle.run_command.proofs.Story.{read_here, taken_more, settlings_then, settlings_weaker, silent_looks, silent_settlings, settlings_look}
use Rattle.run_command.proofs.Wishes.{landed_still, read_now, IfOffer}

-- what a call may have done

pub may_not : (a b : Option (List Doing)) (d : Doing) → b ≡ a → MayDo a b d
may_not None b d same = tt
may_not (Some x) None d same = absurd cc
may_not (Some x) (Some y) d same = let e : y ≡ x = cc in inl e

pub record Did (a b : Option (List Doing)) (d : Doing) : Type 0 where
  pub doings : List Doing
  pub does : Does a b doings
  pub either : (doings ≡ []) ⊎ (doings ≡ d ∷ [])

pub did_of : (a b : Option (List Doing)) (d : Doing) → MayDo a b d → Did a b d
did_of None b d p = record { doings = []; does = tt; either = inl refl }
did_of (Some x) None d p = absurd p
did_of (Some x) (Some y) d (inl e) = record { doings = []; does = e ∙ sym (append-nil x); either = inl refl }
did_of (Some x) (Some y) d (inr e) = record { doings = d ∷ []; does = e; either = inr refl }

-- looks

pub looks_none : (a b : Option (List Doing)) (P : List Doing → Type 0) → b ≡ a → P [] → Looks a b P
looks_none a b P same p = record { doings = []; does = does_nothing a b same; looks = tt; finds = p }

looks_did : (a b : Option (List Doing)) (d : Doing) → IsLook d → Did a b d → Looks a b (λ doings. Unit {0})
looks_did a b d look p = record {
  doings = p.doings;
  does = p.does;
  looks = elim p.either [
    | inl none ↦ subst (λ (ds : List Doing). AreLooks ds) (sym none) tt
    | inr one ↦ subst (λ (ds : List Doing). AreLooks ds) (sym one) (look, tt)
  ];
  finds = tt;
}

pub looks_may : (a b : Option (List Doing)) (d : Doing) → IsLook d → MayDo a b d → Looks a b (λ doings. Unit {0})
looks_may a b d look p = looks_did a b d look (did_of a b d p)

-- the same looks find something else
pub looks_so :
    (a b : Option (List Doing)) (P Q : List Doing → Type 0) (l : Looks a b P) → Q l.doings → Looks a b Q
looks_so a b P Q l q = record { doings = l.doings; does = l.does; looks = l.looks; finds = q }

-- a file was found, and read where that was asked for
pub looks_found :
    (held : Option (Vec ℕ Global)) (a b : Option (List Doing)) (name : List ℕ)
    → IfSome held (λ v. Does a b (saw_file name ∷ read_file (record { name = name; bytes = v.items }) ∷ [])) → IfNone held (Does a b (saw_file name ∷ []))
    → Looks a b (λ doings. IsAmong doings (saw_file name))
looks_found (Some v) a b name whole longer = record {
  doings = saw_file name ∷ read_file (record { name = name; bytes = v.items }) ∷ [];
  does = whole;
  looks = (tt, (tt, tt));
  finds = inl refl;
}
looks_found None a b name whole longer = record { doings = saw_file name ∷ []; does = longer; looks = (tt, tt); finds = inl refl }

-- the same, where it was read
pub looks_whole :
    (held : Option (Vec ℕ Global)) (v : Vec ℕ Global) (a b : Option (List Doing)) (name : List ℕ) (P : List Doing → Type 0) → held ≡ Some v
    → IfSome held (λ v. Does a b (saw_file name ∷ read_file (record { name = name; bytes = v.items }) ∷ []))
    → P (saw_file name ∷ read_file (record { name = name; bytes = v.items }) ∷ []) → Looks a b P
looks_whole held v a b name P is whole p = record {
  doings = saw_file name ∷ read_file (record { name = name; bytes = v.items }) ∷ [];
  does = subst (λ (h : Option (Vec ℕ Global)). IfSome h (λ v. Does a b (saw_file name ∷ read_file (record { name = name; bytes = v.items }) ∷ []))) is whole;
  looks = (tt, (tt, tt));
  finds = p;
}

-- the same, where it is longer than that
pub looks_longer :
    (held : Option (Vec ℕ Global)) (a b : Option (List Doing)) (name : List ℕ) (P : List Doing → Type 0) → held ≡ None
    → IfNone held (Does a b (saw_file name ∷ [])) → P (saw_file name ∷ []) → Looks a b P
looks_longer held a b name P is longer p = record {
  doings = saw_file name ∷ [];
  does = subst (λ (h : Option (Vec ℕ Global)). IfNone h (Does a b (saw_file name ∷ []))) is longer;
  looks = (tt, tt);
  finds = p;
}

-- it was not, and may have been found
pub looks_failed : (a b : Option (List Doing)) (name : List ℕ) (P : List Doing → Type 0) → MayDo a b (saw_file name) → ((doings : List Doing) → P doings) → Looks a b P
looks_failed a b name P may p =
    let l : Looks a b (λ doings. Unit {0}) = looks_may a b (saw_file name) tt may in looks_so a b (λ doings. Unit {0}) P l (p l.doings)

-- what was read

pub failed_on : {A E : Type 0} (X : Type 0) (r : Result A E) → IsErr r → OnOk r X
failed_on X (Ok x) failed = cc
failed_on X (Err e) failed = tt

pub failed_read : {A E D : Type 0} (r : Result (Result A E) D) (P : A → Type 0) → IsErr r → IfRead r P
failed_read (Ok x) P failed = cc
failed_read (Err d) P failed = tt

-- what a text became, where it was read or not

pub became :
    {D : Type 0} (table : Places) (doings : List Doing) (name text : List ℕ) (r : Result (Result (List ℕ) OfferFault) D)
    → IsAmong doings (read_file (record { name = name; bytes = text })) → IsTapeOrFault table text r → BecameTape table doings name r
became table doings name text (Ok (Ok tape)) there h = record { text = text; lay_there = there; holds = h }
became table doings name text (Ok (Err (reasons.Tape fault))) there h = absurd h
became table doings name text (Ok (Err (reasons.Text fault))) there h = record { text = text; lay_there = there; holds = h }
became table doings name text (Ok (Err reasons.LongText)) there h = absurd h
became table doings name text (Ok (Err reasons.NoTexts)) there h = absurd h
became table doings name text (Ok (Err (reasons.Step refusal))) there h = absurd h
became table doings name text (Err d) there h = tt

pub failed_became :
    {D : Type 0} (table : Places) (doings : List Doing) (name : List ℕ) (r : Result (Result (List ℕ) OfferFault) D) → IsErr r → BecameTape table doings name r
failed_became table doings name (Ok x) failed = cc
failed_became table doings name (Err d) failed = tt

pub read_ok :
    {E : Type 0} (D A : Type 0) (r : Result (List ℕ) E) (bytes : List ℕ) (P : List ℕ → Type 0) → IfOk r (λ t. A × (t ≡ bytes)) → P bytes
    → IfRead {D = D} (Ok r) P
read_ok D A (Ok t) bytes P same p = subst P (sym same.1) p
read_ok D A (Err e) bytes P same p = tt

-- what is kept in mind

pub follows_same : (m n : Standing) → n ≡ m → Follows m n
follows_same m n same = record {
  taken = λ t shown h. subst (λ (b : Standing). WereRead t shown b.files) (sym same) h;
  released = ap (λ (b : Standing). b.released) same;
}

pub follows_then : (m n o : Standing) → Follows m n → Follows n o → Follows m o
follows_then m n o f g = record { taken = λ t shown h. g.taken t shown (f.taken t shown h); released = g.released ∙ f.released }

-- the files are these
pub follows_of : (m n : Standing) (files : List Offer) → n.files ≡ files → ((t : Texts) (shown : List Doing) → WereRead t shown m.files → WereRead t shown files) → n.released ≡ m.released → Follows m n
follows_of m n files is taken released = record {
  taken = λ t shown h. subst (λ (l : List Offer). WereRead t shown l) (sym is) (taken t shown h);
  released = released;
}

pub follows_landed : (m n : Standing) (number : ℕ) (l : Landing) (now : ℕ) → n ≡ landed_in number l now m → Follows m n
follows_landed m n number l now same = record {
  taken = λ t shown h. subst (λ (b : Standing). WereRead t shown b.files) (sym same) (landed_still t shown number l now m.files h);
  released = ap (λ (b : Standing). b.released) same;
}

-- what was done with files among the offers, texts being read by this table: nothing was written; files left for those that were sent or
-- lost only under released numbers, and none did where a file waits to be written; and what is known then was read, or was released
pub record Deals (t : Texts) (old new : Option (List Doing)) (waits : Waiting) (was is : Standing) : Type 0 where
  pub doings : List Doing
  pub does : Does old new doings
  pub silent : flat_map writing doings ≡ []
  pub settles : (log : List Event) → HaveReleases log was → AreSettlings (IsOfRelease log) doings
  pub none : (IsFiled waits → ⊥) → AreLooks doings
  pub taken : (shown : List Doing) → WereRead t shown was.files → WereRead t (onto doings shown) is.files
  pub released : is.released ≡ was.released

pub deals_look :
    (t : Texts) (a b : Option (List Doing)) (w : Waiting) (P : List Doing → Type 0) (m n : Standing) (l : Looks a b P)
    → ((shown : List Doing) → WereRead t shown m.files → WereRead t (onto l.doings shown) n.files) → n.released ≡ m.released → Deals t a b w m n
deals_look t a b w P m n l taken same = record {
  doings = l.doings;
  does = l.does;
  silent = silent_looks l.doings l.looks;
  settles = λ log known. settlings_look (IsOfRelease log) l.doings l.looks;
  none = λ full. l.looks;
  taken = taken;
  released = same;
}

-- a look, and then a change that reads nothing
pub deals_looks : (t : Texts) (a b : Option (List Doing)) (w : Waiting) (P : List Doing → Type 0) (m n : Standing) → Looks a b P → Follows m n → Deals t a b w m n
deals_looks t a b w P m n l f = deals_look t a b w P m n l (λ shown h. taken_more t l.doings shown n.files (f.taken t shown h)) f.released

pub deals_looked : (t : Texts) (a b : Option (List Doing)) (w : Waiting) (m n : Standing) → Looked a b m n → Deals t a b w m n
deals_looked t a b w m n l = deals_looks t a b w (λ doings. Unit {0}) m n l.looks l.follows

pub deals_follows : (t : Texts) (a b : Option (List Doing)) (w : Waiting) (m n : Standing) → b ≡ a → Follows m n → Deals t a b w m n
deals_follows t a b w m n same f = deals_looks t a b w (λ doings. Unit {0}) m n (looks_none a b (λ doings. Unit {0}) same tt) f

-- a file was read, and what it asks for is told
read_of : (t : Texts) (D : Type 0) (doings : List Doing) (r : FileRequest) (wish : Result Wish OfferFault) → IfRead {D = D} (Ok wish) (λ w. WasRead t doings r w) → IfOffer wish (WasRead t doings r)
read_of t D doings r (Ok wish) h = h
read_of t D doings r (Err why) h = tt

read_onto : (t : Texts) (ds shown : List Doing) (r : FileRequest) (wish : Result Wish OfferFault) → IfOffer wish (WasRead t ds r) → IfOffer wish (WasRead t (onto ds shown) r)
read_onto t ds shown r (Ok wish) h = read_here t ds shown r wish h
read_onto t ds shown r (Err why) h = tt

read_by :
    (t : Texts) (D : Type 0) (a b : Option (List Doing)) (r : FileRequest) (result : Result (Result Wish OfferFault) D) (wish : Result Wish OfferFault) (m n : Standing) → result ≡ Ok wish
    → (l : Looks a b (λ doings. IfRead result (λ x. WasRead t doings r x))) → n.files ≡ changed (rank r) (after (news_of wish) 0) m.files
    → (shown : List Doing) → WereRead t shown m.files → WereRead t (onto l.doings shown) n.files
read_by t D a b r result wish m n is l files shown h =
    let read : IfRead {D = D} (Ok wish) (λ x. WasRead t l.doings r x) = subst (λ q. IfRead {D = D} q (λ x. WasRead t l.doings r x)) is l.finds in
    let here : IfOffer wish (WasRead t (onto l.doings shown) r) = read_onto t l.doings shown r wish (read_of t D l.doings r wish read) in
    subst (λ (x : List Offer). WereRead t (onto l.doings shown) x) (sym files)
    (read_now t (onto l.doings shown) r wish 0 m.files here (taken_more t l.doings shown m.files h))

pub deals_read :
    (t : Texts) (D : Type 0) (a b : Option (List Doing)) (w : Waiting) (r : FileRequest) (result : Result (Result Wish OfferFault) D) (wish : Result Wish OfferFault) (m n : Standing) → result ≡ Ok wish
    → Looks a b (λ doings. IfRead result (λ x. WasRead t doings r x)) → n.files ≡ changed (rank r) (after (news_of wish) 0) m.files → n.released ≡ m.released
    → Deals t a b w m n
deals_read t D a b w r result wish m n is l files released =
    deals_look t a b w (λ doings. IfRead result (λ x. WasRead t doings r x)) m n l (read_by t D a b r result wish m n is l files) released

-- before it something was chosen
pub deals_from : (t : Texts) (a b : Option (List Doing)) (w : Waiting) (m n o : Standing) → Follows m n → Deals t a b w n o → Deals t a b w m o
deals_from t a b w m n o f d = record {
  doings = d.doings;
  does = d.does;
  silent = d.silent;
  settles = λ log known. d.settles log (λ number e is. known number e (ap (λ l. entry_in l number) (sym f.released) ∙ is));
  none = d.none;
  taken = λ shown h. d.taken shown (f.taken t shown h);
  released = d.released ∙ f.released;
}

-- a file leaves the offers

settling_place : (P : List ℕ → Type 0) (name : List ℕ) (to : Place) → P name → IsSettling P (moved_file name to)
settling_place P name places.Sent p = p
settling_place P name places.Lost p = p
settling_place P name places.Refused p = tt
settling_place P name places.Done p = tt

way_settles : (b : Standing) (written : Bool) (r : FileRequest) (way : LeavingCause) → IsFreeWay b written r.number way → IsSettling (IsOfKnown b) (moved_file (name_of r) (place_of way))
way_settles b written r (Released to) free = settling_place (IsOfKnown b) (name_of r) to (record { number = r.number; kind = r.kind; known = free.0; named = refl })
way_settles b written r (NoOffer why) free = tt
way_settles b written r Answered free = tt

way_looks : (b : Standing) (r : FileRequest) (way : LeavingCause) → IsFreeWay b false r.number way → IsLook (moved_file (name_of r) (place_of way))
way_looks b r (Released to) free = let never : false ≡ true = free.1 in absurd cc
way_looks b r (NoOffer why) free = tt
way_looks b r Answered free = let never : false ≡ true = free in absurd cc

-- it may, where all that was released is written
pub settles_departs : (a b : Option (List Doing)) (written : Bool) (d : Departure) (m n : Standing) → Departs d a b m n → IsFree m written d → Settles a b m n
settles_departs a b written d m n p free =
    let did = did_of a b (moved_file (name_of d.found.request) (place_of d.way)) p.departs in
    record {
      doings = did.doings;
      does = did.does;
      settles = elim did.either [
        | inl none ↦ subst (λ (l : List Doing). AreSettlings (IsOfKnown m) l) (sym none) tt
        | inr one ↦ subst (λ (l : List Doing). AreSettlings (IsOfKnown m) l) (sym one) (way_settles m written d.found.request d.way free, tt)
      ];
      follows = p.follows;
    }

-- and else only where it was none
looked_departs : (a b : Option (List Doing)) (d : Departure) (m n : Standing) → Departs d a b m n → IsFree m false d → Looked a b m n
looked_departs a b d m n p free =
    record { looks = looks_may a b (moved_file (name_of d.found.request) (place_of d.way)) (way_looks m d.found.request d.way free) p.departs; follows = p.follows }

-- a file of a number whose entry is known is of one that was released
known_released : (b : Standing) (log : List Event) (name : List ℕ) → HaveReleases log b → IsOfKnown b name → IsOfRelease log name
known_released b log name all k =
    let it : HasRelease log k.number = all k.number k.known.0 k.known.1 in
    record {
      release = it.release;
      kind = k.kind;
      released = it.released;
      named = subst (λ (n : ℕ). IsNameOf name n k.kind) (sym it.number) k.named;
    }

-- where nothing waits files leave so
pub deals_settled : (t : Texts) (a b : Option (List Doing)) (w : Waiting) (m n : Standing) → IsFiled w → Settles a b m n → Deals t a b w m n
deals_settled t a b w m n filed d = record {
  doings = d.doings;
  does = d.does;
  silent = silent_settlings (IsOfKnown m) d.doings d.settles;
  settles = λ log known. settlings_weaker (IsOfKnown m) (IsOfRelease log) d.doings (λ name k. known_released m log name known k) d.settles;
  none = λ full. absurd (full filed);
  taken = λ shown h. taken_more t d.doings shown n.files (d.follows.taken t shown h);
  released = d.follows.released;
}

-- a file leaves the offers where it may
pub deals_left : (t : Texts) (a b : Option (List Doing)) (w : Waiting) (written : Bool) (d : Departure) (m n : Standing) → (written ≡ true → IsFiled w)
    → Departs d a b m n → IsFree m written d → Deals t a b w m n
deals_left t a b w true d m n empty p free = deals_settled t a b w m n (empty refl) (settles_departs a b true d m n p free)
deals_left t a b w false d m n empty p free = deals_looked t a b w m n (looked_departs a b d m n p free)

pub not_stored : {b : Bool} → b ≡ false → b ≡ true → ⊥
not_stored waits stored = cc

-- a list that has a first element is not empty
pub not_none : {A : Type 0} (w : List A) (x : A) (xs : List A) → w ≡ x ∷ xs → w ≡ [] → ⊥
not_none w x xs e none = cc

-- none did where a file waits
pub deals_out : (t : Texts) (a b : Option (List Doing)) (w : Waiting) (v : List File) (stored : Bool) (m n : Standing) → w.files ≡ v → w.stored ≡ stored → ((IsFiled w → ⊥) → b ≡ a) → Settles a b m n → Deals t a b w m n
deals_out t a b w [] true m n is sure stay d = deals_settled t a b w m n (record { none = is; stored = sure }) d
deals_out t a b w [] false m n is sure stay d = deals_follows t a b w m n (stay (λ filed. not_stored sure filed.stored)) d.follows
deals_out t a b w (x ∷ xs) stored m n is sure stay d = deals_follows t a b w m n (stay (λ filed. not_none w.files x xs is filed.none)) d.follows

-- one file after the other
pub settles_none : (a b : Option (List Doing)) (m n : Standing) → b ≡ a → Follows m n → Settles a b m n
settles_none a b m n same f = record { doings = []; does = does_nothing a b same; settles = tt; follows = f }

known_still : (m n : Standing) (name : List ℕ) → n.released ≡ m.released → IsOfKnown n name → IsOfKnown m name
known_still m n name same k = record { number = k.number; kind = k.kind; known = (k.known.0, ap (λ l. entry_in l k.number) (sym same) ∙ k.known.1); named = k.named }

pub settles_then : (a b c : Option (List Doing)) (m n o : Standing) → Settles a b m n → Settles b c n o → Settles a c m o
settles_then a b c m n o d e = record {
  doings = d.doings ++ e.doings;
  does = does_then a b c d.doings e.doings d.does e.does;
  settles =
      settlings_then (IsOfKnown m) d.doings e.doings d.settles
      (settlings_weaker (IsOfKnown n) (IsOfKnown m) e.doings (λ name k. known_still m n name d.follows.released k) e.settles);
  follows = follows_then m n o d.follows e.follows;
}

-- the files that were written are all that waited, where none waits any more
pub all_wrote : (a b : Option (List Doing)) (had files waits : List File) → had ≡ files ++ waits → waits ≡ [] → Does a b (map wrote_file files) → Does a b (map wrote_file had)
all_wrote a b had files waits split none does =
    subst (λ (l : List File). Does a b (map wrote_file l)) (sym (split ∙ ap (λ (l : List File). files ++ l) none ∙ append-nil files)) does

-- what waits is the same if its parts are
pub same_waits : (v w : Waiting) → v.files ≡ w.files → v.numbers ≡ w.numbers → v.stored ≡ w.stored → v ≡ w
same_waits v w files numbers stored =
    ap (λ (l : List File). with_files l v) files ∙ ap (λ (l : List ℕ). with_numbers l (with_files w.files v)) numbers ∙ ap (λ (b : Bool). record w { stored = b }) stored

-- numbers were noted that are the same as these
pub noted_same :
    {F : Type 0} (doings : F → Option (List Doing)) (refuses : F → F → Type 0) (f g : F) (had was left : List ℕ) → had ≡ was
    → AreNotedGone doings refuses f g had left → AreNotedGone doings refuses f g was left
noted_same doings refuses f g had was left same it = subst (λ (l : List ℕ). AreNotedGone doings refuses f g l left) same it

-- what is done at a look

-- numbers from before were noted, or not
pub did_before : (a b : Option (List Doing)) (numbers : List ℕ) → AreNotedBefore a b numbers → Did a b (noted_before numbers)
did_before a b numbers (inl same) = record { doings = []; does = does_nothing a b same; either = inl refl }
did_before a b numbers (inr (inl does)) = record { doings = noted_before numbers ∷ []; does = does; either = inr refl }
did_before a b numbers (inr (inr may)) = did_of a b (noted_before numbers) may

-- the file of a range left the offers, or not
ended_by : (t : Texts) (a b : Option (List Doing)) (w : Waiting) (m : Standing) (name : List ℕ) → IsFiled w → MayDo a b (moved_file name places.Done) → Deals t a b w m m
ended_by t a b w m name filed may =
    let found = did_of a b (moved_file name places.Done) may in
    record {
      doings = found.doings;
      does = found.does;
      silent = elim found.either [
        | inl none ↦ ap (λ (ds : List Doing). flat_map writing ds) none
        | inr one ↦ ap (λ (ds : List Doing). flat_map writing ds) one
      ];
      settles = λ log known. elim found.either [
        | inl none ↦ subst (λ (ds : List Doing). AreSettlings (IsOfRelease log) ds) (sym none) tt
        | inr one ↦ subst (λ (ds : List Doing). AreSettlings (IsOfRelease log) ds) (sym one) (tt, tt)
      ];
      none = λ full. absurd (full filed);
      taken = λ shown h. taken_more t found.doings shown m.files h;
      released = refl;
    }

ends : (t : Texts) (a b : Option (List Doing)) (w : Waiting) (m : Standing) → IsFiled w → EndsRange a b → Deals t a b w m m
ends t a b w m filed (inl same) = deals_follows t a b w m m same (follows_same m m refl)
ends t a b w m filed (inr it) = ended_by t a b w m it.0 filed it.1

-- none did where something waits
pub deals_ends :
    (t : Texts) (a b : Option (List Doing)) (w : Waiting) (v : List File) (stored : Bool) (m : Standing) → w.files ≡ v → w.stored ≡ stored
    → ((IsFiled w → ⊥) → b ≡ a) → EndsRange a b → Deals t a b w m m
deals_ends t a b w [] true m is sure stay e = ends t a b w m (record { none = is; stored = sure }) e
deals_ends t a b w [] false m is sure stay e = deals_follows t a b w m m (stay (λ filed. not_stored sure filed.stored)) (follows_same m m refl)
deals_ends t a b w (x ∷ xs) stored m is sure stay e = deals_follows t a b w m m (stay (λ filed. not_none w.files x xs is filed.none)) (follows_same m m refl)

-- nothing was done with files
pub looked_none : (a b : Option (List Doing)) (m n : Standing) → b ≡ a → Follows m n → Looked a b m n
looked_none a b m n same f = record { looks = looks_none a b (λ doings. Unit {0}) same tt; follows = f }

-- a file that is not done leaves by its entry, so that is known
leaves_known : (entry : Option Entry) (looked : ℕ) (s : Stage) (to : Place) → (to ≡ places.Done → ⊥) → Leaves entry looked s to → (e : Entry) × (entry ≡ Some e)
leaves_known entry looked (stages.Watched at replaced) to other h = absurd h
leaves_known None looked (stages.Waiting wish at tries) to other h = absurd h.1
leaves_known (Some e) looked (stages.Waiting wish at tries) to other h = (e, refl)
leaves_known entry looked (stages.UnderWay wish tries) to other h = absurd h
leaves_known entry looked (stages.Refused reason at pause) to other h = absurd h
leaves_known entry looked (stages.Answered at pause) to other h = absurd (other h.1)
leaves_known entry looked stages.Gone to other h = absurd h

-- so it may leave where all that was released is written
way_free :
    (b c : Standing) (written : Bool) (n : ℕ) (s : Stage) (to : Place) → c.released ≡ b.released → written ≡ true → Leaves (entry_of b n) b.looked s to
    → IsFreeWay c written n (way_to to)
way_free b c written n s places.Sent same is h =
    let known = leaves_known (entry_of b n) b.looked s places.Sent (λ e. cc) h in
    ((known.0, ap (λ l. entry_in l n) same ∙ known.1), is)
way_free b c written n s places.Lost same is h =
    let known = leaves_known (entry_of b n) b.looked s places.Lost (λ e. cc) h in
    ((known.0, ap (λ l. entry_in l n) same ∙ known.1), is)
way_free b c written n s places.Refused same is h =
    let known = leaves_known (entry_of b n) b.looked s places.Refused (λ e. cc) h in
    ((known.0, ap (λ l. entry_in l n) same ∙ known.1), is)
way_free b c written n s places.Done same is h = is

-- where files that were released may leave only if all of that is written, what may be done is free
pub task_free : (b c : Standing) (allowed : Allowed) (d : Deed) → c.released ≡ b.released → MayDoDeed b d → IsInTurn b allowed (Some d) → IfSome (task_of d) (IsFreeTask c allowed.moves)
task_free b c allowed (deeds.Move r found to) same may turn = way_free b c allowed.moves r.number may.1.stage to same turn may.4.leaves
task_free b c allowed (deeds.Ask r) same may turn = tt
task_free b c allowed (deeds.Read r found replaced) same may turn = tt
task_free b c allowed (deeds.Refuse r found why) same may turn = tt

pub departure_free : (b : Standing) (d : Deed) → MayDoDeed b d → IfSome (departure_of d) (IsFree b true)
departure_free b (deeds.Move r found to) may = way_free b b true r.number may.1.stage to refl refl may.4.leaves
departure_free b (deeds.Ask r) may = tt
departure_free b (deeds.Read r found replaced) may = tt
departure_free b (deeds.Refuse r found why) may = tt

-- a release is kept in mind

same_or_not : (n m : ℕ) → (n ≡ m) ⊎ (n ≡ m → ⊥)
same_or_not n m = grind (arith, nat_tests)

keeps_kept : (r : Release) (e : Entry) (m n : Standing) → IsReleasing r.number e m n → Keeps (λ log. IsReleasedIn log r) m n
keeps_kept r e m n k = record {
  taken = λ t shown h. subst (λ (l : List Offer). WereRead t shown l) (sym k.files) (landed_still t shown r.number landings.Released 0 m.files h);
  released = λ log g known number x is. elim (same_or_not number r.number) [
    | inl here ↦ record { release = r; released = g; number = sym here }
    | inr other ↦ known number x (sym (k.rest number other) ∙ is)
  ];
}

-- a change that reads and releases nothing
pub keeps_follows : (G : List Event → Type 0) (m n : Standing) → Follows m n → Keeps G m n
keeps_follows G m n f = record {
  taken = f.taken;
  released = λ log g known number e is. known number e (ap (λ l. entry_in l number) (sym f.released) ∙ is);
}

pub keeps_kept_or :
    {E : Type 0} (r : Release) (e : Entry) (now : ℕ) (m n : Standing) (result : Result (Unit {0}) E)
    → OnOk result (IsReleasing r.number e m n) → OnErr result (n ≡ landed_in r.number landings.Ended now m) → Keeps (λ log. IsReleasedIn log r) m n
keeps_kept_or r e now m n (Ok done) ok err = keeps_kept r e m n ok
keeps_kept_or r e now m n (Err why) ok err = keeps_follows (λ log. IsReleasedIn log r) m n (follows_landed m n r.number landings.Ended now err)

-- what was released, if anything was
pub keeps_some : (o : Option Release) (r : Release) (m n : Standing) → o ≡ Some r → Keeps (λ log. IsReleasedIn log r) m n → Keeps (Releases o) m n
keeps_some o r m n is k = subst (λ (p : Option Release). Keeps (Releases p) m n) (sym is) k

-- what is left of a list once its next is taken, if there is one
rest_suc : {X : Type 0} (i : ℕ) (xs : List X) (x : X) (rest : List X) → drop i xs ≡ x ∷ rest → drop (suc i) xs ≡ rest
rest_suc zero xs x rest is = ap (drop 1) is
rest_suc (suc i) [] x rest is = absurd (omega (arith, ap length is))
rest_suc (suc i) (y ∷ ys) x rest is = rest_suc i ys x rest is

pub rest_of : {X : Type 0} (i : ℕ) (xs : List X) (x : X) (rest : List X) → drop i xs ≡ x ∷ rest → rest ≡ drop (i + 1) xs
rest_of i xs x rest is = let next : suc i ≡ i + 1 = omega arith in subst (λ k. rest ≡ drop k xs) next (sym (rest_suc i xs x rest is))

none_suc : {X : Type 0} (i : ℕ) (xs : List X) → drop i xs ≡ [] → drop (suc i) xs ≡ []
none_suc zero xs is = ap (drop 1) is
none_suc (suc i) [] is = refl
none_suc (suc i) (y ∷ ys) is = none_suc i ys is

pub none_of : {X : Type 0} (i : ℕ) (xs : List X) → drop i xs ≡ [] → drop (i + 1) xs ≡ []
none_of i xs is = let next : suc i ≡ i + 1 = omega arith in subst (λ k. drop k xs ≡ []) next (none_suc i xs is)

pub no_more : {X : Type 0} (xs : List X) → length xs ≡ 0 → xs ≡ []
no_more [] is = refl
no_more (x ∷ xs) is = absurd (omega (arith, is))
