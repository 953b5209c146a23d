-- What a turn of a look adds to what was found before.
use Rattle.std.proofs.Common.{◌≡◌, ◌<◌, ◌≤◌, ℕ, suc, List, [], ◌∷◌, ◌++◌, Bool, true, false, cond, Option, Some, None, Result, Ok, Err, String, Ordering, refl, sym, ap, ◌∙◌, arith, string_bytes}
use Rattle.std.specs.declared.cmp.Ordering.TheVariants.{Less, Equal, Greater}
use Rattle.std.specs.Prelude.{OnOk, OnErr}
use Rattle.std.specs.Global.{Global}
use Rattle.std.specs.Option.{option_map, option_or}
use Rattle.std.specs.Result.{is_err}
use Rattle.std.specs.List.{AllByRecursion, cons_option, filter_map, last_or}
use Rattle.std.specs.Str.{bytes_eq}
use Rattle.std.specs.String.{string_cmp}
use Rattle.std.specs.Ordering.{match_ordering, nat_cmp}
use Rattle.std.specs.BTreeMap.{insert_entry, is_at}
use Rattle.std.specs.Map.{keys_of, lookup, values_of}
use Rattle.std.specs.List.Sorted.{IsStrictlySortedBy}
use Rattle.std.proofs.lemmas.Bool.{false_from_ne_true}
use Rattle.std.proofs.lemmas.Bool.Decides.{nat_tests}
use Rattle.std.proofs.lemmas.Slice.Eq.{bytes_eq-Decides}
use Rattle.std.proofs.lemmas.List.Elements.{filter_map-append}
use Rattle.folders.specs.declared.folders.Found as files
use Rattle.folders.specs.declared.folders.PassedOver.{PassedOver}
use Rattle.folders.specs.declared.names.FileRequest.{FileRequest}
use Rattle.folders.specs.declared.stamp.Stamp.{Stamp}
use Rattle.offers.specs.declared.offer.FoundOffer.{FoundOffer}
use Rattle.offers.specs.Order.{rank, rising_from}
use Rattle.looks.specs.Names.{name_of, IsStray}
use Rattle.looks.specs.Gathering.{GatheringValue, ArePlaced, IsGathering, PutsRequest, PutsStray, GathersFile, GathersFiles, GathersOther, GathersOthers, fault_as, other_at, request_at, stamp_as, stray_at, under}
use Rattle.looks.proofs.Naming.{same_name}

-- two names that are not one
pub differ : (a b : List ℕ) → (a ≡ b → ⊥) → bytes_eq a b ≡ false
differ a b apart = false_from_ne_true (bytes_eq a b) (λ e. apart ((bytes_eq-Decides a b).0 e))

-- what was found, or what was before
pub or_before : {X : Type 0} (b : Bool) (x : X) (before : Option X) → cond b (Some x) before ≡ option_or (cond b (Some x) None) before
or_before true x before = refl
or_before false x before = refl

-- the last of some, and of others behind them
last_append : {X : Type 0} (before : Option X) (xs ys : List X) → last_or before (xs ++ ys) ≡ last_or (last_or before xs) ys
last_append before [] ys = refl
last_append before (x ∷ xs) ys = last_append (Some x) xs ys

last_one : {X : Type 0} (before one : Option X) → last_or before (cons_option one []) ≡ option_or one before
last_one before None = refl
last_one before (Some x) = refl

-- one more was found
pub last_more :
    {A X : Type 0} (h : A → Option X) (before : Option X) (xs : List A) (x : A)
    → last_or before (filter_map h (xs ++ x ∷ [])) ≡ option_or (h x) (last_or before (filter_map h xs))
last_more h before xs x =
    ap (last_or before) (filter_map-append h xs (x ∷ [])) ∙ last_append before (filter_map h xs) (cons_option (h x) []) ∙ last_one (last_or before (filter_map h xs)) (h x)

-- what holds of all entries holds of them with one more
pub all_inserted :
    {K X : Type 0} (cmp : K → K → Ordering) (P : K × X → Type 0) (es : List (K × X)) (k : K) (v : X)
    → AllByRecursion P es → P (k, v) → ((e : K × X) → P e → cmp k e.0 ≡ Equal → P (e.0, v)) → AllByRecursion P (insert_entry cmp es k v)
all_inserted cmp P [] k v all one at = (one, tt)
all_inserted cmp P (e ∷ es) k v all one at =
    elim (cmp k e.0) as (λ o. o ≡ cmp k e.0 → AllByRecursion P (match_ordering o ((k, v) ∷ e ∷ es) ((e.0, v) ∷ es) (e ∷ insert_entry cmp es k v))) [
      | Less ↦ λ o. (one, (all.0, all.1))
      | Equal ↦ λ o. (at e all.0 (sym o), all.1)
      | Greater ↦ λ o. (all.0, all_inserted cmp P es k v all.1 one at)
    ] refl

-- equal numbers
same_number : (a b : ℕ) → nat_cmp a b ≡ Equal → a ≡ b
same_number a b e = grind (arith, nat_tests)

below : (a b : ℕ) → nat_cmp a b ≡ Less → a < b
below a b e = grind (arith, nat_tests)

-- entries in order, from a place on
all_behind : (a : ℕ) (es : List (ℕ × FoundOffer)) → AllByRecursion (λ y. nat_cmp a y ≡ Less) (keys_of es) → AllByRecursion (λ y. suc a ≤ y) (keys_of es)
all_behind a [] h = tt
all_behind a (e ∷ es) h = (omega (arith, below a e.0 h.0), all_behind a es h.1)

-- files that stand in order of their places are all of them in order
pub rising_values :
    (low : ℕ) (es : List (ℕ × FoundOffer)) → IsStrictlySortedBy nat_cmp (keys_of es) → AllByRecursion (λ y. low ≤ y) (keys_of es) → ArePlaced es
    → rising_from low (values_of es) ≡ values_of es
unfolding IsStrictlySortedBy
rising_values low [] r h placed = refl
rising_values low (e ∷ es) r h placed =
    let rest : rising_from (suc e.0) (values_of es) ≡ values_of es = rising_values (suc e.0) es r.1 (all_behind e.0 es r.0) placed.1 in
    let place : rank e.1.request ≡ e.0 = placed.0 in
    let least : low ≤ e.0 = h.0 in
    rw place (grind (arith, nat_tests, rest, least))

pub all_from_start : (es : List (ℕ × FoundOffer)) → AllByRecursion (λ y. 0 ≤ y) (keys_of es)
all_from_start [] = tt
all_from_start (e ∷ es) = (omega arith, all_from_start es)

-- of a result that is known
pub ok_gives : {A E P : Type 0} (r : Result A E) (x : A) → r ≡ Ok x → OnOk r P → P
ok_gives (Ok y) x e p = p
ok_gives (Err y) x e p = absurd (let clash : Err y ≡ Ok x = e in cc)

pub no_error_gives : {A E P : Type 0} (r : Result A E) → is_err r ≡ false → OnOk r P → P
no_error_gives (Ok y) e p = p
no_error_gives (Err y) e p = absurd (cc)

-- what follows where it went well
pub then_ok : {A E P Q : Type 0} (r : Result A E) → OnOk r P → (P → Q) → OnOk r Q
then_ok (Ok x) p f = f p
then_ok (Err e) p f = tt

-- each file stands at its own place still, and has a name that asks for nothing
pub placed_after :
    {A E : Type 0} (r : Result A E) (es new : List (ℕ × FoundOffer)) (k : ℕ) (f : FoundOffer) (strays : List (String Global × Stamp))
    → OnOk r (new ≡ insert_entry nat_cmp es k f) → OnErr r (new ≡ es) → k ≡ rank f.request → IsGathering es strays → IsGathering new strays
placed_after (Ok x) es new k f strays ok err at all = record {
  placed = rw ok (all_inserted nat_cmp (λ (e : ℕ × FoundOffer). rank e.1.request ≡ e.0) es k f all.placed (sym at) (λ e h same. sym at ∙ same_number k e.0 same));
  stray = all.stray;
}
placed_after (Err x) es new k f strays ok err at all = record { placed = rw err all.placed; stray = all.stray }

pub stray_after :
    {A E : Type 0} (r : Result A E) (requests : List (ℕ × FoundOffer)) (es new : List (String Global × Stamp)) (k : String Global) (stamp : Stamp)
    → OnOk r (new ≡ insert_entry string_cmp es k stamp) → OnErr r (new ≡ es) → IsStray (string_bytes k) → IsGathering requests es → IsGathering requests new
stray_after (Ok x) requests es new k stamp ok err at all = record {
  placed = all.placed;
  stray = rw ok (all_inserted string_cmp (λ (e : String Global × Stamp). IsStray (string_bytes e.0)) es k stamp all.stray at (λ e h same. h));
}
stray_after (Err x) requests es new k stamp ok err at all = record { placed = all.placed; stray = rw err all.stray }

-- a file whose name asks for something
pub takes_request :
    (file : files.Found) (r : FileRequest) (old new : GatheringValue)
    → string_bytes file.name ≡ name_of r → PutsRequest (record { request = r; stamp = file.stamp }) old new → old.is_broken ≡ false → GathersFile file old new
takes_request file r old new own puts whole = record {
  requests = λ s number.
      puts.requests s
      ∙ ap (λ b. cond b (Some file.stamp) (request_at old s)) (sym (same_name r s puts.request number) ∙ ap (λ n. bytes_eq n (name_of s)) (sym own))
      ∙ or_before (bytes_eq (string_bytes file.name) (name_of s)) file.stamp (request_at old s);
  strays = λ name stray.
      ap (λ es. under es name) puts.strays
      ∙ sym (ap (λ b. option_or (cond b (Some file.stamp) None) (stray_at old name))
      (differ (string_bytes file.name) name (λ e. stray.0 r.kind r.number puts.request.0 puts.request.1 (sym e ∙ own))));
  others = puts.others;
  skipped = puts.skipped;
  broken = whole;
}

-- one whose name asks for nothing
pub takes_stray :
    (file : files.Found) (old new : GatheringValue)
    → IsStray (string_bytes file.name) → PutsStray (string_bytes file.name) file.stamp old new → old.is_broken ≡ false → GathersFile file old new
takes_stray file old new own puts whole = record {
  requests = λ s number.
      ap (λ es. option_map (λ (f : FoundOffer). f.stamp) (lookup (is_at (nat_cmp (rank s))) es)) puts.requests
      ∙ sym (ap (λ b. option_or (cond b (Some file.stamp) None) (request_at old s))
      (differ (string_bytes file.name) (name_of s) (λ e. own.0 s.kind s.number number.0 number.1 e)));
  strays = λ name stray. puts.strays name ∙ or_before (bytes_eq (string_bytes file.name) name) file.stamp (stray_at old name);
  others = puts.others;
  skipped = puts.skipped;
  broken = whole;
}

-- one file more
pub file_more :
    (xs : List files.Found) (f : files.Found) (a b c : GatheringValue)
    → (b.is_broken ≡ false → GathersFiles xs a b) → GathersFile f b c → GathersFiles (xs ++ f ∷ []) a c
file_more xs f a b c before one =
    let all : GathersFiles xs a b = before one.broken in
    record {
      requests = λ r number.
          one.requests r number ∙ ap (λ o. option_or (stamp_as (name_of r) f) o) (all.requests r number)
          ∙ sym (last_more (stamp_as (name_of r)) (request_at a r) xs f);
      strays = λ name stray.
          one.strays name stray ∙ ap (λ o. option_or (stamp_as name f) o) (all.strays name stray) ∙ sym (last_more (stamp_as name) (stray_at a name) xs f);
      others = one.others ∙ all.others;
      skipped = one.skipped ∙ all.skipped;
      broken = all.broken;
    }

pub other_more :
    (xs : List PassedOver) (o : PassedOver) (a b c : GatheringValue)
    → (b.is_broken ≡ false → GathersOthers xs a b) → GathersOther o b c → GathersOthers (xs ++ o ∷ []) a c
other_more xs o a b c before one =
    let all : GathersOthers xs a b = before one.broken in
    record {
      faults = λ name.
          one.others name ∙ ap (λ f. option_or (fault_as name o) f) (all.faults name) ∙ sym (last_more (fault_as name) (other_at a name) xs o);
      requests = one.requests ∙ all.requests;
      strays = one.strays ∙ all.strays;
      skipped = one.skipped ∙ all.skipped;
      broken = all.broken;
    }
