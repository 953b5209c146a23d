-- Stations that are read stand in order: as many members as entries, each with its one address.
use Rattle.std.proofs.Common.{◌≡◌, ◌≢◌, ℕ, zero, suc, ℤ, pos, negsuc, ◌+◌, ◌-◌, ◌<◌, ◌≤◌, ◌==◌, ◌&&◌, ◌||◌, not, nat_le, Bool, true, false, cond, List, [], ◌∷◌, ◌++◌, length, slice_get, Option, Some, None, Result, Ok, Err, codes, refl, sym, subst, ◌∙◌, arith, add-one, append_assoc, length-append}
use Rattle.std.specs.List.{cons_option, AllByRecursion}
use Rattle.std.specs.Str.{bytes_eq}
use Rattle.std.specs.Option.{option_or}
use Rattle.std.proofs.lemmas.List.Folds.{find-append}
use Rattle.std.proofs.lemmas.Bool.{and_parts}
use Rattle.std.proofs.lemmas.Bool.Decides.{nat_tests}
use Rattle.std.proofs.lemmas.Option.{cond_some}
use Rattle.toml.specs.Data.{Data, Items, Members, get_member, as_integer, as_table}
use Rattle.wire.specs.declared.address.Address.{Address}
use Rattle.configuration.specs.Keys.{in_range, count, wanted, holds}
use Rattle.configuration.specs.Keys as keys
use Rattle.configuration.specs.Addresses.{◌>>=◌, number_in}
use Rattle.configuration.specs.Stations.{AreInOrder, are_at_odds, is_taken, Found, found_at, ip_in, address_of, read_entry, item_at, first_addresses, addresses_of, address_among, of_members, in_order, read_stations}
use Rattle.configuration.specs.declared.fault.ConfigFault.{ConfigFault}
use Rattle.configuration.specs.declared.fault.ConfigFault.TheVariants.{BadStation}

-- what the steps to a value gave
bind_some : {A B : Type 0} (o : Option A) (f : A → Option B) (y : B) → (o >>= f) ≡ Some y → (x : A) × (o ≡ Some x) × (f x ≡ Some y)
bind_some None f y h = absurd cc
bind_some (Some x) f y h = (x, refl, h)

in_range_bounds : (least most : ℕ) (z : ℤ) (n : ℕ) → in_range least most z ≡ Some n → (least ≤ n) × (n ≤ most)
unfolding in_range
in_range_bounds least most (pos m) n h =
    let parts = cond_some (nat_le least m && nat_le m most) m n h in
    let tests = and_parts (nat_le least m) (nat_le m most) parts.0 in
    let low : nat_le least m ≡ true = tests.0 in
    let high : nat_le m most ≡ true = tests.1 in
    let same : m ≡ n = parts.1 in
    (grind (arith, nat_tests), grind (arith, nat_tests))
in_range_bounds least most (negsuc m) n h = absurd cc

number_in_bounds : (key : List ℕ) (least most : ℕ) (entry : Members) (n : ℕ) → number_in key least most entry ≡ Some n → (least ≤ n) × (n ≤ most)
unfolding number_in
number_in_bounds key least most entry n h =
    let value = bind_some (get_member key entry) (λ value. as_integer value >>= (λ number. in_range least most number)) n h in
    let number = bind_some (as_integer value.0) (λ number. in_range least most number) n value.2 in
    in_range_bounds least most number.0 n number.2

-- the address of an entry is of one of the members, at a port above 0
pub record IsOfMembers (members : ℕ) (address : Address) : Type 0 where
  pub first : 1 ≤ address.member
  pub last : address.member ≤ members
  pub port : 0 < address.port

-- what the steps to a value gave, up to the first fault
bind_ok : {A B : Type 0} (r : Result A ConfigFault) (f : A → Result B ConfigFault) (y : B) → keys.◌>>=◌ r f ≡ Ok y → (x : A) × (r ≡ Ok x) × (f x ≡ Ok y)
bind_ok (Err e) f y h = absurd cc
bind_ok (Ok x) f y h = (x, refl, h)

wanted_some : {A : Type 0} (e : ConfigFault) (o : Option A) (x : A) → wanted e o ≡ Ok x → o ≡ Some x
wanted_some e None x h = absurd cc
wanted_some e (Some y) x h =
    let same : y ≡ x = cc in
    rw same refl

of_entry : (members place : ℕ) (found : Option (List ℕ)) (entry : Data) (address : Address) → address_of members place found entry ≡ Ok address → IsOfMembers members address
unfolding address_of
of_entry members place found entry address h =
    let bad = BadStation place in
    let table = bind_ok (wanted bad (as_table entry)) (λ ks. keys.◌>>=◌ (wanted bad (number_in (codes "member") 1 members ks)) (λ member. keys.◌>>=◌ (wanted bad (number_in (codes "port") 1 65535 ks)) (λ port. keys.◌>>=◌ (ip_in place found ks) (λ ip. Ok (record { member = member; ip = ip; port = port }))))) address h in
    let member = bind_ok (wanted bad (number_in (codes "member") 1 members table.0)) (λ member. keys.◌>>=◌ (wanted bad (number_in (codes "port") 1 65535 table.0)) (λ port. keys.◌>>=◌ (ip_in place found table.0) (λ ip. Ok (record { member = member; ip = ip; port = port })))) address table.2 in
    let port = bind_ok (wanted bad (number_in (codes "port") 1 65535 table.0)) (λ port. keys.◌>>=◌ (ip_in place found table.0) (λ ip. Ok (record { member = member.0; ip = ip; port = port }))) address member.2 in
    let ip = bind_ok (ip_in place found table.0) (λ ip. Ok (record { member = member.0; ip = ip; port = port.0 })) address port.2 in
    let member_range = number_in_bounds (codes "member") 1 members table.0 member.0 (wanted_some bad (number_in (codes "member") 1 members table.0) member.0 member.1) in
    let port_range = number_in_bounds (codes "port") 1 65535 table.0 port.0 (wanted_some bad (number_in (codes "port") 1 65535 table.0) port.0 port.1) in
    let whole : Ok (record { member = member.0; ip = ip.0; port = port.0 }) ≡ Ok address = ip.2 in
    let same_member : member.0 ≡ address.member = cc in
    let same_port : port.0 ≡ address.port = cc in
    record { first = omega (arith, member_range.0, same_member); last = omega (arith, member_range.1, same_member); port = omega (arith, port_range.0, same_port) }

-- an address that none is at odds with is of a member that none has
or_no : (a b : Bool) → (a || b) ≡ false → (a ≡ false) × (b ≡ false)
or_no true b h = absurd cc
or_no false b h = (refl, h)

untaken : (addresses : List Address) (address : Address) → is_taken addresses address ≡ false → address_among addresses address.member ≡ None
untaken [] address h = refl
untaken (other ∷ rest) address h =
    let parts = or_no (are_at_odds other address) (is_taken rest address) h in
    let test = (or_no (other.member == address.member) (bytes_eq other.ip address.ip && (other.port == address.port)) parts.0).0 in
    rw test (untaken rest address parts.1)

-- how many of so many members from this one on have an address among these
abbrev is_there : Option Address → ℕ
is_there None = 0
is_there (Some address) = 1

abbrev there : ℕ → ℕ → List Address → ℕ
there member zero addresses = 0
there member (suc more) addresses = is_there (address_among addresses member) + there (suc member) more addresses

is_there-le : (o : Option Address) → is_there o ≤ 1
is_there-le None = omega arith
is_there-le (Some address) = omega arith

there-le : (member more : ℕ) (addresses : List Address) → there member more addresses ≤ more
there-le member zero addresses = omega arith
there-le member (suc more) addresses =
    let first = is_there-le (address_among addresses member) in
    let others = there-le (suc member) more addresses in
    omega arith

among_other : (addresses : List Address) (address : Address) (member : ℕ) → address.member ≢ member → address_among (addresses ++ address ∷ []) member ≡ address_among addresses member
among_other addresses address member other =
    let test : (address.member == member) ≡ false = grind (arith, nat_tests) in
    find-append (λ a. a.member == member) addresses (address ∷ []) ∙ rw test (or_none (address_among addresses member))
  where
    or_none : (o : Option Address) → option_or o None ≡ o
    or_none None = refl
    or_none (Some a) = refl

among_same : (addresses : List Address) (address : Address) (member : ℕ) → address.member ≡ member → address_among addresses member ≡ None → address_among (addresses ++ address ∷ []) member ≡ Some address
among_same addresses address member same free =
    let test : (address.member == member) ≡ true = grind (arith, nat_tests) in
    find-append (λ a. a.member == member) addresses (address ∷ []) ∙ rw (free, test) refl

there_after : (addresses : List Address) (address : Address) (member more : ℕ) → address.member < member → there member more (addresses ++ address ∷ []) ≡ there member more addresses
there_after addresses address member zero below = refl
there_after addresses address member (suc more) below =
    rw (among_other addresses address member (omega arith), there_after addresses address (suc member) more (omega arith)) refl

there_more : (addresses : List Address) (address : Address) (member more : ℕ) → member ≤ address.member → address.member < member + more → address_among addresses address.member ≡ None → there member more (addresses ++ address ∷ []) ≡ there member more addresses + 1
there_more addresses address member zero low high free = absurd (omega arith)
there_more addresses address member (suc more) low high free = go (address.member == member) refl (λ (other : address.member ≢ member). there_more addresses address (suc member) more (omega arith) (omega arith) free)
  where
    go : (b : Bool) → (address.member == member) ≡ b → (address.member ≢ member → there (suc member) more (addresses ++ address ∷ []) ≡ there (suc member) more addresses + 1) → there member (suc more) (addresses ++ address ∷ []) ≡ there member (suc more) addresses + 1
    go true e later =
        let same : address.member ≡ member = grind (arith, nat_tests) in
        let none : address_among addresses member ≡ None = rw same at free in
        let others = there_after addresses address (suc member) more (omega arith) in
        rw (among_same addresses address member same none, none, others) (omega arith)
    go false e later =
        let other : address.member ≢ member = grind (arith, nat_tests) in
        let others = later other in
        rw (among_other addresses address member other, others) (omega arith)

-- addresses that were read: of the members, each of another
pub record AreApart (members : ℕ) (addresses : List Address) : Type 0 where
  pub each : AllByRecursion (IsOfMembers members) addresses
  pub others : there 1 members addresses ≡ length addresses

all_more : {A : Type 0} (P : A → Type 0) (xs : List A) (x : A) → AllByRecursion P xs → P x → AllByRecursion P (xs ++ x ∷ [])
all_more P [] x h p = (p, tt)
all_more P (y ∷ ys) x h p = (h.0, all_more P ys x h.1 p)

apart_more : (members : ℕ) (addresses : List Address) (address : Address) → AreApart members addresses → IsOfMembers members address → is_taken addresses address ≡ false → AreApart members (addresses ++ address ∷ [])
apart_more members addresses address apart one free =
    let first = one.first in
    let last = one.last in
    let more = there_more addresses address 1 members first (omega arith) (untaken addresses address free) in
    let so_far = apart.others in
    let long : length (addresses ++ address ∷ []) ≡ length addresses + 1 = rw length-append refl in
    record {
      each = all_more (IsOfMembers members) addresses address apart.each one;
      others = omega arith;
    }

-- one entry more
entry_is : (members : ℕ) (earlier : List Address) (place : ℕ) (found : Option (List ℕ)) (entry : Data) (address : Address) → read_entry members earlier place found entry ≡ Ok address → IsOfMembers members address × (is_taken earlier address ≡ false)
unfolding read_entry
entry_is members earlier place found entry address h = go (address_of members place found entry) (of_entry members place found entry) h
  where
    go : (o : Result Address ConfigFault) → ((a : Address) → o ≡ Ok a → IsOfMembers members a) → keys.◌>>=◌ o (λ a. keys.◌>>=◌ (holds (BadStation place) (not (is_taken earlier a))) (λ _. Ok a)) ≡ Ok address → IsOfMembers members address × (is_taken earlier address ≡ false)
    go (Err fault) of e = absurd cc
    go (Ok a) of e = free (is_taken earlier a) refl e
      where
        free : (b : Bool) → is_taken earlier a ≡ b → keys.◌>>=◌ (holds (BadStation place) (not b)) (λ _. Ok a) ≡ Ok address → IsOfMembers members address × (is_taken earlier address ≡ false)
        free true t f = absurd cc
        free false t f =
            let same : a ≡ address = cc in
            subst (λ (x : Address). IsOfMembers members x × (is_taken earlier x ≡ false)) same (of a refl, t)

none_there : (member more : ℕ) → there member more [] ≡ 0
none_there member zero = refl
none_there member (suc more) = omega (arith, none_there (suc member) more)

-- all entries
pub record AreRead (members many : ℕ) (addresses : List Address) : Type 0 where
  pub apart : AreApart members addresses
  pub number : length addresses ≡ many

entries_are : (members : ℕ) (found : Found) (entries : Items) (n : ℕ) (all : List Address) → first_addresses members found entries n ≡ Ok all → AreRead members n all
entries_are members found entries zero all h =
    let same : [] ≡ all = cc in
    subst (λ (l : List Address). AreRead members 0 l) same (record { apart = record { each = tt; others = none_there 1 members }; number = refl })
entries_are members found entries (suc n) all h = go (first_addresses members found entries n) (entries_are members found entries n) h
  where
    go : (r : Result (List Address) ConfigFault) → ((earlier : List Address) → r ≡ Ok earlier → AreRead members n earlier) → keys.◌>>=◌ r (λ earlier. keys.◌>>=◌ (read_entry members earlier (suc n) (found_at found n) (item_at entries n)) (λ address. Ok (earlier ++ address ∷ []))) ≡ Ok all → AreRead members (suc n) all
    go (Err fault) before e = absurd cc
    go (Ok earlier) before e = one (read_entry members earlier (suc n) (found_at found n) (item_at entries n)) refl e
      where
        one : (r : Result Address ConfigFault) → read_entry members earlier (suc n) (found_at found n) (item_at entries n) ≡ r → keys.◌>>=◌ r (λ address. Ok (earlier ++ address ∷ [])) ≡ Ok all → AreRead members (suc n) all
        one (Err fault) is f = absurd cc
        one (Ok address) is f =
            let same : earlier ++ address ∷ [] ≡ all = cc in
            let facts = entry_is members earlier (suc n) (found_at found n) (item_at entries n) address is in
            let so_far = before earlier refl in
            let long : length (earlier ++ address ∷ []) ≡ length earlier + 1 = rw length-append refl in
            subst (λ (l : List Address). AreRead members (suc n) l) same (record {
              apart = apart_more members earlier address so_far.apart facts.0 facts.1;
              number = omega (arith, so_far.number);
            })

among_is : (members : ℕ) (addresses : List Address) (member : ℕ) (a : Address) → AllByRecursion (IsOfMembers members) addresses → address_among addresses member ≡ Some a → (a.member ≡ member) × (0 < a.port)
among_is members [] member a each h = absurd cc
among_is members (other ∷ rest) member a each h = go (other.member == member) refl (among_is members rest member a each.1) h
  where
    go : (b : Bool) → (other.member == member) ≡ b → (address_among rest member ≡ Some a → (a.member ≡ member) × (0 < a.port)) → cond b (Some other) (address_among rest member) ≡ Some a → (a.member ≡ member) × (0 < a.port)
    go true e later f =
        let same : other ≡ a = cc in
        let of : other.member ≡ member = grind (arith, nat_tests) in
        subst (λ (x : Address). (x.member ≡ member) × (0 < x.port)) same (of, each.0.port)
    go false e later f = later f

ordered : (members : ℕ) (addresses : List Address) (member more : ℕ) → AllByRecursion (IsOfMembers members) addresses → there member more addresses ≡ more → (i : ℕ) (a : Address) → slice_get (of_members member more addresses) i ≡ Some a → (a.member ≡ member + i) × (0 < a.port)
ordered members addresses member zero each full i a h = absurd cc
ordered members addresses member (suc more) each full i a h = go (address_among addresses member) refl full (λ full i. ordered members addresses (suc member) more each full i a) i h
  where
    at_most : there (suc member) more addresses ≤ more
    at_most = there-le (suc member) more addresses

    go : (o : Option Address) → address_among addresses member ≡ o → is_there o + there (suc member) more addresses ≡ suc more → (there (suc member) more addresses ≡ more → (i : ℕ) → slice_get (of_members (suc member) more addresses) i ≡ Some a → (a.member ≡ suc member + i) × (0 < a.port)) → (i : ℕ) → slice_get (cons_option o (of_members (suc member) more addresses)) i ≡ Some a → (a.member ≡ member + i) × (0 < a.port)
    go None is full others i h = absurd (omega (arith, at_most))
    go (Some x) is full others zero h =
        let same : x ≡ a = cc in
        let it = among_is members addresses member x each is in
        subst (λ (y : Address). (y.member ≡ member + 0) × (0 < y.port)) same (omega (arith, it.0), it.1)
    go (Some x) is full others (suc i) h =
        let it = others (omega arith) i h in
        (omega (arith, it.0), it.1)

of_members-le : (addresses : List Address) (member more : ℕ) → length (of_members member more addresses) ≤ more
of_members-le addresses member zero = omega arith
of_members-le addresses member (suc more) = go (address_among addresses member) (of_members-le addresses (suc member) more)
  where
    go : (o : Option Address) → length (of_members (suc member) more addresses) ≤ more → length (cons_option o (of_members (suc member) more addresses)) ≤ suc more
    go None others = omega arith
    go (Some a) others = omega arith

-- the stations of an array
pub record AreStations (entries : Items) (stations : List Address) : Type 0 where
  pub order : AreInOrder stations
  pub most : length stations ≤ count entries

pub stations_are : (found : Found) (entries : Items) (stations : List Address) → read_stations found entries ≡ Ok stations → AreStations entries stations
unfolding read_stations in_order
stations_are found entries stations h = go (addresses_of found entries) refl h
  where
    go : (r : Result (List Address) ConfigFault) → addresses_of found entries ≡ r → keys.◌>>=◌ r (λ addresses. Ok (of_members 1 (length addresses) addresses)) ≡ Ok stations → AreStations entries stations
    go (Err fault) is e = absurd cc
    go (Ok addresses) is e =
        let read = entries_are (count entries) found entries (count entries) addresses is in
        let number = read.number in
        let full : there 1 (length addresses) addresses ≡ length addresses = subst (λ (n : ℕ). there 1 n addresses ≡ length addresses) (sym number) read.apart.others in
        let same : of_members 1 (length addresses) addresses ≡ stations = cc in
        let short = of_members-le addresses 1 (length addresses) in
        subst (λ (l : List Address). AreStations entries l) same (record {
          order = λ i a here. let it = ordered (count entries) addresses 1 (length addresses) read.apart.each full i a here in (omega (arith, it.0), it.1);
          most = omega arith;
        })

-- the addresses of the members so far, and one member more
pub after_none : (addresses done all : List Address) (index : ℕ) → index < length addresses → address_among addresses (index + 1) ≡ None → done ++ of_members (index + 1) (length addresses - index) addresses ≡ all → done ++ of_members (index + 1 + 1) (length addresses - (index + 1)) addresses ≡ all
after_none addresses done all index within none h =
    let left : length addresses - index ≡ suc (length addresses - (index + 1)) = omega arith in
    rw add-one (rw none at (rw left at h))

pub after_some : (addresses done all : List Address) (index : ℕ) (address : Address) → index < length addresses → address_among addresses (index + 1) ≡ Some address → done ++ of_members (index + 1) (length addresses - index) addresses ≡ all → (done ++ address ∷ []) ++ of_members (index + 1 + 1) (length addresses - (index + 1)) addresses ≡ all
after_some addresses done all index address within some h =
    let left : length addresses - index ≡ suc (length addresses - (index + 1)) = omega arith in
    rw (append_assoc, add-one) (rw some at (rw left at h))

pub at_start : (addresses done : List Address) → done ≡ [] → done ++ of_members (0 + 1) (length addresses - 0) addresses ≡ in_order addresses
unfolding in_order
at_start addresses done h =
    let all : length addresses - 0 ≡ length addresses = omega arith in
    rw (h, all) refl

-- the stations are the addresses in order
pub stations_from : (found : Found) (entries : Items) (addresses : List Address) → addresses_of found entries ≡ Ok addresses → read_stations found entries ≡ Ok (in_order addresses)
unfolding read_stations
stations_from found entries addresses h = rw h refl

pub stations_stop : (found : Found) (entries : Items) (fault : ConfigFault) → addresses_of found entries ≡ Err fault → read_stations found entries ≡ Err fault
unfolding read_stations
stations_stop found entries fault h = rw h refl
