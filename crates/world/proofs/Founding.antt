-- A world in which nothing has happened yet stands for a fresh state.
use Rattle.std.proofs.Common.{◌≡◌, ℕ, zero, suc, ◌<◌, ◌≤◌, ◌⊎◌, inl, inr, refl, sym, ap, subst, ◌∙◌, arith, List, [], ◌∷◌, ◌++◌, Some, None, length, get_or}
use Rattle.std.specs.Prelude.{◌↔◌, map, slice_get}
use Rattle.std.proofs.lemmas.List.{length-map, map-append}
use Rattle.std.proofs.lemmas.Option.{slice_get_within}
use Rattle.protocol.specs.Seats.{sits}
use Rattle.protocol.specs.Versions.{Version, One}
use Rattle.protocol.specs.Circuit.{fresh, starts}
use Rattle.rows_saved.specs.Saved.{Saved}
use Rattle.code_table.specs.Tables.{Places}
use Rattle.widths.specs.Widths.{WidthFile}
use Rattle.rows_saved.specs.declared.balky.Balky.{Balky}
use Rattle.rows_saved.specs.declared.rows.Rows.{Ghosts}
use Rattle.station.specs.declared.station.Station.{Station}
use Rattle.world.specs.declared.world.World.{World}
use Rattle.world.specs.Setups.{StationCircuit}
use Rattle.world.specs.Worlds.{station_at}
use Rattle.world.specs.Reach.{AllHonest, AllMade, Shows, StandsFor, Reached, IsReached}
use Rattle.world.specs.Laws.{CircuitsExist}
use Rattle.world.specs.Founding.{Part, Given, given_of, IsNew, AreNew, IsFounded, AreAt, AreBlank, IsNewlyMade, AreNewlyMade, IsCircuitOf}
use Rattle.world.proofs.Reaching.{found}
use Rattle.world.proofs.Members.{some_is}
use Rattle.world.proofs.Turning.{same_state}

no_item : {X : Type 0} {a : X} → None ≡ Some a → ⊥
no_item e = cc

-- what stands in a list that grew by one
grown : {X : Type 0} (xs : List X) (x : X) (i : ℕ) (y : X) → slice_get (xs ++ x ∷ []) i ≡ Some y → (slice_get xs i ≡ Some y) ⊎ (i ≡ length xs) × (x ≡ y)
grown [] x zero y e = inr (refl, some_is e)
grown [] x (suc i) y e = absurd (no_item e)
grown (z ∷ xs) x zero y e = inl e
grown (z ∷ xs) x (suc i) y e = elim (grown xs x i y e) [ inl a ↦ inl a | inr b ↦ inr (ap suc b.0, b.1) ]

pub stays : {X : Type 0} (xs : List X) (x : X) (i : ℕ) (y : X) → slice_get xs i ≡ Some y → slice_get (xs ++ x ∷ []) i ≡ Some y
stays [] x i y e = absurd (no_item e)
stays (z ∷ xs) x zero y e = e
stays (z ∷ xs) x (suc i) y e = stays xs x i y e

last : {X : Type 0} (xs : List X) (x : X) → slice_get (xs ++ x ∷ []) (length xs) ≡ Some x
last [] x = refl
last (z ∷ xs) x = last xs x

-- one member more
pub more :
    {R : Type 0} (version : R → Version) (k c : ℕ) (parts : List (Part R)) (stations : List (Station (Balky R))) (part : Part R) (s : Station (Balky R)) → length stations ≡ length parts
    → AreNew version k c parts stations → IsNew version (sits k (suc (length parts)) c) part s → AreNew version k c (parts ++ part ∷ []) (stations ++ s ∷ [])
more {R = R} version k c parts stations part s same all new i t at_i = elim (grown stations s i t at_i) [
  | inl before ↦ (let p = all i t before in (p.0, stays parts part i p.0 p.1, p.2))
  | inr now ↦ (let place : i ≡ length parts = now.0 ∙ same in
      let at_last : slice_get (parts ++ part ∷ []) i ≡ Some part = ap (slice_get (parts ++ part ∷ [])) place ∙ last parts part in
      let numbered : IsNew version (sits k (suc i) c) part s = subst (λ (j : ℕ). IsNew version (sits k (suc j) c) part s) (sym place) new in
      (part, at_last, subst (λ (u : Station (Balky R)). IsNew version (sits k (suc i) c) part u) now.1 numbered))
]

-- what a member was given, without its rows
given_at : {R : Type 0} (parts : List (Part R)) (i : ℕ) (part : Part R) → slice_get parts i ≡ Some part → slice_get (map given_of parts) i ≡ Some (given_of part)
given_at [] i part e = absurd (no_item e)
given_at {R = R} (p ∷ ps) zero part e = ap (λ (q : Part R). Some (given_of q)) (some_is e)
given_at (p ∷ ps) (suc i) part e = given_at ps i part e

module _ {R : Type 0} (is_open : R → Type 0) (saved : R → Saved) (version : R → Version) (k : ℕ) (parts : List (Part R)) (v : World R) (f : IsFounded version k parts v) (blank_rows : AreBlank is_open saved parts)
    (at : ℕ → Version) (are_at : AreAt version at parts) (z : StationCircuit) (of : IsCircuitOf k (map given_of parts) z) where
  so_many : z.count ≡ length parts
  so_many = of.count ∙ length-map parts given_of

  shows : (i : ℕ) (s : Station (Balky R)) → slice_get v.stations.items i ≡ Some s → Shows is_open saved version of.tables of.files z (fresh at) (suc i) s
  shows i s at_i =
      let p = f.stations i s at_i in
      let new : IsNew version (sits k (suc i) (length parts)) p.0 s = p.2 in
      record {
        circuit = new.circuit ∙ sym of.number;
        members = new.members ∙ sym so_many;
        me = new.me;
        table = new.table ∙ sym (of.table i (given_of p.0) (given_at parts i p.0 p.1));
        widths = new.widths ∙ sym (of.widths i (given_of p.0) (given_at parts i p.0 p.1));
        is_at = record { wire = new.wire ∙ are_at i p.0 p.1; rows = ap version new.rows ∙ are_at i p.0 p.1 };
        rows = λ here n. ap (λ (r : R). saved r n) new.rows ∙ blank_rows i p.0 p.1 (subst (λ (r : R). is_open r) new.rows here) n;
        marks = new.stands;
        stopped = new.goes;
        armed = new.unarmed;
      }

  each : (m : ℕ) (s : Station (Balky R)) → station_at v m ≡ Some s → Shows is_open saved version of.tables of.files z (fresh at) m s
  each zero s at_m = absurd (no_item at_m)
  each (suc i) s at_m = shows i s at_m

  pub founded : StandsFor is_open saved version z v (fresh at)
  founded = record {
    tables = of.tables;
    files = of.files;
    set_up = of.set_up;
    count = so_many ∙ sym f.count;
    each = each;
    sent = sym f.sent;
    offers = sym f.offers;
    releases = sym f.releases;
  }

  founded_reached : Reached is_open saved version z v
  founded_reached = (fresh at, founded, starts at (same_state (fresh at)))

-- one member more whose rows were just made
pub newly_more : {R : Type 0} (g : Ghosts R) (parts : List (Part R)) (part : Part R) → AreNewlyMade g parts → IsNewlyMade g part.2 → AreNewlyMade g (parts ++ part ∷ [])
newly_more {R = R} g parts part all new i q at_i = elim (grown parts part i q at_i) [
  | inl before ↦ all i q before
  | inr now ↦ subst (λ (p : Part R). IsNewlyMade g p.2) now.1 new
]

pub newly_none : {R : Type 0} (g : Ghosts R) → AreNewlyMade g []
newly_none g i q at_i = absurd (no_item at_i)

-- one member more whose rows are at the version of all
pub at_more : {R : Type 0} (version : R → Version) (v : Version) (parts : List (Part R)) (part : Part R) → AreAt version (λ m. v) parts → version part.2 ≡ v → AreAt version (λ m. v) (parts ++ part ∷ [])
at_more {R = R} version v parts part all new i q at_i = elim (grown parts part i q at_i) [
  | inl before ↦ all i q before
  | inr now ↦ subst (λ (p : Part R). version p.2 ≡ v) now.1 new
]

pub at_none : {R : Type 0} (version : R → Version) (v : Version) → AreAt version (λ m. v) []
at_none version v i q at_i = absurd (no_item at_i)

-- one member more of those that were given
pub given_more : {R : Type 0} (parts : List (Part R)) (part : Part R) (members : List Given) → map given_of parts ≡ members → map given_of (parts ++ part ∷ []) ≡ members ++ given_of part ∷ []
given_more parts part members e = map-append given_of parts (part ∷ []) ∙ ap (λ (ms : List Given). ms ++ given_of part ∷ []) e

get_is : {X : Type 0} (xs : List X) (i : ℕ) (d x : X) → slice_get xs i ≡ Some x → get_or xs i d ≡ x
get_is [] i d x e = absurd (no_item e)
get_is (y ∷ ys) zero d x e = some_is e
get_is (y ∷ ys) (suc i) d x e = get_is ys i d x e

-- the place of a member, which counts from 1, in a list
abbrev place : ℕ → ℕ
place zero = zero
place (suc i) = i

-- the versions of these members' rows; some version where there is no such member
abbrev versions_of : {R : Type 0} → (R → Version) → List (Part R) → ℕ → Version
versions_of version [] m = One
versions_of version (p ∷ ps) m = version (get_or (p ∷ ps) (place m) p).2

are_at : {R : Type 0} (version : R → Version) (parts : List (Part R)) → AreAt version (versions_of version parts) parts
are_at version [] i part e = absurd (no_item e)
are_at {R = R} version (p ∷ ps) i part e = ap (λ (q : Part R). version q.2) (sym (get_is (p ∷ ps) i p part e))

-- there is a circuit of these members
circuit_of : CircuitsExist → (k : ℕ) (members : List Given) → 1 ≤ length members → (z : StationCircuit) × IsCircuitOf k members z
circuit_of exist k [] low = absurd (omega (arith, low))
circuit_of exist k (d ∷ ds) low =
    let members : List Given = d ∷ ds in
    let tables : ℕ → Places = λ m. (get_or members (place m) d).0 in
    let files : ℕ → WidthFile = λ m. (get_or members (place m) d).1 in
    let p = exist k (length members) tables files in (
      p.0,
      record {
        tables = tables;
        files = files;
        set_up = p.3;
        number = p.1;
        count = p.2;
        table = λ i member e. ap (λ (q : Given). q.0) (get_is members i d member e);
        widths = λ i member e. ap (λ (q : Given). q.1) (get_is members i d member e);
      },
    )

module _ {R : Type 0} (g : Ghosts R) (halves : (s : R) → g.kept s ↔ (g.honest s × g.made s)) (exist : CircuitsExist) (k : ℕ) (parts : List (Part R)) (v : World R) (some : 1 ≤ length parts)
    (f : IsFounded g.version k parts v) (new : AreNewlyMade g parts) where
  newly_made : AllMade g.made v
  newly_made zero s at_m = absurd (no_item at_m)
  newly_made (suc i) s at_m = let p = f.stations i s at_m in subst (λ (r : R). g.made r) (sym p.2.rows) (new i p.0 p.1).0

  newly_blank : AllHonest g.honest v → AreBlank g.is_open g.saved parts
  newly_blank honest i part at_i =
      let within : i < length parts = slice_get_within parts i part at_i in
      let many : length v.stations.items ≡ length parts = f.count in
      let s = found v.stations.items i (omega (arith, within, many)) in
      let p = f.stations i s.0 s.1 in
      let is : p.0 ≡ part = some_is (sym p.1 ∙ at_i) in
      let rows : s.0.rows.rows ≡ part.2 = p.2.rows ∙ ap (λ (q : Part R). q.2) is in
      let here : g.honest part.2 = subst (λ (r : R). g.honest r) rows (honest (suc i) s.0 s.1) in
      let its = new i part at_i in
      its.1 ((halves part.2).1 (here, its.0))

  -- a world over rows that were just made for its members
  pub newly_reached : IsReached g v
  newly_reached = record {
    made = newly_made;
    reached = λ honest.
        let many = length-map parts given_of in
        let z = circuit_of exist k (map given_of parts) (omega (arith, many, some)) in
        (z.0, founded_reached g.is_open g.saved g.version k parts v f (newly_blank honest) (versions_of g.version parts) (are_at g.version parts) z.0 z.1);
  }

-- stations of all parts, and empty logs
pub are_founded :
    {R : Type 0} (version : R → Version) (k c : ℕ) (parts : List (Part R)) (v : World R) → length parts ≡ c → AreNew version k c parts v.stations.items → length v.stations.items ≡ c
    → v.sent.items ≡ [] → v.offers.items ≡ [] → v.releases.items ≡ [] → IsFounded version k parts v
are_founded {R = R} version k c parts v many new so_many sent offers releases = record {
  count = so_many ∙ sym many;
  stations = subst (λ (n : ℕ). AreNew version k n parts v.stations.items) (sym many) new;
  sent = sent;
  offers = offers;
  releases = releases;
}
