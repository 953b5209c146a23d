-- What is read in a version says that it is of it, and its entries fit the version.
use Rattle.std.proofs.Common.{◌≡◌, ℕ, zero, suc, cond, not, ◌&&◌, ltb, leb, eqb, List, [], ◌∷◌, length, take, drop, Some, None, Ok, refl, ap, subst, ◌∙◌, arith}
use Rattle.std.specs.Prelude.{is_some, slice_index}
use Rattle.std.proofs.lemmas.Bool.{ltb-false, eqb-true, not-false}
use Rattle.std.proofs.lemmas.List.{length-take-le}
use Rattle.tape_frames.specs.Frames.{tape_fault}
use Rattle.protocol.specs.Limits.{most_frames_one}
use Rattle.protocol.specs.Ballots.{Ballot, is_below}
use Rattle.protocol.specs.Entries.{Tape, Entry, Taped}
use Rattle.protocol.specs.Rows.{Vote, vote_for}
use Rattle.protocol.specs.Versions.{Version, One, Two}
use Rattle.protocol.specs.Packets.{Packet, Body, Prepare, Promise, Accept, Accepted, Nack}
use Rattle.protocol.specs.Fitting.{Fits, BodyFits}
use Rattle.packets.specs.declared.body.PacketKind.{PacketKind}
use Rattle.packets.specs.declared.body.PacketKind.TheVariants as kinds
use Rattle.packets.specs.Grammar.{said_version, number_of_version}
use Rattle.packets.specs.Laws.{ReadAsSaid, ReadWhatFits, TwoReadsBoth}
use Rattle.packets.specs.Reading.{wanted, u16_at, kind_at, header_at, frames_at, entry_at, whole_entry_at, ballot_at, vote_at, promise_at, nack_at, body_at, packet_in}
use Rattle.packets.proofs.Taken.{bind_ok, guard, ends_ok, ok_is, between}
use Rattle.packets.proofs.Tapes.{fits_one}

-- ---- the version

said_by : (v : Version) (bytes : List ℕ) → slice_index bytes 2 ≡ number_of_version v → said_version bytes ≡ v
said_by One bytes e = ap (λ (n : ℕ). cond (eqb n 2) Two One) e
said_by Two bytes e = ap (λ (n : ℕ). cond (eqb n 2) Two One) e

kind_says : (v : Version) (bytes : List ℕ) (kind : PacketKind) → kind_at v bytes ≡ Ok kind → said_version bytes ≡ v
unfolding kind_at
kind_says v bytes kind e =
    let a = guard (ltb (length bytes) 17) _ _ kind e in
    let b = guard (not (eqb (slice_index bytes 0) 84 && eqb (slice_index bytes 1) 78)) _ _ kind a.1 in
    let c = guard (not (eqb (slice_index bytes 2) (number_of_version v))) _ _ kind b.1 in
    said_by v bytes (eqb-true _ _ (not-false _ c.0))

pub read_as_said : ReadAsSaid
unfolding packet_in header_at
read_as_said v bytes p e =
    let header = bind_ok (header_at v bytes) _ p e in
    let kind = bind_ok (kind_at v bytes) _ header.0 header.1 in
    kind_says v bytes kind.0 kind.1

pub two_reads_both : TwoReadsBoth
two_reads_both v bytes p e = ap (λ (w : Version). packet_in w bytes) (read_as_said v bytes p e) ∙ e

-- ---- the entries

frames_fit : (bytes : List ℕ) (x : Tape × List ℕ) → frames_at bytes ≡ Ok x → Fits One (Taped x.0)
unfolding frames_at
frames_fit bytes x e =
    let n = u16_at bytes 0 in
    let rest = drop 2 bytes in
    let a = guard (ltb (length bytes) 2) _ _ x e in
    let b = guard (not (leb 1 n && leb n most_frames_one)) _ _ x a.1 in
    let many = between n 1 most_frames_one (not-false _ b.0) in
    let c = guard (ltb (length rest) n) _ _ x b.1 in
    let d = guard (is_some (tape_fault (take n rest))) _ _ x c.1 in
    let len : length (take n rest) ≡ n = length-take-le n rest (ltb-false _ _ c.0) in
    subst (λ (y : Tape × List ℕ). Fits One (Taped y.0)) (ok_is (take n rest, drop n rest) x d.1) (fits_one (take n rest) (omega (arith, len, many)) (omega (arith, len, many)))

entry_fits : (v : Version) (bytes : List ℕ) (x : Entry × List ℕ) → entry_at v bytes ≡ Ok x → Fits v x.0
unfolding entry_at
entry_fits One bytes x e =
    let a = bind_ok (frames_at bytes) _ x e in
    subst (λ (y : Entry × List ℕ). Fits One y.0) (ok_is (Taped a.0.0, a.0.1) x a.2) (frames_fit bytes a.0 a.1)
entry_fits Two bytes x e = refl

whole_entry_fits : (v : Version) (bytes : List ℕ) (x : Entry) → whole_entry_at v bytes ≡ Ok x → Fits v x
unfolding whole_entry_at
whole_entry_fits v bytes x e =
    let a = bind_ok (entry_at v bytes) _ x e in
    let b = ends_ok a.0.0 x a.0.1 a.2 in
    subst (λ (y : Entry). Fits v y) b.1 (entry_fits v bytes a.0 a.1)

vote_fits : (v : Version) (ballot : Ballot) (bytes : List ℕ) (x : Vote × List ℕ) → vote_at v ballot bytes ≡ Ok x → Fits v x.0.entry
unfolding vote_at
vote_fits v ballot bytes x e =
    let a = guard (ltb (length bytes) 7) _ _ x e in
    let b = bind_ok (wanted _ (ballot_at bytes 0)) _ x a.1 in
    let c = guard (not (is_below b.0 ballot)) _ _ x b.2 in
    let d = bind_ok (entry_at v (drop 5 bytes)) _ x c.1 in
    subst (λ (y : Vote × List ℕ). Fits v y.0.entry) (ok_is (vote_for b.0 d.0.0, d.0.1) x d.2) (entry_fits v (drop 5 bytes) d.0 d.1)

promise_fits : (v : Version) (ballot : Ballot) (bytes : List ℕ) (b : Body) → promise_at v ballot bytes ≡ Ok b → BodyFits v b
unfolding promise_at
promise_fits v ballot [] b e = absurd cc
promise_fits v ballot (zero ∷ rest) b e =
    let a = ends_ok (Promise None) b rest e in
    subst (λ (y : Body). BodyFits v y) a.1 tt
promise_fits v ballot (suc zero ∷ rest) b e =
    let a = bind_ok (vote_at v ballot rest) _ b e in
    let c = ends_ok (Promise (Some a.0.0)) b a.0.1 a.2 in
    subst (λ (y : Body). BodyFits v y) c.1 (vote_fits v ballot rest a.0 a.1)
promise_fits v ballot (suc (suc n) ∷ rest) b e = absurd cc

nack_fits : (v : Version) (ballot : Ballot) (bytes : List ℕ) (b : Body) → nack_at ballot bytes ≡ Ok b → BodyFits v b
unfolding nack_at
nack_fits v ballot bytes b e =
    let a = guard (ltb (length bytes) 5) _ _ b e in
    let p = bind_ok (wanted _ (ballot_at bytes 0)) _ b a.1 in
    let c = guard (not (is_below ballot p.0)) _ _ b p.2 in
    let d = ends_ok (Nack p.0) b (drop 5 bytes) c.1 in
    subst (λ (y : Body). BodyFits v y) d.1 tt

body_fits : (v : Version) (kind : PacketKind) (ballot : Ballot) (bytes : List ℕ) (b : Body) → body_at v kind ballot bytes ≡ Ok b → BodyFits v b
unfolding body_at
body_fits v kinds.Prepare ballot bytes b e =
    let a = ends_ok Prepare b bytes e in
    subst (λ (y : Body). BodyFits v y) a.1 tt
body_fits v kinds.Promise ballot bytes b e = promise_fits v ballot bytes b e
body_fits v kinds.Accept ballot bytes b e =
    let a = bind_ok (whole_entry_at v bytes) _ b e in
    subst (λ (y : Body). BodyFits v y) (ok_is (Accept a.0) b a.2) (whole_entry_fits v bytes a.0 a.1)
body_fits v kinds.Accepted ballot bytes b e =
    let a = bind_ok (whole_entry_at v bytes) _ b e in
    subst (λ (y : Body). BodyFits v y) (ok_is (Accepted a.0) b a.2) (whole_entry_fits v bytes a.0 a.1)
body_fits v kinds.Nack ballot bytes b e = nack_fits v ballot bytes b e

pub read_what_fits : ReadWhatFits
unfolding packet_in
read_what_fits v bytes p e =
    let a = bind_ok (header_at v bytes) _ p e in
    let h = a.0 in
    let b = bind_ok (body_at v h.kind h.ballot (drop 17 bytes)) _ p a.2 in
    let made : Packet = record { circuit = h.route.circuit; from = h.route.from; to = h.route.to; number = h.number; ballot = h.ballot; body = b.0 } in
    subst (λ (x : Packet). BodyFits v x.body) (ok_is made p b.2) (body_fits v h.kind h.ballot (drop 17 bytes) b.0 b.1)
