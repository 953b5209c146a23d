-- The laws of packings.
use Rattle.std.proofs.Common.{◌≡◌, ℕ, zero, suc, ◌+◌, ◌*◌, ◌-◌, ◌/◌, ◌%◌, ◌^◌, ◌<◌, List, [], ◌∷◌, length, refl, sym, ap, subst, ◌∙◌, arith}
use Rattle.std.specs.Prelude.{slice_index}
use Rattle.tape_frames.specs.Frames.{AreFrames, IsTape}
use Rattle.tape_frames.specs.Packing.{AreBytes, Packs, none, one, two, three, four, packed_len, packing_of, unpacked, pad_of, IsPacked, OnePacking, OneUnpacking, PackedLength, HasPacking, PackingIsGiven, UnpackingUndoes, TapesArePacked, PackedAreTapes, OnePacked}

cons : {x y : ℕ} {xs ys : List ℕ} → x ≡ y → xs ≡ ys → x ∷ xs ≡ y ∷ ys
cons e f = λ i. e i ∷ f i

packing_by : (frames bytes other : List ℕ) → Packs frames bytes → Packs frames other → AreBytes bytes → AreBytes other → bytes ≡ other
packing_by frames bytes other none none h k = refl
packing_by frames bytes other (one a x p) (one b u q) h k = cons (p ∙ sym q) refl
packing_by frames bytes other (two a b x y p) (two a' b' u v q) (hx, (hy, _)) (hu, (hv, _)) =
    let e : 256 * x + y ≡ 256 * u + v = p ∙ sym q in
    cons (omega (arith, e, hy, hv)) (cons (omega (arith, e, hy, hv)) refl)
packing_by frames bytes other (three a b c x y z p) (three a' b' c' u v w q) (hx, (hy, (hz, _))) (hu, (hv, (hw, _))) =
    let e : 65536 * x + 256 * y + z ≡ 65536 * u + 256 * v + w = p ∙ sym q in
    cons (omega (arith, e, hy, hv, hz, hw)) (cons (omega (arith, e, hy, hv, hz, hw)) (cons (omega (arith, e, hy, hv, hz, hw)) refl))
packing_by frames bytes other (four a b c d x y z fs bs p ps) (four a' b' c' d' u v w gs cs q qs) (hx, (hy, (hz, h))) (hu, (hv, (hw, k))) =
    let e : 65536 * x + 256 * y + z ≡ 65536 * u + 256 * v + w = p ∙ sym q in
    cons (omega (arith, e, hy, hv, hz, hw)) (cons (omega (arith, e, hy, hv, hz, hw)) (cons (omega (arith, e, hy, hv, hz, hw)) (packing_by fs bs cs ps qs h k)))

pub one_packing : OnePacking
one_packing frames bytes other h k p q = packing_by frames bytes other p q h k

pub packed_length : PackedLength
packed_length frames bytes none = refl
packed_length frames bytes (one a x p) = refl
packed_length frames bytes (two a b x y p) = refl
packed_length frames bytes (three a b c x y z p) = refl
packed_length frames bytes (four a b c d x y z fs bs p ps) = let e = packed_length fs bs ps in omega (arith, e)

pub packing_is_given : PackingIsGiven
packing_is_given [] h = (none, tt)
packing_is_given (a ∷ []) (ha, _) = (one a (a * 4) (omega arith), (omega (arith, ha), tt))
packing_is_given (a ∷ b ∷ []) (ha, (hb, _)) = (two a b (a * 4 + b / 16) (b % 16 * 16) (omega arith), (omega (arith, ha, hb), (omega (arith, hb), tt)))
packing_is_given (a ∷ b ∷ c ∷ []) (ha, (hb, (hc, _))) =
    (three a b c (a * 4 + b / 16) (b % 16 * 16 + c / 4) (c % 4 * 64) (omega arith), (omega (arith, ha, hb), (omega (arith, hb, hc), (omega (arith, hc), tt))))
packing_is_given (a ∷ b ∷ c ∷ d ∷ frames) (ha, (hb, (hc, (hd, h)))) =
    let more = packing_is_given frames h in (
      four a b c d (a * 4 + b / 16) (b % 16 * 16 + c / 4) (c % 4 * 64 + d) frames (packing_of frames) (omega arith) more.0,
      (omega (arith, ha, hb), (omega (arith, hb, hc), (omega (arith, hc, hd), more.1))),
    )

pub has_packing : HasPacking
has_packing frames h = let given = packing_is_given frames h in (packing_of frames, given.0, given.1)

unpacking_by : (frames other bytes : List ℕ) → Packs frames bytes → Packs other bytes → length frames ≡ length other → AreFrames frames → AreFrames other → frames ≡ other
unpacking_by frames other bytes none none l h k = refl
unpacking_by frames other bytes (one a x p) (one b u q) l h k = cons (omega (arith, p, q)) refl
unpacking_by frames other bytes (two a b x y p) (two c d u v q) l (ha, (hb, _)) (hc, (hd, _)) =
    cons (omega (arith, p, q, hb, hd)) (cons (omega (arith, p, q, hb, hd)) refl)
unpacking_by frames other bytes (three a b c x y z p) (three a' b' c' u v w q) l (ha, (hb, (hc, _))) (ka, (kb, (kc, _))) =
    cons (omega (arith, p, q, hb, hc, kb, kc)) (cons (omega (arith, p, q, hb, hc, kb, kc)) (cons (omega (arith, p, q, hb, hc, kb, kc)) refl))
unpacking_by frames other bytes (four a b c d x y z fs bs p ps) (four a' b' c' d' u v w gs cs q qs) l (ha, (hb, (hc, (hd, h)))) (ka, (kb, (kc, (kd, k)))) =
    cons (omega (arith, p, q, hb, hc, hd, kb, kc, kd)) (cons (omega (arith, p, q, hb, hc, hd, kb, kc, kd)) (cons (omega (arith, p, q, hb, hc, hd, kb, kc, kd)) (cons (omega (arith, p, q, hb, hc, hd, kb, kc, kd)) (unpacking_by fs gs bs ps qs (omega (arith, l)) h k))))
unpacking_by frames other bytes (three a b c x y z p) (four a' b' c' d' u v w gs cs q qs) l h k = absurd (omega (arith, l))
unpacking_by frames other bytes (four a b c d x y z fs bs p ps) (three a' b' c' u v w q) l h k = absurd (omega (arith, l))

pub one_unpacking : OneUnpacking
one_unpacking frames other bytes h k l p q = unpacking_by frames other bytes p q l h k

undoes_by : (frames bytes : List ℕ) → Packs frames bytes → AreFrames frames → AreBytes bytes → unpacked (length frames) bytes ≡ frames
undoes_by frames bytes none h k = refl
undoes_by frames bytes (one a x p) h k = cons (omega (arith, p)) refl
undoes_by frames bytes (two a b x y p) (ha, (hb, _)) (kx, (ky, _)) = cons (omega (arith, p, hb, ky)) (cons (omega (arith, p, hb, ky)) refl)
undoes_by frames bytes (three a b c x y z p) (ha, (hb, (hc, _))) (kx, (ky, (kz, _))) =
    cons (omega (arith, p, hb, hc, ky, kz)) (cons (omega (arith, p, hb, hc, ky, kz)) (cons (omega (arith, p, hb, hc, ky, kz)) refl))
undoes_by frames bytes (four a b c d x y z fs bs p ps) (ha, (hb, (hc, (hd, h)))) (kx, (ky, (kz, k))) =
    cons (omega (arith, p, hb, hc, hd, ky, kz)) (cons (omega (arith, p, hb, hc, hd, ky, kz)) (cons (omega (arith, p, hb, hc, hd, ky, kz)) (cons (omega (arith, p, hb, hc, hd, ky, kz)) (undoes_by fs bs ps h k))))

pub unpacking_undoes : UnpackingUndoes
unpacking_undoes frames bytes h k p = undoes_by frames bytes p h k

-- the pad of bytes is that of the bytes behind their first group of four frames
pad_later : (n x y z b : ℕ) (bs : List ℕ) → pad_of (suc (suc (suc (suc n)))) (x ∷ y ∷ z ∷ b ∷ bs) ≡ pad_of n (b ∷ bs)
pad_later n x y z b bs =
    let at : length (x ∷ y ∷ z ∷ b ∷ bs) - 1 ≡ suc (suc (suc (length (b ∷ bs) - 1))) = omega arith in
    let left : suc (suc (suc (suc n))) % 4 ≡ n % 4 = omega arith in
    λ i. slice_index (x ∷ y ∷ z ∷ b ∷ bs) (at i) % 4 ^ left i

pads : (frames bytes : List ℕ) → Packs frames bytes → pad_of (length frames) bytes ≡ 0
pads frames bytes none = refl
pads frames bytes (one a x p) = omega (arith, p)
pads frames bytes (two a b x y p) = omega (arith, p)
pads frames bytes (three a b c x y z p) = omega (arith, p)
pads frames bytes (four a b c d x y z fs [] p none) = omega arith
pads frames bytes (four a b c d x y z fs (e ∷ bs) p ps) = pad_later (length fs) x y z e bs ∙ pads fs (e ∷ bs) ps

pub tapes_are_packed : TapesArePacked
tapes_are_packed tape bytes is h p = record { small = h; some = is.some; few = is.few; whole = packed_length tape bytes p; pad = pads tape bytes p }

-- bytes and how many frames they stand for
record Taken (n : ℕ) (bytes : List ℕ) : Type 0 where
  pub small : AreFrames (unpacked n bytes)
  pub many : length (unpacked n bytes) ≡ n
  pub packs : Packs (unpacked n bytes) bytes

taken : (n : ℕ) (bytes : List ℕ) → AreBytes bytes → length bytes ≡ packed_len n → pad_of n bytes ≡ 0 → Taken n bytes
taken zero [] h l e = record { small = tt; many = refl; packs = none }
taken zero (x ∷ bytes) h l e = absurd (omega (arith, l))
taken (suc zero) [] h l e = absurd (omega (arith, l))
taken (suc zero) (x ∷ []) (hx, _) l e = record { small = (omega (arith, hx), tt); many = refl; packs = one (x / 4) x (omega (arith, e)) }
taken (suc zero) (x ∷ y ∷ bytes) h l e = absurd (omega (arith, l))
taken (suc (suc zero)) [] h l e = absurd (omega (arith, l))
taken (suc (suc zero)) (x ∷ []) h l e = absurd (omega (arith, l))
taken (suc (suc zero)) (x ∷ y ∷ []) (hx, (hy, _)) l e =
    record { small = (omega (arith, hx), (omega (arith, hy), tt)); many = refl; packs = two (x / 4) (x % 4 * 16 + y / 16) x y (omega (arith, e)) }
taken (suc (suc zero)) (x ∷ y ∷ z ∷ bytes) h l e = absurd (omega (arith, l))
taken (suc (suc (suc zero))) [] h l e = absurd (omega (arith, l))
taken (suc (suc (suc zero))) (x ∷ []) h l e = absurd (omega (arith, l))
taken (suc (suc (suc zero))) (x ∷ y ∷ []) h l e = absurd (omega (arith, l))
taken (suc (suc (suc zero))) (x ∷ y ∷ z ∷ []) (hx, (hy, (hz, _))) l e =
    record {
      small = (omega (arith, hx), (omega (arith, hy), (omega (arith, hz), tt)));
      many = refl;
      packs = three (x / 4) (x % 4 * 16 + y / 16) (y % 16 * 4 + z / 64) x y z (omega (arith, e));
    }
taken (suc (suc (suc zero))) (x ∷ y ∷ z ∷ b ∷ bytes) h l e = absurd (omega (arith, l))
taken (suc (suc (suc (suc n)))) [] h l e = absurd (omega (arith, l))
taken (suc (suc (suc (suc n)))) (x ∷ []) h l e = absurd (omega (arith, l))
taken (suc (suc (suc (suc n)))) (x ∷ y ∷ []) h l e = absurd (omega (arith, l))
taken (suc (suc (suc (suc n)))) (x ∷ y ∷ z ∷ bytes) (hx, (hy, (hz, h))) l e =
    let more = taken n bytes h (omega (arith, l)) (later n x y z bytes (omega (arith, l)) e) in
    record {
      small = (omega (arith, hx), (omega (arith, hy), (omega (arith, hz), (omega arith, more.small))));
      many = ap (λ (k : ℕ). suc (suc (suc (suc k)))) more.many;
      packs = four (x / 4) (x % 4 * 16 + y / 16) (y % 16 * 4 + z / 64) (z % 64) x y z (unpacked n bytes) bytes (omega arith) more.packs;
    }
  where
    later : (n x y z : ℕ) (bs : List ℕ) → length bs ≡ packed_len n → pad_of (suc (suc (suc (suc n)))) (x ∷ y ∷ z ∷ bs) ≡ 0 → pad_of n bs ≡ 0
    later zero x y z [] l e = refl
    later (suc n) x y z [] l e = absurd (omega (arith, l))
    later n x y z (b ∷ bs) l e = sym (pad_later n x y z b bs) ∙ e

pub packed_are_tapes : PackedAreTapes
packed_are_tapes n bytes is =
    let t = taken n bytes is.small is.whole is.pad in
    let some = is.some in
    let few = is.few in
    let many = t.many in
    (record { some = omega (arith, some, many); few = omega (arith, few, many); small = t.small }, t.many, t.packs)

-- and it is the packing that is given
pub packed_are_packing : (frames : ℕ) (bytes : List ℕ) → IsPacked frames bytes → bytes ≡ packing_of (unpacked frames bytes)
packed_are_packing frames bytes is =
    let t = packed_are_tapes frames bytes is in
    let tape : IsTape (unpacked frames bytes) = t.0 in
    let given = packing_is_given (unpacked frames bytes) tape.small in
    one_packing (unpacked frames bytes) bytes (packing_of (unpacked frames bytes)) is.small given.1 t.2 given.0

pub one_packed : OnePacked
one_packed frames others bytes other is are e =
    let a = packed_are_tapes frames bytes is in
    let b = packed_are_tapes others other are in (
      sym a.1 ∙ ap (λ (xs : List ℕ). length xs) e ∙ b.1,
      one_packing (unpacked others other) bytes other is.small are.small (subst (λ (xs : List ℕ). Packs xs bytes) e a.2) b.2,
    )

-- what holds a byte at each place is bytes
pub are_bytes : (bytes : List ℕ) → ((i : ℕ) → slice_index bytes i < 256) → AreBytes bytes
are_bytes [] h = tt
are_bytes (x ∷ bytes) h = (h 0, are_bytes bytes (λ i. h (suc i)))
