-- The lines of a galley that were written, and fronts of them.
use Rattle.std.proofs.Common.{◌≡◌, ℕ, ◌+◌, ◌<◌, List, [], ◌∷◌, ◌++◌, length, take, drop, get_or, Option, refl, sym, ap, ◌∙◌, arith, append_assoc}
use Rattle.std.specs.Io.KnownBytes.{Appends}
use Rattle.std.proofs.KnownBytes.{Appends-trans}
use Rattle.std.proofs.lemmas.List.{take-append-drop, length-take, take_more, append-nil}
use Rattle.line_check.specs.declared.slug.Slug.{Slug}
use Rattle.line_check.specs.Galley.{slug_text, galley_from}
use Rattle.streams.specs.Fronts.{AppendsFront}
use Rattle.streams.proofs.Parts.{front_of, front_then}

galley_append : (n : ℕ) (xs ys : List Slug) → galley_from n (xs ++ ys) ≡ galley_from n xs ++ galley_from (n + length xs) ys
galley_append n [] ys = ap (λ m. galley_from m ys) (omega arith)
galley_append n (x ∷ xs) ys =
    let same : n + 1 + length xs ≡ n + length (x ∷ xs) = omega arith in
    ap (λ (zs : List ℕ). slug_text n x ++ zs) (galley_append (n + 1) xs ys ∙ rw same refl) ∙ sym (append_assoc (slug_text n x) (galley_from (n + 1) xs) (galley_from (n + length (x ∷ xs)) ys))

galley_more : (slugs : List Slug) (i : ℕ) (slug : Slug) → i < length slugs → slug ≡ get_or slugs i slug
    → galley_from 1 (take (i + 1) slugs) ≡ galley_from 1 (take i slugs) ++ slug_text (i + 1) slug
galley_more slugs i slug lt is =
    let long : 1 + length (take i slugs) ≡ i + 1 = omega (arith, length-take i slugs) in
    ap (galley_from 1) (take_more slugs i slug lt) ∙ (galley_append 1 (take i slugs) (get_or slugs i slug ∷ []) ∙ rw (long, ← is) (ap (λ (ys : List ℕ). galley_from 1 (take i slugs) ++ ys) (append-nil (slug_text (i + 1) slug))))

pub wrote_slug : (slugs : List Slug) (i : ℕ) (slug : Slug) (a b c : Option (List ℕ)) → i < length slugs → slug ≡ get_or slugs i slug
    → Appends a b (galley_from 1 (take i slugs)) → Appends b c (slug_text (i + 1) slug) → Appends a c (galley_from 1 (take (i + 1) slugs))
wrote_slug slugs i slug a b c lt is p q = rw (galley_more slugs i slug lt is) (Appends-trans a b c (galley_from 1 (take i slugs)) (slug_text (i + 1) slug) p q)

pub stopped_slug : (slugs : List Slug) (i : ℕ) (slug : Slug) (a b c : Option (List ℕ)) → i < length slugs → slug ≡ get_or slugs i slug
    → Appends a b (galley_from 1 (take i slugs)) → AppendsFront b c (slug_text (i + 1) slug) → AppendsFront a c (galley_from 1 slugs)
stopped_slug slugs i slug a b c lt is p q =
    let some = rw (← galley_more slugs i slug lt is) at (front_then a b c (galley_from 1 (take i slugs)) (slug_text (i + 1) slug) p q) in
    let all = front_of a c (galley_from 1 (take (i + 1) slugs)) (galley_from (1 + length (take (i + 1) slugs)) (drop (i + 1) slugs)) some in
    rw (← galley_append 1 (take (i + 1) slugs) (drop (i + 1) slugs), take-append-drop (i + 1) slugs) at all
