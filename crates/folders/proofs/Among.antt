-- What stands in a list of numbers, and the records of one.
use Rattle.std.proofs.Common.{◌≡◌, ◌<◌, ◌+◌, ◌⊎◌, inl, inr, ℕ, zero, suc, List, [], ◌∷◌, ◌++◌, length, take, get_or, sym, ap, subst, ◌∙◌, arith, length-append, append_assoc, append-nil}
use Rattle.std.specs.Prelude.{◌↔◌}
use Rattle.std.proofs.Math.Seq.{get_or-append_seam}
use Rattle.std.proofs.lemmas.Bool.{cases_eq}
use Rattle.std.proofs.lemmas.List.{get_or_append_left, take_more}
use Rattle.gone_out.specs.declared.origin.Origin.{Origin}
use Rattle.gone_out.specs.Files.{record_bytes, records}
use Rattle.gone_out.specs.Laws.{IsAmong}

-- nothing stands in none
pub among_none : (n : ℕ) → ¬ IsAmong [] n
among_none n is = absurd (let l = is.1 in omega (arith, l))

-- one more at the front
among_at : (k : ℕ) (ks : List ℕ) (n i : ℕ) → i < length (k ∷ ks) → get_or (k ∷ ks) i 0 ≡ n → (n ≡ k) ⊎ IsAmong ks n
among_at k ks n zero within is = inl (sym is)
among_at k ks n (suc i) within is = inr (i, omega (arith, within), is)

pub among_cons : (k : ℕ) (ks : List ℕ) (n : ℕ) → IsAmong (k ∷ ks) n → (n ≡ k) ⊎ IsAmong ks n
among_cons k ks n is = among_at k ks n is.0 is.1 is.2

pub among_first : (k : ℕ) (ks : List ℕ) (n : ℕ) → n ≡ k → IsAmong (k ∷ ks) n
among_first k ks n same = (0, omega arith, sym same)

pub among_rest : (k : ℕ) (ks : List ℕ) (n : ℕ) → IsAmong ks n → IsAmong (k ∷ ks) n
among_rest k ks n is = (suc is.0, (let l = is.1 in omega (arith, l)), is.2)

-- one more at the end
pub among_push : (ns : List ℕ) (v n : ℕ) → IsAmong (ns ++ v ∷ []) n ↔ (IsAmong ns n ⊎ (n ≡ v))
among_push ns v n =
    let len : length (ns ++ v ∷ []) ≡ length ns + 1 = length-append ns (v ∷ []) in (
      λ is. elim (cases_eq is.0 (length ns)) [
        | inl last ↦ inr (sym is.2 ∙ ap (λ (i : ℕ). get_or (ns ++ v ∷ []) i 0) last ∙ get_or-append_seam ns v [] 0)
        | inr before ↦
            let within : is.0 < length ns = (let l = is.1 in omega (arith, l, len, before)) in
            inl (is.0, within, sym (get_or_append_left ns (v ∷ []) 0 is.0 within) ∙ is.2)
      ],
      λ either. elim either [
        | inl is ↦ (is.0, (let l = is.1 in omega (arith, l, len)), get_or_append_left ns (v ∷ []) 0 is.0 is.1 ∙ is.2)
        | inr same ↦ (length ns, omega (arith, len), get_or-append_seam ns v [] 0 ∙ sym same)
      ],
    )

-- one more of those that a list begins with
pub among_more : (ns : List ℕ) (i n : ℕ) → i < length ns → IsAmong (take (i + 1) ns) n ↔ (IsAmong (take i ns) n ⊎ (n ≡ get_or ns i 0))
among_more ns i n within = subst (λ (l : List ℕ). IsAmong l n ↔ (IsAmong (take i ns) n ⊎ (n ≡ get_or ns i 0))) (sym (take_more ns i 0 within)) (among_push (take i ns) (get_or ns i 0) n)

-- the record of one more
records_push : (o : Origin) (ns : List ℕ) (n : ℕ) → records o (ns ++ n ∷ []) ≡ records o ns ++ record_bytes o n
records_push o [] n = append-nil (record_bytes o n)
records_push o (m ∷ ns) n = ap (λ (l : List ℕ). record_bytes o m ++ l) (records_push o ns n) ∙ sym (append_assoc (record_bytes o m) (records o ns) (record_bytes o n))

pub records_more : (o : Origin) (ns : List ℕ) (i : ℕ) → i < length ns → records o (take (i + 1) ns) ≡ records o (take i ns) ++ record_bytes o (get_or ns i 0)
records_more o ns i within = ap (records o) (take_more ns i 0 within) ∙ records_push o (take i ns) (get_or ns i 0)
