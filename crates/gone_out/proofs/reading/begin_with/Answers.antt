-- What begins so is that, and what follows it.
use Rattle.std.proofs.Common.{◌++◌, ℕ, List, length, take, drop, sym, ap, ◌∙◌, refl}
use Rattle.std.proofs.lemmas.List.{take-append-drop, take_at}
use Rattle.std.proofs.lemmas.Bool.Decides.{Decides-eqb}
use Rattle.std.proofs.lemmas.Slice.Eq.{starts_is}
use Rattle.gone_out.proofs.reading.begin_with.Goals as goal

pub returns : goal.returns
returns c =
    let bytes = c.args.bytes.now in
    let front = c.args.front.now in
    let both = starts_is Decides-eqb bytes front c.starts_with.result c.starts_with.ensures.value in (
      λ is. ap (take (length front)) (both.0 is) ∙ take_at front (drop (length front) bytes) (length front) refl,
      λ is. both.1 (drop (length front) bytes) (sym (take-append-drop (length front) bytes) ∙ ap (λ (l : List ℕ). l ++ drop (length front) bytes) is),
    )
