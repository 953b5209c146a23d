-- What is opened was under the key, and what is under a key is opened.
use Rattle.std.proofs.Common.{◌≡◌, ◌-◌, ℕ, List, length, take, ap, sym, ◌∙◌, subst, arith}
use Rattle.seals.specs.Opening.{OpensAt}
use Rattle.seals.proofs.Heads.{none_from_fault, none_from_place, opens_from_place}
use Rattle.seals.proofs.opening.open.Goals as goal

pub returns-in-Err-clause-only : goal.returns-in-Err-clause-only
returns-in-Err-clause-only c = none_from_fault c.lengths.ensures c.args.keys.now c.args.own c.args.bytes.now c.in-Err.fault (sym c.in-Err.ensures.exact)

pub returns-in_default-clause-only : goal.returns-in_default-clause-only
returns-in_default-clause-only c = none_from_place c.lengths.ensures c.args.keys.now c.args.own c.args.bytes.now c.in_default.ensures

pub returns-clause-opens : goal.returns-clause-opens
returns-clause-opens c =
    let bytes = c.args.bytes.now in
    let back = c.split_at.ensures.back in
    let shorter : length c.split_at.result.1.now - 16 ≡ length bytes - 24 - 16 = omega arith in
    let part = c.split_at-2.ensures.front
    ∙ ap (λ (n : ℕ). take n c.split_at.result.1.now) shorter
    ∙ ap (λ (l : List ℕ). take (length bytes - 24 - 16) l) back
    in
    let opens = opens_from_place c.args.keys.now c.args.own bytes c.in-Ok.head c.in-Some.place (λ i. omega (arith, c.type_inv.bytes i)) (sym c.in-Ok.ensures.exact) c.in-Some.ensures in
    subst (λ (l : List ℕ). OpensAt c.args.keys.now c.in-Some.place c.args.own bytes c.in-Ok.head.label c.in-Ok.head.index l) (sym part) opens

pub returns-clause-part : goal.returns-clause-part
returns-clause-part c =
    let o = (returns-clause-opens c).opens in
    record { is_label = record { some = o.some; few = o.few }; index_low = o.index_low; part_length = o.part_length }
