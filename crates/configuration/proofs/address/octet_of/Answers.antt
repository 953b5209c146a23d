-- A word is short and has digits alone, or is none; then it is the number that it parses to.
use Rattle.std.proofs.Common.{◌≡◌, ◌∙◌, true, nat_le, length, sym}
use Rattle.configuration.proofs.Octets.{octet_read, octet_refused, octet_of_others, octet_long}
use Rattle.configuration.proofs.address.octet_of.Goals as goal
use Rattle.configuration.proofs.address.octet_of.Goals.{then-not-is_short-via-then-not-is_short, then-not-is_short-via-else-not-is_short+then-not-all_digits}

pub returns-then-not-is_short : goal.returns-then-not-is_short
returns-then-not-is_short c = elim c.then-not-is_short.branch [
  | then-not-is_short-via-then-not-is_short w ↦ sym (octet_long c.args.word.now (sym c.is_short.ensures ∙ w.if-not-is_short.true))
  | then-not-is_short-via-else-not-is_short+then-not-all_digits w ↦ sym (octet_of_others c.args.word.now (sym (rw w.as_bytes.ensures.value at w.all_digits.ensures) ∙ w.if-not-all_digits.true))
]

pub returns-in-Ok : goal.returns-in-Ok
returns-in-Ok c =
    let digits = sym (rw c.as_bytes.ensures.value at c.all_digits.ensures) ∙ c.if-not-all_digits.false in
    let few : nat_le (length c.args.word.now) 3 ≡ true = sym c.is_short.ensures ∙ c.if-not-is_short.false in
    sym (octet_read c.args.word.now c.in-Ok.number c.in-Ok.ensures.value.0 digits few)

pub returns-in-Err : goal.returns-in-Err
returns-in-Err c =
    let digits = sym (rw c.as_bytes.ensures.value at c.all_digits.ensures) ∙ c.if-not-all_digits.false in
    sym (octet_refused c.args.word.now c.in-Err.ensures.value.0 digits)
