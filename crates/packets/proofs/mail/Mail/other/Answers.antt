-- Below the own member the others stand at their number less one, and above it at one less.
use Rattle.std.proofs.Common.{◌≡◌, ◌+◌, Some, sym, ap, ◌∙◌, arith}
use Rattle.packets.proofs.Sending.{low_at, high_at}
use Rattle.packets.proofs.mail.Mail.other.Goals as goal

pub returns-then-next-me-clause-value : goal.returns-then-next-me-clause-value
returns-then-next-me-clause-value c =
    let me : c.get-me.result ≡ c.args.self.now.seat.me = c.get-me.ensures.value ∙ c.me.ensures.value in
    low_at c.args.self.now.seat c.args.place (omega (arith, c.if-next-me.true)) (omega (arith, c.requires)) ∙ ap (λ k. Some k) (sym c.member.ensures)

pub returns-clause-value : goal.returns-clause-value
returns-clause-value c =
    let me : c.get-me.result ≡ c.args.self.now.seat.me = c.get-me.ensures.value ∙ c.me.ensures.value in
    let is : c.args.place + 2 ≡ c.member-2.result = omega (arith, c.member-2.ensures) in
    high_at c.args.self.now.seat c.args.place c.me.ensures.member.0 (omega (arith, c.if-next-me.false)) c.requires ∙ ap (λ k. Some k) is
