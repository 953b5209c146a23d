-- What was saved is stored, what waited is handed on, and behind it a recall or a roll is sent beside the packets.
use Rattle.std.proofs.Common.{rules, ◌≡◌, ap, sym, ◌∙◌}
use Rattle.command_ends.specs.Ends.{end_of}
use Rattle.command_ends.specs.declared.end.End.TheVariants.{Done}
use Rattle.driver.specs.Events.{ended}
use Rattle.driver.proofs.Stretches.{ends_badly}
use Rattle.driver.specs.Driving.{known, fate_of, post_behind, sends, sends_of, IsStoring}
use Rattle.driver.specs.Todos.{IsHailing}
use Rattle.driver.proofs.Driven.{answered, hailed_behind, of_form}
use Rattle.driver.proofs.driver.Driver.hail.Goals as goal

pub returns-in_err-settle_group : goal.returns-in_err-settle_group
returns-in_err-settle_group g c =
    let k = known g.R.Rows g.R.Settles.is_settled g.N.Wire.passed (fate_of g.S.Sink) in
    let old = post_behind c.args.self.now (sends_of c.args.group.now) in
    let new = post_behind c.settle_group.new.self (sends_of c.settle_group.new.group) in
    let fault = c.in_err-settle_group.field-0.0 in
    let same : ended c.from_residual.result ≡ end_of fault = search rules in
    record {
      hands = c.in_err-settle_group.ensures.drove.hands;
      done = of_form k old new (ended c.from_residual.result) IsStoring (IsHailing c.args.hail.to c.args.hail.bytes.now) (λ log done form. absurd (ends_badly fault (sym same ∙ done)))
          (answered k old new (end_of fault) (ended c.from_residual.result) IsStoring same c.in_err-settle_group.ensures.drove.done);
    }

pub returns : goal.returns
returns g c =
    let old = c.args.self.now in
    let new = c.settle_group.new.self in
    record {
      hands = c.in_ok-settle_group.ensures.drove.hands;
      done = hailed_behind (known g.R.Rows g.R.Settles.is_settled g.N.Wire.passed (fate_of g.S.Sink)) g.S.Sink.may g.met.S.Sink.fates c.args.hail.to c.args.hail.bytes.now old.station.now new.station.now old.wire.now new.wire.now c.send_bytes.new.wire old.sink new.sink (sends_of c.args.group.now)
          (sends_of c.settle_group.new.group) (ap sends c.in_ok-settle_group.ensures.ended.none) c.requires.spelled c.in_ok-settle_group.ensures.drove.done c.send_bytes.ensures;
    }
