-- The lines of a Prepare: refused, promised already, or promised now.
use Rattle.std.proofs.Common.{rules, ◌≡◌, refl, sym, ap, ◌∙◌}
use Rattle.std.proofs.lemmas.Result.{MatchResult-from_err}
use Rattle.std.specs.Prelude.{option_copied, option_map}
use Rattle.protocol.specs.Acceptor.{Promises, Says_nothing}
use Rattle.tape_frames.specs.Entries.{owned_entry}
use Rattle.node_core.specs.declared.turn.Turn.{Turn}
use Rattle.node_core.proofs.Accepting.{promising, promise_sent}
use Rattle.node_core.proofs.Stirring.{prepare_stirs}
use Rattle.node_core.proofs.voting.prepare.Goals as goal

pub returns-in_ok-after-in-Promise : goal.returns-in_ok-after-in-Promise
returns-in_ok-after-in-Promise c = record {
  turn = λ marks.
      let h = c.send-turn.ensures.turn in
      let p = promising c.args.sitting.seat marks c.args.row.now c.args.packet.now (option_copied c.in-Promise._report) (rw c.ballot-ballot.ensures at (sym c.in-Promise.ensures.reply)) in
      let after = rw c.ballot-ballot.ensures at (c.in_ok-after-in-Promise.ensures.row (rw c.ballot-ballot.ensures p.above)) in
      let turn : Turn = record { row = c.in_ok-after-in-Promise.after; mail = c.send-turn.result.mail; release = c.send-turn.result.release; note = c.send-turn.result.note } in
      rw p.line (record {
        row_after = after;
        out = promise_sent c.args.sitting.seat c.args.row.now c.args.packet.now turn c.from-to-in-Promise.result c.in_ok-after-in-Promise.after refl h.out c.from-to-in-Promise.ensures after (rw p.report (rw c.ballot-ballot.ensures at c.in-Promise.ensures.fits));
        release = ap (option_map owned_entry) h.release;
        note = rw (h.noted, c.ballot-ballot.ensures) refl;
      });
  orderly = search rules;
  memory = search rules;
}

pub returns-in_err-after-in-Promise : goal.returns-in_err-after-in-Promise
returns-in_err-after-in-Promise c = record {
  turn = search rules;
  orderly = search rules;
  memory = let reply = rw c.ballot-ballot.ensures at (sym c.in-Promise.ensures.reply) in
      MatchResult-from_err c.from_residual.result _ _ c.from_residual.ensures.0 (λ _ marks. prepare_stirs c.args.sitting.seat marks c.args.row.now c.args.packet.now (λ e. let f : Promises (option_copied c.in-Promise._report) ≡ Says_nothing = sym reply ∙ e in cc));
}
