-- The vote is heard.
use Rattle.std.proofs.Common.{rules, ◌≡◌, refl, sym, ◌∙◌}
use Rattle.std.specs.Prelude.{option_map}
use Rattle.protocol.specs.Turn.{Hearing}
use Rattle.tape_frames.specs.Entries.{owned_entry, lent_entry}
use Rattle.node_core.specs.Standing.{IsLeft}
use Rattle.node_core.proofs.Accepting.{vote_heard, vote_orderly, vote_there, vote_told}
use Rattle.node_core.proofs.Phases.{hear_told}
use Rattle.node_core.proofs.instance.Instance.accept.Goals as goal

pub unreachable-requires : goal.unreachable-requires
unreachable-requires c = vote_there c.args.sitting.seat c.args.row.now c.args.packet.now (lent_entry c.args.entry) c.in_ok-turn.field-0.turn c.in_ok-turn.field-0.votes c.if-not-votes.false (search rules) c.in_ok-turn.ensures.voting

pub returns-in_err-release-in-Some : goal.returns-in_err-release-in-Some
returns-in_err-release-in-Some c = record {
  turn = search rules;
  orderly = search rules;
  of = c.hear.ensures.of c.args.sitting.seat c.requires.take.of;
  number = search rules;
}

pub returns : goal.returns
returns c = record {
  turn = λ marks stands.
      vote_heard c.args.sitting.seat c.args.row.now c.args.packet.now (lent_entry c.args.entry) marks c.in_ok-turn.field-0.turn _ (lent_entry c.entry.result) c.hear.new.self c.in_ok-release-in-Some.release
      (vote_told c.args.sitting.seat c.args.row.now c.args.packet.now (lent_entry c.args.entry) c.in_ok-turn.field-0.turn c.in_ok-turn.field-0.votes c.in-Some.vote.now (lent_entry c.entry.result) c.if-not-votes.false (search rules) c.entry.ensures c.in_ok-turn.ensures.voting)
      refl refl refl refl
      (hear_told (λ (h : Hearing). (option_map owned_entry c.in_ok-release-in-Some.release ≡ h.release) × IsLeft c.hear.new.self c.in_ok-release-in-Some.release h.marks)
      c.args.self.now.heard.members c.args.sitting.seat.members c.args.self.now.number c.args.packet.now.number c.to.result c.args.sitting.seat.me c.ballot.result c.args.packet.now.ballot (lent_entry c.entry.result) marks
      c.requires.take.of.heard (sym c.requires.take.number) (c.to.ensures ∙ c.requires.accept.arrived.to) c.ballot.ensures (c.in_ok-release-in-Some.ensures.release marks stands, c.in_ok-release-in-Some.ensures.left marks stands));
  orderly = vote_orderly c.args.sitting.seat c.args.row.now c.args.packet.now (lent_entry c.args.entry) c.in_ok-turn.field-0.turn _ (lent_entry c.entry.result)
      (vote_told c.args.sitting.seat c.args.row.now c.args.packet.now (lent_entry c.args.entry) c.in_ok-turn.field-0.turn c.in_ok-turn.field-0.votes c.in-Some.vote.now (lent_entry c.entry.result) c.if-not-votes.false (search rules) c.entry.ensures c.in_ok-turn.ensures.voting)
      c.in_ok-turn.ensures.stirs refl refl refl c.in_ok-turn.ensures.orderly;
  of = c.hear.ensures.of c.args.sitting.seat c.requires.take.of;
  number = search rules;
}
