-- The lines of an Accept: refused, its vote stands, or it votes.
use Rattle.std.proofs.Common.{◌≡◌, refl, sym, ap, ◌∙◌, Some}
use Rattle.protocol.specs.Ballots.{Ballot}
use Rattle.protocol.specs.Entries.{Entry}
use Rattle.protocol.specs.Rows.{Row}
use Rattle.tape_frames.specs.Entries.{lent_entry}
use Rattle.protocol.specs.Acceptor.{Reply, Accepts, Nacks, Votes, Votes_again, reply_of, next_row}
use Rattle.acceptor.specs.declared.answer.AcceptAnswer.{AcceptAnswer}
use Rattle.acceptor.specs.Said.{said_of_accept, row_of}
use Rattle.node_core.specs.declared.turn.Turn.{Turn}
use Rattle.node_core.proofs.Stirring.{accept_stirs}
use Rattle.node_core.proofs.Accepting.{nacked_alone, again_votes, now_votes}
use Rattle.node_core.proofs.voting.accept.Goals as goal

reply_told : (row : Row) (b a : Ballot) (t : Entry) (r : Reply) → b ≡ a → r ≡ reply_of row (Accepts b t) → reply_of row (Accepts a t) ≡ r
reply_told row b a t r e h = sym (h ∙ ap (λ (x : Ballot). reply_of row (Accepts x t)) e)

row_told : (row w : Row) (b a : Ballot) (t : Entry) → b ≡ a → w ≡ next_row row (Accepts b t) → w ≡ next_row row (Accepts a t)
row_told row w b a t e h = h ∙ ap (λ (x : Ballot). next_row row (Accepts x t)) e

pub returns-in-Nack-clause-voting : goal.returns-in-Nack-clause-voting
returns-in-Nack-clause-voting c = λ marks.
    nacked_alone c.args.sitting.seat c.args.row.now c.args.packet.now (lent_entry c.args.entry) marks c.send-turn.result c.in-Nack.promised
    (reply_told c.args.row.now c.ballot-ballot.result c.args.packet.now.ballot (lent_entry c.args.entry) (Nacks c.in-Nack.promised) c.ballot-ballot.ensures (ap said_of_accept (sym c.in-Nack.is) ∙ c.in_ok-promised.ensures.reply))
    (row_told c.args.row.now c.args.row.now c.ballot-ballot.result c.args.packet.now.ballot (lent_entry c.args.entry) c.ballot-ballot.ensures (ap (λ (a : AcceptAnswer). row_of a c.args.row.now) (sym c.in-Nack.is) ∙ c.in_ok-promised.ensures.row))
    (rw c.from-to.ensures at c.send-turn.ensures.turn)

pub returns-in-Again-clause-voting : goal.returns-in-Again-clause-voting
returns-in-Again-clause-voting c =
    again_votes c.args.sitting.seat c.args.row.now c.args.packet.now (lent_entry c.args.entry) c.send-turn-in-Again.result c.ballot-ballot.result c.ballot-ballot.ensures
    (reply_told c.args.row.now c.ballot-ballot.result c.args.packet.now.ballot (lent_entry c.args.entry) Votes_again c.ballot-ballot.ensures (ap said_of_accept (sym c.in-Again.is) ∙ c.in_ok-promised.ensures.reply))
    (row_told c.args.row.now c.args.row.now c.ballot-ballot.result c.args.packet.now.ballot (lent_entry c.args.entry) c.ballot-ballot.ensures (ap (λ (a : AcceptAnswer). row_of a c.args.row.now) (sym c.in-Again.is) ∙ c.in_ok-promised.ensures.row))
    c.send-turn-in-Again.ensures.turn

pub returns-in-Voted-clause-voting : goal.returns-in-Voted-clause-voting
returns-in-Voted-clause-voting c =
    let h = c.send-turn-in-Voted.ensures.turn in
    let turn : Turn = record { row = Some c.in-Voted.after; mail = c.send-turn-in-Voted.result.mail; release = c.send-turn-in-Voted.result.release; note = c.send-turn-in-Voted.result.note } in
    now_votes c.args.sitting.seat c.args.row.now c.args.packet.now (lent_entry c.args.entry) turn c.in-Voted.after c.ballot-ballot.result c.ballot-ballot.ensures
    (reply_told c.args.row.now c.ballot-ballot.result c.args.packet.now.ballot (lent_entry c.args.entry) Votes c.ballot-ballot.ensures (ap said_of_accept (sym c.in-Voted.is) ∙ c.in_ok-promised.ensures.reply))
    (row_told c.args.row.now c.in-Voted.after c.ballot-ballot.result c.args.packet.now.ballot (lent_entry c.args.entry) c.ballot-ballot.ensures (ap (λ (a : AcceptAnswer). row_of a c.args.row.now) (sym c.in-Voted.is) ∙ c.in_ok-promised.ensures.row))
    (record { row_after = refl; out = h.out; release = h.release; noted = h.noted })

pub returns-in-Again-clause-stirs : goal.returns-in-Again-clause-stirs
returns-in-Again-clause-stirs c = λ marks. accept_stirs c.args.sitting.seat marks c.args.row.now c.args.packet.now (lent_entry c.args.entry)
