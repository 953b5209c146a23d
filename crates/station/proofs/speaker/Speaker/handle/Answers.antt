-- A turn that is taken fits, and a refusal leaves what fitted.
use Rattle.std.proofs.Common.{rules, List, sym, ap, subst, ◌≡◌, IfOk, IfErr}
use Rattle.protocol.specs.Marks.{Mark}
use Rattle.protocol.specs.Versions.{Version}
use Rattle.protocol.specs.Fitting.{EventFits}
use Rattle.rows_saved.specs.Saved.{RowFits}
use Rattle.tape_frames.specs.Entries.{version_of}
use Rattle.node_core.specs.Standing.{StandsFor}
use Rattle.node_core.specs.Turns.{event_value}
use Rattle.node_core.specs.Calls.{TookTurn, MayTakeMemory}
use Rattle.node_core.specs.declared.turn.CoreRefusal.TheVariants.{OutOfMemory}
use Rattle.station.specs.Speaking.{Speaking, TurnSpeaks}
use Rattle.station.proofs.Remembering.{answered_speaks, answered_fits, orderly}
use Rattle.station.proofs.speaker.Speaker.handle.Goals.{in-Err-OutOfMemory, in_default, in_default-2}
use Rattle.station.proofs.speaker.Speaker.handle.Goals as goal

row_fits : (c : goal.Else-matches) → RowFits (version_of c.self.inside.wire) c.args.row.now
row_fits c = subst (λ (v : Version). RowFits v c.args.row.now) (sym (ap (λ (s : Speaking). s.wire) c.self.view_is)) c.requires.row

event_fits : (c : goal.Else-matches) → EventFits (version_of c.self.inside.wire) (event_value c.args.event)
event_fits c = subst (λ (v : Version). EventFits v (event_value c.args.event)) (sym (ap (λ (s : Speaking). s.wire) c.self.view_is)) c.requires.event

pub invariant_of-self-else-matches : goal.invariant_of-self-else-matches
invariant_of-self-else-matches c =
    let speaks = answered_speaks (version_of c.self.inside.wire) c.args.event c.self.inside.core c.handle-answer.new.self c.args.row.now c.turns_fit.ensures c.member_of_core.ensures c.self.invariant (row_fits c) (event_fits c)
    c.handle-answer.result c.handle-answer.ensures.ok c.handle-answer.ensures.refused in
    elim c.match-matches.branch [ in-Err-OutOfMemory w ↦ search rules | in_default w ↦ speaks (λ is. search rules) | in_default-2 w ↦ speaks (λ is. search rules) ]

-- the marks that its invariant has
marks_of : (c : goal.Else-matches) → (marks : List Mark) × StandsFor c.args.self.now.core marks
marks_of c = subst (λ (s : Speaking). (marks : List Mark) × StandsFor s.core marks) c.self.view_is (c.self.invariant.marks, c.self.invariant.stands_for)

pub returns-then-matches-clause-stands : goal.returns-then-matches-clause-stands
returns-then-matches-clause-stands c = subst (λ (s : Speaking). (marks : List Mark) × StandsFor s.core marks) c.self.view_is (c.self.invariant.marks, c.self.invariant.stands_for)

pub returns-else-matches-clause-stands : goal.returns-else-matches-clause-stands
returns-else-matches-clause-stands c = marks_of c

pub returns-then-matches-clause-memory : goal.returns-then-matches-clause-memory
returns-then-matches-clause-memory c =
    subst
    (λ (s : Speaking). IfErr c.handle-answer.result (λ e. e ≡ OutOfMemory → (marks : List Mark) → StandsFor s.core marks → MayTakeMemory s.core c.args.event marks c.args.row.now))
    c.self.view_is c.handle-answer.ensures.memory

pub returns-else-matches-clause-ok : goal.returns-else-matches-clause-ok
returns-else-matches-clause-ok c =
    subst
    (λ (s : Speaking). IfOk c.handle-answer.result (λ x. (marks : List Mark) → StandsFor s.core marks → TookTurn s.core c.args.event marks c.args.row.now x c.handle-answer.new.self))
    c.self.view_is c.handle-answer.ensures.ok

pub returns-else-matches-clause-fits : goal.returns-else-matches-clause-fits
returns-else-matches-clause-fits c =
    subst (λ (s : Speaking). IfOk c.handle-answer.result (TurnSpeaks s.wire c.args.row.now)) c.self.view_is
    (answered_fits (version_of c.self.inside.wire) c.args.event c.self.inside.core c.handle-answer.new.self c.args.row.now c.turns_fit.ensures c.member_of_core.ensures c.self.invariant (row_fits c) (event_fits c)
    c.handle-answer.result c.handle-answer.ensures.ok)

pub returns-then-matches-clause-orderly : goal.returns-then-matches-clause-orderly
returns-then-matches-clause-orderly c =
    let a = c.handle-answer.ensures in
    orderly c.handle-answer.result c.args.row.now a.promised a.few a.quiet

pub returns-else-matches-clause-orderly : goal.returns-else-matches-clause-orderly
returns-else-matches-clause-orderly c =
    let a = c.handle-answer.ensures in
    orderly c.handle-answer.result c.args.row.now a.promised a.few a.quiet
