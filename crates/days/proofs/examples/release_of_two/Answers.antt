-- The calls that were made are a day of the two.
use Rattle.std.proofs.Common.{◌≡◌, ◌∙◌, ap, Option, Some, None, refl}
use Rattle.std.specs.Prelude.{IfSome}
use Rattle.protocol.specs.Entries.{Taped}
use Rattle.rows_saved.specs.declared.memory.MemoryRows.{MemoryRows}
use Rattle.rows_saved.specs.Memory.{saved}
use Rattle.rows_saved.specs.Groups.{with_all}
use Rattle.rows_saved.specs.declared.grouped.Grouped.{Grouped}
use Rattle.days.proofs.Playing.{day_of_two}
use Rattle.days.proofs.examples.release_of_two.Goals as goal

if_some : {A : Type 0} (P : A → Type 0) (o : Option A) → ((x : A) → o ≡ Some x → P x) → IfSome o P
if_some P None h = tt
if_some P (Some x) h = h x refl

pub returns : goal.returns
returns c = if_some _ c.in_ok-last.last.release (λ r is.
    let a = c.in-Ok.ensures in
    let b = c.in-Ok-new.ensures in
    day_of_two (λ rows. tt) (λ rows. tt) c.in-Ok.one c.in-Ok-new.two c.new-rows.result c.new-rows-2.result
    (record {
      circuit = a.circuit;
      members = a.members;
      me = a.me;
      has = a.rows;
      none = λ n. ap (λ (q : Grouped MemoryRows). with_all (saved q.rows) q.waits n) c.new-rows.ensures ∙ c.new.ensures.blank n;
      wire = a.wire;
      stands_for = a.stands;
      goes = a.stopped;
    })
    (record {
      circuit = b.circuit;
      members = b.members;
      me = b.me;
      has = b.rows;
      none = λ n. ap (λ (q : Grouped MemoryRows). with_all (saved q.rows) q.waits n) c.new-rows-2.ensures ∙ c.new-3.ensures.blank n;
      wire = b.wire;
      stands_for = b.stands;
      goes = b.stopped;
    })
    (Taped c.args.tape.now) 0
    c.offer_both.new.station c.take_in-2.new.station c.take_in-4.new.station c.take_in.new.station c.restart.new.self c.take_in-3.new.station
    c.in_ok-prepare.prepare c.in_ok-promise.promise c.in_ok-accept.accept c.in_ok-accepted.accepted c.in_ok-last.last r
    c.in_ok-prepare.ensures c.in_ok-promise.ensures
    (record { fixed = c.restart.ensures.fixed; wire = c.restart.ensures.wire; stands_for = c.restart.ensures.stands; starts = c.restart.ensures.starts })
    c.in_ok-accept.ensures c.in_ok-accepted.ensures c.in_ok-last.ensures is)
