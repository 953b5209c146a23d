-- What is taken in was let in.
use Rattle.std.proofs.Common.{ℕ, List, [], ◌∷◌, ◌++◌}
use Rattle.std.specs.Prelude.{Ok, Err}
use Rattle.protocol.specs.Refusals.{Call, Offering, Seeking, Falling_due, Receiving, Recalling}
use Rattle.wire.specs.Passing.{Passed, Trace, untold, listed, guarded, AllCame, Passes}
use Rattle.wire.proofs.Passing.{came_first, came_last}
use Rattle.driver.specs.Events.{Event, asked, took, stored, aside, coming, coming_by, going, going_by, passing_behind}
use Rattle.process_days.specs.Telling.{AllTaken, CallTakes, ReceivesLetIn}

call_takes : (Is : List ℕ → Type 0) (call : Call) → AllCame Is (coming call) → CallTakes Is call
call_takes Is (Receiving bytes now) all = all.0
call_takes Is (Offering n entry now) all = tt
call_takes Is (Seeking n now) all = tt
call_takes Is (Falling_due now) all = tt
call_takes Is (Recalling n to) all = tt

-- whatever waits to be sent
all_taken : (Is : List ℕ → Type 0) (waits : List Passed) (log : List Event) → AllCame Is (passing_behind waits log) → AllTaken Is log
all_taken Is waits [] all = tt
all_taken Is waits (asked moment ∷ rest) all = (tt, all_taken Is waits rest all)
all_taken Is waits (took call answer ∷ rest) all =
    let behind = passing_behind (waits ++ going answer) rest in
    (call_takes Is call (came_first Is (coming call) behind all), all_taken Is (waits ++ going answer) rest (came_last Is (coming call) behind all))
all_taken Is waits (stored (Ok done) ∷ rest) all = (tt, all_taken Is [] rest (came_last Is waits (passing_behind [] rest) all))
all_taken Is waits (stored (Err refusal) ∷ rest) all = (tt, all_taken Is waits rest all)
all_taken Is waits (aside what ∷ rest) all =
    (tt, all_taken Is (waits ++ going_by what) rest (came_last Is (coming_by what) (passing_behind (waits ++ going_by what) rest) all))

pub takes_let_in : (was is : Trace) (waits : List Passed) (log : List Event) → Passes was is (passing_behind waits log) → ReceivesLetIn was log
takes_let_in untold is waits log p = tt
takes_let_in (listed passed) is waits log p = tt
takes_let_in (guarded Is clean) untold waits log p = absurd p
takes_let_in (guarded Is clean) (listed passed) waits log p = absurd p
takes_let_in (guarded Is clean) (guarded Is' clean') waits log p = λ it. all_taken Is waits log (p.came it)
