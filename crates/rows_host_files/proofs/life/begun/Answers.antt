use Rattle.std.proofs.Common.{◌≡◌, subst}
use Rattle.std.specs.Prelude.{Result, Ok, OnOk}
use Rattle.rows_host_files.proofs.LifeLemmas.{stand_as_read}
use Rattle.rows_host_files.proofs.life.begun.Goals as goal

ok_gives : {E P : Type 0} (r : Result (Unit {0}) E) → r ≡ Ok tt → OnOk r P → P
ok_gives {P = P} r is given = subst (λ q. OnOk q P) is given

pub returns-in-Ok : goal.returns-in-Ok
returns-in-Ok g c =
    let h = g.D.Disk in
    let new = c.begin_life-files.result.0 in
    let begins = c.begin_life-files.ensures.begins in
    λ synced. record {
      pair = ok_gives _ c.in-Ok.is begins.pair;
      begun = ok_gives _ c.in-Ok.is begins.begun;
      stands = stand_as_read h c.args.files new (g.met.D.Disk.seen_may_stay new.log) (g.met.D.Disk.seen_may_stay new.db) begins.kept synced;
    }
