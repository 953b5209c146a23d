use Rattle.std.proofs.Common.{◌≡◌, ℕ, ◌<◌, length, slice_index, inr, sym, ◌∙◌, ap, arith, rules}
use Rattle.std.proofs.lemmas.Result.{on_ok_weaker}
use Rattle.rows_life.proofs.RenewLemmas.{unframed_when_blank}
use Rattle.rows_life.proofs.FilesLemmas.{stays_cut, stays_short, stays_made, front_len, last_len, front_stands, made_whole}
use Rattle.rows_life.proofs.beginning.renew.Goals as goal

pub returns-clause-stands : goal.returns-clause-stands
returns-clause-stands g c =
    let len : length c.args.bytes.now ≡ 56 = search rules in
    let cut : length (g.D.Disk.seen c.sync-2.new.self) ≡ 55 = ap length c.sync-2.ensures.seen ∙ c.in_ok-set_len.ensures.len in
    let front = front_stands c.args.bytes.now _ _ len cut c.write_at.ensures.others (c.in_ok-write_at.ensures.written (omega (arith, front_len c.args.bytes.now len))) in
    let long : length (g.D.Disk.seen c.sync-3.new.self) ≡ 55 = ap length c.sync-3.ensures.seen ∙ front.0 in
    let each : (i : ℕ) → i < 55 → slice_index (g.D.Disk.seen c.sync-3.new.self) i ≡ slice_index c.args.bytes.now i = λ i low. (λ j. slice_index (c.sync-3.ensures.seen j) i) ∙ front.1 i low in
    record {
      stands = on_ok_weaker c.sync-4.result
          (λ _. c.sync-4.ensures.seen ∙ made_whole c.args.bytes.now _ _ len long each c.write_at-2.ensures.others (c.in_ok-write_at-2.ensures.written (omega (arith, last_len c.args.bytes.now len))))
          c.sync-4.ensures.durable;
      synced = on_ok_weaker c.sync-4.result (λ only x may. only x may ∙ sym c.sync-4.ensures.seen) c.sync-4.ensures.durable;
      clean = λ clean. c.sync.ensures.clean (c.set_len.ensures.clean (c.sync-2.ensures.clean (c.write_at.ensures.clean (c.sync-3.ensures.clean (c.write_at-2.ensures.clean (c.sync-4.ensures.clean clean))))));
      usable = search rules;
    }

pub returns-clause-kept : goal.returns-clause-kept
returns-clause-kept g c =
    let len : length c.args.bytes.now ≡ 56 = search rules in
    let cut : length (g.D.Disk.seen c.sync-2.new.self) ≡ 55 = ap length c.sync-2.ensures.seen ∙ c.in_ok-set_len.ensures.len in
    let front = front_stands c.args.bytes.now _ _ len cut c.write_at.ensures.others (c.in_ok-write_at.ensures.written (omega (arith, front_len c.args.bytes.now len))) in
    let long : length (g.D.Disk.seen c.sync-3.new.self) ≡ 55 = ap length c.sync-3.ensures.seen ∙ front.0 in
    let each : (i : ℕ) → i < 55 → slice_index (g.D.Disk.seen c.sync-3.new.self) i ≡ slice_index c.args.bytes.now i = λ i low. (λ j. slice_index (c.sync-3.ensures.seen j) i) ∙ front.1 i low in
    λ clean x may. inr (stays_made g.D.Disk c.args.bytes.now c.args.log.now c.sync-3.new.self c.write_at-2.new.self (λ y at. c.in_ok-sync-3.ensures.durable y at ∙ sym c.sync-3.ensures.seen)
    _ (last_len c.args.bytes.now len) long each c.write_at-2.ensures.crash x (c.sync-4.ensures.crash x may))

pub returns-in_err-write_at-2-clause-kept : goal.returns-in_err-write_at-2-clause-kept
returns-in_err-write_at-2-clause-kept g c =
    let len : length c.args.bytes.now ≡ 56 = search rules in
    let cut : length (g.D.Disk.seen c.sync-2.new.self) ≡ 55 = ap length c.sync-2.ensures.seen ∙ c.in_ok-set_len.ensures.len in
    let front = front_stands c.args.bytes.now _ _ len cut c.write_at.ensures.others (c.in_ok-write_at.ensures.written (omega (arith, front_len c.args.bytes.now len))) in
    let long : length (g.D.Disk.seen c.sync-3.new.self) ≡ 55 = ap length c.sync-3.ensures.seen ∙ front.0 in
    let each : (i : ℕ) → i < 55 → slice_index (g.D.Disk.seen c.sync-3.new.self) i ≡ slice_index c.args.bytes.now i = λ i low. (λ j. slice_index (c.sync-3.ensures.seen j) i) ∙ front.1 i low in
    λ clean x may. inr (stays_made g.D.Disk c.args.bytes.now c.args.log.now c.sync-3.new.self c.write_at-2.new.self (λ y at. c.in_ok-sync-3.ensures.durable y at ∙ sym c.sync-3.ensures.seen)
    _ (last_len c.args.bytes.now len) long each c.write_at-2.ensures.crash x may)

pub returns-in_err-sync-3-clause-kept : goal.returns-in_err-sync-3-clause-kept
returns-in_err-sync-3-clause-kept g c =
    let len : length c.args.bytes.now ≡ 56 = search rules in
    let cut : length (g.D.Disk.seen c.sync-2.new.self) ≡ 55 = ap length c.sync-2.ensures.seen ∙ c.in_ok-set_len.ensures.len in
    λ clean x may. inr (stays_short g.D.Disk c.args.bytes.now c.args.log.now c.sync-2.new.self c.write_at.new.self (λ y at. c.in_ok-sync-2.ensures.durable y at ∙ sym c.sync-2.ensures.seen)
    _ (front_len c.args.bytes.now len) cut c.write_at.ensures.crash x (c.sync-3.ensures.crash x may))

pub returns-in_err-write_at-clause-kept : goal.returns-in_err-write_at-clause-kept
returns-in_err-write_at-clause-kept g c =
    let len : length c.args.bytes.now ≡ 56 = search rules in
    let cut : length (g.D.Disk.seen c.sync-2.new.self) ≡ 55 = ap length c.sync-2.ensures.seen ∙ c.in_ok-set_len.ensures.len in
    λ clean x may. inr (stays_short g.D.Disk c.args.bytes.now c.args.log.now c.sync-2.new.self c.write_at.new.self (λ y at. c.in_ok-sync-2.ensures.durable y at ∙ sym c.sync-2.ensures.seen)
    _ (front_len c.args.bytes.now len) cut c.write_at.ensures.crash x may)

pub returns-in_err-sync-2-clause-kept : goal.returns-in_err-sync-2-clause-kept
returns-in_err-sync-2-clause-kept g c =
    λ clean x may. inr (stays_cut g.D.Disk c.args.bytes.now c.args.log.now c.sync.new.self c.set_len.new.self (λ y at. c.in_ok-sync.ensures.durable y at ∙ sym c.sync.ensures.seen)
    c.sync.ensures.seen c.set_len.ensures.crash (unframed_when_blank _ (c.requires.bare (c.sync.ensures.clean (c.set_len.ensures.clean (c.sync-2.ensures.clean clean))))) x (c.sync-2.ensures.crash x may))

pub returns-in_err-set_len-clause-kept : goal.returns-in_err-set_len-clause-kept
returns-in_err-set_len-clause-kept g c =
    λ clean x may. inr (stays_cut g.D.Disk c.args.bytes.now c.args.log.now c.sync.new.self c.set_len.new.self (λ y at. c.in_ok-sync.ensures.durable y at ∙ sym c.sync.ensures.seen)
    c.sync.ensures.seen c.set_len.ensures.crash (unframed_when_blank _ (c.requires.bare (c.sync.ensures.clean (c.set_len.ensures.clean clean)))) x may)
