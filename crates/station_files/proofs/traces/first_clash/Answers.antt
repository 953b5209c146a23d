-- The trace in hand clashes with none before it, or with the one that was found.
use Rattle.std.proofs.Common.{◌<◌, refl, arith}
use Rattle.std.proofs.lemmas.Option.{slice_get-get_or, slice_get_within}
use Rattle.station_files.specs.Traces.{Clashes}
use Rattle.station_files.proofs.Looked.{get_in_take, next_place}
use Rattle.station_files.proofs.traces.first_clash.Goals as goal

pub loop-place-preserved : goal.loop-place-preserved
loop-place-preserved c =
    next_place (λ x u. ¬ Clashes x u) c.args.traces.now c.loop-place.place _
    (slice_get-get_or c.args.traces.now c.loop-place.place _ c.loop-place-test.true) c.in-None.ensures.none c.loop-place.invariant

pub returns-in-Some-clause-some : goal.returns-in-Some-clause-some
returns-in-Some-clause-some c =
    let among = c.in-Some.ensures.some in (
      _,
      refl,
      record {
        place = among.place;
        other = among.other;
        stands = get_in_take c.args.traces.now _ among.place among.other among.stands;
        clash = among.clash;
        named = among.named;
      },
    )

pub returns-clause-none : goal.returns-clause-none
returns-clause-none c = λ place one stands.
    let within = slice_get_within c.args.traces.now place one stands in
    let before : place < c.loop-place.place = omega (arith, c.loop-place-test.false) in
    c.loop-place.invariant place one before stands
