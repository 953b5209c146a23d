-- One packet more.
use Rattle.std.proofs.Common.{rules, ◌≡◌, Some, sym, subst, ◌∙◌, length, take, arith}
use Rattle.std.specs.Prelude.{slice_get}
use Rattle.std.specs.List.{AllZip}
use Rattle.std.proofs.lemmas.Option.{slice_get_within, get_or_from_slice_get}
use Rattle.tape_frames.specs.Entries.{version_of}
use Rattle.station.specs.Readiness.{Carries, IsSpelled}
use Rattle.station.proofs.Alike.{of_some}
use Rattle.station.proofs.Zips.{more, whole, weaker, as_long, among}
use Rattle.station.proofs.save.spell_all.Goals as goal

pub encode_beside-requires-clause-fits : goal.encode_beside-requires-clause-fits
encode_beside-requires-clause-fits c = c.requires c.in-Some.packet (among c.args.packets.now c.loop-place.place c.in-Some.packet (sym c.get.ensures ∙ c.in-Some.is))

pub encode_beside-requires-clause-alike : goal.encode_beside-requires-clause-alike
encode_beside-requires-clause-alike c =
    of_some _ _ c.spelled_alike-alike.result
    (λ bytes says. says (version_of c.args.version) c.in-Some.packet
    (subst (λ out. AllZip (IsSpelled (version_of c.args.version)) (take c.loop-place.place c.args.packets.now) out) (sym c.deref.ensures.value) c.loop-place.invariant)
    (sym c.get.ensures ∙ c.in-Some.is))
    c.spelled_alike-alike.ensures

pub loop-place-preserved : goal.loop-place-preserved
loop-place-preserved c =
    let there : slice_get c.args.packets.now c.loop-place.place ≡ Some c.in-Some.packet = sym c.get.ensures ∙ c.in-Some.is in
    rw c.in_ok-push-in-Some.ensures.items (more (IsSpelled (version_of c.args.version)) c.args.packets.now c.loop-place.out.items c.loop-place.place c.in-Some.packet _ (slice_get_within c.args.packets.now c.loop-place.place c.in-Some.packet there)
    (sym (get_or_from_slice_get c.args.packets.now c.loop-place.place c.in-Some.packet c.in-Some.packet there)) c.loop-place.invariant (search rules))

pub returns-clause-carry : goal.returns-clause-carry
returns-clause-carry c =
    let many : c.len-count.result ≡ length c.args.packets.now = c.len-count.ensures in
    weaker (IsSpelled (version_of c.args.version)) (Carries (version_of c.args.version)) c.args.packets.now c.loop-place.out.items (λ packet datagram spelled. spelled.0)
    (whole (IsSpelled (version_of c.args.version)) c.args.packets.now c.loop-place.out.items c.loop-place.place (omega arith) c.loop-place.invariant)

pub returns-clause-many : goal.returns-clause-many
returns-clause-many c =
    let many : c.len-count.result ≡ length c.args.packets.now = c.len-count.ensures in
    as_long (IsSpelled (version_of c.args.version)) c.args.packets.now c.loop-place.out.items c.loop-place.place (omega arith) c.loop-place.invariant
