-- The number of the record is added, or none.
use Rattle.std.proofs.Common.{refl}
use Rattle.gone_out.proofs.Records.{found_one, found_none}
use Rattle.gone_out.proofs.reading.add_at.Goals as goal

pub returns-in-Some : goal.returns-in-Some
returns-in-Some c =
    found_one c.args.bytes.now c.args.origin.now c.args.place c.args.numbers.now c.insert.new.self c.in-Some.number
    c.in-Some.ensures.number c.in-Some.ensures.some c.insert.ensures.same c.insert.ensures.others

pub returns-in_default : goal.returns-in_default
returns-in_default c = found_none c.args.bytes.now c.args.origin.now c.args.place c.args.numbers.now (c.in_default.ensures.none refl)
