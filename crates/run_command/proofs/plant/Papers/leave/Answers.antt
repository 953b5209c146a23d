-- The file left the offers, or is put off.
use Rattle.std.proofs.Common.{ap}
use Rattle.offers.specs.Order.{rank}
use Rattle.offers.specs.Stages.{after, changed}
use Rattle.offers.specs.declared.stage.FileNews.TheVariants.{Moved, PutOff}
use Rattle.run_command.proofs.Looking.{follows_of}
use Rattle.run_command.proofs.Wishes.{moved_still, put_off_still}
use Rattle.run_command.proofs.plant.Papers.leave.Goals as goal

pub returns-in-Ok : goal.returns-in-Ok
returns-in-Ok g c =
    let m = c.args.self.now.book in
    let k = rank c.args.departure.now.found.request in
    record {
      departs = c.depart.ensures;
      follows = follows_of m c.moved.new.self (changed k (after Moved 0) m.files) (ap (λ b. b.files) c.moved.ensures) (λ t shown h. moved_still t shown k 0 m.files h) (ap (λ b. b.released) c.moved.ensures);
    }

pub returns-in-Err : goal.returns-in-Err
returns-in-Err g c =
    let m = c.args.self.now.book in
    let k = rank c.args.departure.now.found.request in
    record {
      departs = c.depart.ensures;
      follows =
          follows_of m c.could_not.new.self (changed k (after PutOff c.args.now) m.files) (ap (λ b. b.files) c.could_not.ensures) (λ t shown h. put_off_still t shown k c.args.now m.files h)
          (ap (λ b. b.released) c.could_not.ensures);
    }
