-- What was found is taken in.
use Rattle.std.proofs.Common.{ap}
use Rattle.offers.specs.Looks.{looked}
use Rattle.run_command.proofs.Looking.{follows_of}
use Rattle.run_command.proofs.Wishes.{looked_still}
use Rattle.run_command.proofs.unseen.see_requests.Goals as goal

pub returns : goal.returns
returns c =
    let m = c.args.book.now in
    let found = c.args.requests.now in
    follows_of m c.see.new.self (looked m.files c.args.looked found) (ap (λ b. b.files) c.in_ok-see.ensures.ok)
    (λ t shown h. looked_still t shown m.files c.args.looked found h) (ap (λ b. b.released) c.in_ok-see.ensures.ok)
