-- What a file asks for that is known was read.
use Rattle.std.proofs.Common.{rules, ◌≡◌, ℕ, Some, sym, subst}
use Rattle.protocol.specs.Refusals.{Call}
use Rattle.run_command.specs.Calls.{call_of}
use Rattle.offers.specs.Order.{rank, file_at}
use Rattle.offers.specs.Stages.{wish_at}
use Rattle.run_command.specs.Living.{texts_of}
use Rattle.run_command.specs.Story.{doings_of, MayBeCalled}
use Rattle.run_command.proofs.Wishes.{wish_read}
use Rattle.run_command.proofs.Lives.{may_be_called}
use Rattle.run_command.proofs.desk.PlantDeskDesk.call.Goals as goal

pub returns-in-Some : goal.returns-in-Some
returns-in-Some g c = λ now past st.
    let request = c.args.request.now in
    let wish = c.in-Some.wish.now in
    let files = c.args.self.now.plant.now.papers.book.files in
    let known : wish_at (file_at files (rank request)) ≡ Some wish = search rules in
    subst (λ (x : Call). MayBeCalled (texts_of c.args.self.now) past x) (sym (c.call_for.ensures now))
    (subst (λ (n : ℕ). MayBeCalled (texts_of c.args.self.now) past (call_of wish n now)) (sym c.get.ensures.value)
    (may_be_called (texts_of c.args.self.now) past request now wish (wish_read (texts_of c.args.self.now) (doings_of past) files request wish st.taken known)))
