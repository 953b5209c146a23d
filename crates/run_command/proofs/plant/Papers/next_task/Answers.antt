-- What is to be done next.
use Rattle.std.proofs.Common.{ap, sym, subst}
use Rattle.std.specs.Prelude.{IfSome}
use Rattle.offers.specs.Turns.{files_after}
use Rattle.run_command.specs.Departing.{IsFreeTask}
use Rattle.run_command.proofs.Looking.{follows_of, task_free}
use Rattle.run_command.proofs.Wishes.{asked_still}
use Rattle.run_command.proofs.plant.Papers.next_task.Goals as goal

pub returns-in-Some-clause-book : goal.returns-in-Some-clause-book
returns-in-Some-clause-book c =
    let m = c.args.self.now.book in
    follows_of m c.next.new.self (files_after c.next.result m.files) (ap (λ b. b.files) c.next.ensures.same) (λ t shown h. asked_still t shown c.next.result m.files h)
    (ap (λ b. b.released) c.next.ensures.same)

pub returns-in-Some-clause-free : goal.returns-in-Some-clause-free
returns-in-Some-clause-free c =
    let m = c.args.self.now.book in
    let n = c.next.new.self in
    subst (λ t. IfSome t (IsFreeTask n c.args.allowed.moves)) (sym c.task_of.ensures)
    (task_free m n c.args.allowed c.in-Some.deed (ap (λ b. b.released) c.next.ensures.same) c.in-Some.ensures.rules c.in-Some.ensures.turn)

pub returns-then-find-clause-book : goal.returns-then-find-clause-book
returns-then-find-clause-book c =
    let m = c.args.self.now.book in
    follows_of m c.next.new.self (files_after c.next.result m.files) (ap (λ b. b.files) c.next.ensures.same) (λ t shown h. asked_still t shown c.next.result m.files h)
    (ap (λ b. b.released) c.next.ensures.same)

pub returns-then-goes_on-clause-book : goal.returns-then-goes_on-clause-book
returns-then-goes_on-clause-book c =
    let m = c.args.self.now.book in
    follows_of m c.next.new.self (files_after c.next.result m.files) (ap (λ b. b.files) c.next.ensures.same) (λ t shown h. asked_still t shown c.next.result m.files h)
    (ap (λ b. b.released) c.next.ensures.same)

pub returns-clause-book : goal.returns-clause-book
returns-clause-book c =
    let m = c.args.self.now.book in
    follows_of m c.next.new.self (files_after c.next.result m.files) (ap (λ b. b.files) c.next.ensures.same) (λ t shown h. asked_still t shown c.next.result m.files h)
    (ap (λ b. b.released) c.next.ensures.same)
