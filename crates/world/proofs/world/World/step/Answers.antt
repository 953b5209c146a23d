-- Each kind of step goes on with the history of a world that is reached.
use Rattle.world.proofs.Reaching.{on_stepped}
use Rattle.world.proofs.world.World.step.Goals as goal

pub returns-in-Offer : goal.returns-in-Offer
returns-in-Offer g c = on_stepped g.R.Rows g.met.R.Rows.halves c.agreement.ensures _ _ c.args.self.now c.ask.new.self c.ask.result c.in-Offer.is c.ask.ensures

pub returns-in-Withdraw : goal.returns-in-Withdraw
returns-in-Withdraw g c = on_stepped g.R.Rows g.met.R.Rows.halves c.agreement.ensures _ _ c.args.self.now c.ask-in-Withdraw.new.self c.ask-in-Withdraw.result c.in-Withdraw.is c.ask-in-Withdraw.ensures

pub returns-in-Seek : goal.returns-in-Seek
returns-in-Seek g c = on_stepped g.R.Rows g.met.R.Rows.halves c.agreement.ensures _ _ c.args.self.now c.ask-in-Seek.new.self c.ask-in-Seek.result c.in-Seek.is c.ask-in-Seek.ensures

pub returns-in-Due : goal.returns-in-Due
returns-in-Due g c = on_stepped g.R.Rows g.met.R.Rows.halves c.agreement.ensures _ _ c.args.self.now c.ask-in-Due.new.self c.ask-in-Due.result c.in-Due.is c.ask-in-Due.ensures

pub returns-in-Deliver : goal.returns-in-Deliver
returns-in-Deliver g c = on_stepped g.R.Rows g.met.R.Rows.halves c.agreement.ensures _ _ c.args.self.now c.deliver.new.self c.deliver.result c.in-Deliver.is c.deliver.ensures

pub returns-in-Restart : goal.returns-in-Restart
returns-in-Restart g c = on_stepped g.R.Rows g.met.R.Rows.halves c.agreement.ensures _ _ c.args.self.now c.restart.new.self c.restart.result c.in-Restart.is c.restart.ensures

pub returns-in-Upgrade : goal.returns-in-Upgrade
returns-in-Upgrade g c = on_stepped g.R.Rows g.met.R.Rows.halves c.agreement.ensures _ _ c.args.self.now c.upgrade.new.self c.upgrade.result c.in-Upgrade.is c.upgrade.ensures

pub returns-in-Balk : goal.returns-in-Balk
returns-in-Balk g c = on_stepped g.R.Rows g.met.R.Rows.halves c.agreement.ensures _ _ c.args.self.now c.balk.new.self c.balk.result c.in-Balk.is c.balk.ensures

pub returns-in-Recall : goal.returns-in-Recall
returns-in-Recall g c = on_stepped g.R.Rows g.met.R.Rows.halves c.agreement.ensures _ _ c.args.self.now c.ask-in-Recall.new.self c.ask-in-Recall.result c.in-Recall.is c.ask-in-Recall.ensures
