use Rattle.offers.proofs.stage.Stage.after.Goals as goal

pub returns-in-Read : goal.returns-in-Read
returns-in-Read c = let told = c.read.ensures c.args.now in cc

pub returns-in-NoOffer : goal.returns-in-NoOffer
returns-in-NoOffer c = let told = c.no_offer.ensures c.args.now in cc

pub returns-in-Asked : goal.returns-in-Asked
returns-in-Asked c = let told = c.asked.ensures c.args.now in cc
