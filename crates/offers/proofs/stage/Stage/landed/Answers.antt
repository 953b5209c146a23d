use Rattle.offers.proofs.stage.Stage.landed.Goals as goal

pub returns-in-Barred : goal.returns-in-Barred
returns-in-Barred c = let told = c.barred.ensures c.args.now in cc

pub returns-in-Released : goal.returns-in-Released
returns-in-Released c = let told = c.released.ensures c.args.now in cc
