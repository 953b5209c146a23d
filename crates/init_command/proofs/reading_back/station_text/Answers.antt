-- The text that was read back is the text that is handed out.
use Rattle.std.proofs.Common.{ℕ, List, subst}
use Rattle.init_command.specs.Asked.{IsReadAsAsked}
use Rattle.init_command.proofs.reading_back.station_text.Goals as goal

pub returns : goal.returns
returns c = subst (λ (text : List ℕ). IsReadAsAsked c.args.station.now text) c.as_str.ensures.value c.in_ok-read_back.ensures
