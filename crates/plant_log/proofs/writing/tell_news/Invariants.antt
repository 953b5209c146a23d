use Rattle.std.proofs.Common.{take}
use Rattle.plant_log.specs.Telling.{TellsEach}
use Rattle.plant_log.specs.Words.{folders_text, news_text}
use Rattle.plant_log.proofs.writing.tell_news.Given as goal

abbrev pub invariant-loop-each : goal.invariant-loop-each
invariant-loop-each g l = TellsEach (λ each. Unit {0}) (λ each. folders_text (news_text each)) (take l.each-index l.news) (g.E.Write.contents l.initial.err) (g.E.Write.contents l.err)
