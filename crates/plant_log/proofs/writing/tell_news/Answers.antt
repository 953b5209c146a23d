-- Each was told behind those before it.
use Rattle.std.proofs.Common.{get_or, refl}
use Rattle.folders.specs.declared.folders.News.{News}
use Rattle.folders.specs.declared.folders.News.TheVariants.{OtherOffers}
use Rattle.plant_log.specs.Words.{folders_text, news_text}
use Rattle.plant_log.proofs.Each.{each_more, told_so}
use Rattle.plant_log.proofs.writing.tell_news.Goals as goal

pub loop-each-init : goal.loop-each-init
loop-each-init g c = refl

pub loop-each-preserved : goal.loop-each-preserved
loop-each-preserved g c =
    let at = get_or c.args.news.now c.loop-each.each-index OtherOffers in
    each_more (λ (each : News). Unit {0}) (λ (each : News). folders_text (news_text each)) c.args.news.now c.loop-each.each-index OtherOffers at
    (g.E.Write.contents c.args.err.now) (g.E.Write.contents c.loop-each.err) (g.E.Write.contents c.tell_folders.new.err)
    c.loop-each-test.true refl c.loop-each.invariant (told_so (folders_text (news_text at)) (g.E.Write.contents c.loop-each.err) (g.E.Write.contents c.tell_folders.new.err) tt (rw c.news_text.ensures at c.tell_folders.ensures))
