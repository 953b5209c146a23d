-- News of one file of the number after the other.
use Rattle.std.proofs.Common.{refl}
use Rattle.offers.proofs.edits.tell_all.Goals as goal

pub returns : goal.returns
returns c = record {
  news = rw (c.tell-4.ensures.news, c.tell-3.ensures.news, c.tell-2.ensures.news, c.tell.ensures.news, c.request_of-4.ensures, c.request_of-3.ensures, c.request_of-2.ensures, c.request_of.ensures) refl;
  rises = c.tell-4.ensures.rises;
}
