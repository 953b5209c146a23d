-- What a step of the station, or a packet, says of its number.
use Rattle.std.specs.Prelude.{Bool, true, false, Option, Some, None, List, [], ◌∷◌, ◌++◌, option_to_list, if◌then◌else◌}
use Rattle.node_core.specs.declared.turn.Note.{Note}
use Rattle.node_core.specs.declared.turn.Note.TheVariants as notes
use Rattle.catch_up.specs.declared.packet.PacketHead.{PacketHead}
use Rattle.healing.specs.declared.news.NumberNews.{NumberNews}
use Rattle.healing.specs.declared.news.NumberNews.TheVariants.{Saved, Came, Voted, Opened, Closed, Nothing}

-- the news of a step with this note: a row was saved, with a vote of it or without, or a ballot ended; the others say nothing
abbrev pub news_of : Note → Option NumberNews
news_of (notes.Began b) = Some (Saved false)
news_of (notes.Promised b) = Some (Saved false)
news_of (notes.Proposed b) = Some (Saved true)
news_of (notes.Voted b) = Some (Saved true)
news_of (notes.Nothing b) = Some Nothing
news_of (notes.GaveUp b) = Some Closed
news_of notes.Idle = None
news_of notes.Silent = None
news_of (notes.Nacked p) = None
news_of (notes.VotedAgain b) = None
news_of notes.Stale = None
news_of (notes.Overtaken b) = None
news_of notes.Repeated = None
news_of (notes.Counted b) = None
news_of (notes.Denied p) = None
news_of notes.Settled = None
news_of (notes.Heard b) = None
news_of (notes.Recalled b) = None
news_of notes.Blank = None

-- all news of a step: that of its note, and that it opened a ballot for a file among the offers
abbrev pub all_news : Note → Bool → List NumberNews
all_news note opened = option_to_list (news_of note) ++ (if opened then Opened ∷ [] else [])

-- the news that a packet is
abbrev pub packet_news : PacketHead → NumberNews
packet_news p = if p.is_vote then Voted p.sender else Came
