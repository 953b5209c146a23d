-- What news of a file makes of what is known of it.
use Rattle.std.specs.Prelude.{ℕ, ◌+◌, ◌-◌, ◌*◌, ◌^◌, ◌==◌, nat_le, min, true, false, List, map, Option, Some, None, Result, Ok, Err, if◌then◌else◌}
use Rattle.folders.specs.declared.names.OfferKind.TheVariants.{Tape, Text, Withdraw, Seek}
use Rattle.folders.specs.declared.names.FileRequest.{FileRequest}
use Rattle.folders.specs.declared.wishes.Wish.{Wish}
use Rattle.folders.specs.declared.wishes.Wish.TheVariants.{Offered, Sought}
use Rattle.offers.specs.declared.offer.Offer.{Offer}
use Rattle.offers.specs.declared.stage.Landing.{Landing}
use Rattle.offers.specs.declared.stage.Landing.TheVariants.{Ended, Nothing, Busy, Barred, Released}
use Rattle.offers.specs.declared.stage.FileNews.{FileNews}
use Rattle.offers.specs.declared.stage.FileNews.TheVariants as news
use Rattle.offers.specs.declared.stage.OfferFault.{OfferFault}
use Rattle.offers.specs.declared.stage.Stage.{Stage}
use Rattle.offers.specs.declared.stage.Stage.TheVariants.{Watched, Waiting, UnderWay, Refused, Answered, Gone}
use Rattle.offers.specs.declared.stage.Tries.{Tries}
use Rattle.offers.specs.Order.{rank}

-- so much later, or the last moment that there is
abbrev pub later : ℕ → ℕ → ℕ
later now pause = min (now + pause) (2 ^ 64 - 1)

-- twice as long a pause, and a minute at most
abbrev pub longer : ℕ → ℕ
longer pause = min (2 * pause) 60_000

-- nothing came of it yet
abbrev pub first_tries : Tries
first_tries = record { pause = 1000; nothings = 0 }

-- it came to nothing once more
abbrev pub longer_tries : Tries → Tries
longer_tries tries = record { pause = longer tries.pause; nothings = tries.nothings }

-- it waits once more, after its pause
abbrev pub put_back : Wish → Tries → ℕ → Stage
put_back wish tries now = Waiting wish (later now tries.pause) (longer_tries tries)

-- a majority knew of nothing once more
abbrev pub one_more : Tries → Tries
one_more tries = record { pause = tries.pause; nothings = tries.nothings + 1 }

-- A majority knew of nothing. A search for which it did so nine times before is answered, and leaves the offers at once; what else was asked
-- for waits once more. An entry that was offered is never answered so.
abbrev pub found_nothing : Wish → Tries → ℕ → Stage
found_nothing (Offered entry) tries now = put_back (Offered entry) tries now
found_nothing Sought tries now = if nat_le 9 tries.nothings then Answered 0 1000 else put_back Sought (one_more tries) now

-- a file that was changed is watched from now on, and it is kept in mind whether it was under way as it was changed
abbrev pub anew : ℕ → Stage → Stage
anew now (Watched at replaced) = Watched now replaced
anew now (Waiting wish at tries) = Watched now false
anew now (UnderWay wish tries) = Watched now true
anew now (Refused reason at pause) = Watched now false
anew now (Answered at pause) = Watched now false
anew now Gone = Watched now false

-- once more after its pause; a file that could not be read, after a minute
abbrev pub put_off : ℕ → Stage → Stage
put_off now (Watched at replaced) = Watched (later now 60_000) replaced
put_off now (Waiting wish at tries) = put_back wish tries now
put_off now (UnderWay wish tries) = UnderWay wish tries
put_off now (Refused reason at pause) = Refused reason (later now pause) (longer pause)
put_off now (Answered at pause) = Answered (later now pause) (longer pause)
put_off now Gone = Gone

-- what is known of a file of a number once this became of the number: it changes what is known of the file that was under way, and where
-- the number was released also of the others that were read, which leave the offers at once; one that waited keeps its moment, and so is
-- asked for before the one that was under way
abbrev pub landed : Landing → ℕ → Stage → Stage
landed Ended now (Watched at replaced) = Watched at replaced
landed Ended now (Waiting wish at tries) = Waiting wish at tries
landed Ended now (UnderWay wish tries) = put_back wish tries now
landed Ended now (Refused reason at pause) = Refused reason at pause
landed Ended now (Answered at pause) = Answered at pause
landed Ended now Gone = Gone
landed Nothing now (Watched at replaced) = Watched at replaced
landed Nothing now (Waiting wish at tries) = Waiting wish at tries
landed Nothing now (UnderWay wish tries) = found_nothing wish tries now
landed Nothing now (Refused reason at pause) = Refused reason at pause
landed Nothing now (Answered at pause) = Answered at pause
landed Nothing now Gone = Gone
landed Busy now (Watched at replaced) = Watched at replaced
landed Busy now (Waiting wish at tries) = Waiting wish at tries
landed Busy now (UnderWay wish tries) = Waiting wish (later now 1000) tries
landed Busy now (Refused reason at pause) = Refused reason at pause
landed Busy now (Answered at pause) = Answered at pause
landed Busy now Gone = Gone
landed (Barred why) now (Watched at replaced) = Watched at replaced
landed (Barred why) now (Waiting wish at tries) = Waiting wish at tries
landed (Barred why) now (UnderWay wish tries) = Refused why 0 1000
landed (Barred why) now (Refused reason at pause) = Refused reason at pause
landed (Barred why) now (Answered at pause) = Answered at pause
landed (Barred why) now Gone = Gone
landed Released now (Watched at replaced) = Watched at replaced
landed Released now (Waiting wish at tries) = Waiting wish 0 first_tries
landed Released now (UnderWay wish tries) = Waiting wish 0 first_tries
landed Released now (Refused reason at pause) = Refused reason at pause
landed Released now (Answered at pause) = Answered at pause
landed Released now Gone = Gone

-- what is known of a file after some news: what was read of it counts only where it was watched, and the station is asked only where it
-- waits
abbrev pub after : FileNews → ℕ → Stage → Stage
after (news.Read wish) now (Watched at replaced) = Waiting wish at first_tries
after (news.Read wish) now (Waiting own at tries) = Waiting own at tries
after (news.Read wish) now (UnderWay own tries) = UnderWay own tries
after (news.Read wish) now (Refused reason at pause) = Refused reason at pause
after (news.Read wish) now (Answered at pause) = Answered at pause
after (news.Read wish) now Gone = Gone
after (news.NoOffer why) now (Watched at replaced) = Refused why 0 1000
after (news.NoOffer why) now (Waiting own at tries) = Waiting own at tries
after (news.NoOffer why) now (UnderWay own tries) = UnderWay own tries
after (news.NoOffer why) now (Refused reason at pause) = Refused reason at pause
after (news.NoOffer why) now (Answered at pause) = Answered at pause
after (news.NoOffer why) now Gone = Gone
after news.Asked now (Watched at replaced) = Watched at replaced
after news.Asked now (Waiting wish at tries) = UnderWay wish tries
after news.Asked now (UnderWay wish tries) = UnderWay wish tries
after news.Asked now (Refused reason at pause) = Refused reason at pause
after news.Asked now (Answered at pause) = Answered at pause
after news.Asked now Gone = Gone
after news.PutOff now stage = put_off now stage
after news.Moved now stage = Gone
after (news.Landed landing) now stage = landed landing now stage

-- a file, changed so where it stands at this place
abbrev pub change_at : ℕ → (Stage → Stage) → Offer → Offer
change_at k g o = if rank o.request == k then record o { stage = g o.stage } else o

-- the files, the one at this place changed so and no other
abbrev pub changed : ℕ → (Stage → Stage) → List Offer → List Offer
changed k g offers = map (change_at k g) offers

-- the files of a number
abbrev pub tape_of : ℕ → FileRequest
tape_of n = record { number = n; kind = Tape }

abbrev pub text_of : ℕ → FileRequest
text_of n = record { number = n; kind = Text }

abbrev pub withdrawal_of : ℕ → FileRequest
withdrawal_of n = record { number = n; kind = Withdraw }

abbrev pub search_of : ℕ → FileRequest
search_of n = record { number = n; kind = Seek }

-- the files of a number changed so and no others
abbrev pub all_changed : ℕ → (Stage → Stage) → List Offer → List Offer
all_changed n g offers =
    changed (rank (search_of n)) g (changed (rank (withdrawal_of n)) g (changed (rank (text_of n)) g (changed (rank (tape_of n)) g offers)))

-- what a file asks for, where it was read and is an offer
abbrev pub wish_of : Stage → Option Wish
wish_of (Watched at replaced) = None
wish_of (Waiting wish at tries) = Some wish
wish_of (UnderWay wish tries) = Some wish
wish_of (Refused reason at pause) = None
wish_of (Answered at pause) = None
wish_of Gone = None

-- the same of the file that there is
abbrev pub wish_at : Option Offer → Option Wish
wish_at None = None
wish_at (Some o) = wish_of o.stage

-- what there is to tell of a file that was read
abbrev pub news_of : Result Wish OfferFault → FileNews
news_of (Ok wish) = news.Read wish
news_of (Err reason) = news.NoOffer reason
