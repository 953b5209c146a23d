-- What a look makes of the book.
use Rattle.std.specs.Prelude.{ℕ, ◌==◌, ◌&&◌, Bool, false, List, map, Option, Some, None, if◌then◌else◌}
use Rattle.std.specs.Ordering.{int_eq}
use Rattle.folders.specs.declared.stamp.Stamp.{Stamp}
use Rattle.offers.specs.declared.offer.FoundOffer.{FoundOffer}
use Rattle.offers.specs.declared.offer.Offer.{Offer}
use Rattle.offers.specs.declared.stage.Stage.{Stage}
use Rattle.offers.specs.declared.stage.Stage.TheVariants.{Watched}
use Rattle.offers.specs.Order.{rank, file_at, rising}
use Rattle.offers.specs.Stages.{anew}

-- the same file and length, and the same moments of change, of what the file holds and of what is told about it
abbrev pub is_same_stamp : Stamp → Stamp → Bool
is_same_stamp a b =
    (a.file.device == b.file.device) && (a.file.inode == b.file.inode) && (a.length == b.length) && int_eq a.changed.0 b.changed.0 && int_eq a.changed.1 b.changed.1 && int_eq a.touched.0 b.touched.0 && int_eq a.touched.1 b.touched.1

-- since which look a file that is found now was found as it is, where this was known of it
abbrev pub since_after : Option Offer → ℕ → FoundOffer → ℕ
since_after None now f = now
since_after (Some o) now f = if is_same_stamp o.stamp f.stamp then o.since else now

-- what is known of it then: where it is as it was, what was known; else it is watched from now on
abbrev pub stage_after : Option Offer → ℕ → FoundOffer → Stage
stage_after None now f = Watched now false
stage_after (Some o) now f = if is_same_stamp o.stamp f.stamp then o.stage else anew now o.stage

-- a file that is found now, as it stands in the book then
abbrev pub seen_as : Option Offer → ℕ → FoundOffer → Offer
seen_as known now f = record { request = f.request; stamp = f.stamp; since = since_after known now f; stage = stage_after known now f }

-- the same beside all that was known
abbrev pub seen : List Offer → ℕ → FoundOffer → Offer
seen old now f = seen_as (file_at old (rank f.request)) now f

-- the book after a look: what was found and nothing else, each file as it was, where it is as it was
abbrev pub looked : List Offer → ℕ → List FoundOffer → List Offer
looked old now found = map (seen old now) (rising found)
