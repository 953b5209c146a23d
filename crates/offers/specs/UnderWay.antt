-- Which files are under way, and how they stand to the numbers that are.
use Rattle.std.specs.Prelude.{◌≡◌, ℕ, List, Bool, true, false, Option, Some, None}
use Rattle.std.specs.List.{count_by}
use Rattle.folders.specs.declared.names.FileRequest.{FileRequest}
use Rattle.offers.specs.declared.offer.Offer.{Offer}
use Rattle.offers.specs.declared.stage.FileNews.{FileNews}
use Rattle.offers.specs.declared.stage.FileNews.TheVariants as news
use Rattle.offers.specs.declared.stage.Stage.{Stage}
use Rattle.offers.specs.declared.stage.Stage.TheVariants.{Watched, Waiting, UnderWay, Refused, Answered, Gone}
use Rattle.offers.specs.Order.{rank, file_at}
use Rattle.offers.specs.Rules.{is_under_way}

-- the station was asked for it, and what came of that is not known yet
abbrev pub flies : Stage → Bool
flies (Watched at replaced) = false
flies (Waiting wish at tries) = false
flies (UnderWay wish tries) = true
flies (Refused reason at pause) = false
flies (Answered at pause) = false
flies Gone = false

-- the same of the file that there is
abbrev pub file_flies : Option Offer → Bool
file_flies None = false
file_flies (Some o) = flies o.stage

-- the file that asks for this is under way
abbrev pub is_asked : List Offer → FileRequest → Bool
is_asked files r = file_flies (file_at files (rank r))

-- how many files are under way
abbrev pub asked_count : List Offer → ℕ
asked_count files = count_by (λ (o : Offer). flies o.stage) files

-- the number of each file that is under way is under way
abbrev pub AreHeld : List ℕ → List Offer → Type 0
AreHeld window files = (r : FileRequest) → is_asked files r ≡ true → is_under_way r.number window ≡ true

-- of one number one file is under way
abbrev pub AreAlone : List Offer → Type 0
AreAlone files = (r s : FileRequest) → is_asked files r ≡ true → is_asked files s ≡ true → r.number ≡ s.number → r ≡ s

-- such news puts a file under way
abbrev pub begins : FileNews → Bool
begins (news.Read wish) = false
begins (news.NoOffer why) = false
begins news.Asked = true
begins news.PutOff = false
begins news.Moved = false
begins (news.Landed landing) = false
