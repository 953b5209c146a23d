-- No search starves, over any number of asks.
use Rattle.std.specs.Prelude.{◌≡◌, ◌≤◌, ℕ, List, [], ◌∷◌, true, Some, length}
use Rattle.std.specs.List.{list_any}
use Rattle.folders.specs.declared.names.FileRequest.{FileRequest}
use Rattle.offers.specs.declared.deed.Deed.TheVariants.{Ask}
use Rattle.offers.specs.Left.{NoSearches}
use Rattle.offers.specs.Order.{is_search}
use Rattle.offers.specs.Rules.{Standing}
use Rattle.offers.specs.Turns.{AsksFirst, since_after}

-- the station was asked for this, by a book as it stood
pub record Asked : Type 0 where
  pub book : Standing
  pub request : FileRequest

-- asks one after the other, each in its turn, while the station may be asked for a search; between them anything may happen but an ask
abbrev pub AreAsks : ℕ → List Asked → Type 0
AreAsks since [] = Unit {0}
AreAsks since (a ∷ rest) =
    (a.book.since_search ≡ since) × ¬ NoSearches a.book × AsksFirst a.book (Ask a.request) × AreAsks (since_after (Some (Ask a.request)) since) rest

-- of any nine asks in a row one is for a search, as long as the station may be asked for one
abbrev pub SearchesAreAskedFor : Type 0
SearchesAreAskedFor = (since : ℕ) (asks : List Asked) → AreAsks since asks → 9 ≤ length asks → list_any (λ a. is_search a.request.kind) asks ≡ true
