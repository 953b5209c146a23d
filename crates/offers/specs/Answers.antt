-- What becomes of the book once it is known what became of a number.
use Rattle.std.specs.Prelude.{◌≡◌, ◌≢◌, ℕ, List, Bool, true, Some}
use Rattle.tape_frames.specs.declared.entry.Entry.{Entry}
use Rattle.pace.specs.UnderWay.{without}
use Rattle.offers.specs.declared.stage.Landing.{Landing}
use Rattle.offers.specs.declared.stage.Landing.TheVariants as landings
use Rattle.offers.specs.declared.stage.FileNews.TheVariants as news
use Rattle.offers.specs.Rules.{Standing, entry_in, entry_of, is_under_way}
use Rattle.offers.specs.Stages.{after, all_changed}

-- the number is no longer under way, and its files are told
abbrev pub landed_in : ℕ → Landing → ℕ → Standing → Standing
landed_in n landing now b = record b { window = without n b.window; files = all_changed n (after (news.Landed landing) now) b.files; asks = true }

-- what the station was asked for a number came to this
pub record Lands (n : ℕ) (landing : Landing) (now : ℕ) (old new : Standing) (was_under_way : Bool) : Type 0 where
  -- whether the number was under way: only then is there something to tell
  pub news : was_under_way ≡ is_under_way n old.window
  -- the number is no longer, and its files are told
  pub same : new ≡ landed_in n landing now old

-- an entry is kept in mind for a number, and those of other numbers stay
pub record Keeps (n : ℕ) (entry : Entry) (old new : List (ℕ × Entry)) : Type 0 where
  pub kept : entry_in new n ≡ Some entry
  pub rest : (m : ℕ) → m ≢ n → entry_in new m ≡ entry_in old m

-- a number was released: its entry is kept in mind, it is no longer under way, and its files leave the offers
pub record Releases (n : ℕ) (entry : Entry) (old new : Standing) : Type 0 where
  pub kept : entry_of new n ≡ Some entry
  pub rest : (m : ℕ) → m ≢ n → entry_of new m ≡ entry_of old m
  pub window : new.window ≡ without n old.window
  pub files : new.files ≡ all_changed n (after (news.Landed landings.Released) 0) old.files
  pub looked : new.looked ≡ old.looked
  pub still : new.still ≡ old.still
  pub moves : new.moves ≡ old.moves
  pub asks : new.asks ≡ true
  pub row : new.row ≡ old.row
  pub since_search : new.since_search ≡ old.since_search
  pub others : new.others ≡ old.others
