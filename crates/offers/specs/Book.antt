-- What the book knows at the start, and what holds of it at all times.
use Rattle.std.specs.Prelude.{Bool, true, ◌≡◌, ◌≤◌, ℕ, List, [], false, nat_le, None, length, if◌then◌else◌, Result, OnOk, OnErr}
use Rattle.std.specs.declared.alloc.AllocError.{AllocError}
use Rattle.offers.specs.declared.marks.Marks.{Marks}
use Rattle.offers.specs.declared.offer.FoundOffer.{FoundOffer}
use Rattle.offers.specs.Looks.{looked}
use Rattle.offers.specs.Marks.{IsMarked}
use Rattle.offers.specs.Order.{Rises}
use Rattle.offers.specs.Rules.{Standing, AreApart, entry_of}
use Rattle.offers.specs.Left.{NoAsks}
use Rattle.offers.specs.UnderWay.{AreHeld, AreAlone}

-- nothing is known yet
pub record IsFresh (b : Standing) : Type 0 where
  pub files : b.files ≡ []
  pub window : b.window ≡ []
  pub released : (n : ℕ) → entry_of b n ≡ None
  pub row : b.row ≡ 0
  pub since_search : b.since_search ≡ 0

-- a place that begins with the first again, where it has come to the searches or to the end
abbrev pub begun_again : ℕ → ℕ → ℕ
begun_again index end = if nat_le end index then 0 else index

-- the book after a look: all that was found is left to be seen to, and files that are no searches come first where searches were being read
abbrev pub after_look : ℕ → List FoundOffer → Standing → Standing
after_look now found b = record b { files = looked b.files now found; looked = now; moves = 0; others = begun_again b.others (length b.files); asks = true }

-- a look was taken in; where memory is refused, the book stays as it was
pub record IsLookTaken (found : List FoundOffer) (now : ℕ) (old new : Standing) (result : Result (Unit {0}) AllocError) : Type 0 where
  pub ok : OnOk result (new ≡ after_look now found old)
  pub err : OnErr result (new ≡ old)

-- what holds of every book: its files are in order, no two numbers under way are one, they are 16 at most, a file is under way only with
-- its number, and of one number one file is; each file is marked as it is; and where none is left to be asked for, the station may be asked for none
pub record IsBook (b : Standing) (m : Marks) : Type 0 where
  pub rises : Rises b.files
  pub apart : AreApart b.window
  pub few : length b.window ≤ 16
  pub held : AreHeld b.window b.files
  pub alone : AreAlone b.files
  pub marked : IsMarked b m
  pub idle : b.asks ≡ false → NoAsks b

-- how long a file has to stay as it was found until it is whole, in milliseconds: files that come only by being renamed are so at once
abbrev pub still_for : Bool → ℕ
still_for true = 0
still_for false = 500
