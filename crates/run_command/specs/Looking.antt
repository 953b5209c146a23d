-- What a look found, put in order, and what it passed over, as it is told.
use Rattle.std.specs.Prelude.{◌≡◌, String}
use Rattle.std.specs.Global.{Global}
use Rattle.std.specs.Map.{values_of}
use Rattle.folders.specs.declared.fault.FolderFault.{FolderFault}
use Rattle.folders.specs.declared.folders.PassedOver.{PassedOver}
use Rattle.offers.specs.Order.{rising}
use Rattle.looks.specs.declared.gathering.EndedLook.{EndedLook}
use Rattle.run_command.specs.declared.unseen.Sorted.{Sorted}

-- a name and why it was passed over
abbrev pub passed_over : String Global × FolderFault → PassedOver
passed_over other = record { name = other.0; fault = other.1 }

-- all that a look found is there, the requests in order of their places and each once
pub record Sorts (seen : EndedLook) (sorted : Sorted) : Type 0 where
  pub requests : sorted.requests.items ≡ values_of seen.requests
  pub rising : rising sorted.requests.items ≡ sorted.requests.items
  pub strays : sorted.strays ≡ seen.strays
  pub others : sorted.others ≡ seen.others
  pub skipped : sorted.skipped ≡ seen.skipped
