-- What is seen of a world: its members' stations and its logs.
use Rattle.std.specs.Prelude.{◌≡◌, ℕ, zero, suc, List, ◌++◌, Option, None, length, slice_get}
use Rattle.rows_saved.specs.declared.balky.Balky.{Balky}
use Rattle.station.specs.declared.station.Station.{Station}
use Rattle.world.specs.declared.world.World.{World}

-- the station of a member, from 1
abbrev pub station_at : {R : Type 0} → World R → ℕ → Option (Station (Balky R))
station_at v zero = None
station_at v (suc i) = slice_get v.stations.items i

-- how many members there are
abbrev pub count_of : {R : Type 0} → World R → ℕ
count_of v = length v.stations.items

-- the stations and the logs stay
pub record IsSame {R : Type 0} (old new : World R) : Type 0 where
  pub stations : new.stations ≡ old.stations
  pub sent : new.sent.items ≡ old.sent.items
  pub offers : new.offers.items ≡ old.offers.items
  pub releases : new.releases.items ≡ old.releases.items

-- a list, and so many more behind it
pub record GoesOn {A : Type 0} (n : ℕ) (old new : List A) : Type 0 where
  pub more : List A
  pub is : new ≡ old ++ more
  pub many : length more ≡ n
