-- On which host a station is.
use Rattle.std.specs.Prelude.{Bool, true, false}
use Rattle.plant_commands.specs.declared.place.HostPlace.{HostPlace}
use Rattle.plant_commands.specs.declared.place.HostPlace.TheVariants.{Own, Amiss, Beside, Away}

-- where a station is: whether it is that of the configuration, and whether its address is this host's
abbrev pub place_of : Bool → Bool → HostPlace
place_of true true = Own
place_of true false = Amiss
place_of false true = Beside
place_of false false = Away
