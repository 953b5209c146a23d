-- What is odd about the address of a station.
use Rattle.std.specs.Prelude.{Option, Some, None}
use Rattle.plant_commands.specs.declared.reach.Reach.{Reach}
use Rattle.plant_commands.specs.declared.reach.Reach.TheVariants.{Nowhere, Itself, Network, Everywhere}
use Rattle.plant_commands.specs.declared.oddity.Oddity.{Oddity}
use Rattle.plant_commands.specs.declared.oddity.Oddity.TheVariants.{NoHost, Apart}

-- what is odd, where the first station is reached from the first of these and the station itself from the second: it is reached from
-- nowhere, or from elsewhere than the first. Beside one that is reached from nowhere no other is odd for that
abbrev pub oddity_of : Reach → Reach → Option Oddity
oddity_of Nowhere Nowhere = Some NoHost
oddity_of Nowhere Itself = None
oddity_of Nowhere Network = None
oddity_of Nowhere Everywhere = None
oddity_of Itself Nowhere = Some NoHost
oddity_of Itself Itself = None
oddity_of Itself Network = Some (Apart Network Itself)
oddity_of Itself Everywhere = Some (Apart Everywhere Itself)
oddity_of Network Nowhere = Some NoHost
oddity_of Network Itself = Some (Apart Itself Network)
oddity_of Network Network = None
oddity_of Network Everywhere = Some (Apart Everywhere Network)
oddity_of Everywhere Nowhere = Some NoHost
oddity_of Everywhere Itself = Some (Apart Itself Everywhere)
oddity_of Everywhere Network = Some (Apart Network Everywhere)
oddity_of Everywhere Everywhere = None
