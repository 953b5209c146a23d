-- What the doors of this machine bring.
use Rattle.std.proofs.Common.{◌≡◌, subst, sym}
use Rattle.wire.specs.Doors.{BringsAlike}
use Rattle.sealed_door.specs.Admitting.{BringsSealed}
use Rattle.sealed_door.specs.declared.door.SealedDoor.{SealedDoor}
use Rattle.commands.specs.Wires.{BringsAt}
use Rattle.commands.specs.declared.host_door.HostDoor.{HostDoor}
use Rattle.commands.specs.declared.host_door.HostDoor.TheVariants as doors

-- a sealed door that brings the same is such a door that does
pub sealed_alike : (old : HostDoor) (door new : SealedDoor) → old ≡ doors.Sealed door → BringsAlike (BringsSealed door) (BringsSealed new) → BringsAlike (BringsAt old) (BringsSealed new)
sealed_alike old door new is alike = subst (λ (d : HostDoor). BringsAlike (BringsAt d) (BringsSealed new)) (sym is) alike
