-- The packets so far are spelled.
use Rattle.std.specs.Prelude.{take}
use Rattle.std.specs.List.{AllZip}
use Rattle.tape_frames.specs.Entries.{version_of}
use Rattle.station.specs.Readiness.{IsSpelled}
use Rattle.station.proofs.save.spell_all.Given as goal

abbrev pub invariant-loop-place : goal.invariant-loop-place
invariant-loop-place l = AllZip (IsSpelled (version_of l.version)) (take l.place l.packets) l.out.items
