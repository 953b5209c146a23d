-- Why a recall or a roll is passed over, and the texts that stand for it.
use Rattle.std.specs.Prelude.{◌==◌, ℕ, not, nat_lt, List, Result, Ok, Err, codes, if◌then◌else◌}
use Rattle.gone_out.specs.declared.origin.Origin.{Origin}
use Rattle.recalls.specs.Tickets.{Ticket}
use Rattle.recalls.specs.Recalls.{ticket_of}
use Rattle.recalls.specs.declared.fault.RecallFault.{RecallFault}
use Rattle.recalls.specs.declared.fault.RecallFault.TheVariants as faults
use Rattle.rolls.specs.Rolls.{ticket_of as roll_ticket}
use Rattle.rolls.specs.declared.fault.RollFault.{RollFault}
use Rattle.rolls.specs.declared.fault.RollFault.TheVariants as roll_faults
use Rattle.rolls.specs.declared.aside.Aside.{Aside}
use Rattle.rolls.specs.declared.aside.Aside.TheVariants as asides
use Rattle.catch_up.specs.declared.unheard.Unheard.{Unheard}
use Rattle.catch_up.specs.declared.unheard.Unheard.TheVariants.{Bad, BadRoll, WrongCircuit, NotForMe, Stranger}

-- the text for bytes that are no recall, by their first fault
abbrev pub fault_text : RecallFault → List ℕ
fault_text faults.Short = codes "short"
fault_text faults.BadMark = codes "bad-mark"
fault_text faults.BadVersion = codes "bad-version"
fault_text faults.BadKind = codes "bad-kind"
fault_text faults.BadMember = codes "bad-member"
fault_text faults.BadCount = codes "bad-count"
fault_text faults.BadNumber = codes "bad-number"
fault_text faults.BadOrder = codes "bad-order"
fault_text faults.Long = codes "long"

-- the text for bytes that are no roll, by their first fault
abbrev pub roll_fault_text : RollFault → List ℕ
roll_fault_text roll_faults.Short = codes "short"
roll_fault_text roll_faults.BadMark = codes "bad-mark"
roll_fault_text roll_faults.BadVersion = codes "bad-version"
roll_fault_text roll_faults.BadKind = codes "bad-kind"
roll_fault_text roll_faults.BadMember = codes "bad-member"
roll_fault_text roll_faults.BadPage = codes "bad-page"
roll_fault_text roll_faults.BadPad = codes "bad-pad"
roll_fault_text roll_faults.BadCount = codes "bad-count"
roll_fault_text roll_faults.BadBits = codes "bad-bits"
roll_fault_text roll_faults.Long = codes "long"

-- the text for each reason
abbrev pub text_of : Unheard → List ℕ
text_of (Bad fault) = fault_text fault
text_of (BadRoll fault) = roll_fault_text fault
text_of WrongCircuit = codes "wrong-circuit"
text_of NotForMe = codes "not-for-me"
text_of Stranger = codes "stranger"

-- whether what came is of this circuit, to this station, from a member, by its ticket; and the first reason where it is not
abbrev pub checked : Origin → Ticket → Result (Unit {0}) Unheard
checked own h =
    if not (h.circuit == own.circuit) then Err WrongCircuit
    else if not (h.to == own.member) then Err NotForMe
    else if nat_lt own.count h.from then Err Stranger
    else Ok tt

-- what becomes of a recall or a roll that came, by how it was read
abbrev pub heard_by : Origin → Aside → Result (Unit {0}) Unheard
heard_by own (asides.Recall (Err fault)) = Err (Bad fault)
heard_by own (asides.Recall (Ok r)) = checked own (ticket_of r)
heard_by own (asides.Roll (Err fault)) = Err (BadRoll fault)
heard_by own (asides.Roll (Ok r)) = checked own (roll_ticket r)
