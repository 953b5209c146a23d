-- The words for why a line or a datagram is refused.
use Rattle.std.specs.Prelude.{ℕ, List, ◌++◌, codes}
use Rattle.packets.specs.declared.fault.PacketFault.{PacketFault}
use Rattle.packets.specs.declared.fault.PacketFault.TheVariants as faults
use Rattle.refusals.specs.declared.refusal.StepRefusal.{StepRefusal}
use Rattle.refusals.specs.declared.refusal.StepRefusal.TheVariants as steps
use Rattle.refusals.specs.CauseWords.{cause_text}
use Rattle.refusals.specs.declared.line_refusal.Refusal.{Refusal}
use Rattle.refusals.specs.declared.line_refusal.Refusal.TheVariants.{NotHex, Packet, WrongCircuit, NotForMe, NotARequest}

-- the word for bytes that are no packet, by the first rule of packets that they break
abbrev pub fault_word : PacketFault → List ℕ
fault_word faults.Short = codes "short"
fault_word faults.BadMark = codes "bad-mark"
fault_word faults.BadVersion = codes "bad-version"
fault_word faults.BadKind = codes "bad-kind"
fault_word faults.BadMember = codes "bad-member"
fault_word faults.BadNumber = codes "bad-number"
fault_word faults.BadBallot = codes "bad-ballot"
fault_word faults.BadSender = codes "bad-sender"
fault_word faults.BadReport = codes "bad-report"
fault_word faults.BadFrames = codes "bad-frames"
fault_word faults.BadPad = codes "bad-pad"
fault_word faults.Long = codes "long"

-- the word for each refusal
abbrev pub word_of : Refusal → List ℕ
word_of NotHex = codes "not-hex"
word_of (Packet fault) = fault_word fault
word_of WrongCircuit = codes "wrong-circuit"
word_of NotForMe = codes "not-for-me"
word_of NotARequest = codes "not-a-request"

-- the word for why a station refuses a step
abbrev pub step_word : StepRefusal → List ℕ
step_word steps.Stopped = codes "stopped"
step_word (steps.BadDatagram fault) = fault_word fault
step_word steps.WrongCircuit = codes "wrong-circuit"
step_word steps.NotForMe = codes "not-for-me"
step_word steps.Stranger = codes "stranger"
step_word steps.BadNumber = codes "bad-number"
step_word steps.NoSuchMember = codes "no-such-member"
step_word steps.AlreadyReleased = codes "already-released"
step_word steps.AlreadyOpen = codes "already-open"
step_word steps.WireTooOld = codes "wire-too-old"
step_word (steps.TapeFaulty fault) = codes "tape-faulty"
step_word steps.RoundsSpent = codes "rounds-spent"
step_word (steps.Store fault) = codes "store"
step_word steps.OutOfMemory = codes "memory"

-- why a station refuses a step; a tape that does not set has its cause behind the word
abbrev pub refusal_text : StepRefusal → List ℕ
refusal_text steps.Stopped = step_word steps.Stopped
refusal_text (steps.BadDatagram fault) = step_word (steps.BadDatagram fault)
refusal_text steps.WrongCircuit = step_word steps.WrongCircuit
refusal_text steps.NotForMe = step_word steps.NotForMe
refusal_text steps.Stranger = step_word steps.Stranger
refusal_text steps.BadNumber = step_word steps.BadNumber
refusal_text steps.NoSuchMember = step_word steps.NoSuchMember
refusal_text steps.AlreadyReleased = step_word steps.AlreadyReleased
refusal_text steps.AlreadyOpen = step_word steps.AlreadyOpen
refusal_text steps.WireTooOld = step_word steps.WireTooOld
refusal_text (steps.TapeFaulty fault) = step_word (steps.TapeFaulty fault) ++ (codes " " ++ cause_text fault)
refusal_text steps.RoundsSpent = step_word steps.RoundsSpent
refusal_text (steps.Store fault) = step_word (steps.Store fault)
refusal_text steps.OutOfMemory = step_word steps.OutOfMemory
