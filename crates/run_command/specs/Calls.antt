-- What the station is asked for a file among the offers, and which of its refusals stand.
use Rattle.std.specs.Prelude.{ℕ}
use Rattle.protocol.specs.Refusals.{Call, Offering, Seeking}
use Rattle.tape_frames.specs.Entries.{owned_entry}
use Rattle.refusals.specs.declared.refusal.StepRefusal.{StepRefusal}
use Rattle.refusals.specs.declared.refusal.StepRefusal.TheVariants as steps
use Rattle.folders.specs.declared.wishes.Wish.{Wish}
use Rattle.folders.specs.declared.wishes.Wish.TheVariants.{Offered, Sought}

-- how the station is called for what is asked of a number at a moment
abbrev pub call_of : Wish → ℕ → ℕ → Call
call_of (Offered entry) n now = Offering n (owned_entry entry) now
call_of Sought n now = Seeking n now

-- a refusal of what is offered, which stands: the number is none, the version of the rows has no spelling for it, it does not set, or no ballot is left
abbrev pub IsOfOffer : StepRefusal → Type 0
IsOfOffer steps.BadNumber = Unit {0}
IsOfOffer steps.WireTooOld = Unit {0}
IsOfOffer (steps.TapeFaulty fault) = Unit {0}
IsOfOffer steps.RoundsSpent = Unit {0}
IsOfOffer steps.Stopped = ⊥
IsOfOffer (steps.BadDatagram fault) = ⊥
IsOfOffer steps.WrongCircuit = ⊥
IsOfOffer steps.NotForMe = ⊥
IsOfOffer steps.Stranger = ⊥
IsOfOffer steps.NoSuchMember = ⊥
IsOfOffer steps.AlreadyReleased = ⊥
IsOfOffer steps.AlreadyOpen = ⊥
IsOfOffer (steps.Store fault) = ⊥
IsOfOffer steps.OutOfMemory = ⊥
