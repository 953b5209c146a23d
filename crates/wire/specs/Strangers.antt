-- What is kept of datagrams that are not admitted, of each reason, and what is told of it.
use Rattle.std.specs.Prelude.{◌≡◌, ◌+◌, ◌-◌, ◌^◌, ◌&&◌, ℕ, Bool, nat_le, Option, Some, None, is_some, min, List, position, slice_index_or, slice_set, MatchOption}
use Rattle.std.specs.declared.net.socket_addr.SocketAddr.{SocketAddr}
use Rattle.wire.specs.declared.reason.Reason.{Reason}
use Rattle.wire.specs.declared.reason.Reason.TheVariants as reasons
use Rattle.wire.specs.declared.strangers.Strangers.{Strangers}
use Rattle.wire.specs.declared.strangers.ReasonTally.{ReasonTally}

-- how many were counted, and one more, as far as there are numbers
abbrev pub count_with : Option Strangers → ℕ
count_with None = 1
count_with (Some strangers) = min (strangers.count + 1) (2 ^ 64 - 1)

-- what was kept of a reason, and a datagram of this sender
abbrev pub kept_with : Reason → SocketAddr → Option Strangers → Option Strangers
kept_with reason sender kept = Some (record { reason = reason; count = count_with kept; last = sender })

-- one datagram more
abbrev pub counted : Reason → SocketAddr → ReasonTally → ReasonTally
counted reason sender t = record t { kept = kept_with reason sender t.kept }

-- nothing is kept, and nothing was told
abbrev pub nothing_kept : ReasonTally
nothing_kept = record { kept = None; due = 0 }

-- the place of a reason among those that there are
abbrev pub place_of : Reason → ℕ
place_of reasons.Stranger = 0
place_of reasons.OwnAddress = 1
place_of reasons.Sealed = 2
place_of reasons.OtherSender = 3
place_of reasons.NotSealed = 4
place_of reasons.OtherKey = 5
place_of reasons.Elsewhere = 6
place_of reasons.NoPart = 7

-- of this reason one datagram more was kept, and of the others what was
abbrev pub with_counted : Reason → SocketAddr → List ReasonTally → List ReasonTally
with_counted reason sender tallies =
    slice_set tallies (place_of reason) (counted reason sender (slice_index_or tallies (place_of reason) nothing_kept))

-- a second later, as far as there are moments
abbrev pub later : ℕ → ℕ
later now = min (now + 1000) (2 ^ 64 - 1)

-- there is something to tell at this moment: some are kept, and the last telling was a second ago at least
abbrev pub is_due : ℕ → ReasonTally → Bool
is_due now t = nat_le t.due now && is_some t.kept

-- nothing is kept of what was told, and no more is told within a second
abbrev pub told_at : ℕ → ReasonTally
told_at now = record { kept = None; due = later now }

-- the first is told of which there is something to tell; where there is none, nothing is told, and all stays
abbrev pub TellsFirst : ℕ → Option Strangers → List ReasonTally → List ReasonTally → Type 0
TellsFirst now told old new =
    MatchOption (position (is_due now) old) ((told ≡ None) × (new ≡ old))
    (λ place. (told ≡ (slice_index_or old place nothing_kept).kept) × (new ≡ slice_set old place (told_at now)))
