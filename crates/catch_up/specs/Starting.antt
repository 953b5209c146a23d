-- What is known at the start of a station.
use Rattle.std.specs.Prelude.{◌≡◌, ◌≤◌, ℕ, Bool, true, false, not, ◌&&◌, List, Option, Some, None, if◌then◌else◌}
use Rattle.protocol.specs.Limits.{last_number}
use Rattle.gone_out.specs.declared.origin.Origin.{Origin}
use Rattle.gone_out.specs.declared.known.Known.{Known}
use Rattle.gone_out.specs.Numbers.{has}
use Rattle.healing.specs.declared.case.LackedNumber.{LackedNumber}
use Rattle.healing.specs.declared.news.NumberNews.TheVariants.{Saved}
use Rattle.healing.specs.Cases.{fresh}
use Rattle.healing.specs.Healing.{HealingValue, case_at}
use Rattle.roll_call.specs.Answers.{nothing_asked}
use Rattle.roll_call.specs.Asks.{asks_from}
use Rattle.roll_call.specs.Held.{AreCounted}
use Rattle.roll_call.specs.RollCall.{RollCallValue}
use Rattle.catch_up.specs.declared.start.Start.{Start}
use Rattle.catch_up.specs.declared.wave.AskedNumbers.{AskedNumbers}
use Rattle.catch_up.specs.Waves.{IsNothingAsked}

-- what a number is at the start: known, where it has a row and did not go out
abbrev pub first_case : ℕ → Known → List Bool → ℕ → ℕ → Option LackedNumber
first_case own known gone now n = if has known.rows n && not (has gone n) then fresh own (Saved (has known.votes n)) now else None

-- each circuit number is as at the start
abbrev pub AreFirst : ℕ → Known → List Bool → ℕ → HealingValue → Type 0
AreFirst own known gone now h = (n : ℕ) → 1 ≤ n → n ≤ last_number → case_at h n ≡ first_case own known gone now n

-- what is known of a number at the start was told, if it has a row
pub record IsRowTold (known : Known) (number now : ℕ) (old new : HealingValue) : Type 0 where
  pub same : case_at new number ≡ first_case old.own known old.gone now number
  pub others : (n : ℕ) → ¬ (n ≡ number) → case_at new n ≡ case_at old n
  pub gone : new.gone ≡ old.gone
  pub own : new.own ≡ old.own

-- what is known of all numbers at the start was told
pub record AreRowsTold (known : Known) (now : ℕ) (old new : HealingValue) : Type 0 where
  pub rows : AreFirst old.own known old.gone now new
  pub gone : new.gone ≡ old.gone
  pub own : new.own ≡ old.own

-- what is lacked, by what has rows and what went out: nothing, where one of them is not known
abbrev pub StartsFrom : ℕ → Option Known → Option (List Bool) → ℕ → Option HealingValue → Type 0
StartsFrom own None went now h = h ≡ None
StartsFrom own (Some known) None now h = h ≡ None
StartsFrom own (Some known) (Some gone) now None = ⊥
StartsFrom own (Some known) (Some gone) now (Some h) = (h.own ≡ own) × (h.gone ≡ gone) × AreFirst own known gone now h

-- by what the station starts from
abbrev pub StartsWith : Start → ℕ → Option HealingValue → Type 0
StartsWith start now h = StartsFrom start.own.member start.known start.gone now h

-- what is known of votes: the own ones, and nobody told anything; nothing, where it is not known what has rows
abbrev pub CallsFrom : Origin → Option Known → ℕ → Option RollCallValue → Type 0
CallsFrom own None now c = c ≡ None
CallsFrom own (Some known) now None = ⊥
CallsFrom own (Some known) now (Some c) =
    (c.own ≡ own) × (c.held.votes ≡ known.votes) × AreCounted c.held.votes c.held.counts × (c.answers ≡ nothing_asked) × (c.asks ≡ asks_from own now)

-- nothing was asked for, where anything ever is
abbrev pub AsksFrom : Bool → Option AskedNumbers → Type 0
AsksFrom asks None = asks ≡ false
AsksFrom asks (Some a) = (asks ≡ true) × IsNothingAsked a
