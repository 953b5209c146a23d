-- Who reported no vote at a ballot had none before it was begun; and the majority that reported shares a member with the one that voted.
use Rattle.std.proofs.Common.{◌≡◌, ℕ, refl, sym, subst, Bool, true, false, Some, None}
use Rattle.protocol.specs.Ballots.{Ballot, IsBelow, IsNoneOrBelow}
use Rattle.protocol.specs.Entries.{Entry}
use Rattle.protocol.specs.Marks.{Began}
use Rattle.protocol.specs.Turn.{Note_nothing}
use Rattle.protocol.specs.Circuit.{Circuit, State, Done, History, goes_on}
use Rattle.protocol.specs.Agreement.{WasVoted}
use Rattle.protocol_laws.proofs.Below.{at_most_below}
use Rattle.protocol_laws.proofs.Majorities.{shared}
use Rattle.protocol_laws.proofs.Moves.{known_below}
use Rattle.protocol_laws.proofs.Steps.{history_sound}
use Rattle.protocol_laws.proofs.Agreements.{reports_are_greatest}
use Rattle.roll_laws.specs.Votes.{has_vote, and_on, GoesOnTo}
use Rattle.roll_laws.specs.Searches.{IsAhead, ReportedNone, in_promise, as_owner, ChoicesHaveNewVoters, SearchesLeaveNews}
use Rattle.roll_laws.proofs.Voting.{is_some_of, voted_stays, who_voted_has_a_vote}
use Rattle.roll_laws.proofs.Promising.{promised_later}
use Rattle.roll_laws.proofs.Closing.{nothing_is_reported}

-- a report of no vote: there is none below the ballot
pub none_below :
    {D G F : Type 0} {z : Circuit D G F} {w : State G F} (k : History z w) (n : ℕ) (b : Ballot) (m : ℕ) → ReportedNone z w n b m
    → (a : Ballot) (t : Entry) → WasVoted k m n a t → ¬ IsBelow a b
none_below {z = z} {w = w} k n b m (in_promise p) a t v low = let x = (reports_are_greatest z w k m n b None p).is_greatest a t v low in let no : None ≡ Some x.0 = x.1 in cc
none_below k n b m (as_owner own now owner i) a t v low =
    let x = ((history_sound k).sound.marked m (Began n b own None now) i).1.greatest a t v low in let no : None ≡ Some x.0 = x.1 in cc

-- who reported was promised less than b while b was yet to be begun
promised_less :
    {D G F : Type 0} {z : Circuit D G F} {first found : State G F} {h : History z first} {k : History z found} → GoesOnTo h k
    → (n : ℕ) (b : Ballot) → IsAhead first n b → (m : ℕ) → ReportedNone z found n b m → IsNoneOrBelow (first.rows m n).promised b
promised_less {z = z} g n b ahead m (in_promise p) = promised_later z n b g ahead m None p
promised_less {first = first} g n b ahead m (as_owner own now owner i) = subst (λ (x : ℕ). IsNoneOrBelow (first.rows x n).promised b) (sym owner) ahead

-- so it had no vote then
had_none :
    {D G F : Type 0} {z : Circuit D G F} {first found : State G F} (h : History z first) (k : History z found) → GoesOnTo h k
    → (n : ℕ) (b : Ballot) → IsAhead first n b → (m : ℕ) → ReportedNone z found n b m → ¬ (has_vote first m n ≡ true)
had_none {first = first} h k g n b ahead m report e =
    let (v, held) = is_some_of (first.rows m n).vote e in
    let s = (history_sound h).sound in
    let p = s.valid m n v held in
    let low : IsBelow v.ballot b = at_most_below v.ballot p.at b p.reaches (known_below (first.rows m n).promised p.at b (promised_less g n b ahead m report) p.is) in
    none_below k n b m report v.ballot v.entry (voted_stays g m n v.ballot v.entry (s.kept m n v held)) low

not_true : (b : Bool) → ¬ (b ≡ true) → b ≡ false
not_true true h = absurd (h refl)
not_true false h = refl

pub choices_have_new_voters : {D G F : Type 0} → ChoicesHaveNewVoters D G F
choices_have_new_voters z first found h k g n b ahead reports now l t later (a, voters) known are_known =
    let (m, i, voted, report) = shared voters reports in
    let none : ¬ (has_vote first m n ≡ true) = had_none h k g n b ahead m report in
    record {
      member = m;
      is_member = i;
      had_none = not_true (has_vote first m n) none;
      has_one = who_voted_has_a_vote z now l m n a t voted;
      is_new = not_true (known m) (λ e. none (are_known m e));
    }

pub searches_leave_news : {D G F : Type 0} → SearchesLeaveNews D G F
searches_leave_news z first w after h k g n b ahead x =
    let st = x.leads in
    choices_have_new_voters z first after h (goes_on k x.step (Done (Note_nothing b)) st) (and_on g x.step (Done (Note_nothing b)) st) n b ahead
    (nothing_is_reported z w after k n b x)
