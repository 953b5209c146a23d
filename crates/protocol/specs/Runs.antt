-- One station's turns, one after another, and worked examples of them: each holds by computing the turns.
-- The examples are of number 12 in circuit 7; m of c stands for station m in a circuit of c members.
use Rattle.std.specs.Prelude.{◌≡◌, ℕ, zero, suc, ◌*◌, List, [], ◌∷◌, ◌++◌, Option, Some, None, ◌==◌, map, if◌then◌else◌}
use Rattle.protocol.specs.Seats.{Seat, sits}
use Rattle.protocol.specs.Ballots.{Ballot}
use Rattle.protocol.specs.Entries.{Entry}
use Rattle.protocol.specs.Rows.{Row, vote_for, raised, voted, blank}
use Rattle.protocol.specs.Packets.{Packet, Body, Prepare, Promise, Accept, Accepted, Nack}
use Rattle.protocol.specs.Marks.{Mark}
use Rattle.protocol.specs.Proposals.{open_ballot}
use Rattle.protocol.specs.Turn.{Event, Offered, Sought, Came_due, Arrived, Recalled, number_of, Note, Note_began, Note_nothing, Note_proposed, Note_idle, Note_gave_up, Note_promised, Note_silent, Note_nacked, Note_voted_again, Note_voted, Note_overtaken, Note_denied, Note_settled, Note_heard, Note_recalled, Note_blank, Turn, packet_to, turn}

-- what a turn shows to the outside
pub record Shown : Type 0 where
  pub note : Note
  pub out : List Packet
  pub release : Option Entry

-- what this turn shows
abbrev pub shown_of : Turn → Shown
shown_of t = record { note = t.note; out = t.out; release = t.release }

-- where a station stands, and what it has shown so far, the first first
pub record Run : Type 0 where
  pub marks : List Mark
  pub row : Row
  pub shown : List Shown

-- the run after a turn; it stays where no ballot is left
abbrev pub went_on : Run → Option Turn → Run
went_on r None = r
went_on r (Some t) = record { marks = t.marks; row = t.row; shown = r.shown ++ shown_of t ∷ [] }

-- the run after these events too, the first first
abbrev pub ran_on : Seat → Run → List Event → Run
ran_on seat r [] = r
ran_on seat r (e ∷ es) = ran_on seat (went_on r (turn seat r.marks r.row e)) es

-- the run of a station that starts with this row
abbrev pub run_from : Seat → Row → List Event → Run
run_from seat row es = ran_on seat (record { marks = []; row = row; shown = [] }) es

-- the run of a station that starts with a blank row
abbrev pub run_of : Seat → List Event → Run
run_of seat es = run_from seat blank es

-- the notes of a run, the first first
abbrev pub notes_of : Run → List Note
notes_of r = map (λ (s : Shown). s.note) r.shown

-- what each turn of a run released
abbrev pub releases_of : Run → List (Option Entry)
releases_of r = map (λ (s : Shown). s.release) r.shown

-- the ballot of this round and owner
abbrev pub ballot : ℕ → ℕ → Ballot
ballot round owner = record { round = round; owner = owner }

-- a packet for 12 from a member to another
abbrev pub sends : ℕ → Ballot → Body → ℕ → Packet
sends from b body to = record { circuit = 7; from = from; to = to; number = 12; ballot = b; body = body }

-- it arrives at the moment 0
abbrev pub gets : ℕ → Ballot → Body → ℕ → Event
gets from b body to = Arrived (sends from b body to) 0

-- 3 gets a member's promise of 1.3, which reports its vote at b
abbrev pub reports : ℕ → Ballot → Entry → Event
reports from b entry = gets from (ballot 1 3) (Promise (Some (vote_for b entry))) 3

-- 3 gets the news of a member's vote at b
abbrev pub tells : ℕ → Ballot → Entry → Event
tells from b entry = gets from b (Accepted entry) 3

-- a turn that releases nothing
abbrev pub shows : Note → List Packet → Shown
shows note out = record { note = note; out = out; release = None }

-- 1 of 1 that is offered an entry releases it at once
abbrev pub OneReleases : Type 0
OneReleases =
    (entry : Entry)
    → (run_of (sits 7 1 1) (Offered 12 entry 0 ∷ [])).shown
    ≡ record { note = Note_proposed (ballot 1 1); out = []; release = Some entry } ∷ []

-- 1 of 1 that seeks an entry of which nobody voted closes its proposal
abbrev pub OneFindsNothing : Type 0
OneFindsNothing =
    (run_of (sits 7 1 1) (Sought 12 0 ∷ Came_due 12 1000 ∷ [])).shown
    ≡ shows (Note_nothing (ballot 1 1)) [] ∷ shows Note_idle [] ∷ []

-- 1 of 2, which is offered an entry, releases it once 2 has promised and voted
abbrev pub FirstOfTwoReleases : Type 0
FirstOfTwoReleases =
    (entry : Entry)
    → (run_of (sits 7 1 2) (Offered 12 entry 0 ∷ gets 2 (ballot 1 1) (Promise None) 1 ∷ gets 2 (ballot 1 1) (Accepted entry) 1 ∷ [])).shown
    ≡ shows (Note_began (ballot 1 1)) (sends 1 (ballot 1 1) Prepare 2 ∷ [])
    ∷ shows (Note_proposed (ballot 1 1)) (sends 1 (ballot 1 1) (Accept entry) 2 ∷ sends 1 (ballot 1 1) (Accepted entry) 2 ∷ [])
    ∷ record { note = Note_heard (ballot 1 1); out = []; release = Some entry } ∷ []

-- 2 of 2 promises, hears the vote of 1, and releases once it has voted itself
abbrev pub SecondOfTwoReleases : Type 0
SecondOfTwoReleases =
    (entry : Entry)
    → (run_of (sits 7 2 2) (gets 1 (ballot 1 1) Prepare 2 ∷ gets 1 (ballot 1 1) (Accepted entry) 2 ∷ gets 1 (ballot 1 1) (Accept entry) 2 ∷ [])).shown
    ≡ shows (Note_promised (ballot 1 1)) (sends 2 (ballot 1 1) (Promise None) 1 ∷ [])
    ∷ shows (Note_heard (ballot 1 1)) []
    ∷ record { note = Note_voted (ballot 1 1); out = sends 2 (ballot 1 1) (Accepted entry) 1 ∷ []; release = Some entry } ∷ []

-- 3 of 3 is told that 2 voted at 1.1, and proposes that entry and not its own
abbrev pub ThirdTakesOver : Type 0
ThirdTakesOver =
    (own entry : Entry)
    → (run_of (sits 7 3 3) (Offered 12 own 0 ∷ reports 2 (ballot 1 1) entry ∷ tells 2 (ballot 1 3) entry ∷ [])).shown
    ≡ shows (Note_began (ballot 1 3)) (sends 3 (ballot 1 3) Prepare 1 ∷ sends 3 (ballot 1 3) Prepare 2 ∷ [])
    ∷ shows (Note_proposed (ballot 1 3))
    (sends 3 (ballot 1 3) (Accept entry) 1 ∷ sends 3 (ballot 1 3) (Accept entry) 2
    ∷ sends 3 (ballot 1 3) (Accepted entry) 1 ∷ sends 3 (ballot 1 3) (Accepted entry) 2 ∷ [])
    ∷ record { note = Note_heard (ballot 1 3); out = []; release = Some entry } ∷ []

-- 3 of 5 takes the greater of two reports, whichever came first
abbrev pub GreaterReportIsTaken : Type 0
GreaterReportIsTaken =
    (own x y : Entry)
    → ((run_of (sits 7 3 5) (Offered 12 own 0 ∷ reports 1 (ballot 1 1) x ∷ reports 2 (ballot 1 2) y ∷ [])).row.vote
    ≡ Some (vote_for (ballot 1 3) y))
    × ((run_of (sits 7 3 5) (Offered 12 own 0 ∷ reports 2 (ballot 1 2) y ∷ reports 1 (ballot 1 1) x ∷ [])).row.vote
    ≡ Some (vote_for (ballot 1 3) y))

-- of reports at one ballot 3 of 5 takes that of the least member, and of votes heard at one ballot its entry
abbrev pub LeastMemberDecides : Type 0
LeastMemberDecides =
    (own x y : Entry)
    → ((run_of (sits 7 3 5) (Offered 12 own 0 ∷ reports 1 (ballot 1 1) x ∷ reports 2 (ballot 1 1) y ∷ [])).row.vote
    ≡ Some (vote_for (ballot 1 3) x))
    × ((run_of (sits 7 3 5) (Offered 12 own 0 ∷ reports 2 (ballot 1 1) y ∷ reports 1 (ballot 1 1) x ∷ [])).row.vote
    ≡ Some (vote_for (ballot 1 3) x))
    × (releases_of (run_of (sits 7 3 3) (tells 2 (ballot 1 1) y ∷ tells 1 (ballot 1 1) x ∷ [])) ≡ None ∷ Some x ∷ [])
    × (releases_of (run_of (sits 7 3 3) (tells 1 (ballot 1 1) x ∷ tells 2 (ballot 1 1) y ∷ [])) ≡ None ∷ Some x ∷ [])

-- 2 of 3 that voted at 1.1 reports that vote as it promises 1.3
abbrev pub VoteIsReported : Type 0
VoteIsReported =
    (entry : Entry)
    → (run_of (sits 7 2 3) (gets 1 (ballot 1 1) (Accept entry) 2 ∷ gets 3 (ballot 1 3) Prepare 2 ∷ [])).shown
    ≡ shows (Note_voted (ballot 1 1)) (sends 2 (ballot 1 1) (Accepted entry) 1 ∷ sends 2 (ballot 1 1) (Accepted entry) 3 ∷ [])
    ∷ shows (Note_promised (ballot 1 3)) (sends 2 (ballot 1 3) (Promise (Some (vote_for (ballot 1 1) entry))) 3 ∷ []) ∷ []

-- 1 of 3, which is offered an entry, promises 1.3 to 3, and then gets the promise of 2 at 1.1
abbrev pub passed_run : Entry → Run
passed_run entry = run_of (sits 7 1 3) (Offered 12 entry 0 ∷ gets 3 (ballot 1 3) Prepare 1 ∷ gets 2 (ballot 1 1) (Promise None) 1 ∷ [])

-- 1 of 3 that promised 1.3 while it gathered at 1.1 counts no promise at 1.1, and gathers on
abbrev pub PassedIsOvertaken : Type 0
PassedIsOvertaken =
    (entry : Entry)
    → (notes_of (passed_run entry) ≡ Note_began (ballot 1 1) ∷ Note_promised (ballot 1 3) ∷ Note_overtaken (ballot 1 1) ∷ [])
    × (open_ballot 12 (passed_run entry).marks ≡ Some (ballot 1 1))

-- 2 of 3 that promised 1.3 answers a Prepare and an Accept of 1.1 with a Nack, and a Prepare of 1.3 again with nothing
abbrev pub LowerIsNacked : Type 0
LowerIsNacked =
    (entry : Entry)
    → (run_of (sits 7 2 3) (
    gets 3 (ballot 1 3) Prepare 2 ∷ gets 1 (ballot 1 1) Prepare 2
    ∷ gets 1 (ballot 1 1) (Accept entry) 2 ∷ gets 3 (ballot 1 3) Prepare 2 ∷ []
    )).shown
    ≡ shows (Note_promised (ballot 1 3)) (sends 2 (ballot 1 3) (Promise None) 3 ∷ [])
    ∷ shows (Note_nacked (ballot 1 3)) (sends 2 (ballot 1 1) (Nack (ballot 1 3)) 1 ∷ [])
    ∷ shows (Note_nacked (ballot 1 3)) (sends 2 (ballot 1 1) (Nack (ballot 1 3)) 1 ∷ [])
    ∷ shows Note_silent [] ∷ []

-- 1 of 3 is due 290 after it began, and begins above the Nack of 6.2
abbrev pub FallsDueAbove : Type 0
FallsDueAbove =
    (entry : Entry)
    → notes_of (run_of (sits 7 1 3) (Offered 12 entry 0 ∷ gets 2 (ballot 1 1) (Nack (ballot 6 2)) 1 ∷ Came_due 12 289 ∷ Came_due 12 290 ∷ []))
    ≡ Note_began (ballot 1 1) ∷ Note_denied (ballot 6 2) ∷ Note_idle ∷ Note_began (ballot 7 1) ∷ []

-- 1 of 3 that starts with a promise of 1.1 begins above it
abbrev pub BeginsAbovePromise : Type 0
BeginsAbovePromise =
    (entry : Entry)
    → (run_from (sits 7 1 3) (raised blank (ballot 1 1)) (Offered 12 entry 0 ∷ [])).shown
    ≡ shows (Note_began (ballot 2 1)) (sends 1 (ballot 2 1) Prepare 2 ∷ sends 1 (ballot 2 1) Prepare 3 ∷ []) ∷ []

-- 1 of 3 that promised the last round has no turn for an offer
abbrev pub LastRoundIsSpent : Type 0
LastRoundIsSpent = (entry : Entry) → turn (sits 7 1 3) [] (raised blank (ballot 4294967295 2)) (Offered 12 entry 0) ≡ None

-- votes of two ballots aren't added up at 3 of 3, and a later vote of a lesser ballot changes nothing
abbrev pub BallotsStandApart : Type 0
BallotsStandApart =
    (x y : Entry)
    → releases_of (run_of (sits 7 3 3) (tells 2 (ballot 1 1) x ∷ tells 1 (ballot 1 2) y ∷ tells 1 (ballot 1 1) x ∷ tells 2 (ballot 1 2) y ∷ []))
    ≡ None ∷ None ∷ None ∷ Some y ∷ []

-- one member's vote that comes three times counts once at 3 of 3
abbrev pub RepeatedVoteCountsOnce : Type 0
RepeatedVoteCountsOnce =
    (entry : Entry)
    → (run_of (sits 7 3 3) (tells 1 (ballot 1 1) entry ∷ tells 1 (ballot 1 1) entry ∷ tells 1 (ballot 1 1) entry ∷ [])).shown
    ≡ shows (Note_heard (ballot 1 1)) [] ∷ shows (Note_heard (ballot 1 1)) [] ∷ shows (Note_heard (ballot 1 1)) [] ∷ []

-- of two Accepts at one ballot the first stands at 2 of 3, and is what it votes again
abbrev pub FirstAcceptStands : Type 0
FirstAcceptStands =
    (x y : Entry)
    → (run_of (sits 7 2 3) (gets 1 (ballot 1 1) (Accept x) 2 ∷ gets 1 (ballot 1 1) (Accept y) 2 ∷ [])).shown
    ≡ shows (Note_voted (ballot 1 1)) (sends 2 (ballot 1 1) (Accepted x) 1 ∷ sends 2 (ballot 1 1) (Accepted x) 3 ∷ [])
    ∷ shows (Note_voted_again (ballot 1 1)) (sends 2 (ballot 1 1) (Accepted x) 1 ∷ sends 2 (ballot 1 1) (Accepted x) 3 ∷ []) ∷ []

-- a vote that comes after the release settles nothing more at 3 of 3
abbrev pub ReleasedIsSettled : Type 0
ReleasedIsSettled =
    (entry : Entry)
    → notes_of (run_of (sits 7 3 3) (tells 1 (ballot 1 1) entry ∷ tells 2 (ballot 1 1) entry ∷ tells 1 (ballot 1 1) entry ∷ []))
    ≡ Note_heard (ballot 1 1) ∷ Note_heard (ballot 1 1) ∷ Note_settled ∷ []

-- the due moments 290, 580 and on, this many
abbrev pub dues : ℕ → List Event
dues zero = []
dues (suc k) = dues k ++ Came_due 12 (290 * suc k) ∷ []

-- what 1 of 2 shows at the n-th ballot
abbrev pub begins_at : ℕ → Shown
begins_at n = shows (Note_began (ballot n 1)) (sends 1 (ballot n 1) Prepare 2 ∷ [])

-- 1 of 2, which is offered an entry, hears nothing up to the last of so many due moments
abbrev pub unheard_run : Entry → ℕ → Run
unheard_run entry k = run_of (sits 7 1 2) (Offered 12 entry 0 ∷ dues k)

-- 1 of 2 that hears nothing begins 32 ballots, and then gives up
abbrev pub GivesUp : Type 0
GivesUp =
    (entry : Entry)
    → ((unheard_run entry 32).shown ≡ (unheard_run entry 31).shown ++ shows (Note_gave_up (ballot 32 1)) [] ∷ [])
    × ((unheard_run entry 31).shown ≡ (unheard_run entry 30).shown ++ begins_at 32 ∷ [])
    × (open_ballot 12 (unheard_run entry 32).marks ≡ None)

-- where a station stands with the rows of all its numbers, and what it has shown so far, the first first
pub record Station : Type 0 where
  pub marks : List Mark
  pub rows : ℕ → Row
  pub shown : List Shown

-- the rows with this one of n
abbrev pub row_at : ℕ → Row → (ℕ → Row) → ℕ → Row
row_at n row rows j = if j == n then row else rows j

-- the station after a turn about n; it stays where no ballot is left
abbrev pub took : ℕ → Station → Option Turn → Station
took n s None = s
took n s (Some t) = record { marks = t.marks; rows = row_at n t.row s.rows; shown = s.shown ++ shown_of t ∷ [] }

-- the station after these events too, the first first, each about a number of its own
abbrev pub takes_on : Seat → Station → List Event → Station
takes_on seat s [] = s
takes_on seat s (e ∷ es) = takes_on seat (took (number_of e) s (turn seat s.marks (s.rows (number_of e)) e)) es

-- the notes of a station that starts with blank rows, the first first
abbrev pub notes_over : Seat → List Event → List Note
notes_over seat es = map (λ (s : Shown). s.note) (takes_on seat (record { marks = []; rows = λ n. blank; shown = [] }) es).shown

-- a search of 1 of 3 is denied by 6.2 and then finds nothing, which closes it. The offer after it begins anew:
-- at its due moment it is denied by nothing, so it goes on above the row's own promise of 2.1 and not above 6.2
abbrev pub ClosedIsForgotten : Type 0
ClosedIsForgotten =
    (entry : Entry)
    → notes_of (run_of (sits 7 1 3) (
    Sought 12 0 ∷ gets 2 (ballot 1 1) (Nack (ballot 6 2)) 1 ∷ gets 3 (ballot 1 1) (Promise None) 1
    ∷ Offered 12 entry 0 ∷ Came_due 12 290 ∷ []
    ))
    ≡ Note_began (ballot 1 1) ∷ Note_denied (ballot 6 2) ∷ Note_nothing (ballot 1 1) ∷ Note_began (ballot 2 1) ∷ Note_began (ballot 3 1) ∷ []

-- 1 of 3 seeks 13 while it offers an entry for 12. As 13 is closed, 12 stays open and denied by 6.2, so it goes on above 6.2;
-- and as 13 is released, 12 stays open too
abbrev pub NumbersStandApart : Type 0
NumbersStandApart =
    (x y : Entry)
    → notes_over (sits 7 1 3) (
    Sought 13 0 ∷ Offered 12 x 0 ∷ gets 2 (ballot 1 1) (Nack (ballot 6 2)) 1
    ∷ Arrived (packet_to (sits 7 2 3) 13 (ballot 1 1) (Promise None) 1) 0 ∷ Came_due 13 290 ∷ Came_due 12 290
    ∷ Arrived (packet_to (sits 7 2 3) 13 (ballot 1 2) (Accepted y) 1) 300 ∷ Arrived (packet_to (sits 7 3 3) 13 (ballot 1 2) (Accepted y) 1) 300
    ∷ Arrived (packet_to (sits 7 3 3) 13 (ballot 1 2) (Accepted y) 1) 300 ∷ Came_due 12 580 ∷ []
    )
    ≡ Note_began (ballot 1 1) ∷ Note_began (ballot 1 1) ∷ Note_denied (ballot 6 2)
    ∷ Note_nothing (ballot 1 1) ∷ Note_idle ∷ Note_began (ballot 7 1)
    ∷ Note_heard (ballot 1 2) ∷ Note_heard (ballot 1 2) ∷ Note_settled ∷ Note_began (ballot 8 1) ∷ []

-- 1 of 2 that gave up at 32.1 is offered an entry again: it begins above its saved promise, and counts its ballots from the first
abbrev pub OfferedAfterGivingUp : Type 0
OfferedAfterGivingUp =
    (entry : Entry)
    → notes_of (run_of (sits 7 1 2) ((Offered 12 entry 0 ∷ dues 32) ++ Offered 12 entry 9280 ∷ Came_due 12 9570 ∷ []))
    ≡ notes_of (unheard_run entry 32) ++ Note_began (ballot 33 1) ∷ Note_began (ballot 34 1) ∷ []

-- 1 of 3 that promised the last round but one begins the last, gives up as that falls due, and has no turn for an offer then;
-- one that is denied by the last round gives up at once
abbrev pub LastRoundIsBegun : Type 0
LastRoundIsBegun =
    (entry : Entry)
    → (notes_of (run_from (sits 7 1 3) (raised blank (ballot 4294967294 2)) (Offered 12 entry 0 ∷ Came_due 12 290 ∷ Offered 12 entry 300 ∷ []))
    ≡ Note_began (ballot 4294967295 1) ∷ Note_gave_up (ballot 4294967295 1) ∷ [])
    × (notes_of (run_of (sits 7 1 3) (Offered 12 entry 0 ∷ gets 2 (ballot 1 1) (Nack (ballot 4294967295 2)) 1 ∷ Came_due 12 290 ∷ []))
    ≡ Note_began (ballot 1 1) ∷ Note_denied (ballot 4294967295 2) ∷ Note_gave_up (ballot 1 1) ∷ [])

-- 2 of 3 is to tell its vote again as it has promised 1.1, and again as it has voted there and then promised 2.3
abbrev pub recalled_run : Entry → Run
recalled_run entry =
    run_of (sits 7 2 3) (
    gets 1 (ballot 1 1) Prepare 2 ∷ Recalled 12 3 ∷ Recalled 12 2
    ∷ gets 1 (ballot 1 1) (Accept entry) 2 ∷ gets 3 (ballot 2 3) Prepare 2 ∷ Recalled 12 3 ∷ Recalled 12 2 ∷ []
    )

-- it has nothing to tell before it votes, whatever it promised. From then on it tells that vote to whom it is asked to,
-- and its row stays as it is
abbrev pub PromisesAreNotRecalled : Type 0
PromisesAreNotRecalled =
    (entry : Entry)
    → ((recalled_run entry).shown
    ≡ shows (Note_promised (ballot 1 1)) (sends 2 (ballot 1 1) (Promise None) 1 ∷ [])
    ∷ shows Note_blank [] ∷ shows Note_blank []
    ∷ shows (Note_voted (ballot 1 1)) (sends 2 (ballot 1 1) (Accepted entry) 1 ∷ sends 2 (ballot 1 1) (Accepted entry) 3 ∷ [])
    ∷ shows (Note_promised (ballot 2 3)) (sends 2 (ballot 2 3) (Promise (Some (vote_for (ballot 1 1) entry))) 3 ∷ [])
    ∷ shows (Note_recalled (ballot 1 1)) (sends 2 (ballot 1 1) (Accepted entry) 3 ∷ [])
    ∷ shows (Note_recalled (ballot 1 1)) [] ∷ [])
    × ((recalled_run entry).row ≡ raised (voted (ballot 1 1) entry) (ballot 2 3))

-- 2 of 3, which started again with a vote, hears the vote of 1, and releases the entry as it hears its own again; it does so once
abbrev pub OwnVoteIsHeardAgain : Type 0
OwnVoteIsHeardAgain =
    (entry : Entry)
    → (run_from (sits 7 2 3) (voted (ballot 1 1) entry) (gets 1 (ballot 1 1) (Accepted entry) 2 ∷ Recalled 12 2 ∷ Recalled 12 2 ∷ [])).shown
    ≡ shows (Note_heard (ballot 1 1)) []
    ∷ record { note = Note_recalled (ballot 1 1); out = []; release = Some entry }
    ∷ shows (Note_recalled (ballot 1 1)) [] ∷ []
