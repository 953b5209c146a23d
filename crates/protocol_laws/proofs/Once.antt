-- What was released is not released again.
use Rattle.std.proofs.Common.{◌≡◌, ℕ, inl, inr, refl, sym, subst, ◌∙◌, List, ◌∷◌, Option, Some, None}
use Rattle.protocol.specs.Seats.{Seat}
use Rattle.protocol.specs.Ballots.{Ballot}
use Rattle.protocol.specs.Entries.{Entry}
use Rattle.protocol.specs.Rows.{Vote, Row}
use Rattle.protocol.specs.Packets.{Packet, Body, Prepare, Promise, Accept, Accepted, Nack}
use Rattle.protocol.specs.Marks.{Mark, Began, Promised, Proposed, Denied, Heard, Closed, Released}
use Rattle.protocol.specs.Readings.{IsReleased}
use Rattle.protocol.specs.Turn.{Turn, Event, Offered, Sought, Came_due, Arrived, Recalled, number_of}
use Rattle.protocol.specs.Table.{Hears, was_settled, waits, releases, Proposes, nothing, proposes, Begins, asks, alone, StartTurn, starts, DueTurn, is_idle, gives_up, begins_anew, PrepareTurn, promises, is_silent, AcceptTurn, votes_again, votes, PromiseTurn, is_overtaken, is_repeated, counts, completes, NackTurn, is_denied, AcceptedTurn, settles, hears, RecallTurn, is_blank, tells_again, hears_again, AnswerTurn, IsTurn, ReleasesOnce, NumbersAreReleasedOnce}
use Rattle.protocol.specs.Table as table
use Rattle.protocol_laws.proofs.Meeting.{is_turn}

-- what was released stays so with one mark more
and_mark : (ms : List Mark) (x : Mark) (j : ℕ) → IsReleased ms j → IsReleased (x ∷ ms) j
and_mark ms x j (t, i) = (t, inr i)

-- what marks, a number's release and the marks after have to do with one another
record Once (marks : List Mark) (n : ℕ) (release : Option Entry) (after : List Mark) : Type 0 where
  pub again : IsReleased marks n → release ≡ None
  pub stay : (j : ℕ) → IsReleased marks j → IsReleased after j
  pub noted : (entry : Entry) → release ≡ Some entry → IsReleased after n

of_turn : {marks : List Mark} {n : ℕ} (t : Turn) → Once marks n t.release t.marks → ReleasesOnce marks n t
of_turn t h = record { again = h.again; stay = h.stay; noted = h.noted }

by_turn : {marks : List Mark} {n : ℕ} (t : Turn) {u : Turn} → u ≡ t → Once marks n t.release t.marks → ReleasesOnce marks n u
by_turn {marks = marks} {n = n} t e h = subst (λ (x : Turn). ReleasesOnce marks n x) (sym e) (of_turn t h)

-- nothing is released, and the marks stay
same_marks : {marks : List Mark} (n : ℕ) → Once marks n None marks
same_marks n = record { again = λ i. refl; stay = λ j i. i; noted = λ u e. cc }

-- nothing is released, and there is one mark more
one_more : {marks : List Mark} (n : ℕ) (x : Mark) → Once marks n None (x ∷ marks)
one_more n x = record { again = λ i. refl; stay = λ j i. and_mark _ x j i; noted = λ u e. cc }

-- with a mark in between
behind : {marks after : List Mark} {n : ℕ} {release : Option Entry} (x : Mark) → Once (x ∷ marks) n release after → Once marks n release after
behind x h = record { again = λ i. h.again (and_mark _ x _ i); stay = λ j i. h.stay j (and_mark _ x j i); noted = h.noted }

-- of a turn too
turn_behind : {marks : List Mark} {n : ℕ} {t : Turn} (x : Mark) → ReleasesOnce (x ∷ marks) n t → ReleasesOnce marks n t
turn_behind x h = record { again = λ i. h.again (and_mark _ x _ i); stay = λ j i. h.stay j (and_mark _ x j i); noted = h.noted }

hears_once : {c n j : ℕ} {b : Ballot} {t : Entry} {marks after : List Mark} {release : Option Entry} → Hears c n j b t marks release after → Once marks n release after
hears_once {n = n} {marks = marks} {after = after} (was_settled i er ea) =
    record { again = λ r. er; stay = λ k r. subst (λ (l : List Mark). IsReleased l k) (sym ea) r; noted = λ u e. subst (λ (l : List Mark). IsReleased l n) (sym ea) i }
hears_once {n = n} {j = j} {b = b} {t = t} {marks = marks} (waits i w er ea) =
    record {
      again = λ r. er;
      stay = λ k r. subst (λ (l : List Mark). IsReleased l k) (sym ea) (and_mark marks (Heard n j b t) k r);
      noted = λ u e. let no : None ≡ Some u = sym er ∙ e in cc;
    }
hears_once {n = n} {j = j} {b = b} {t = t} {marks = marks} (releases a u i ripe er ea) =
    record {
      again = λ r. absurd (i r);
      stay = λ k r. subst (λ (l : List Mark). IsReleased l k) (sym ea) (and_mark (Heard n j b t ∷ marks) (Released n u) k (and_mark marks (Heard n j b t) k r));
      noted = λ x e. subst (λ (l : List Mark). IsReleased l n) (sym ea) (u, inl refl);
    }

proposes_once :
    {seat : Seat} {n : ℕ} {b : Ballot} {now : ℕ} {own : Option Entry} {report : Option Vote} {since : List Mark} {row : Row} {marks : List Mark} {t : Turn}
    → Proposes seat n b now own report since row marks t → ReleasesOnce marks n t
proposes_once {n = n} (nothing picks e) = by_turn _ e (one_more n (Closed n))
proposes_once {n = n} {b = b} {now = now} (proposes entry release after picks hearing e) = by_turn _ e (behind (Proposed n b now) (hears_once hearing))

begins_once :
    {seat : Seat} {n : ℕ} {b : Ballot} {own : Option Entry} {now : ℕ} {row : Row} {marks : List Mark} {t : Turn} → Begins seat n b own now row marks t → ReleasesOnce marks n t
begins_once {n = n} {b = b} {own = own} {now = now} {row = row} (asks l e) = by_turn _ e (one_more n (Began n b own row.vote now))
begins_once {n = n} {b = b} {own = own} {now = now} {row = row} (alone e proposing) = turn_behind (Began n b own row.vote now) (proposes_once proposing)

due_once : {seat : Seat} {n now : ℕ} {marks : List Mark} {row : Row} {t : Turn} → DueTurn seat n now marks row t → ReleasesOnce marks n t
due_once {n = n} (is_idle i e) = by_turn _ e (same_marks n)
due_once {n = n} (gives_up b own denied seen due g g' l e) = by_turn _ e (one_more n (Closed n))
due_once (begins_anew b own denied seen a due g g' l e begins) = begins_once begins

promise_once : {seat : Seat} {now : ℕ} {marks : List Mark} {row : Row} {p : Packet} {report : Option Vote} {t : Turn} → PromiseTurn seat now marks row p report t → ReleasesOnce marks p.number t
promise_once {p = p} (table.PromiseTurn.is_stale i e) = by_turn _ e (same_marks p.number)
promise_once {p = p} (is_overtaken own mine since g i e) = by_turn _ e (same_marks p.number)
promise_once {p = p} (is_repeated own mine since s g i k e) = by_turn _ e (same_marks p.number)
promise_once {p = p} {report = report} (counts own mine since g i k few e) = by_turn _ e (one_more p.number (Promised p.number p.from p.ballot report))
promise_once {p = p} {report = report} (completes own mine since g i k many proposing) = turn_behind (Promised p.number p.from p.ballot report) (proposes_once proposing)

answer_once : (seat : Seat) (now : ℕ) (marks : List Mark) (row : Row) (p : Packet) (body : Body) (t : Turn) → AnswerTurn seat now marks row p body t → ReleasesOnce marks p.number t
answer_once seat now marks row p Prepare t (promises free e) = by_turn _ e (same_marks p.number)
answer_once seat now marks row p Prepare t (is_silent same e) = by_turn _ e (same_marks p.number)
answer_once seat now marks row p Prepare t (table.PrepareTurn.nacks a is up e) = by_turn _ e (same_marks p.number)
answer_once seat now marks row p (Promise report) t taken = promise_once taken
answer_once seat now marks row p (Accept entry) t (table.AcceptTurn.nacks a is up e) = by_turn _ e (same_marks p.number)
answer_once seat now marks row p (Accept entry) t (votes_again own release after free at_it hearing e) = by_turn _ e (hears_once hearing)
answer_once seat now marks row p (Accept entry) t (votes release after free unvoted hearing e) = by_turn _ e (hears_once hearing)
answer_once seat now marks row p (Accepted entry) t (settles i e) = by_turn _ e (same_marks p.number)
answer_once seat now marks row p (Accepted entry) t (hears release after i hearing e) = by_turn _ e (hears_once hearing)
answer_once seat now marks row p (Nack a) t (table.NackTurn.is_stale i e) = by_turn _ e (same_marks p.number)
answer_once seat now marks row p (Nack a) t (is_denied own mine since o e) = by_turn _ e (one_more p.number (Denied p.number a))

recall_once : {seat : Seat} {n to : ℕ} {marks : List Mark} {row : Row} {t : Turn} → RecallTurn seat n to marks row t → ReleasesOnce marks n t
recall_once {n = n} (is_blank none e) = by_turn _ e (same_marks n)
recall_once {n = n} (tells_again b own other at_it e) = by_turn _ e (same_marks n)
recall_once (hears_again b own release after mine at_it hearing e) = by_turn _ e (hears_once hearing)

turn_once : (seat : Seat) (marks : List Mark) (row : Row) (e : Event) (t : Turn) → IsTurn seat marks row e t → ReleasesOnce marks (number_of e) t
turn_once seat marks row (Offered n entry now) t (starts b i begins) = begins_once begins
turn_once seat marks row (Sought n now) t (starts b i begins) = begins_once begins
turn_once seat marks row (Came_due n now) t taken = due_once taken
turn_once seat marks row (Arrived p now) t taken = answer_once seat now marks row p p.body t taken
turn_once seat marks row (Recalled n to) t taken = recall_once taken

pub numbers_are_released_once : NumbersAreReleasedOnce
numbers_are_released_once seat marks row e t member is = turn_once seat marks row e t (is_turn seat marks row e t member is)
