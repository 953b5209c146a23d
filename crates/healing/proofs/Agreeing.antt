-- The case that is kept of a number agrees with all that was heard of it.
use Rattle.std.proofs.Common.{◌≡◌, ℕ, Bool, true, false, not, [], ◌∷◌, Option, Some, None, refl, sym, ap, subst, ◌∙◌, true≢false, eqb}
use Rattle.std.specs.Prelude.{is_some, if◌then◌else◌, ◌&&◌, ◌||◌, min}
use Rattle.std.specs.Option.{unwrap_or}
use Rattle.std.proofs.lemmas.Bool.{eqb-true}
use Rattle.healing.specs.declared.news.NumberNews.{NumberNews}
use Rattle.healing.specs.declared.news.NumberNews.TheVariants.{Saved, Came, Voted, Held, Opened, Closed, Nothing}
use Rattle.healing.specs.declared.case.LackStage.{LackStage}
use Rattle.healing.specs.declared.case.LackStage.TheVariants.{Waiting, Recalled as RecalledStage, Sought as SoughtStage, Open, Left}
use Rattle.healing.specs.declared.case.LackedNumber.{LackedNumber}
use Rattle.healing.specs.declared.voters.Voters.{Voters}
use Rattle.healing.specs.Voters.{none, is_none, is_voter, is_within}
use Rattle.healing.specs.Cases.{is_open, again, ended, moved, sooner, voter_of, voters_after, known_from, quiet_from, before_after, known_after, was_recalled, has_vote, with_stage}
use Rattle.healing.specs.Lacking.{Told, Recalled, Settled, Sought, WentOut, History, went_out, known_by, quiet_by, is_known, has_ballot, least, first_of, has_come, is_one, tells_vote, is_told, before_ballot, is_lacked, step, case_of}
use Rattle.healing.specs.Laws.{case_lacks, CaseTellsAll, is_left, left_in, is_opened, is_new_in, LeftKnowsNoNewVoter, LeftStaysLeft}
use Rattle.healing.proofs.Sets.{none_empty, one_more, among_both, none_within, more_within}

-- what the history says of a number that is known, and of one that is not
record Agrees (own : ℕ) (h : History) (c : LackedNumber) : Type 0 where
  known : known_by h ≡ Some c.known
  quiet : quiet_by h ≡ Some c.quiet
  ballot : has_ballot h ≡ is_open c.stage
  voters : (member : ℕ) → is_voter c.voters member ≡ is_told own h member
  before : (member : ℕ) → is_voter c.before member ≡ is_told own (before_ballot h) member
  left : is_left c.stage ≡ true → is_within c.voters c.before ≡ true

record IsUnknown (own : ℕ) (h : History) : Type 0 where
  known : known_by h ≡ None
  ballot : has_ballot h ≡ false
  told : (member : ℕ) → is_told own h member ≡ false
  before : (member : ℕ) → is_told own (before_ballot h) member ≡ false

abbrev Says : ℕ → History → Option LackedNumber → Type 0
Says own h None = IsUnknown own h
Says own h (Some c) = Agrees own h c

again_open : (b : Bool) (s : LackStage) → is_open (again b s) ≡ is_open s
again_open b Waiting = refl
again_open b (RecalledStage at) = refl
again_open b SoughtStage = refl
again_open b Open = refl
again_open true Left = refl
again_open false Left = refl

-- what is left after that knows all
again_left : (b : Bool) (s : LackStage) → is_left (again b s) ≡ true → b ≡ true
again_left true s e = refl
again_left false Left e = e
again_left false Waiting e = absurd (true≢false (sym e))
again_left false (RecalledStage at) e = absurd (true≢false (sym e))
again_left false SoughtStage e = absurd (true≢false (sym e))
again_left false Open e = absurd (true≢false (sym e))

ended_closed : (next s : LackStage) → is_open next ≡ false → is_open (ended next s) ≡ false
ended_closed next Waiting h = refl
ended_closed next (RecalledStage at) h = refl
ended_closed next SoughtStage h = h
ended_closed next Open h = h
ended_closed next Left h = refl

left_open : (c : LackedNumber) (now : ℕ) (b : Bool) → (was_recalled c.stage now && b) ≡ true → is_open c.stage ≡ false
left_open c now b = go c.stage
  where
    go : (s : LackStage) → (was_recalled s now && b) ≡ true → is_open s ≡ false
    go Waiting e = refl
    go (RecalledStage at) e = refl
    go SoughtStage e = absurd (true≢false (sym e))
    go Open e = absurd (true≢false (sym e))
    go Left e = refl

right_true : (a b : Bool) → (a && b) ≡ true → b ≡ true
right_true true b e = e
right_true false b e = absurd (true≢false (sym e))

not_not : (b : Bool) → not b ≡ true → b ≡ false
not_not false e = refl
not_not true e = absurd (true≢false (sym e))

not_false : (b : Bool) → not b ≡ false → b ≡ true
not_false true e = refl
not_false false e = absurd (true≢false e)

and_true : (b : Bool) → (b && true) ≡ b
and_true true = refl
and_true false = refl

and_false : (b : Bool) → (b && false) ≡ false
and_false true = refl
and_false false = refl

-- the moments after more news
known_more : (q : Option ℕ) (known : ℕ) → least q (Some known) ≡ Some (sooner q known)
known_more None known = refl
known_more (Some moment) known = refl

quiet_more : (q : Option ℕ) (quiet : ℕ) → first_of q (Some quiet) ≡ Some (unwrap_or q quiet)
quiet_more None quiet = refl
quiet_more (Some moment) quiet = refl

known_next : (own : ℕ) (h : History) (news : NumberNews) (t : ℕ) (c : LackedNumber) → Agrees own h c → known_by ((Told news, t) ∷ h) ≡ Some (sooner (known_from news t) c.known)
known_next own h news t c a = ap (λ (k : Option ℕ). least (known_from news t) k) a.known ∙ known_more (known_from news t) c.known

quiet_next : (own : ℕ) (h : History) (news : NumberNews) (t : ℕ) (c : LackedNumber) → Agrees own h c → quiet_by ((Told news, t) ∷ h) ≡ Some (unwrap_or (quiet_from news t) c.quiet)
quiet_next own h news t c a =
    ap (λ (k : Option ℕ). first_of (quiet_from news t) (if is_some k then quiet_by h else Some t)) a.known
    ∙ ap (first_of (quiet_from news t)) a.quiet
    ∙ quiet_more (quiet_from news t) c.quiet

-- the voters after more news
voters_more : (voter : Option ℕ) (v : Voters) (member : ℕ) → is_voter (voters_after voter v) member ≡ (is_one voter member || is_voter v member)
voters_more None v member = refl
voters_more (Some voter) v member = one_more v voter member

-- they are those that were told, where the number is known by then
voters_told :
    (own : ℕ) (h : History) (news : NumberNews) (t : ℕ) (v : Voters) (known : ℕ) → known_by ((Told news, t) ∷ h) ≡ Some known
    → ((member : ℕ) → is_voter v member ≡ is_told own h member) → (member : ℕ)
    → is_voter (voters_after (voter_of own news) v) member ≡ is_told own ((Told news, t) ∷ h) member
voters_told own h news t v known is same member =
    voters_more (voter_of own news) v member
    ∙ ap (λ (b : Bool). is_one (voter_of own news) member || b) (same member)
    ∙ ap (λ (b : Bool). b || is_told own h member)
    (sym (ap (λ (k : Option ℕ). is_one (voter_of own news) member && is_some k) is ∙ and_true (is_one (voter_of own news) member)))

-- nothing is told of what is not known
none_told :
    (own : ℕ) (h : History) (news : NumberNews) (t member : ℕ) → known_by ((Told news, t) ∷ h) ≡ None → is_told own h member ≡ false
    → is_told own ((Told news, t) ∷ h) member ≡ false
none_told own h news t member is before =
    ap (λ (k : Option ℕ). (is_one (voter_of own news) member && is_some k) || is_told own h member) is
    ∙ ap (λ (b : Bool). b || is_told own h member) (and_false (is_one (voter_of own news) member))
    ∙ before

none_voter : (own : ℕ) (h : History) → ((member : ℕ) → is_told own h member ≡ false) → (member : ℕ) → is_voter none member ≡ is_told own h member
none_voter own h told member = none_empty none refl member ∙ sym (told member)

-- a number that becomes known
begins :
    (own : ℕ) (h : History) (news : NumberNews) (t : ℕ) (c : LackedNumber) → known_by ((Told news, t) ∷ h) ≡ Some c.known → quiet_by ((Told news, t) ∷ h) ≡ Some c.quiet
    → has_ballot ((Told news, t) ∷ h) ≡ is_open c.stage → ((member : ℕ) → is_voter c.voters member ≡ is_told own ((Told news, t) ∷ h) member)
    → ((member : ℕ) → is_voter c.before member ≡ is_told own (before_ballot ((Told news, t) ∷ h)) member) → is_left c.stage ≡ false
    → Agrees own ((Told news, t) ∷ h) c
begins own h news t c known quiet ballot voters before not_left =
    record { known = known; quiet = quiet; ballot = ballot; voters = voters; before = before; left = λ e. absurd (true≢false (sym e ∙ not_left)) }

fresh_known : (h : History) (news : NumberNews) (t : ℕ) → known_by h ≡ None → known_by ((Told news, t) ∷ h) ≡ least (known_from news t) None
fresh_known h news t is = ap (λ (k : Option ℕ). least (known_from news t) k) is

fresh_quiet : (h : History) (news : NumberNews) (t : ℕ) → known_by h ≡ None → quiet_by ((Told news, t) ∷ h) ≡ first_of (quiet_from news t) (Some t)
fresh_quiet h news t is = ap (λ (k : Option ℕ). first_of (quiet_from news t) (if is_some k then quiet_by h else Some t)) is

unknown :
    (own : ℕ) (h : History) (news : NumberNews) (t : ℕ) → IsUnknown own h → known_from news t ≡ None → has_ballot ((Told news, t) ∷ h) ≡ false
    → ((member : ℕ) → is_told own (before_ballot ((Told news, t) ∷ h)) member ≡ false) → IsUnknown own ((Told news, t) ∷ h)
unknown own h news t a makes ballot before =
    let known : known_by ((Told news, t) ∷ h) ≡ None = fresh_known h news t a.known ∙ ap (λ (q : Option ℕ). least q None) makes in
    record { known = known; ballot = ballot; told = λ member. none_told own h news t member known (a.told member); before = before }

-- a number that is known
goes_on :
    (own : ℕ) (h : History) (news : NumberNews) (t : ℕ) (c : LackedNumber) → Agrees own h c
    → has_ballot ((Told news, t) ∷ h) ≡ is_open (again (is_within (voters_after (voter_of own news) c.voters) c.before) (moved news c.stage))
    → ((member : ℕ) → is_voter (before_after news c.voters c.before) member ≡ is_told own (before_ballot ((Told news, t) ∷ h)) member)
    → (is_left (again (is_within (voters_after (voter_of own news) c.voters) c.before) (moved news c.stage)) ≡ true
    → is_within (voters_after (voter_of own news) c.voters) (before_after news c.voters c.before) ≡ true)
    → Says own ((Told news, t) ∷ h) (known_after own news t (Some c))
goes_on own h news t c a ballot before left =
    record {
      known = known_next own h news t c a;
      quiet = quiet_next own h news t c a;
      ballot = ballot;
      voters = voters_told own h news t c.voters _ (known_next own h news t c a) a.voters;
      before = before;
      left = left;
    }

told : (own : ℕ) (h : History) (news : NumberNews) (t : ℕ) (c : Option LackedNumber) → Says own h c → Says own ((Told news, t) ∷ h) (known_after own news t c)
told own h (Saved votes) t None a =
    let known = fresh_known h (Saved votes) t a.known in
    begins own h (Saved votes) t _ known (fresh_quiet h (Saved votes) t a.known) a.ballot
    (voters_told own h (Saved votes) t none _ known (none_voter own h a.told)) (none_voter own (before_ballot h) a.before) refl
told own h (Held voter) t None a =
    let known = fresh_known h (Held voter) t a.known in
    begins own h (Held voter) t _ known (fresh_quiet h (Held voter) t a.known) a.ballot
    (voters_told own h (Held voter) t none _ known (none_voter own h a.told)) (none_voter own (before_ballot h) a.before) refl
told own h Opened t None a =
    let known = fresh_known h Opened t a.known in
    begins own h Opened t _ known (fresh_quiet h Opened t a.known) refl
    (voters_told own h Opened t none _ known (none_voter own h a.told)) (none_voter own h a.told) refl
told own h Came t None a = unknown own h Came t a refl a.ballot a.before
told own h (Voted voter) t None a = unknown own h (Voted voter) t a refl a.ballot a.before
told own h Closed t None a = unknown own h Closed t a refl refl a.before
told own h Nothing t None a = unknown own h Nothing t a refl refl a.before
told own h (Saved votes) t (Some c) a = goes_on own h (Saved votes) t c a (a.ballot ∙ sym (again_open _ c.stage)) a.before (again_left _ c.stage)
told own h Came t (Some c) a = goes_on own h Came t c a (a.ballot ∙ sym (again_open _ c.stage)) a.before (again_left _ c.stage)
told own h (Voted voter) t (Some c) a = goes_on own h (Voted voter) t c a (a.ballot ∙ sym (again_open _ c.stage)) a.before (again_left _ c.stage)
told own h (Held voter) t (Some c) a = goes_on own h (Held voter) t c a (a.ballot ∙ sym (again_open _ c.stage)) a.before (again_left _ c.stage)
told own h Opened t (Some c) a = goes_on own h Opened t c a refl a.voters (λ e. absurd (true≢false (sym e)))
told own h Closed t (Some c) a =
    goes_on own h Closed t c a (sym (again_open _ (ended Waiting c.stage) ∙ ended_closed Waiting c.stage refl)) a.before (again_left _ (ended Waiting c.stage))
told own h Nothing t (Some c) a =
    goes_on own h Nothing t c a (sym (again_open _ (ended Left c.stage) ∙ ended_closed Left c.stage refl)) a.before (again_left _ (ended Left c.stage))

recalled : (own : ℕ) (h : History) (t : ℕ) (c : Option LackedNumber) → Says own h c → Says own ((Recalled, t) ∷ h) (step own Recalled t c)
recalled own h t None a = record { known = a.known; ballot = refl; told = a.told; before = a.before }
recalled own h t (Some c) a =
    record { known = a.known; quiet = a.quiet; ballot = refl; voters = a.voters; before = a.before; left = λ e. absurd (true≢false (sym e)) }

-- it is left, or it stays
settles :
    (own : ℕ) (h : History) (t : ℕ) (c : LackedNumber) (b : Bool) → (was_recalled c.stage t && not (has_vote c)) ≡ b → Agrees own h c
    → Agrees own ((Settled, t) ∷ h) (if b then with_stage Left c else c)
settles own h t c true left a =
    record {
      known = a.known;
      quiet = a.quiet;
      ballot = a.ballot ∙ left_open c t (not (has_vote c)) left;
      voters = a.voters;
      before = a.before;
      left = λ e. none_within c.voters c.before (not_false (is_none c.voters) (not_not (has_vote c) (right_true (was_recalled c.stage t) (not (has_vote c)) left)));
    }
settles own h t c false stays a = record { known = a.known; quiet = a.quiet; ballot = a.ballot; voters = a.voters; before = a.before; left = a.left }

settle : (own : ℕ) (h : History) (t : ℕ) (c : Option LackedNumber) → Says own h c → Says own ((Settled, t) ∷ h) (step own Settled t c)
settle own h t None a = record { known = a.known; ballot = a.ballot; told = a.told; before = a.before }
settle own h t (Some c) a = settles own h t c (was_recalled c.stage t && not (has_vote c)) refl a

sought : (own : ℕ) (h : History) (t : ℕ) (c : Option LackedNumber) → Says own h c → Says own ((Sought, t) ∷ h) (step own Sought t c)
sought own h t None a = record { known = a.known; ballot = ap is_some a.known; told = a.told; before = a.told }
sought own h t (Some c) a =
    record { known = a.known; quiet = a.quiet; ballot = ap is_some a.known; voters = a.voters; before = a.voters; left = λ e. absurd (true≢false (sym e)) }

-- while it did not go out, the case is what the events make of it
kept : (h : History) (c : Option LackedNumber) → went_out h ≡ false → (if went_out h then None else c) ≡ c
kept h c not_out = ap (λ (b : Bool). if b then None else c) not_out

agrees : (own : ℕ) (h : History) → went_out h ≡ false → Says own h (case_of own h)
agrees own [] not_out = record { known = refl; ballot = refl; told = λ member. refl; before = λ member. refl }
agrees own ((Told news, t) ∷ h) not_out =
    subst (Says own ((Told news, t) ∷ h)) (sym (kept h (known_after own news t (case_of own h)) not_out)) (told own h news t (case_of own h) (agrees own h not_out))
agrees own ((Recalled, t) ∷ h) not_out =
    subst (Says own ((Recalled, t) ∷ h)) (sym (kept h (step own Recalled t (case_of own h)) not_out)) (recalled own h t (case_of own h) (agrees own h not_out))
agrees own ((Settled, t) ∷ h) not_out =
    subst (Says own ((Settled, t) ∷ h)) (sym (kept h (step own Settled t (case_of own h)) not_out)) (settle own h t (case_of own h) (agrees own h not_out))
agrees own ((Sought, t) ∷ h) not_out =
    subst (Says own ((Sought, t) ∷ h)) (sym (kept h (step own Sought t (case_of own h)) not_out)) (sought own h t (case_of own h) (agrees own h not_out))
agrees own ((WentOut, t) ∷ h) not_out = absurd (true≢false not_out)

abbrev no_case : Option LackedNumber
no_case = None

none_both : (b : Bool) → (if b then no_case else no_case) ≡ no_case
none_both true = refl
none_both false = refl

-- what went out has no case
none_out : (own : ℕ) (h : History) → went_out h ≡ true → case_of own h ≡ None
none_out own [] out = absurd (true≢false (sym out))
none_out own ((Told news, t) ∷ h) out = ap (λ (b : Bool). if b then None else known_after own news t (case_of own h)) out
none_out own ((Recalled, t) ∷ h) out = ap (λ (b : Bool). if b then None else step own Recalled t (case_of own h)) out
none_out own ((Settled, t) ∷ h) out = ap (λ (b : Bool). if b then None else step own Settled t (case_of own h)) out
none_out own ((Sought, t) ∷ h) out = ap (λ (b : Bool). if b then None else step own Sought t (case_of own h)) out
none_out own ((WentOut, t) ∷ h) out = none_both (went_out h)

-- what is lacked by the parts of the answer
abbrev by_parts : (out ballot : Bool) (known quiet : Option ℕ) (now : ℕ) → Bool
by_parts out ballot known quiet now = not out && (not ballot && has_come known now && has_come quiet now)

says_lacked : (own : ℕ) (h : History) (now : ℕ) (c : Option LackedNumber) → went_out h ≡ false → Says own h c → case_lacks c now ≡ is_lacked h now
says_lacked own h now None not_out a = sym (λ i. by_parts (not_out i) (a.ballot i) (a.known i) (quiet_by h) now)
says_lacked own h now (Some c) not_out a = sym (λ i. by_parts (not_out i) (a.ballot i) (a.known i) (a.quiet i) now)

cases_out : (own : ℕ) (h : History) (now : ℕ) (b : Bool) → went_out h ≡ b → case_lacks (case_of own h) now ≡ is_lacked h now
cases_out own h now true out =
    ap (λ (c : Option LackedNumber). case_lacks c now) (none_out own h out) ∙ sym (ap (λ (b : Bool). by_parts b (has_ballot h) (known_by h) (quiet_by h) now) out)
cases_out own h now false not_out = says_lacked own h now (case_of own h) not_out (agrees own h not_out)

pub case_tells_all : CaseTellsAll
case_tells_all own h now = cases_out own h now (went_out h) refl

-- what is left did not go out
left_not_out : (own : ℕ) (h : History) → left_in (case_of own h) ≡ true → went_out h ≡ false
left_not_out own h left = go (went_out h) refl
  where
    go : (b : Bool) → went_out h ≡ b → b ≡ false
    go false e = refl
    go true out = absurd (true≢false (sym left ∙ ap left_in (none_out own h out)))

knows : (own : ℕ) (h : History) (c : Option LackedNumber) → Says own h c → left_in c ≡ true → (member : ℕ) → is_told own h member ≡ true → is_told own (before_ballot h) member ≡ true
knows own h None a left = absurd (true≢false (sym left))
knows own h (Some c) a left = λ member is. sym (a.before member) ∙ among_both c.voters c.before (a.left left) member (a.voters member ∙ is)

pub left_knows : LeftKnowsNoNewVoter
left_knows own h left = knows own h (case_of own h) (agrees own h (left_not_out own h left)) left

-- the voters are those that were known, where these news tell of no new one
within_still :
    (own : ℕ) (h : History) (voter : Option ℕ) (c : LackedNumber) → Agrees own h c → is_left c.stage ≡ true → is_new_in h own voter ≡ false
    → is_within (voters_after voter c.voters) c.before ≡ true
within_still own h None c a left old = a.left left
within_still own h (Some voter) c a left old = more_within c.voters c.before voter (a.left left) (a.before voter ∙ not_false _ old)

again_stays : (b : Bool) (s : LackStage) → b ≡ true → is_left s ≡ true → is_left (again b s) ≡ true
again_stays b Left knows_all left = ap (λ (x : Bool). is_left (again x Left)) knows_all
again_stays b Waiting knows_all left = absurd (true≢false (sym left))
again_stays b (RecalledStage at) knows_all left = absurd (true≢false (sym left))
again_stays b SoughtStage knows_all left = absurd (true≢false (sym left))
again_stays b Open knows_all left = absurd (true≢false (sym left))

ended_left : (next s : LackStage) → is_left s ≡ true → is_left (ended next s) ≡ true
ended_left next Left e = refl
ended_left next Waiting e = absurd (true≢false (sym e))
ended_left next (RecalledStage at) e = absurd (true≢false (sym e))
ended_left next SoughtStage e = absurd (true≢false (sym e))
ended_left next Open e = absurd (true≢false (sym e))

moved_left : (news : NumberNews) (s : LackStage) → is_opened news ≡ false → is_left s ≡ true → is_left (moved news s) ≡ true
moved_left Opened s not_opened left = absurd (true≢false not_opened)
moved_left (Saved votes) s not_opened left = left
moved_left Came s not_opened left = left
moved_left (Voted voter) s not_opened left = left
moved_left (Held voter) s not_opened left = left
moved_left Closed s not_opened left = ended_left Waiting s left
moved_left Nothing s not_opened left = ended_left Left s left

stays_left :
    (own : ℕ) (h : History) (news : NumberNews) (t : ℕ) (c : Option LackedNumber) → Says own h c → left_in c ≡ true → is_new_in h own (voter_of own news) ≡ false
    → is_opened news ≡ false → left_in (known_after own news t c) ≡ true
stays_left own h news t None a left old not_opened = absurd (true≢false (sym left))
stays_left own h news t (Some c) a left old not_opened =
    again_stays _ (moved news c.stage) (within_still own h (voter_of own news) c a left old) (moved_left news c.stage not_opened left)

pub left_stays : LeftStaysLeft
left_stays own h news t left old not_opened =
    let not_out : went_out h ≡ false = left_not_out own h left in
    ap left_in (kept h (known_after own news t (case_of own h)) not_out) ∙ stays_left own h news t (case_of own h) (agrees own h not_out) left old not_opened
