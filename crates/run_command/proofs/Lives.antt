-- What the works of a plant are in its life, and how it is told from the start on.
use Rattle.std.proofs.Common.{◌≡◌, ◌++◌, ◌∙◌, ◌⊎◌, ℕ, List, [], ◌∷◌, true, Option, Some, None, Ok, inl, inr, refl, sym, ap, subst, map, append-nil}
use Rattle.std.specs.Prelude.{flat_map}
use Rattle.protocol.specs.Lists.{IsAmong}
use Rattle.protocol.specs.Refusals.{Call}
use Rattle.station.specs.declared.answer.Answer.{Answer}
use Rattle.folders.specs.Doings.{Doing, wrote_file, noted_gone, noted_before, writing, Does}
use Rattle.folders.specs.Written.{File}
use Rattle.folders.proofs.Doings.{does_nothing}
use Rattle.plant_care.specs.Caring.{AreNotedGone, NotesBefore}
use Rattle.rows_saved.specs.declared.rows.Rows.{Ghosts}
use Rattle.station.specs.declared.station.Station.{Station}
use Rattle.wire.specs.Passing.{Trace}
use Rattle.command_ends.specs.declared.end.End.{End}
use Rattle.driver.specs.Events.{Event, took, stored, HasCause}
use Rattle.wire.proofs.Passing.{Passes-nil}
use Rattle.driver.specs.Driving.{known, post, Drove, Anyhow}
use Rattle.folders.specs.declared.names.FileRequest.{FileRequest}
use Rattle.folders.specs.declared.wishes.Wish.{Wish}
use Rattle.folders.specs.declared.wishes.Wish.TheVariants.{Offered, Sought}
use Rattle.run_command.specs.Standing.{Texts}
use Rattle.run_command.specs.Calls.{call_of}
use Rattle.station.specs.declared.answer.Release.{Release}
use Rattle.run_command.specs.ReleaseFiles.{files_of, filing, release_files}
use Rattle.offers.specs.Book.{IsFresh}
use Rattle.offers.specs.Rules.{Standing}
use Rattle.run_command.specs.Minding.{WasRead, Holds, onto}
use Rattle.run_command.specs.Living.{Kept, kept, HandsOut, Lived, LivedFront, MayAsk, SettlesWritten}
use Rattle.run_command.specs.Running.{Tells, TellsAll, WasRefused, tells}
use Rattle.run_command.specs.Story.{Happened, stepped, did, doings_of, files_of_story, IsInOrder, MayBeCalled, MayBeDone}
use Rattle.run_command.specs.Waiting.{Waiting, IsFiled, WritesAll, WritesFirst, WritesStored, all_stored, none_waits, with_files, with_numbers, with_release}
use Rattle.run_command.specs.Working.{Follows, Keeps, Looked, LooksBy, Releases, Writes}
use Rattle.run_command.specs.Lives.{joined, joined_front, was_stored}
use Rattle.run_command.specs.declared.plant.Plant.{Plant}
use Rattle.run_command.proofs.Story.{events_none, doings_all, files_all, files_written, in_order_wrote}
use Rattle.run_command.proofs.Looking.{Deals, Did, deals_ends, deals_follows, deals_looked, deals_out, did_before, did_of, follows_same, not_stored, settles_none, settles_then}
use Rattle.run_command.proofs.Minds.{holds_done, holds_fewer, holds_first, holds_noted, holds_wrote, none_unnoted, out_did, wait_out, wait_stored, deals_in_order, holds_deals}

-- nothing was done with the folders, and what is kept in mind is as it was
pub settled_beside : (a b : Option (List Doing)) (p q : Plant) → b ≡ a → q.papers.book ≡ p.papers.book → q.waits ≡ p.waits → q.texts ≡ p.texts → SettlesWritten a b p q
settled_beside a b p q still book waits texts = record { settles = settles_none a b _ _ still (follows_same _ _ book); none = λ full. still; waits = waits; texts = texts }

pub settled_none : (a : Option (List Doing)) (p : Plant) → SettlesWritten a a p p
settled_none a p = settled_beside a a p p refl refl refl refl

-- one step after the other
pub settled_then : (a b c : Option (List Doing)) (p q r : Plant) → SettlesWritten a b p q → SettlesWritten b c q r → SettlesWritten a c p r
settled_then a b c p q r d e = record {
  settles = settles_then a b c _ _ _ d.settles e.settles;
  none = λ full. e.none (λ filed. full (subst IsFiled d.waits filed)) ∙ d.none full;
  waits = e.waits ∙ d.waits;
  texts = e.texts ∙ d.texts;
}

-- what is asked for a file that was read may be asked
pub may_be_called : (t : Texts) (past : List Happened) (r : FileRequest) (now : ℕ) (wish : Wish) → WasRead t (doings_of past) r wish → MayBeCalled t past (call_of wish r.number now)
may_be_called t past r now (Offered entry) w =
    record { kind = r.kind; name = _; bytes = w.bytes; named = refl; lay_there = w.lay_there; stands = w.stands }
may_be_called t past r now Sought w = tt

-- numbers were noted as gone out, or not
record Notes (old new : Option (List Doing)) (had left : List ℕ) : Type 0 where
  doings : List Doing
  does : Does old new doings
  either : (doings ≡ []) ⊎ (doings ≡ noted_gone had ∷ [])
  part : (n : ℕ) → IsAmong left n → IsAmong had n

none_left : (left had : List ℕ) → left ≡ [] → (n : ℕ) → IsAmong left n → IsAmong had n
none_left left had none n i = absurd (subst (λ (l : List ℕ). IsAmong l n) none i)

notes_of : {F : Type 0} (doings : F → Option (List Doing)) (refuses : F → F → Type 0) (f g : F) (had left : List ℕ) → AreNotedGone doings refuses f g had left → Notes (doings f) (doings g) had left
notes_of doings refuses f g had left it = elim it [
  | inl none ↦ record { doings = []; does = does_nothing (doings f) (doings g) none.2; either = inl refl; part = none_left left had none.1 }
  | inr some ↦ elim some [
    | inl told ↦ record { doings = noted_gone had ∷ []; does = told.1; either = inr refl; part = none_left left had told.0 }
    | inr waits ↦
        let found = did_of (doings f) (doings g) (noted_gone had) waits.1 in
        record { doings = found.doings; does = found.does; either = found.either; part = λ n i. subst (λ (l : List ℕ). IsAmong l n) waits.0 i }
  ]
]

-- a doing that writes nothing was done, or nothing was
silent_one : (d : Doing) (ds : List Doing) → writing d ≡ [] → (ds ≡ []) ⊎ (ds ≡ d ∷ []) → flat_map writing ds ≡ []
silent_one d ds silent (inl none) = ap (λ (l : List Doing). flat_map writing l) none
silent_one d ds silent (inr one) = ap (λ (l : List Doing). flat_map writing l) one ∙ ap (λ (l : List File). l ++ []) silent

one_in_order : (t : Texts) (d : Doing) (ds : List Doing) (past : List Happened) → (ds ≡ []) ⊎ (ds ≡ d ∷ []) → MayBeDone past d → IsInOrder t past (map did ds)
one_in_order t d ds past (inl none) may = subst (λ (l : List Doing). IsInOrder t past (map did l)) (sym none) tt
one_in_order t d ds past (inr one) may = subst (λ (l : List Doing). IsInOrder t past (map did l)) (sym one) (may, tt)

module _ {F : Type 0} (t : Texts) (doings : F → Option (List Doing)) where
  -- something was done with files among the offers
  pub dealt : (f g : F) (q : Waiting) (m n : Standing) → Deals t (doings f) (doings g) q m n → Lived t doings (kept f q m) (kept g q n) []
  dealt f g q m n d = record {
    story = map did d.doings;
    events = events_none d.doings;
    does = subst (λ (l : List Doing). Does (doings f) (doings g) l) (sym (doings_all d.doings)) d.does;
    whole = append-nil q.files ∙ ap (λ (l : List File). l ++ q.files) (sym (files_all d.doings ∙ d.silent));
    ordered = λ past st. deals_in_order t past q (doings f) (doings g) m n d st;
    stands = λ past st. holds_deals t past q (doings f) (doings g) m n d st;
  }

  -- no file was read, and no number released
  pub beside : (f : F) (q : Waiting) (m n : Standing) → Follows m n → Lived t doings (kept f q m) (kept f q n) []
  beside f q m n fo = dealt f f q m n (deals_follows t (doings f) (doings f) q m n refl fo)

  -- nothing was done that the folders tell of
  still_there : (f g : F) (q : Waiting) (m : Standing) → doings g ≡ doings f → Lived t doings (kept f q m) (kept g q m) []
  still_there f g q m same = dealt f g q m m (deals_follows t (doings f) (doings g) q m m same (follows_same m m refl))

  -- nothing but looks was done
  pub looked_on : (f g : F) (q : Waiting) (m n : Standing) → Looked (doings f) (doings g) m n → Lived t doings (kept f q m) (kept g q n) []
  looked_on f g q m n l = dealt f g q m n (deals_looked t (doings f) (doings g) q m n l)

  -- the first files that waited were written
  wrote_on : (f g : F) (q : Waiting) (m : Standing) (fs left : List File) → q.stored ≡ true → q.files ≡ fs ++ left → Does (doings f) (doings g) (map wrote_file fs)
      → Lived t doings (kept f q m) (kept g (with_files left q) m) []
  wrote_on f g q m fs left sure split does =
      let out : List Doing = map wrote_file fs in
      record {
        story = map did out;
        events = events_none out;
        does = subst (λ (l : List Doing). Does (doings f) (doings g) l) (sym (doings_all out)) does;
        whole = append-nil q.files ∙ split ∙ ap (λ (l : List File). l ++ left) (sym (files_written fs));
        ordered = λ past st. in_order_wrote t fs past (wait_stored t past q m fs left sure split st);
        stands = λ past st. holds_wrote t fs past q left m split st;
      }

  -- and then the numbers that waited were noted, or not
  noted_on : (f g : F) (q : Waiting) (m : Standing) (left : List ℕ) → q.stored ≡ true → q.files ≡ [] → Notes (doings f) (doings g) q.numbers left
      → Lived t doings (kept f q m) (kept g (with_numbers left q) m) []
  noted_on f g q m left sure none notes = record {
    story = map did notes.doings;
    events = events_none notes.doings;
    does = subst (λ (l : List Doing). Does (doings f) (doings g) l) (sym (doings_all notes.doings)) notes.does;
    whole = append-nil q.files ∙ ap (λ (l : List File). l ++ q.files) (sym (files_all notes.doings ∙ silent_one (noted_gone q.numbers) notes.doings refl notes.either));
    ordered = λ past st. one_in_order t (noted_gone q.numbers) notes.doings past notes.either (wait_out t past q m sure none st);
    stands = λ past st.
        holds_fewer t (onto (map did notes.doings) past) q left m notes.part (λ n i. out_did notes.doings past n (wait_out t past q m sure none st n i))
        (holds_done t notes.doings past q m st);
  }

  -- numbers from before were noted, if no number waits to be noted
  noted_some : (f g : F) (q : Waiting) (m : Standing) (numbers : List ℕ) → q.numbers ≡ [] → Did (doings f) (doings g) (noted_before numbers)
      → Lived t doings (kept f q m) (kept g q m) []
  noted_some f g q m numbers none found = record {
    story = map did found.doings;
    events = events_none found.doings;
    does = subst (λ (l : List Doing). Does (doings f) (doings g) l) (sym (doings_all found.doings)) found.does;
    whole =
        append-nil q.files
        ∙ ap (λ (l : List File). l ++ q.files) (sym (files_all found.doings ∙ silent_one (noted_before numbers) found.doings refl found.either));
    ordered = λ past st. one_in_order t (noted_before numbers) found.doings past found.either (none_unnoted t past q m numbers none st);
    stands = λ past st. holds_done t found.doings past q m st;
  }

  noted_old : (f g : F) (q : Waiting) (m : Standing) → NotesBefore q.numbers (doings f) (doings g) → Lived t doings (kept f q m) (kept g q m) []
  noted_old f g q m (inl same) = still_there f g q m same
  noted_old f g q m (inr it) = noted_some f g q m it.1.0 it.0 (did_before (doings f) (doings g) it.1.0 it.1.1)

  wrote_all : (refuses : F → F → Type 0) (f g : F) (q r : Waiting) (m : Standing) → q.stored ≡ true → WritesAll doings refuses f g q r → Lived t doings (kept f q m) (kept g r m) []
  wrote_all refuses f g q r m sure w =
      let written : Waiting = with_files [] q in
      subst (λ (x : Waiting). Lived t doings (kept f q m) (kept g x m) []) (sym w.rest)
      (joined t doings (kept f q m) (kept w.mid written m) (kept g (with_numbers w.left written) m) [] []
      (wrote_on f w.mid q m q.files [] sure (sym (append-nil q.files)) w.writes)
      (noted_on w.mid g written m w.left sure refl (notes_of doings refuses w.mid g q.numbers w.left w.notes)))

  wrote_first : (refuses : F → F → Type 0) (f g : F) (q r : Waiting) (m : Standing) → q.stored ≡ true → WritesFirst doings refuses f g q r → Lived t doings (kept f q m) (kept g r m) []
  wrote_first refuses f g q r m sure w =
      subst (λ (x : Waiting). Lived t doings (kept f q m) (kept g x m) []) (sym w.rest) (wrote_on f g q m w.files w.left sure w.split w.writes)

  -- what waited was written, up to what was refused; or nothing was done
  wrote : (refuses : F → F → Type 0) (f g : F) (q r : Waiting) (m : Standing) → WritesStored doings refuses f g q r → Lived t doings (kept f q m) (kept g r m) []
  wrote refuses f g q r m w = elim w [
    | inl it ↦ subst (λ (x : Waiting). Lived t doings (kept f q m) (kept g x m) []) (sym it.1) (still_there f g q m it.2)
    | inr it ↦ elim it.1 [ inl all ↦ wrote_all refuses f g q r m it.0 all | inr first ↦ wrote_first refuses f g q r m it.0 first ]
  ]

  -- a look: what waits was written, and then it was looked at the offers, and at what is missing
  pub looked_through : (refuses : F → F → Type 0) (f g h k l : F) (q r : Waiting) (m n : Standing) → WritesStored doings refuses f g q r → Looked (doings g) (doings h) m n
      → LooksBy doings r h k → doings l ≡ doings k → Lived t doings (kept f q m) (kept l r n) []
  looked_through refuses f g h k l q r m n w look by_look same =
      joined t doings (kept f q m) (kept g r m) (kept l r n) [] [] (wrote refuses f g q r m w)
      (joined t doings (kept g r m) (kept h r n) (kept l r n) [] [] (looked_on g h r m n look)
      (joined t doings (kept h r n) (kept by_look.mid r n) (kept l r n) [] [] (noted_old h by_look.mid r n by_look.notes)
      (joined t doings (kept by_look.mid r n) (kept k r n) (kept l r n) [] []
      (dealt by_look.mid k r n n (deals_ends t (doings by_look.mid) (doings k) r r.files r.stored n refl refl by_look.none by_look.ends))
      (still_there k l r n same))))

  -- what steps released was handed out: all that they saved is stored, and behind that it was written
  pub handed_out : (refuses : F → F → Type 0) (f g : F) (q r : Waiting) (m n : Standing) → HandsOut doings refuses (kept f q m) (kept g r n) → Lived t doings (kept f q m) (kept g r n) (stored (Ok tt) ∷ [])
  handed_out refuses f g q r m n h =
      joined t doings (kept f q m) (kept f (all_stored q) m) (kept g r n) (stored (Ok tt) ∷ []) [] (was_stored t doings (kept f q m))
      (joined t doings (kept f (all_stored q) m) (kept h.mid r m) (kept g r n) [] [] (wrote refuses f h.mid (all_stored q) r m h.writes)
      (dealt h.mid g r m n (deals_out t (doings h.mid) (doings g) r r.files r.stored m n refl refl h.none h.settles)))

  -- the files of what a step released, if anything, wait
  noted_files : (q : Waiting) (o : Option Release) → q.files ++ (files_of o ++ []) ≡ (with_release o q).files
  noted_files q None = append-nil q.files
  noted_files q (Some r) = ap (λ (l : List File). q.files ++ l) (append-nil (release_files r))

  -- a step was noted: nothing was done, and the files of its release wait
  pub noted : (a : Answer) (f : F) (q r : Waiting) (m n : Standing) → r ≡ with_release a.release q → Keeps (Releases a.release) m n → (call : Call) → MayAsk t (kept f q m) call
      → Lived t doings (kept f q m) (kept f r n) (took call (Ok a) ∷ [])
  noted a f q r m n wait keeps call may = record {
    story = stepped (took call (Ok a)) ∷ [];
    events = refl;
    does = does_nothing (doings f) (doings f) refl;
    whole = noted_files q a.release ∙ ap (λ (w : Waiting). w.files) (sym wait);
    ordered = λ past st. (may past st, tt);
    stands = λ past st. holds_noted t past call a q r m n wait keeps st;
  }

  -- there was no memory for them
  pub unnoted : (a : Answer) (f : F) (q r : Waiting) (m n : Standing) → (call : Call) → MayAsk t (kept f q m) call
      → LivedFront t doings (kept f q m) (kept f r n) (took call (Ok a) ∷ [])
  unnoted a f q r m n call may = record {
    story = stepped (took call (Ok a)) ∷ [];
    events = refl;
    does = does_nothing (doings f) (doings f) refl;
    front = (q.files ++ flat_map filing (took call (Ok a) ∷ []), refl);
    ordered = λ past st. (may past st, tt);
  }

  -- from the start on, where nothing waits and nothing is kept in mind
  pub tells_of : (f h : F) (q r : Waiting) (m n : Standing) (log : List Event) → q ≡ none_waits → IsFresh m → LivedFront t doings (kept f q m) (kept h r n) log → Tells t doings f h log
  tells_of f h q r m n log none fresh p = record {
    story = p.story;
    events = p.events;
    does = p.does;
    front = (p.front.0, subst (λ (w : Waiting). Writes (w.files ++ flat_map filing log) p.story p.front.0) none p.front.1);
    ordered = p.ordered [] (subst (λ (w : Waiting). Holds t [] w m) (sym none) (holds_first t m fresh));
  }

  -- before it something was done with files among the offers
  pub tells_behind : (f g h : F) (q r : Waiting) (m n : Standing) (log : List Event) → q ≡ none_waits → IsFresh m → Looked (doings f) (doings g) m m
      → LivedFront t doings (kept g q m) (kept h r n) log → Tells t doings f h log
  tells_behind f g h q r m n log none fresh d p =
      tells_of f h q r m n log none fresh (joined_front t doings (kept f q m) (kept g q m) (kept h r n) [] log (looked_on f g q m m d) p)

  -- the same, where what is kept at the start is that, and the table this one
  pub tells_start : (u : Texts) (f g h : F) (q r : Waiting) (m n : Standing) (log : List Event) (first : Kept F) → u ≡ t → q ≡ none_waits → IsFresh m
      → Looked (doings f) (doings g) m m → first ≡ kept g q m → LivedFront u doings first (kept h r n) log → Tells t doings f h log
  tells_start u f g h q r m n log first by none fresh d is p =
      tells_behind f g h q r m n log none fresh d
      (subst (λ (v : Texts). LivedFront v doings (kept g q m) (kept h r n) log) by (subst (λ (s : Kept F). LivedFront u doings s (kept h r n) log) is p))

-- where steps were handed out no file waits, or one was refused
pub emptied : {F : Type 0} (doings : F → Option (List Doing)) (refuses : F → F → Type 0) (old new : Kept F) → HandsOut doings refuses old new
    → (new.waits.files ≡ []) ⊎ WasRefused refuses
emptied doings refuses old new h = elim h.writes [
  | inl none ↦ absurd (not_stored none.0 refl)
  | inr it ↦ elim it.1 [
    | inl all ↦ inl (ap (λ (w : Waiting). w.files) all.rest)
    | inr first ↦ inr (old.folders, h.mid, first.refused)
  ]
]

module _ {F : Type 0} (t : Texts) (doings : F → Option (List Doing)) (refuses : F → F → Type 0) where
  -- from the start on, where nothing waits at the end, or something was refused
  all_of : (f h : F) (q r : Waiting) (m n : Standing) (log : List Event) → q ≡ none_waits → IsFresh m → (r.files ≡ []) ⊎ WasRefused refuses
      → Lived t doings (kept f q m) (kept h r n) log → TellsAll t doings refuses f h log
  all_of f h q r m n log none fresh ends p =
      let whole : Writes (flat_map filing log) p.story r.files = subst (λ (w : Waiting). Writes (w.files ++ flat_map filing log) p.story r.files) none p.whole in
      record {
        told = record {
          story = p.story;
          events = p.events;
          does = p.does;
          front = (r.files, whole);
          ordered = p.ordered [] (subst (λ (w : Waiting). Holds t [] w m) (sym none) (holds_first t m fresh));
        };
        all = elim ends [
          | inl empty ↦ inl (sym (whole ∙ ap (λ (l : List File). files_of_story p.story ++ l) empty ∙ append-nil (files_of_story p.story)))
          | inr refused ↦ inr refused
        ];
      }

  -- before it something was done with files among the offers, what is kept at the start is that, and the table this one
  pub all_start : (u : Texts) (f g h : F) (q r : Waiting) (m n : Standing) (log : List Event) (first : Kept F) → u ≡ t → q ≡ none_waits → IsFresh m
      → Looked (doings f) (doings g) m m → first ≡ kept g q m → (r.files ≡ []) ⊎ WasRefused refuses → Lived u doings first (kept h r n) log
      → TellsAll t doings refuses f h log
  all_start u f g h q r m n log first by none fresh d is ends p =
      all_of f h q r m n log none fresh ends
      (joined t doings (kept f q m) (kept g q m) (kept h r n) [] log (looked_on t doings f g q m m d)
      (subst (λ (v : Texts). Lived v doings (kept g q m) (kept h r n) log) by (subst (λ (s : Kept F). Lived u doings s (kept h r n) log) is p)))

-- a run in which nothing happened, and nothing was done with its folders but what they don't tell of
pub idle_behind : {R N F : Type 0} (t : Texts) (rows : Ghosts R) (is_settled : R → Type 0) (passed : N → Trace) (doings : F → Option (List Doing)) (refuses : F → F → Type 0) (s : Station R) (w : N) (f g : F) (end : End)
    → doings g ≡ doings f → HasCause [] s.stopped s.stopped end → Drove (known rows is_settled passed (tells t doings refuses)) (post s w f) (post s w g) end Anyhow
idle_behind t rows is_settled passed doings refuses s w f g end same cause =
    let none : Tells t doings f g [] = record { story = []; events = refl; does = does_nothing (doings f) (doings g) same; front = ([], refl); ordered = tt } in
    let all : TellsAll t doings refuses f g [] =
    record { told = record { story = []; events = refl; does = does_nothing (doings f) (doings g) same; front = ([], refl); ordered = tt }; all = inl refl } in
    record {
      log = [];
      driven = record { steps = λ kept. refl; passes = Passes-nil (passed w); waits = λ done. refl; front = none; whole = λ done. all; cause = cause };
      form = λ done. tt;
    }

-- a run over folders of which the same is told is one from there on
pub behind : {R N F : Type 0} (t : Texts) (rows : Ghosts R) (is_settled : R → Type 0) (passed : N → Trace) (doings : F → Option (List Doing)) (refuses : F → F → Type 0) (s u : Station R) (w v : N) (f g h : F) (end : End)
    → doings g ≡ doings f → Drove (known rows is_settled passed (tells t doings refuses)) (post s w g) (post u v h) end Anyhow → Drove (known rows is_settled passed (tells t doings refuses)) (post s w f) (post u v h) end Anyhow
behind t rows is_settled passed doings refuses s u w v f g h end same d =
    let from : (log : List Event) → Tells t doings g h log → Tells t doings f h log =
    λ log p. record { story = p.story; events = p.events; does = subst (λ b. Does b (doings h) (doings_of p.story)) same p.does; front = p.front; ordered = p.ordered } in
    let all_from : (log : List Event) → TellsAll t doings refuses g h log → TellsAll t doings refuses f h log =
    λ log p.
    let q = p.told in
    record {
      told = record { story = q.story; events = q.events; does = subst (λ b. Does b (doings h) (doings_of q.story)) same q.does; front = q.front; ordered = q.ordered };
      all = p.all;
    } in
    record {
      log = d.log;
      driven = record {
        steps = d.driven.steps;
        passes = d.driven.passes;
        waits = d.driven.waits;
        front = from d.log d.driven.front;
        whole = λ done. all_from d.log (d.driven.whole done);
        cause = d.driven.cause;
      };
      form = d.form;
    }

-- a run in which nothing happened
pub idle : {R N F : Type 0} (t : Texts) (rows : Ghosts R) (is_settled : R → Type 0) (passed : N → Trace) (doings : F → Option (List Doing)) (refuses : F → F → Type 0) (s : Station R) (w : N) (f : F) (end : End)
    → HasCause [] s.stopped s.stopped end → Drove (known rows is_settled passed (tells t doings refuses)) (post s w f) (post s w f) end Anyhow
idle t rows is_settled passed doings refuses s w f end cause = idle_behind t rows is_settled passed doings refuses s w f f end refl cause
