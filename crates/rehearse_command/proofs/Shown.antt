-- What is shown of a world, step by step.
use Rattle.std.proofs.Common.{◌≡◌, ℕ, ◌+◌, List, [], ◌∷◌, ◌++◌, length, drop, Option, Some, None, Result, Ok, Err, refl, sym, ap, subst, ◌∙◌, inl, inr, arith, false, true≢false}
use Rattle.std.specs.Prelude.{flat_map}
use Rattle.std.specs.List.{All}
use Rattle.std.specs.Io.KnownBytes.{Appends, Keeps}
use Rattle.std.proofs.KnownBytes.{Appends-kept}
use Rattle.std.proofs.lemmas.Grind.{flat_map-append}
use Rattle.std.proofs.lemmas.List.{append-nil, drop_at}
use Rattle.streams.specs.Fronts.{AppendsFront}
use Rattle.streams.proofs.Fronts.{front_of_all}
use Rattle.protocol.specs.Lists.{IsAmong}
use Rattle.protocol.specs.Versions.{Version}
use Rattle.protocol.specs.Circuit.{Datagram, Release, fresh}
use Rattle.rows_saved.specs.Memory.{MemoryOf}
use Rattle.rows_saved.specs.contracts.memory.MemoryRowsRows.TheImpl.{ghosts}
use Rattle.line_check.specs.declared.slug.Slug.{Slug}
use Rattle.line_check.specs.declared.fault.SetFault.{SetFault}
use Rattle.world.specs.declared.world.World.{World}
use Rattle.world.specs.Founding.{Given}
use Rattle.world.specs.Playing.{IsBeginning, IsFresh}
use Rattle.world.specs.Reach.{Agreed, AllHonest, AllKept, IsReached, Moves, StandsFor}
use Rattle.world.specs.Setups.{StationCircuit, StationState}
use Rattle.world.specs.Taking.{actor}
use Rattle.world.specs.declared.step.Seen.{Seen}
use Rattle.world.specs.declared.step.Step.{Step}
use Rattle.world.specs.declared.step.WorldRefusal.{WorldRefusal}
use Rattle.world.specs.Worlds.{GoesOn}
use Rattle.world.proofs.Asking.{ends_more}
use Rattle.rehearse_command.specs.Scenes.{Scene, ArePlayed, TakesAs, Takes, scene_text, scenes_text}
use Rattle.rehearse_command.specs.Rehearsals.{Inputs, IsSetUpBy, Shows, Stands, StandsFront, IsOn, IsStaged, Rehearses}
use Rattle.rehearse_command.specs.declared.rehearsal.Rehearsal.{Rehearsal}
use Rattle.rehearse_command.proofs.Listing.{sent_in, scenes_more}

-- what is behind the old list is what it goes on by
pub goes_on_behind : {A : Type 0} (n : ℕ) (old new : List A) → GoesOn n old new → old ++ drop (length old) new ≡ new
goes_on_behind {A = A} n old new g = rw g.is (ap (λ (l : List A). old ++ l) (drop_at old g.more (length old) refl))

-- the same, of a list that was split behind the old one
pub behind : {A : Type 0} (n : ℕ) (old new xs ys back : List A) → GoesOn n old new → xs ≡ old → ys ≡ new → back ≡ drop (length xs) ys → old ++ back ≡ new
behind n old new xs ys back g p q r = rw (r, p, q) (goes_on_behind n old new g)

-- one scene more
takes_more : (z : StationCircuit) (w mid after : StationState) (scenes : List Scene) (s : Scene) (step : Step) → Takes z w scenes mid
    → actor mid.sent step ≡ Some s.member → TakesAs z mid step s.outcome after → Takes z w (scenes ++ s ∷ []) after
takes_more z w mid after [] s step t acts steps =
    (step, after, subst (λ (u : StationState). actor u.sent step ≡ Some s.member) t acts, subst (λ (u : StationState). TakesAs z u step s.outcome after) t steps, refl)
takes_more z w mid after (x ∷ scenes) s step t acts steps = (t.0, t.1, t.2, t.3, takes_more z t.1 mid after scenes s step t.4 acts steps)

-- in each circuit and state that the first world stands for, the step leads on as the second says
abbrev pub MovesOn : World MemoryOf → World MemoryOf → Step → Result Seen WorldRefusal → Type 0
MovesOn v w step result = AllKept ghosts.kept w → (z : StationCircuit) (at : StationState) → StandsFor ghosts.is_open ghosts.saved ghosts.version z v at → Moves ghosts.is_open ghosts.saved ghosts.version ghosts.refusals z at step v w result

module _ (by : Inputs) where
  -- the same scenes, of which something else was written
  pub shown_as : (P Q : List ℕ → Type 0) (v : World MemoryOf) → ((text : List ℕ) → P text → Q text) → Shows by v P → Shows by v Q
  shown_as P Q v turn s = record { reached = s.reached; agreed = s.agreed; scenes = s.scenes; are_of = s.are_of; number = s.number; members = s.members; version = s.version; set_up = s.set_up; played = s.played; written = turn (scenes_text 0 s.scenes) s.written }

  pub rehearsed_as : (P Q : List ℕ → Type 0) → ((text : List ℕ) → P text → Q text) → Rehearses by P → Rehearses by Q
  rehearsed_as P Q turn (inl nothing) = inl (turn [] nothing)
  rehearsed_as P Q turn (inr shown) = inr (shown.0, shown_as P Q shown.0 turn shown.1)

  -- members that are all as one that is set up by the texts are set up by them
  pub all_set_up : (member : Given) (members : List Given) → All (λ (m : Given). m ≡ member) members → IsSetUpBy by member → All (IsSetUpBy by) members
  all_set_up member members same set_up = λ k d lt. subst (IsSetUpBy by) (sym (same k d lt)) set_up

  -- nothing has happened yet
  pub shown_new : (start now : Option (List ℕ)) (k : ℕ) (members : List Given) (version : Version) (v : World MemoryOf) → All (IsSetUpBy by) members → IsBeginning ghosts k members v → IsFresh ghosts k members (λ m. version) v → IsReached ghosts v → Appends start now [] → Stands by start now v
  shown_new start now k members version v set_up begins stands reached written =
      let none : (x : Release (List Slug) SetFault) → IsAmong v.releases.items x → ⊥ = λ x among. subst (λ (l : List (Release (List Slug) SetFault)). IsAmong l x) begins.2.releases among in
      let at = reached.reached (λ m t is. tt) in
      record {
        reached = reached;
        agreed = record {
          one = λ x y a b same. absurd (none x a);
          offered = λ x a. absurd (none x a);
          chosen = record { z = at.0; w = at.1.0; stands_for = at.1.1; history = at.1.2; each = λ x a. absurd (none x a) };
          set = λ x a. absurd (none x a);
        };
        scenes = [];
        are_of = record { sent = sym begins.2.sent; releases = sym begins.2.releases };
        number = k;
        members = members;
        version = version;
        set_up = set_up;
        played = λ z of. (fresh (λ m. version), stands z of, refl);
        written = written;
      }

  -- one step more was taken, and so much of what it shows was written
  pub shown_more : (P Q : List ℕ → Type 0) (v w : World MemoryOf) (scene : Scene) (s : Shows by v P) → IsReached ghosts w → Agreed ghosts w
      → ArePlayed s.number s.members s.version w (s.scenes ++ scene ∷ []) → v.sent.items ++ scene.sent ≡ w.sent.items → v.releases.items ++ scene.releases ≡ w.releases.items
      → ((text : List ℕ) → P text → Q (text ++ scene_text (length v.sent.items) scene)) → Shows by w Q
  shown_more P Q v w scene s reached agreed played sent releases more =
      let released_in : List Scene → List (Release (List Slug) SetFault) = λ scenes. flat_map (λ (x : Scene). x.releases) scenes in
      let many : 0 + length (sent_in s.scenes) ≡ length v.sent.items = omega (arith, ap (λ (l : List Datagram). length l) s.are_of.sent) in
      let text : scenes_text 0 (s.scenes ++ scene ∷ []) ≡ scenes_text 0 s.scenes ++ scene_text (length v.sent.items) scene =
      scenes_more 0 s.scenes scene ∙ ap (λ (n : ℕ). scenes_text 0 s.scenes ++ scene_text n scene) many in
      record {
        reached = reached;
        agreed = agreed;
        scenes = s.scenes ++ scene ∷ [];
        are_of = record {
          sent =
              flat_map-append (λ (x : Scene). x.sent) s.scenes (scene ∷ []) ∙ ap (λ (l : List Datagram). sent_in s.scenes ++ l) (append-nil scene.sent)
              ∙ ap (λ (l : List Datagram). l ++ scene.sent) s.are_of.sent ∙ sent;
          releases =
              flat_map-append (λ (x : Scene). x.releases) s.scenes (scene ∷ []) ∙ ap (λ (l : List (Release (List Slug) SetFault)). released_in s.scenes ++ l) (append-nil scene.releases)
              ∙ ap (λ (l : List (Release (List Slug) SetFault)). l ++ scene.releases) s.are_of.releases ∙ releases;
        };
        number = s.number;
        members = s.members;
        version = s.version;
        set_up = s.set_up;
        played = played;
        written = subst Q (sym text) (more (scenes_text 0 s.scenes) s.written);
      }

  -- a step was taken, and so much of what it shows was written
  pub shown_step : (P Q : List ℕ → Type 0) (v w : World MemoryOf) (step : Step) (seen : Seen) (before : ℕ) (sent : List Datagram) (releases : List (Release (List Slug) SetFault))
      → Shows by v P → MovesOn v w step (Ok seen) → actor v.sent.items step ≡ Some seen.member
      → (IsReached ghosts v → IsReached ghosts w) → (IsReached ghosts w → AllHonest ghosts.honest w → Agreed ghosts w)
      → before ≡ length v.sent.items → v.sent.items ++ sent ≡ w.sent.items → v.releases.items ++ releases ≡ w.releases.items
      → ((text : List ℕ) → P text → Q (text ++ scene_text before (record { member = seen.member; outcome = seen.outcome; sent = sent; releases = releases }))) → Shows by w Q
  shown_step P Q v w step seen before sent releases s moves acts reached agreed first all_sent all_released more =
      let scene : Scene = record { member = seen.member; outcome = seen.outcome; sent = sent; releases = releases } in
      let here : IsReached ghosts w = reached s.reached in
      shown_more P Q v w scene s here (agreed here (λ m t is. tt))
      (λ z of.
      let p = s.played z of in
      let m = moves (λ m t is. tt) z p.0 p.1 in
      let acts_there : actor (p.0).sent step ≡ Some seen.member = ap (λ (l : List Datagram). actor l step) (p.1).sent ∙ acts in
      (m.0, m.1, takes_more z (fresh (λ m. s.version)) p.0 m.0 s.scenes scene step p.2 acts_there (m.2, ends_more seen.outcome _ (Unit {0}) (λ own. tt) m.2 m.3, m.4)))
      all_sent all_released
      (λ text h. subst (λ (n : ℕ). Q (text ++ scene_text n scene)) first (more text h))

  -- no step was taken
  pub shown_still : (P : List ℕ → Type 0) (v w : World MemoryOf) (step : Step) (refusal : WorldRefusal) → Shows by v P → MovesOn v w step (Err refusal)
      → (IsReached ghosts v → IsReached ghosts w) → (IsReached ghosts w → AllHonest ghosts.honest w → Agreed ghosts w)
      → w.sent.items ≡ v.sent.items → w.releases.items ≡ v.releases.items → Shows by w P
  shown_still P v w step refusal s moves reached agreed sent releases = record {
    reached = reached s.reached;
    agreed = agreed (reached s.reached) (λ m t is. tt);
    scenes = s.scenes;
    are_of = record { sent = s.are_of.sent ∙ sym sent; releases = s.are_of.releases ∙ sym releases };
    number = s.number;
    members = s.members;
    version = s.version;
    set_up = s.set_up;
    played = λ z of.
        let p = s.played z of in
        (p.0, moves (λ m t is. tt) z p.0 p.1, p.2);
    written = s.written;
  }

  -- all of a text is a front of it
  pub front_shown : (start now : Option (List ℕ)) (v : World MemoryOf) → Stands by start now v → StandsFront by start now v
  front_shown start now v s = shown_as (Appends start now) (AppendsFront start now) v (λ text h. front_of_all start now text h) s

  pub front_rehearsed : (start now : Option (List ℕ)) → Rehearses by (Appends start now) → Rehearses by (AppendsFront start now)
  front_rehearsed start now r = rehearsed_as (Appends start now) (AppendsFront start now) (λ text h. front_of_all start now text h) r

  -- what stands on a stage that is no more new is on it
  pub played_on : (start now : Option (List ℕ)) (stage : Rehearsal) → stage.is_new ≡ false → Stands by start now stage.world → IsOn by start now stage
  played_on start now stage played s = (s, λ new. absurd (true≢false (sym new ∙ played)))

  -- what stands on the stage, and nothing where there is none, was rehearsed
  pub staged_rehearsed : (start now : Option (List ℕ)) (stage : Option Rehearsal) → IsStaged by start now stage → Rehearses by (Appends start now)
  staged_rehearsed start now None h = inl h
  staged_rehearsed start now (Some stage) h = inr (stage.world, h.0)

  -- a flush leaves what was written
  pub kept_rehearsed : (start now later : Option (List ℕ)) → Keeps now later → Rehearses by (Appends start now) → Rehearses by (Appends start later)
  kept_rehearsed start now later keeps r = rehearsed_as (Appends start now) (Appends start later) (λ text h. Appends-kept start now later text h keeps) r

  pub kept_front_rehearsed : (start now later : Option (List ℕ)) → Keeps now later → Rehearses by (AppendsFront start now) → Rehearses by (AppendsFront start later)
  kept_front_rehearsed start now later keeps r = rehearsed_as (AppendsFront start now) (AppendsFront start later) (λ text h. (h.0, Appends-kept start now later _ h.1 keeps)) r
