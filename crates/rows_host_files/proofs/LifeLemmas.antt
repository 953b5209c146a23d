-- Two files from the moment that the host has opened them.
use Rattle.std.proofs.Common.{◌≡◌, ◌⊎◌, inl, inr, Bool, List, ℕ, [], ◌∷◌, cond, sym, subst, ◌∙◌}
use Rattle.sqlite_disk.specs.declared.Disk.{Ghosts}
use Rattle.sqlite_disk.specs.declared.Files.{Files}
use Rattle.sqlite_disk.specs.Disk.{Only}
use Rattle.sqlite_disk.specs.Events.{Event, replay, settled}
use Rattle.sqlite_disk.specs.History.{MayLeave}
use Rattle.sqlite.specs.Files.{image_of}
use Rattle.sqlite.specs.Recovery.{Image}
use Rattle.sqlite.specs.WalReads.{AreClean}
use Rattle.rows_life.specs.Keeping.{AreSynced, AreUnwritten, KeepAll, StandFor}

module _ {D : Type 0} (g : Ghosts D) where
  -- a look at the two leaves them as they are
  pub same_image : (a b : Files D) → AreUnwritten g a b → image_of g b ≡ image_of g a
  same_image a b s = λ i. record { log = s.log.seen i; db = s.db.seen i }

  pub still_synced : (a b : Files D) → AreUnwritten g a b → AreSynced g a → AreSynced g b
  still_synced a b s synced = record {
    log = λ x leaves. synced.log x (s.log.crash x leaves) ∙ sym s.log.seen;
    db = λ x leaves. synced.db x (s.db.crash x leaves) ∙ sym s.db.seen;
  }

  -- what is read of the two is what a crash may leave, so it stands for what they held
  pub stand_as_read : (a b : Files D) → g.may_leave b.log (g.seen b.log) → g.may_leave b.db (g.seen b.db) → KeepAll g a b → AreSynced g a → AreClean g b.log b.db
      → StandFor (image_of g a) (image_of g b)
  stand_as_read a b log db keeps synced clean = keeps synced clean (image_of g b) (log, db)

-- ---- a file of the host that was settled, and of which nothing has happened since

abbrev pub image : List ℕ → List ℕ → Image
image log db = record { log = log; db = db }

-- what is read of it
abbrev pub seen : List ℕ → List ℕ → Bool → List Event → List ℕ
seen log db is_log history = (replay (cond is_log log db) history).seen

-- the disk has what is read of it
abbrev pub IsSettled : Bool → List ℕ → List ℕ → Bool → List Event → Type 0
IsSettled mixes log db is_log history =
    Only (replay (cond is_log log db) history).seen
    (MayLeave mixes (replay (cond is_log log db) history).seen (replay (cond is_log log db) history).synced (replay (cond is_log log db) history).steps)

either : {A : Type 0} (x y : A) → (x ≡ y) ⊎ (x ≡ y) → x ≡ y
either x y (inl e) = e
either x y (inr e) = e

pub fresh_is_settled : (mixes : Bool) (log db : List ℕ) (is_log which : Bool) (history : List Event) (key : ℕ) → is_log ≡ which → history ≡ settled key ∷ [] → IsSettled mixes log db is_log history
fresh_is_settled mixes log db is_log which history key is same =
    subst (λ b. IsSettled mixes log db b history) (sym is) (subst (λ h. IsSettled mixes log db which h) (sym same) (λ c may. either c (cond which log db) may))
