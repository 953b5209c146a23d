-- Stories, one behind the other, and what may happen in them.
use Rattle.std.proofs.Common.{◌≡◌, ◌++◌, ◌∙◌, ℕ, List, [], ◌∷◌, true, Option, Some, None, Ok, inl, inr, refl, sym, ap, subst, map}
use Rattle.std.specs.Prelude.{flat_map}
use Rattle.std.proofs.lemmas.List.Elements.{All-weaker}
use Rattle.protocol.specs.Lists.{IsAmong}
use Rattle.protocol.specs.Refusals.{Call}
use Rattle.station.specs.declared.answer.Answer.{Answer}
use Rattle.station.specs.declared.answer.Release.{Release}
use Rattle.folders.specs.Doings.{Doing, saw_file, read_file, wrote_file, noted_gone, noted_before, moved_file, removed_file, writing}
use Rattle.folders.specs.Written.{File}
use Rattle.folders.specs.declared.leaving.Place.TheVariants as places
use Rattle.folders.specs.declared.names.OfferKind.{OfferKind}
use Rattle.folders.specs.declared.names.OfferKind.TheVariants as kinds
use Rattle.folders.specs.declared.names.FileRequest.{FileRequest}
use Rattle.folders.specs.declared.wishes.Wish.{Wish}
use Rattle.offers.specs.Stages.{wish_of}
use Rattle.offers.specs.declared.offer.Offer.{Offer}
use Rattle.run_command.specs.ReleaseFiles.{files_of, filing, release_files}
use Rattle.run_command.specs.Standing.{Texts, LayThere}
use Rattle.driver.specs.Events.{Event, took}
use Rattle.run_command.specs.Minding.{WasRead, IsRead, IsReadOffer, WereRead, onto, HasRelease, AreAllStored, IsOfRelease, IsLook, IsSettling, AreLooks, AreSettlings}
use Rattle.run_command.specs.Lives.{among_behind, counted_happened, file_to, files_part}
use Rattle.run_command.specs.Story.{Happened, did, events_of, doings_of, files_of_story, stored_of, AreAllOut, IsOut, IsReleasedIn, MayBeDone, IsInOrder}
use Rattle.run_command.specs.Working.{Releases}

-- lists

pub among_onto : {A : Type 0} (xs past : List A) (x : A) → IsAmong past x → IsAmong (onto xs past) x
among_onto [] past x i = i
among_onto (y ∷ xs) past x i = among_onto xs (y ∷ past) x (inr i)

pub among_here : {A : Type 0} (xs past : List A) (x : A) → IsAmong xs x → IsAmong (onto xs past) x
among_here [] past x i = absurd i
among_here (y ∷ xs) past x (inl e) = among_onto xs (y ∷ past) x (inl e)
among_here (y ∷ xs) past x (inr i) = among_here xs (y ∷ past) x i

-- what was done leaves the events as they were, and stands in front of what was done before

pub events_did : (ds : List Doing) (past : List Happened) → events_of (onto (map did ds) past) ≡ events_of past
events_did [] past = refl
events_did (d ∷ ds) past = events_did ds (did d ∷ past)

pub doings_did : (ds : List Doing) (past : List Happened) → doings_of (onto (map did ds) past) ≡ onto ds (doings_of past)
doings_did [] past = refl
doings_did (d ∷ ds) past = doings_did ds (did d ∷ past)

pub files_did : (ds : List Doing) (past : List Happened) (f : File) → IsAmong (files_of_story past) f → IsAmong (files_of_story (onto (map did ds) past)) f
files_did [] past f i = i
files_did (d ∷ ds) past f i = files_did ds (did d ∷ past) f (among_behind (writing d) (files_of_story past) f i)

pub files_wrote : (fs : List File) (past : List Happened) (f : File) → IsAmong fs f → IsAmong (files_of_story (onto (map did (map wrote_file fs)) past)) f
files_wrote [] past f i = absurd i
files_wrote (g ∷ fs) past f (inl e) = files_did (map wrote_file fs) (did (wrote_file g) ∷ past) f (inl e)
files_wrote (g ∷ fs) past f (inr i) = files_wrote fs (did (wrote_file g) ∷ past) f i

-- a story of doings has these doings, these files and no events

pub events_none : (ds : List Doing) → events_of (map did ds) ≡ []
events_none [] = refl
events_none (d ∷ ds) = events_none ds

pub doings_all : (ds : List Doing) → doings_of (map did ds) ≡ ds
doings_all [] = refl
doings_all (d ∷ ds) = ap (λ (l : List Doing). d ∷ l) (doings_all ds)

pub files_all : (ds : List Doing) → files_of_story (map did ds) ≡ flat_map writing ds
files_all [] = refl
files_all (d ∷ ds) = ap (λ (l : List File). writing d ++ l) (files_all ds)

pub files_written : (fs : List File) → files_of_story (map did (map wrote_file fs)) ≡ fs
files_written [] = refl
files_written (f ∷ fs) = ap (λ (l : List File). f ∷ l) (files_written fs)

-- what was read and what was released stays so

lay_more : (ds shown : List Doing) (kind : OfferKind) (name bytes : List ℕ) → LayThere shown kind name bytes → LayThere (onto ds shown) kind name bytes
lay_more ds shown kinds.Tape name bytes i = among_onto ds shown (read_file (record { name = name; bytes = bytes })) i
lay_more ds shown kinds.Text name bytes i = among_onto ds shown (read_file (record { name = name; bytes = bytes })) i
lay_more ds shown kinds.Withdraw name bytes i = among_onto ds shown (saw_file name) i
lay_more ds shown kinds.Seek name bytes i = among_onto ds shown (saw_file name) i

-- so does what was read now
lay_here : (ds shown : List Doing) (kind : OfferKind) (name bytes : List ℕ) → LayThere ds kind name bytes → LayThere (onto ds shown) kind name bytes
lay_here ds shown kinds.Tape name bytes i = among_here ds shown (read_file (record { name = name; bytes = bytes })) i
lay_here ds shown kinds.Text name bytes i = among_here ds shown (read_file (record { name = name; bytes = bytes })) i
lay_here ds shown kinds.Withdraw name bytes i = among_here ds shown (saw_file name) i
lay_here ds shown kinds.Seek name bytes i = among_here ds shown (saw_file name) i

module _ (t : Texts) where
  pub read_here : (ds shown : List Doing) (r : FileRequest) (wish : Wish) → WasRead t ds r wish → WasRead t (onto ds shown) r wish
  read_here ds shown r wish w = record { bytes = w.bytes; lay_there = lay_here ds shown r.kind _ w.bytes w.lay_there; stands = w.stands }

  read_more : (ds shown : List Doing) (r : FileRequest) (wish : Option Wish) → IsRead t shown r wish → IsRead t (onto ds shown) r wish
  read_more ds shown r None w = tt
  read_more ds shown r (Some wish) w =
      record { bytes = w.bytes; lay_there = lay_more ds shown r.kind _ w.bytes w.lay_there; stands = w.stands }

  pub taken_more : (ds shown : List Doing) (files : List Offer) → WereRead t shown files → WereRead t (onto ds shown) files
  taken_more ds shown files all =
      All-weaker (IsReadOffer t shown) (IsReadOffer t (onto ds shown)) (λ o r. read_more ds shown o.request (wish_of o.stage) r) files all

-- what is released now
pub releases_here : (call : Call) (answer : Answer) (log : List Event) (o : Option Release) → answer.release ≡ o → Releases o (took call (Ok answer) ∷ log)
releases_here call answer log None e = tt
releases_here call answer log (Some r) e = record { call = call; answer = answer; among = inl refl; releases = e }

-- the files of a release are among those of what happened
of_release : (log : List Event) (r : Release) (f : File) → IsReleasedIn log r → IsAmong (release_files r) f → IsAmong (flat_map filing log) f
of_release log r f it i =
    file_to log (took it.call (Ok it.answer)) f it.among (subst (λ (o : Option Release). IsAmong (files_of o) f) (sym it.releases) i)

-- what happens is in order

may_look : (past : List Happened) (d : Doing) → IsLook d → MayBeDone past d
may_look past (saw_file name) p = tt
may_look past (read_file file) p = tt
may_look past (wrote_file file) p = absurd p
may_look past (noted_gone numbers) p = absurd p
may_look past (noted_before numbers) p = absurd p
may_look past (moved_file name places.Sent) p = absurd p
may_look past (moved_file name places.Lost) p = absurd p
may_look past (moved_file name places.Refused) p = tt
may_look past (moved_file name places.Done) p = absurd p
may_look past (removed_file name) p = p

module _ (t : Texts) where
  pub in_order_looks : (ds : List Doing) (past : List Happened) → AreLooks ds → IsInOrder t past (map did ds)
  in_order_looks [] past p = tt
  in_order_looks (d ∷ ds) past p = (may_look past d p.0, in_order_looks ds (did d ∷ past) p.1)

  pub in_order_wrote :
      (fs : List File) (past : List Happened) → ((f : File) → IsAmong fs f → IsAmong (flat_map filing (stored_of (events_of past))) f)
      → IsInOrder t past (map did (map wrote_file fs))
  in_order_wrote [] past of = tt
  in_order_wrote (f ∷ fs) past of = (of f (inl refl), in_order_wrote fs (did (wrote_file f) ∷ past) (λ h i. of h (inr i)))

-- all files of what was released are written
abbrev pub AllWritten : List Happened → Type 0
AllWritten past = (f : File) → IsAmong (flat_map filing (events_of past)) f → IsAmong (files_of_story past) f

-- of what was released in steps of which the saves are stored too
stored_written : (past : List Happened) (r : Release) → AllWritten past → IsReleasedIn (stored_of (events_of past)) r
    → (f : File) → IsAmong (release_files r) f → IsAmong (files_of_story past) f
stored_written past r all it f i =
    all f (files_part (stored_of (events_of past)) (events_of past) (counted_happened true (events_of past)) f (of_release (stored_of (events_of past)) r f it i))

-- a number whose release is stored and written is out
pub out_of : (past : List Happened) (n : ℕ) → AllWritten past → HasRelease (stored_of (events_of past)) n → IsOut past n
out_of past n all h = record { release = h.release; number = h.number; released = h.released; written = stored_written past h.release all h.released }

-- if all that was released is stored and written, all is out
all_out : (past : List Happened) → AllWritten past → AreAllStored (events_of past) → AreAllOut past
all_out past all saved r it = out_of past r.number all (record { release = r; released = saved r it; number = refl })

may_settle : (past : List Happened) (d : Doing) → AllWritten past → AreAllStored (events_of past) → IsSettling (IsOfRelease (stored_of (events_of past))) d → MayBeDone past d
may_settle past (saw_file name) all saved p = tt
may_settle past (read_file file) all saved p = tt
may_settle past (wrote_file file) all saved p = absurd p
may_settle past (noted_gone numbers) all saved p = absurd p
may_settle past (noted_before numbers) all saved p = absurd p
may_settle past (moved_file name places.Sent) all saved p = record {
  release = p.release;
  kind = p.kind;
  named = p.named;
  released = p.released;
  written = stored_written past p.release all p.released;
}
may_settle past (moved_file name places.Lost) all saved p = record {
  release = p.release;
  kind = p.kind;
  named = p.named;
  released = p.released;
  written = stored_written past p.release all p.released;
}
may_settle past (moved_file name places.Refused) all saved p = tt
may_settle past (moved_file name places.Done) all saved p = all_out past all saved
may_settle past (removed_file name) all saved p = p

module _ (t : Texts) where
  pub in_order_settled :
      (ds : List Doing) (past : List Happened) → AllWritten past → AreAllStored (events_of past) → AreSettlings (IsOfRelease (stored_of (events_of past))) ds
      → IsInOrder t past (map did ds)
  in_order_settled [] past all saved p = tt
  in_order_settled (d ∷ ds) past all saved p =
      (may_settle past d all saved p.0, in_order_settled ds (did d ∷ past) (λ f i. among_behind (writing d) (files_of_story past) f (all f i)) saved p.1)

-- doings, one after the other

pub settlings_then : (P : List ℕ → Type 0) (ds es : List Doing) → AreSettlings P ds → AreSettlings P es → AreSettlings P (ds ++ es)
settlings_then P [] es p q = q
settlings_then P (d ∷ ds) es p q = (p.0, settlings_then P ds es p.1 q)

silent_look : (d : Doing) → IsLook d → writing d ≡ []
silent_look (saw_file name) p = refl
silent_look (read_file file) p = refl
silent_look (wrote_file file) p = absurd p
silent_look (noted_gone numbers) p = refl
silent_look (noted_before numbers) p = absurd p
silent_look (moved_file name to) p = refl
silent_look (removed_file name) p = refl

-- a look writes nothing
pub silent_looks : (ds : List Doing) → AreLooks ds → flat_map writing ds ≡ []
silent_looks [] p = refl
silent_looks (d ∷ ds) p = ap (λ (l : List File). l ++ flat_map writing ds) (silent_look d p.0) ∙ silent_looks ds p.1

settling_look : (P : List ℕ → Type 0) (d : Doing) → IsLook d → IsSettling P d
settling_look P (saw_file name) p = tt
settling_look P (read_file file) p = tt
settling_look P (wrote_file file) p = absurd p
settling_look P (noted_gone numbers) p = absurd p
settling_look P (noted_before numbers) p = absurd p
settling_look P (moved_file name places.Sent) p = absurd p
settling_look P (moved_file name places.Lost) p = absurd p
settling_look P (moved_file name places.Refused) p = tt
settling_look P (moved_file name places.Done) p = absurd p
settling_look P (removed_file name) p = p

-- a look settles nothing
pub settlings_look : (P : List ℕ → Type 0) (ds : List Doing) → AreLooks ds → AreSettlings P ds
settlings_look P [] p = tt
settlings_look P (d ∷ ds) p = (settling_look P d p.0, settlings_look P ds p.1)

settling_weaker : (P Q : List ℕ → Type 0) (d : Doing) → ((name : List ℕ) → P name → Q name) → IsSettling P d → IsSettling Q d
settling_weaker P Q (saw_file name) w p = tt
settling_weaker P Q (read_file file) w p = tt
settling_weaker P Q (wrote_file file) w p = absurd p
settling_weaker P Q (noted_gone numbers) w p = absurd p
settling_weaker P Q (noted_before numbers) w p = absurd p
settling_weaker P Q (moved_file name places.Sent) w p = w name p
settling_weaker P Q (moved_file name places.Lost) w p = w name p
settling_weaker P Q (moved_file name places.Refused) w p = tt
settling_weaker P Q (moved_file name places.Done) w p = tt
settling_weaker P Q (removed_file name) w p = p

pub settlings_weaker : (P Q : List ℕ → Type 0) (ds : List Doing) → ((name : List ℕ) → P name → Q name) → AreSettlings P ds → AreSettlings Q ds
settlings_weaker P Q [] w p = tt
settlings_weaker P Q (d ∷ ds) w p = (settling_weaker P Q d w p.0, settlings_weaker P Q ds w p.1)

silent_settling : (P : List ℕ → Type 0) (d : Doing) → IsSettling P d → writing d ≡ []
silent_settling P (saw_file name) p = refl
silent_settling P (read_file file) p = refl
silent_settling P (wrote_file file) p = absurd p
silent_settling P (noted_gone numbers) p = refl
silent_settling P (noted_before numbers) p = absurd p
silent_settling P (moved_file name to) p = refl
silent_settling P (removed_file name) p = refl

-- nor does what is done where numbers are settled
pub silent_settlings : (P : List ℕ → Type 0) (ds : List Doing) → AreSettlings P ds → flat_map writing ds ≡ []
silent_settlings P [] p = refl
silent_settlings P (d ∷ ds) p = ap (λ (l : List File). l ++ flat_map writing ds) (silent_settling P d p.0) ∙ silent_settlings P ds p.1
