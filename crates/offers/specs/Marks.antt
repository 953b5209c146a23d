-- What is marked of each file, so that what comes next is found without a walk over all.
use Rattle.std.specs.Prelude.{◌≡◌, ◌≢◌, ◌<◌, ◌≤◌, ℕ, List, Bool, true, false, not, ◌&&◌, Option, Some, None, length, slice_index_or, slice_set, if◌then◌else◌}
use Rattle.tape_frames.specs.declared.entry.Entry.{Entry}
use Rattle.offers.specs.declared.known.RuleFacts.{RuleFacts}
use Rattle.offers.specs.declared.marks.FileMark.{FileMark}
use Rattle.offers.specs.declared.marks.Marks.{Marks}
use Rattle.offers.specs.declared.offer.Offer.{Offer}
use Rattle.offers.specs.Moments.{moment_at, AreNone, NoneFrom}
use Rattle.offers.specs.Order.{rank, is_search, Rises}
use Rattle.offers.specs.Rules.{Standing, entry_in, is_under_way, is_leaving, has_other, ask_moment, only_of}

-- what holds is marked by a moment, and what does not by none
abbrev pub flag : Bool → Option ℕ
flag holds = if holds then Some 0 else None

-- whether it leaves the offers now
abbrev pub move_mark : List (ℕ × Entry) → ℕ → ℕ → Offer → Option ℕ
move_mark released still looked o = flag (is_leaving (entry_in released o.request.number) still looked o)

-- one of the searches, or of the others
abbrev pub is_among : Bool → Bool → Bool
is_among true search = search
is_among false search = not search

-- whether it is read or refused now, where it is one of the searches, or of the others
abbrev pub other_mark : Bool → List ℕ → ℕ → ℕ → Offer → Option ℕ
other_mark searches window still looked o = flag (is_among searches (is_search o.request.kind) && has_other (is_under_way o.request.number window) still looked o)

-- since when the station may be asked for it, where it is one of the searches, or of the others
abbrev pub ask_mark : Bool → List (ℕ × Entry) → List ℕ → ℕ → ℕ → Offer → Option ℕ
ask_mark searches released window still looked o = only_of searches (is_search o.request.kind) (ask_moment (entry_in released o.request.number) (is_under_way o.request.number window) still looked o)

-- each of the files is marked so, and behind the last nothing is
pub record AreMarks (mark : Offer → Option ℕ) (files : List Offer) (marks : List (Option ℕ)) : Type 0 where
  pub is : (i : ℕ) (d : Offer) → i < length files → moment_at marks i ≡ mark (slice_index_or files i d)
  pub past : (i : ℕ) → length files ≤ i → moment_at marks i ≡ None
  pub room : length files ≤ length marks

-- each of the files is marked as it is, by what is known
pub record MarksAll (known : RuleFacts) (files : List Offer) (m : Marks) : Type 0 where
  pub moves : AreMarks (move_mark known.released.entries known.still known.looked) files m.moves
  pub others : AreMarks (other_mark false known.window known.still known.looked) files m.others
  pub sought : AreMarks (other_mark true known.window known.still known.looked) files m.sought
  pub entries : AreMarks (ask_mark false known.released.entries known.window known.still known.looked) files m.entries
  pub searches : AreMarks (ask_mark true known.released.entries known.window known.still known.looked) files m.searches

-- each file of the book is marked as it is
pub record IsMarked (b : Standing) (m : Marks) : Type 0 where
  pub moves : AreMarks (move_mark b.released b.still b.looked) b.files m.moves
  pub others : AreMarks (other_mark false b.window b.still b.looked) b.files m.others
  pub sought : AreMarks (other_mark true b.window b.still b.looked) b.files m.sought
  pub entries : AreMarks (ask_mark false b.released b.window b.still b.looked) b.files m.entries
  pub searches : AreMarks (ask_mark true b.released b.window b.still b.looked) b.files m.searches

-- there is a mark for each of the files
pub record HasRoom (files : List Offer) (m : Marks) : Type 0 where
  pub moves : length files ≤ length m.moves
  pub others : length files ≤ length m.others
  pub sought : length files ≤ length m.sought
  pub entries : length files ≤ length m.entries
  pub searches : length files ≤ length m.searches

-- the files are in order, and there is a mark for each of them
pub record HaveMarks (files : List Offer) (m : Marks) : Type 0 where
  pub rises : Rises files
  pub room : HasRoom files m

-- there is a mark at an index
pub record IsMarkAt (m : Marks) (index : ℕ) : Type 0 where
  pub moves : index < length m.moves
  pub others : index < length m.others
  pub sought : index < length m.sought
  pub entries : index < length m.entries
  pub searches : index < length m.searches

-- there is a mark at an index, and nothing is marked from there on
pub record IsUnmarkedFrom (m : Marks) (index : ℕ) : Type 0 where
  pub within : IsMarkAt m index
  pub moves : NoneFrom m.moves index
  pub others : NoneFrom m.others index
  pub sought : NoneFrom m.sought index
  pub entries : NoneFrom m.entries index
  pub searches : NoneFrom m.searches index

-- nothing is marked
pub record NoMarks (m : Marks) : Type 0 where
  pub moves : AreNone m.moves
  pub others : AreNone m.others
  pub sought : AreNone m.sought
  pub entries : AreNone m.entries
  pub searches : AreNone m.searches

-- there is a mark for each of the files, and nothing is marked
pub record AreUnmarked (files : List Offer) (m : Marks) : Type 0 where
  pub room : HasRoom files m
  pub none : NoMarks m

-- the marks, once the file at an index is marked so
abbrev pub marked_at : Marks → ℕ → FileMark → Marks
marked_at m index mark =
    record {
      moves = slice_set m.moves index mark.moves;
      others = slice_set m.others index mark.others;
      sought = slice_set m.sought index mark.sought;
      entries = slice_set m.entries index mark.entries;
      searches = slice_set m.searches index mark.searches;
    }

-- the file of a place is marked anew, and the others stay as they were
pub record RemarksPlace (mark : Offer → Option ℕ) (files : List Offer) (place : ℕ) (old new : List (Option ℕ)) : Type 0 where
  pub here : (i : ℕ) (d : Offer) → i < length files → rank (slice_index_or files i d).request ≡ place → moment_at new i ≡ mark (slice_index_or files i d)
  pub there : (i : ℕ) (d : Offer) → i < length files → rank (slice_index_or files i d).request ≢ place → moment_at new i ≡ moment_at old i
  pub past : (i : ℕ) → length files ≤ i → moment_at new i ≡ moment_at old i
  pub room : length new ≡ length old

-- the same of the files of a number
pub record RemarksNumber (mark : Offer → Option ℕ) (files : List Offer) (n : ℕ) (old new : List (Option ℕ)) : Type 0 where
  pub here : (i : ℕ) (d : Offer) → i < length files → (slice_index_or files i d).request.number ≡ n → moment_at new i ≡ mark (slice_index_or files i d)
  pub there : (i : ℕ) (d : Offer) → i < length files → (slice_index_or files i d).request.number ≢ n → moment_at new i ≡ moment_at old i
  pub past : (i : ℕ) → length files ≤ i → moment_at new i ≡ moment_at old i
  pub room : length new ≡ length old

-- the file of a place is marked anew, by what is known, and the others stay as they were
pub record RemarksFile (known : RuleFacts) (files : List Offer) (place : ℕ) (old new : Marks) : Type 0 where
  pub moves : RemarksPlace (move_mark known.released.entries known.still known.looked) files place old.moves new.moves
  pub others : RemarksPlace (other_mark false known.window known.still known.looked) files place old.others new.others
  pub sought : RemarksPlace (other_mark true known.window known.still known.looked) files place old.sought new.sought
  pub entries : RemarksPlace (ask_mark false known.released.entries known.window known.still known.looked) files place old.entries new.entries
  pub searches : RemarksPlace (ask_mark true known.released.entries known.window known.still known.looked) files place old.searches new.searches

-- the files of a number are marked anew, by what is known, and the others stay as they were
pub record RemarksFiles (known : RuleFacts) (files : List Offer) (n : ℕ) (old new : Marks) : Type 0 where
  pub moves : RemarksNumber (move_mark known.released.entries known.still known.looked) files n old.moves new.moves
  pub others : RemarksNumber (other_mark false known.window known.still known.looked) files n old.others new.others
  pub sought : RemarksNumber (other_mark true known.window known.still known.looked) files n old.sought new.sought
  pub entries : RemarksNumber (ask_mark false known.released.entries known.window known.still known.looked) files n old.entries new.entries
  pub searches : RemarksNumber (ask_mark true known.released.entries known.window known.still known.looked) files n old.searches new.searches
