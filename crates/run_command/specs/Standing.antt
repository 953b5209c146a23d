-- What a file among the offers stands for.
use Rattle.std.specs.Prelude.{◌≡◌, List, [], ℕ, Option, Some, None}
use Rattle.protocol.specs.Entries.{Entry, Void, Taped}
use Rattle.protocol.specs.Lists.{IsAmong}
use Rattle.code_table.specs.Tables.{Places, mean}
use Rattle.tape_frames.specs.Entries.{owned_entry}
use Rattle.text_tape.specs.Punching.{IsPunched}
use Rattle.folders.specs.Doings.{Doing, saw_file, read_file}
use Rattle.folders.specs.Offers.{IsNameOf}
use Rattle.folders.specs.declared.names.OfferKind.{OfferKind}
use Rattle.folders.specs.declared.names.OfferKind.TheVariants as kinds
use Rattle.folders.specs.declared.wishes.Wish.{Wish}
use Rattle.folders.specs.declared.wishes.Wish.TheVariants.{Offered, Sought}

-- the code table by which texts become tapes, where texts may be offered
abbrev pub Texts : Type 0
Texts = Option Places

-- a text becomes this tape: by the table it is punched as it, and no letters are taken as one matrix
abbrev pub IsTapeOfText : Texts → List ℕ → List ℕ → Type 0
IsTapeOfText None text tape = ⊥
IsTapeOfText (Some table) text tape = IsPunched [] (mean table) text tape

-- a text stands for the tape that it becomes
pub record IsOfText (texts : Texts) (text : List ℕ) (entry : Option Entry) : Type 0 where
  pub tape : List ℕ
  pub becomes : IsTapeOfText texts text tape
  pub entry_is : entry ≡ Some (Taped tape)

-- a file of this kind that holds this stands for this entry: its frames, the tape of its text, or the withdrawal; a search stands for none
abbrev pub StandsFor : Texts → OfferKind → List ℕ → Option Entry → Type 0
StandsFor texts kinds.Tape bytes entry = entry ≡ Some (Taped bytes)
StandsFor texts kinds.Text bytes entry = IsOfText texts bytes entry
StandsFor texts kinds.Withdraw bytes entry = entry ≡ Some Void
StandsFor texts kinds.Seek bytes entry = entry ≡ None

-- the entry that a wish offers, if it does
abbrev pub wished : Wish → Option Entry
wished (Offered entry) = Some (owned_entry entry)
wished Sought = None

-- a file of this kind and name lay among the offers: a tape or a text with these bytes was read, any other was found
abbrev pub LayThere : List Doing → OfferKind → List ℕ → List ℕ → Type 0
LayThere doings kinds.Tape name bytes = IsAmong doings (read_file (record { name = name; bytes = bytes }))
LayThere doings kinds.Text name bytes = IsAmong doings (read_file (record { name = name; bytes = bytes }))
LayThere doings kinds.Withdraw name bytes = IsAmong doings (saw_file name)
LayThere doings kinds.Seek name bytes = IsAmong doings (saw_file name)

-- a file of this number lay among the offers and stands for this entry, a text by this table
pub record WasLaid (texts : Texts) (doings : List Doing) (n : ℕ) (entry : Entry) : Type 0 where
  pub kind : OfferKind
  pub name : List ℕ
  pub bytes : List ℕ
  pub named : IsNameOf name n kind
  pub lay_there : LayThere doings kind name bytes
  pub stands : StandsFor texts kind bytes (Some entry)
