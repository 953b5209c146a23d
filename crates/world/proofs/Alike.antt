-- A station refuses what its member in the circuit does: both read alike, and set alike as far as there is a fault.
use Rattle.std.proofs.Common.{◌≡◌, ℕ, refl, sym, ap, ◌∙◌, List, Option, Some, None, Bool, true, false}
use Rattle.std.specs.Prelude.{Result, Ok, Err, if◌then◌else◌}
use Rattle.protocol.specs.Lists.{or_else}
use Rattle.protocol.specs.Entries.{Entry, Void, Taped}
use Rattle.protocol.specs.Marks.{Mark}
use Rattle.protocol.specs.Proposals.{next_due}
use Rattle.protocol.specs.Refusals.{Setup, Call, Offering, Seeking, Falling_due, Receiving, Recalling, Refusal, Stopped, reading_refusal, number_refusal, wire_refusal, recall_refusal, call_refusal, early_refusal, setting_refusal, tape_refusal, refusal, due_event, arrival, event_of}
use Rattle.packets.specs.declared.fault.PacketFault.{PacketFault}
use Rattle.code_table.specs.Tables.{Places, mean}
use Rattle.widths.specs.Widths.{WidthFile}
use Rattle.slug_reader.specs.Meanings.{Meanings}
use Rattle.line_check.specs.declared.slug.Slug.{Slug}
use Rattle.line_check.specs.declared.fault.SetFault.{SetFault}
use Rattle.line_check.specs.Sets.{Sets, first_fault}
use Rattle.line_check.specs.Laws.{OneSetting}
use Rattle.station.specs.Readiness.{SetsEntry}
use Rattle.station.specs.Stations.{unless_faulty, sets_entry}

-- what a tape sets as is faulty where its first fault says so
faulty_alike :
    (means : Meanings) (widths : WidthFile) (tape : List ℕ) (r : Result (List Slug) SetFault) → Sets means widths tape r
    → setting_refusal {D = PacketFault} r ≡ setting_refusal {D = PacketFault} (unless_faulty (first_fault means widths tape))
faulty_alike means widths tape (Ok slugs) h = sym (ap (λ (o : Option SetFault). setting_refusal {D = PacketFault} (unless_faulty o)) h.0)
faulty_alike means widths tape (Err fault) h = sym (ap (λ (o : Option SetFault). setting_refusal {D = PacketFault} (unless_faulty o)) h)

-- what an entry sets as is faulty where the station says so; a withdrawal never is
pub entry_alike :
    (table : Places) (widths : WidthFile) (entry : Entry) (r : Result (List Slug) SetFault) → SetsEntry (mean table) widths entry r
    → setting_refusal {D = PacketFault} r ≡ setting_refusal {D = PacketFault} (sets_entry table widths entry)
entry_alike table widths Void r h = ap (λ (q : Result (List Slug) SetFault). setting_refusal {D = PacketFault} q) h
entry_alike table widths (Taped tape) r h = faulty_alike (mean table) widths tape r h

-- an entry sets in one way
pub one_entry_setting : OneSetting → (means : Meanings) (widths : WidthFile) (entry : Entry) (a b : Result (List Slug) SetFault) → SetsEntry means widths entry a → SetsEntry means widths entry b → a ≡ b
one_entry_setting one means widths Void a b p q = p ∙ sym q
one_entry_setting one means widths (Taped tape) a b p q = one means widths tape a b p q

module _ {D F G H : Type 0} (a : Setup D G F) (b : Setup D H F) (seat : a.seat ≡ b.seat)
    (reads : (bytes : List ℕ) → a.reads bytes ≡ b.reads bytes) (fits : (entry : Entry) → a.fits entry ≡ b.fits entry) (sets : (entry : Entry) → setting_refusal {D = D} (a.sets entry) ≡ setting_refusal {D = D} (b.sets entry)) where
  call_alike : (marks : List Mark) (call : Call) → call_refusal a marks call ≡ call_refusal b marks call
  call_alike marks (Offering n entry now) = ap (λ (f : Bool). or_else (number_refusal n marks) (wire_refusal f)) (fits entry)
  call_alike marks (Seeking n now) = refl
  call_alike marks (Falling_due now) = refl
  call_alike marks (Receiving bytes now) = λ i. reading_refusal (seat i) (reads bytes i)
  call_alike marks (Recalling n to) = λ i. recall_refusal (seat i).members n to

  pub early_alike : (stopped : Bool) (marks : List Mark) (call : Call) → early_refusal a stopped marks call ≡ early_refusal b stopped marks call
  early_alike stopped marks call = ap (λ (r : Option (Refusal D F)). if stopped then Some Stopped else r) (call_alike marks call)

  tape_alike : (call : Call) → tape_refusal a call ≡ tape_refusal b call
  tape_alike (Offering n entry now) = sets entry
  tape_alike (Seeking n now) = refl
  tape_alike (Falling_due now) = refl
  tape_alike (Receiving bytes now) = refl
  tape_alike (Recalling n to) = refl

  pub refusal_alike : (stopped : Bool) (marks : List Mark) (call : Call) → refusal a stopped marks call ≡ refusal b stopped marks call
  refusal_alike stopped marks call = λ i. or_else (early_alike stopped marks call i) (tape_alike call i)

  pub event_alike : (marks : List Mark) (call : Call) → event_of a marks call ≡ event_of b marks call
  event_alike marks (Offering n entry now) = refl
  event_alike marks (Seeking n now) = refl
  event_alike marks (Falling_due now) = λ i. due_event (next_due (seat i).me now marks) now
  event_alike marks (Receiving bytes now) = λ i. arrival (reads bytes i) now
  event_alike marks (Recalling n to) = refl

some_none : {A : Type 0} {a : A} → Some a ≡ None → ⊥
some_none e = cc

-- a station that refuses nothing has not stopped
pub unstopped : {D F G : Type 0} (a : Setup D G F) (stopped : Bool) (marks : List Mark) (call : Call) → refusal a stopped marks call ≡ None → stopped ≡ false
unstopped a false marks call e = refl
unstopped a true marks call e = absurd (some_none e)
