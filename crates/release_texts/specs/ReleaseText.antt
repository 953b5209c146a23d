-- The text of a release.
use Rattle.std.specs.Prelude.{ℕ, List, ◌++◌, Result, Ok, Err, codes, decimal}
use Rattle.std.specs.Borrow.{Bor}
use Rattle.protocol.specs.Entries.{Entry, Void, Taped}
use Rattle.line_check.specs.Galley.{galley_of}
use Rattle.line_check.specs.declared.fault.SetFault.{SetFault}
use Rattle.line_check.specs.declared.slug.Slug.{Slug}
use Rattle.tape_frames.specs.Entries.{lent_entry}
use Rattle.refusals.specs.CauseWords.{cause_text}
use Rattle.release_texts.specs.EntryText.{entry_text}
use Rattle.release_texts.specs.declared.releases.PrintedRelease.{PrintedRelease}

-- what setting a tape gave, its slugs as a list
abbrev pub lent : {E : Type 0} → Result (Bor (List Slug)) E → Result (List Slug) E
lent (Ok slugs) = Ok slugs.now
lent (Err fault) = Err fault

-- a number and the text of its entry, as a line behind a lead
abbrev pub plain_line : List ℕ → ℕ → List ℕ → List ℕ
plain_line lead n text = lead ++ (codes "release " ++ (decimal n ++ (codes " " ++ (text ++ codes "\n"))))

-- the same of a tape that does not set, with the cause
abbrev pub faulty_line : List ℕ → ℕ → List ℕ → SetFault → List ℕ
faulty_line lead n text fault =
    lead ++ (codes "release " ++ (decimal n ++ (codes " " ++ (text ++ (codes " faulty " ++ (cause_text fault ++ codes "\n"))))))

-- the release of a tape of this text behind a lead: its line, and its galley where it sets
abbrev pub tape_release : List ℕ → ℕ → List ℕ → Result (List Slug) SetFault → List ℕ
tape_release lead n text (Ok slugs) = plain_line lead n text ++ galley_of slugs
tape_release lead n text (Err fault) = faulty_line lead n text fault

-- a release behind a lead: of a tape with what setting it gave, of a withdrawal its line alone
abbrev pub release_text : List ℕ → ℕ → Entry → Result (List Slug) SetFault → List ℕ
release_text lead n Void set = plain_line lead n (entry_text Void)
release_text lead n (Taped tape) set = tape_release lead n (entry_text (Taped tape)) set

-- the text of a release that is to be printed
abbrev pub printed_text : PrintedRelease → List ℕ
printed_text r = release_text r.lead.now r.number (lent_entry r.entry) (lent r.set)
