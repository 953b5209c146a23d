-- The lines of the log.
use Rattle.std.specs.Prelude.{ℕ, List, ◌++◌, codes, decimal}
use Rattle.folders.specs.FaultWords.{fault_word}
use Rattle.folders.specs.declared.fault.FolderFault.{FolderFault}
use Rattle.catch_up_log.specs.declared.asking.Caught.{Caught}
use Rattle.catch_up_log.specs.declared.done.Answered.{Answered}
use Rattle.catch_up_log.specs.declared.unheards.Spoken.{Spoken}
use Rattle.catch_up_log.specs.declared.unheards.Spoken.TheVariants as spoken
use Rattle.catch_up_log.specs.declared.line.CatchUpLine.{CatchUpLine}
use Rattle.catch_up_log.specs.declared.line.CatchUpLine.TheVariants as lines

-- what a member says beside its packets
abbrev pub spoken_word : Spoken → List ℕ
spoken_word spoken.Recall = codes "recall"
spoken_word spoken.Roll = codes "roll"

-- so many of these were passed over since the last that was told, this one for this cause
abbrev pub unheard_text : Spoken → List ℕ → ℕ → List ℕ
unheard_text spoken cause count =
    spoken_word spoken ++ (codes ": refused " ++ (cause ++ (codes ", " ++ (decimal count ++ codes " since the last"))))

-- so many numbers may be missing, and these
abbrev pub missing_text : ℕ → List ℕ → List ℕ
missing_text count names = decimal count ++ (codes " may be missing from before: " ++ names)

-- this number was found missing, and is asked for
abbrev pub missed_text : ℕ → List ℕ
missed_text number = decimal number ++ codes " missed, asked for"

-- these were
abbrev pub missed_ranges_text : List ℕ → List ℕ
missed_ranges_text names = names ++ codes " missed, asked for"

-- nothing is left to ask for, and this became of what was
abbrev pub caught_up_text : Caught → List ℕ
caught_up_text wave = codes "caught up: " ++ (decimal wave.released ++ (codes " released, " ++ (decimal wave.nothing ++ codes " nothing")))

-- so many members were asked, and so many told
abbrev pub few_text : ℕ → ℕ → List ℕ
few_text asked told = codes "asked " ++ (decimal asked ++ (codes ", told by " ++ decimal told))

-- the numbers of a file are answered, and so
abbrev pub answered_text : List ℕ → Answered → List ℕ
answered_text name counts =
    codes "done "
    ++ (name ++ (codes ": " ++ (decimal counts.tapes ++ (codes " tapes, " ++ (decimal counts.voids ++ (codes " void, " ++ (decimal counts.nothing ++ codes " nothing")))))))

-- it can't be read what went out here
abbrev pub unread_text : FolderFault → List ℕ
unread_text fault =
    codes "folders: cannot read .released: " ++ (fault_word fault ++ codes "; what is missing here is not asked for until it can be read")

-- a line, without its end
abbrev pub line_text : CatchUpLine → List ℕ
line_text (lines.Unheard spoken cause count) = unheard_text spoken cause.now count
line_text (lines.Missing count names) = missing_text count names.now
line_text (lines.Missed number) = missed_text number
line_text (lines.MissedRanges names) = missed_ranges_text names.now
line_text (lines.CaughtUp wave) = caught_up_text wave
line_text (lines.Few asked told) = few_text asked told
line_text (lines.Answered name counts) = answered_text name.now counts
line_text (lines.Unread fault) = unread_text fault
