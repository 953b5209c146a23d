-- The lines of the log.
use Rattle.std.specs.Prelude.{ℕ, List, ◌++◌, Option, Some, None, codes, decimal}
use Rattle.ballots.specs.Texts.{ballot_text}
use Rattle.text_tape.specs.FaultTexts.{error_text}
use Rattle.refusals.specs.declared.refusal.StepRefusal.{StepRefusal}
use Rattle.refusals.specs.RefusalWords.{refusal_text}
use Rattle.folders.specs.FaultWords.{fault_word}
use Rattle.folders.specs.declared.fault.FolderFault.{FolderFault}
use Rattle.folders.specs.declared.folders.News.{News}
use Rattle.folders.specs.declared.folders.News.TheVariants.{OtherOffers, OtherReleases, WrittenAnew}
use Rattle.offers.specs.declared.stage.OfferFault.{OfferFault}
use Rattle.offers.specs.declared.stage.OfferFault.TheVariants as reasons
use Rattle.plant_log.specs.declared.event.LogEvent.{LogEvent}
use Rattle.plant_log.specs.declared.event.LogEvent.TheVariants.{Began, GaveUp, Nothing, Released, Sent, Lost, Done, Replaced}
use Rattle.plant_log.specs.declared.line.LogLine.{LogLine}
use Rattle.plant_log.specs.declared.line.LogLine.TheVariants as lines

-- a number and what befell it, as `12 began 1.2`; of a search that was answered its file
abbrev pub event_text : LogEvent → List ℕ
event_text (Began n b) = decimal n ++ (codes " began " ++ ballot_text b)
event_text (GaveUp n b) = decimal n ++ (codes " gave-up " ++ ballot_text b)
event_text (Nothing n b) = decimal n ++ (codes " nothing " ++ ballot_text b)
event_text (Released n) = decimal n ++ codes " released"
event_text (Sent n) = decimal n ++ codes " sent"
event_text (Lost n) = decimal n ++ codes " lost"
event_text (Done n) = codes "done " ++ (decimal n ++ codes ".seek: nothing, ten times")
event_text (Replaced n) = decimal n ++ codes " replaced while it was under way"

-- why a file is no offer, whose name is shown so
abbrev pub refused_text : List ℕ → List ℕ → List ℕ
refused_text name why = codes "refused " ++ (name ++ (codes ": " ++ why))

-- a datagram whose sender has another configuration
abbrev pub differs_text : StepRefusal → List ℕ
differs_text refusal = codes "refused " ++ refusal_text refusal

-- the rows of a member are of layout 1, and those of this station of layout 2
abbrev pub older_text : ℕ → List ℕ
older_text member = codes "old-version from member " ++ (decimal member ++ codes ": its rows are of layout 1, these of layout 2")

-- what there is to tell of the folders
abbrev pub folders_text : List ℕ → List ℕ
folders_text what = codes "folders: " ++ what

-- a folder does not serve for this
abbrev pub folder_text : List ℕ → FolderFault → List ℕ
folder_text what fault = codes "folders: " ++ (what ++ (codes ": " ++ fault_word fault))

-- nor for this of a file, whose name is shown so
abbrev pub file_text : List ℕ → List ℕ → FolderFault → List ℕ
file_text what name fault = codes "folders: " ++ (what ++ (codes " " ++ (name ++ (codes ": " ++ fault_word fault))))

-- a line, without its end
abbrev pub line_text : LogLine → List ℕ
line_text (lines.Event event) = event_text event
line_text (lines.Refused name why) = refused_text name.now why.now
line_text (lines.Differs refusal) = differs_text refusal
line_text (lines.Older member) = older_text member
line_text (lines.Folders what) = folders_text what.now
line_text (lines.Folder what fault) = folder_text what.now fault
line_text (lines.File file) = file_text file.what.now file.name.now file.fault

-- what befell a folder
abbrev pub news_text : News → List ℕ
news_text OtherOffers = codes "offers is another folder now"
news_text OtherReleases = codes "releases is another folder now"
news_text WrittenAnew = codes "a release was written anew"

-- why a file is no offer: of bytes that are no tape it is left open here
abbrev pub reason_text : OfferFault → Option (List ℕ)
reason_text (reasons.Tape fault) = None
reason_text (reasons.Text fault) = Some (error_text fault)
reason_text reasons.LongText = Some (codes "input too long")
reason_text reasons.NoTexts = Some (codes "no number")
reason_text (reasons.Step refusal) = Some (refusal_text refusal)

-- what is told in place of a line for which there is no memory, with its end
abbrev pub no_memory : List ℕ
no_memory = codes "no memory for a line\n"
