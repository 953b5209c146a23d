-- What comes of asking a station for a file.
use Rattle.std.specs.Prelude.{◌≡◌, ℕ, Option, None, Result, Ok, Err}
use Rattle.protocol.specs.Ballots.{Ballot}
use Rattle.protocol.specs.Refusals.{Call as StationCall}
use Rattle.rows_saved.specs.declared.rows.Rows.{Ghosts}
use Rattle.station.specs.declared.answer.Answer.{Answer}
use Rattle.refusals.specs.declared.refusal.StepRefusal.{StepRefusal}
use Rattle.station.specs.declared.station.Station.{Station}
use Rattle.station.specs.Steps.{IsStep}
use Rattle.folders.specs.declared.names.OfferKind.{OfferKind}
use Rattle.folders.specs.declared.names.OfferKind.TheVariants as kinds
use Rattle.driver.specs.declared.calls.Call.{Call}
use Rattle.driver.specs.declared.run_loop.FileReply.{FileReply}
use Rattle.driver.specs.declared.run_loop.FileReply.TheVariants as replies
use Rattle.driver.specs.Calls.{call_of}

-- what came of it where the station was asked for an entry of so many bytes
abbrev pub reply_of : ℕ → Result Answer StepRefusal → FileReply
reply_of length (Ok answer) = replies.Done answer length
reply_of length (Err refusal) = replies.Refused refusal

-- the station was asked something that it may be asked at this moment, and this came of it; or it was not asked, and stays
abbrev pub IsAskedBy : {R : Type 0} → Ghosts R → (StationCall → Type 0) → ℕ → Station R → Station R → FileReply → Type 0
IsAskedBy g may now old new replies.Unknown = new ≡ old
IsAskedBy g may now old new (replies.Done answer length) = (call : Call) × may (call_of call now) × IsStep g (call_of call now) old new (Ok answer)
IsAskedBy g may now old new (replies.Refused refusal) = (call : Call) × may (call_of call now) × IsStep g (call_of call now) old new (Err refusal)

-- the ballot of what a file of this kind asks for, where votes are awaited of it: a search may find nothing, and then none come
abbrev pub awaited : OfferKind → Option Ballot → Option Ballot
awaited kinds.Seek ballot = None
awaited kind ballot = ballot
