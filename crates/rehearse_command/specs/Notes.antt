-- The words for what a station did in a step.
use Rattle.std.specs.Prelude.{ℕ, List, ◌++◌, Option, Some, None, codes}
use Rattle.protocol.specs.Ballots.{Ballot}
use Rattle.ballots.specs.Texts.{ballot_text}
use Rattle.node_core.specs.declared.turn.Note.{Note}
use Rattle.node_core.specs.declared.turn.Note.TheVariants as notes

-- the word of a note
abbrev pub note_word : Note → List ℕ
note_word (notes.Began b) = codes "began"
note_word (notes.Nothing b) = codes "nothing"
note_word (notes.Proposed b) = codes "proposed"
note_word notes.Idle = codes "idle"
note_word (notes.GaveUp b) = codes "gave-up"
note_word (notes.Promised b) = codes "promised"
note_word notes.Silent = codes "silent"
note_word (notes.Nacked p) = codes "nacked"
note_word (notes.VotedAgain b) = codes "voted-again"
note_word (notes.Voted b) = codes "voted"
note_word notes.Stale = codes "stale"
note_word (notes.Overtaken b) = codes "overtaken"
note_word notes.Repeated = codes "repeated"
note_word (notes.Counted b) = codes "counted"
note_word (notes.Denied p) = codes "denied"
note_word notes.Settled = codes "settled"
note_word (notes.Heard b) = codes "heard"
note_word (notes.Recalled b) = codes "recalled"
note_word notes.Blank = codes "blank"

-- the ballot of a note, if it has one
abbrev pub note_ballot : Note → Option Ballot
note_ballot (notes.Began b) = Some b
note_ballot (notes.Nothing b) = Some b
note_ballot (notes.Proposed b) = Some b
note_ballot notes.Idle = None
note_ballot (notes.GaveUp b) = Some b
note_ballot (notes.Promised b) = Some b
note_ballot notes.Silent = None
note_ballot (notes.Nacked p) = Some p
note_ballot (notes.VotedAgain b) = Some b
note_ballot (notes.Voted b) = Some b
note_ballot notes.Stale = None
note_ballot (notes.Overtaken b) = Some b
note_ballot notes.Repeated = None
note_ballot (notes.Counted b) = Some b
note_ballot (notes.Denied p) = Some p
note_ballot notes.Settled = None
note_ballot (notes.Heard b) = Some b
note_ballot (notes.Recalled b) = Some b
note_ballot notes.Blank = None

-- a word, and a ballot behind it, if there is one
abbrev pub with_ballot : List ℕ → Option Ballot → List ℕ
with_ballot word None = word
with_ballot word (Some b) = word ++ (codes " " ++ ballot_text b)

-- what a station did, as `began 1.1`
abbrev pub note_text : Note → List ℕ
note_text note = with_ballot (note_word note) (note_ballot note)
