-- What is asked and answered at a seat: by the acceptor of its circuit and member, in its version.
use Rattle.std.specs.Prelude.{◌≡◌, ℕ, List, [], Option, Result, IfOk, IfErr, OnOk}
use Rattle.std.specs.Global.{Vec}
use Rattle.hex.specs.Hex.{encode_lower}
use Rattle.protocol.specs.Fitting.{BodyFits}
use Rattle.protocol.specs.Packets.{Packet, Body}
use Rattle.protocol.specs.Rows.{Row}
use Rattle.packets.specs.Spelling.{spelling}
use Rattle.rows_saved.specs.Memory.{MemoryOf, saved}
use Rattle.tape_frames.specs.Entries.{version_of}
use Rattle.answer_command.specs.Asked.{Asked, asked_of}
use Rattle.answer_command.specs.Replies.{answered, rows_after, back}
use Rattle.answer_command.specs.AnswerText.{lines_text, answer_text, WritesAnswer, WritesAnswerFront}
use Rattle.answer_command.specs.declared.line.AcceptorSeat.{AcceptorSeat}
use Rattle.refusals.specs.declared.line_refusal.Refusal.{Refusal}
use Rattle.command_ends.specs.Ends.{end_of, IsOfInput}
use Rattle.command_ends.specs.declared.fault.Fault.{Fault}

-- what a line asks for
abbrev pub asked_at : AcceptorSeat → List ℕ → Result Asked Refusal
asked_at s line = asked_of s.circuit s.me (version_of s.wire) line

-- the text of one line, from the row of the number that it asks for
abbrev pub answered_at : AcceptorSeat → (ℕ → Row) → Result Asked Refusal → List ℕ
answered_at s rows asked = answered s.circuit s.me (version_of s.wire) rows asked

-- the packet that goes back to the sender of this one
abbrev pub back_to : AcceptorSeat → Packet → Body → Packet
back_to s p body = back s.circuit s.me p.from p.number p.ballot body

-- its text
abbrev pub back_at : AcceptorSeat → Packet → Body → List ℕ
back_at s p body = encode_lower (spelling (version_of s.wire) (back_to s p body))

-- at a seat a packet with this body was read, over rows of its version
pub record Reads (s : AcceptorSeat) (rows : MemoryOf) (body : Body) : Type 0 where
  -- the body is one of the version
  pub fits : BodyFits (version_of s.wire) body
  -- and so are the rows
  pub version : rows.version ≡ version_of s.wire

-- the packet asks for this, of the acceptor at the seat
pub record Asks (s : AcceptorSeat) (rows : MemoryOf) (p : Packet) (body : Body) : Type 0 where
  -- this is its body
  pub kind : p.body ≡ body
  -- it is for the acceptor
  pub to : p.to ≡ s.me
  -- it was read there
  pub reads : Reads s rows body

-- what is asked at a seat is answered: the rows before and after, and the text
pub record Answers {E : Type 0} (s : AcceptorSeat) (asked : Result Asked Refusal) (before after : MemoryOf) (result : Result (Vec ℕ) E) : Type 0 where
  -- the text is the reply, or why it is refused
  pub text : IfOk result (λ t. t.items ≡ answered_at s (saved before) asked)
  -- the row of the number that it asks for takes the request, and no other changes
  pub rows : OnOk result ((n : ℕ) → saved after n ≡ rows_after (saved before) asked n)
  -- the rows stay in their version
  pub version : after.version ≡ before.version

-- the texts of lines before which nothing was heard
abbrev pub lines_at : AcceptorSeat → List (List ℕ) → List ℕ
lines_at s lines = lines_text s.circuit s.me (version_of s.wire) [] lines

-- the whole text for an input
abbrev pub answer_at : AcceptorSeat → List ℕ → List ℕ
answer_at s input = answer_text s.circuit s.me (version_of s.wire) input

-- what came of answering an input: the whole text was written where it ended well, and a front of it however it ended; nothing else
-- than the input, the output or want of memory ended it before
pub record AnswersInput (s : AcceptorSeat) (outcome : Result (Unit {0}) Fault) (input old new : Option (List ℕ)) : Type 0 where
  pub done : OnOk outcome (WritesAnswer s.circuit s.me (version_of s.wire) input old new)
  pub front : WritesAnswerFront s.circuit s.me (version_of s.wire) input old new
  pub fault : IfErr outcome (λ fault. IsOfInput (end_of fault))
