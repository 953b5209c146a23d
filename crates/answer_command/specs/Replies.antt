-- The text of one reply.
use Rattle.std.specs.Prelude.{ℕ, List, ◌++◌, ◌==◌, Option, Some, None, Result, Ok, Err, codes, if◌then◌else◌}
use Rattle.hex.specs.Hex.{encode_lower}
use Rattle.protocol.specs.Ballots.{Ballot}
use Rattle.protocol.specs.Entries.{Entry, Void}
use Rattle.protocol.specs.Versions.{Version}
use Rattle.protocol.specs.Rows.{Vote, Row}
use Rattle.protocol.specs.Packets.{Packet as PacketValue, Body, Promise, Accepted, Nack}
use Rattle.protocol.specs.Acceptor.{Reply, Promises, Nacks, Says_nothing, Votes, Votes_again, ballot_of, reply_of, next_row}
use Rattle.packets.specs.Spelling.{spelling}
use Rattle.answer_command.specs.Asked.{Asked}
use Rattle.refusals.specs.declared.line_refusal.Refusal.{Refusal}
use Rattle.refusals.specs.RefusalWords.{word_of}

-- the text of a line that is refused
abbrev pub refused_text : Refusal → List ℕ
refused_text refusal = codes "refused " ++ word_of refusal

-- the packet that goes back to whoever asked
abbrev pub back : ℕ → ℕ → ℕ → ℕ → Ballot → Body → PacketValue
back circuit me to number ballot body =
    record { circuit = circuit; from = me; to = to; number = number; ballot = ballot; body = body }

-- its spelling in this version, in lower-case hex
abbrev pub sent_back : ℕ → ℕ → Version → Asked → Body → List ℕ
sent_back circuit me v asked body =
    encode_lower (spelling v (back circuit me asked.from asked.number (ballot_of asked.request) body))

-- the entry of a vote, of which there is one wherever this is asked
abbrev pub voted_entry : Option Vote → Entry
voted_entry None = Void
voted_entry (Some vote) = vote.entry

-- the text of a reply, with the row after it
abbrev pub reply_text : ℕ → ℕ → Version → Asked → Reply → Row → List ℕ
reply_text circuit me v asked (Promises report) row = sent_back circuit me v asked (Promise report)
reply_text circuit me v asked Says_nothing row = codes "silent"
reply_text circuit me v asked (Nacks promised) row = sent_back circuit me v asked (Nack promised)
reply_text circuit me v asked Votes row = sent_back circuit me v asked (Accepted (voted_entry row.vote))
reply_text circuit me v asked Votes_again row = sent_back circuit me v asked (Accepted (voted_entry row.vote))

-- the text of one line, from the row of the number that it asks for
abbrev pub answered : ℕ → ℕ → Version → (ℕ → Row) → Result Asked Refusal → List ℕ
answered circuit me v rows (Err refusal) = refused_text refusal
answered circuit me v rows (Ok asked) =
    reply_text circuit me v asked (reply_of (rows asked.number) asked.request) (next_row (rows asked.number) asked.request)

-- the row of each number after a line
abbrev pub rows_after : (ℕ → Row) → Result Asked Refusal → ℕ → Row
rows_after rows (Err refusal) n = rows n
rows_after rows (Ok asked) n = if n == asked.number then next_row (rows asked.number) asked.request else rows n
