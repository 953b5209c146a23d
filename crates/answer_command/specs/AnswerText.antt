-- What `answer` writes for a whole input: each line is answered behind all the requests before it.
use Rattle.std.specs.Prelude.{◌≡◌, ℕ, List, [], ◌∷◌, ◌++◌, Bool, ◌==◌, Option, IfSome, Result, Ok, Err, if◌then◌else◌}
use Rattle.std.specs.List.{list_all, slice_split}
use Rattle.std.specs.Io.KnownBytes.{Appends}
use Rattle.streams.specs.Fronts.{AppendsFront}
use Rattle.protocol.specs.Versions.{Version}
use Rattle.protocol.specs.Rows.{Row}
use Rattle.protocol.specs.Acceptor.{Request, row_after, reply_after}
use Rattle.answer_command.specs.Asked.{Asked, asked_of}
use Rattle.answer_command.specs.Replies.{refused_text, reply_text}
use Rattle.refusals.specs.declared.line_refusal.Refusal.{Refusal}

-- a line of nothing but spaces
abbrev pub is_blank : List ℕ → Bool
is_blank line = list_all (λ b. b == 32) line

-- the parts between line feeds
abbrev pub lines_of : List ℕ → List (List ℕ)
lines_of input = slice_split (λ b. b == 10) input

-- the requests for one number among all, in order
abbrev pub requests_for : ℕ → List (ℕ × Request) → List Request
requests_for n [] = []
requests_for n (h ∷ hs) = if n == h.0 then h.1 ∷ requests_for n hs else requests_for n hs

-- the requests heard once a line was read
abbrev pub heard_after : List (ℕ × Request) → Result Asked Refusal → List (ℕ × Request)
heard_after heard (Err refusal) = heard
heard_after heard (Ok asked) = heard ++ (asked.number, asked.request) ∷ []

-- the text of a line behind the requests heard before it
abbrev pub line_text : ℕ → ℕ → Version → List (ℕ × Request) → Result Asked Refusal → List ℕ
line_text circuit me v heard (Err refusal) = refused_text refusal
line_text circuit me v heard (Ok asked) =
    reply_text circuit me v asked (reply_after (requests_for asked.number heard) asked.request)
    (row_after (requests_for asked.number heard ++ asked.request ∷ []))

-- the texts of these lines behind the requests heard before them
abbrev pub lines_text : ℕ → ℕ → Version → List (ℕ × Request) → List (List ℕ) → List ℕ
lines_text circuit me v heard [] = []
lines_text circuit me v heard (line ∷ lines) =
    if is_blank line then lines_text circuit me v heard lines else
    (line_text circuit me v heard (asked_of circuit me v line) ++ 10 ∷ []) ++ lines_text circuit me v (heard_after heard (asked_of circuit me v line)) lines

-- the whole text for an input, of the acceptor `me` of this circuit, which reads and replies in this version
abbrev pub answer_text : ℕ → ℕ → Version → List ℕ → List ℕ
answer_text circuit me v input = lines_text circuit me v [] (lines_of input)

-- the text for this input was written, where it is known
abbrev pub WritesAnswer : ℕ → ℕ → Version → Option (List ℕ) → Option (List ℕ) → Option (List ℕ) → Type 0
WritesAnswer circuit me v input old new = IfSome input (λ xs. Appends old new (answer_text circuit me v xs))

-- a front of it was
abbrev pub WritesAnswerFront : ℕ → ℕ → Version → Option (List ℕ) → Option (List ℕ) → Option (List ℕ) → Type 0
WritesAnswerFront circuit me v input old new = IfSome input (λ xs. AppendsFront old new (answer_text circuit me v xs))

-- each number's row is the one after the requests heard for it
abbrev pub Stands : (ℕ → Row) → List (ℕ × Request) → Type 0
Stands rows heard = (n : ℕ) → rows n ≡ row_after (requests_for n heard)
