-- What is written of a roll is read again.
use Rattle.std.proofs.Common.{◌≡◌, ℕ, suc, ◌+◌, ◌<◌, true, false, ltb, leb, eqb, List, [], ◌∷◌, ◌++◌, length, take, Ok, Err, refl, sym, ap, subst, ◌∙◌, arith, append-nil, length-append}
use Rattle.std.proofs.Math.Seq.{take-length}
use Rattle.std.specs.Prelude.{slice_index, Option, Some, Result, IfOk}
use Rattle.std.specs.declared.alloc.AllocError.{AllocError}
use Rattle.std.specs.Global.{Vec}
use Rattle.std.proofs.lemmas.Bool.{le-ltb, lt-ltb, le-leb, ne_eqb}
use Rattle.std.proofs.lemmas.Nat.{from_be_bytes-to_be_bytes_2, from_be_bytes-to_be_bytes_4}
use Rattle.packets.specs.Reading.{kind_at as packet_kind_at, header_at, packet_in}
use Rattle.recalls.specs.Reading.{mark_at as recall_mark_at, recall_at}
use Rattle.recalls.specs.Recalls.{Recall}
use Rattle.recalls.specs.Grammar.{Spells as SpellsRecall}
use Rattle.recalls.specs.Tickets.{ticket_at}
use Rattle.recalls.specs.Laws.{SpellsOne, NoPrefix, ReadsItAgain, IsNoPacket}
use Rattle.rolls.specs.Asides.{is_aside_of_rolls, aside_in}
use Rattle.rolls.proofs.Numbers.{two_are, four_are}
use Rattle.std.specs.Int.{w16, w32, to_be_bytes}
use Rattle.rolls.specs.Kinds.{number_of_kind, kind_of_byte, body_len}
use Rattle.rolls.specs.declared.body.RollKind.{RollKind}
use Rattle.rolls.specs.declared.body.RollKind.TheVariants as kinds
use Rattle.rolls.specs.Rolls.{Body, CountsAsked, Counts, PageAsked, Page, Roll, ticket_of, IsBody, IsRoll}
use Rattle.rolls.specs.Bodies.{kind_of}
use Rattle.rolls.specs.Grammar.{Spells}
use Rattle.rolls.specs.Spelling.{count_bytes, body_bytes, spelling}
use Rattle.rolls.specs.declared.fault.RollFault.{RollFault}
use Rattle.rolls.specs.declared.fault.RollFault.TheVariants.{BadKind}
use Rattle.rolls.specs.Reading.{wanted, mark_at, kind_at, counts_in, counts_at, page_at, pad_at, asked_page_at, votes_at, told_at, body_at, roll_at}
use Rattle.rolls.specs.Laws.{IsNoRecall, NoRecallIsOne, HearsRolls, HearsRecalls}
use Rattle.rolls.proofs.Counting.{counts_do_fit}
use Rattle.rolls.proofs.Flags.{only_found}
use Rattle.rolls.proofs.Written.{spelled_is, only_rolls, counts_small, body_length, spelling_length, lengths_are_given, none_is_short}

counts_again : (cs : List ℕ) → ((i : ℕ) → slice_index cs i < 65536) → counts_in (length cs) (count_bytes cs) ≡ cs
unfolding counts_in
counts_again [] h = refl
counts_again (c ∷ cs) h =
    let back = from_be_bytes-to_be_bytes_2 c (h 0) in
    let more : counts_in (length cs) (count_bytes cs) ≡ cs = counts_again cs (λ i. h (suc i)) in
    rw (back, more) refl

told_again : (b : Body) → IsBody b → told_at (kind_of b) (body_bytes b) ≡ Ok b
unfolding counts_at page_at pad_at asked_page_at votes_at
told_again CountsAsked is = refl
told_again (Counts counts) is =
    let read : counts_in 123 (count_bytes counts) ≡ counts =
    subst (λ (n : ℕ). counts_in n (count_bytes counts) ≡ counts) (is.many) (counts_again counts (counts_small counts is)) in
    rw (read, counts_do_fit counts is) refl
told_again (PageAsked page) is = let low : ltb page 123 ≡ true = lt-ltb page 123 is in rw low refl
told_again (Page page bits) is =
    let low : ltb page 123 ≡ true = lt-ltb page 123 is.page in
    let all : take 1024 bits ≡ bits = subst (λ (n : ℕ). take n bits ≡ bits) is.many (take-length bits) in
    rw (low, all, only_found page bits is) refl

not_below : (n : ℕ) → ltb n n ≡ false
not_below n = le-ltb n n (omega arith)

body_again : (b : Body) → IsBody b → body_at (kind_of b) (body_bytes b) ≡ Ok b
unfolding body_at
body_again b is = rw (body_length b is, not_below (body_len (kind_of b)), told_again b is) refl

byte_again : (k : RollKind) → kind_of_byte (number_of_kind k) ≡ Some k
byte_again kinds.CountsAsked = refl
byte_again kinds.Counts = refl
byte_again kinds.PageAsked = refl
byte_again kinds.Page = refl

not_one : (k : RollKind) → eqb (number_of_kind k) 1 ≡ false
not_one kinds.CountsAsked = refl
not_one kinds.Counts = refl
not_one kinds.PageAsked = refl
not_one kinds.Page = refl

-- the steps of the front
module _ (r : Roll) (is : IsRoll r) where
  mark_again : mark_at (spelling r) ≡ Ok tt
  unfolding mark_at
  mark_again =
      let long : ltb (length (spelling r)) 12 ≡ false = le-ltb _ _ (let e = spelling_length r is in omega (arith, e)) in
      rw long refl

  kind_again : kind_at (spelling r) ≡ Ok (kind_of r.body)
  unfolding kind_at
  kind_again = ap (λ (o : Option RollKind). wanted BadKind o) (byte_again (kind_of r.body))

  ticket_again : ticket_at (spelling r) ≡ Some (ticket_of r)
  unfolding ticket_at
  ticket_again =
      let long : ltb (length (spelling r)) 12 ≡ false = le-ltb _ _ (let e = spelling_length r is in omega (arith, e)) in
      let from_low : leb 1 r.from ≡ true = le-leb 1 r.from is.from.0 in
      let from_high : leb r.from 15 ≡ true = le-leb r.from 15 is.from.1 in
      let to_low : leb 1 r.to ≡ true = le-leb 1 r.to is.to.0 in
      let to_high : leb r.to 15 ≡ true = le-leb r.to 15 is.to.1 in
      let apart : eqb r.from r.to ≡ false = ne_eqb r.from r.to is.differ in
      let circuit = from_be_bytes-to_be_bytes_2 r.circuit (let h = is.circuit in omega (arith, h)) in
      let asked = from_be_bytes-to_be_bytes_4 r.asked (let h = is.asked in omega (arith, h)) in
      rw (long, from_low, from_high, to_low, to_high, apart, circuit, asked) refl

  pub roll_again : roll_at (spelling r) ≡ Ok r
  unfolding roll_at
  roll_again = rw (mark_again, kind_again, ticket_again, body_again r.body is.body) refl

pub reads_it_again : ReadsItAgain Spells roll_at
reads_it_again bytes r s = ap roll_at (spelled_is bytes r s) ∙ roll_again r (only_rolls bytes r s)

read_once : (read : Result Roll RollFault) (r q : Roll) → read ≡ Ok r → read ≡ Ok q → r ≡ q
read_once read r q e f = cc

pub one_roll : SpellsOne Spells
one_roll bytes r q s t = read_once (roll_at bytes) r q (reads_it_again bytes r s) (reads_it_again bytes q t)

pub is_again : (result : Result (Vec ℕ) AllocError) (r : Roll) → IfOk result (λ v. Spells v.items r) → IfOk result (λ v. roll_at v.items ≡ Ok r)
is_again (Ok v) r s = reads_it_again v.items r s
is_again (Err refused) r s = tt

one_kind : (k l : RollKind) → Some k ≡ Some l → k ≡ l
one_kind k l e = cc

-- two spellings of which one begins with the other have one kind, so one length
pub no_prefix : NoPrefix Spells
no_prefix short long rest r q s t is = go rest is
  where
    same_kind : (rest : List ℕ) → long ≡ short ++ rest → kind_of r.body ≡ kind_of q.body
    same_kind rest is =
        let both : spelling q ≡ spelling r ++ rest =
        sym (spelled_is long q t) ∙ is ∙ ap (λ (l : List ℕ). l ++ rest) (spelled_is short r s) in
        let byte : number_of_kind (kind_of r.body) ≡ number_of_kind (kind_of q.body) = ap (λ (l : List ℕ). slice_index l 3) (sym both) in
        one_kind (kind_of r.body) (kind_of q.body) (sym (byte_again (kind_of r.body)) ∙ ap kind_of_byte byte ∙ byte_again (kind_of q.body))

    go : (rest : List ℕ) → long ≡ short ++ rest → short ≡ long
    go [] is = sym (is ∙ append-nil short)
    go (b ∷ bs) is =
        let same : body_len (kind_of r.body) ≡ body_len (kind_of q.body) = ap body_len (same_kind (b ∷ bs) is) in
        let l1 : length long ≡ 12 + body_len (kind_of q.body) = lengths_are_given long q t in
        let l2 : length short ≡ 12 + body_len (kind_of r.body) = lengths_are_given short r s in
        let l3 : length long ≡ length short + length (b ∷ bs) = ap (λ (l : List ℕ). length l) is ∙ length-append short (b ∷ bs) in
        absurd (omega (arith, same, l1, l2, l3))

-- what is written is not short
not_short : (bytes : List ℕ) (r : Roll) → Spells bytes r → ltb (length (spelling r)) 17 ≡ false
not_short bytes r s = subst (λ (l : List ℕ). ltb (length l) 17 ≡ false) (spelled_is bytes r s) (le-ltb _ _ (none_is_short bytes r s))

-- bytes of another mark
pub is_no_packet : IsNoPacket Spells
unfolding packet_in header_at packet_kind_at
is_no_packet v bytes r s =
    let long : ltb (length (spelling r)) 17 ≡ false = not_short bytes r s in
    ap (λ (l : List ℕ). packet_in v l) (spelled_is bytes r s) ∙ (rw long refl)

-- bytes of another kind
pub is_no_recall : IsNoRecall
unfolding recall_at recall_mark_at
is_no_recall bytes r s =
    let long : ltb (length (spelling r)) 17 ≡ false = not_short bytes r s in
    ap (λ (l : List ℕ). recall_at l) (spelled_is bytes r s) ∙ (rw (long, not_one (kind_of r.body)) refl)

-- the bytes of a recall
abbrev recall_front : Recall → List ℕ → List ℕ
recall_front r numbers = 84 ∷ 82 ∷ 1 ∷ 1 ∷ [] ++ to_be_bytes w16 r.circuit ++ r.from ∷ r.to ∷ [] ++ to_be_bytes w32 r.asked ++ length r.numbers ∷ numbers

recall_is : (bytes : List ℕ) (r : Recall) (s : SpellsRecall bytes r) → bytes ≡ recall_front r s.numbers
recall_is bytes r s =
    s.are
    ∙ (λ i. 84 ∷ 82 ∷ 1 ∷ 1 ∷ [] ++ two_are s.circuit r.circuit s.spells_circuit i ++ r.from ∷ r.to ∷ [] ++ four_are s.asked r.asked s.spells_asked i
    ++ length r.numbers ∷ s.numbers)

no_roll : (r : Recall) (numbers : List ℕ) → roll_at (recall_front r numbers) ≡ Err BadKind
unfolding roll_at mark_at kind_at
no_roll r numbers = let long : ltb (length (recall_front r numbers)) 12 ≡ false = le-ltb _ _ (omega arith) in rw long refl

pub no_recall_is_one : NoRecallIsOne
no_recall_is_one bytes r s = ap roll_at (recall_is bytes r s) ∙ no_roll r s.numbers

-- which is heard
of_rolls : (r : Roll) → IsRoll r → is_aside_of_rolls (spelling r) ≡ true
of_rolls r is =
    let long : ltb 3 (length (spelling r)) ≡ true = lt-ltb _ _ (let e = spelling_length r is in omega (arith, e)) in
    rw (long, byte_again (kind_of r.body)) refl

pub hears_rolls : HearsRolls
unfolding aside_in
hears_rolls bytes r s =
    let own : is_aside_of_rolls bytes ≡ true = ap is_aside_of_rolls (spelled_is bytes r s) ∙ of_rolls r (only_rolls bytes r s) in
    rw (own, reads_it_again bytes r s) refl

of_recalls : (r : Recall) (numbers : List ℕ) → is_aside_of_rolls (recall_front r numbers) ≡ false
of_recalls r numbers = let long : ltb 3 (length (recall_front r numbers)) ≡ true = lt-ltb _ _ (omega arith) in rw long refl

pub hears_recalls : ReadsItAgain SpellsRecall recall_at → HearsRecalls
unfolding aside_in
hears_recalls again bytes r s =
    let other : is_aside_of_rolls bytes ≡ false = ap is_aside_of_rolls (recall_is bytes r s) ∙ of_recalls r s.numbers in
    rw (other, again bytes r s) refl
