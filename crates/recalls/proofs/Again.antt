-- What is written of a recall is read again.
use Rattle.std.proofs.Common.{◌≡◌, ℕ, ◌+◌, ◌*◌, true, false, ltb, leb, eqb, List, [], ◌∷◌, ◌++◌, length, Ok, Err, refl, sym, ap, subst, ◌∙◌, arith, append-nil, length-append}
use Rattle.std.specs.Prelude.{slice_index, Result, IfOk}
use Rattle.std.specs.declared.alloc.AllocError.{AllocError}
use Rattle.std.specs.Global.{Vec}
use Rattle.std.proofs.lemmas.Bool.{le-ltb, le-leb, lt-leb, ne_eqb}
use Rattle.std.proofs.lemmas.Nat.{from_be_bytes-to_be_bytes_2, from_be_bytes-to_be_bytes_4}
use Rattle.packets.specs.Reading.{kind_at, header_at, packet_in}
use Rattle.recalls.specs.Recalls.{Recall, IsRecall, Rise}
use Rattle.recalls.specs.Grammar.{Spells}
use Rattle.recalls.specs.Spelling.{number_bytes, spelling}
use Rattle.recalls.specs.declared.fault.RecallFault.{RecallFault}
use Rattle.recalls.specs.Tickets.{ticket_at}
use Rattle.recalls.specs.Reading.{mark_at, count_of, number_at, numbers_at, recall_at}
use Rattle.recalls.specs.Laws.{SpellsOne, NoPrefix, ReadsItAgain, IsNoPacket}
use Rattle.recalls.proofs.Written.{spelled_is, only_recalls, spelling_length, lengths_are_given}

numbers_again : (ns : List ℕ) (above : ℕ) (rest : List ℕ) → Rise above ns → numbers_at (length ns) above (number_bytes ns ++ rest) ≡ Ok (ns, rest)
unfolding number_at
numbers_again [] above rest h = refl
numbers_again (n ∷ ns) above rest h =
    let up = h.0 in
    let high = h.1 in
    let long : ltb (length (number_bytes (n ∷ ns) ++ rest)) 4 ≡ false = le-ltb _ _ (omega arith) in
    let back = from_be_bytes-to_be_bytes_4 n (omega (arith, high)) in
    let low_test : leb 1 n ≡ true = le-leb 1 n (omega (arith, up)) in
    let high_test : leb n 999999 ≡ true = le-leb n 999999 high in
    let up_test : leb n above ≡ false = lt-leb n above up in
    let more = numbers_again ns n rest h.2 in
    rw (long, back, low_test, high_test, up_test, more) refl

recall_again : (r : Recall) → IsRecall r → recall_at (spelling r) ≡ Ok r
unfolding recall_at mark_at ticket_at count_of
recall_again r is =
    let long : ltb (length (spelling r)) 17 ≡ false = le-ltb _ _ (let e = spelling_length r in let some = is.some in omega arith) in
    let headed : ltb (length (spelling r)) 12 ≡ false = le-ltb _ _ (let e = spelling_length r in let some = is.some in omega arith) in
    let from_low : leb 1 r.from ≡ true = le-leb 1 r.from is.from.0 in
    let from_high : leb r.from 15 ≡ true = le-leb r.from 15 is.from.1 in
    let to_low : leb 1 r.to ≡ true = le-leb 1 r.to is.to.0 in
    let to_high : leb r.to 15 ≡ true = le-leb r.to 15 is.to.1 in
    let apart : eqb r.from r.to ≡ false = ne_eqb r.from r.to is.differ in
    let some : leb 1 (length r.numbers) ≡ true = le-leb 1 (length r.numbers) is.some in
    let few : leb (length r.numbers) 64 ≡ true = le-leb (length r.numbers) 64 is.few in
    let circuit = from_be_bytes-to_be_bytes_2 r.circuit (let h = is.circuit in omega arith) in
    let asked = from_be_bytes-to_be_bytes_4 r.asked (let h = is.asked in omega arith) in
    let numbers : numbers_at (length r.numbers) 0 (number_bytes r.numbers) ≡ Ok (r.numbers, []) =
    subst (λ (l : List ℕ). numbers_at (length r.numbers) 0 l ≡ Ok (r.numbers, [])) (append-nil (number_bytes r.numbers)) (numbers_again r.numbers 0 [] is.rise) in
    rw (long, headed, from_low, from_high, to_low, to_high, apart, some, few, numbers, circuit, asked) refl

pub reads_it_again : ReadsItAgain Spells recall_at
reads_it_again bytes r s = ap recall_at (spelled_is bytes r s) ∙ recall_again r (only_recalls bytes r s)

read_once : (read : Result Recall RecallFault) (r q : Recall) → read ≡ Ok r → read ≡ Ok q → r ≡ q
read_once read r q e f = cc

pub one_recall : SpellsOne Spells
one_recall bytes r q s t = read_once (recall_at bytes) r q (reads_it_again bytes r s) (reads_it_again bytes q t)

-- two spellings of which one begins with the other have one count of numbers, so one length
pub no_prefix : NoPrefix Spells
no_prefix short long rest r q s t is = go rest is
  where
    counts : (rest : List ℕ) → long ≡ short ++ rest → length r.numbers ≡ length q.numbers
    counts rest is =
        let both : spelling q ≡ spelling r ++ rest =
        sym (spelled_is long q t) ∙ is ∙ ap (λ (l : List ℕ). l ++ rest) (spelled_is short r s) in
        ap (λ (l : List ℕ). slice_index l 12) (sym both)

    go : (rest : List ℕ) → long ≡ short ++ rest → short ≡ long
    go [] is = sym (is ∙ append-nil short)
    go (b ∷ bs) is =
        let same : length r.numbers ≡ length q.numbers = counts (b ∷ bs) is in
        let l1 : length long ≡ 13 + 4 * length q.numbers = lengths_are_given long q t in
        let l2 : length short ≡ 13 + 4 * length r.numbers = lengths_are_given short r s in
        let l3 : length long ≡ length short + length (b ∷ bs) = ap (λ (l : List ℕ). length l) is ∙ length-append short (b ∷ bs) in
        absurd (omega arith)

-- bytes of another mark
pub is_no_packet : IsNoPacket Spells
unfolding packet_in header_at kind_at
is_no_packet v bytes r s =
    let long : ltb (length (spelling r)) 17 ≡ false = le-ltb _ _ (let e = spelling_length r in let some = s.some in omega arith) in
    ap (λ (l : List ℕ). packet_in v l) (spelled_is bytes r s) ∙ (rw long refl)

pub is_again : (result : Result (Vec ℕ) AllocError) (r : Recall) → IfOk result (λ v. Spells v.items r) → IfOk result (λ v. recall_at v.items ≡ Ok r)
is_again (Ok v) r s = reads_it_again v.items r s
is_again (Err refused) r s = tt
