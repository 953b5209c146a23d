use Rattle.std.proofs.Common.{◌≡◌, suc, length, true, false, refl, sym, ap, ◌∙◌, arith, add-one}
use Rattle.code_table.specs.Tables.{mean}
use Rattle.slug_reader.specs.Meanings.{case_at}
use Rattle.text_tape.specs.Spelling.{is_unsaid}
use Rattle.text_tape.proofs.Looking.{case_more, case_first}
use Rattle.text_tape.proofs.Spelled.{spelled_unsaid, spelled_said, unsaid_here, said_behind, said_alone, spelled_is, spelled_punched}
use Rattle.text_tape.proofs.spelling.text_of.Goals as goal
use Rattle.text_tape.proofs.spelling.text_of.Goals.{then-not-behind_unsaid+then-is_pair, else-not-behind_unsaid+in_ok-put_word, else-not-behind_unsaid-via-then-not-behind_unsaid+else-is_pair, else-not-behind_unsaid-via-else-not-behind_unsaid}

pub loop-i-init : goal.loop-i-init
loop-i-init c = record {
  case = case_first (mean c.args.codes.now) c.frames-frames.result.now;
  behind = refl;
  text = c.new-text.ensures.items;
}

pub is_pair-requires-clause-next : goal.is_pair-requires-clause-next
is_pair-requires-clause-next c =
    c.unwrap_or-next.ensures ∙ rw (c.selected_by.ensures, c.table.ensures, c.loop-i.invariant.case) (sym (case_more (mean c.args.codes.now) c.frames-frames.result.now c.loop-i.i))

pub loop-i-preserved : goal.loop-i-preserved
loop-i-preserved c =
    let means = mean c.args.codes.now in
    let tape = c.frames-frames.result.now in
    let i = c.loop-i.i in
    let was = c.loop-i.invariant in
    let next : c.unwrap_or-next.result ≡ case_at means tape (suc i) = c.unwrap_or-next.ensures ∙ rw (c.selected_by.ensures, c.table.ensures, was.case) (sym (case_more means tape i)) in
    elim c.if-not-behind_unsaid.branch [
      | then-not-behind_unsaid+then-is_pair w ↦
          let e : is_unsaid means tape i ≡ true = unsaid_here means tape i c.loop-i.behind_unsaid w.is_pair.result was.behind w.is_pair.ensures w.if-not-behind_unsaid.true w.if-is_pair.true in
          record {
            case = w.case-is ∙ rw add-one next;
            behind = w.behind_unsaid-is ∙ rw add-one (sym e);
            text = ap (λ v. v.items) w.text-is ∙ was.text ∙ rw add-one (sym (spelled_unsaid means tape i e));
          }
      | else-not-behind_unsaid+in_ok-put_word w ↦
          let e : is_unsaid means tape i ≡ false =
          elim w.else-not-behind_unsaid.branch [
            | else-not-behind_unsaid-via-then-not-behind_unsaid+else-is_pair w' ↦ said_alone means tape i c.loop-i.behind_unsaid w'.is_pair.result was.behind w'.is_pair.ensures w'.if-not-behind_unsaid.true w'.if-is_pair.false
            | else-not-behind_unsaid-via-else-not-behind_unsaid w' ↦ said_behind means tape i c.loop-i.behind_unsaid was.behind w'.if-not-behind_unsaid.false
          ] in
          let p = w.in_ok-put_word.ensures in
          record {
            case = w.case-is ∙ rw add-one next;
            behind = w.behind_unsaid-is ∙ rw add-one (sym e);
            text = ap (λ v. v.items) w.text-is ∙ p ∙ rw was.text (rw add-one (sym (spelled_said means tape i e)));
          }
    ]

pub returns-clause-spelled : goal.returns-clause-spelled
returns-clause-spelled c =
    let e = spelled_is (mean c.args.codes.now) c.frames-frames.result.now c.loop-i.i (omega arith) in
    c.loop-i.invariant.text ∙ rw (← c.frames-frames.ensures.frames) e

pub returns-clause-again : goal.returns-clause-again
returns-clause-again c =
    let tape = c.args.tape.now in
    let same = c.frames-frames.ensures.frames in
    let end : c.loop-i.i ≡ length c.frames-frames.result.now = omega arith in
    let p = spelled_punched (mean c.args.codes.now) tape c.frames-frames.ensures.is_tape.small in
    rw (c.loop-i.invariant.text, end, same) p
