-- Each line is behind those before it.
use Rattle.std.proofs.Common.{◌≡◌, ◌++◌, ℕ, List, append_assoc, string_bytes}
use Rattle.std.specs.Prelude.{flat_map}
use Rattle.plant_status.specs.Texts.{busy_line, end_text, form_of, head_text, heard_text, missing_line, offers_text, released_text}
use Rattle.plant_status.specs.declared.status.Status.{Status}
use Rattle.plant_status.proofs.writing.push_lines.Goals as goal

-- seven texts, each behind what was there before
seven : (t t1 t2 t3 t4 t5 t6 t7 a b c d e f g : List ℕ)
    → t1 ≡ t ++ a → t2 ≡ t1 ++ b → t3 ≡ t2 ++ c → t4 ≡ t3 ++ d → t5 ≡ t4 ++ e → t6 ≡ t5 ++ f → t7 ≡ t6 ++ g
    → t7 ≡ t ++ (a ++ (b ++ (c ++ (d ++ (e ++ (f ++ g))))))
seven t t1 t2 t3 t4 t5 t6 t7 a b c d e f g p1 p2 p3 p4 p5 p6 p7 = rw (p7, p6, p5, p4, p3, p2, p1) (simp append_assoc)

pub returns : goal.returns
returns c =
    let s : Status = c.args.status.now in
    seven
    (string_bytes c.args.text.now)
    (string_bytes c.push_head.new.text)
    (string_bytes c.push_members.new.text)
    (string_bytes c.push_released.new.text)
    (string_bytes c.push_busy.new.text)
    (string_bytes c.push_missing.new.text)
    (string_bytes c.push_offers.new.text)
    (string_bytes c.push_end.new.text)
    (head_text s)
    (flat_map (heard_text s.written) s.members.items)
    (released_text s.released)
    (busy_line s.busy.items)
    (missing_line s.written s.missing)
    (offers_text s.offers s.unwritten)
    (end_text s.written (form_of s.members.items))
    c.in_ok-push_head.ensures
    (rw c.as_slice.ensures.value at c.in_ok-push_members.ensures)
    c.in_ok-push_released.ensures
    (rw c.as_slice-2.ensures.value at c.in_ok-push_busy.ensures)
    c.in_ok-push_missing.ensures
    c.in_ok-push_offers.ensures
    (rw c.as_slice-3.ensures.value at (rw c.form_of-form.ensures at c.in_ok-push_end.ensures))
