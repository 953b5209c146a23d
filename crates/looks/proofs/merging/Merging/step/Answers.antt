-- The next file is put beside what was known.
use Rattle.std.proofs.Common.{◌≡◌, ◌∙◌, ◌+◌, ◌-◌, ◌≤◌, ◌++◌, ◌∷◌, [], ap, arith, append_assoc, drop, length, rules, String, string_bytes}
use Rattle.std.specs.Global.{Global}
use Rattle.std.specs.List.{AllByRecursion}
use Rattle.std.specs.List.Sorted.{IsStrictlySortedBy}
use Rattle.std.specs.Map.{keys_of}
use Rattle.std.specs.Result.{IsOk}
use Rattle.std.specs.String.{string_cmp}
use Rattle.std.specs.Vec.{vec_capacity, vec_len}
use Rattle.folders.specs.declared.stamp.Stamp.{Stamp}
use Rattle.looks.specs.declared.sighting.Stray.{Stray}
use Rattle.looks.specs.Sightings.{sighted}
use Rattle.looks.specs.Strays.{from, known_of, looked, past, seen}
use Rattle.looks.proofs.Steps.{first_sorted, from_in_order, gone_by, known_there, left_behind, left_ends, longer, no_longer, one_fewer, past_in_order, pushed, rest_sorted, still_known, still_past}
use Rattle.looks.proofs.merging.Merging.step.Goals as goal
use Rattle.looks.proofs.merging.Merging.step.Goals.{in-Err-1, in-Ok-1}

pub overflow_sub-self : goal.overflow_sub-self
overflow_sub-self c =
    let known = c.self.inside.known.items in
    let place = c.self.inside.past in
    let name = string_bytes c.in-Some.name in
    let count : c.len.result ≡ length known = search rules in
    rw (left_behind known c.deref.result.now c.meet-known.result.1.now place name c.as_str.result.now c.as_str.ensures.value c.deref.ensures.value c.meet-known.ensures.left, count)
    (no_longer (past name (from name (drop place known))) known (left_ends name place known))

pub invariant_of-self-in-Some-2 : goal.invariant_of-self-in-Some-2
invariant_of-self-in-Some-2 c =
    let known = c.self.inside.known.items in
    let place = c.self.inside.past in
    let text = c.in-Some.name in
    let name = string_bytes text in
    let later = c.pop_first.new.self.entries in
    let e : String Global × Stamp = (text, c.in-Some.stamp) in
    let split : c.self.inside.left.entries ≡ e ∷ later = c.in-Some.ensures.removal in
    let count : c.len.result ≡ length known = search rules in
    let rest = past name (from name (drop place known)) in
    let left : c.meet-known.result.1.now ≡ rest =
    left_behind known c.deref.result.now c.meet-known.result.1.now place name c.as_str.result.now c.as_str.ensures.value c.deref.ensures.value c.meet-known.ensures.left in
    let gone : drop (length known - length rest) known ≡ rest = gone_by rest known (left_ends name place known) in
    let names : IsStrictlySortedBy string_cmp (keys_of (e ∷ later)) = rw split at c.self.invariant.names in
    let sorted = first_sorted e later names in
    let same : AllByRecursion (λ (p : String Global × Stamp). known_of (drop place known) (string_bytes p.0) ≡ known_of known (string_bytes p.0)) (e ∷ later) = rw split at c.self.invariant.same in
    let first : c.meet-known.result.0 ≡ known_of known name =
    known_there known c.deref.result.now c.meet-known.result.0 place name c.as_str.result.now c.as_str.ensures.value c.deref.ensures.value c.self.invariant.order c.meet-known.ensures.known ∙ same.0 in
    let sighting : c.after-sighting.result ≡ sighted (known_of known name) c.in-Some.stamp c.self.inside.moment = c.after-sighting.ensures ∙ ap (λ k. sighted k c.in-Some.stamp c.self.inside.moment) first in
    let room : vec_len c.self.inside.files + length (e ∷ later) ≤ vec_capacity c.self.inside.files = rw split at c.self.invariant.room in
    let ok : IsOk c.push.result = c.push.ensures.succeeds (omega (arith, room)) in
    let s : Stray = record { name = text; sighting = c.after-sighting.result } in
    let filled : c.push.new.self.items ≡ c.self.inside.files.items ++ (s ∷ []) = pushed c.push.result c.self.inside.files.items c.push.new.self.items s ok c.push.ensures.items in
    let count_after : vec_len c.push.new.self ≡ vec_len c.self.inside.files + 1 = longer c.push.result (vec_len c.self.inside.files) (vec_len c.push.new.self) ok c.push.ensures.len in
    record {
      within = omega (arith, count);
      order = rw (left, count, gone) (past_in_order name (from name (drop place known)) (from_in_order name (drop place known) c.self.invariant.order));
      names = rest_sorted e later names;
      same = rw (left, count, gone) (still_past known (from name (drop place known)) text later sorted (still_known known (drop place known) text later sorted same.1));
      whole = rw (filled, sighting, append_assoc c.self.inside.files.items (seen known c.self.inside.moment e ∷ []) (looked known c.self.inside.moment later)) (rw split at c.self.invariant.whole);
      room = omega (arith, count_after, room, c.push.ensures.capacity);
    }

pub returns-in-Some : goal.returns-in-Some
returns-in-Some c =
    let known = c.self.inside.known.items in
    let place = c.self.inside.past in
    let text = c.in-Some.name in
    let name = string_bytes text in
    let later = c.pop_first.new.self.entries in
    let e : String Global × Stamp = (text, c.in-Some.stamp) in
    let split : c.self.inside.left.entries ≡ e ∷ later = c.in-Some.ensures.removal in
    let same : AllByRecursion (λ (p : String Global × Stamp). known_of (drop place known) (string_bytes p.0) ≡ known_of known (string_bytes p.0)) (e ∷ later) = rw split at c.self.invariant.same in
    let first : c.meet-known.result.0 ≡ known_of known name =
    known_there known c.deref.result.now c.meet-known.result.0 place name c.as_str.result.now c.as_str.ensures.value c.deref.ensures.value c.self.invariant.order c.meet-known.ensures.known ∙ same.0 in
    let sighting : c.after-sighting.result ≡ sighted (known_of known name) c.in-Some.stamp c.self.inside.moment = c.after-sighting.ensures ∙ ap (λ k. sighted k c.in-Some.stamp c.self.inside.moment) first in
    let room : vec_len c.self.inside.files + length (e ∷ later) ≤ vec_capacity c.self.inside.files = rw split at c.self.invariant.room in
    let ok : IsOk c.push.result = c.push.ensures.succeeds (omega (arith, room)) in
    let s : Stray = record { name = text; sighting = c.after-sighting.result } in
    let filled : c.push.new.self.items ≡ c.self.inside.files.items ++ (seen known c.self.inside.moment e ∷ []) =
    pushed c.push.result c.self.inside.files.items c.push.new.self.items s ok c.push.ensures.items ∙ ap (λ k. c.self.inside.files.items ++ (record { name = text; sighting = k } ∷ [])) sighting in
    let fewer_left = one_fewer known c.self.inside.files.items c.push.new.self.items c.self.inside.moment e later filled in
    elim c.match-push.branch [
      | in-Err-1 w ↦ rw (w.self-is, ← c.self.view_is, split) fewer_left
      | in-Ok-1 w ↦ rw (w.self-is, ← c.self.view_is, split) fewer_left
    ]
