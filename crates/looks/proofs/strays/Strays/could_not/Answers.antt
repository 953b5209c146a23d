use Rattle.std.proofs.Common.{rules, ◌<◌, ◌≤◌, List, length, sym, ap}
use Rattle.looks.specs.Sightings.{put_off}
use Rattle.looks.specs.Strays.{StraysValue}
use Rattle.looks.specs.declared.sighting.Stray.{Stray}
use Rattle.looks.proofs.Marks.{none_noted, noted_in_order, set_noted}
use Rattle.looks.proofs.strays.Strays.could_not.Goals as goal

pub invariant_of-self : goal.invariant_of-self
invariant_of-self c =
    let files = c.self.inside.files.items in
    let s = c.index_mut-file.result.now in
    let within : c.self.inside.next < length files = search rules in
    let is = set_noted (put_off c.args.fault c.args.now) files c.self.inside.next s within c.index_mut-file.ensures.value in
    rw (c.put_off-file.ensures, is) (noted_in_order (put_off c.args.fault c.args.now) files c.self.inside.next c.self.invariant)

pub returns-then-self-len : goal.returns-then-self-len
returns-then-self-len c =
    let files = c.self.inside.files.items in
    let s = c.index_mut-file.result.now in
    let within : c.self.inside.next < length files = search rules in
    let is = set_noted (put_off c.args.fault c.args.now) files c.self.inside.next s within c.index_mut-file.ensures.value in
    let all : List Stray → StraysValue = λ fs. record { files = fs; looked = c.self.inside.looked; still = c.self.inside.still; next = c.self.inside.next } in
    rw (← c.self.view_is, c.put_off-file.ensures) (ap all is)

pub returns-else-self-len : goal.returns-else-self-len
returns-else-self-len c =
    let files = c.self.inside.files.items in
    let past : length files ≤ c.self.inside.next = search rules in
    let all : List Stray → StraysValue = λ fs. record { files = fs; looked = c.self.inside.looked; still = c.self.inside.still; next = c.self.inside.next } in
    rw (← c.self.view_is) (ap all (sym (none_noted (put_off c.args.fault c.args.now) files c.self.inside.next past)))
