use Rattle.std.proofs.Common.{rules, ◌<◌, ◌≤◌, List, length, sym, ap}
use Rattle.looks.specs.Sightings.{moved}
use Rattle.looks.specs.Strays.{StraysValue}
use Rattle.looks.specs.declared.sighting.Stray.{Stray}
use Rattle.looks.proofs.Marks.{none_noted, noted_in_order, set_noted}
use Rattle.looks.proofs.strays.Strays.moved.Goals as goal

pub invariant_of-self : goal.invariant_of-self
invariant_of-self c =
    let files = c.self.inside.files.items in
    let s = c.index_mut-stray.result.now in
    let within : c.self.inside.next < length files = search rules in
    let is = set_noted moved files c.self.inside.next s within c.index_mut-stray.ensures.value in
    rw (c.moved-stray.ensures, is) (noted_in_order moved files c.self.inside.next c.self.invariant)

pub returns-then-self-len : goal.returns-then-self-len
returns-then-self-len c =
    let files = c.self.inside.files.items in
    let s = c.index_mut-stray.result.now in
    let within : c.self.inside.next < length files = search rules in
    let is = set_noted moved files c.self.inside.next s within c.index_mut-stray.ensures.value in
    let all : List Stray → StraysValue = λ fs. record { files = fs; looked = c.self.inside.looked; still = c.self.inside.still; next = c.self.inside.next } in
    rw (← c.self.view_is, c.moved-stray.ensures) (ap all is)

pub returns-else-self-len : goal.returns-else-self-len
returns-else-self-len c =
    let files = c.self.inside.files.items in
    let past : length files ≤ c.self.inside.next = search rules in
    let all : List Stray → StraysValue = λ fs. record { files = fs; looked = c.self.inside.looked; still = c.self.inside.still; next = c.self.inside.next } in
    rw (← c.self.view_is) (ap all (sym (none_noted moved files c.self.inside.next past)))
