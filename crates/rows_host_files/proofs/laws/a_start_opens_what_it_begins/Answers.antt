use Rattle.std.proofs.Common.{inl, inr}
use Rattle.sqlite.specs.Files.{image_of}
use Rattle.rows_host_files.specs.Starting.{StandForWhatWas}
use Rattle.rows_host_files.proofs.laws.a_start_opens_what_it_begins.Goals as goal

pub returns : goal.returns
returns g c first given s life clean =
    let h = g.D.Disk in
    let all = life.honest clean in
    let now = image_of h life.begun in (
      life.begun,
      record { honest = clean; made = life.taken.made; rows = λ ours. life.taken.rows clean ours },
      elim life.ready as (λ _. StandForWhatWas h first given now) [
        | inl begins ↦ inl (inl (begins.stands all))
        | inr other ↦ elim other as (λ _. StandForWhatWas h first given now) [
          | inl marked ↦ inr (marked.0, marked.1, marked.2.stands all)
          | inr kept ↦ inl (inr kept.same)
        ]
      ],
    )
