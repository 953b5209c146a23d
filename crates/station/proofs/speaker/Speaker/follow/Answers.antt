-- Another version, and what is remembered then.
use Rattle.std.proofs.Common.{sym, subst, ◌∙◌}
use Rattle.tape_frames.specs.Entries.{version_of}
use Rattle.station.specs.Speaking.{Speaks}
use Rattle.station.specs.declared.speaker.Speaker.TheInside.{Inside}
use Rattle.station.proofs.Remembering.{nothing_speaks, speaks_above}
use Rattle.station.proofs.speaker.Speaker.follow.Goals as goal
use Rattle.station.proofs.speaker.Speaker.follow.Goals.{then-is_lower, else-is_lower}

pub invariant_of-self : goal.invariant_of-self
invariant_of-self c =
    let v = version_of c.args.version in
    elim c.if-is_lower.branch [
      | then-is_lower w ↦ subst (λ (s : Inside). Speaks s.core v) (sym w.self-inside-is) (nothing_speaks w.clear.new.self v w.clear.ensures.stands)
      | else-is_lower w ↦
          subst (λ (s : Inside). Speaks s.core v) (sym w.self-inside-is)
          (speaks_above c.self.inside.core (version_of c.self.inside.wire) v (sym c.is_lower.ensures ∙ w.if-is_lower.false) c.self.invariant)
    ]
