use Rattle.std.proofs.Common.{Some, refl, sym, ◌∙◌, string_bytes}
use Rattle.std.specs.Str.{bytes_eq}
use Rattle.std.proofs.lemmas.Map.Text.{btree_map_updates_text}
use Rattle.looks.proofs.Taking.{no_error_gives, or_before}
use Rattle.looks.proofs.gathering.LookFindings.add_other.Goals as goal

pub returns-else-is_err : goal.returns-else-is_err
returns-else-is_err c = rw (← c.self.view_is) (λ whole. record {
  others = λ name.
      btree_map_updates_text (string_bytes c.args.other.name) c.self.inside.others c.insert.new.self (Some c.args.other.fault)
      (no_error_gives c.insert.result (sym c.is_err.ensures.value ∙ c.if-is_err.false) c.insert.ensures.updates) name
      ∙ or_before (bytes_eq (string_bytes c.args.other.name) name) c.args.other.fault _;
  requests = refl;
  strays = refl;
  skipped = refl;
  broken = whole;
})
