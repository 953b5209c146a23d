-- A text as a TOML document.
use Rattle.std.specs.Prelude.{◌≡◌, ◌⊎◌, ℕ, List, Some, None, String, Result, IfOk, IfErr}
use Rattle.std.specs.BTreeMap.{BTreeMap}
use Rattle.std.specs.declared.alloc.Global.{Global}
use Rattle.toml.specs.Parse.{parse_document}
use Rattle.toml.specs.View.{table_view}
use Rattle.toml.specs.declared.value.Value.{Value}
use Rattle.configuration.specs.declared.fault.ConfigFault.{ConfigFault}
use Rattle.configuration.specs.declared.fault.ConfigFault.TheVariants.{NotToml, OutOfMemory}

-- it is the document of a text; or the text is not TOML, or memory was refused
pub record IsDocumentOf (text : List ℕ) (result : Result (BTreeMap (String Global) Value) ConfigFault) : Type 0 where
  pub ok : IfOk result (λ document. parse_document text ≡ Some (table_view document))
  pub err : IfErr result (λ fault. (fault ≡ OutOfMemory) ⊎ ((fault ≡ NotToml) × (parse_document text ≡ None)))
