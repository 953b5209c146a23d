-- What `check` writes: the galley of its three inputs.
use Rattle.std.specs.Prelude.{◌≡◌, ℕ, List, Option, Ok, IfSome, false}
use Rattle.std.specs.Io.KnownBytes.{Appends}
use Rattle.toml.specs.Parse.{parse_document}
use Rattle.code_table.specs.Tables.{Places, mean}
use Rattle.code_table.specs.Reading.{read_table}
use Rattle.widths.specs.Widths.{WidthFile}
use Rattle.widths.specs.Reading.{read_widths}
use Rattle.slug_reader.specs.Meanings.{Meanings}
use Rattle.line_check.specs.declared.slug.Slug.{Slug}
use Rattle.line_check.specs.Sets.{Sets}
use Rattle.line_check.specs.Galley.{galley_of}
use Rattle.command_ends.specs.Ends.{IsOfInput}
use Rattle.command_ends.specs.declared.end.End.{End}
use Rattle.command_ends.specs.declared.end.End.TheVariants.{Done}
use Rattle.check_command.specs.declared.galley.CheckOrder.{CheckOrder}

-- the tape sets as slugs, and their galley was written
pub record IsSetAs (means : Meanings) (file : WidthFile) (tape : List ℕ) (old new : Option (List ℕ)) : Type 0 where
  pub slugs : List Slug
  pub sets : Sets means file tape (Ok slugs)
  pub wrote : Appends old new (galley_of slugs)

-- the texts are a code table and a width file, and the tape's galley by them was written
pub record IsGalleyOf (table widths tape : List ℕ) (old new : Option (List ℕ)) : Type 0 where
  pub places : Places
  pub file : WidthFile
  pub is_table : read_table (parse_document table) ≡ Ok places
  pub is_widths : read_widths (parse_document widths) ≡ Ok file
  pub is_set : IsSetAs (mean places) file tape old new

-- the galley of the three texts was written, where these are known
abbrev pub WritesGalley : Option (List ℕ) → Option (List ℕ) → Option (List ℕ) → Option (List ℕ) → Option (List ℕ) → Type 0
WritesGalley table widths tape old new = IfSome table (λ ts. IfSome widths (λ ws. IfSome tape (λ xs. IsGalleyOf ts ws xs old new)))

-- without a listing, the galley of an order's three texts was written
abbrev pub Checks : {R : Type 0} → (R → Option (List ℕ)) → CheckOrder R → Option (List ℕ) → Option (List ℕ) → Type 0
Checks remaining order old new =
    order.listing ≡ false → WritesGalley (remaining order.table) (remaining order.widths) (remaining order.tape) old new

-- `check` ends by a fault of an input, the output or memory; or well, and then it has written what it was asked for
pub record CheckEnds {R : Type 0} (remaining : R → Option (List ℕ)) (order : CheckOrder R) (old new : Option (List ℕ)) (end : End) : Type 0 where
  pub done : end ≡ Done → Checks remaining order old new
  pub ends : IsOfInput end
