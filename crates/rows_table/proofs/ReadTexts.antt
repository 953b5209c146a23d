-- What the statements are that read a table.
use Rattle.std.proofs.Common.{◌≡◌, ℕ, pos, negsuc, List, [], ◌∷◌, codes, false, None, refl}
use Rattle.sqlite.specs.Term.{Term, lit, col}
use Rattle.sqlite.specs.Collation.TheVariants.{Binary}
use Rattle.sqlite.specs.declared.types.Value.TheVariants.{Int}
use Rattle.sqlite.specs.Command.TheVariants.{Select}
use Rattle.sqlite.specs.Query.{Query, inner, end}
use Rattle.sqlite.specs.Schema.{Schema}
use Rattle.sqlite_tied.specs.Compute.{everything}
use Rattle.sqlite.specs.Listing.{understood, reads_listing}
use Rattle.sqlite.proofs.Callers.{IsPlain, command_of}
use Rattle.rows_table.specs.Tables.{Layout, layout_tree, layout_schema}
use Rattle.rows_table.specs.declared.layout.Layout.TheVariants.{One, Two}
use Rattle.rows_table.specs.declared.layout.LayoutOrigin.TheVariants.{Created, Upgraded}
use Rattle.rows_table.specs.Layouts.{get_text, all_text}
use Rattle.rows_table.proofs.TextLemmas.{by_key}

-- in this schema the text is this query, whose columns have these names
pub record IsQuery (schema : Schema) (text : List ℕ) (query : Query) (names : List (List ℕ)) : Type 0 where
  pub command : command_of (understood schema text) ≡ Select (record { lets = []; body = query }) names
  pub unlisted : reads_listing schema text ≡ false
  pub plain : IsPlain (understood schema text)

abbrev pub shown_columns : Layout → List Term
shown_columns One = col 1 2 ∷ col 1 3 ∷ col 1 4 ∷ col 1 5 ∷ col 1 6 ∷ []
shown_columns (Two origin) = col 1 2 ∷ col 1 3 ∷ col 1 4 ∷ col 1 5 ∷ col 1 6 ∷ col 1 7 ∷ []

abbrev pub names : Layout → List (List ℕ)
names One = codes "promised_round" ∷ codes "promised_owner" ∷ codes "vote_round" ∷ codes "vote_owner" ∷ codes "tape" ∷ []
names (Two origin) = codes "promised_round" ∷ codes "promised_owner" ∷ codes "vote_round" ∷ codes "vote_owner" ∷ codes "length" ∷ codes "packed" ∷ []

pub get_is : (layout : Layout) → IsQuery (layout_schema layout) (get_text layout) (by_key (layout_tree layout) 0 (shown_columns layout)) (names layout)
unfolding understood everything
get_is One = record { command = refl; unlisted = refl; plain = (refl, refl) }
get_is (Two Created) = record { command = refl; unlisted = refl; plain = (refl, refl) }
get_is (Two Upgraded) = record { command = refl; unlisted = refl; plain = (refl, refl) }

abbrev pub in_order : Layout → Query
in_order layout = record {
  from = inner (layout_tree layout) end;
  filter = [];
  group = None;
  project = col 1 0 ∷ shown_columns layout;
  distinct = false;
  collations = [];
  order = (col 1 0, record { collation = Binary; descending = false }) ∷ [];
  limit = lit (Int (negsuc 0));
  offset = lit (Int (pos 0));
}

abbrev pub all_names : Layout → List (List ℕ)
all_names layout = codes "number" ∷ names layout

pub all_is : (layout : Layout) → IsQuery (layout_schema layout) (all_text layout) (in_order layout) (all_names layout)
unfolding understood everything
all_is One = record { command = refl; unlisted = refl; plain = (refl, refl) }
all_is (Two Created) = record { command = refl; unlisted = refl; plain = (refl, refl) }
all_is (Two Upgraded) = record { command = refl; unlisted = refl; plain = (refl, refl) }

abbrev pub station_text : List ℕ
station_text = codes "SELECT one, layout, circuit, member, members FROM station"

abbrev pub of_station : Query
of_station = record {
  from = inner 0 end;
  filter = [];
  group = None;
  project = col 1 0 ∷ col 1 2 ∷ col 1 3 ∷ col 1 4 ∷ col 1 5 ∷ [];
  distinct = false;
  collations = [];
  order = [];
  limit = lit (Int (negsuc 0));
  offset = lit (Int (pos 0));
}

abbrev pub station_names : List (List ℕ)
station_names = codes "one" ∷ codes "layout" ∷ codes "circuit" ∷ codes "member" ∷ codes "members" ∷ []

pub station_is : (layout : Layout) → IsQuery (layout_schema layout) station_text of_station station_names
unfolding understood everything
station_is One = record { command = refl; unlisted = refl; plain = (refl, refl) }
station_is (Two Created) = record { command = refl; unlisted = refl; plain = (refl, refl) }
station_is (Two Upgraded) = record { command = refl; unlisted = refl; plain = (refl, refl) }
