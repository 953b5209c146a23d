-- What was written of rows as they came.
use Rattle.std.proofs.Common.{◌≡◌, ◌⊎◌, inl, inr, ℕ, Bool, true, false, List, [], ◌∷◌, ◌++◌, Option, Some, None, is_some, true≢false, sym, ap, subst, ◌∙◌, append_assoc}
use Rattle.std.specs.Prelude.{flat_map}
use Rattle.std.proofs.lemmas.Grind.{flat_map-append}
use Rattle.std.proofs.lemmas.List.{append-nil}
use Rattle.protocol.specs.Rows.{Row}
use Rattle.streams.specs.Fronts.{AppendsFront}
use Rattle.streams.proofs.Fronts.{front_of_all}
use Rattle.rows_saved.specs.Saved.{Saved}
use Rattle.rows_saved.specs.declared.identity.Identity.{Identity}
use Rattle.acceptor_store.specs.Reading.{IsFrontOf}
use Rattle.streams.specs.declared.output.PutFault.{PutFault}
use Rattle.rows_command.specs.RowsText.{row_line, station_line, rows_text, IsFrontPrinted}
use Rattle.rows_command.specs.Printing.{head_text, Prints, PrintsAll}
use Rattle.rows_command.proofs.Listings.{begun as front_begun, behind}

-- the text of rows is that of the first of them, and then the lines of the others
text_of : (i : Identity) (rows more : List (ℕ × Row)) → rows_text i (rows ++ more) ≡ rows_text i rows ++ flat_map row_line more
text_of i rows more = ap (λ l. station_line i ++ l) (flat_map-append row_line rows more) ∙ sym (append_assoc (station_line i) (flat_map row_line rows) (flat_map row_line more))

-- behind rows comes the line of the next
text_next : (i : Identity) (rows : List (ℕ × Row)) (p : ℕ × Row) → rows_text i (rows ++ p ∷ []) ≡ rows_text i rows ++ row_line p
text_next i rows p = text_of i rows (p ∷ []) ∙ ap (λ l. rows_text i rows ++ l) (append-nil (row_line p))

-- and before the first its station
text_first : (i : Identity) (p : ℕ × Row) → rows_text i (p ∷ []) ≡ station_line i ++ row_line p
text_first i p = ap (λ l. station_line i ++ l) (append-nil (row_line p))

module _ (i : Identity) (old mid new : Option (List ℕ)) (rows : List (ℕ × Row)) (p : ℕ × Row) where
  -- a front of the next line was written
  pub stopped_next : (begun : Bool) → Prints i old mid begun None rows → AppendsFront mid new (head_text i begun ++ row_line p) → AppendsFront old new (rows_text i (rows ++ p ∷ []))
  stopped_next true before line = subst (AppendsFront old new) (sym (text_next i rows p)) (behind old mid new (rows_text i rows) (row_line p) before line)
  stopped_next false before line =
      subst (λ l. AppendsFront old new (rows_text i (l ++ p ∷ []))) (sym before.1) (subst (AppendsFront old new) (sym (text_first i p)) (subst (λ o. AppendsFront o new (station_line i ++ row_line p)) before.0 line))

-- once a line was not written, nothing is
pub stopped_after : (i : Identity) (old new : Option (List ℕ)) (begun : Bool) (fault : Option PutFault) (rows : List (ℕ × Row)) (p : ℕ × Row) → is_some fault ≡ true → Prints i old new begun fault rows → Prints i old new begun fault (rows ++ p ∷ [])
stopped_after i old new begun None rows p some before = absurd (true≢false (sym some))
stopped_after i old new begun (Some fault) rows p some before = subst (AppendsFront old new) (sym (text_next i rows p)) (front_begun old new (rows_text i rows) (row_line p) before)

-- what was written of the first rows is a front of the text of all, or nothing
pub front_printed : (saved : Saved) (i : Identity) (old new : Option (List ℕ)) (begun : Bool) (fault : Option PutFault) (rows : List (ℕ × Row)) → IsFrontOf saved rows → Prints i old new begun fault rows
    → (new ≡ old) ⊎ IsFrontPrinted saved i old new
front_printed saved i old new begun fault rows front printed = at begun fault printed
  where
    whole : AppendsFront old new (rows_text i rows) → IsFrontPrinted saved i old new
    whole wrote = record {
      rows = rows ++ front.0;
      are_all = front.1;
      wrote = subst (AppendsFront old new) (sym (text_of i rows front.0)) (front_begun old new (rows_text i rows) (flat_map row_line front.0) wrote);
    }

    at : (begun : Bool) (fault : Option PutFault) → Prints i old new begun fault rows → (new ≡ old) ⊎ IsFrontPrinted saved i old new
    at begun (Some f) wrote = inr (whole wrote)
    at true None wrote = inr (whole (front_of_all old new (rows_text i rows) wrote))
    at false None same = inl same.0

-- where no row came the station was missing
end_text : (i : Identity) → rows_text i [] ≡ station_line i
end_text i = append-nil (station_line i)

module _ (saved : Saved) (i : Identity) (old mid new : Option (List ℕ)) where
  -- all rows came, and a front of what was missing was written
  pub end_stopped : (begun : Bool) → PrintsAll saved i old mid begun → AppendsFront mid new (head_text i begun) → IsFrontPrinted saved i old new
  end_stopped true all rest = record { rows = all.0; are_all = all.1; wrote = subst (AppendsFront old new) (append-nil (rows_text i all.0)) (behind old mid new (rows_text i all.0) [] all.2 rest) }
  end_stopped false all rest = record {
    rows = all.0;
    are_all = all.1;
    wrote = subst (λ l. AppendsFront old new (rows_text i l)) (sym all.2.1) (subst (AppendsFront old new) (sym (end_text i)) (subst (λ o. AppendsFront o new (station_line i)) all.2.0 rest));
  }
