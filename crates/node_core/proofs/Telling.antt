-- A recall of a number that was released.
use Rattle.std.proofs.Common.{◌≡◌, ℕ, refl, ap, ◌∙◌, List, [], Option, Some, None, true}
use Rattle.std.specs.Prelude.{◌==◌, option_map}
use Rattle.std.proofs.lemmas.Bool.{eq-eqb}
use Rattle.protocol.specs.Seats.{Seat}
use Rattle.protocol.specs.Rows.{Vote, Row}
use Rattle.protocol.specs.Marks.{Mark}
use Rattle.protocol.specs.Proposals.{was_released}
use Rattle.protocol.specs.Turn as said
use Rattle.protocol.specs.Turn.{after_hearing, hear, recall_turn}
use Rattle.tape_frames.specs.Entries.{owned_entry}
use Rattle.node_core.specs.declared.turn.Turn.{Turn}
use Rattle.node_core.specs.Handling.{IsTurnAlone, TellsItself, IsTelling}
use Rattle.node_core.specs.Turns.{note_value}

module _ (s : Seat) (n to : ℕ) (row : Row) where
  -- the station hears the vote from itself
  itself_told :
      (marks : List Mark) (x : Turn) (own : Vote) → TellsItself s to row x own
      → recall_turn s n to marks row row.vote ≡ after_hearing row [] (said.Note_recalled own.ballot) (hear s.members n s.me own.ballot own.entry marks)
  itself_told marks x own h =
      let t : (to == s.me) ≡ true = eq-eqb to s.me h.itself in
      ap (recall_turn s n to marks row) h.vote ∙ rw t refl

  -- of a number that was released nothing is heard
  pub telling_alone :
      (marks : List Mark) (x : Turn) (own : Option Vote) → IsTelling s n to row x own → was_released n marks ≡ true
      → IsTurnAlone row marks (recall_turn s n to marks row row.vote) x
  telling_alone marks x None h r = h marks
  telling_alone marks x (Some own) h r = rw (itself_told marks x own h, r) (record {
    is_turn = record {
      row_after = rw h.nothing.saves refl;
      out = rw h.nothing.sends refl;
      release = ap (option_map owned_entry) h.nothing.releases;
      note = ap note_value h.noted;
    };
    takes_nothing = refl;
    releases_nothing = h.nothing.releases;
  })
