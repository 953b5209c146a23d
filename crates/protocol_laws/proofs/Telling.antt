-- A recall tells the row's vote, line by line of the table.
use Rattle.std.proofs.Common.{◌≡◌, ℕ, refl, sym, ap, subst, ◌∙◌, List, [], ◌∷◌, Some, None}
use Rattle.protocol.specs.Seats.{Seat}
use Rattle.protocol.specs.Rows.{Vote, Row}
use Rattle.protocol.specs.Packets.{Accepted}
use Rattle.protocol.specs.Marks.{Mark}
use Rattle.protocol.specs.Turn.{Turn, packet_to, Note_recalled}
use Rattle.protocol.specs.Table.{Hears, RecallTurn, is_blank, tells_again, hears_again, TellsTheVote, RecallsTellTheVote}
use Rattle.protocol_laws.proofs.Meeting.{recall_is}

none_some : {A : Type 0} {x : A} → None ≡ Some x → ⊥
none_some e = cc

some_same : {A : Type 0} {x y : A} → Some x ≡ Some y → x ≡ y
some_same e = cc

tells : {s : Seat} {n to : ℕ} {marks : List Mark} {row : Row} {t : Turn} → RecallTurn s n to marks row t → TellsTheVote s n to marks row t
tells {s = s} {n = n} {to = to} {marks = marks} {row = row} (is_blank none e) =
    subst (λ (x : Turn). TellsTheVote s n to marks row x) (sym e) (record {
      saves_nothing = refl;
      blank = λ f. refl;
      noted = λ v f. absurd (none_some (sym none ∙ f));
      told = λ v f o. absurd (none_some (sym none ∙ f));
      heard = λ v f o. absurd (none_some (sym none ∙ f));
    })
tells {s = s} {n = n} {to = to} {marks = marks} {row = row} (tells_again b own other at_it e) =
    subst (λ (x : Turn). TellsTheVote s n to marks row x) (sym e) (record {
      saves_nothing = refl;
      blank = λ f. absurd (none_some (sym f ∙ at_it));
      noted = λ v f. ap (λ (x : Vote). Note_recalled x.ballot) (some_same (sym at_it ∙ f));
      told = λ v f o. (ap (λ (x : Vote). packet_to s n x.ballot (Accepted x.entry) to ∷ []) (some_same (sym at_it ∙ f)), refl, refl);
      heard = λ v f o. absurd (other o);
    })
tells {s = s} {n = n} {to = to} {marks = marks} {row = row} (hears_again b own release after mine at_it hearing e) =
    subst (λ (x : Turn). TellsTheVote s n to marks row x) (sym e) (record {
      saves_nothing = refl;
      blank = λ f. absurd (none_some (sym f ∙ at_it));
      noted = λ v f. ap (λ (x : Vote). Note_recalled x.ballot) (some_same (sym at_it ∙ f));
      told = λ v f o. absurd (o mine);
      heard = λ v f o.
          (refl, subst (λ (x : Vote). Hears s.members n s.me x.ballot x.entry marks release after) (some_same (sym at_it ∙ f)) hearing);
    })

pub recalls_tell_the_vote : RecallsTellTheVote
recalls_tell_the_vote s marks row n to t e = subst (λ (x : Turn). TellsTheVote s n to marks row x) (some_same e) (tells (recall_is s n to marks row))
