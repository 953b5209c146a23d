-- The least frame that passes.
use Rattle.std.proofs.Common.{◌≡◌, ℕ, ◌<◌, true, Some, None}
use Rattle.code_table.specs.declared.case.Case.{Case}
use Rattle.code_table.specs.declared.meaning.Meaning.{Meaning}
use Rattle.slug_reader.specs.Positions.{before, first}
use Rattle.slug_reader.specs.Meanings.{Meanings, selected_by}
use Rattle.text_tape.specs.Codes.{all_frames, is_meant, is_case, if_so, frame_of, turn_to}
use Rattle.text_tape.proofs.Lists.{first_here}

pub frame_found : (means : Meanings) (case : Case) (m : Meaning) (i : ℕ) → first (λ f. if_so (is_meant m (means case f)) f) (before i) ≡ None → is_meant m (means case i) ≡ true → i < 64 → frame_of means case m ≡ Some i
unfolding frame_of all_frames
frame_found means case m i none here lt = first_here (λ f. is_meant m (means case f)) i 64 none here lt

pub frame_none : (means : Meanings) (case : Case) (m : Meaning) (n : ℕ) → n ≡ 64 → first (λ f. if_so (is_meant m (means case f)) f) (before n) ≡ None → frame_of means case m ≡ None
unfolding frame_of all_frames
frame_none means case m n e none = rw e at none

pub turn_found : (means : Meanings) (case : Case) (i : ℕ) → first (λ f. if_so (is_case case (selected_by means f)) f) (before i) ≡ None → is_case case (selected_by means i) ≡ true → i < 64 → turn_to means case ≡ Some i
unfolding turn_to all_frames
turn_found means case i none here lt = first_here (λ f. is_case case (selected_by means f)) i 64 none here lt

pub turn_none : (means : Meanings) (case : Case) (n : ℕ) → n ≡ 64 → first (λ f. if_so (is_case case (selected_by means f)) f) (before n) ≡ None → turn_to means case ≡ None
unfolding turn_to all_frames
turn_none means case n e none = rw e at none
