-- Scenes, one after the other.
use Rattle.std.proofs.Common.{◌≡◌, ℕ, ◌+◌, List, [], ◌∷◌, ◌++◌, length, sym, ap, ◌∙◌, arith, append_assoc}
use Rattle.std.specs.Prelude.{flat_map}
use Rattle.std.proofs.lemmas.List.{length-append, append-nil}
use Rattle.protocol.specs.Circuit.{Datagram}
use Rattle.rehearse_command.specs.Scenes.{Scene, scene_text, scenes_text}

abbrev pub sent_in : List Scene → List Datagram
sent_in scenes = flat_map (λ (s : Scene). s.sent) scenes

pub scenes_more : (before : ℕ) (scenes : List Scene) (s : Scene) → scenes_text before (scenes ++ s ∷ []) ≡ scenes_text before scenes ++ scene_text (before + length (sent_in scenes)) s
scenes_more before [] s =
    let same : before ≡ before + 0 = omega arith in
    append-nil (scene_text before s) ∙ ap (λ (n : ℕ). scene_text n s) same
scenes_more before (x ∷ scenes) s =
    let same : before + length x.sent + length (sent_in scenes) ≡ before + length (x.sent ++ sent_in scenes) = omega (arith, length-append x.sent (sent_in scenes)) in
    ap (λ (zs : List ℕ). scene_text before x ++ zs) (scenes_more (before + length x.sent) scenes s ∙ ap (λ (n : ℕ). scenes_text (before + length x.sent) scenes ++ scene_text n s) same)
    ∙ sym (append_assoc (scene_text before x) (scenes_text (before + length x.sent) scenes) (scene_text (before + length (x.sent ++ sent_in scenes)) s))
