-- What says the same to another member is spelled alike, but for the addressee's byte.
use Rattle.std.proofs.Common.{◌≡◌, ◌≤◌, ℕ, List, ◌∷◌, ◌++◌, length, take, drop, true, refl, sym, ap, subst, ◌∙◌, arith}
use Rattle.std.specs.Prelude.{Result, Ok, Err, IfOk}
use Rattle.std.specs.declared.alloc.AllocError.{AllocError}
use Rattle.std.specs.Global.{Vec}
use Rattle.protocol.specs.Ballots.{IsMember}
use Rattle.protocol.specs.Limits.{most_members}
use Rattle.protocol.specs.Versions.{Version}
use Rattle.protocol.specs.Packets.{Packet}
use Rattle.packets.specs.Rules.{keeps_rules}
use Rattle.packets.specs.Grammar.{Spells, SpellsAlike, IsPacket}
use Rattle.packets.specs.Laws.{Packings}
use Rattle.packets.specs.Spelling.{spelling}
use Rattle.packets.proofs.Written.{packet_are, packet_is, packet_written}

module _ (k : Packings) where
  to_another : (v : Version) (p : Packet) (to : ℕ) → take 7 (spelling v (record p { to = to })) ++ p.to ∷ drop 8 (spelling v (record p { to = to })) ≡ spelling v p
  to_another v p to = refl

  pub alike : (v : Version) (p : Packet) (bytes : List ℕ) → SpellsAlike v bytes p → IsMember most_members p.to → keeps_rules p ≡ true → Spells v (take 7 bytes ++ p.to ∷ drop 8 bytes) p
  alike v p bytes (to, s) member rules =
      let is = packet_is v bytes (record p { to = to }) s in
      let packet : IsPacket p =
      record {
        circuit = is.0.circuit;
        from = is.0.from;
        to = member;
        number_low = is.0.number_low;
        number_high = is.0.number_high;
        ballot = is.0.ballot;
        body = is.0.body;
        rules = rules;
      } in
      let are : bytes ≡ spelling v (record p { to = to }) = packet_are k v bytes (record p { to = to }) s in
      subst (λ (x : List ℕ). Spells v x p) (sym (ap (λ (b : List ℕ). take 7 b ++ p.to ∷ drop 8 b) are ∙ to_another v p to)) (packet_written k v p packet is.1)

  pub long : (v : Version) (p : Packet) (bytes : List ℕ) → SpellsAlike v bytes p → 8 ≤ length bytes
  long v p bytes (to, s) = let are : length bytes ≡ length (spelling v (record p { to = to })) = ap length (packet_are k v bytes (record p { to = to }) s) in omega arith

  -- what a copy with another addressee spells, in the grammar's words
  pub is_alike :
      (v : Version) (p : Packet) (bytes : List ℕ) (to : ℕ) (r : Result (Vec ℕ) AllocError) → IfOk r (λ o. o.items ≡ take 7 bytes ++ to ∷ drop 8 bytes) → to ≡ p.to
      → IsMember most_members to → SpellsAlike v bytes p → keeps_rules p ≡ true → IfOk r (λ o. Spells v o.items p)
  is_alike v p bytes to (Ok o) items is member spelled rules =
      let here : IsMember most_members p.to = subst (IsMember most_members) is member in
      subst (λ (x : List ℕ). Spells v x p) (sym (items ∙ ap (λ (n : ℕ). take 7 bytes ++ n ∷ drop 8 bytes) is)) (alike v p bytes spelled here rules)
  is_alike v p bytes to (Err x) items is member spelled rules = tt
