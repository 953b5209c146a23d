-- The laws of the grammar, and what a reader's and a writer's answer say in its words.
use Rattle.std.proofs.Common.{◌≡◌, ◌⊎◌, inl, inr, List, ℕ, [], ◌∷◌, ◌++◌, Some, None, Result, Ok, Err, refl, sym, ap, subst, ◌∙◌}
use Rattle.std.specs.Prelude.{IfOk, OnErr}
use Rattle.std.specs.declared.alloc.AllocError.{AllocError}
use Rattle.std.specs.Global.{Vec}
use Rattle.std.proofs.lemmas.List.{append-nil}
use Rattle.protocol.specs.Versions.{Version, One, Two}
use Rattle.protocol.specs.Packets.{Packet, Body, Prepare, Promise, Accept, Accepted, Nack}
use Rattle.protocol.specs.Fitting.{BodyFits}
use Rattle.packets.specs.declared.fault.PacketFault.{PacketFault}
use Rattle.packets.specs.Grammar.{IsBytes, Spells, SpellsAt, said_version}
use Rattle.packets.specs.Laws.{Packings, SaysItsVersion, OnePacket, NoFront, ReadsItAgain}
use Rattle.packets.specs.Reading.{ends, packet_in, packet_at}
use Rattle.packets.proofs.Written.{packet_are, packet_is}
use Rattle.packets.proofs.Again.{packet_again}
use Rattle.packets.proofs.Taken.{ok_is, packet_takes}
use Rattle.packets.proofs.Saying.{read_what_fits, two_reads_both}

-- whatever follows a spelling, the bytes say that they are of its version
says_before : (v : Version) (bytes rest : List ℕ) (p : Packet) → Spells v bytes p → said_version (bytes ++ rest) ≡ v
says_before One bytes rest p s = ap (λ (x : List ℕ). said_version (x ++ rest)) s.are
says_before Two bytes rest p s = ap (λ (x : List ℕ). said_version (x ++ rest)) s.are

pub says_its_version : SaysItsVersion
says_its_version One bytes p s = ap said_version s.are
says_its_version Two bytes p s = ap said_version s.are

no_more : (bytes rest : List ℕ) (p q : Packet) → ends p rest ≡ Ok q → bytes ≡ bytes ++ rest
no_more bytes [] p q e = sym (append-nil bytes)
no_more bytes (b ∷ rest) p q e = absurd cc

not_both : {p : Packet} {f : PacketFault} → Err f ≡ Ok p → ⊥
not_both h = absurd cc

in_either : (v : Version) (bytes : List ℕ) (p : Packet) → Spells v bytes p → Spells One bytes p ⊎ Spells Two bytes p
in_either One bytes p s = inl s
in_either Two bytes p s = inr s

-- version 2 has a spelling for each entry
fits_two : (b : Body) → BodyFits Two b
fits_two Prepare = tt
fits_two (Promise None) = tt
fits_two (Promise (Some vote)) = refl
fits_two (Accept entry) = refl
fits_two (Accepted entry) = refl
fits_two (Nack promised) = tt

-- what is read fits the version of the station that reads it
pub at_fits : (v : Version) (bytes : List ℕ) (r : Result Packet PacketFault) → r ≡ packet_at v bytes → IfOk r (λ p. BodyFits v p.body)
at_fits One bytes (Ok p) e = read_what_fits One bytes p (sym e)
at_fits Two bytes (Ok p) e = fits_two p.body
at_fits v bytes (Err f) e = tt

module _ (k : Packings) where
  -- what spells a packet is read as it, and bytes behind it are too many
  spelled : (v : Version) (bytes rest : List ℕ) (p : Packet) → Spells v bytes p → packet_in v (bytes ++ rest) ≡ ends p rest
  spelled v bytes rest p s =
      let is = packet_is v bytes p s in
      ap (λ (x : List ℕ). packet_in v (x ++ rest)) (packet_are k v bytes p s) ∙ packet_again k v p rest is.0 is.1

  pub is_read : ReadsItAgain
  is_read v bytes p s = ap (packet_in v) (sym (append-nil bytes)) ∙ spelled v bytes [] p s

  -- and so by a station of version 2
  pub is_two : (v : Version) (bytes : List ℕ) (p : Packet) → Spells v bytes p → packet_at Two bytes ≡ Ok p
  is_two v bytes p s = two_reads_both v bytes p (is_read v bytes p s)

  one_in : (v : Version) (bytes : List ℕ) (p q : Packet) → Spells v bytes p → Spells v bytes q → p ≡ q
  one_in v bytes p q s t = ok_is p q (sym (is_read v bytes p s) ∙ is_read v bytes q t)

  pub one_packet : OnePacket
  one_packet v w bytes p q s t =
      let version : v ≡ w = sym (says_its_version v bytes p s) ∙ says_its_version w bytes q t in
      (version, one_in w bytes p q (subst (λ (u : Version). Spells u bytes p) version s) t)

  no_front_in : (v : Version) (short long rest : List ℕ) (p q : Packet) → Spells v short p → Spells v long q → long ≡ short ++ rest → short ≡ long
  no_front_in v short long rest p q s t e =
      no_more short rest p q (sym (spelled v short rest p s) ∙ ap (packet_in v) (sym e) ∙ is_read v long q t) ∙ sym e

  pub no_front : NoFront
  no_front v w short long rest p q s t e =
      let version : v ≡ w = sym (says_before v short rest p s) ∙ ap said_version (sym e) ∙ says_its_version w long q t in
      no_front_in w short long rest p q (subst (λ (u : Version). Spells u short p) version s) t e

  -- ---- a reader's answer

  pub at_found : (v : Version) (bytes : List ℕ) (r : Result Packet PacketFault) → IsBytes bytes → r ≡ packet_at v bytes → IfOk r (λ p. SpellsAt v bytes p)
  at_found One bytes (Ok p) fits e = packet_takes k One bytes p fits (sym e)
  at_found Two bytes (Ok p) fits e = in_either (said_version bytes) bytes p (packet_takes k (said_version bytes) bytes p fits (sym e))
  at_found v bytes (Err f) fits e = tt

  pub at_read : (v : Version) (bytes : List ℕ) (p : Packet) → SpellsAt v bytes p → packet_at v bytes ≡ Ok p
  at_read One bytes p s = is_read One bytes p s
  at_read Two bytes p (inl s) = is_two One bytes p s
  at_read Two bytes p (inr s) = is_two Two bytes p s

  pub at_nothing : (v : Version) (bytes : List ℕ) (r : Result Packet PacketFault) → r ≡ packet_at v bytes → OnErr r ((p : Packet) → SpellsAt v bytes p → ⊥)
  at_nothing v bytes (Ok p) e = tt
  at_nothing v bytes (Err f) e = λ p s. not_both (e ∙ at_read v bytes p s)

  -- ---- a writer's answer

  pub is_again : (v : Version) (p : Packet) (r : Result (Vec ℕ) AllocError) → IfOk r (λ o. Spells v o.items p) → IfOk r (λ o. packet_in v o.items ≡ Ok p)
  is_again v p (Ok o) s = is_read v o.items p s
  is_again v p (Err x) s = tt

  pub is_own : (v : Version) (bytes : List ℕ) (p : Packet) → Spells v bytes p → packet_at v bytes ≡ Ok p
  is_own One bytes p s = is_read One bytes p s
  is_own Two bytes p s = is_two Two bytes p s
