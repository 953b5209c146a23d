-- Datagrams, one after the other.
use Rattle.std.proofs.Common.{◌≡◌, ℕ, ◌+◌, ◌<◌, List, [], ◌∷◌, ◌++◌, length, take, drop, get_or, Option, Result, Ok, refl, sym, ap, ◌∙◌, arith, append_assoc}
use Rattle.std.specs.Io.KnownBytes.{Appends}
use Rattle.std.proofs.KnownBytes.{Appends-trans}
use Rattle.std.proofs.lemmas.List.{take-append-drop, length-take, take_more, append-nil}
use Rattle.streams.specs.Fronts.{AppendsFront}
use Rattle.streams.proofs.Parts.{front_then, front_of}
use Rattle.protocol.specs.Versions.{Two}
use Rattle.protocol.specs.Packets.{Packet}
use Rattle.protocol.specs.Circuit.{Datagram}
use Rattle.packets.specs.Reading.{packet_at}
use Rattle.packets.specs.declared.fault.PacketFault.{PacketFault}
use Rattle.rehearse_command.specs.Datagrams.{packet_line, spelled_line, datagram_line, datagrams_text}

-- a line of what bytes spell is that of their datagram
pub datagram_is : (k : ℕ) (d : Datagram) (bytes : List ℕ) (p : Packet) (text : List ℕ) → bytes ≡ d.bytes → Ok p ≡ packet_at Two bytes → text ≡ packet_line k p → text ≡ datagram_line k d
datagram_is k d bytes p text same exact is = is ∙ ap (λ (r : Result Packet PacketFault). spelled_line k r) (exact ∙ ap (packet_at Two) same)

datagrams_append : (before : ℕ) (xs ys : List Datagram) → datagrams_text before (xs ++ ys) ≡ datagrams_text before xs ++ datagrams_text (before + length xs) ys
datagrams_append before [] ys = ap (λ m. datagrams_text m ys) (omega arith)
datagrams_append before (x ∷ xs) ys =
    let same : before + 1 + length xs ≡ before + length (x ∷ xs) = omega arith in
    ap (λ (zs : List ℕ). datagram_line (before + 1) x ++ zs) (datagrams_append (before + 1) xs ys ∙ rw same refl)
    ∙ sym (append_assoc (datagram_line (before + 1) x) (datagrams_text (before + 1) xs) (datagrams_text (before + length (x ∷ xs)) ys))

datagrams_more : (before : ℕ) (ds : List Datagram) (i : ℕ) (d : Datagram) → i < length ds → d ≡ get_or ds i d
    → datagrams_text before (take (i + 1) ds) ≡ datagrams_text before (take i ds) ++ datagram_line (before + i + 1) d
datagrams_more before ds i d lt is =
    let long : before + length (take i ds) ≡ before + i = omega (arith, length-take i ds) in
    ap (datagrams_text before) (take_more ds i d lt) ∙ (datagrams_append before (take i ds) (get_or ds i d ∷ []) ∙ rw (long, ← is) (ap (λ (ys : List ℕ). datagrams_text before (take i ds) ++ ys) (append-nil (datagram_line (before + i + 1) d))))

pub wrote_datagram : (before : ℕ) (ds : List Datagram) (i : ℕ) (d : Datagram) (a b c : Option (List ℕ)) → i < length ds → d ≡ get_or ds i d
    → Appends a b (datagrams_text before (take i ds)) → Appends b c (datagram_line (before + i + 1) d) → Appends a c (datagrams_text before (take (i + 1) ds))
wrote_datagram before ds i d a b c lt is p q =
    rw (datagrams_more before ds i d lt is) (Appends-trans a b c (datagrams_text before (take i ds)) (datagram_line (before + i + 1) d) p q)

pub stopped_datagram : (before : ℕ) (ds : List Datagram) (i : ℕ) (d : Datagram) (a b c : Option (List ℕ)) → i < length ds → d ≡ get_or ds i d
    → Appends a b (datagrams_text before (take i ds)) → AppendsFront b c (datagram_line (before + i + 1) d) → AppendsFront a c (datagrams_text before ds)
stopped_datagram before ds i d a b c lt is p q =
    let some = rw (← datagrams_more before ds i d lt is) at (front_then a b c (datagrams_text before (take i ds)) (datagram_line (before + i + 1) d) p q) in
    let all = front_of a c (datagrams_text before (take (i + 1) ds)) (datagrams_text (before + length (take (i + 1) ds)) (drop (i + 1) ds)) some in
    rw (← datagrams_append before (take (i + 1) ds) (drop (i + 1) ds), take-append-drop (i + 1) ds) at all
