-- What holds of what is sealed.
use Rattle.std.proofs.Common.{◌≡◌, ◌≢◌, ℕ, ◌+◌, ◌-◌, ◌*◌, List, [], ◌∷◌, ◌++◌, length, take, drop, Result, Ok, refl, sym, ap, ◌∙◌, arith}
use Rattle.std.specs.Prelude.{slice_index}
use Rattle.std.proofs.lemmas.List.{length-take, length-drop, length-append, take_at, drop_at}
use Rattle.seals.specs.declared.head.SealFault.{SealFault}
use Rattle.hmac.specs.Laws.{TagsHaveTheirLength}
use Rattle.seals.specs.declared.label.Label.{Label}
use Rattle.seals.specs.declared.head.Head.{Head}
use Rattle.seals.specs.Sealing.{part_of, part_len, head_of, tag_of}
use Rattle.seals.specs.Reading.{head_at}
use Rattle.seals.specs.Opening.{Opens}
use Rattle.seals.specs.Laws.{OpensWhatIsSealed, OnePiece, DatagramsAreShort, FewDatagrams, TagsAreApart}
use Rattle.seals.proofs.Heads.{length-tag_of, length-opens, head_again}

-- how long a part is
pub length-part_of : (packet : List ℕ) (index : ℕ) → length (part_of packet index) ≡ part_len (length packet) index
length-part_of packet index =
    let rest = length-drop (1192 * index) packet in
    length-take 1192 (drop (1192 * index) packet) ∙ omega arith

pub opens_sealed : TagsHaveTheirLength → OpensWhatIsSealed
opens_sealed tags = λ block from to packet index is_from is_to differ some few at. record {
  are = refl;
  from = is_from;
  to_is_member = is_to;
  to = refl;
  differ = differ;
  some = some;
  few = few;
  index_low = at;
  part_length = length-part_of packet index;
  id_length = length-tag_of tags block (84 ∷ 87 ∷ from ∷ to ∷ [] ++ packet);
}

pub are_short : TagsHaveTheirLength → DatagramsAreShort
are_short tags = λ block own bytes label index part o.
    let long = length-opens tags block own bytes label index part o in
    omega arith

pub are_few : FewDatagrams
are_few = λ length few. omega arith

apart : (a b : ℕ) → a ≡ 83 → b ≡ 87 → a ≢ b
apart a b p q e = absurd (omega arith)

pub are_apart : TagsAreApart
are_apart = λ label index from to part packet e. apart 83 87 refl refl (ap (λ (l : List ℕ). slice_index l 1) e)

-- the part, from the bytes
part_from : TagsHaveTheirLength → (block : List ℕ) (own : ℕ) (bytes : List ℕ) (label : Label) (index : ℕ) (part : List ℕ) → Opens block own bytes label index part
    → drop 24 (take (length bytes - 16) bytes) ≡ part
part_from tags block own bytes label index part o =
    let front = head_of label index ++ part in
    let tag = tag_of block front in
    let sixteen = length-tag_of tags block front in
    let whole : length bytes ≡ length front + 16 = ap length o.are ∙ length-append front tag ∙ omega arith in
    let less : length front ≡ length bytes - 16 = omega arith in
    let id = o.id_length in
    let taken : take (length bytes - 16) bytes ≡ front = ap (λ (l : List ℕ). take (length bytes - 16) l) o.are ∙ take_at front tag (length bytes - 16) less in
    ap (λ (l : List ℕ). drop 24 l) taken ∙ drop_at (head_of label index) part 24 (omega arith)

head_is : (h k : Head) (r : Result Head SealFault) → r ≡ Ok h → r ≡ Ok k → h ≡ k
head_is h k r a b = cc

pub one_piece_of : TagsHaveTheirLength → OnePiece
one_piece_of tags = λ block other own bytes label label' index index' part part' o p.
    let first = head_again tags block own bytes label index part o in
    let second = head_again tags other own bytes label' index' part' p in
    let head = head_is (record { label = label; index = index }) (record { label = label'; index = index' }) (head_at own bytes) first second in (
      ap (λ (h : Head). h.label) head,
      ap (λ (h : Head). h.index) head,
      sym (part_from tags block own bytes label index part o) ∙ part_from tags other own bytes label' index' part' p,
    )
