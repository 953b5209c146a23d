-- The packets to the others, member by member.
use Rattle.std.proofs.Common.{◌≡◌, ◌⊎◌, inl, inr, ◌≤◌, ◌<◌, ℕ, zero, suc, ◌+◌, refl, sym, ap, subst, ◌∙◌, List, [], ◌∷◌, ◌++◌, Option, Some, None, Bool, true, false, length, arith, length-append}
use Rattle.std.specs.Prelude.{filter, not, slice_get, option_map, is_some, ◌==◌, ◌-◌, ◌*◌}
use Rattle.std.proofs.lemmas.Bool.{eqb-true, eqb-false, ne_eqb, eq-eqb}
use Rattle.std.proofs.lemmas.List.{length-map}
use Rattle.std.proofs.lemmas.List.Elements.{filter-append}
use Rattle.std.proofs.lemmas.Option.{slice_get-map, slice_get_past, slice_get_within}
use Rattle.protocol.specs.Ballots.{Ballot, members}
use Rattle.protocol.specs.Entries.{Entry}
use Rattle.protocol.specs.Rows.{Vote}
use Rattle.protocol.specs.Packets.{Packet, Body, Prepare, Accept, Accepted}
use Rattle.protocol.specs.Turn.{packet_to, others, to_others, proposal_to_others}
use Rattle.packets.specs.Rules.{keeps_rules, kind_of, may_send, may_say}
use Rattle.protocol.specs.Seats.{Seat}
use Rattle.packets.specs.Mails.{Mail, SaysTheSame, letter_sends, mail_sends}
use Rattle.packets.specs.declared.letter.Letter.{Letter}
use Rattle.packets.specs.declared.letter.Letter.TheVariants as letters

-- the members of c other than m
abbrev besides : ℕ → ℕ → List ℕ
besides c m = filter (λ k. not (k == m)) (members c)

-- what stands at a place of two lists in a row
pub first_at : {A : Type 0} (xs ys : List A) (i : ℕ) → i < length xs → slice_get (xs ++ ys) i ≡ slice_get xs i
first_at [] ys i h = absurd (omega arith)
first_at (x ∷ xs) ys zero h = refl
first_at (x ∷ xs) ys (suc i) h = first_at xs ys i (omega arith)

pub second_at : {A : Type 0} (xs ys : List A) (i j : ℕ) → i ≡ length xs + j → slice_get (xs ++ ys) i ≡ slice_get ys j
second_at [] ys i j e = let same : i ≡ j = omega arith in ap (slice_get ys) same
second_at (x ∷ xs) ys zero j e = absurd (omega arith)
second_at (x ∷ xs) ys (suc i) j e = second_at xs ys i j (omega arith)

-- one more member is another, or not
module _ (m c : ℕ) where
  and_other : (suc c ≡ m → ⊥) → besides (suc c) m ≡ besides c m ++ suc c ∷ []
  and_other other =
      let f : (suc c == m) ≡ false = ne_eqb (suc c) m other in
      filter-append (λ k. not (k == m)) (members c) (suc c ∷ []) ∙ rw f refl

  and_own : suc c ≡ m → besides (suc c) m ≡ besides c m ++ []
  and_own own =
      let t : (suc c == m) ≡ true = eq-eqb (suc c) m own in
      filter-append (λ k. not (k == m)) (members c) (suc c ∷ []) ∙ rw t refl

  besides_and : (suc c ≡ m → ⊥) → length (besides (suc c) m) ≡ length (besides c m) + 1
  besides_and other = ap length (and_other other) ∙ length-append (besides c m) (suc c ∷ [])

  besides_still : suc c ≡ m → length (besides (suc c) m) ≡ length (besides c m)
  besides_still own = ap length (and_own own) ∙ length-append (besides c m) [] ∙ omega arith

all_but : (c m : ℕ) → c < m → length (besides c m) ≡ c
all_but zero m h = refl
all_but (suc c) m h = besides_and m c (omega arith) ∙ (let e : length (besides c m) ≡ c = all_but c m (omega arith) in omega arith)

besides_few : (c m : ℕ) → 1 ≤ m → m ≤ c → length (besides c m) + 1 ≡ c
besides_few zero m low high = absurd (omega arith)
besides_few (suc c) m low high = go (suc c == m) refl (λ h. besides_few c m low h)
  where
    go : (t : Bool) → (suc c == m) ≡ t → (m ≤ c → length (besides c m) + 1 ≡ c) → length (besides (suc c) m) + 1 ≡ suc c
    go true e rest =
        let own : suc c ≡ m = eqb-true (suc c) m e in
        let same : length (besides (suc c) m) ≡ length (besides c m) = besides_still m c own in
        let all : length (besides c m) ≡ c = all_but c m (omega arith) in
        omega arith
    go false e rest =
        let other : suc c ≡ m → ⊥ = eqb-false (suc c) m e in
        let more : length (besides (suc c) m) ≡ length (besides c m) + 1 = besides_and m c other in
        let fewer : length (besides c m) + 1 ≡ c = rest (omega arith) in
        omega arith

besides_count : (c m r : ℕ) → 1 ≤ m → m ≤ c → r + 1 ≡ c → r ≡ length (besides c m)
besides_count c m r low high e = let few : length (besides c m) + 1 ≡ c = besides_few c m low high in omega arith

-- what stands at a place stays there with one more member
grown_at : (c m i x : ℕ) → slice_get (besides c m) i ≡ Some x → slice_get (besides (suc c) m) i ≡ Some x
grown_at c m i x h = go (suc c == m) refl
  where
    kept : (ys : List ℕ) → slice_get (besides c m ++ ys) i ≡ Some x
    kept ys = first_at (besides c m) ys i (slice_get_within (besides c m) i x h) ∙ h

    go : (t : Bool) → (suc c == m) ≡ t → slice_get (besides (suc c) m) i ≡ Some x
    go true e = ap (λ (l : List ℕ). slice_get l i) (and_own m c (eqb-true (suc c) m e)) ∙ kept []
    go false e = ap (λ (l : List ℕ). slice_get l i) (and_other m c (eqb-false (suc c) m e)) ∙ kept (suc c ∷ [])

last_at : (c m i : ℕ) → (suc c ≡ m → ⊥) → length (besides c m) ≡ i → slice_get (besides (suc c) m) i ≡ Some (suc c)
last_at c m i other is = ap (λ (l : List ℕ). slice_get l i) (and_other m c other) ∙ second_at (besides c m) (suc c ∷ []) i 0 (omega arith)

-- the others below the own member, from 1 on, and those above it
low_below : (c m i : ℕ) → i + 1 < m → i < c → slice_get (besides c m) i ≡ Some (i + 1)
low_below zero m i low h = absurd (omega arith)
low_below (suc c) m i low h = go (i == c) refl (λ k. low_below c m i low k)
  where
    go : (t : Bool) → (i == c) ≡ t → (i < c → slice_get (besides c m) i ≡ Some (i + 1)) → slice_get (besides (suc c) m) i ≡ Some (i + 1)
    go true e rest =
        let last : i ≡ c = eqb-true i c e in
        let all : length (besides c m) ≡ c = all_but c m (omega arith) in
        let is : suc c ≡ i + 1 = omega arith in
        last_at c m i (λ own. omega arith) (omega arith) ∙ ap (λ k. Some k) is
    go false e rest =
        let apart : i ≡ c → ⊥ = eqb-false i c e in
        grown_at c m i (i + 1) (rest (omega arith))

high_above : (c m i : ℕ) → 1 ≤ m → m ≤ i + 1 → i + 1 < c → slice_get (besides c m) i ≡ Some (i + 2)
high_above zero m i one high h = absurd (omega arith)
high_above (suc c) m i one high h = go (i + 1 == c) refl (λ k. high_above c m i one high k)
  where
    go : (t : Bool) → (i + 1 == c) ≡ t → (i + 1 < c → slice_get (besides c m) i ≡ Some (i + 2)) → slice_get (besides (suc c) m) i ≡ Some (i + 2)
    go true e rest =
        let last : i + 1 ≡ c = eqb-true (i + 1) c e in
        let all : length (besides c m) + 1 ≡ c = besides_few c m one (omega arith) in
        let is : suc c ≡ i + 2 = omega arith in
        last_at c m i (λ own. omega arith) (omega arith) ∙ ap (λ k. Some k) is
    go false e rest =
        let apart : i + 1 ≡ c → ⊥ = eqb-false (i + 1) c e in
        grown_at c m i (i + 2) (rest (omega arith))

-- the others of a seat
module _ (s : Seat) where
  pub others_count : (r : ℕ) → 1 ≤ s.me → s.me ≤ s.members → r + 1 ≡ s.members → r ≡ length (others s)
  others_count r low high e = besides_count s.members s.me r low high e

  pub low_at : (i : ℕ) → i + 1 < s.me → i < s.members → slice_get (others s) i ≡ Some (i + 1)
  low_at i low h = low_below s.members s.me i low h

  pub high_at : (i : ℕ) → 1 ≤ s.me → s.me ≤ i + 1 → i + 1 < s.members → slice_get (others s) i ≡ Some (i + 2)
  high_at i one high h = high_above s.members s.me i one high h

  module _ (n : ℕ) (b : Ballot) where
    each_sent : (body : Body) → length (to_others s n b body) ≡ length (others s)
    each_sent body = length-map (others s) (packet_to s n b body)

    many_sent : (body : Body) → 1 ≤ s.me → s.me ≤ s.members → length (to_others s n b body) + 1 ≡ s.members
    many_sent body low high =
        let each : length (to_others s n b body) ≡ length (others s) = each_sent body in
        let few : length (others s) + 1 ≡ s.members = besides_few s.members s.me low high in
        omega arith

    pub sent_at : (body : Body) (i to : ℕ) → slice_get (others s) i ≡ Some to → Some (packet_to s n b body to) ≡ slice_get (to_others s n b body) i
    sent_at body i to h = sym (slice_get-map (packet_to s n b body) (others s) i ∙ ap (option_map (packet_to s n b body)) h)

    pub none_sent_at : (body : Body) (i count : ℕ) → count ≡ length (others s) → count ≤ i → None ≡ slice_get (to_others s n b body) i
    none_sent_at body i count is past = let each : length (to_others s n b body) ≡ length (others s) = each_sent body in sym (slice_get_past (to_others s n b body) i (omega arith))

    -- what is sent to another keeps the rules
    pub other_keeps : (body : Body) (to : ℕ) → (s.me ≡ to → ⊥) → may_send (kind_of body) b.owner s.me to ≡ true → may_say body b ≡ true → keeps_rules (packet_to s n b body to) ≡ true
    other_keeps body to apart may says = let f : (s.me == to) ≡ false = ne_eqb s.me to apart in rw (f, may, says) refl

    -- the packets of two bodies in a row
    pub proposed_first : (x y : Body) (count i : ℕ) → count ≡ length (others s) → i < count → slice_get (to_others s n b x ++ to_others s n b y) i ≡ slice_get (to_others s n b x) i
    proposed_first x y count i is h = let each : length (to_others s n b x) ≡ length (others s) = each_sent x in first_at (to_others s n b x) (to_others s n b y) i (omega arith)

    pub proposed_second : (x y : Body) (count i : ℕ) → count ≡ length (others s) → count ≤ i → slice_get (to_others s n b x ++ to_others s n b y) i ≡ slice_get (to_others s n b y) (i - count)
    proposed_second x y count i is h = let each : length (to_others s n b x) ≡ length (others s) = each_sent x in second_at (to_others s n b x) (to_others s n b y) i (i - count) (omega arith)

    two_sent : (x y : Body) → length (to_others s n b x ++ to_others s n b y) ≡ length (others s) + length (others s)
    two_sent x y = length-append (to_others s n b x) (to_others s n b y) ∙ (let first : length (to_others s n b x) ≡ length (others s) = each_sent x in let second : length (to_others s n b y) ≡ length (others s) = each_sent y in omega arith)

    -- a mail sends no more than 28 packets
    pub few_sent : (letter : Letter) → 1 ≤ s.me → s.me ≤ s.members → s.members ≤ 15 → (vote : Option Vote) → length (letter_sends s n b vote letter) ≤ 28
    few_sent letters.Prepare low high most vote = let e : length (to_others s n b Prepare) + 1 ≡ s.members = many_sent Prepare low high in omega arith
    few_sent letters.Proposal low high most None = omega arith
    few_sent letters.Proposal low high most (Some v) =
        let few : length (others s) + 1 ≡ s.members = besides_few s.members s.me low high in
        let both : length (to_others s n b (Accept v.entry) ++ to_others s n b (Accepted v.entry)) ≡ length (others s) + length (others s) = two_sent (Accept v.entry) (Accepted v.entry) in
        omega arith
    few_sent letters.Vote low high most None = omega arith
    few_sent letters.Vote low high most (Some v) = let e : length (to_others s n b (Accepted v.entry)) + 1 ≡ s.members = many_sent (Accepted v.entry) low high in omega arith
    few_sent (letters.VoteTo to) low high most None = omega arith
    few_sent (letters.VoteTo to) low high most (Some v) = omega arith
    few_sent (letters.Promise to) low high most vote = omega arith
    few_sent (letters.Nack to promised) low high most vote = omega arith

-- how many packets a mail sends
letter_is : (o : Option Mail) (v : Option Vote) (m : Mail) (sends : List Packet) (letter : Letter) → mail_sends o v ≡ sends → o ≡ Some m → m.letter ≡ letter → sends ≡ letter_sends m.seat m.number m.ballot v letter
letter_is o v m sends letter is some same =
    let t : mail_sends o v ≡ letter_sends m.seat m.number m.ballot v letter = rw (some, same) refl in sym is ∙ t

pub prepare_many :
    (o : Option Mail) (v : Option Vote) (m : Mail) (sends : List Packet) (count : ℕ) → mail_sends o v ≡ sends → o ≡ Some m → m.letter ≡ letters.Prepare
    → count ≡ length (others m.seat) → count ≡ length sends
prepare_many o v m sends count is some letter many = many ∙ sym (each_sent m.seat m.number m.ballot Prepare) ∙ ap length (sym (letter_is o v m sends letters.Prepare is some letter))

pub vote_many :
    (o : Option Mail) (v : Option Vote) (m : Mail) (sends : List Packet) (count : ℕ) → mail_sends o v ≡ sends → o ≡ Some m → m.letter ≡ letters.Vote → is_some v ≡ true
    → count ≡ length (others m.seat) → count ≡ length sends
vote_many o None m sends count is some letter has many = let bad : false ≡ true = has in absurd cc
vote_many o (Some u) m sends count is some letter has many = many ∙ sym (each_sent m.seat m.number m.ballot (Accepted u.entry)) ∙ ap length (sym (letter_is o (Some u) m sends letters.Vote is some letter))

pub proposal_many :
    (o : Option Mail) (v : Option Vote) (m : Mail) (sends : List Packet) (count : ℕ) → mail_sends o v ≡ sends → o ≡ Some m → m.letter ≡ letters.Proposal → is_some v ≡ true
    → count ≡ length (others m.seat) → 2 * count ≡ length sends
proposal_many o None m sends count is some letter has many = let bad : false ≡ true = has in absurd cc
proposal_many o (Some u) m sends count is some letter has many =
    let whole : length sends ≡ length (others m.seat) + length (others m.seat) = ap length (letter_is o (Some u) m sends letters.Proposal is some letter) ∙ two_sent m.seat m.number m.ballot (Accept u.entry) (Accepted u.entry) in
    omega arith

-- ---- what says the same

-- a packet says the same as itself
pub itself : (packets : List Packet) (place : ℕ) → SaysTheSame packets place place
itself packets place p q first second = let same : p ≡ q = some_is p q (sym first ∙ second) in subst (λ (x : Packet). p ≡ record x { to = p.to }) same refl
  where
    some_is : (x y : Packet) → Some x ≡ Some y → x ≡ y
    some_is x y e = cc

module _ (s : Seat) (n : ℕ) (b : Ballot) where
  -- what stands among the packets of one body
  one_of : (body : Body) (i : ℕ) (p : Packet) → slice_get (to_others s n b body) i ≡ Some p → p ≡ packet_to s n b body p.to
  one_of body i p h = picked (slice_get (others s) i) (sym (slice_get-map (packet_to s n b body) (others s) i) ∙ h)
    where
      picked : (to : Option ℕ) → option_map (packet_to s n b body) to ≡ Some p → p ≡ packet_to s n b body p.to
      picked None e = absurd cc
      picked (Some to) e = let is : packet_to s n b body to ≡ p = cc in subst (λ (x : Packet). x ≡ packet_to s n b body x.to) is refl

  pub said_alike : (body : Body) (i j : ℕ) → SaysTheSame (to_others s n b body) i j
  said_alike body i j p q first second = one_of body i p first ∙ sym (ap (λ (x : Packet). record x { to = p.to }) (one_of body j q second))

  pub accepts_alike : (entry : Entry) (count place : ℕ) → count ≡ length (others s) → place < count → SaysTheSame (proposal_to_others s n b entry) 0 place
  accepts_alike entry count place is before p q first second =
      said_alike (Accept entry) 0 place p q (sym (proposed_first s n b (Accept entry) (Accepted entry) count 0 is (omega arith)) ∙ first)
      (sym (proposed_first s n b (Accept entry) (Accepted entry) count place is before) ∙ second)

  pub news_alike : (entry : Entry) (count place : ℕ) → count ≡ length (others s) → count ≤ place → SaysTheSame (proposal_to_others s n b entry) count place
  news_alike entry count place is behind p q first second =
      said_alike (Accepted entry) (count - count) (place - count) p q (sym (proposed_second s n b (Accept entry) (Accepted entry) count count is (omega arith)) ∙ first)
      (sym (proposed_second s n b (Accept entry) (Accepted entry) count place is behind) ∙ second)

  -- of the letters whose packets all say the same
  pub vote_alike : (vote : Option Vote) (i j : ℕ) → SaysTheSame (letter_sends s n b vote letters.Vote) i j
  vote_alike None i j = λ p q first second. absurd cc
  vote_alike (Some v) i j = said_alike (Accepted v.entry) i j

-- of what a mail sends
alike_in :
    (o : Option Mail) (v : Option Vote) (m : Mail) (sends : List Packet) (letter : Letter) (i j : ℕ) → mail_sends o v ≡ sends → o ≡ Some m → m.letter ≡ letter
    → SaysTheSame (letter_sends m.seat m.number m.ballot v letter) i j → SaysTheSame sends i j
alike_in o v m sends letter i j is some same alike = subst (λ (packets : List Packet). SaysTheSame packets i j) (sym (letter_is o v m sends letter is some same)) alike

pub each_alike :
    (o : Option Mail) (v : Option Vote) (m : Mail) (sends : List Packet) (letter : Letter) (i j : ℕ) → mail_sends o v ≡ sends → o ≡ Some m → letter ≡ m.letter
    → (letter ≡ letters.Prepare) ⊎ (letter ≡ letters.Vote) → SaysTheSame sends i j
each_alike o v m sends letter i j is some same (inl prepare) =
    alike_in o v m sends letters.Prepare i j is some (sym same ∙ prepare) (said_alike m.seat m.number m.ballot Prepare i j)
each_alike o v m sends letter i j is some same (inr vote) = alike_in o v m sends letters.Vote i j is some (sym same ∙ vote) (vote_alike m.seat m.number m.ballot v i j)
