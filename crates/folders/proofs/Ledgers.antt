-- A station's file, and the numbers that wait for their records.
use Rattle.std.proofs.Common.{◌≡◌, ◌≤◌, ◌+◌, ◌*◌, ◌-◌, ◌/◌, ◌⊎◌, inl, inr, ℕ, Bool, List, [], ◌∷◌, ◌++◌, Option, Some, None, length, take, refl, sym, ◌∙◌, subst, ap, arith, length-append, append_assoc, append-nil}
use Rattle.std.specs.Prelude.{◌↔◌, IsTrue, IfSome, MatchOption}
use Rattle.std.proofs.lemmas.Bool.{cases_eq}
use Rattle.std.proofs.lemmas.List.{take-take, take-append-le, length-take-le, take_all}
use Rattle.gone_out.specs.declared.origin.Origin.{Origin}
use Rattle.gone_out.specs.Origins.{IsOrigin}
use Rattle.gone_out.specs.Files.{IsNumber, HasHead, HasRecord, record_bytes, records, whole_part, file}
use Rattle.gone_out.specs.Laws.{IsAmong, IsAdded, AddsOne, added, IsReadAgain, ReadsItAgain}
use Rattle.gone_out.specs.Numbers.{has}
use Rattle.folders.specs.GoneOut.{IsFileBut, IsFileOf, IsOwnFile, HasNoHead, HasSomeNumber, HaveSame, AreThoseOf, added_all}
use Rattle.folders.proofs.Among.{among_none, among_cons, among_first, among_rest, among_push}

-- one more waits
pub one_waits :
    (o : Origin) (bytes : List ℕ) (old new : List Bool) (waiting : List ℕ) (k : ℕ)
    → IsTrue (has new k) → ((n : ℕ) → ¬ (n ≡ k) → has new n ≡ has old n)
    → IsFileBut o old waiting bytes → IsFileBut o new (waiting ++ k ∷ []) bytes
one_waits o bytes old new waiting k same others but = record {
  head = but.head;
  all = λ n number is. elim (cases_eq n k) [
    | inl here ↦ inr ((among_push waiting k n).1 (inr here))
    | inr apart ↦ elim (but.all n number (sym (others n apart) ∙ is)) [
      | inl written ↦ inl written
      | inr waits ↦ inr ((among_push waiting k n).1 (inl waits))
    ]
  ];
  only = λ n number either. elim (cases_eq n k) [
    | inl here ↦ subst (λ (m : ℕ). IsTrue (has new m)) (sym here) same
    | inr apart ↦ others n apart ∙ elim either [
      | inl written ↦ but.only n number (inl written)
      | inr waits ↦ elim ((among_push waiting k n).0 waits) [
        | inl before ↦ but.only n number (inr before)
        | inr here ↦ absurd (apart here)
      ]
    ]
  ];
}

-- and it went out
pub one_known :
    (old new : List Bool) (k : ℕ) → IsTrue (has new k) → ((n : ℕ) → ¬ (n ≡ k) → has new n ≡ has old n)
    → (n : ℕ) → IsTrue (has new n) ↔ (IsTrue (has old n) ⊎ (n ≡ k))
one_known old new k same others n = (
  λ is. elim (cases_eq n k) [
    | inl here ↦ inr here
    | inr apart ↦ inl (sym (others n apart) ∙ is)
  ],
  λ either. elim (cases_eq n k) [
    | inl here ↦ subst (λ (m : ℕ). IsTrue (has new m)) (sym here) same
    | inr apart ↦ elim either [
      | inl was ↦ others n apart ∙ was
      | inr here ↦ absurd (apart here)
    ]
  ],
)

-- none waits
pub none_waits : (o : Origin) (flags : List Bool) (bytes : List ℕ) → IsFileBut o flags [] bytes → IsFileOf o flags bytes
none_waits o flags bytes but = record {
  head = but.head;
  all = λ n number is. elim (but.all n number is) [
    | inl written ↦ written
    | inr waits ↦ absurd (among_none n waits)
  ];
  only = λ n number written. but.only n number (inl written);
}

pub all_written : (o : Origin) (flags : List Bool) (bytes : List ℕ) → IsFileOf o flags bytes → IsFileBut o flags [] bytes
all_written o flags bytes file = record {
  head = file.head;
  all = λ n number is. inl (file.all n number is);
  only = λ n number either. elim either [
    | inl written ↦ file.only n number written
    | inr waits ↦ absurd (among_none n waits)
  ];
}

-- whose file it is, by what was found in it
pub own_by :
    (o : Origin) (bytes : List ℕ) (flags : List Bool) (b : Bool) → (IsTrue b ↔ HasHead bytes o)
    → ((n : ℕ) → IsTrue (has flags n) ↔ (IsNumber n × HasRecord bytes o n))
    → (IsTrue b ⊎ (HasNoHead bytes × HasSomeNumber flags)) ↔ IsOwnFile bytes o
own_by o bytes flags b head numbers = (
  λ either. elim either [
    | inl is ↦ inl (head.0 is)
    | inr other ↦ let h = (numbers other.1.0).0 other.1.1.1 in inr (other.0, (other.1.0, (h.0, h.1)))
  ],
  λ own. elim own [
    | inl is ↦ inl (head.1 is)
    | inr other ↦ inr (other.0, (other.1.0, (other.1.1.0, (numbers other.1.0).1 other.1.1)))
  ],
)

module _ (adds : AddsOne) (o : Origin) (origin : IsOrigin o) (flags : List Bool) where
  -- the head stays where a record is added
  head_stays : (bytes : List ℕ) (k : ℕ) → 16 ≤ length bytes → HasHead bytes o → HasHead (added o bytes k) o
  head_stays bytes k long head =
      let whole : ℕ = 16 + 8 * ((length bytes - 16) / 8) in
      let len : length (take whole bytes) ≡ whole = length-take-le whole bytes (omega (arith, long)) in
      take-append-le 16 (take whole bytes) (record_bytes o k) (omega (arith, len))
      ∙ take-take 16 whole bytes (omega arith)
      ∙ head

  -- the first of those that wait has its record
  one_less : (bytes : List ℕ) (k : ℕ) (ks : List ℕ) → 16 ≤ length bytes → IsNumber k → IsFileBut o flags (k ∷ ks) bytes → IsFileBut o flags ks (added o bytes k)
  one_less bytes k ks long number but =
      let is : IsAdded o bytes k = adds o bytes k origin number long in record {
        head = head_stays bytes k long but.head;
        all = λ n at has_it. elim (but.all n at has_it) [
          | inl written ↦ inl (is.kept n written)
          | inr waits ↦ elim (among_cons k ks n waits) [
            | inl same ↦ inl (subst (λ (m : ℕ). HasRecord (added o bytes k) o m) (sym same) is.new)
            | inr rest ↦ inr rest
          ]
        ];
        only = λ n at either. elim either [
          | inl written ↦ elim (is.only n at written) [
            | inl before ↦ but.only n at (inl before)
            | inr same ↦ but.only n at (inr (among_first k ks n same))
          ]
          | inr waits ↦ but.only n at (inr (among_rest k ks n waits))
        ];
      }

  -- the records of the others follow
  further : (bytes : List ℕ) (k : ℕ) (ks : List ℕ) → 16 ≤ length bytes → added_all o (added o bytes k) ks ≡ added_all o bytes (k ∷ ks)
  further bytes k ks long =
      let whole : ℕ = 16 + 8 * ((length bytes - 16) / 8) in
      let len : length (take whole bytes) ≡ whole = length-take-le whole bytes (omega (arith, long)) in
      let more : length (added o bytes k) ≡ whole + 8 = length-append (take whole bytes) (record_bytes o k) ∙ ap (λ (l : ℕ). l + 8) len in
      ap (λ (l : List ℕ). l ++ records o ks) (take_all (whole_part (length (added o bytes k))) (added o bytes k) (omega (arith, more)))
      ∙ append_assoc (take whole bytes) (record_bytes o k) (records o ks)

  all_added : (bytes : List ℕ) (k : ℕ) (ks : List ℕ) → 16 ≤ length bytes → ((n : ℕ) → IsAmong (k ∷ ks) n → IsNumber n) → IsFileBut o flags (k ∷ ks) bytes → IsFileOf o flags (added_all o bytes (k ∷ ks))
  all_added bytes k [] long numbers but =
      subst (λ (l : List ℕ). IsFileOf o flags l) (ap (λ (l : List ℕ). take (whole_part (length bytes)) bytes ++ l) (sym (append-nil (record_bytes o k))))
      (none_waits o flags (added o bytes k) (one_less bytes k [] long (numbers k (among_first k [] k refl)) but))
  all_added bytes k (m ∷ ks) long numbers but =
      let whole : ℕ = 16 + 8 * ((length bytes - 16) / 8) in
      let more : length (added o bytes k) ≡ length (take whole bytes) + 8 = length-append (take whole bytes) (record_bytes o k) in
      let len : length (take whole bytes) ≡ whole = length-take-le whole bytes (omega (arith, long)) in
      subst (λ (l : List ℕ). IsFileOf o flags l) (further bytes k (m ∷ ks) long)
      (all_added (added o bytes k) m ks (omega (arith, more, len)) (λ n is. numbers n (among_rest k (m ∷ ks) n is))
      (one_less bytes k (m ∷ ks) long (numbers k (among_first k (m ∷ ks) k refl)) but))

  -- all that wait get their records
  pub adds_all : (bytes ns : List ℕ) → ¬ (ns ≡ []) → 16 ≤ length bytes → ((n : ℕ) → IsAmong ns n → IsNumber n) → IsFileBut o flags ns bytes → IsFileOf o flags (added_all o bytes ns)
  adds_all bytes [] some long numbers but = absurd (some refl)
  adds_all bytes (k ∷ ks) some long numbers but = all_added bytes k ks long numbers but

-- a file that is written of the numbers of a set
pub file_of :
    ReadsItAgain → (o : Origin) → IsOrigin o → (flags : List Bool) (ns : List ℕ) → ((n : ℕ) → IsAmong ns n ↔ (IsNumber n × IsTrue (has flags n)))
    → IsFileOf o flags (file o ns)
file_of again o origin flags ns members =
    let is : IsReadAgain o ns [] = again o ns [] origin (λ n among. ((members n).0 among).0) (omega arith) in
    let same : file o ns ++ [] ≡ file o ns = append-nil (file o ns) in
    subst (λ (l : List ℕ). IsFileOf o flags l) same (record {
      head = is.head;
      all = λ n number has_it. is.all n ((members n).1 (number, has_it));
      only = λ n number written. ((members n).0 (is.only n number written)).1;
    })

-- the numbers that have a record, once more
pub those_of :
    (o : Origin) (bytes : List ℕ) (flags others : List Bool) → HaveSame others flags
    → ((n : ℕ) → IsTrue (has flags n) ↔ (IsNumber n × HasRecord bytes o n))
    → AreThoseOf others o bytes
those_of o bytes flags others same numbers n number = (
  λ is. ((numbers n).0 (sym (same n number) ∙ is)).1,
  λ written. same n number ∙ (numbers n).1 (number, written),
)

-- what holds of an option, by what it is
pub match_none : {A : Type 0} (o : Option A) (N : Type 0) (S : A → Type 0) → o ≡ None → MatchOption o N S → N
match_none None N S is h = h
match_none (Some a) N S is h = absurd cc

pub some_is : {A : Type 0} (o : Option A) (a : A) (S : A → Type 0) → o ≡ Some a → IfSome o S → S a
some_is None a S is h = absurd cc
some_is (Some b) a S is h = let same : b ≡ a = cc in subst S same h
