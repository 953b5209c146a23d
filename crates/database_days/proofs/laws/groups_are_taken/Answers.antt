-- Each step reads the rows inside, or keeps a row waiting; the save of all that waited is one save of the rows inside, or none where their file was gone.
use Rattle.std.proofs.Common.{◌≡◌, Bool, true, false, inl, inr, refl, ap}
use Rattle.database_days.specs.Grouping.{watched_rows}
use Rattle.database_days.proofs.GroupSteps.{groups_are_taken}
use Rattle.database_days.proofs.laws.groups_are_taken.Goals as goal

never : {b : Bool} → b ≡ false → b ≡ true → ⊥
never found gone = cc

pub returns : goal.returns
returns g c = groups_are_taken watched_rows _ (record {
  kept = λ s it. it;
  opened = λ s it. it;
  saved = λ s. refl;
  version = λ s. refl;
  alike = λ a b it. (it.0, elim it.1 [ inl same ↦ inl (ap watched_rows same) | inr read ↦ inr read.2 ]);
  passes = λ a b it. ap watched_rows it;
  tells = λ a b n row it. (ap watched_rows it.0, it.1);
  upgrades = λ a b it. (it.0, it.1, it.2.1);
  balks = λ a b it. (
    it.0,
    elim it.1 [
      | inl same ↦ inl (ap watched_rows same)
      | inr told ↦ elim told [ inl unseen ↦ inl unseen.0 | inr seen ↦ inr seen.1 ]
    ],
  );
  shows = λ a b it. elim it [
    | inl none ↦ inl none
    | inr put ↦ inr (put.0, put.1.1, elim put.2 [ inl unseen ↦ absurd (never put.1.0.now unseen.1) | inr seen ↦ seen.1 ])
  ];
  torn = λ a b it. (it.0, elim it.1 [ inl unseen ↦ inl unseen.0 | inr seen ↦ inr seen.1 ]);
})
