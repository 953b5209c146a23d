-- Whose a status is, by what its text begins with.
use Rattle.std.specs.Prelude.{ℕ, Bool, List, ◌++◌, ◌==◌, ◌||◌, nat_eq, codes, decimal}
use Rattle.std.specs.List.{list_all, starts_with}
use Rattle.plant_status.specs.declared.owner.StatusOwner.{StatusOwner}

-- what each status of a station begins with
abbrev pub owner_text : StatusOwner → List ℕ
owner_text o = codes "station " ++ (decimal o.member ++ (codes " of " ++ (decimal o.count ++ (codes " circuit " ++ (decimal o.circuit ++ codes " ")))))

-- it is a status of the station, or holds nothing but zeros, if anything
abbrev pub may_be_replaced : List ℕ → List ℕ → Bool
may_be_replaced owner begin = starts_with nat_eq begin owner || list_all (λ byte. byte == 0) begin
