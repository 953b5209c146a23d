-- From where an address is reached.
use Rattle.std.specs.Prelude.{ℕ, Bool, ◌==◌, ◌&&◌, ◌||◌, nat_le, if◌then◌else◌}
use Rattle.plant_commands.specs.declared.reach.Reach.{Reach}
use Rattle.plant_commands.specs.declared.reach.Reach.TheVariants.{Nowhere, Itself, Network, Everywhere}

-- an address of no network, of a group, or set aside, by its first number
unfoldable pub is_of_no_host : ℕ → Bool
is_of_no_host first = (first == 0) || nat_le 224 first

-- an address of a network of its own, by its first two numbers
unfoldable pub is_private : ℕ → ℕ → Bool
is_private first second =
    (first == 10)
    || (((first == 172) && (nat_le 16 second && nat_le second 31))
    || (((first == 192) && (second == 168))
    || (((first == 169) && (second == 254))
    || ((first == 100) && (nat_le 64 second && nat_le second 127)))))

-- from where an address is reached, by its first two numbers
unfoldable pub reach_of : ℕ → ℕ → Reach
reach_of first second =
    if is_of_no_host first then Nowhere
    else if first == 127 then Itself
    else if is_private first second then Network
    else Everywhere
