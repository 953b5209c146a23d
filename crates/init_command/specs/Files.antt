-- The files and folders of a plant.
use Rattle.std.specs.Prelude.{◌≡◌, ℕ, List, codes, false}
use Rattle.circuit_keys.specs.Keys.{others_can}
use Rattle.init_command.specs.declared.plant_file.PlantFile.{PlantFile}
use Rattle.init_command.specs.declared.plant_file.PlantFile.TheVariants.{Offers, Releases, Table, Widths, Key, Before, Configuration}

-- the name of each in the folder of the plant; the configuration names the others by it
abbrev pub name_in_plant : PlantFile → List ℕ
name_in_plant Offers = codes "offers"
name_in_plant Releases = codes "releases"
name_in_plant Table = codes "codes.toml"
name_in_plant Widths = codes "widths.toml"
name_in_plant Key = codes "circuit.key"
name_in_plant Before = codes "before.txt"
name_in_plant Configuration = codes "station.toml"

-- who may use each at most: 0750 of a folder, 0600 of the key, 0640 of the other files
abbrev pub mode_of : PlantFile → ℕ
mode_of Offers = 488
mode_of Releases = 488
mode_of Table = 416
mode_of Widths = 416
mode_of Key = 384
mode_of Before = 416
mode_of Configuration = 416

-- a station takes the key with the mode that it is made with: nobody but the owner can open it
abbrev pub KeyIsKept : Type 0
KeyIsKept = others_can (mode_of Key) ≡ false
