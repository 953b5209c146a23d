-- What a plant is to have.
use Rattle.std.specs.Prelude.{ℕ, List, [], ◌∷◌, ◌++◌, codes, Option, Some, None, flat_map, option_map}
use Rattle.init_command.specs.Files.{name_in_plant, mode_of}
use Rattle.init_command.specs.Making.{MadeThing}
use Rattle.init_command.specs.declared.making.Contents.{Contents}
use Rattle.init_command.specs.declared.making.PlantOrder.{PlantOrder}
use Rattle.init_command.specs.declared.making.Wanted.{Wanted}
use Rattle.init_command.specs.declared.making.Wanted.TheVariants as wanted
use Rattle.init_command.specs.declared.plant_file.PlantFile.{PlantFile}
use Rattle.init_command.specs.declared.plant_file.PlantFile.TheVariants.{Offers, Releases, Table, Widths, Key, Before, Configuration}

-- the bytes of a file, `None` for a folder; nothing where the plant is to have no such file
abbrev pub wanted_as : Wanted → Option (Option (List ℕ))
wanted_as wanted.Nothing = None
wanted_as wanted.Folder = Some None
wanted_as (wanted.File bytes) = Some (Some bytes.now)

-- the same by what the files of a plant have: it has no key and no text of before where these are left out
abbrev pub wanted_of : Contents → PlantFile → Option (Option (List ℕ))
wanted_of c Offers = Some None
wanted_of c Releases = Some None
wanted_of c Table = Some (Some c.table.now)
wanted_of c Widths = Some (Some c.widths.now)
wanted_of c Key = option_map (λ bytes. Some bytes.now) c.key
wanted_of c Before = option_map (λ text. Some text.now) c.before
wanted_of c Configuration = Some (Some c.configuration.now)

-- a file or a folder of a plant as it is to be made, with these bytes
abbrev pub with_bytes : PlantOrder → PlantFile → Option (List ℕ) → MadeThing
with_bytes order file bytes = record { path = order.folder.now ++ (codes "/" ++ name_in_plant file); mode = mode_of file; bytes = bytes }

-- the same, if the plant is to have it
abbrev pub thing_in : PlantOrder → PlantFile → Option MadeThing
thing_in order file = option_map (with_bytes order file) (wanted_of order.contents file)

-- the one, or none
abbrev pub one_or_none : Option MadeThing → List MadeThing
one_or_none None = []
one_or_none (Some thing) = thing ∷ []

-- the same as a list
abbrev pub things_of : PlantOrder → PlantFile → List MadeThing
things_of order file = one_or_none (thing_in order file)

-- all that a plant is to have, in the order in which it is made: the configuration last, since without it a folder is no plant
abbrev pub plant_things : PlantOrder → List MadeThing
plant_things order = flat_map (things_of order) (Offers ∷ Releases ∷ Table ∷ Widths ∷ Key ∷ Before ∷ Configuration ∷ [])
