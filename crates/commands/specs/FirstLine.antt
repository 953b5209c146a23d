-- What a station that starts to run tells first.
use Rattle.std.specs.Prelude.{ℕ, List, [], ◌++◌, slice_index, codes, decimal}
use Rattle.plant_status.specs.Texts.{station_text}
use Rattle.commands.specs.declared.first_line.Saved.{Saved}
use Rattle.commands.specs.declared.first_line.Saved.TheVariants as saves
use Rattle.commands.specs.declared.first_line.FirstLine.{FirstLine}

-- how many numbers are saved, and the greatest of them; nothing where that is not known
abbrev pub saved_text : Saved → List ℕ
saved_text saves.Unknown = []
saved_text saves.Nothing = codes ", no number saved"
saved_text (saves.Numbers count greatest) = codes ", " ++ (decimal count ++ (codes " numbers saved, the greatest " ++ decimal greatest))

-- an address, as `10.0.7.2:7001`
abbrev pub address_text : List ℕ → ℕ → List ℕ
address_text ip port =
    decimal (slice_index ip 0)
    ++ (codes "." ++ (decimal (slice_index ip 1) ++ (codes "." ++ (decimal (slice_index ip 2) ++ (codes "." ++ (decimal (slice_index ip 3) ++ (codes ":" ++ decimal port)))))))

-- the first line, without its end
abbrev pub first_text : FirstLine → List ℕ
first_text l = station_text l.station ++ (codes " at " ++ (address_text l.ip l.port ++ saved_text l.saved))
