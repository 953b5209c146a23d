-- Where the files and folders of a station stand.
use Rattle.std.specs.Prelude.{ℕ, List, [], ◌++◌, Option, Some, option_map, codes}
use Rattle.station_files.specs.declared.file.StationFile.{StationFile}
use Rattle.station_files.specs.declared.file.StationFile.TheVariants as files
use Rattle.station_files.specs.declared.paths.StationPaths.{StationPaths}

-- in a folder, under a name
abbrev pub within : List ℕ → List ℕ → List ℕ
within name folder = folder ++ (codes "/" ++ name)

-- the path of a file, where the configuration names one
abbrev pub path_of : StationPaths → StationFile → Option (List ℕ)
path_of p files.Configuration = Some (p.configuration.now ++ [])
path_of p files.Table = Some (p.table.now ++ [])
path_of p files.Widths = Some (p.widths.now ++ [])
path_of p files.Rows = Some (p.rows.now ++ [])
path_of p files.Log = Some (p.rows_at.now ++ codes "-wal")
path_of p files.Journal = Some (p.rows_at.now ++ codes "-journal")
path_of p files.Making = Some (p.rows.now ++ codes ".making")
path_of p files.MakingLog = Some (p.rows.now ++ codes ".making-wal")
path_of p files.Kept = Some (p.rows.now ++ codes ".kept")
path_of p files.KeptLog = Some (p.rows.now ++ codes ".kept-wal")
path_of p files.Keeping = Some (p.rows.now ++ codes ".keeping")
path_of p files.Key = option_map (λ k. k.now ++ []) p.key
path_of p files.Status = option_map (λ s. s.now ++ []) p.status
path_of p files.NextStatus = option_map (λ s. s.now ++ codes ".next") p.status
path_of p files.Offers = option_map (λ f. f.now ++ []) p.offers
path_of p files.Releases = option_map (λ f. f.now ++ []) p.releases
path_of p files.Released = option_map (λ f. within (codes ".released") f.now) p.releases
path_of p files.Passage = option_map (λ f. within (codes ".circuitd") f.now) p.offers
path_of p files.Sent = option_map (λ f. within (codes "sent") f.now) p.offers
path_of p files.Lost = option_map (λ f. within (codes "lost") f.now) p.offers
path_of p files.Refused = option_map (λ f. within (codes "refused") f.now) p.offers
path_of p files.Done = option_map (λ f. within (codes "done") f.now) p.offers
