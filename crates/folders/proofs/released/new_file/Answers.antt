-- What is written is read again.
use Rattle.std.proofs.Common.{rules, ◌≡◌, ℕ, List, sym, subst}
use Rattle.gone_out.specs.Origins.{IsOrigin}
use Rattle.gone_out.specs.Files.{file}
use Rattle.folders.specs.GoneOut.{IsFileOf}
use Rattle.folders.proofs.Ledgers.{file_of}
use Rattle.folders.proofs.released.new_file.Goals as goal

pub returns : goal.returns
returns c =
    let o = c.args.own.now in
    let ns = c.in_ok-list.list.items in
    let origin : IsOrigin o = c.is_station.ensures in
    let bytes : c.push_records.new.bytes.items ≡ file o ns = search rules in
    subst (λ (l : List ℕ). IsFileOf o c.args.numbers.now l) (sym bytes) (file_of c.reads_again.ensures o origin c.args.numbers.now ns c.in_ok-list.ensures)
