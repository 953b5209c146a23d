use Rattle.std.proofs.Common.{rules, ◌≡◌, ◌<◌, ℕ, IsTrue, ap, sym, ◌∙◌, refl}
use Rattle.sqlite.specs.Held.{state}
use Rattle.sqlite.specs.State.{HasCleanDisk}
use Rattle.protocol.specs.Versions.{Version, One, Two}
use Rattle.tape_frames.specs.Entries.{version_of}
use Rattle.rows_table.specs.declared.layout.Layout.{Layout}
use Rattle.acceptor_store.specs.Columns.{saved_in, version_in}
use Rattle.acceptor_store.specs.Layouts.{made_in}
use Rattle.acceptor_store.proofs.StandLemmas.{none_saved}
use Rattle.acceptor_store.proofs.RestLemmas.{made_rests}
use Rattle.acceptor_store.proofs.sqlite_rows.SqliteRows.make.Goals as goal

-- tables that are made for a version keep rows of it
made_version : (v : Version) → version_in (made_in v) ≡ v
made_version One = refl
made_version Two = refl

pub returns : goal.returns
returns g c =
    let i = c.args.station in
    let new = state g.S.Store c.make_tables.new.conn in
    let laid : c.made_in-layout.result ≡ made_in (version_of c.args.version) = c.made_in-layout.ensures in
    let empty = λ (alone : IsTrue c.is_empty-alone.result). sym c.schema-2.ensures.value ∙ c.is_empty-alone.ensures.empty alone in
    let blank = λ (clean : HasCleanDisk new) (alone : IsTrue c.is_empty-alone.result) (n : ℕ).
    ap (λ (l : Layout). saved_in l new.now.trees n) laid
    ∙ none_saved (made_in (version_of c.args.version)) i.circuit i.member i.members new.now.trees (c.in_default.ensures.made clean (empty alone)).holds n in
    let small : i.circuit < 65536 = search rules in
    record {
      made = record {
        is_open = λ kept. (c.in_default.ensures.made kept.0 (empty kept.1.0)).is_open;
        rests = λ kept.
            made_rests g.S.Store _ (made_in (version_of c.args.version)) i c.requires small laid refl (c.in_default.ensures.made kept.0 (empty kept.1.0)).is_open
            (blank kept.0 kept.1.0) (c.in_default.ensures.lasting kept.0 (empty kept.1.0));
        unmade = search rules;
        ours = λ e. (c.is_empty-alone.ensures.full (c.schema-2.ensures.value ∙ e), tt);
        blank = λ kept. blank kept.0 kept.1.0;
        identity = refl;
        layout = c.made_in-layout.ensures;
        fresh = refl;
        version = ap version_in c.made_in-layout.ensures ∙ made_version (version_of c.args.version);
        unstopped = refl;
        clean = c.make_tables.ensures.ends.clean;
        crash = λ kept. c.in_default.ensures.lasting kept.0 (empty kept.1.0);
        kept = λ clean e. (clean, (c.is_empty-alone.ensures.full (c.schema-2.ensures.value ∙ e), tt));
      };
      over = search rules;
      refused = tt;
      making = tt;
    }
