use Rattle.std.proofs.Common.{◌≡◌, true}
use Rattle.code_table.specs.Names.{is_name}
use Rattle.code_table.specs.declared.meaning.Meaning.TheVariants as meanings
use Rattle.text_tape.proofs.Keys.{key_keyed}
use Rattle.text_tape.proofs.index.key_of.Goals as goal

pub returns-in-len1-clause-keyed : goal.returns-in-len1-clause-keyed
returns-in-len1-clause-keyed c =
    let named : is_name c.as_bytes.result.now ≡ true = rw c.as_bytes.ensures.value c.as_bytes.ensures.is_name in
    let is : c.args.meaning.now ≡ meanings.Matrix c.as_bytes.result.now = rw c.as_bytes.ensures.value c.in-Matrix.is in
    key_keyed c.as_bytes.result.now c.args.meaning.now is c.in-len1.len_at_least c.in-len1.len_below named
