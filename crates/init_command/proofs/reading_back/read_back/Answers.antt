-- The configuration that was read is the witness: the reader's clause says that it was read, and the test that it says what was asked.
use Rattle.init_command.proofs.reading_back.read_back.Goals as goal

pub returns-then-says_asked : goal.returns-then-says_asked
returns-then-says_asked c = record {
  config = c.in_ok-config.config;
  read = rw c.as_bytes.ensures.value at c.in_ok-config.ensures.read.ok;
  says = c.says_asked.ensures c.if-says_asked.true;
}
