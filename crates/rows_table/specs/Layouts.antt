-- The statements that read the saved rows of each layout.
use Rattle.std.specs.Prelude.{ℕ, List, codes}
use Rattle.rows_table.specs.Tables.{Layout}
use Rattle.rows_table.specs.declared.layout.Layout.TheVariants.{One, Two}

-- the statement that finds the columns under a number
abbrev pub get_text : Layout → List ℕ
get_text One = codes "SELECT promised_round, promised_owner, vote_round, vote_owner, tape FROM acceptor_row WHERE number = ?1"
get_text (Two origin) = codes "SELECT promised_round, promised_owner, vote_round, vote_owner, length, packed FROM acceptor_entry WHERE number = ?1"

-- the statement that lists all rows
abbrev pub all_text : Layout → List ℕ
all_text One = codes "SELECT number, promised_round, promised_owner, vote_round, vote_owner, tape FROM acceptor_row ORDER BY number"
all_text (Two origin) = codes "SELECT number, promised_round, promised_owner, vote_round, vote_owner, length, packed FROM acceptor_entry ORDER BY number"
