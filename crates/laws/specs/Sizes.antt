-- The most bytes of records, and the length of the tables of events, by which contracts bound what they are
-- lent. How many tasks, locks and variables there are is in the model's Trace.
use Rattle.std.specs.Prelude.{ℕ}

-- The most bytes of records: two for each of 4,095 events.
abbrev pub records_length : ℕ
records_length = 8190

-- How long a table of events is: an entry for each event number from 0 to 4,095.
abbrev pub table_length : ℕ
table_length = 4096
