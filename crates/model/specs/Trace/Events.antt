-- Single events: operation, task and object, and how many of each there are.
-- How a recording's bytes give them is in Recording; Trace passes all names on.
use Rattle.std.specs.Prelude.{ℕ}

-- How many tasks there are: a task has 4 bits.
abbrev pub tasks : ℕ
tasks = 16

-- How many locks there are: 0 to 63.
abbrev pub locks : ℕ
locks = 64

-- How many objects an acquire or release record may have: the locks, and after them one for each task, which
-- such a record starts or joins.
abbrev pub sync_objects : ℕ
sync_objects = 80

-- How many variables there are: an object has 10 bits.
abbrev pub variables : ℕ
variables = 1024

-- A read's number among the operations.
abbrev pub read_op : ℕ
read_op = 0

-- A write's number.
abbrev pub write_op : ℕ
write_op = 1

-- An acquire's number.
abbrev pub acquire_op : ℕ
acquire_op = 2

-- A release's number.
abbrev pub release_op : ℕ
release_op = 3

-- An event: operation, task, and object, which is a variable for read and write, and for acquire and release
-- a lock, or a task to be started or joined.
pub record Event : Type 0 where
  pub op : ℕ
  pub task : ℕ
  pub object : ℕ
