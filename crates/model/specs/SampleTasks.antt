-- Starts and joins: each fault of questions 15 and 16, their order, the relations and closures of starts and
-- joins, and patterns that one of them makes impossible. One record of facts and one proof, by computation.
-- Schedules with them are in SampleReorderings.
use Rattle.std.specs.Prelude.{ℕ, ◌≡◌, refl, false, List, [], ◌∷◌, ◌++◌}
use Rattle.std.specs.Int.Count.{ones, ones_in}
use Rattle.model.specs.Bytes.{encode}
use Rattle.model.specs.Trace.{depth}
use Rattle.model.specs.Recording.{trace}
use Rattle.model.specs.EventSet.{no_events, with_all, members}
use Rattle.model.specs.Closure.{closure}
use Rattle.model.specs.Calls.Questions.{outcome}
use Rattle.model.specs.Calls.Check.{check}
use Rattle.model.specs.Calls.Relations.{relations, relations_refusal}
use Rattle.model.specs.Calls.List.{listing}
use Rattle.model.specs.Calls.Verdict.{verdict}
use Rattle.model.specs.Calls.Witness.{witness_out}
use Rattle.model.specs.Calls.Load.{load}
use Rattle.model.specs.Opened.{opened}
use Rattle.model.specs.Rows.{blank}
use Rattle.model.specs.Recordings.{recording, by, acq, rel, wr, rd, start, join}
use Rattle.model.specs.SampleAnswers.{related}

-- Row A, in which task 0 starts task 1 first and joins it last.
abbrev pub started_first : List ℕ
started_first =
    recording
    (by 0 (start 1 ∷ acq 0 ∷ acq 1 ∷ rel 1 ∷ rel 0 ∷ []) ++ by 1 (acq 1 ∷ acq 0 ∷ rel 0 ∷ rel 1 ∷ [])
    ++ by 0 (join 1 ∷ []))

-- Row A, in which task 0 starts task 1 after its own sections.
abbrev pub started_last : List ℕ
started_last =
    recording
    (by 0 (acq 0 ∷ acq 1 ∷ rel 1 ∷ rel 0 ∷ start 1 ∷ []) ++ by 1 (acq 1 ∷ acq 0 ∷ rel 0 ∷ rel 1 ∷ []))

-- Row A, task 1 first, in which task 0 joins it before its own sections.
abbrev pub joined_first : List ℕ
joined_first =
    recording
    (by 1 (acq 1 ∷ acq 0 ∷ rel 0 ∷ rel 1 ∷ []) ++ by 0 (join 1 ∷ acq 0 ∷ acq 1 ∷ rel 1 ∷ rel 0 ∷ []))

-- Row A without its last releases, after which task 0 starts a task.
abbrev pub started_beside : List ℕ
started_beside =
    recording (by 0 (acq 0 ∷ acq 1 ∷ rel 1 ∷ rel 0 ∷ []) ++ by 1 (acq 1 ∷ acq 0 ∷ []) ++ by 0 (start 2 ∷ []))

-- The same, in which task 0 starts its task before task 1's sections, and then task 3 starts task 1.
abbrev pub started_elsewhere : List ℕ
started_elsewhere =
    recording
    (by 0 (acq 0 ∷ acq 1 ∷ rel 1 ∷ rel 0 ∷ start 2 ∷ []) ++ by 3 (start 1 ∷ []) ++ by 1 (acq 1 ∷ acq 0 ∷ []))

-- Task 0 starts task 1, which has no event, and task 2 joins both task 1 and task 3, which is never started.
abbrev pub idle : List ℕ
idle = recording (by 0 (wr 0 ∷ start 1 ∷ []) ++ by 2 (join 1 ∷ join 3 ∷ []))

-- Task 0 starts task 1 between an outer and an inner acquire of a lock, which task 1 then takes.
abbrev pub started_inside : List ℕ
started_inside = recording (by 0 (acq 0 ∷ start 1 ∷ acq 0 ∷ rel 0 ∷ rel 0 ∷ []) ++ by 1 (acq 0 ∷ []))

-- Task 0 joins task 1 while it holds a lock at depth 2.
abbrev pub joined_inside : List ℕ
joined_inside = recording (by 1 (wr 0 ∷ []) ++ by 0 (acq 0 ∷ acq 0 ∷ join 1 ∷ rel 0 ∷ rel 0 ∷ []))

-- The closure of some events of a recording.
abbrev pub closure_of : List ℕ → List ℕ → List ℕ
closure_of b es = members (trace b) (closure (trace b) (with_all (no_events (trace b)) es))

-- All samples of starts and joins.
pub record SampleTasks : Type 0 where
  -- 15: a start of a task that was started before, by the same task or by another one.
  pub fifteen_started : check (recording (by 0 (start 1 ∷ start 1 ∷ []))) ≡ outcome 15 2
  pub fifteen_elsewhere : check (recording (by 0 (start 2 ∷ []) ++ by 1 (start 2 ∷ []))) ≡ outcome 15 2
  -- Of one that was joined before, and of one with earlier events.
  pub fifteen_joined : check (recording (by 0 (join 1 ∷ start 1 ∷ []))) ≡ outcome 15 2
  pub fifteen_events : check (recording (by 1 (wr 0 ∷ []) ++ by 0 (start 1 ∷ []))) ≡ outcome 15 2
  -- 16: a join of the own task, and any event of a task that was joined.
  pub sixteen_own : check (recording (by 0 (join 0 ∷ []))) ≡ outcome 16 1
  pub sixteen_write : check (recording (by 0 (join 1 ∷ []) ++ by 1 (wr 0 ∷ []))) ≡ outcome 16 2
  pub sixteen_read : check (recording (by 0 (wr 0 ∷ join 1 ∷ []) ++ by 1 (rd 0 ∷ []))) ≡ outcome 16 3
  pub sixteen_acquire : check (recording (by 0 (join 1 ∷ []) ++ by 1 (acq 0 ∷ []))) ≡ outcome 16 2
  pub sixteen_release : check (recording (by 1 (acq 0 ∷ []) ++ by 0 (join 1 ∷ []) ++ by 1 (rel 0 ∷ [])))
      ≡ outcome 16 3
  pub sixteen_start : check (recording (by 0 (join 1 ∷ []) ++ by 1 (start 2 ∷ []))) ≡ outcome 16 2
  pub sixteen_join : check (recording (by 0 (join 1 ∷ []) ++ by 1 (join 2 ∷ []))) ≡ outcome 16 2
  -- 15 comes before 16, and both after 5, 6 and 7.
  pub fifteen_first : check (recording (by 0 (join 1 ∷ []) ++ by 1 (start 1 ∷ []))) ≡ outcome 15 2
  pub five_first : check (recording (by 0 (acq 0 ∷ join 1 ∷ []) ++ by 1 (acq 0 ∷ []))) ≡ outcome 5 3
  pub six_first : check (recording (by 0 (join 1 ∷ []) ++ by 1 (rel 0 ∷ []))) ≡ outcome 6 2
  pub seven_first : check (recording (by 0 (join 1 ∷ []) ++ by 1 (rd 0 ∷ []))) ≡ outcome 7 2
  -- Accepted: the join of a task that was never started, a second join, and the last task.
  pub join_unstarted : check (recording (by 0 (join 1 ∷ []))) ≡ outcome 0 0
  pub join_twice : check (recording (by 0 (join 1 ∷ join 1 ∷ []) ++ by 2 (join 1 ∷ []))) ≡ outcome 0 0
  pub start_last : check (recording (by 0 (start 15 ∷ join 15 ∷ []))) ≡ outcome 0 0
  -- A start has no match, and the started task's first event has it as predecessor; its second does not.
  pub start_relations : relations started_first 1 ≡ related 0 0 0 0 0
  pub first_relations : relations started_first 6 ≡ related 0 0 9 0 1
  pub second_relations : relations started_first 7 ≡ related 2 1 8 0 6
  -- A join has no match; its predecessor is its own task's.
  pub join_relations : relations started_first 10 ≡ related 0 0 0 0 5
  -- The closure of a started task's event has the start, and what is before it.
  pub start_closure : closure_of started_last (6 ∷ []) ≡ 1 ∷ 2 ∷ 3 ∷ 4 ∷ 5 ∷ 6 ∷ []
  -- That of a join has all of the joined task; where it has no event its start, and otherwise nothing.
  pub join_closure : closure_of joined_first (5 ∷ []) ≡ 1 ∷ 2 ∷ 3 ∷ 4 ∷ 5 ∷ []
  pub idle_closure : closure_of idle (3 ∷ []) ≡ 1 ∷ 2 ∷ 3 ∷ []
  pub unstarted_closure : closure_of (recording (by 0 (wr 0 ∷ []) ++ by 2 (join 1 ∷ []))) (2 ∷ []) ≡ 2 ∷ []
  -- A start before both sections leaves the deadlock,
  pub first_listed : listing started_first 0 ≡ (3 ∷ 7 ∷ []) ∷ []
  pub first_witness : witness_out started_first (encode (3 ∷ 7 ∷ [])) (blank 6) ≡ encode (1 ∷ 2 ∷ 6 ∷ [])
  -- one after the first task's sections makes it impossible,
  pub last_verdict : verdict started_last (encode (2 ∷ 7 ∷ []))
      ≡ record { refusal = 0; event = 0; deadlock = false }
  pub last_listed : listing started_last 0 ≡ []
  -- and so does a join before them.
  pub joined_verdict : verdict joined_first (encode (2 ∷ 7 ∷ []))
      ≡ record { refusal = 0; event = 0; deadlock = false }
  pub joined_listed : listing joined_first 0 ≡ []
  -- A start that no event of the pattern needs is in no least schedule,
  pub beside_listed : listing started_beside 0 ≡ (2 ∷ 6 ∷ []) ∷ []
  pub beside_witness : witness_out started_beside (encode (2 ∷ 6 ∷ [])) (blank 4) ≡ encode (1 ∷ 5 ∷ [])
  -- and a start needs no earlier start of another task.
  pub elsewhere_closure : closure_of started_elsewhere (7 ∷ []) ≡ 6 ∷ 7 ∷ []
  pub elsewhere_listed : listing started_elsewhere 0 ≡ (2 ∷ 8 ∷ []) ∷ []
  -- A start holds no lock.
  pub start_load : load (recording (by 0 (start 1 ∷ acq 0 ∷ []))) 0
      ≡ record { refusal = 0; event = 0; percent = 50 }
  pub start_lock : load (recording (by 0 (start 1 ∷ []))) 64 ≡ record { refusal = 14; event = 0; percent = 0 }
  -- A start between an outer and an inner acquire moves no depth: the acquire after it is an inner one, and
  -- the outer one's match the release to depth 0.
  pub inside_accepted : check started_inside ≡ outcome 0 0
  pub inside_depth : depth (trace started_inside) 3 0 0 ≡ 1
  pub inside_object : depth (trace started_inside) 6 0 64 ≡ 0
  pub inside_outer : relations started_inside 1 ≡ related 0 0 5 0 0
  pub inside_start : relations started_inside 2 ≡ related 1 1 0 0 1
  pub inside_inner : relations started_inside 3 ≡ related 1 1 0 0 2
  pub inside_first : relations started_inside 6 ≡ related 0 0 0 0 2
  pub inside_closure : closure_of started_inside (6 ∷ []) ≡ 1 ∷ 2 ∷ 3 ∷ 4 ∷ 5 ∷ 6 ∷ []
  -- Nor does a join at depth 2: the release after it is an inner one.
  pub waiting_accepted : check joined_inside ≡ outcome 0 0
  pub waiting_depth : depth (trace joined_inside) 5 0 0 ≡ 2
  pub waiting_outer : relations joined_inside 2 ≡ related 0 0 6 0 0
  pub waiting_join : relations joined_inside 4 ≡ related 1 1 0 0 3
  pub waiting_inner : relations joined_inside 5 ≡ related 1 1 0 0 4
  pub waiting_closure : closure_of joined_inside (4 ∷ []) ≡ 1 ∷ 2 ∷ 3 ∷ 4 ∷ []
  pub waiting_load : load joined_inside 0 ≡ record { refusal = 0; event = 0; percent = 67 }

-- Every sample of starts and joins holds, by computation.
pub sample_tasks : SampleTasks
unfolding opened relations relations_refusal ones ones_in
sample_tasks = record {
  fifteen_started = refl;
  fifteen_elsewhere = refl;
  fifteen_joined = refl;
  fifteen_events = refl;
  sixteen_own = refl;
  sixteen_write = refl;
  sixteen_read = refl;
  sixteen_acquire = refl;
  sixteen_release = refl;
  sixteen_start = refl;
  sixteen_join = refl;
  fifteen_first = refl;
  five_first = refl;
  six_first = refl;
  seven_first = refl;
  join_unstarted = refl;
  join_twice = refl;
  start_last = refl;
  start_relations = refl;
  first_relations = refl;
  second_relations = refl;
  join_relations = refl;
  start_closure = refl;
  join_closure = refl;
  idle_closure = refl;
  unstarted_closure = refl;
  first_listed = refl;
  first_witness = refl;
  last_verdict = refl;
  last_listed = refl;
  joined_verdict = refl;
  joined_listed = refl;
  beside_listed = refl;
  beside_witness = refl;
  elsewhere_closure = refl;
  elsewhere_listed = refl;
  start_load = refl;
  start_lock = refl;
  inside_accepted = refl;
  inside_depth = refl;
  inside_object = refl;
  inside_outer = refl;
  inside_start = refl;
  inside_inner = refl;
  inside_first = refl;
  inside_closure = refl;
  waiting_accepted = refl;
  waiting_depth = refl;
  waiting_outer = refl;
  waiting_join = refl;
  waiting_inner = refl;
  waiting_closure = refl;
  waiting_load = refl;
}
