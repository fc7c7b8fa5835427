-- `order::Latest::new` meets its contract: before event 1 there is no event. Assumes nothing.
use Prim.Native.Nat.{ℕ}
use mathlib.Core.Path.{refl}
use mathlib.Core.Bool.{true}
use lib.ListN.{length-replicate}
use Rattle.model.specs.Trace.{tasks, variables, task, object, is_write}
use Rattle.model.specs.Tasks.{is_start, target}
use Rattle.laws.proofs.LatestEvents.{latest-start}
use Rattle.order.proofs.Latest.new.Goals as goal

pub returns : goal.returns
returns c = λ σ. record {
  tasks_long = refl;
  event = latest-start (λ f. true) (task σ) tasks;
  start = latest-start (is_start σ) (target σ) tasks;
  writes_long = length-replicate {A = ℕ} variables 0;
  write = latest-start (is_write σ) (object σ) variables;
}
