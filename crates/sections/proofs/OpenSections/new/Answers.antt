-- `sections::OpenSections::new` meets its contract: before event 1 no lock is held. Assumes nothing.
use Rattle.model.specs.Trace.{locks, object, is_acquire}
use Rattle.laws.proofs.LatestEvents.{latest-start}
use Rattle.laws.proofs.Locksets.{locksets-start}
use Rattle.laws.proofs.Kept.{kept_depths-start}
use Rattle.sections.proofs.OpenSections.new.Goals as goal

pub returns : goal.returns
returns c = λ σ. record {
  depth = kept_depths-start;
  lockset = locksets-start σ;
  acquire = latest-start (is_acquire σ) (object σ) locks;
}
