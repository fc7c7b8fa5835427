-- `pruning::candidates::Candidates::note` meets its contract: the acquire is no candidate, or its held locks
-- are noted with its lock. Assumes nothing.
use Prim.Native.Nat.{◌<◌}
use native.Mathlib.Omega.{arith}
use Rattle.model.specs.Trace.{locks, object}
use Rattle.model.specs.Recording.{decode_all}
use Rattle.laws.proofs.WellFormed.{acquire_lt}
use Rattle.recording.proofs.Accepted.{sound}
use Rattle.pruning.specs.Candidates.{candidates_of}
use Rattle.pruning.proofs.Leads.{led_noted}
use Rattle.pruning.proofs.candidates.Candidates.note.Goals as goal
use Rattle.pruning.proofs.candidates.Candidates.note.Goals.{Start}

-- The object of the acquire is a lock.
lock : (c : goal.Start) → object (decode_all c.args.trace.now.records.bytes.now) c.args.e < locks
lock c =
    let trace = c.args.trace.now in
    acquire_lt (decode_all trace.records.bytes.now)
    (sound trace.records) c.args.e c.requires.2

pub bounds-lead-l : goal.bounds-lead-l
bounds-lead-l c =
    omega (arith, lock (goal.at.bounds-lead-l c).Start, c.object-l.ensures.1, c.requires.3.long)

pub bounds-lead-l-2 : goal.bounds-lead-l-2
bounds-lead-l-2 c =
    omega (arith, lock (goal.at.bounds-lead-l-2 c).Start, c.object-l.ensures.1, c.requires.3.long)

pub returns : goal.returns
returns c =
    let a = c.args in
    let is-object = c.object-l.ensures.1 in
    led_noted (decode_all a.trace.now.records.bytes.now) (candidates_of a.self.now) a.lead.now a.e
    c.requires.3 _ _ (omega (arith, lock (goal.at.returns c).Start, is-object)) is-object c.held-held.ensures
