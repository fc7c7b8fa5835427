-- `pruning::Links::leads` meets its contract: the candidates so far are noted, and all of them where no link
-- leads on. Assumes nothing.
use Prim.Native.Nat.{ℕ}
use native.Mathlib.Omega.{arith}
use lib.ListN.{length-replicate}
use Rattle.model.specs.Recording.{decode_all}
use Rattle.laws.proofs.Trace.{decode_all-length}
use Rattle.pruning.specs.Candidates.{candidates_of}
use Rattle.pruning.proofs.Nested.{nested_acquire}
use Rattle.pruning.proofs.Leads.{led-start, led_link, led_end}
use Rattle.pruning.proofs.Links.leads.Goals as goal

pub loop-e-init : goal.loop-e-init
loop-e-init c =
    let a = c.args in
    let b = a.self.now.trace.now.records.bytes.now in (
      omega (arith, c.requires, decode_all-length b),
      led-start (decode_all b) (candidates_of a.candidates.now) _ (length-replicate {A = ℕ} 64 0),
    )

pub link-requires : goal.link-requires
link-requires c =
    omega (arith, c.loop-e.invariant.0, decode_all-length c.args.self.now.trace.now.records.bytes.now)

pub note-requires : goal.note-requires
note-requires c =
    let a = c.args in
    let b = a.self.now.trace.now.records.bytes.now in
    let l = c.loop-e in
    let (d, y) = c.in-Some.ensures in
    let e = y.passes d in
    let size = decode_all-length b in (
      omega (arith, e.0),
      omega (arith, e.1),
      nested_acquire _ c.in-Some.e e.2,
      led_link (decode_all b) (candidates_of a.candidates.now) l.lead l.at l.invariant.1 c.in-Some.e y,
    )

pub returns : goal.returns
returns c =
    let a = c.args in
    let l = c.loop-e in
    led_end (decode_all a.self.now.trace.now.records.bytes.now) (candidates_of a.candidates.now) l.lead l.at
    l.invariant.1 c.in_default.ensures
