-- `closure::close_set` meets its contract: the events before and after are counted, and the bytes are those
-- of the closure. Assumes nothing.
use Prim.Native.Nat.{◌-◌, ◌*◌, ◌≤◌}
use mathlib.Core.Path.{◌≡◌, ap₂, ◌∙◌}
use native.Mathlib.Omega.{arith}
use lib.ListN.{length}
use Rattle.model.specs.Recording.{decode_all}
use Rattle.model.specs.EventSet.{members, lent_set}
use Rattle.model.specs.Closure.{closure}
use Rattle.laws.proofs.Trace.{decode_all-length}
use Rattle.closure.proofs.Steps.{count_lent, members_grow, count_closed, bytes_closed}
use Rattle.closure.proofs.close_set.Goals as goal
use Rattle.closure.proofs.close_set.Goals.{After-count-2}

-- The lent set's events are counted,
before : (c : goal.After-count-2)
    → let σ = decode_all c.args.trace.now.records.bytes.now in
    c.count-2.result ≡ length (members σ (lent_set σ c.args.set.now))
before c =
    let records = c.args.trace.now.records in
    let σ = decode_all records.bytes.now in
    let small : length σ ≤ 64 * length c.args.words.now =
    omega (arith, records.short, decode_all-length records.bytes.now) in
    c.count-2.ensures ∙ count_lent σ c.args.set.now c.args.words.now c.requires.1 c.requires.2 _ small

-- and those of its closure.
after : (c : goal.After-count-2)
    → let σ = decode_all c.args.trace.now.records.bytes.now in
    c.count.result ≡ length (members σ (closure σ (lent_set σ c.args.set.now)))
after c =
    let q = c.put_behind in
    let r = c.reach in
    let records = c.args.trace.now.records in
    let σ = decode_all records.bytes.now in
    let small : length σ ≤ 64 * length q.new.words =
    omega (arith, records.short, decode_all-length records.bytes.now) in
    c.count.ensures
    ∙ count_closed σ c.args.set.now c.args.words.now c.requires.1 r.new.frontier.front q.new.words
    r.ensures q.ensures _ small

pub unpack-requires : goal.unpack-requires
unpack-requires c =
    let records = c.args.trace.now.records in
    omega (arith, records.short, c.requires.0, decode_all-length records.bytes.now)

pub overflow_sub-result : goal.overflow_sub-result
overflow_sub-result c =
    let grow = members_grow (decode_all c.args.trace.now.records.bytes.now) c.args.set.now in
    omega (
      arith,
      before (goal.at.overflow_sub-result c).After-count-2,
      after (goal.at.overflow_sub-result c).After-count-2,
      grow,
    )

pub returns : goal.returns
returns c =
    let set = c.args.set.now in
    let bytes = c.unpack.new.set in
    let long : length bytes ≡ length set = c.unpack.auto.set in record {
      answer = ap₂ ◌-◌ (after (goal.at.returns c).After-count-2)
          (before (goal.at.returns c).After-count-2);
      output = bytes_closed (decode_all c.args.trace.now.records.bytes.now) set c.args.words.now c.requires.1
          c.reach.new.frontier.front c.put_behind.new.words c.reach.ensures
          c.put_behind.ensures bytes (long ∙ c.requires.0) (λ k. (c.type_inv.set k).fits)
          (λ i h. c.unpack.ensures i (omega (arith, long)));
    }
