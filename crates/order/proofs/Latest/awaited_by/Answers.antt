-- `order::Latest::awaited_by` meets its contract: each return is the case of an operation. Assumes nothing.
use mathlib.Core.Path.{refl, sym, ◌∙◌}
use borrow.Author.Tests.{ne_eqb}
use Rattle.laws.proofs.Operations.{is_read_op, is_join-none}
use Rattle.laws.proofs.Awaited.{awaited_other, awaited-none}
use Rattle.recording.specs.Asked.{code}
use Rattle.recording.specs.declared.Op.TheVariants.{Read, Release}
use Rattle.recording.proofs.Laws.{code_apart}
use Rattle.order.proofs.Laws.{read_awaits}
use Rattle.order.proofs.Latest.awaited_by.Goals as goal

pub returns-in-Read : goal.returns-in-Read
returns-in-Read c =
    read_awaits c.requires.3 c.in-Read.ensures c.object.ensures refl

pub returns-in-Release : goal.returns-in-Release
returns-in-Release c =
    c.joined_of.ensures ∙ sym (awaited_other _ c.args.e (is_read_op _ c.args.e c.in-Release.ensures))

pub returns-in_default : goal.returns-in_default
returns-in_default c =
    let q = c.operation.ensures in
    let k = c.operation.result in
    let unread = ne_eqb (code k) 0 (code_apart k Read c.in_default.not-Read) in
    let unjoined = is_join-none _ c.args.e q (code_apart k Release c.in_default.not-Release) in
    sym (awaited-none _ c.args.e (is_read_op _ c.args.e q ∙ unread) unjoined)
