-- A maximum, read.
use Rattle.step_zco.proofs.AccountCalls.{maximum_answered}
use Rattle.step_things.proofs.CallLemmas.{comes_answered}
use Rattle.sdr_model.specs.declared.answer.Reply.TheVariants as replies
use Rattle.sdr_model.specs.declared.call.Call.TheVariants as calls
use Rattle.step_zco.proofs.accounts.maximum.Goals as goal

pub returns-clause-comes : goal.returns-clause-comes
returns-clause-comes g c =
    let old = g.O.HasHeap.heap c.args.o.now in
    let new = g.O.HasHeap.heap c.maximum.new.o in
    comes_answered (calls.Maximum c.args.acct c.args.space) old new c.args.page.now c.clear.new.self
    (replies.Value c.in_ok-value.value) c.clear.ensures
    (λ w stands served. maximum_answered old new w c.requires.unmoved stands c.in_ok-value.ensures.looks.same c.args.acct
    c.args.space c.in_ok-value.value c.in_ok-value.ensures.given)
