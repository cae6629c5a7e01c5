use Rattle.std.proofs.Common.{◌+◌, ◌++◌, List, take, subst}
use Rattle.audit_owners.proofs.OwnersLemmas.{one_more, wrong_among}
use Rattle.audit_owners.proofs.ResultLemmas.{error_same}
use Rattle.audit_owners.specs.Chains.{IsWrongChain}
use Rattle.audit_owners.specs.View.{view_in}
use Rattle.audit_owners.specs.declared.owner.Owner.{Owner}
use Rattle.audit_owners.proofs.owners.check_each.Goals as goal

pub returns-in_err-check_chain-clause-wrong : goal.returns-in_err-check_chain-clause-wrong
returns-in_err-check_chain-clause-wrong c earlier w =
    error_same (λ wrong. IsWrongChain (view_in c.args.heap.now) (earlier ++ c.args.owners.now) wrong.place) c.from_residual.result c.from_residual.ensures.1
    (wrong_among (view_in c.args.heap.now) earlier c.args.owners.now (c.loop-i.i + 1) c.in_err-check_chain.field-0.0.place
    (subst (λ (l : List Owner). IsWrongChain (view_in c.args.heap.now) l c.in_err-check_chain.field-0.0.place)
    (one_more earlier c.args.owners.now c.loop-i.i _ c.loop-i-test.true)
    (c.in_err-check_chain.ensures.wrong (earlier ++ take c.loop-i.i c.args.owners.now) (c.loop-i.invariant earlier w))))
