use Rattle.std.proofs.Common.{◌<◌, ◌+◌, ◌-◌, ◌/◌, ◌++◌, ℕ, List, subst}
use Rattle.std.specs.Prelude.{map}
use Rattle.std.specs.List.{range_with_len}
use Rattle.audit_owners.proofs.OwnersLemmas.{row_more, wrong_in_row}
use Rattle.audit_owners.proofs.ResultLemmas.{error_same}
use Rattle.audit_owners.specs.Chains.{IsWrongChain}
use Rattle.audit_owners.specs.View.{view_in}
use Rattle.audit_owners.specs.Walking.{HasWalked}
use Rattle.audit_owners.specs.declared.owner.Owner.{Owner}
use Rattle.audit_owners.specs.declared.owner.Owner.TheVariants.{Bucket}
use Rattle.audit_owners.proofs.owners.check_buckets.Goals as goal

-- the chain of a bucket
abbrev bucket : ℕ → ℕ → Owner
bucket addr number = Bucket addr (3 + number)

pub returns-in_err-check_chain-clause-wrong : goal.returns-in_err-check_chain-clause-wrong
returns-in_err-check_chain-clause-wrong c earlier w =
    let f = bucket c.args.addr in
    let all : ℕ = c.args.bytes / 8 - 3 in
    let less : c.loop-number.number < all = subst (λ (n : ℕ). c.loop-number.number < n) c.saturating_sub-number-end.ensures c.loop-number-test.true in
    error_same (λ wrong. IsWrongChain (view_in c.args.heap.now) (earlier ++ map f (range_with_len 0 all)) wrong.place) c.from_residual.result
    c.from_residual.ensures.1
    (wrong_in_row (view_in c.args.heap.now) f earlier c.loop-number.number all c.in_err-check_chain.field-0.0.place less
    (c.in_err-check_chain.ensures.wrong (earlier ++ map f (range_with_len 0 c.loop-number.number)) (c.loop-number.invariant earlier w)))

pub loop-number-preserved : goal.loop-number-preserved
loop-number-preserved c earlier w =
    let f = bucket c.args.addr in
    subst (λ (l : List Owner). HasWalked (view_in c.args.heap.now) l c.check_chain.new.marks) (row_more f earlier c.loop-number.number)
    (c.in_ok-check_chain.ensures.walked (earlier ++ map f (range_with_len 0 c.loop-number.number)) (c.loop-number.invariant earlier w))
