use Rattle.std.proofs.Common.{◌≡◌, ◌+◌, ◌≤◌, ◌/◌, [], ℕ, List, length, arith, subst}
use Rattle.audit_owners.proofs.OwnersLemmas.{owners_more, walked_over, wrong_by}
use Rattle.audit_owners.proofs.ResultLemmas.{error_same}
use Rattle.audit_owners.proofs.WalkLemmas.{walk_begins}
use Rattle.audit_owners.specs.Chains.{IsWrongChain}
use Rattle.audit_owners.specs.Owners.{owners_of}
use Rattle.audit_owners.specs.View.{view_in}
use Rattle.audit_owners.specs.Walking.{HasWalked}
use Rattle.audit_owners.specs.declared.owner.Owner.{Owner}
use Rattle.audit_owners.proofs.owners.check_chains.Goals as goal

pub returns-in_err-check_each-clause-wrong : goal.returns-in_err-check_each-clause-wrong
returns-in_err-check_each-clause-wrong c =
    let heap = view_in c.args.heap.now in
    error_same (λ wrong. IsWrongChain heap (owners_of heap (length c.args.marks.now)) wrong.place) c.from_residual.result c.from_residual.ensures.1
    (wrong_by heap 0 (length c.args.marks.now) c.in_err-check_each.field-0.0.place (omega arith)
    (c.in_err-check_each.ensures.wrong [] (walk_begins heap c.args.marks.now c.requires.clear)))

pub loop-number-init : goal.loop-number-init
loop-number-init c = record {
  inside = omega arith;
  walked = c.in_ok-check_each.ensures.walked [] (walk_begins (view_in c.args.heap.now) c.args.marks.now c.requires.clear);
}

pub returns-in_err-check_block-clause-wrong : goal.returns-in_err-check_block-clause-wrong
returns-in_err-check_block-clause-wrong c =
    let heap = view_in c.args.heap.now in
    let n = c.in-Some.number in
    let next = c.in-Some.ensures.next in
    let inside = next.inside in
    let few : n + 1 ≤ length c.args.marks.now = omega (arith, inside) in
    error_same (λ wrong. IsWrongChain heap (owners_of heap (length c.args.marks.now)) wrong.place) c.from_residual-in_err-check_block.result
    c.from_residual-in_err-check_block.ensures.1
    (wrong_by heap (n + 1) (length c.args.marks.now) c.in_err-check_block.field-0.0.place few
    (subst (λ (l : List Owner). IsWrongChain heap l c.in_err-check_block.field-0.0.place) (owners_more heap n)
    (c.in_err-check_block.ensures.wrong (owners_of heap n)
    (walked_over c.args.heap.now c.loop-number.marks c.loop-number.from n next.onward next.before c.loop-number.invariant.walked))))

pub loop-number-preserved : goal.loop-number-preserved
loop-number-preserved c =
    let heap = view_in c.args.heap.now in
    let n = c.in-Some.number in
    let next = c.in-Some.ensures.next in
    let inside = next.inside in
    record {
      inside = omega (arith, inside);
      walked =
          subst (λ (l : List Owner). HasWalked heap l c.check_block.new.marks) (owners_more heap n)
          (c.in_ok-check_block.ensures.walked (owners_of heap n)
          (walked_over c.args.heap.now c.loop-number.marks c.loop-number.from n next.onward next.before c.loop-number.invariant.walked));
    }

pub returns-clause-walked : goal.returns-clause-walked
returns-clause-walked c =
    let heap = view_in c.args.heap.now in
    let words : length c.args.heap.now / 8 ≡ length c.args.marks.now = omega arith in
    subst (λ (n : ℕ). HasWalked heap (owners_of heap n) c.loop-number.marks) words
    (walked_over c.args.heap.now c.loop-number.marks c.loop-number.from (length c.args.heap.now / 8) c.loop-number.invariant.inside
    (λ word onward less. c.next_of.ensures.none c.in_default.is word onward) c.loop-number.invariant.walked)
