use Rattle.std.proofs.Common.{◌≡◌, ◌∙◌, ◌++◌, ◌∷◌, [], true, ap, refl, sym, subst}
use Rattle.audit_owners.proofs.ResultLemmas.{error_same, if_err, on_ok}
use Rattle.audit_owners.proofs.WalkLemmas.{chain_begins, chain_ends, chain_ends_wrong}
use Rattle.audit_owners.specs.Chains.{EndsElsewhere, IsWrongChain, has_last}
use Rattle.audit_owners.specs.Owners.{told_at}
use Rattle.audit_owners.specs.View.{view_in}
use Rattle.audit_owners.specs.Walking.{HasWalked}
use Rattle.audit_owners.specs.declared.owner.Owner.{Owner}
use Rattle.audit_owners.proofs.chain.check_chain.Goals as goal

pub loop-step-init : goal.loop-step-init
loop-step-init c = record {
  walking = λ owners w. chain_begins w c.args.owner c.read.result (c.read.ensures ∙ ap (told_at (view_in c.args.heap.now)) c.first.ensures.is);
  owner = refl;
}

pub returns-in_err-step-clause-wrong : goal.returns-in_err-step-clause-wrong
returns-in_err-step-clause-wrong c owners w =
    error_same (λ wrong. IsWrongChain (view_in c.args.heap.now) (owners ++ (c.args.owner ∷ [])) wrong.place) c.from_residual.result
    c.from_residual.ensures.1
    (subst (λ (o : Owner). IsWrongChain (view_in c.args.heap.now) (owners ++ (o ∷ [])) c.in_err-step.field-0.0.place) c.loop-step.invariant.owner
    (c.in_err-step.ensures.wrong owners (c.loop-step.invariant.walking owners w)))

pub loop-step-preserved : goal.loop-step-preserved
loop-step-preserved c = record {
  walking = λ owners w. c.in_ok-step.ensures.walking owners (c.loop-step.invariant.walking owners w);
  owner = c.in_ok-step.ensures.owner ∙ c.loop-step.invariant.owner;
}

pub returns-clause-walked : goal.returns-clause-walked
returns-clause-walked c owners w =
    let heap = view_in c.args.heap.now in
    let step = c.loop-step.step in
    on_ok (has_last heap c.args.owner step.before ≡ true) (HasWalked heap (owners ++ (c.args.owner ∷ [])) c.loop-step.marks) c.check_last.result
    (λ ends. subst (λ (o : Owner). HasWalked heap (owners ++ (o ∷ [])) c.loop-step.marks) c.loop-step.invariant.owner
    (chain_ends heap owners step c.loop-step.marks (c.loop-step.invariant.walking owners w) c.loop-step-test.false
    (subst (λ (o : Owner). has_last heap o step.before ≡ true) (sym c.loop-step.invariant.owner) ends)))
    c.check_last.ensures.right

pub returns-clause-wrong : goal.returns-clause-wrong
returns-clause-wrong c owners w =
    let heap = view_in c.args.heap.now in
    let step = c.loop-step.step in
    if_err (λ wrong. EndsElsewhere heap c.args.owner step.before 0 wrong.place) (λ wrong. IsWrongChain heap (owners ++ (c.args.owner ∷ [])) wrong.place)
    c.check_last.result
    (λ wrong ends. subst (λ (o : Owner). IsWrongChain heap (owners ++ (o ∷ [])) wrong.place) c.loop-step.invariant.owner
    (chain_ends_wrong heap owners step c.loop-step.marks (c.loop-step.invariant.walking owners w) wrong.place c.loop-step-test.false
    (subst (λ (o : Owner). EndsElsewhere heap o step.before 0 wrong.place) (sym c.loop-step.invariant.owner) ends)))
    c.check_last.ensures.wrong
