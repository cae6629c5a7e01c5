use Rattle.std.proofs.Common.{◌/◌, ◌∙◌, List, length, subst, sym, arith}
use Rattle.sdr_base.specs.declared.kind.Kind.{Kind}
use Rattle.audit_owners.specs.Scan.{HasNoneOf, HaveNoneOf}
use Rattle.audit_owners.proofs.RulesLemmas.{kept_all, kept_more, kept_over}
use Rattle.audit_owners.proofs.rules.check_rule.Goals as goal

pub returns-then-not-keeps-clause-broken : goal.returns-then-not-keeps-clause-broken
returns-then-not-keeps-clause-broken c reached marked =
    let next = c.in-Some.ensures.next in
    let none = subst (λ (kinds : List Kind). HaveNoneOf kinds c.args.heap.now c.loop-number.from c.in-Some.number) c.kinds.ensures next.before in
    record {
      before = kept_over c.args.heap.now reached c.args.rule c.loop-number.from c.in-Some.number next.onward none (c.loop-number.invariant.kept reached marked);
      wrong = sym (c.keeps.ensures reached marked) ∙ c.if-not-keeps.true;
    }

pub loop-number-preserved : goal.loop-number-preserved
loop-number-preserved c =
    let next = c.in-Some.ensures.next in
    let none = subst (λ (kinds : List Kind). HaveNoneOf kinds c.args.heap.now c.loop-number.from c.in-Some.number) c.kinds.ensures next.before in
    let inside = next.inside in
    record {
      inside = omega (arith, inside);
      kept = λ reached marked.
          kept_more c.args.heap.now reached c.args.rule c.in-Some.number
          (kept_over c.args.heap.now reached c.args.rule c.loop-number.from c.in-Some.number next.onward none (c.loop-number.invariant.kept reached marked))
          (sym (c.keeps.ensures reached marked) ∙ c.if-not-keeps.false);
    }

pub returns-clause-kept : goal.returns-clause-kept
returns-clause-kept c reached marked =
    kept_all c.args.heap.now reached c.args.rule (length c.args.heap.now / 8) (omega arith)
    (kept_over c.args.heap.now reached c.args.rule c.loop-number.from (length c.args.heap.now / 8) c.loop-number.invariant.inside
    (λ word onward less. subst (λ (kinds : List Kind). HasNoneOf kinds c.args.heap.now word) c.kinds.ensures (c.next_of.ensures.none c.in_default.is word onward)) (c.loop-number.invariant.kept reached marked))
