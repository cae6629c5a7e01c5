use Rattle.std.proofs.Common.{◌<◌, ◌∙◌, ◌/◌, ℕ, List, length, arith, subst, sym}
use Rattle.sdr_base.specs.declared.kind.Kind.{Kind}
use Rattle.audit_owners.specs.Scan.{HasNoneOf, HaveNoneOf}
use Rattle.audit_counts.proofs.CountedLemmas.{others_keep}
use Rattle.audit_owners.proofs.PlacesLemmas.{found_first, found_more, found_over}
use Rattle.audit_counts.specs.Rules.{count_kinds, keeps_count_rule}
use Rattle.audit_owners.specs.View.{view_in}
use Rattle.audit_counts.proofs.rules.first_broken.Goals as goal

pub returns-then-not-branch : goal.returns-then-not-branch
returns-then-not-branch c =
    let words : ℕ = length c.args.heap.now / 8 in
    let test = keeps_count_rule (view_in c.args.heap.now) words c.args.rule in
    let next = c.in-Some.ensures.next in
    let none = subst (λ (kinds : List Kind). HaveNoneOf kinds c.args.heap.now c.loop-number.from c.in-Some.number) c.kinds.ensures next.before in
    let end = next.inside in
    let inside : c.in-Some.number < words = omega (arith, end) in
    sym (found_first test c.in-Some.number words inside
    (found_over (count_kinds c.args.rule) c.args.heap.now test c.loop-number.from c.in-Some.number (others_keep c.args.heap.now words c.args.rule) next.onward none c.loop-number.invariant.kept)
    (sym c.in_ok-keeps.ensures ∙ c.if-not-branch.true))

pub loop-number-preserved : goal.loop-number-preserved
loop-number-preserved c =
    let words : ℕ = length c.args.heap.now / 8 in
    let test = keeps_count_rule (view_in c.args.heap.now) words c.args.rule in
    let next = c.in-Some.ensures.next in
    let none = subst (λ (kinds : List Kind). HaveNoneOf kinds c.args.heap.now c.loop-number.from c.in-Some.number) c.kinds.ensures next.before in
    let end = next.inside in
    record {
      inside = omega (arith, end);
      kept =
          found_more test c.in-Some.number
          (found_over (count_kinds c.args.rule) c.args.heap.now test c.loop-number.from c.in-Some.number (others_keep c.args.heap.now words c.args.rule) next.onward none c.loop-number.invariant.kept)
          (sym c.in_ok-keeps.ensures ∙ c.if-not-branch.false);
    }

pub returns : goal.returns
returns c =
    let words : ℕ = length c.args.heap.now / 8 in
    sym (found_over (count_kinds c.args.rule) c.args.heap.now (keeps_count_rule (view_in c.args.heap.now) words c.args.rule) c.loop-number.from words
    (others_keep c.args.heap.now words c.args.rule) c.loop-number.invariant.inside
    (λ word onward less. subst (λ (kinds : List Kind). HasNoneOf kinds c.args.heap.now word) c.kinds.ensures (c.next_of.ensures.none c.in_default.is word onward)) c.loop-number.invariant.kept)
