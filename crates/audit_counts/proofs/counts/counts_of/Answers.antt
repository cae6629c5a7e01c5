use Rattle.std.proofs.Common.{◌≡◌, ◌+◌, ◌*◌, ◌∙◌, ◌/◌, ℕ, List, length, sum_by, arith, ap, subst, sym}
use Rattle.audit_counts.proofs.CountsLemmas.{told_over, uses_push, whole_slice}
use Rattle.audit_counts.specs.Counts.{uses_at}
use Rattle.audit_owners.specs.Places.{places}
use Rattle.audit_counts.specs.Numbers.{AreTold}
use Rattle.audit_owners.specs.View.{view_in}
use Rattle.audit_counts.proofs.counts.counts_of.Goals as goal

pub loop-number-preserved : goal.loop-number-preserved
loop-number-preserved c =
    let heap = view_in c.args.heap.now in
    let words : ℕ = length c.args.heap.now / 8 in
    let number = c.in-Some.number in
    let next = c.in-Some.ensures.next in
    let end = next.inside in
    let old = c.loop-number.counts.items in
    let new = c.count_object.new.counts in
    let same : length new ≡ length old = omega arith in
    let whole = whole_slice new old c.loop-number.counts.len same (omega arith) in
    let before =
    told_over c.args.heap.now words c.args.account old c.loop-number.from number next.onward next.before c.loop-number.invariant.told in
    record {
      inside = omega (arith, end);
      long = ap (λ (l : List ℕ). length l) whole ∙ same ∙ c.loop-number.invariant.long;
      told =
          uses_push heap words c.args.account number _
          (subst (AreTold (λ from. sum_by (uses_at heap words c.args.account from) (places number) + uses_at heap words c.args.account from (8 * number))) (sym whole)
          (c.in_ok-count_object.ensures (λ from. sum_by (uses_at heap words c.args.account from) (places number))
          (subst (AreTold (λ from. sum_by (uses_at heap words c.args.account from) (places number))) (sym c.deref_mut.ensures.value) before)));
    }

pub returns-clause-told : goal.returns-clause-told
returns-clause-told c =
    told_over c.args.heap.now (length c.args.heap.now / 8) c.args.account c.loop-number.counts.items c.loop-number.from (length c.args.heap.now / 8)
    c.loop-number.invariant.inside (λ word onward less. c.next_of.ensures.none c.in_default.is word onward) c.loop-number.invariant.told
