use Rattle.std.proofs.Common.{◌∙◌, ℕ, arith, subst, sym, inl, inr}
use Rattle.std.proofs.lemmas.Bool.{cases_lt}
use Rattle.audit_owners.proofs.OneOfLemmas.{none_led_behind, none_of_past}
use Rattle.audit_owners.proofs.ScanLemmas.{holds_up_to}
use Rattle.audit_owners.specs.Scan.{HasNoneOf, LeadsNone}
use Rattle.audit_owners.proofs.scan.next_of.Goals as goal

pub overflow_add-word : goal.overflow_add-word
overflow_add-word c =
    let before = c.saturating_sub.ensures in
    let most = c.next_leader-leader.ensures.most (omega (arith, before)) in
    let leader = c.max-word.ensures in
    omega (arith, most, leader)

pub loop-word-preserved : goal.loop-word-preserved
loop-word-preserved c =
    let leader = c.max-word.ensures in
    let clear = subst (λ (n : ℕ). LeadsNone c.args.kinds.now c.args.heap.now n c.next_leader-leader.result) c.saturating_sub.ensures c.next_leader-leader.ensures.clear in
    let here : HasNoneOf c.args.kinds.now c.args.heap.now c.loop-word.word = sym c.is_one_of.ensures ∙ c.if-is_one_of.false in
    record {
      onward = omega (arith, leader);
      passed = λ other onward less.
          holds_up_to (HasNoneOf c.args.kinds.now c.args.heap.now) c.args.from c.loop-word.word c.next_leader-leader.result c.loop-word.invariant.passed here
          (λ next behind before. none_led_behind c.args.kinds.now c.args.heap.now c.loop-word.word c.next_leader-leader.result next clear behind before)
          other onward (omega (arith, leader, less));
    }

pub returns-clause-none : goal.returns-clause-none
returns-clause-none c is word onward = elim (cases_lt word c.loop-word.word) [
  | inl below ↦ c.loop-word.invariant.passed word onward below
  | inr behind ↦ none_of_past c.args.kinds.now c.args.heap.now word (omega (arith, behind))
]
