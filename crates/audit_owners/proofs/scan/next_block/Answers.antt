use Rattle.std.proofs.Common.{◌≡◌, ◌*◌, ℕ, false, arith, subst, inl, inr}
use Rattle.std.specs.Prelude.{is_some}
use Rattle.std.proofs.lemmas.Bool.{cases_lt}
use Rattle.sdr_base.specs.Blocks.{kind_length}
use Rattle.sdr_base.specs.KeptHeap.{block_in}
use Rattle.audit_owners.proofs.RegionLemmas.{no_kind, none_past}
use Rattle.audit_owners.proofs.ScanLemmas.{holds_up_to, none_behind}
use Rattle.audit_owners.specs.Scan.{HasNoBlock, HasNoStart}
use Rattle.audit_owners.proofs.scan.next_block.Goals as goal

pub overflow_add-word : goal.overflow_add-word
overflow_add-word c =
    let before = c.saturating_sub.ensures in
    let most = c.next_start-start.ensures.most (omega (arith, before)) in
    let start = c.max-word.ensures in
    omega (arith, most, start)

pub loop-word-preserved : goal.loop-word-preserved
loop-word-preserved c =
    let start = c.max-word.ensures in
    let clear = subst (λ (n : ℕ). HasNoStart c.args.heap.now n c.next_start-start.result) c.saturating_sub.ensures c.next_start-start.ensures.clear in
    let none : is_some (kind_length (block_in c.args.heap.now (8 * c.loop-word.word))) ≡ false = cc in
    let here = no_kind (block_in c.args.heap.now (8 * c.loop-word.word)) none in
    record {
      onward = omega (arith, start);
      passed = λ other onward less.
          holds_up_to (HasNoBlock c.args.heap.now) c.args.from c.loop-word.word c.next_start-start.result c.loop-word.invariant.passed here
          (λ next behind before. none_behind c.args.heap.now c.loop-word.word c.next_start-start.result next clear behind before) other onward
          (omega (arith, start, less));
    }

pub returns-clause-none : goal.returns-clause-none
returns-clause-none c is word onward = elim (cases_lt word c.loop-word.word) [
  | inl below ↦ c.loop-word.invariant.passed word onward below
  | inr behind ↦ none_past c.args.heap.now (8 * word) (omega (arith, behind))
]
