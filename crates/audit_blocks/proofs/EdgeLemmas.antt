-- Where blocks may stand, once the control words are right.
use Rattle.std.proofs.Common.{◌≡◌, ◌≤◌, ◌%◌, ◌/◌, ℕ, List, length, arith, ap, sym, subst, ◌∙◌}
use Rattle.std.proofs.lemmas.Bool.{and_parts, eqb-true, leb-true}
use Rattle.sdr_base.specs.FreshHeap.{first_block}
use Rattle.sdr_base.specs.declared.control.TheConstants.{HIGH, LOW, START}
use Rattle.audit_blocks.specs.Control.{ControlIsRight, control_word}

-- the ends of both pools stand in order, at whole words
pub record InOrder (bytes : List ℕ) : Type 0 where
  pub start : control_word bytes START ≡ first_block (length bytes / 64)
  pub start_whole : control_word bytes START % 8 ≡ 0
  pub low : control_word bytes START ≤ control_word bytes LOW
  pub low_whole : control_word bytes LOW % 8 ≡ 0
  pub high : control_word bytes LOW ≤ control_word bytes HIGH
  pub high_whole : control_word bytes HIGH % 8 ≡ 0
  pub end : control_word bytes HIGH ≤ length bytes

pub in_order : (bytes : List ℕ) → ControlIsRight bytes → InOrder bytes
in_order bytes right =
    let start : control_word bytes START ≡ first_block (length bytes / 64) = eqb-true _ _ (right 1 (omega arith)) in
    let l = and_parts _ _ (right 2 (omega arith)) in
    let l' = and_parts _ _ l.0 in
    let h = and_parts _ _ (right 3 (omega arith)) in
    record {
      start = start;
      start_whole = ap (λ (n : ℕ). n % 8) start ∙ omega arith;
      low = subst (λ (n : ℕ). n ≤ control_word bytes LOW) (sym start) (leb-true _ _ l'.1);
      low_whole = eqb-true _ _ (and_parts _ _ l'.0).0;
      high = leb-true _ _ l.1;
      high_whole = eqb-true _ _ h.0;
      end = leb-true _ _ h.1;
    }
