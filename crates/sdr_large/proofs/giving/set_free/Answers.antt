-- The block is unassigned at `high`, and else it is put into the gap.
use Rattle.std.proofs.Common.{refl, arith, ap, ◌∙◌, ℕ, List, ◌+◌, ◌*◌}
use Rattle.std.proofs.lemmas.Result.{on_ok_weaker}
use Rattle.sdr_base.specs.Stored.{with_number}
use Rattle.sdr_large.proofs.GivingLemmas.{can_join, puts_high, loose_gap, puts_free_back}
use Rattle.sdr_large.proofs.giving.set_free.Goals as goal

pub overflow_mul-block : goal.overflow_mul-block
overflow_mul-block g c = let k = can_join _ _ _ c.requires.loose refl in omega (arith, k.inside, k.short)

pub overflow_add-block : goal.overflow_add-block
overflow_add-block g c = let k = can_join _ _ _ c.requires.loose refl in omega (arith, k.inside, k.short)

pub overflow_add-block-then-block-high : goal.overflow_add-block-then-block-high
overflow_add-block-then-block-high g c =
    let k = can_join _ _ _ c.requires.loose refl in omega (arith, k.inside, k.short)

pub returns-then-block-high-clause-put : goal.returns-then-block-high-clause-put
returns-then-block-high-clause-put g c =
    on_ok_weaker c.write_number.result
    (λ written. puts_high c.args.block _ _ c.in_ok-high.high c.in_ok-high.ensures.given (omega arith)
    (written ∙ ap (λ (l : List ℕ). with_number 24 (c.args.block.addr + 8 * c.args.block.words + 16) l)
    c.in_ok-high.ensures.same))
    c.write_number.ensures.written

pub put_free-requires : goal.put_free-requires
put_free-requires g c = record { gap = loose_gap _ _ _ c.requires.loose c.in_ok-high.ensures.same }

pub returns-clause-put : goal.returns-clause-put
returns-clause-put g c =
    on_ok_weaker c.put_free.result
    (λ puts. puts_free_back c.args.block _ _ _ c.in_ok-high.high c.in_ok-high.ensures.given c.in_ok-high.ensures.same
    c.if-block-high.false puts)
    c.put_free.ensures.put
