-- Each list that was looked at is empty, or its front is the block.
use Rattle.std.proofs.Common.{ℕ, List, length, arith, ap, ◌∙◌, subst}
use Rattle.sdr_base.specs.Stored.{number_at}
use Rattle.sdr_base.specs.KeptLarge.{large_place}
use Rattle.sdr_large.specs.Steps.{HasLeader}
use Rattle.sdr_large.proofs.ReadingLemmas.{reads_more}
use Rattle.sdr_large.proofs.AboveLemmas.{above_none, above_next, above_found, above_fits}
use Rattle.sdr_large.proofs.finding.first_above.Goals as goal

pub block_at-requires-clause-least : goal.block_at-requires-clause-least
block_at-requires-clause-least g c =
    let reads = c.loop-higher.invariant.0 in
    (above_fits c.args.order _ c.loop-higher.higher c.in_ok-addr.addr c.requires.pools (omega arith)
    (c.in_ok-addr.ensures.given ∙ ap (λ (l : List ℕ). number_at (large_place c.loop-higher.higher) l) reads.same)
    c.if-addr-ne0.true).0

pub block_at-requires-clause-inside : goal.block_at-requires-clause-inside
block_at-requires-clause-inside g c =
    let reads = c.loop-higher.invariant.0 in
    omega (
      arith,
      ap length c.in_ok-addr.ensures.same,
      ap length reads.same,
      (above_fits c.args.order _ c.loop-higher.higher c.in_ok-addr.addr c.requires.pools (omega arith)
          (c.in_ok-addr.ensures.given ∙ ap (λ (l : List ℕ). number_at (large_place c.loop-higher.higher) l) reads.same)
          c.if-addr-ne0.true).1,
    )

pub returns-then-addr-ne0-clause-found : goal.returns-then-addr-ne0-clause-found
returns-then-addr-ne0-clause-found g c =
    let reads = c.loop-higher.invariant.0 in
    above_found c.args.order _ c.loop-higher.higher c.in_ok-addr.addr c.in_ok-block_at.field-0 c.loop-higher.invariant.1 (omega arith)
    (c.in_ok-addr.ensures.given ∙ ap (λ (l : List ℕ). number_at (large_place c.loop-higher.higher) l) reads.same)
    c.if-addr-ne0.true
    (subst (λ (l : List ℕ). HasLeader c.in_ok-block_at.field-0 c.in_ok-addr.addr l) (c.in_ok-addr.ensures.same ∙ reads.same)
    c.in_ok-block_at.ensures.block)

pub loop-higher-preserved : goal.loop-higher-preserved
loop-higher-preserved g c =
    let reads = c.loop-higher.invariant.0 in (
      reads_more _ _ _ _ _ _ _ reads c.in_ok-addr.ensures.same c.in_ok-addr.ensures.room c.in_ok-addr.ensures.cause,
      above_next c.args.order _ c.loop-higher.higher c.in_ok-addr.addr c.loop-higher.invariant.1 (omega arith)
          (c.in_ok-addr.ensures.given ∙ ap (λ (l : List ℕ). number_at (large_place c.loop-higher.higher) l) reads.same)
          (omega arith),
      g.met.C.Cells.quiet_trans _ _ _ c.loop-higher.invariant.2 c.in_ok-addr.ensures.quiet,
    )

pub returns-clause-found : goal.returns-clause-found
returns-clause-found g c =
    above_none c.args.order _ c.loop-higher.higher c.loop-higher.invariant.1 (omega arith)
