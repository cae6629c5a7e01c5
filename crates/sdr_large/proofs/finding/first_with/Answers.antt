-- The way along the list, a block further each time.
use Rattle.std.proofs.Common.{ℕ, List, length, arith, ap, ◌∙◌, subst, ◌/◌, ◌-◌}
use Rattle.sdr_base.specs.Stored.{number_at}
use Rattle.sdr_large.specs.Steps.{HasLeader}
use Rattle.sdr_large.proofs.ReadingLemmas.{reads_first, reads_more}
use Rattle.sdr_large.proofs.WalkLemmas.{walk_start, walk_none, walk_end, walk_found, walk_next, walk_fits}
use Rattle.sdr_large.proofs.finding.first_with.Goals as goal

pub loop-init : goal.loop-init
loop-init g c = (
  reads_first _ _ _ _ _ c.in_ok-addr.ensures.same c.in_ok-addr.ensures.room c.in_ok-addr.ensures.cause,
  walk_start c.args.order c.args.words _ c.in_ok-addr.addr c.requires.order c.in_ok-addr.ensures.given,
  c.in_ok-addr.ensures.quiet,
  ap (λ (n : ℕ). n / 40) (c.size-end.ensures.bytes ∙ ap length c.in_ok-addr.ensures.same),
)

pub returns-then-addr-eq0-clause-found : goal.returns-then-addr-eq0-clause-found
returns-then-addr-eq0-clause-found g c =
    walk_none c.args.order c.args.words _ c.loop.addr c.loop.counter c.loop.invariant.1 c.if-addr-eq0.true

pub block_at-requires-clause-least : goal.block_at-requires-clause-least
block_at-requires-clause-least g c =
    (walk_fits c.args.order c.args.words _ c.loop.addr c.loop.counter c.loop.invariant.1 c.requires.pools
    c.if-addr-eq0.false).0

pub block_at-requires-clause-inside : goal.block_at-requires-clause-inside
block_at-requires-clause-inside g c =
    omega (
      arith,
      ap length c.loop.invariant.0.same,
      (walk_fits c.args.order c.args.words _ c.loop.addr c.loop.counter c.loop.invariant.1 c.requires.pools
          c.if-addr-eq0.false).1,
    )

pub returns-then-words-block-clause-found : goal.returns-then-words-block-clause-found
returns-then-words-block-clause-found g c =
    walk_found c.args.order c.args.words _ c.loop.addr c.loop.counter c.in_ok-block.block c.loop.invariant.1
    c.if-addr-eq0.false
    (subst (λ (l : List ℕ). HasLeader c.in_ok-block.block c.loop.addr l) c.loop.invariant.0.same
    c.in_ok-block.ensures.block) (omega arith)

pub overflow_sub-addr : goal.overflow_sub-addr
overflow_sub-addr g c =
    omega (
      arith,
      (walk_fits c.args.order c.args.words _ c.loop.addr c.loop.counter c.loop.invariant.1 c.requires.pools
          c.if-addr-eq0.false).0,
    )

pub read_number-requires-in-loop : goal.read_number-requires-in-loop
read_number-requires-in-loop g c =
    let f = walk_fits c.args.order c.args.words _ c.loop.addr c.loop.counter c.loop.invariant.1 c.requires.pools
    c.if-addr-eq0.false in
    record { inside = omega (arith, f.0, f.1, ap length c.in_ok-block.ensures.same, ap length c.loop.invariant.0.same) }

pub loop-preserved : goal.loop-preserved
loop-preserved g c =
    let reads = c.loop.invariant.0 in (
      reads_more _ _ _ _ _ _ _
          (reads_more _ _ _ _ _ _ _ reads c.in_ok-block.ensures.same c.in_ok-block.ensures.room
          c.in_ok-block.ensures.cause) c.in_ok-addr-2.ensures.same c.in_ok-addr-2.ensures.room
          c.in_ok-addr-2.ensures.cause,
      walk_next c.args.order c.args.words _ c.loop.addr c.loop.counter _ c.in_ok-block.block c.loop.invariant.1
          c.if-addr-eq0.false
          (subst (λ (l : List ℕ). HasLeader c.in_ok-block.block c.loop.addr l) reads.same
          c.in_ok-block.ensures.block) (omega arith)
          (c.in_ok-addr-2.ensures.given ∙ ap (λ (l : List ℕ). number_at (c.loop.addr - 8) l)
          (c.in_ok-block.ensures.same ∙ reads.same)),
      g.met.C.Cells.quiet_trans _ _ _
          (g.met.C.Cells.quiet_trans _ _ _ c.loop.invariant.2 c.in_ok-block.ensures.quiet) c.in_ok-addr-2.ensures.quiet,
      c.loop.invariant.3,
    )

pub returns-clause-found : goal.returns-clause-found
returns-clause-found g c =
    walk_end c.args.order c.args.words _ c.loop.addr c.loop.counter c.loop.invariant.1
    (omega (arith, c.loop.invariant.3))
