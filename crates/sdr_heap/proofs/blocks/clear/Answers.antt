-- Each piece comes behind those before it.
use Rattle.std.proofs.Common.{◌+◌, ap, ◌∙◌, arith}
use Rattle.std.specs.Prelude.{replicate}
use Rattle.sdr_base.specs.Parts.{overwrite}
use Rattle.sdr_base.proofs.PartsLemmas.{zeros_behind}
use Rattle.sdr_heap.proofs.blocks.clear.Goals as goal

pub loop-done-preserved : goal.loop-done-preserved
loop-done-preserved g c =
    let i = c.loop-done.invariant in
    let e = c.in_ok-clear_in_line.ensures in
    record {
      below = omega arith;
      cleared =
          e.cleared ∙ ap (overwrite (c.args.place + c.loop-done.done) (replicate c.min-more.result 0)) i.cleared
          ∙ zeros_behind c.args.place c.loop-done.done c.min-more.result _ (omega (arith, c.requires.inside, i.below));
      size = e.size ∙ i.size;
      room = e.room.room ∙ i.room;
      kept = omega (arith, e.room.kept, i.kept);
      most = omega (arith, e.room.most, i.left c.loop-done-test.true);
      left = λ less. omega (arith, less, e.room.most, i.left c.loop-done-test.true);
      sound = e.cause.explained.1;
      later = omega (arith, e.cause.later, i.later);
      quiet = g.met.C.Cells.quiet_trans _ _ _ i.quiet e.quiet;
    }
