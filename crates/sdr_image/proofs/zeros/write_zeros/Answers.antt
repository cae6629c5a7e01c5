use Rattle.std.proofs.Common.{◌∙◌, ◌+◌, ap, arith}
use Rattle.std.specs.Prelude.{replicate}
use Rattle.sdr_base.specs.Parts.{overwrite}
use Rattle.sdr_base.proofs.PartsLemmas.{zeros_behind}
use Rattle.sdr_image.proofs.zeros.write_zeros.Goals as goal

pub loop-done-preserved : goal.loop-done-preserved
loop-done-preserved g c = record {
  below = omega arith;
  written =
      c.in_ok-write_few_zeros.ensures.written
      ∙ ap (overwrite (c.args.place + c.loop-done.done) (replicate c.min-more.result 0)) c.loop-done.invariant.written
      ∙ zeros_behind c.args.place c.loop-done.done c.min-more.result _
      (omega (arith, c.requires.inside, c.loop-done.invariant.below));
  tells = c.in_ok-write_few_zeros.ensures.tells ∙ c.loop-done.invariant.tells;
  size = c.in_ok-write_few_zeros.ensures.size ∙ c.loop-done.invariant.size;
  later = omega (arith, c.in_ok-write_few_zeros.ensures.cause.later, c.loop-done.invariant.later);
}
