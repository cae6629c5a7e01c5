use Rattle.std.proofs.Common.{arith}
use Rattle.sdr_text.proofs.TextLemmas.{on_err}
use Rattle.sdr_text.proofs.PartLemmas.{next_part, next_whole}
use Rattle.sdr_text_world.specs.ThingText.{element_text}
use Rattle.sdr_text_world.proofs.thing.write_elements.Goals as goal

pub loop-element-preserved : goal.loop-element-preserved
loop-element-preserved g c = record {
  goes =
      next_whole element_text _ _ _ c.args.elements.now
      c.in-Some.ensures.cases.0 c.loop-element.invariant.goes c.in_ok-write_element.ensures.ok;
  later = omega (arith, c.loop-element.invariant.later, c.write_element.ensures.cause.later);
}

pub returns-in_err-write_element-clause-err : goal.returns-in_err-write_element-clause-err
returns-in_err-write_element-clause-err g c =
    on_err _
    (next_part element_text _ _ _ c.args.elements.now
    c.in-Some.ensures.cases.0 c.loop-element.invariant.goes c.in_err-write_element.ensures.err)
