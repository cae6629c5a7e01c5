use Rattle.std.proofs.Common.{arith, subst}
use Rattle.std.proofs.lemmas.List.Elements.{All-head, All-tail}
use Rattle.std.specs.FinMap as map
use Rattle.std.specs.Prelude.{All}
use Rattle.sdr_buffer.proofs.WaitingLemmas.{grows_more}
use Rattle.sdr_text.proofs.TextLemmas.{on_err}
use Rattle.sdr_text.proofs.PartLemmas.{next_part, next_whole}
use Rattle.sdr_text_world.specs.ThingText.{HasSmallWire, thing_line}
use Rattle.sdr_text_world.proofs.world.put_things.Goals as goal

pub put-requires : goal.put-requires
put-requires g c = (
  c.requires.tied,
  All-head (λ e. HasSmallWire e.1) (c.in-Some.addr.now, c.in-Some.thing.now) c.next.new.self
      (subst (All (λ e. HasSmallWire e.1)) c.in-Some.ensures.steps c.loop-addr.invariant.small),
)

pub loop-addr-preserved : goal.loop-addr-preserved
loop-addr-preserved g c =
    let world = c.args.world.now in
    record {
      goes =
          next_whole (thing_line world) _ _ _ (map.entries world.things) c.in-Some.ensures.steps c.loop-addr.invariant.goes
          c.in_ok-put.ensures.ok;
      grows = grows_more _ _ _ c.loop-addr.invariant.grows c.put.ensures.grows;
      later = omega (arith, c.loop-addr.invariant.later, c.put.ensures.cause.later);
      small = All-tail (λ e. HasSmallWire e.1) (c.in-Some.addr.now, c.in-Some.thing.now) c.next.new.self
          (subst (All (λ e. HasSmallWire e.1)) c.in-Some.ensures.steps c.loop-addr.invariant.small);
    }

pub returns-in_err-put-clause-err : goal.returns-in_err-put-clause-err
returns-in_err-put-clause-err g c =
    let world = c.args.world.now in
    on_err _
    (next_part (thing_line world) _ _ _ (map.entries world.things) c.in-Some.ensures.steps c.loop-addr.invariant.goes
    c.in_err-put.ensures.err)

pub returns-in_err-put-clause-grows : goal.returns-in_err-put-clause-grows
returns-in_err-put-clause-grows g c = grows_more _ _ _ c.loop-addr.invariant.grows c.put.ensures.grows
