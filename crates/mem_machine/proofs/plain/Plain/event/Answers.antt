use Rattle.std.proofs.Common.{ap, arith, inr, subst}
use Rattle.mem_machine.specs.Memory.{machine_on}
use Rattle.mem_machine.specs.MemoryRun.{StepsAt}
use Rattle.mem_machine.specs.Plain.{Plain, machine_of}
use Rattle.mem_machine.proofs.plain.Plain.event.Goals as goal

pub make-requires : goal.make-requires
make-requires c =
    let events = ap (λ (p : Plain). p.events) c.self.view_is in
    let drawn = c.self.invariant.drawn in
    record { drawn = inr (omega (arith, c.requires.events, events, drawn)) }

pub returns-clause-step : goal.returns-clause-step
returns-clause-step c =
    λ line. subst (λ (p : Plain). StepsAt (machine_of p) c.args.daemon line c.args.event.now c.in_ok-came.came (machine_on c.make.new.self.roll c.make.new.self.worlds))
    c.self.view_is (c.in_ok-came.ensures.responds.steps line)

pub invariant_of-self-2 : goal.invariant_of-self-2
invariant_of-self-2 c =
    let events = ap (λ (p : Plain). p.events) c.self.view_is in
    let was = c.self.invariant.drawn in
    let one = c.in_ok-came.ensures.drawn in
    record { few = omega (arith, c.requires.events, events); drawn = omega (arith, was, one) }
