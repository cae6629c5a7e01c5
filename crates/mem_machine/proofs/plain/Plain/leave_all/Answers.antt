use Rattle.std.proofs.Common.{◌∙◌, List, ap, arith, length, subst}
use Rattle.sdr_machine.specs.Roll.{Roll}
use Rattle.sdr_machine.specs.declared.daemon.Daemon.{Daemon}
use Rattle.mem_machine.proofs.RunLemmas.{leaves_from}
use Rattle.mem_machine.specs.Memory.{machine_on}
use Rattle.mem_machine.specs.Plain.{AllLeaveFrom, Plain, machine_of}
use Rattle.mem_machine.proofs.plain.Plain.leave_all.Goals as goal

pub leave_all-requires-clause-drawn : goal.leave_all-requires-clause-drawn
leave_all-requires-clause-drawn c =
    let events = ap (λ (p : Plain). p.events) c.self.view_is in
    let drawn = c.self.invariant.drawn in
    let many = ap (λ (p : Plain). length p.roll.daemons) c.self.view_is in
    omega (arith, c.requires.events, events, drawn, many)

pub returns-clause-left : goal.returns-clause-left
returns-clause-left c =
    subst (λ (p : Plain). AllLeaveFrom c.args.leave (machine_of p) (machine_on c.leave_all.new.run.roll c.leave_all.new.run.worlds)) c.self.view_is
    (leaves_from _ c.args.leave c.self.inside.run c.leave_all.new.run c.leave_all.ensures.left (λ core at. at) (λ core at. at))

pub returns-clause-none : goal.returns-clause-none
returns-clause-none c = c.leave_all.ensures.none c.never_fails.ensures

pub invariant_of-self : goal.invariant_of-self
invariant_of-self c =
    let events = ap (λ (p : Plain). p.events) c.self.view_is in
    let many = ap (λ (p : Plain). length p.roll.daemons) c.self.view_is in
    let told = ap (λ (ds : List Daemon). length ds) (c.daemons.ensures ∙ ap (λ (r : Roll). r.daemons) c.roll.ensures.roll) in
    let was = c.self.invariant.drawn in
    let more = c.leave_all.ensures.drawn in
    record { few = omega (arith, c.requires.events, events, many, told); drawn = omega (arith, was, more, told) }
