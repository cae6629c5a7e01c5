use Rattle.std.proofs.Common.{◌∙◌, ap, arith, refl, subst, sym, true}
use Rattle.sdr_machine.specs.Serving.{Brings, CallAsks, Calls, KeepsGround}
use Rattle.sdr_machine.specs.Standing.{GroundState}
use Rattle.mem_machine.proofs.MemoryLemmas.{asks_call, asks_none, brings_call, drafted, drafted_same, keeps_called, keeps_unasked, memory_ground, reached_called, reached_may}
use Rattle.mem_machine.specs.Memory.{InMemory, IsReached, StandsBare}
use Rattle.mem_machine.proofs.memory_ground.MemoryGroundBacking.call.Goals as goal

pub answer-requires : goal.answer-requires
answer-requires g c = record { may = reached_may c.self.inside.calls (drafted c.self.inside.world c.self.inside.media).worlds c.self.invariant }

pub returns-clause-answered : goal.returns-clause-answered
returns-clause-answered g c =
    let was = drafted c.self.inside.world c.self.inside.media in
    let is = drafted c.answer.new.world c.answer.new.media in
    subst (λ (o : InMemory g.row.M.Denot). Brings (λ (m : InMemory g.row.M.Denot) (v : GroundState). StandsBare m.worlds v) o is
    (Calls (g.M.Media.told o.media) c.args.call.now c.in-Ok.reply)) c.self.view_is
    (brings_call g.M.Media was is c.args.call.now c.in-Ok.reply c.in-Ok.ensures.answers c.answer.ensures.begun)

pub returns-clause-needs : goal.returns-clause-needs
returns-clause-needs g c =
    let was = drafted c.self.inside.world c.self.inside.media in
    let is = drafted c.answer.new.world c.answer.new.media in
    subst (λ (o : InMemory g.row.M.Denot). CallAsks (memory_ground g.M.Media) c.args.call.now o is) c.self.view_is
    (asks_call g.M.Media was is c.args.call.now c.answer.ensures.needs)

pub returns-clause-keeps : goal.returns-clause-keeps
returns-clause-keeps g c =
    let was = drafted c.self.inside.world c.self.inside.media in
    let is = drafted c.answer.new.world c.answer.new.media in
    subst (λ (o : InMemory g.row.M.Denot). KeepsGround (memory_ground g.M.Media) true o is) c.self.view_is
    (keeps_called g.M.Media was is c.answer.ensures.told c.answer.ensures.faults c.answer.ensures.short)

-- so many calls were made already
pub returns-then-self-ge-MOST_CALLS-clause-needs : goal.returns-then-self-ge-MOST_CALLS-clause-needs
returns-then-self-ge-MOST_CALLS-clause-needs g c = asks_none g.M.Media c.args.self.now c.args.self.now c.args.call.now refl

pub returns-then-self-ge-MOST_CALLS-clause-keeps : goal.returns-then-self-ge-MOST_CALLS-clause-keeps
returns-then-self-ge-MOST_CALLS-clause-keeps g c = keeps_unasked g.M.Media c.args.self.now c.args.self.now refl

-- there was no memory
pub returns-in_default-clause-memory : goal.returns-in_default-clause-memory
returns-in_default-clause-memory g c =
    λ _. drafted_same c.self.inside.world c.answer.new.world c.self.inside.media c.answer.new.media c.answer.ensures.begun c.in_default.ensures.same ∙ c.self.view_is

pub returns-in_default-clause-needs : goal.returns-in_default-clause-needs
returns-in_default-clause-needs g c =
    asks_none g.M.Media c.args.self.now (drafted c.answer.new.world c.answer.new.media) c.args.call.now
    (drafted_same c.self.inside.world c.answer.new.world c.self.inside.media c.answer.new.media c.answer.ensures.begun c.in_default.ensures.same ∙ c.self.view_is)

pub returns-in_default-clause-keeps : goal.returns-in_default-clause-keeps
returns-in_default-clause-keeps g c =
    keeps_unasked g.M.Media c.args.self.now (drafted c.answer.new.world c.answer.new.media)
    (c.in_default.ensures.same.1 ∙ ap (λ (m : InMemory g.row.M.Denot). m.media) c.self.view_is)

pub invariant_of-self-2 : goal.invariant_of-self-2
invariant_of-self-2 g c =
    reached_called c.self.inside.calls (g.M.Media.told c.self.inside.media) (drafted c.self.inside.world c.self.inside.media).worlds
    (drafted c.answer.new.world c.answer.new.media).worlds c.args.call.now c.in-Ok.reply c.in-Ok.ensures.answers c.answer.ensures.begun
    (omega (arith, c.if-self-ge-MOST_CALLS.false)) c.self.invariant

pub invariant_of-self : goal.invariant_of-self
invariant_of-self g c =
    subst (λ (m : InMemory g.row.M.Denot). IsReached c.self.inside.calls m.worlds)
    (sym (drafted_same c.self.inside.world c.answer.new.world c.self.inside.media c.answer.new.media c.answer.ensures.begun c.in_default.ensures.same))
    c.self.invariant
