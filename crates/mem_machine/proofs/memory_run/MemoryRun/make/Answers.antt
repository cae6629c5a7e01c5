use Rattle.std.proofs.Common.{true}
use Rattle.mem_machine.proofs.RunLemmas.{drawn_of, err_of, gap_of, kept_of, needs_of, responds_of, stays_of}
use Rattle.mem_machine.proofs.memory_run.MemoryRun.make.Goals as goal

pub returns-clause-responds : goal.returns-clause-responds
returns-clause-responds g c = responds_of g.M.Media _ c.self.inside.lock c.event.new.self c.args.self.now c.self.view_is c.args.daemon c.args.event.now c.self.invariant c.event.result c.event.ensures.step

pub returns-clause-gap : goal.returns-clause-gap
returns-clause-gap g c = gap_of g.M.Media _ c.self.inside.lock c.event.new.self c.args.self.now c.self.view_is c.args.daemon c.args.event.now c.self.invariant c.event.result c.event.ensures.step

pub returns-clause-needs : goal.returns-clause-needs
returns-clause-needs g c = needs_of g.M.Media _ c.self.inside.lock c.event.new.self c.args.self.now c.self.view_is c.args.daemon c.args.event.now c.self.invariant c.event.result c.event.ensures.step

pub returns-clause-drawn : goal.returns-clause-drawn
returns-clause-drawn g c = drawn_of g.M.Media _ c.self.inside.lock c.event.new.self c.args.self.now c.self.view_is c.args.daemon c.args.event.now c.self.invariant c.event.result c.event.ensures.step

pub returns-clause-told : goal.returns-clause-told
returns-clause-told g c =
    (stays_of g.M.Media _ c.self.inside.lock c.event.new.self c.args.self.now c.self.view_is c.args.daemon c.args.event.now c.self.invariant c.event.result
    c.event.ensures.step c.event.ensures.err).told

pub returns-clause-lapses : goal.returns-clause-lapses
returns-clause-lapses g c =
    (stays_of g.M.Media _ c.self.inside.lock c.event.new.self c.args.self.now c.self.view_is c.args.daemon c.args.event.now c.self.invariant c.event.result
    c.event.ensures.step c.event.ensures.err).lapses

pub returns-clause-daemons : goal.returns-clause-daemons
returns-clause-daemons g c =
    (stays_of g.M.Media _ c.self.inside.lock c.event.new.self c.args.self.now c.self.view_is c.args.daemon c.args.event.now c.self.invariant c.event.result
    c.event.ensures.step c.event.ensures.err).daemons

pub returns-clause-err : goal.returns-clause-err
returns-clause-err g c = err_of g.M.Media true c.self.inside.lock c.event.new.self c.args.self.now c.self.view_is c.args.daemon c.args.event.now c.self.invariant c.event.result c.event.ensures.err

pub invariant_of-self : goal.invariant_of-self
invariant_of-self g c = kept_of g.M.Media _ c.self.inside.lock c.event.new.self c.args.self.now c.self.view_is c.args.daemon c.args.event.now c.self.invariant c.event.result c.event.ensures.step c.event.ensures.err
