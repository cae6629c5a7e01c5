use Rattle.mem_machine.proofs.RunLemmas.{next_all, wants_no_leave}
use Rattle.std.proofs.lemmas.Result.{on_err_weaker}
use Rattle.mem_machine.proofs.memory_run.MemoryRunRuns.event.Goals as goal

pub returns-clause-makes : goal.returns-clause-makes
returns-clause-makes g c =
    next_all g.M.Media c.args.daemon _ c.args.event.now c.args.self.now c.make.new.self c.make.result c.make.ensures.responds c.make.ensures.gap
    c.make.ensures.told c.make.ensures.lapses c.make.ensures.drawn c.make.ensures.needs

pub returns-clause-leave : goal.returns-clause-leave
returns-clause-leave g c = on_err_weaker c.make.result (wants_no_leave c.args.event.now) c.make.ensures.memory
