use Rattle.sdr_load.proofs.LeftLemmas.{none_left, some_left}
use Rattle.sdr_load.proofs.load_steps.LoadSteps.next.Goals as goal

pub returns : goal.returns
returns c =
    let s = c.self.inside in
    let item = rw c.as_slice.ensures at c.get.ensures.lookup in
    record {
      none = none_left s.steps s.done s.line s.round s.last c.self.invariant c.args.self.now c.self.view_is c.get.result item;
      some = some_left s.steps s.done s.line s.round s.last c.self.invariant c.args.self.now c.self.view_is c.get.result item;
    }
