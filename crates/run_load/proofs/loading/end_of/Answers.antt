use Rattle.std.proofs.Common.{◌≡◌, ◌∙◌, List, ap}
use Rattle.run_load.specs.Summing.{summed}
use Rattle.run_load.specs.declared.summary.ListRead.{ListRead}
use Rattle.sdr_model.specs.declared.journal.Entry.{Entry}
use Rattle.sdr_run.proofs.QuietLemmas.{quiet_none}
use Rattle.run_load.proofs.loading.end_of.Goals as goal

pub returns-in-Ok-clause-end : goal.returns-in-Ok-clause-end
returns-in-Ok-clause-end g c = (
  c.if-ran.false,
  c.if-ran-2.false,
  λ v at.
      c.of.ensures ∙ ap (λ (js : List Entry). summed js c.in-Ok.list) c.as_slice.ensures
      ∙ ap (λ (l : ListRead). summed c.args.ran.now.journal l) (c.in-Ok.ensures.list v at),
)

pub read_list-requires-clause-stands : goal.read_list-requires-clause-stands
read_list-requires-clause-stands g c = c.requires.stands c.if-ran.false

pub read_list-requires-clause-untouched : goal.read_list-requires-clause-untouched
read_list-requires-clause-untouched g c = c.requires.untouched c.if-ran.false

pub returns-then-ran-clause-still : goal.returns-then-ran-clause-still
returns-then-ran-clause-still g c = quiet_none g.D.Disk c.args.ran.now.base

pub returns-then-ran-2-clause-still : goal.returns-then-ran-2-clause-still
returns-then-ran-2-clause-still g c = quiet_none g.D.Disk c.args.ran.now.base
