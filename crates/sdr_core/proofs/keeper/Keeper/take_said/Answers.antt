use Rattle.std.proofs.Common.{◌∙◌, sym}
use Rattle.sdr_core.proofs.PlaceLemmas.{none_works}
use Rattle.sdr_core.proofs.SpokenLemmas.{said_by-none}
use Rattle.sdr_core.specs.Keeping.{works_of}
use Rattle.sdr_core.proofs.keeper.Keeper.take_said.Goals as goal

pub returns-in-None-clause-said : goal.returns-in-None-clause-said
returns-in-None-clause-said c =
    let spoken = c.args.self.now.works.items in
    c.new.ensures.items ∙ sym (said_by-none (works_of spoken) c.args.daemon (none_works spoken c.args.daemon c.in-None.ensures.own))
