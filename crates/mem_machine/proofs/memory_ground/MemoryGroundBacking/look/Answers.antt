use Rattle.std.proofs.Common.{◌∙◌, ap}
use Rattle.sdr_model.specs.Accounts.{pending_among}
use Rattle.sdr_model.specs.declared.accounts.Accounts.{Accounts}
use Rattle.sdr_machine.specs.Serving.{shown_among}
use Rattle.mem_machine.proofs.MemoryLemmas.{brings_both, brings_look}
use Rattle.mem_machine.proofs.memory_ground.MemoryGroundBacking.look.Goals as goal

pub returns-clause-shown : goal.returns-clause-shown
returns-clause-shown g c =
    brings_both g.M.Media c.args.self.now c.args.self.now
    (brings_look c.args.ticket c.granted.result c.args.self.now.worlds
    (c.granted.ensures ∙ ap (λ (a : Accounts). shown_among (pending_among a c.args.ticket))
    (c.accounts_begun.ensures ∙ ap (λ m. m.worlds.begun.accounts) c.self.view_is)))
