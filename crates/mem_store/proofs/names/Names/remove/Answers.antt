use Rattle.std.proofs.Common.{ap, ◌∙◌}
use Rattle.mem_store.specs.Entries.{names_in}
use Rattle.sdr_model.specs.Names.{without_name}
use Rattle.mem_store.proofs.NamesLemmas.{names_in-remove}
use Rattle.mem_store.proofs.names.Names.remove.Goals as goal

pub returns : goal.returns
returns c =
    ap names_in c.shift_remove.ensures.entries ∙ names_in-remove c.args.name.now c.self.inside.entries.entries
    ∙ ap (λ names. without_name names c.args.name.now) c.self.view_is
