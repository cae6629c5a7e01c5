use Rattle.std.proofs.Common.{ap, sym, ◌∙◌, take}
use Rattle.std.proofs.lemmas.List.{take-map}
use Rattle.mem_store.specs.Entries.{names_in}
use Rattle.mem_store.proofs.names.Names.truncate.Goals as goal

pub returns : goal.returns
returns c =
    ap names_in c.truncate.ensures.entries ∙ sym (take-map _ c.args.len c.self.inside.entries.entries)
    ∙ ap (take c.args.len) c.self.view_is
