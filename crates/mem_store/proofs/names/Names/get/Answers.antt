use Rattle.std.proofs.Common.{ap, sym, ◌∙◌}
use Rattle.std.specs.Option.{option_map}
use Rattle.sdr_model.specs.Names.{name_of}
use Rattle.mem_store.specs.Entries.{named_of}
use Rattle.mem_store.proofs.NamesLemmas.{named-lookup}
use Rattle.mem_store.proofs.names.Names.get.Goals as goal

pub returns : goal.returns
returns c =
    c.copied.ensures ∙ c.get.ensures.value ∙ sym (named-lookup c.args.name.now c.self.inside.entries.entries)
    ∙ ap (λ names. option_map named_of (name_of names c.args.name.now)) c.self.view_is
