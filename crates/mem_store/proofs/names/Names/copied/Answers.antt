use Rattle.std.proofs.Common.{◌∙◌}
use Rattle.mem_store.proofs.NamesLemmas.{names_in-clone, clones_same}
use Rattle.mem_store.proofs.names.Names.copied.Goals as goal

pub returns : goal.returns
returns c =
    names_in-clone _ _ (λ v w clone. clones_same _ (λ x y same. same) v.items w.items clone.0) (λ x y same. same)
    c.self.inside.entries.entries c.in_ok-clone.field-0.entries c.in_ok-clone.ensures.cases
    ∙ c.self.view_is
