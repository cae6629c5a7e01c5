use Rattle.std.proofs.Common.{◌≡◌, None, ap, ◌∙◌, ◌++◌, ◌∷◌, []}
use Rattle.sdr_model.specs.Names.{name_of}
use Rattle.mem_store.specs.Entries.{names_in}
use Rattle.mem_store.proofs.NamesLemmas.{names_in-insert}
use Rattle.mem_store.proofs.names.Names.push.Goals as goal

pub returns-clause-ok : goal.returns-clause-ok
returns-clause-ok c =
    let name_is = c.in_ok-key.ensures.items in
    let absent : name_of (names_in c.self.inside.entries.entries) c.in_ok-key.key.items ≡ None =
    ap (λ n. name_of (names_in c.self.inside.entries.entries) n) name_is
    ∙ ap (λ names. name_of names c.args.name.now) c.self.view_is ∙ c.requires in
    ap names_in c.in_ok-insert.ensures.entries ∙ names_in-insert c.self.inside.entries c.in_ok-key.key c.args.entry absent
    ∙ ap (λ names. names ++ record { block = c.args.entry.block; name = c.in_ok-key.key.items; kind = c.args.entry.kind; object = c.args.entry.object } ∷ []) c.self.view_is
    ∙ ap (λ n. c.args.self.now ++ record { block = c.args.entry.block; name = n; kind = c.args.entry.kind; object = c.args.entry.object } ∷ []) name_is
