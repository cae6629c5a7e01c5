use Rattle.std.proofs.Common.{◌∙◌, ◌==◌, sym, ap, length}
use Rattle.sdr_words.specs.BoundKeys.{bindings_in}
use Rattle.sdr_words.proofs.BindingsLemmas.{bindings_in-insert_entry, bound-key}
use Rattle.sdr_words.proofs.bindings.Bindings.bind.Goals as goal

pub returns-clause-ok : goal.returns-clause-ok
returns-clause-ok c =
    ap bindings_in c.in_ok-insert.ensures.entries
    ∙ bindings_in-insert_entry c.self.inside.values.entries c.in_ok-key.key c.value_given.result
    ∙ bound-key c.self.inside.values.entries c.in_ok-key.key c.value_given.result
    c.args.self.now c.args.step.now c.args.answer.now
    c.self.view_is c.in_ok-key.ensures.daemon (c.in_ok-key.ensures.name ∙ c.as_slice-name.ensures) c.value_given.ensures
    (ap (λ name. length name == 0) (sym c.as_slice-name.ensures) ∙ sym c.if-is_empty.ensures)
