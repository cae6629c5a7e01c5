use Rattle.std.proofs.Common.{◌∙◌, ap, unwrap_or}
use Rattle.sdr_words.specs.Bindings.{value_in}
use Rattle.sdr_words.proofs.BindingsLemmas.{value-lookup}
use Rattle.sdr_words.proofs.bindings.Bindings.value.Goals as goal

pub returns : goal.returns
returns c =
    let key = c.in_ok-key.key in
    c.unwrap_or.ensures ∙ ap (λ o. unwrap_or o 0) (c.copied.ensures ∙ c.get.ensures.value)
    ∙ value-lookup key.daemon key.name.items c.self.inside.values.entries
    ∙ ap (λ bindings. value_in bindings key.daemon key.name.items) c.self.view_is
    ∙ ap (λ daemon. value_in c.args.self.now daemon key.name.items) c.in_ok-key.ensures.daemon
    ∙ ap (λ name. value_in c.args.self.now c.args.daemon name) c.in_ok-key.ensures.name
