use Rattle.std.proofs.Common.{◌∙◌, ap, slice_index, sym}
use Rattle.sdr_words.proofs.NumbersLemmas.{shown_at}
use Rattle.sdr_words.proofs.numbers.Numbers.at.Goals as goal

pub returns : goal.returns
returns c =
    sym (shown_at c.self.inside.first c.self.inside.rest c.self.inside.count c.args.place c.self.invariant c.requires)
    ∙ ap (λ numbers. slice_index numbers c.args.place) c.self.view_is
