use Rattle.std.proofs.Common.{rules, nat_eq, tests, ◌∙◌}
use Rattle.std.specs.Cmp.Lexicographic.{pointwise}
use Rattle.std.proofs.lemmas.Iterator.{YieldsList-from_slice}
use Rattle.std.proofs.lemmas.Iterator.Search.{position_from_yields_List}
use Rattle.sdr_words.proofs.VerbLemmas.{position-map}
use Rattle.sdr_words.proofs.verb.place_among.Goals as goal

pub returns : goal.returns
returns c =
    position_from_yields_List (λ row. pointwise nat_eq row.1.now c.args.name.now) _ _ _ c.position.ensures.ran
    (YieldsList-from_slice c.args.rows.now c.iter.ensures.rest) (λ x b q k. search (rules, tests))
    ∙ position-map (λ n. pointwise nat_eq n c.args.name.now) (λ row. row.1.now) c.args.rows.now
