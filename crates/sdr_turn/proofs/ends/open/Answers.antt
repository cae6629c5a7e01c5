use Rattle.std.proofs.Common.{◌∙◌, ◌++◌, [], ◌∷◌, List, sym, ap, subst}
use Rattle.std.specs.Prelude.{Option, Some}
use Rattle.atomic_table.specs.Table.{opening}
use Rattle.sdr_turn.specs.Serving.{IsServing}
use Rattle.sdr_turn.specs.Views.{new_view}
use Rattle.sdr_turn.proofs.EndLemmas.{opens}
use Rattle.sdr_turn.proofs.ends.open.Goals as goal

pub new-requires : goal.new-requires
new-requires g c =
    let K = g.V.Kept in
    let slots = c.push_reserved.ensures.items ∙ ap (λ (xs : List (Option g.row.V.Denot)). xs ++ Some c.args.value ∷ []) c.in-Ok.ensures.items in
    subst (λ (xs : List (Option g.row.V.Denot)). IsServing K.entries K.number K.maker K.turns K.rests c.args.seats (opening (0 ∷ 0 ∷ []) xs (new_view 0 c.args.seats)))
    (sym slots)
    (opens K.entries K.number K.maker K.turns K.rests c.args.seats c.args.value c.requires.seats.0 c.requires.seats.1 c.requires.rests c.requires.empty.0 c.requires.empty.1)
