use Rattle.std.proofs.Common.{◌∙◌, sym, ap, subst, arith}
use Rattle.std.specs.Prelude.{Option}
use Rattle.atomic_table.specs.Table.{Me, Splits}
use Rattle.sdr_turn.specs.declared.view.View.{View}
use Rattle.sdr_turn.specs.Knowing.{nothing}
use Rattle.sdr_turn.specs.Views.{seat_view, without_first}
use Rattle.sdr_turn.specs.Serving.{IsServing}
use Rattle.sdr_turn.proofs.EndLemmas.{splits}
use Rattle.sdr_turn.proofs.turn.Turn.cut.Goals as goal

pub split_seat-one-requires : goal.split_seat-one-requires
split_seat-one-requires g c =
    let K = g.V.Kept in
    let first = c.args.first.now in
    let seats = c.self.inside.table.shared.key in (
      c.requires.first.0 ∙ sym (ap (λ t. t.id) c.self.view_is),
      omega (arith, c.self.invariant.0),
      subst (λ (m : Me (Option g.row.V.Denot) (View g.row.V-Entry.Denot)). Splits (IsServing K.entries K.number K.maker K.turns K.rests seats) first.id m.0 (without_first m.0) (seat_view (nothing m.0.knows.place)))
          (sym c.requires.first.1)
          (splits K.entries K.number K.maker K.turns K.rests seats first.id c.args.place c.args.parts c.requires.some.0),
    )
