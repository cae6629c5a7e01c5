use Rattle.std.proofs.Common.{◌∙◌, [], ◌∷◌, sym, ap, arith}
use Rattle.sdr_turn.proofs.EndLemmas.{joins}
use Rattle.sdr_turn.proofs.turn.Turn.join.Goals as goal

pub join_seat-requires : goal.join_seat-requires
join_seat-requires g c =
    let K = g.V.Kept in
    let other = c.table_seat_of.result in
    let whole = c.args.whole.now in
    let here = sym (ap (λ t. t.id) c.self.view_is) in
    let me = c.table_seat_of.ensures.view.1 in (
      c.requires.whole.lock ∙ here,
      c.table_seat_of.ensures.view.0 ∙ c.requires.seat.0 ∙ here,
      ap (λ m. m.1) me,
      omega (arith, c.self.invariant.0),
      joins K.entries K.number K.maker K.turns K.rests c.self.inside.table.shared.key whole.id whole.me.0 other.id other.me.0 c.requires.whole.free (ap (λ m. m.0.places) me ∙ sym (ap (λ m. m.0.knows.place ∷ []) me)) (ap (λ m. m.0.knows.number) me ∙ c.requires.seat.1) c.table_seat_of.ensures.free,
    )
