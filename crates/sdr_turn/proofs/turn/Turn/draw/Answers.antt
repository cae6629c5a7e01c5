use Rattle.std.proofs.Common.{◌∙◌, ◌*◌, ◌^◌, ◌<◌, sym, ap, arith}
use Rattle.sdr_turn.proofs.StepLemmas.{may_draw}
use Rattle.sdr_turn.proofs.SeatLemmas.{idle_free}
use Rattle.sdr_turn.proofs.turn.Turn.draw.Goals as goal

pub fetch_add-before-requires : goal.fetch_add-before-requires
fetch_add-before-requires g c =
    let i = c.seat.invariant in
    let at = c.seat.inside.table_seat in
    let idle = ap (λ s. s.knows.number) c.seat.view_is ∙ c.requires.seat.1 in
    let free = idle_free c.seat.inside.drawn c.seat.inside.place at.me.0 at.me.1 i idle in
    let room : at.me.0.drawn < 2 ^ 40 * at.me.0.parts = omega (arith, i.one, i.most, i.drawn_is, c.if-seat-eq-MOST.false) in (
      ap (λ s. s.lock) c.seat.view_is ∙ c.requires.seat.0 ∙ sym (ap (λ t. t.id) c.self.view_is),
      omega (arith, c.self.invariant.0),
      may_draw g.V.Kept.entries g.V.Kept.number g.V.Kept.maker g.V.Kept.turns g.V.Kept.rests _ _ _ at.me.0 at.me.1 i.alone idle free room,
    )

pub overflow_add-seat : goal.overflow_add-seat
overflow_add-seat g c = omega (arith, c.seat.invariant.most)

pub overflow_add-result : goal.overflow_add-result
overflow_add-result g c = omega (arith, c.fetch_add-before.ensures.2.3)
