use Rattle.std.proofs.Common.{◌≡◌, ◌∙◌, ◌+◌, ℕ, List, sym, ap, subst, arith}
use Rattle.std.specs.Prelude.{Option, Some}
use Rattle.atomic_table.specs.Table.{Allows}
use Rattle.sdr_turn.specs.Serving.{IsServing}
use Rattle.sdr_turn.specs.Plays.{TakesValue}
use Rattle.sdr_turn.specs.Seats.{carried}
use Rattle.sdr_turn.proofs.StepLemmas.{may_take, served-found, carries_one}
use Rattle.sdr_turn.proofs.turn.Turn.try_take.Goals as goal

pub load-done-requires : goal.load-done-requires
load-done-requires g c =
    let i = c.seat.invariant in
    let v = c.seat.inside.table_seat.me.0 in
    let K = g.V.Kept in
    let free = ap (λ s. s.knows.took) c.seat.view_is ∙ c.requires.free in
    let number = ap (λ s. s.knows.number) c.seat.view_is ∙ c.requires.number.1 in
    let shared = c.self.inside.table.shared in (
      ap (λ s. s.lock) c.seat.view_is ∙ c.requires.seat ∙ sym (ap (λ t. t.id) c.self.view_is),
      omega (arith, c.self.invariant.0),
      subst (λ (slots : List (ℕ × Option g.row.V.Denot)). Allows (IsServing K.entries K.number K.maker K.turns K.rests shared.key) shared.table_id.slots c.seat.inside.table_seat.id (v, slots) 1 (λ n. n) (TakesValue K.entries K.number K.maker K.turns K.rests (v, slots)))
          (sym (i.carries ∙ ap carried free))
          (may_take K.entries K.number K.maker K.turns K.rests shared.key shared.table_id.slots c.seat.inside.table_seat.id v free (omega (arith, number, c.requires.number.0)) (omega (arith, i.one))),
    )

pub exchange-slot-requires : goal.exchange-slot-requires
exchange-slot-requires g c =
    let K = g.V.Kept in
    let number = ap (λ s. s.knows.number) c.seat.view_is ∙ c.requires.number.1 in
    let served : c.load-done.result + 1 ≡ c.seat.inside.table_seat.me.0.knows.number = omega (arith, number, c.requires.number.0, c.if-done-number.false) in
    let t = served-found K.entries K.number K.maker K.turns K.rests c.seat.inside.table_seat.me c.load-done.new.seat.me c.load-done.result c.load-done.ensures.2 served in (
      c.load-done.ensures.0 ∙ ap (λ s. s.lock) c.seat.view_is ∙ c.requires.seat ∙ sym (ap (λ t. t.id) c.self.view_is),
      (Some t.0, carries_one c.load-done.new.seat.me.1 (Some t.0) (ap (λ m. m.1) t.1)),
    )
