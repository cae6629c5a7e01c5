use Rattle.std.proofs.Common.{◌∙◌, sym, ap, arith}
use Rattle.sdr_turn.proofs.StepLemmas.{may_look}
use Rattle.sdr_turn.proofs.turn.Turn.front.Goals as goal

pub load-requires : goal.load-requires
load-requires g c = (
  ap (λ s. s.lock) c.seat.view_is ∙ c.requires.seat ∙ sym (ap (λ t. t.id) c.self.view_is),
  omega (arith, c.self.invariant.0),
  may_look g.V.Kept.entries g.V.Kept.number g.V.Kept.maker g.V.Kept.turns g.V.Kept.rests _ _ _ c.seat.inside.table_seat.me.0 c.seat.inside.table_seat.me.1,
)
