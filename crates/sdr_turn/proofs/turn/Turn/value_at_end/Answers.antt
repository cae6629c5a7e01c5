use Rattle.std.proofs.Common.{◌≡◌, ◌∙◌, sym, ap, subst}
use Rattle.std.specs.Prelude.{Some}
use mathlib.Core.Option.{some-injective}
use Rattle.sdr_turn.specs.Ends.{IsEnd}
use Rattle.sdr_turn.proofs.EndLemmas.{closes}
use Rattle.sdr_turn.proofs.SeatLemmas.{Some-injective}
use Rattle.sdr_turn.proofs.turn.Turn.value_at_end.Goals as goal

pub unreachable-requires : goal.unreachable-requires
unreachable-requires g c =
    let K = g.V.Kept in
    let whole_seat = c.args.whole in
    let whole = c.requires.parts_are ∙ sym (ap (λ t. t.seats) c.self.view_is) in
    let home = closes K.entries K.number K.maker K.turns K.rests c.self.inside.table.shared.key whole_seat.id whole_seat.me.0 _ _ whole c.requires.idle c.requires.free c.close_with-closed.ensures.values.2 in
    let slot : Some home.0 ≡ c.take-slot.result = some-injective _ _ (sym home.1 ∙ c.take-slot.ensures.value) in
    absurd (cc (slot, c.in_default.is))

pub returns : goal.returns
returns g c =
    let K = g.V.Kept in
    let whole_seat = c.args.whole in
    let whole = c.requires.parts_are ∙ sym (ap (λ t. t.seats) c.self.view_is) in
    let home = closes K.entries K.number K.maker K.turns K.rests c.self.inside.table.shared.key whole_seat.id whole_seat.me.0 _ _ whole c.requires.idle c.requires.free c.close_with-closed.ensures.values.2 in
    let slot : Some home.0 ≡ c.take-slot.result = some-injective _ _ (sym home.1 ∙ c.take-slot.ensures.value) in
    subst (IsEnd K.entries K.number K.maker K.turns K.rests whole_seat.me.0) (Some-injective (slot ∙ c.in-Some.is)) home.2
