use Rattle.std.proofs.Common.{◌≡◌, ◌∙◌, ◌+◌, ◌++◌, ℕ, List, [], ◌∷◌, All, map, sym, ap, subst, arith}
use Rattle.std.specs.List.{range_with_len}
use Rattle.std.proofs.lemmas.List.{map-append}
use Rattle.std.proofs.lemmas.List.Elements.{All-push}
use Rattle.sdr_turn.specs.Seats.{Seated, IsNewSeat}
use Rattle.sdr_turn.specs.Ends.{IsNewTableSeat}
use Rattle.sdr_turn.proofs.EntryLemmas.{range-push}
use Rattle.sdr_turn.proofs.turn.Turn.deal.Goals as goal

-- seats with the places below a number, and then the one with this place
next_place : {E : Type 0} (seats after : List (Seated E)) (s : Seated E) (place : ℕ) → after ≡ seats ++ s ∷ [] → s.knows.place ≡ place → map (λ x. x.knows.place) seats ≡ range_with_len 0 place
    → map (λ x. x.knows.place) after ≡ range_with_len 0 (place + 1)
next_place {E} seats after s place pushed at before =
    let here : s.knows.place ≡ 0 + place = omega (arith, at) in
    ap (map (λ (x : Seated E). x.knows.place)) pushed ∙ map-append (λ (x : Seated E). x.knows.place) seats (s ∷ [])
    ∙ ap (λ l. l ++ s.knows.place ∷ []) before ∙ ap (λ n. range_with_len 0 place ++ n ∷ []) here ∙ sym (range-push 0 place)

pub loop-place-preserved : goal.loop-place-preserved
loop-place-preserved g c =
    let i = c.loop-place.invariant in
    let test = c.loop-place-test.true in
    let push = c.push_reserved.ensures in
    let is_new = IsNewSeat {E = g.row.V-Entry.Denot} c.args.self.now.id in (
      subst (λ n. IsNewTableSeat c.args.self.now.id (c.loop-place.place + 1) n c.cut.new.first) (omega arith) c.cut.ensures.first,
      omega (arith, test, i.1),
      omega (arith, push.len, i.2),
      omega (arith, push.capacity, i.3),
      subst (All is_new) (sym push.items) (All-push is_new c.loop-place.row.items c.cut.result i.4 c.cut.ensures.seat),
      next_place c.loop-place.row.items c.push_reserved.new.self.items c.cut.result c.loop-place.place push.items c.cut.ensures.place i.5,
    )

pub returns-clause-places : goal.returns-clause-places
returns-clause-places g c =
    let i = c.loop-place.invariant in
    let last : c.loop-place.place + 1 ≡ c.args.seats = omega (arith, c.loop-place-test.false, i.1) in
    next_place c.loop-place.row.items c.push_reserved-2.new.self.items c.seat_at.result c.loop-place.place c.push_reserved-2.ensures.items c.seat_at.ensures.place i.5 ∙ ap (range_with_len 0) last
