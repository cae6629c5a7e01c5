use Rattle.std.proofs.Common.{◌∙◌, ◌++◌, [], ◌∷◌, List, length, map, sum_by, refl, sym, ap, arith, append_assoc}
use Rattle.std.proofs.lemmas.List.Elements.{All-pop}
use Rattle.std.proofs.lemmas.List.Sums.{sum_by-cons}
use Rattle.sdr_turn.specs.declared.known.Known.{Known}
use Rattle.sdr_turn.specs.Seats.{Seated, IsIdleSeat}
use Rattle.sdr_turn.specs.Views.{told_of}
use Rattle.sdr_turn.proofs.SeatLemmas.{length-zero}
use Rattle.sdr_turn.proofs.turn.Turn.gather.Goals as goal

pub loop-seat-preserved : goal.loop-seat-preserved
loop-seat-preserved g c =
    let i = c.loop-seat.invariant in
    let j = c.join.ensures in
    let seat = c.in-Some-pop.seat in
    let rest = c.pop-in-loop-seat.new.self.items in
    let others = i.3.0 in (
      omega (arith, ap (λ m. m.0.parts) j.joined, i.0, c.in-Some-pop.ensures.cases),
      record {
        lock = j.lock;
        parts_are = refl;
        idle = ap (λ m. m.0.knows.number) j.joined ∙ i.1.idle;
        free = ap (λ m. m.0.knows.took) j.joined ∙ i.1.free;
        empty = ap (λ m. m.1) j.joined ∙ i.1.empty;
      },
      (All-pop (IsIdleSeat {E = g.row.V-Entry.Denot} c.args.self.now.id) c.loop-seat.seats.items rest c.pop-in-loop-seat.result c.pop-in-loop-seat.ensures.items i.2).0,
      (
        seat ∷ others,
        i.3.1 ∙ (ap (λ (xs : List (Seated g.row.V-Entry.Denot)). xs ++ others) c.in-Some-pop.ensures.items ∙ append_assoc rest (seat ∷ []) others),
        ap (λ m. told_of m.0) j.joined ∙ ap (λ (ks : List (Known g.row.V-Entry.Denot)). seat.knows ∷ ks) i.3.2,
        omega (arith, ap (λ m. m.0.drawn) j.joined, i.3.3, sum_by-cons (λ (s : Seated g.row.V-Entry.Denot). length s.knows.numbers) seat others),
      ),
    )

pub returns-clause-told : goal.returns-clause-told
returns-clause-told g c =
    let i = c.loop-seat.invariant in
    let none = length-zero c.loop-seat.seats.items (omega (arith, c.loop-seat.seats.ok.0, c.in_default-pop.ensures.cases.0)) in
    let all = i.3.1 ∙ ap (λ (xs : List (Seated g.row.V-Entry.Denot)). xs ++ i.3.0) none in
    i.3.2 ∙ ap (map (λ (s : Seated g.row.V-Entry.Denot). s.knows)) (sym all)

pub returns-clause-drawn : goal.returns-clause-drawn
returns-clause-drawn g c =
    let i = c.loop-seat.invariant in
    let none = length-zero c.loop-seat.seats.items (omega (arith, c.loop-seat.seats.ok.0, c.in_default-pop.ensures.cases.0)) in
    let all = i.3.1 ∙ ap (λ (xs : List (Seated g.row.V-Entry.Denot)). xs ++ i.3.0) none in
    i.3.3 ∙ ap (sum_by (λ (s : Seated g.row.V-Entry.Denot). length s.knows.numbers)) (sym all)
