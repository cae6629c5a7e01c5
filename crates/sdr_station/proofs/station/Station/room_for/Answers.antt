use Rattle.std.proofs.Common.{◌≡◌, ◌∙◌, ℕ, ap, arith, refl, subst, sym}
use Rattle.sdr_machine.proofs.WorkLemmas.{on_none}
use Rattle.sdr_station.proofs.RoomLemmas.{steps_at_most}
use Rattle.sdr_station.specs.Grounded.{HasStood}
use Rattle.sdr_station.specs.Stationed.{Stationed}
use Rattle.sdr_station.proofs.station.Station.room_for.Goals as goal

pub returns-clause-room : goal.returns-clause-room
returns-clause-room g c =
    let D = g.row.D.Denot in
    let M = g.row.M.Denot in
    let room = c.most_moves.result in
    let few = c.most_moves.ensures.few in
    let none = ap (λ (s : Stationed D M). s.failed) (sym c.self.view_is) ∙ c.in_default.is in
    let size : c.size.result ≡ c.args.self.now.ground.heap.size =
    c.size.ensures ∙ ap (λ (s : Stationed D M). s.ground.heap.size) c.self.view_is in
    on_none _ _ c.args.self.now.failed none (record {
      room = room;
      told = refl;
      most = omega (arith, few, size);
      enough = λ v at o steps.
          steps_at_most _ c.args.call.now room c.most_moves.ensures.most v.now.base v.now
          (subst (λ (n : ℕ). HasStood n v.now.world) (sym size) at.stood) o steps;
    })
