-- How many moves a call may have.
use Rattle.std.specs.Prelude.{◌≡◌, ◌≤◌, ◌+◌, ◌/◌, ℕ, length, Result, Ok, Err, MatchOption}
use Rattle.sdr_base.specs.declared.stop.Stop.{Stop}
use Rattle.sdr_base.specs.declared.stop.Stop.TheVariants as stops
use Rattle.sdr_machine.specs.Ground.{Replied, Steps}
use Rattle.sdr_machine.specs.Standing.{GroundState}
use Rattle.sdr_model.specs.Step.{StepTo}
use Rattle.sdr_model.specs.Steps.{Outcome}
use Rattle.sdr_model.specs.World.{World}
use Rattle.sdr_model.specs.declared.call.Call.{Call}
use Rattle.sdr_station.specs.Grounded.{HasStood, StandsInMemory}
use Rattle.sdr_station.specs.Stationed.{Stationed}

-- no outcome to which the call may come, in a world that a heap of so many bytes has stood for, has more moves
abbrev pub MovesAtMost : ℕ → Call → ℕ → Type 0
MovesAtMost size call most = (w : World) (o : Outcome) → HasStood size w → StepTo w o call → length o.moves ≤ most

-- A room for moves is told: whatever the call that follows comes to, it has no more, and the heap has room for them.
pub record IsRoom {D M : Type 0} (call : Call) (s : Stationed D M) (result : Result ℕ Stop) : Type 0 where
  pub room : ℕ
  pub told : result ≡ Ok room
  pub most : room ≤ s.ground.heap.size / 4 + 4
  pub enough : (v : GroundState) → StandsInMemory s.ground v → (o : Replied) → Steps v.now call o →
      length o.moves ≤ room

-- such a room is told, or after a disk fault it fails
abbrev pub TellsRoom : {D M : Type 0} → Call → Stationed D M → Result ℕ Stop → Type 0
TellsRoom call s result = MatchOption s.failed (IsRoom call s result) (λ moment. result ≡ Err stops.Failed)
