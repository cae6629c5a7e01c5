-- Room for whatever a call may come to.
use Rattle.std.proofs.Common.{◌≡◌, ◌≤◌, ◌⊎◌, ℕ, List, ap, inl, inr, length, min, refl, subst, arith}
use Rattle.sdr_base.specs.declared.moves.Move.{Move}
use Rattle.sdr_machine.specs.Ground.{Ground, State, StepsOn}
use Rattle.sdr_machine.specs.Room.{HoldsAny}
use Rattle.sdr_machine.specs.Transaction.{bytes_given}
use Rattle.sdr_machine.specs.declared.tells.Room.{Room}
use Rattle.sdr_model.specs.Dry.{StepsDry, StopsReading}
use Rattle.sdr_model.specs.Step.{StopsWith}
use Rattle.sdr_model.specs.Steps.{Outcome}
use Rattle.sdr_model.specs.declared.answer.Answer.TheVariants as answers
use Rattle.sdr_model.specs.declared.answer.Reply.{Reply}
use Rattle.sdr_model.specs.declared.answer.Reply.TheVariants as replies
use Rattle.sdr_model.specs.declared.call.Call.{Call}
use Rattle.sdr_model.specs.declared.call.Call.TheVariants as calls
use Rattle.sdr_station.proofs.GivenLemmas.{given_few, given_row, most_given}
use Rattle.sdr_station.proofs.RoomLemmas.{steps_at_most}
use Rattle.sdr_station.specs.Grounded.{HasStood}
use Rattle.sdr_station.specs.Rooming.{MovesAtMost}
use Rattle.sdr_station.specs.Telling.{BytesAtMost}

-- a call that stops gives no bytes
few_stopped : (o : Outcome) (call : Call) (all : List Move) (most : ℕ) → StopsWith o.reply call all o.moves
    → length (bytes_given (answers.Reply o.reply) o.after.shown) ≤ most
few_stopped o call all most s = by o.reply s
  where
    by : (reply : Reply) → StopsWith reply call all o.moves → length (bytes_given (answers.Reply reply) o.after.shown) ≤ most
    by (replies.Refused refusal) s = omega arith
    by replies.MediaFault s = omega arith
    by reply s = absurd s

-- a call gives no more than its row does
pub bytes_at_most : (call : Call) → BytesAtMost call (most_given call)
bytes_at_most call w o whole (inl row) = given_few o (most_given call) (given_row w o call whole row)
bytes_at_most call w o whole (inr s) = few_stopped o call s.aim.moves (most_given call) s.stopped

-- so many, where its row does
pub bytes_so_many : (call : Call) (most : ℕ) → most_given call ≡ most → BytesAtMost call most
bytes_so_many call most is = subst (λ (n : ℕ). BytesAtMost call n) is (bytes_at_most call)

-- the call asks to read so many bytes
abbrev pub AsksToRead : Call → ℕ → Type 0
AsksToRead call count =
    ((addr : ℕ) × (place : ℕ) × (call ≡ calls.Read addr place count)) ⊎ ((addr : ℕ) × (call ≡ calls.Stage addr count))
    ⊎ ((addr : ℕ) × (place : ℕ) × (call ≡ calls.Transmit addr place count))
    ⊎ ((addr : ℕ) × (place : ℕ) × (call ≡ calls.ReceiveHeaders addr place count))
    ⊎ ((addr : ℕ) × (place : ℕ) × (call ≡ calls.ReceiveSource addr place count))
    ⊎ ((addr : ℕ) × (place : ℕ) × (call ≡ calls.ReceiveTrailers addr place count))

-- it gives no more than that, nor than a page
pub bytes_read : (call : Call) (count : ℕ) → AsksToRead call count → BytesAtMost call (min count 4096)
bytes_read call count reads = bytes_so_many call (min count 4096) (asked reads)
  where
    asked : AsksToRead call count → most_given call ≡ min count 4096
    asked (inl r) = ap most_given r.2
    asked (inr (inl r)) = ap most_given r.1
    asked (inr (inr (inl r))) = ap most_given r.2
    asked (inr (inr (inr (inl r)))) = ap most_given r.2
    asked (inr (inr (inr (inr (inl r))))) = ap most_given r.2
    asked (inr (inr (inr (inr (inr r))))) = ap most_given r.2

-- and a call that reads none gives none
pub bytes_none : (call : Call) → ((addr place count : ℕ) → call ≡ calls.Read addr place count → ⊥)
    → ((addr count : ℕ) → call ≡ calls.Stage addr count → ⊥)
    → ((addr place count : ℕ) → call ≡ calls.Transmit addr place count → ⊥)
    → ((addr place count : ℕ) → call ≡ calls.ReceiveHeaders addr place count → ⊥)
    → ((addr place count : ℕ) → call ≡ calls.ReceiveSource addr place count → ⊥)
    → ((addr place count : ℕ) → call ≡ calls.ReceiveTrailers addr place count → ⊥)
    → ((addr : ℕ) → call ≡ calls.StringRead addr → ⊥) → ((addr row : ℕ) → call ≡ calls.Row addr row → ⊥)
    → ((place : ℕ) → call ≡ calls.Entry place → ⊥) → BytesAtMost call 0
bytes_none call read stage wire headers source trailers text row entry =
    bytes_so_many call 0 (none call read stage wire headers source trailers text row entry)
  where
    none : (call : Call) → ((addr place count : ℕ) → call ≡ calls.Read addr place count → ⊥)
        → ((addr count : ℕ) → call ≡ calls.Stage addr count → ⊥)
        → ((addr place count : ℕ) → call ≡ calls.Transmit addr place count → ⊥)
        → ((addr place count : ℕ) → call ≡ calls.ReceiveHeaders addr place count → ⊥)
        → ((addr place count : ℕ) → call ≡ calls.ReceiveSource addr place count → ⊥)
        → ((addr place count : ℕ) → call ≡ calls.ReceiveTrailers addr place count → ⊥)
        → ((addr : ℕ) → call ≡ calls.StringRead addr → ⊥) → ((addr row : ℕ) → call ≡ calls.Row addr row → ⊥)
        → ((place : ℕ) → call ≡ calls.Entry place → ⊥) → most_given call ≡ 0
    none (calls.Read addr place count) read stage wire headers source trailers text row entry = absurd (read addr place count refl)
    none (calls.Stage addr count) read stage wire headers source trailers text row entry = absurd (stage addr count refl)
    none (calls.Transmit addr place count) read stage wire headers source trailers text row entry = absurd (wire addr place count refl)
    none (calls.ReceiveHeaders addr place count) read stage wire headers source trailers text row entry =
        absurd (headers addr place count refl)
    none (calls.ReceiveSource addr place count) read stage wire headers source trailers text row entry =
        absurd (source addr place count refl)
    none (calls.ReceiveTrailers addr place count) read stage wire headers source trailers text row entry =
        absurd (trailers addr place count refl)
    none (calls.StringRead addr) read stage wire headers source trailers text row entry = absurd (text addr refl)
    none (calls.Row addr place) read stage wire headers source trailers text row entry = absurd (row addr place refl)
    none (calls.Entry place) read stage wire headers source trailers text row entry = absurd (entry place refl)
    none call read stage wire headers source trailers text row entry = refl

-- there is room for whatever the call may come to
pub holds_any : (size : ℕ) (call : Call) (room : Room) → MovesAtMost size call room.moves → BytesAtMost call room.bytes
    → (s : State)
    → HasStood size s.world → HoldsAny room s call
holds_any size call room moves bytes s stood o steps = record {
  moves = steps_at_most size call room.moves moves s.base s stood o steps;
  bytes = by s.base steps;
}
  where
    by : (base : Ground) → StepsOn base s call o → length (bytes_given (answers.Reply o.reply) o.after.world.shown) ≤ room.bytes
    by Ground.NoHeap h = bare h.step
      where
        bare : StepsDry s.world call o.moves o.after.world o.reply ⊎ StopsReading s.world call o.moves o.after.world o.reply
            → length (bytes_given (answers.Reply o.reply) o.after.world.shown) ≤ room.bytes
        bare (inl d) = bytes s.world _ stood.whole (inl d.step)
        bare (inr r) = bytes s.world _ stood.whole (inr r.stopped)
    by (Ground.OnHeap room P) h = bytes s.world _ stood.whole h.step
