-- What a call comes to on a heap that stands for a world.
use Rattle.std.specs.Prelude.{◌≡◌, ℕ, Bool, true, false, not, List, ⊤, All, Result, Ok, Err}
use Rattle.sdr_stands.specs.Standing.{HeapStandsFor}
use Rattle.sdr_base.specs.Objects.{Heap}
use Rattle.sdr_base.specs.declared.has_heap.HasHeap.{Ghosts}
use Rattle.sdr_base.specs.declared.moves.Move.{Move}
use Rattle.sdr_base.specs.declared.refusal.Refusal.{Refusal}
use Rattle.sdr_base.specs.declared.refusal.Refusal.TheVariants as refusals
use Rattle.sdr_base.specs.declared.stop.Stop.{Stop}
use Rattle.sdr_base.specs.declared.stop.Stop.TheVariants as stops
use Rattle.law_steps.specs.Fresh.{AreFresh}
use Rattle.sdr_model.specs.Blocks.{addresses_of, blocks_of}
use Rattle.sdr_model.specs.Fields.{FitsFields, IsWord}
use Rattle.sdr_model.specs.Reading.{is_reading}
use Rattle.sdr_model.specs.Rows.{ByRow}
use Rattle.sdr_model.specs.Step.{StepTo, is_answer}
use Rattle.sdr_model.specs.Steps.{Outcome, taken_addresses}
use Rattle.sdr_model.specs.Whole as model
use Rattle.sdr_model.specs.World.{World}
use Rattle.sdr_model.specs.declared.answer.Reply.{Reply}
use Rattle.sdr_model.specs.declared.answer.Reply.TheVariants as replies
use Rattle.sdr_model.specs.declared.call.Call.{Call}

-- a world in which calls are served: it is whole, and its numbers fit the fields of blocks
pub record IsReady (w : World) : Type 0 where
  pub whole : model.IsWhole w
  pub fits : FitsFields w

-- the heap stands for some world in which calls are served
pub record HeapStands (heap : Heap) : Type 0 where
  pub world : World
  pub stands : HeapStandsFor heap world
  pub ready : IsReady world

-- whether a call that was answered so dooms its transaction: it is a change that was refused
abbrev pub dooms : Call → Reply → Bool
dooms call (replies.Refused refusal) = not (is_reading call)
dooms call reply = false

-- a reading call leaves the lines touched as they were, however it is answered
abbrev pub LeavesLines : {S : Type 0} → Ghosts S → Call → S → S → Type 0
LeavesLines m call old new = is_reading call ≡ true → (m.transaction new).touched ≡ (m.transaction old).touched

-- what the row of a call gives, where it is answered
pub record Aim (w : World) (call : Call) : Type 0 where
  pub to : Outcome
  pub row : ByRow w to call
  pub answered : is_answer to.reply ≡ true

-- A call that had no move before is answered by its row, with the heap's moves, of which each takes a block where none was. The
-- heap stands for the world after it, which shows these bytes.
pub record Answered (w : World) (call : Call) (new : Heap) (shown : List ℕ) (reply : Reply) : Type 0 where
  pub after : World
  pub row : ByRow w (record { moves = new.moves; after = after; reply = reply }) call
  pub answered : is_answer reply ≡ true
  pub fresh : AreFresh (addresses_of (blocks_of w)) new.moves
  pub stands : HeapStandsFor new after
  pub gave : after.shown ≡ shown
  pub words : All IsWord (taken_addresses new.moves)
  pub taken : after.taken ≡ w.taken

-- The call is refused by a step that leaves the world. Where log room is wanting, its row would answer it.
abbrev pub StepsRefused : World → Call → List Move → Refusal → Type 0
StepsRefused w call moves (refusals.LogFull lines room) = Aim w call × (is_reading call ≡ false)
StepsRefused w call moves refusal = StepTo w (record { moves = moves; after = w; reply = replies.Refused refusal }) call

-- The call is refused by such a step. One that reads leaves the heap, and the bytes that are shown stay.
pub record IsRefused (w : World) (call : Call) (old new : Heap) (was shown : List ℕ) (refusal : Refusal) : Type 0 where
  pub step : StepsRefused w call new.moves refusal
  pub left : is_reading call ≡ true → new ≡ old
  pub gave : shown ≡ was

-- what a call comes to in a world
abbrev pub ComesIn : World → Call → Heap → Heap → List ℕ → List ℕ → Result Reply Stop → Type 0
ComesIn w call old new was shown (Ok reply) = Answered w call new shown reply
ComesIn w call old new was shown (Err (stops.Refused refusal)) = IsRefused w call old new was shown refusal
ComesIn w call old new was shown (Err stop) = ⊤

-- what a call comes to in each world in which calls are served and for which the heap stood
pub record ComesInEach (call : Call) (old new : Heap) (was shown : List ℕ) (result : Result Reply Stop) : Type 0 where
  pub each : (w : World) → HeapStandsFor old w → IsReady w → ComesIn w call old new was shown result
