-- The laws of one step.
use Rattle.std.proofs.Common.{◌≡◌, List, [], Bool, true, false, inl, inr, refl, sym, ap, ◌∙◌, true≢false}
use Rattle.std.specs.Prelude.{slice_index}
use Rattle.sdr_base.specs.declared.moves.Move.{Move}
use Rattle.sdr_base.specs.declared.refusal.Refusal.TheVariants as refusals
use Rattle.law_steps.proofs.RowShapes.{row_shape}
use Rattle.law_steps.proofs.Shapes.{Shape, Shows, Acts}
use Rattle.law_steps.specs.Marks.{MarksTaken}
use Rattle.sdr_model.specs.Steps.{taken_addresses, Outcome}
use Rattle.law_steps.specs.Refused.{is_stop, may_stop_midway}
use Rattle.law_steps.specs.Shows.{ShowsOnly}
use Rattle.sdr_model.specs.Reading.{is_reading}
use Rattle.sdr_model.specs.RowMoves.{row_moves}
use Rattle.sdr_model.specs.Rows.{ByRow}
use Rattle.sdr_model.specs.Step.{Step, StopsWith, is_answer}
use Rattle.sdr_model.specs.World.{World}
use Rattle.sdr_model.specs.declared.answer.Reply.{Reply}
use Rattle.sdr_model.specs.declared.answer.Reply.TheVariants as replies
use Rattle.sdr_model.specs.declared.call.Call.{Call}

-- an answer is no refusal
contrary : {R : Type 0} {b : Bool} → b ≡ true → b ≡ false → R
contrary yes_true yes_false = absurd (true≢false (sym yes_true ∙ yes_false))

-- a call that stops isn't answered
stops_unanswered : (reply : Reply) (call : Call) (all moves : List Move) → StopsWith reply call all moves
    → is_answer reply ≡ false
stops_unanswered (replies.Refused refusal) call all moves s = refl
stops_unanswered replies.MediaFault call all moves s = refl
stops_unanswered reply call all moves s = absurd s

-- and has moves only where it may stop midway
stops_first : (reply : Reply) (call : Call) (all moves : List Move) → StopsWith reply call all moves
    → may_stop_midway reply ≡ false → moves ≡ []
stops_first (replies.Refused (refusals.NoBlock need)) call all moves s first = absurd (true≢false first)
stops_first (replies.Refused (refusals.LogFull lines room)) call all moves s first = absurd (true≢false first)
stops_first (replies.Refused (refusals.SourceShort have want)) call all moves s first = s.0
stops_first (replies.Refused refusal) call all moves s first = absurd s
stops_first replies.MediaFault call all moves s first = s.0
stops_first reply call all moves s first = absurd s

module _ (w w' : World) (call : Call) (moves : List Move) (reply : Reply) where
  abbrev outcome : Outcome
  outcome = record { moves = moves; after = w'; reply = reply }

  shape_leaves : Shape w call outcome → is_answer reply ≡ false → (w' ≡ w) × (moves ≡ [])
  shape_leaves (Shape.refuses refusal of_row h) refused = (h.1, h.0)
  shape_leaves (Shape.shows s) refused = contrary s.answered refused
  shape_leaves (Shape.acts a) refused = contrary a.changes.answered refused

  pub refused_leaves : Step w call moves w' reply → is_answer reply ≡ false → w' ≡ w
  refused_leaves (inl row) refused = (shape_leaves (row_shape w call outcome row) refused).0
  refused_leaves (inr stops) refused = stops.same

  pub refused_moves : Step w call moves w' reply → is_answer reply ≡ false → may_stop_midway reply ≡ false → moves ≡ []
  refused_moves (inl row) refused first = (shape_leaves (row_shape w call outcome row) refused).1
  refused_moves (inr stops) refused first = stops_first reply call stops.aim.moves moves stops.stopped first

  by_shape : {R : Type 0} → Shape w call outcome → is_answer reply ≡ true → (Shows w call outcome → R)
      → (Acts w call outcome → R) → R
  by_shape (Shape.refuses refusal of_row h) answered f g = contrary answered (ap is_answer h.2)
  by_shape (Shape.shows s) answered f g = f s
  by_shape (Shape.acts a) answered f g = g a

  -- what an answered call has by its shape
  pub answered_shape : {R : Type 0} → Step w call moves w' reply → is_answer reply ≡ true
      → (Shows w call outcome → R) → (Acts w call outcome → R) → R
  answered_shape (inl row) answered f g = by_shape (row_shape w call outcome row) answered f g
  answered_shape (inr stops) answered f g =
      contrary answered (stops_unanswered reply call stops.aim.moves moves stops.stopped)

  pub reading_shows : is_reading call ≡ true → Step w call moves w' reply → is_answer reply ≡ true
      → (moves ≡ []) × ShowsOnly call w w'
  reading_shows reading step answered =
      answered_shape step answered (λ s. (s.moves, s.only)) (λ a. contrary reading a.changing)

  pub moves_are_the_rows : Step w call moves w' reply → is_answer reply ≡ true
      → moves ≡ row_moves w call (slice_index (taken_addresses moves))
  moves_are_the_rows step answered =
      answered_shape step answered (λ s. s.moves ∙ sym (s.row (slice_index (taken_addresses moves)))) (λ a. a.row)

  pub taken_are_marked : is_reading call ≡ false → Step w call moves w' reply → is_answer reply ≡ true
      → MarksTaken w moves w'
  taken_are_marked changing step answered =
      answered_shape step answered (λ s. contrary (s.reading) changing) (λ a. a.changes.marks)

-- a reply that answers its call tells of no stop
answered_whole : (reply : Reply) → is_answer reply ≡ true → is_stop reply ≡ false
answered_whole (replies.Refused refusal) answered = contrary answered refl
answered_whole replies.MediaFault answered = contrary answered refl
answered_whole replies.DiskFault answered = contrary answered refl
answered_whole (replies.Failed moment) answered = contrary answered refl
answered_whole reply answered = refl

-- a row tells of no stop
pub row_is_no_stop : (w : World) (o : Outcome) (call : Call) → ByRow w o call → is_stop o.reply ≡ false
row_is_no_stop w o call row = by (row_shape w call o row)
  where
    by : Shape w call o → is_stop o.reply ≡ false
    by (Shape.refuses refusal of_row h) = ap is_stop h.2 ∙ of_row
    by (Shape.shows s) = answered_whole o.reply s.answered
    by (Shape.acts a) = answered_whole o.reply a.changes.answered
