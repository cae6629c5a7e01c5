-- One step of the machine: a call comes to what its row allows, or stops on its way there.
use Rattle.std.specs.Prelude.{◌≡◌, ◌<◌, ◌⊎◌, ℕ, Bool, true, false, List, [], ◌∷◌, ◌++◌}
use Rattle.sdr_base.specs.Objects.{AreFirstOf}
use Rattle.sdr_base.specs.declared.moves.Move.{Move}
use Rattle.sdr_base.specs.declared.moves.Move.TheVariants.{Took, Short}
use Rattle.sdr_base.specs.declared.refusal.Refusal.TheVariants as refusals
use Rattle.sdr_model.specs.Reading.{is_reading, reads_media}
use Rattle.sdr_model.specs.Rows.{ByRow}
use Rattle.sdr_model.specs.Steps.{Outcome}
use Rattle.sdr_model.specs.World.{World}
use Rattle.sdr_model.specs.declared.answer.Reply.{Reply}
use Rattle.sdr_model.specs.declared.answer.Reply.TheVariants as replies
use Rattle.sdr_model.specs.declared.call.Call.{Call}

-- whether the reply answers its call: a refusal and a fault don't
abbrev pub is_answer : Reply → Bool
is_answer (replies.Refused refusal) = false
is_answer replies.MediaFault = false
is_answer replies.DiskFault = false
is_answer (replies.Failed moment) = false
is_answer reply = true

-- the moves are some first ones of these, and then no block of this need was left for the next one
pub record LackBlock (all moves : List Move) (need : ℕ) : Type 0 where
  pub done : List Move
  pub addr : ℕ
  pub rest : List Move
  pub whole : all ≡ done ++ Took need addr ∷ rest
  pub short : moves ≡ done ++ Short need ∷ []

-- A call that would have made all these moves stops with this reply, after these of them: a block is wanting, or a
-- changing call finds no room in the undo log, or a read of media fails or gives fewer bytes than were asked for.
abbrev pub StopsWith : Reply → Call → List Move → List Move → Type 0
StopsWith (replies.Refused (refusals.NoBlock need)) call all moves = LackBlock all moves need
StopsWith (replies.Refused (refusals.LogFull lines room)) call all moves =
    AreFirstOf all moves × (is_reading call ≡ false)
StopsWith (replies.Refused (refusals.SourceShort have want)) call all moves =
    (moves ≡ []) × (reads_media call ≡ true) × (have < want)
StopsWith replies.MediaFault call all moves = (moves ≡ []) × (reads_media call ≡ true)
StopsWith reply call all moves = ⊥

-- the call stops on its way to an outcome in which its row answers it, and leaves the world
pub record Stops (w : World) (o : Outcome) (call : Call) : Type 0 where
  pub aim : Outcome
  pub row : ByRow w aim call
  pub answered : is_answer aim.reply ≡ true
  pub stopped : StopsWith o.reply call aim.moves o.moves
  pub same : o.after ≡ w

-- from the world w, the call may come to this outcome
abbrev pub StepTo : World → Outcome → Call → Type 0
StepTo w o call = ByRow w o call ⊎ Stops w o call

-- from the world w, the machine may answer the call so, with these moves, and go on to w'
abbrev pub Step : World → Call → List Move → World → Reply → Type 0
Step w call moves w' reply = StepTo w (record { moves = moves; after = w'; reply = reply }) call
