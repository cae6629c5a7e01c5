-- How many bytes a call may give.
use Rattle.std.specs.Prelude.{◌≤◌, ℕ, length}
use Rattle.sdr_machine.specs.Transaction.{bytes_given}
use Rattle.sdr_model.specs.Step.{StepTo}
use Rattle.sdr_model.specs.Steps.{Outcome}
use Rattle.sdr_model.specs.Whole.{IsWhole}
use Rattle.sdr_model.specs.World.{World}
use Rattle.sdr_model.specs.declared.answer.Answer.TheVariants as answers
use Rattle.sdr_model.specs.declared.call.Call.{Call}

-- no outcome to which the call may come in a whole world gives more bytes
abbrev pub BytesAtMost : Call → ℕ → Type 0
BytesAtMost call most =
    (w : World) (o : Outcome) → IsWhole w → StepTo w o call → length (bytes_given (answers.Reply o.reply) o.after.shown) ≤ most
