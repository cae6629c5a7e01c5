-- The bytes that an answered call gives.
use Rattle.std.proofs.Common.{◌≡◌, ◌∙◌, ℕ, List, Option, None, Some, false, refl, sym, ap, length}
use Rattle.std.specs.Prelude.{IfSome}
use Rattle.step_things.specs.Answering.{dooms}
use Rattle.sdr_model.specs.Rows.{ByRow}
use Rattle.sdr_model.specs.Steps.{Outcome}
use Rattle.sdr_model.specs.Whole.{IsWhole}
use Rattle.sdr_model.specs.World.{World}
use Rattle.sdr_model.specs.declared.answer.Reply.{Reply}
use Rattle.sdr_model.specs.declared.answer.Reply.TheVariants as replies
use Rattle.sdr_model.specs.declared.call.Call.{Call}
use Rattle.sdr_station.proofs.GivenLemmas.{given_row, given_told, most_given}
use Rattle.sdr_station.specs.Giving.{GivesReply, bytes_told}
use Rattle.sdr_station.specs.Grounded.{Grounded}

-- a reply that tells of bytes dooms nothing
undoomed : (call : Call) (reply : Reply) (count : ℕ) → bytes_told reply ≡ Some count → dooms call reply ≡ false
undoomed call (replies.Refused refusal) count told = absurd (let no : None ≡ Some count = told in cc)
undoomed call reply count told = refl

-- where the reply tells of bytes, a ground that shows them gives them
pub gives_shown : {D M : Type 0} (g : Grounded D M) (w : World) (call : Call) (o : Outcome) → IsWhole w
    → ByRow w o call
    → o.after.shown ≡ g.shown → (dooms call o.reply ≡ false → g.stopped ≡ false) → (reply : Reply) → o.reply ≡ reply
    → GivesReply reply g
gives_shown g w call o whole row shown going reply told = by (bytes_told reply) refl
  where
    by : (b : Option ℕ) → bytes_told reply ≡ b → IfSome b (λ count. (length g.shown ≡ count) × (g.stopped ≡ false))
    by None of_reply = tt
    by (Some count) of_reply = (
      ap (λ (bytes : List ℕ). length bytes) (sym shown)
          ∙ given_told o (most_given call) count (given_row w o call whole row) (ap bytes_told told ∙ of_reply),
      going (ap (dooms call) told ∙ undoomed call reply count of_reply),
    )
