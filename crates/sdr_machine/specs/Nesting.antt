-- The nesting of a transaction: its depth, its doom, and whether it has changed something.
use Rattle.std.specs.Prelude.{ℕ, ◌+◌, ◌-◌, false, true, Some, None, unwrap_or, nat_le, if◌then◌else◌}
use Rattle.std.specs.Option.{option_map_or}
use Rattle.sdr_base.specs.Refusal.{refusal_number}
use Rattle.sdr_base.specs.declared.refusal.Reason.{Reason}
use Rattle.sdr_base.specs.declared.refusal.Reason.TheVariants as reasons
use Rattle.sdr_base.specs.declared.refusal.Refusal.TheVariants as refusals
use Rattle.sdr_model.specs.Reading.{is_reading}
use Rattle.sdr_model.specs.declared.answer.Answer.{Answer}
use Rattle.sdr_model.specs.declared.answer.Answer.TheVariants as answers
use Rattle.sdr_model.specs.declared.answer.Close.{Close}
use Rattle.sdr_model.specs.declared.answer.Close.TheVariants as closes
use Rattle.sdr_model.specs.declared.answer.Reply.{Reply}
use Rattle.sdr_model.specs.declared.answer.Reply.TheVariants as replies
use Rattle.sdr_model.specs.declared.call.Call.{Call}
use Rattle.sdr_model.specs.declared.event.Event.{Event}
use Rattle.sdr_machine.specs.Closing.{close_of}
use Rattle.sdr_machine.specs.declared.nesting.Nesting.{Nesting}

-- transactions are nested to this depth at most
abbrev pub deepest : ℕ
deepest = 64

-- a transaction at this depth in which nothing was done
abbrev pub nested : ℕ → Nesting
nested depth = record { depth = depth; doom = None; modified = false }

-- no transaction has begun
abbrev pub unbegun : Nesting
unbegun = nested 0

-- what an inner event answers, and the nesting after it
pub record Inner : Type 0 where
  pub answer : Answer
  pub after : Nesting

-- the transaction can only be cancelled, for the first reason that there was
abbrev pub doomed_for : Reason → Nesting → Nesting
doomed_for reason n = record n { doom = Some (unwrap_or n.doom reason) }

-- an inner event answers the depth to which it has come
abbrev pub comes_to : Nesting → ℕ → Inner
comes_to n depth = record { answer = answers.Depth depth; after = record n { depth = depth } }

-- An inner begin is one deeper, but at the greatest depth it is refused and dooms.
abbrev pub deepened : Nesting → Inner
deepened n =
    if nat_le deepest n.depth
    then record { answer = answers.Reply (replies.Refused refusals.TooDeep); after = doomed_for (reasons.Refused 23) n }
    else comes_to n (n.depth + 1)

-- An inner end or exit is one less deep.
abbrev pub ended : Nesting → Inner
ended n = comes_to n (n.depth - 1)

-- An inner cancel is one less deep, and dooms.
abbrev pub cancelled : Nesting → Inner
cancelled n = comes_to (doomed_for reasons.Inner n) (n.depth - 1)

-- A refused changing call dooms its transaction, and one that was answered has modified it.
abbrev pub noted : Call → Reply → Nesting → Nesting
noted call (replies.Refused refusal) n = if is_reading call then n else doomed_for (reasons.Refused (refusal_number refusal)) n
noted call reply n = if is_reading call then n else record n { modified = true }

-- how the event closes the transaction: a doomed one is cancelled for the first reason that there was
abbrev pub closing : Nesting → Event → Close
closing n event = option_map_or (λ reason. closes.Cancelled reason) n.doom (close_of event n.modified)
