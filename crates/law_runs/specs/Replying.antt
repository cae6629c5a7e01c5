-- What a call may be answered.
use Rattle.std.specs.Prelude.{Bool, true, false}
use Rattle.sdr_base.specs.declared.refusal.Refusal.TheVariants as refusals
use Rattle.sdr_model.specs.declared.answer.Reply.{Reply}
use Rattle.sdr_model.specs.declared.answer.Reply.TheVariants as replies

-- whether the reply may be one to a call that was made: not a disk fault, and not a refusal by which the lock and the nesting
-- answer
abbrev pub is_of_call : Reply → Bool
is_of_call replies.DiskFault = false
is_of_call (replies.Failed moment) = false
is_of_call (replies.Refused (refusals.Doomed reason)) = false
is_of_call (replies.Refused refusals.TooDeep) = false
is_of_call (replies.Refused (refusals.Suspended serving mine)) = false
is_of_call (replies.Refused refusals.NotBegun) = false
is_of_call (replies.Refused (refusals.InTransaction mine)) = false
is_of_call reply = true
