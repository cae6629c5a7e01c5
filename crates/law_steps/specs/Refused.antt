-- Which refusals may come after some moves.
use Rattle.std.specs.Prelude.{Bool, true, false}
use Rattle.sdr_base.specs.declared.refusal.Refusal.TheVariants as refusals
use Rattle.sdr_model.specs.declared.answer.Reply.{Reply}
use Rattle.sdr_model.specs.declared.answer.Reply.TheVariants as replies

-- whether the reply may stop a call after some of its moves: no block is left, or no room in the undo log
abbrev pub may_stop_midway : Reply → Bool
may_stop_midway (replies.Refused (refusals.NoBlock need)) = true
may_stop_midway (replies.Refused (refusals.LogFull lines room)) = true
may_stop_midway reply = false

-- whether the reply tells of a stop on the way: a block or room in the undo log is wanting, a device failed, or media gave fewer
-- bytes than were asked for
abbrev pub is_stop : Reply → Bool
is_stop (replies.Refused (refusals.NoBlock need)) = true
is_stop (replies.Refused (refusals.LogFull lines room)) = true
is_stop (replies.Refused (refusals.SourceShort have want)) = true
is_stop replies.MediaFault = true
is_stop replies.DiskFault = true
is_stop (replies.Failed moment) = true
is_stop reply = false
