-- How often media have failed, and when an answer may tell so.
use Rattle.std.specs.Prelude.{◌≤◌, ℕ, ⊤}
use Rattle.sdr_base.specs.Causes.{Rose}
use Rattle.sdr_base.specs.declared.refusal.Refusal.TheVariants as refusals
use Rattle.sdr_model.specs.declared.answer.Answer.{Answer}
use Rattle.sdr_model.specs.declared.answer.Answer.TheVariants as answers
use Rattle.sdr_model.specs.declared.answer.Reply.TheVariants as replies

-- how often media have failed, and have given fewer bytes than were asked for
pub record Lapses : Type 0 where
  pub faults : ℕ
  pub short : ℕ

-- media have not failed, or there are none
abbrev pub no_lapses : Lapses
no_lapses = record { faults = 0; short = 0 }

-- the counts have not fallen
pub record LapsesLast (old new : Lapses) : Type 0 where
  pub faults : old.faults ≤ new.faults
  pub short : old.short ≤ new.short

-- where an answer tells that media failed, or gave fewer bytes than were asked for, the count of that rose
abbrev pub HasLapseCause : Answer → Lapses → Lapses → Type 0
HasLapseCause (answers.Reply replies.MediaFault) old new = Rose old.faults new.faults
HasLapseCause (answers.Reply (replies.Refused (refusals.SourceShort have want))) old new = Rose old.short new.short
HasLapseCause answer old new = ⊤
