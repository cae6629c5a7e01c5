-- What a core run leaves open: two runs of the same events are alike in that.
use Rattle.std.specs.Prelude.{◌≡◌, ◌||◌, List, [], ◌∷◌, Bool, true, false, Option, None, ⊤}
use Rattle.sdr_base.specs.Media.{Told}
use Rattle.sdr_base.specs.declared.refusal.Refusal.TheVariants as refusals
use Rattle.sdr_machine.specs.Machine.{Made}
use Rattle.sdr_model.specs.declared.answer.Answer.{Answer}
use Rattle.sdr_model.specs.declared.answer.Answer.TheVariants as answers
use Rattle.sdr_model.specs.declared.answer.Reply.TheVariants as replies

-- whether the answer tells of what no definition decides: a device failed, media had too few bytes, or the undo log had
-- no room for a call
abbrev pub is_chance : Answer → Bool
is_chance (answers.Reply replies.DiskFault) = true
is_chance (answers.Reply replies.MediaFault) = true
is_chance (answers.Reply (replies.Refused (refusals.SourceShort have want))) = true
is_chance (answers.Reply (replies.Refused (refusals.LogFull lines room))) = true
is_chance answer = false

-- Two events are the same, made at the same moments. Where one was answered by chance, the other was so too, after the
-- same moves; and where media tell nothing, both gave the same bytes.
pub record AreAlike (told : Option Told) (e e' : Made) : Type 0 where
  pub daemon : e'.daemon ≡ e.daemon
  pub line : e'.said.line ≡ e.said.line
  pub event : e'.said.event ≡ e.said.event
  pub begun : e'.begun ≡ e.begun
  pub done : e'.done ≡ e.done
  pub chance : (is_chance e.said.answer || is_chance e'.said.answer) ≡ true →
      (e'.said.answer ≡ e.said.answer) × (e'.said.moves ≡ e.said.moves)
  pub bytes : told ≡ None → e'.said.bytes ≡ e.said.bytes

-- so many events are alike, one by one
abbrev pub RunAlike : Option Told → List Made → List Made → Type 0
RunAlike told [] [] = ⊤
RunAlike told (e ∷ made) (e' ∷ others) = AreAlike told e e' × RunAlike told made others
RunAlike told made others = ⊥
