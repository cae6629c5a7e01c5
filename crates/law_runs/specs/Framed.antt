-- How the entry of a transaction begins and ends.
use Rattle.std.specs.Prelude.{◌≡◌, ◌⊎◌, ℕ, List, [], ◌∷◌, ◌++◌, true, Some, is_none, ⊤}
use Rattle.std.specs.List.{list_all}
use Rattle.sdr_model.specs.declared.answer.Answer.TheVariants as answers
use Rattle.sdr_model.specs.declared.answer.Close.{Close}
use Rattle.sdr_model.specs.declared.answer.Close.TheVariants as closes
use Rattle.sdr_model.specs.declared.answer.Reply.TheVariants as replies
use Rattle.sdr_model.specs.declared.event.Event.TheVariants as events
use Rattle.sdr_model.specs.declared.journal.Said.{Said}
use Rattle.sdr_model.specs.declared.journal.What.{What}
use Rattle.sdr_model.specs.declared.journal.What.TheVariants as whats
use Rattle.sdr_machine.specs.Core.{closed_by}
use Rattle.sdr_machine.specs.Transaction.{IsOpening}

-- What was said under a number begins with the first begin, which answers it, and ends with what closes the transaction so.
-- Nothing between them closes it.
pub record IsFramed (number : ℕ) (said : List Said) (close : Close) : Type 0 where
  pub begin : Said
  pub between : List Said
  pub last : Said
  pub all : said ≡ begin ∷ between ++ last ∷ []
  pub opening : IsOpening number begin
  pub unclosed : list_all (λ (s : Said). is_none (closed_by s.answer)) between ≡ true
  pub closing : closed_by last.answer ≡ Some close

-- All that was said is a look that met a disk fault.
pub record IsFaultedLook (said : List Said) (close : Close) : Type 0 where
  pub look : Said
  pub all : said ≡ look ∷ []
  pub ticket : ℕ
  pub event : look.event ≡ events.Look ticket
  pub answer : look.answer ≡ answers.Reply replies.DiskFault
  pub faulted : close ≡ closes.Faulted

-- where the entry is of a transaction, that is framed, or is a look that met a disk fault
abbrev pub FramesWork : ℕ → What → Type 0
FramesWork number (whats.Work said close) = IsFramed number said close ⊎ IsFaultedLook said close
FramesWork number what = ⊤
