-- Small runs, event by event, and the journals that they leave.
use Rattle.std.specs.Prelude.{◌≡◌, ℕ, List, [], None}
use Rattle.sdr_base.specs.declared.moves.Move.{Move}
use Rattle.sdr_machine.specs.Core.{Core, RunsCore, first_core}
use Rattle.sdr_machine.specs.Ground.{State}
use Rattle.sdr_machine.specs.Machine.{Made}
use Rattle.sdr_model.specs.declared.answer.Answer.{Answer}
use Rattle.sdr_model.specs.declared.answer.Answer.TheVariants as answers
use Rattle.sdr_model.specs.declared.answer.Reply.{Reply}
use Rattle.sdr_model.specs.declared.call.Call.{Call}
use Rattle.sdr_model.specs.declared.event.Event.{Event}
use Rattle.sdr_model.specs.declared.event.Event.TheVariants as events
use Rattle.sdr_model.specs.declared.journal.Entry.{Entry}
use Rattle.sdr_model.specs.declared.journal.Said.{Said}
use Rattle.sdr_model.specs.declared.journal.What.{What}

-- From this state these events may be made of these daemons, where media tell nothing, and leave this journal.
pub record LeavesJournal (daemons : List ℕ) (first : State) (made : List Made) (journal : List Entry) : Type 0 where
  pub core : Core
  pub runs : RunsCore None (first_core daemons first) made core
  pub kept : core.log.journal ≡ journal

-- what is said by an event of a line, with no call or a call that has no moves and gives no bytes
abbrev pub said : ℕ → Event → Answer → Said
said line event answer = record { line = line; event = event; answer = answer; bytes = []; moves = [] }

-- what is said by a call with these moves
abbrev pub called : ℕ → Call → Reply → List Move → Said
called line call reply moves = record { line = line; event = events.Say call; answer = answers.Reply reply; bytes = []; moves = moves }

-- a daemon has said this, where there is no disk whose moments rise
abbrev pub says : ℕ → Said → Made
says daemon s = record { daemon = daemon; said = s; begun = 0; done = 0 }

-- an entry, where there is no disk
abbrev pub entry : ℕ → ℕ → What → Entry
entry number daemon what = record { number = number; daemon = daemon; begun = 0; done = 0; what = what }
