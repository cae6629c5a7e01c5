-- The entry that an event adds to the journal.
use Rattle.std.specs.Prelude.{◌≡◌, ℕ, List, Option, None, MatchBool, MatchOption}
use Rattle.std.specs.Option.{option_map, option_map_or}
use Rattle.sdr_base.specs.Media.{Told}
use Rattle.sdr_model.specs.declared.answer.Answer.TheVariants as answers
use Rattle.sdr_model.specs.declared.answer.Reply.TheVariants as replies
use Rattle.sdr_model.specs.declared.journal.Entry.{Entry}
use Rattle.sdr_machine.specs.Core.{Core, Under, entry_of, under, what_of}
use Rattle.sdr_machine.specs.Legal.{MayFollow, is_fault}
use Rattle.sdr_machine.specs.Machine.{Machine, Made}
use Rattle.sdr_machine.specs.Roll.{daemon_of}
use Rattle.sdr_machine.specs.declared.daemon.Daemon.{Daemon}

-- the entry that an event adds that was made under this, if it adds one
abbrev pub entry_under : Under → Core → Made → Option Entry
entry_under u c e = option_map (entry_of u.number e) (what_of u c.log.works e)

-- the entry that an event adds by which the machine went on to m, if it adds one
abbrev pub entry_added : Core → Made → Machine → Option Entry
entry_added c e m =
    option_map_or (λ (d : Daemon). entry_under (under c.machine.roll d m.roll e.said.event) c e)
    (daemon_of c.machine.roll e.daemon) None

-- An entry that an event adds may stand behind the journal, from the state before the open transaction to the one after
-- the event. Where none is added, that state stays.
abbrev pub AddsRightly : Option Told → List ℕ → Core → Made → Machine → Type 0
AddsRightly told daemons c e m =
    MatchOption (entry_added c e m) (m.before ≡ c.machine.before)
    (λ (x : Entry). MayFollow told daemons c.log.journal c.machine.before x.number x.daemon x.what m.before)

-- By an event that adds no entry the disk hasn't failed; where it did in the entry that is added, the event was answered so.
abbrev pub FailsRightly : Core → Made → Machine → Type 0
FailsRightly c e m =
    MatchOption (entry_added c e m) (m.roll.failed ≡ c.machine.roll.failed)
    (λ (x : Entry). MatchBool (is_fault x.what) (e.said.answer ≡ answers.Reply replies.DiskFault) (m.roll.failed ≡ c.machine.roll.failed))
