-- What a roll keeps of each daemon's last entry.
use Rattle.std.specs.Prelude.{◌≡◌, ℕ, List, Bool, false, Option, None, Some}
use Rattle.std.specs.Option.{option_map_or}
use Rattle.sdr_model.specs.declared.journal.Entry.{Entry}
use Rattle.sdr_model.specs.declared.journal.What.{What}
use Rattle.sdr_model.specs.declared.journal.What.TheVariants as whats
use Rattle.sdr_machine.specs.Legal.{is_leave, last_entry}
use Rattle.sdr_machine.specs.Roll.{Roll, daemon_of}
use Rattle.sdr_machine.specs.declared.daemon.Daemon.{Daemon}

-- the ticket for which the entry is a wait, if it is one
abbrev pub waited_ticket : What → Option ℕ
waited_ticket (whats.Waits ticket) = Some ticket
waited_ticket what = None

-- the ticket for which a last entry is a wait, if it is one
abbrev pub waits_by : Option Entry → Option ℕ
waits_by None = None
waits_by (Some e) = waited_ticket e.what

-- whether a last entry is a leave
abbrev pub is_by_leave : Option Entry → Bool
is_by_leave last = option_map_or (λ (e : Entry). is_leave e.what) last false

-- The daemon has left just where its last entry is a leave, and waits for a ticket just where that is a wait for it.
pub record AgreesWithLast (last : Option Entry) (d : Daemon) : Type 0 where
  pub left : d.left ≡ is_by_leave last
  pub waits : d.waits ≡ waits_by last

-- each daemon of the roll agrees with its last entry in the journal
abbrev pub AgreesWithJournal : List Entry → Roll → Type 0
AgreesWithJournal journal r = (id : ℕ) (d : Daemon) → daemon_of r id ≡ Some d → AgreesWithLast (last_entry journal id) d
