-- The events of one turn: what a core is before it, within a transaction, and once it is over.
use Rattle.std.specs.Prelude.{◌≡◌, ◌+◌, ℕ, List, [], ◌∷◌, ◌++◌, ◌==◌, false, None, Some}
use Rattle.sdr_base.specs.declared.refusal.Refusal.TheVariants as refusals
use Rattle.sdr_core.specs.CoreKept.{LoggedLock}
use Rattle.sdr_machine.specs.Core.{Log, closed_by}
use Rattle.sdr_machine.specs.Ground.{State}
use Rattle.sdr_machine.specs.Roll.{Roll, after_wait, put_daemon, when_done, when_passed_over}
use Rattle.sdr_machine.specs.Transaction.{refused}
use Rattle.sdr_machine.specs.declared.daemon.Daemon.{Daemon}
use Rattle.sdr_machine.specs.declared.daemon.Holding.{Holding}
use Rattle.sdr_model.specs.AccountSteps.{pending_of}
use Rattle.sdr_model.specs.declared.answer.Answer.TheVariants as answers
use Rattle.sdr_model.specs.declared.answer.Close.{Close}
use Rattle.sdr_model.specs.declared.journal.Entry.{Entry}
use Rattle.sdr_model.specs.declared.journal.Said.{Said}
use Rattle.sdr_model.specs.declared.journal.What.TheVariants as whats
use Rattle.sdr_model.specs.declared.journal.What.{What}
use Rattle.sdr_daemon.specs.Turns.{EndsLook}

-- what a core was before a turn of a daemon
pub record BeforeTurn : Type 0 where
  pub roll : Roll
  pub journal : List Entry
  pub daemon : Daemon

-- the core before a turn of this daemon
abbrev pub before_of : {T : Type 0} → LoggedLock T → Daemon → BeforeTurn
before_of k x = record { roll = k.lock.roll; journal = k.log.journal; daemon = x }

-- the daemon with this number, in a transaction
abbrev pub daemon_holding : BeforeTurn → Holding → Daemon
daemon_holding o h = record o.daemon { holds = Some h }

-- It has drawn the next number, and has said this in its transaction, which is open.
pub record HasSaid (o : BeforeTurn) (said : List Said) (r : Roll) (log : Log) : Type 0 where
  pub h : Holding
  pub number : h.number ≡ o.roll.drawn + 1
  pub deep : (h.nesting.depth == 0) ≡ false
  pub roll_is : r ≡ record { daemons = put_daemon o.roll.daemons (daemon_holding o h); drawn = o.roll.drawn + 1; failed = None }
  pub works : log.works ≡ record { daemon = o.daemon.id; said = said } ∷ []
  pub journal_is : log.journal ≡ o.journal

-- the entry is the daemon's, of its next number and of this
pub record IsNextEntry (o : BeforeTurn) (what : What) (e : Entry) : Type 0 where
  pub number : e.number ≡ o.roll.drawn + 1
  pub daemon : e.daemon ≡ o.daemon.id
  pub what_is : e.what ≡ what

-- The turn is over: these entries were added, the daemon is this, and so many numbers are drawn.
pub record IsOver (o : BeforeTurn) (entries : List Entry) (after : Daemon) (drawn : ℕ) (r : Roll) (log : Log) : Type 0 where
  pub journal_is : log.journal ≡ o.journal ++ entries
  pub unsaid : log.works ≡ []
  pub daemons : r.daemons ≡ put_daemon o.roll.daemons after
  pub drawn_is : r.drawn ≡ drawn
  pub id : after.id ≡ o.daemon.id
  pub unheld : after.holds ≡ None

-- The turn is over, and one entry was added, of this.
pub record IsOverWith (o : BeforeTurn) (what : What) (after : Daemon) (r : Roll) (log : Log) : Type 0 where
  pub entry : Entry
  pub next : IsNextEntry o what entry
  pub over : IsOver o (entry ∷ []) after (o.roll.drawn + 1) r log

-- What a line of an open transaction comes to: the transaction goes on, or the line closes it.
pub data SaysOn (o : BeforeTurn) (said : List Said) (s : Said) (r : Roll) (log : Log) : Type 0 where
  on : closed_by s.answer ≡ None → HasSaid o (said ++ s ∷ []) r log → SaysOn o said s r log
  closed : (close : Close) → closed_by s.answer ≡ Some close → IsOverWith o (whats.Work (said ++ s ∷ []) close) (when_done o.daemon) r log → SaysOn o said s r log

-- What a look of a daemon without a number comes to, where the state was this before: the ticket isn't there; or the look is not to be
-- made again; or the ticket waits, as it did at the last look, or for the first time.
pub data LooksSo (o : BeforeTurn) (before : State) (ticket : ℕ) (s : Said) (r : Roll) (log : Log) : Type 0 where
  missing : pending_of before.world ticket ≡ None → s.answer ≡ refused (refusals.BadTicket ticket)
      → IsOver o [] (when_passed_over o.daemon) (o.roll.drawn + 1) r log → LooksSo o before ticket s r log
  seen : (what : What) → EndsLook ticket s what → (s.answer ≡ answers.Waits → ⊥) → (s.answer ≡ refused (refusals.BadTicket ticket) → ⊥)
      → IsOverWith o what (when_done o.daemon) r log → LooksSo o before ticket s r log
  again : s.answer ≡ answers.Waits → o.daemon.waits ≡ Some ticket → IsOver o [] (after_wait o.daemon ticket) (o.roll.drawn + 1) r log
      → LooksSo o before ticket s r log
  waits : s.answer ≡ answers.Waits → (o.daemon.waits ≡ Some ticket → ⊥) → IsOverWith o (whats.Waits ticket) (after_wait o.daemon ticket) r log
      → LooksSo o before ticket s r log
