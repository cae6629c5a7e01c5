-- The entry that an event adds.
use Rattle.std.proofs.Common.{if◌then◌else◌, ◌≡◌, ◌∙◌, ◌+◌, ◌++◌, List, [], ◌∷◌, Bool, true, false, true≢false, Option, None, Some, refl, sym, ap, subst}
use Rattle.std.specs.Option.{option_map, option_map_or}
use Rattle.sdr_base.specs.Media.{Told}
use Rattle.sdr_model.specs.declared.answer.Answer.{Answer}
use Rattle.sdr_model.specs.declared.answer.Answer.TheVariants as answers
use Rattle.sdr_model.specs.declared.answer.Close.{Close}
use Rattle.sdr_model.specs.declared.answer.Close.TheVariants as closes
use Rattle.sdr_model.specs.declared.answer.Reply.TheVariants as replies
use Rattle.sdr_model.specs.declared.event.Event.{Event}
use Rattle.sdr_model.specs.declared.event.Event.TheVariants as events
use Rattle.sdr_model.specs.declared.journal.Entry.{Entry}
use Rattle.sdr_model.specs.declared.journal.Said.{Said}
use Rattle.sdr_model.specs.declared.journal.What.{What}
use Rattle.sdr_model.specs.declared.journal.What.TheVariants as whats
use Rattle.sdr_machine.specs.Core.{Core, Under, all_said, closed_by, entry_of, said_by, under, what_added, what_of}
use Rattle.sdr_machine.specs.Crash.{end_told}
use Rattle.sdr_machine.specs.Ground.{State, committed}
use Rattle.sdr_machine.specs.Legal.{is_fault}
use Rattle.sdr_machine.specs.Machine.{Machine, Made}
use Rattle.sdr_machine.specs.Roll.{daemon_of, number_of}
use Rattle.sdr_machine.specs.Transaction.{ClosesSo, Finishes, IsAnswered, Runs, is_closing, transaction_of}
use Rattle.sdr_machine.specs.declared.daemon.Daemon.{Daemon}
use Rattle.sdr_machine.specs.declared.daemon.Holding.{Holding}
use Rattle.sdr_machine.specs.Nesting.{closing}
use Rattle.sdr_machine.specs.Closing.{close_of}
use Rattle.sdr_base.specs.declared.refusal.Reason.{Reason}
use Rattle.law_runs.specs.Adding.{entry_added}
use Rattle.law_runs.proofs.CoreLemmas.{KeepsCore}
use Rattle.law_runs.proofs.CurrentLemmas.{served_far}
use Rattle.sdr_machine.proofs.RollLemmas.{found_number, same_number}
use Rattle.law_runs.proofs.WorkLemmas.{runs_last, said_more}
use Rattle.sdr_core.proofs.EndLemmas.{IsOuterEnd}

-- the entry is of the daemon of the event, under its number, and of this
pub record IsAdded (c : Core) (e : Made) (m' : Machine) (x : Entry) : Type 0 where
  pub daemon : Daemon
  pub found : daemon_of c.machine.roll e.daemon ≡ Some daemon
  pub what : What
  pub what_is : what_of (under c.machine.roll daemon m'.roll e.said.event) c.log.works e ≡ Some what
  pub is : x ≡ entry_of (number_of c.machine.roll daemon) e what

module _ (c : Core) (e : Made) (m' : Machine) where
  pub added_is : (x : Entry) → entry_added c e m' ≡ Some x → IsAdded c e m' x
  added_is x some = by (daemon_of c.machine.roll e.daemon) refl some
    where
      of : (d : Daemon) → daemon_of c.machine.roll e.daemon ≡ Some d → (o : Option What)
          → what_of (under c.machine.roll d m'.roll e.said.event) c.log.works e ≡ o
          → option_map (entry_of (number_of c.machine.roll d) e) o ≡ Some x → IsAdded c e m' x
      of d found None is some = absurd cc
      of d found (Some what) is some = record { daemon = d; found = found; what = what; what_is = is; is = cc }

      by : (o : Option Daemon) → daemon_of c.machine.roll e.daemon ≡ o
          → option_map_or (λ (d : Daemon). option_map (entry_of (number_of c.machine.roll d) e) (what_of (under c.machine.roll d m'.roll e.said.event) c.log.works e)) o None ≡ Some x
          → IsAdded c e m' x
      by None is some = absurd cc
      by (Some d) is some = of d is (what_of (under c.machine.roll d m'.roll e.said.event) c.log.works e) refl some

  -- what closes a transaction adds its entry
  pub closing_adds : (d : Daemon) (close : Close) → daemon_of c.machine.roll e.daemon ≡ Some d → closed_by e.said.answer ≡ Some close
      → entry_added c e m' ≡ Some (entry_of (number_of c.machine.roll d) e (whats.Work (all_said c.log.works e.daemon e.said) close))
  closing_adds d close found closed =
      ap (λ o. option_map_or (λ (d : Daemon). option_map (entry_of (number_of c.machine.roll d) e) (what_of (under c.machine.roll d m'.roll e.said.event) c.log.works e)) o None) found
      ∙ ap (λ o. option_map (entry_of (number_of c.machine.roll d) e)
      (option_map_or (λ (close : Close). Some (whats.Work (all_said c.log.works e.daemon e.said) close)) o (what_added (under c.machine.roll d m'.roll e.said.event) e.said.event e.said.answer))) closed

-- no look and no leave adds an entry in which the disk failed
else_whole : (u : Under) (event : Event) (answer : Answer) (what : What) → what_added u event answer ≡ Some what → is_fault what ≡ false
else_whole u (events.Look ticket) answers.Awarded what is = let s : whats.Awarded ticket ≡ what = cc in ap is_fault (sym s)
else_whole u (events.Look ticket) answers.Stalled what is = let s : whats.Stalled ticket ≡ what = cc in ap is_fault (sym s)
else_whole u (events.Look ticket) answers.Waits what is = by u.waited is
  where
    by : (b : Bool) → (if b then None else Some (whats.Waits ticket)) ≡ Some what → is_fault what ≡ false
    by true is = absurd cc
    by false is = let s : whats.Waits ticket ≡ what = cc in ap is_fault (sym s)
else_whole u (events.Leaves leave) answer what is = by u.left is
  where
    by : (b : Bool) → (if b then Some (whats.Leaves leave) else None) ≡ Some what → is_fault what ≡ false
    by true is = let s : whats.Leaves leave ≡ what = cc in ap is_fault (sym s)
    by false is = absurd cc
else_whole u (events.Look ticket) answer what is = absurd cc
else_whole u event answer what is = absurd cc

-- an entry in which the disk failed is of all that was said
pub fault_said : (c : Core) (e : Made) (m' : Machine) (x : Entry) (a : IsAdded c e m' x) → is_fault a.what ≡ true
    → a.what ≡ whats.Work (all_said c.log.works e.daemon e.said) closes.Faulted
fault_said c e m' x a fault = by (closed_by e.said.answer) a.what_is
  where
    u : Under
    u = under c.machine.roll a.daemon m'.roll e.said.event

    faulted : (close : Close) → is_fault (whats.Work (all_said c.log.works e.daemon e.said) close) ≡ true → close ≡ closes.Faulted
    faulted closes.Faulted is = refl
    faulted close is = absurd (true≢false (sym is))

    by : (o : Option Close)
        → option_map_or (λ (close : Close). Some (whats.Work (all_said c.log.works e.daemon e.said) close)) o (what_added u e.said.event e.said.answer) ≡ Some a.what
        → a.what ≡ whats.Work (all_said c.log.works e.daemon e.said) closes.Faulted
    by None is = absurd (true≢false (sym fault ∙ else_whole u e.said.event e.said.answer a.what is))
    by (Some close) is =
        let s : whats.Work (all_said c.log.works e.daemon e.said) close ≡ a.what = cc in
        sym s ∙ ap (whats.Work (all_said c.log.works e.daemon e.said)) (faulted close (ap is_fault s ∙ fault))

-- where the answer is a disk fault, the disk failed in the entry
pub answered_fault : (c : Core) (e : Made) (m' : Machine) (x : Entry) (a : IsAdded c e m' x) → e.said.answer ≡ answers.Reply replies.DiskFault → is_fault a.what ≡ true
answered_fault c e m' x a told =
    let u = under c.machine.roll a.daemon m'.roll e.said.event in
    let is : Some (whats.Work (all_said c.log.works e.daemon e.said) closes.Faulted) ≡ Some a.what =
    sym (ap (λ o. option_map_or (λ (close : Close). Some (whats.Work (all_said c.log.works e.daemon e.said) close)) o (what_added u e.said.event e.said.answer)) (ap closed_by told)) ∙ a.what_is in
    let s : whats.Work (all_said c.log.works e.daemon e.said) closes.Faulted ≡ a.what = cc in
    ap is_fault (sym s)

-- the last of what was said is told as an end
end_told-last : (said : List Said) (last : Said) → end_told (said ++ last ∷ []) ≡ said ++ record last { answer = answers.Closed closes.Ended } ∷ []
end_told-last [] last = refl
end_told-last (first ∷ []) last = refl
end_told-last (first ∷ second ∷ more) last = ap (λ rest. first ∷ rest) (end_told-last (second ∷ more) last)

-- A transaction whose outermost end met a disk fault might stand as one that ended.
pub ends_in_vain : (told : Option Told) (daemons : List _) (first : State) (c : Core) (e : Made) → KeepsCore told daemons first c → c.machine.roll.failed ≡ None
    → (end : IsOuterEnd c.machine.roll e.daemon e.said.event) → IsAnswered e.said (answers.Reply replies.DiskFault)
    → Runs told c.machine.before (number_of c.machine.roll end.daemon) (end_told (all_said c.log.works e.daemon e.said)) closes.Ended (committed c.machine.now)
ends_in_vain told daemons first c e keeps sound end given =
    let h = end.holding in
    let works = keeps.works sound in
    let id : end.daemon.id ≡ e.daemon = same_number end.daemon.id e.daemon (found_number c.machine.roll.daemons e.daemon end.daemon end.found) in
    let far =
    served_far told daemons c.log.journal c.machine c.log.works keeps.roll e.daemon end.daemon h works.current
    (record { found = end.found; holds = end.holds }) end.inside end.served in
    let last : Said = record e.said { answer = answers.Closed closes.Ended } in
    let all : all_said c.log.works e.daemon e.said ≡ said_by c.log.works e.daemon ++ e.said ∷ [] = said_more c.log.works e.daemon e.said works.apart in
    let is_end : is_closing (transaction_of h c.machine.now) e.said.event ≡ true = ap (is_closing (transaction_of h c.machine.now)) end.event_is ∙ end.outer in
    let how : closes.Ended ≡ closing h.nesting e.said.event =
    sym (ap (closing h.nesting) end.event_is ∙ ap (λ o. option_map_or (λ (reason : Reason). closes.Cancelled reason) o (close_of events.End h.nesting.modified)) end.undoomed) in
    let closed : ClosesSo c.machine.before (transaction_of h c.machine.now) last closes.Ended
    (committed c.machine.now) =
    record { how = how; told = record { answer = refl; moves = given.moves; bytes = given.bytes }; left = refl } in
    subst (λ n. Runs told c.machine.before n (end_told (all_said c.log.works e.daemon e.said)) closes.Ended (committed c.machine.now))
    (sym (ap (λ o. option_map_or (λ (k : Holding). k.number) o (c.machine.roll.drawn + 1)) end.holds))
    (subst (λ said. Runs told c.machine.before h.number said closes.Ended (committed c.machine.now))
    (sym (ap end_told all ∙ end_told-last (said_by c.log.works e.daemon) e.said))
    (runs_last told c.machine.before h.number (said_by c.log.works e.daemon) (transaction_of h c.machine.now) last closes.Ended (committed c.machine.now) far.0
    (Finishes.closed is_end closed)))
