-- A transaction goes on or closes: what a core keeps after that.
use Rattle.std.proofs.Common.{◌≡◌, ◌∙◌, ◌==◌, ◌+◌, ℕ, List, [], ◌∷◌, ◌++◌, true, false, MatchBool, Option, None, Some, refl, sym, ap, subst, inl}
use Rattle.std.specs.Option.{option_map_or}
use Rattle.std.specs.Prelude.{if◌then◌else◌}
use Rattle.sdr_base.specs.Media.{Told}
use Rattle.sdr_model.specs.declared.answer.Answer.{Answer}
use Rattle.sdr_model.specs.declared.answer.Answer.TheVariants as answers
use Rattle.sdr_model.specs.declared.answer.Close.{Close}
use Rattle.sdr_model.specs.declared.answer.Close.TheVariants as closes
use Rattle.sdr_model.specs.declared.answer.Reply.TheVariants as replies
use Rattle.sdr_model.specs.declared.event.Event.{Event}
use Rattle.sdr_model.specs.declared.event.Event.TheVariants as events
use Rattle.sdr_model.specs.declared.journal.What.TheVariants as whats
use Rattle.sdr_machine.specs.Agreeing.{AgreesWith}
use Rattle.sdr_machine.specs.Core.{Core, Under, all_said, entry_of, said_by, under, what_added, with_said, without_work}
use Rattle.sdr_machine.specs.Ground.{HasHeap, State}
use Rattle.sdr_machine.specs.Legal.{MayFollow, is_fault}
use Rattle.sdr_machine.specs.Machine.{Machine, Made, roll_closed, with_transaction}
use Rattle.sdr_machine.specs.Nesting.{closing}
use Rattle.sdr_machine.specs.Roll.{when_done, at_nesting, daemon_of, number_of, put_daemon, served_number, with_fault}
use Rattle.sdr_machine.specs.Transaction.{ClosesSo, Finishes, IsAnswered, Runs, OpenTransaction, Transacts, asks_disk, is_closing, transaction_of}
use Rattle.sdr_machine.specs.declared.daemon.Daemon.{Daemon}
use Rattle.sdr_machine.specs.declared.daemon.Holding.{Holding}
use Rattle.law_runs.proofs.CaseLemmas.{IsIdle, closing_whole, left_same, mine, said_nothing}
use Rattle.law_runs.proofs.CoreLemmas.{IsNext, KeepsWorks, StepKeeps, adds_none, adds_some, found_there, next_closed, next_inside, number_is, what_closed, what_unclosed}
use Rattle.law_runs.proofs.CurrentLemmas.{Current, OthersUntouched, at_rest, others_put, rests_put, served_far}
use Rattle.sdr_machine.proofs.RollLemmas.{found_put, least_put, number_held}
use Rattle.law_runs.proofs.TransactLemmas.{IsWithin, StaysOpen, asking_inside, closing_inside, transacts_open, transacts_within}
use Rattle.law_runs.proofs.TurnLemmas.{IsTurn, entry_roll, nested_roll, turn_mine}
use Rattle.law_runs.proofs.WorkLemmas.{SoFar, apart_said, apart_without, runs_last, said_more, said_none, said_other, said_without, so_far_more}

-- an event that goes on in a transaction adds no entry
within_adds_none : (u : Under) (event : Event) (answer : Answer) → IsWithin event answer → u.left ≡ false → what_added u event answer ≡ None
within_adds_none u (events.Leaves leave) answer within stays = ap (λ b. if b then Some (whats.Leaves leave) else None) stays
within_adds_none u (events.Look ticket) answer within stays = ap (what_added u (events.Look ticket)) (within.unlooked ticket refl).1
within_adds_none u event answer within stays = refl

-- the machine in which the disk has failed at this moment, and the daemon is done with its number
abbrev pub with_failed : Machine → Daemon → ℕ → ℕ → Machine
with_failed m d drawn moment = record {
  roll = with_fault (record { daemons = put_daemon m.roll.daemons (when_done d); drawn = drawn; failed = m.roll.failed }) moment;
  before = m.before;
  now = m.before;
}

module _ {told : Option Told} {daemons : List ℕ} {first : State} {c : Core} {e : Made} (p : IsNext told daemons first c e) {d : Daemon} (found : daemon_of c.machine.roll e.daemon ≡ Some d) where
  -- the open transactions where the daemon's has closed
  closed_works : KeepsWorks told c.machine c.log.works → OthersUntouched told c.machine.roll c.log.works d.id → (left : State)
      → KeepsWorks told (record { roll = roll_closed c.machine.roll d; before = left; now = left }) (without_work c.log.works d.id)
  closed_works k others left = record {
    apart = apart_without c.log.works d.id k.apart;
    current =
        rests_put told c.machine.roll c.log.works (without_work c.log.works d.id) d (when_done d) c.machine.roll.drawn c.machine.roll.failed left left refl
        (found_there p found) others (said_none c.log.works d.id) (λ other apart. said_without c.log.works d.id other apart);
  }

  -- a look meets a disk fault
  pub look_faults : (ticket drawn : ℕ) → (sound : c.machine.roll.failed ≡ None) → d.left ≡ false → IsTurn c.log.journal c.machine.roll d drawn → IsIdle told c.machine c.log.works d
      → HasHeap c.machine.before.base → e.said.event ≡ events.Look ticket → IsAnswered e.said (answers.Reply replies.DiskFault)
      → StepKeeps told daemons first c e (with_failed c.machine d drawn e.done)
  look_faults ticket drawn sound stays turn idle heap is given =
      adds_some p found (with_failed c.machine d drawn e.done) (without_work c.log.works d.id) (whats.Work (all_said c.log.works d.id e.said) closes.Faulted)
      (next_closed p found is given.answer closes.Faulted refl refl)
      (what_closed p found is given.answer (with_failed c.machine d drawn e.done) closes.Faulted refl)
      (entry_roll p.keeps.roll (found_there p found) d.left None (Some e.done) (entry_of (number_of c.machine.roll d) e (whats.Work (all_said c.log.works d.id e.said) closes.Faulted)) turn refl (number_is p found) (record { left = stays; waits = refl }))
      (subst (λ all. Runs told c.machine.before (number_of c.machine.roll d) all closes.Faulted c.machine.before) (sym alone)
      (record { ticket = ticket; event = is; faults = record { heap = heap; how = refl; told = given; left = refl } }))
      turn.higher (inl sound) (λ none. absurd cc) given.answer (λ none. absurd cc)
    where
      alone : all_said c.log.works d.id e.said ≡ e.said ∷ []
      alone =
          let k = p.keeps.works sound in
          said_more c.log.works d.id e.said k.apart
          ∙ ap (λ xs. xs ++ e.said ∷ [])
          (said_nothing told (said_by c.log.works d.id) d.holds ((at_rest told c.machine c.log.works k.current idle.nobody).1 d.id d (found_there p found)) idle.outside)

  module _ {h : Holding} (holds : d.holds ≡ Some h) (inside : (h.nesting.depth == 0) ≡ false) (served : (served_number c.machine.roll == h.number) ≡ true) (sound : c.machine.roll.failed ≡ None) where
    -- what was said so far, and the others
    far_and_others : SoFar told c.machine.before h.number (said_by c.log.works d.id) (transaction_of h c.machine.now) × OthersUntouched told c.machine.roll c.log.works d.id
    far_and_others =
        served_far told daemons c.log.journal c.machine c.log.works p.keeps.roll d.id d h (p.keeps.works sound).current (mine p found holds) inside served

    -- the transaction goes on
    pub goes_on : (t : OpenTransaction) → is_closing (transaction_of h c.machine.now) e.said.event ≡ false → Transacts (transaction_of h c.machine.now) e.said.event e.said t
        → AgreesWith told c.machine.now.world e.said.event e.said.answer e.said.bytes → StepKeeps told daemons first c e (with_transaction c.machine d h t)
    goes_on t unclosed transacts media =
        adds_none p found (with_transaction c.machine d h t) (with_said c.log.works d.id e.said) (next_inside p found refl refl within.inside within.open_still)
        (what_unclosed p found refl refl (with_transaction c.machine d h t) within.open_still
        ∙ within_adds_none (under c.machine.roll d (with_transaction c.machine d h t).roll e.said.event) e.said.event e.said.answer within
        (left_same p found (with_transaction c.machine d h t) (at_nesting d h t.nesting) there refl))
        (nested_roll p.keeps.roll (found_there p found) t.nesting holds) refl refl
        (λ none. record {
          apart = apart_said c.log.works d.id e.said (p.keeps.works sound).apart;
          current =
              Current.working d.id (at_nesting d h t.nesting) (record h { nesting = t.nesting })
              (record { held = record { found = there; holds = refl }; inside = still.depth; served = least; far = far })
              (others_put told c.machine.roll c.log.works (with_said c.log.works d.id e.said) (at_nesting d h t.nesting) c.machine.roll.drawn c.machine.roll.failed far_and_others.1
              (λ other apart. said_other c.log.works d.id other e.said apart));
        })
      where
        within : IsWithin e.said.event e.said.answer
        within = transacts_within (transaction_of h c.machine.now) e.said.event e.said t transacts

        still : StaysOpen (transaction_of h c.machine.now) t
        still = transacts_open (transaction_of h c.machine.now) e.said.event e.said t transacts inside unclosed

        there : daemon_of (with_transaction c.machine d h t).roll d.id ≡ Some (at_nesting d h t.nesting)
        there = found_put c.machine.roll.daemons (at_nesting d h t.nesting) d (found_there p found)

        least : (served_number (with_transaction c.machine d h t).roll == h.number) ≡ true
        least =
            ap (λ n. n == h.number) (least_put c.machine.roll.daemons (at_nesting d h t.nesting) d (found_there p found) (ap number_held (sym holds))) ∙ served

        is_that : t ≡ transaction_of (record h { nesting = t.nesting }) t.state
        is_that = λ i. record { number = still.number i; nesting = t.nesting; state = t.state }

        far : SoFar told c.machine.before h.number (said_by (with_said c.log.works d.id e.said) d.id) (transaction_of (record h { nesting = t.nesting }) t.state)
        far =
            subst (SoFar told c.machine.before h.number (said_by (with_said c.log.works d.id e.said) d.id)) is_that
            (subst (λ all. SoFar told c.machine.before h.number all t) (sym (said_more c.log.works d.id e.said (p.keeps.works sound).apart))
            (so_far_more told c.machine.before h.number (said_by c.log.works d.id) (transaction_of h c.machine.now) e.said t far_and_others.0 unclosed transacts media))

    -- the entry of a transaction that finishes may stand
    finished : (close : Close) (left : State) → Finishes c.machine.before (transaction_of h c.machine.now) e.said close left
        → MayFollow told daemons c.log.journal c.machine.before (number_of c.machine.roll d) e.daemon (whats.Work (all_said c.log.works d.id e.said) close) left
    finished close left last =
        subst (λ n. Runs told c.machine.before n (all_said c.log.works d.id e.said) close left)
        (sym (ap (λ o. option_map_or (λ (k : Holding). k.number) o (c.machine.roll.drawn + 1)) holds))
        (subst (λ all. Runs told c.machine.before h.number all close left) (sym (said_more c.log.works d.id e.said (p.keeps.works sound).apart))
        (runs_last told c.machine.before h.number (said_by c.log.works d.id) (transaction_of h c.machine.now) e.said close left far_and_others.0 last))

    -- the transaction closes
    pub closes_so : (close : Close) (left : State) → d.left ≡ false → is_closing (transaction_of h c.machine.now) e.said.event ≡ true
        → ClosesSo c.machine.before (transaction_of h c.machine.now) e.said close left
        → StepKeeps told daemons first c e (record { roll = roll_closed c.machine.roll d; before = left; now = left })
    closes_so close left stays closing_one so =
        adds_some p found (record { roll = roll_closed c.machine.roll d; before = left; now = left }) (without_work c.log.works d.id)
        (whats.Work (all_said c.log.works d.id e.said) close)
        (next_closed p found refl so.told.answer close (closing_inside (transaction_of h c.machine.now) e.said.event close closing_one) refl)
        (what_closed p found refl so.told.answer (record { roll = roll_closed c.machine.roll d; before = left; now = left }) close refl)
        (entry_roll p.keeps.roll (found_there p found) d.left None c.machine.roll.failed
        (entry_of (number_of c.machine.roll d) e (whats.Work (all_said c.log.works d.id e.said) close)) turn refl (number_is p found) (record { left = stays; waits = refl }))
        (finished close left (Finishes.closed closing_one so)) turn.higher (inl sound)
        (λ none. (sound, ap (λ k. is_fault (whats.Work (all_said c.log.works d.id e.said) k)) so.how ∙ whole))
        (subst (λ b. MatchBool b (e.said.answer ≡ answers.Reply replies.DiskFault) (c.machine.roll.failed ≡ c.machine.roll.failed))
        (sym (ap (λ k. is_fault (whats.Work (all_said c.log.works d.id e.said) k)) so.how ∙ whole)) refl)
        (λ none. closed_works (p.keeps.works sound) far_and_others.1 left)
      where
        turn : IsTurn c.log.journal c.machine.roll d c.machine.roll.drawn
        turn = turn_mine p.keeps.roll (found_there p found) holds served

        whole : is_fault (whats.Work (all_said c.log.works d.id e.said) (closing h.nesting e.said.event)) ≡ false
        whole = closing_whole h.nesting e.said.event (all_said c.log.works d.id e.said)

    -- the disk fails in the transaction
    pub faults_so : d.left ≡ false → asks_disk (transaction_of h c.machine.now) e.said.event ≡ true → HasHeap c.machine.before.base
        → IsAnswered e.said (answers.Reply replies.DiskFault)
        → StepKeeps told daemons first c e (record { roll = with_fault (roll_closed c.machine.roll d) e.done; before = c.machine.before; now = c.machine.before })
    faults_so stays asks heap given =
        adds_some p found (record { roll = with_fault (roll_closed c.machine.roll d) e.done; before = c.machine.before; now = c.machine.before }) (without_work c.log.works d.id)
        (whats.Work (all_said c.log.works d.id e.said) closes.Faulted)
        (next_closed p found refl given.answer closes.Faulted (asking_inside (transaction_of h c.machine.now) e.said.event asks) refl)
        (what_closed p found refl given.answer (record { roll = with_fault (roll_closed c.machine.roll d) e.done; before = c.machine.before; now = c.machine.before }) closes.Faulted refl)
        (entry_roll p.keeps.roll (found_there p found) d.left None (Some e.done)
        (entry_of (number_of c.machine.roll d) e (whats.Work (all_said c.log.works d.id e.said) closes.Faulted)) turn refl (number_is p found) (record { left = stays; waits = refl }))
        (finished closes.Faulted c.machine.before (Finishes.faulted asks (record { heap = heap; how = refl; told = given; left = refl }))) turn.higher (inl sound)
        (λ none. absurd cc) given.answer (λ none. absurd cc)
      where
        turn : IsTurn c.log.journal c.machine.roll d c.machine.roll.drawn
        turn = turn_mine p.keeps.roll (found_there p found) holds served
