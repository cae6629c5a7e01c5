-- The kinds of events: what a core keeps after each.
use Rattle.std.proofs.Common.{◌≡◌, ◌⊎◌, ◌∙◌, ◌==◌, ◌+◌, ◌&&◌, ℕ, List, [], ◌∷◌, ◌++◌, Bool, true, false, not, Option, None, Some, MatchBool, arith, refl, sym, ap, subst}
use Rattle.std.specs.Option.{option_map_or}
use Rattle.std.specs.Prelude.{if◌then◌else◌}
use Rattle.sdr_base.specs.Media.{Told}
use Rattle.sdr_base.specs.declared.refusal.Reason.{Reason}
use Rattle.sdr_base.specs.declared.refusal.Refusal.{Refusal}
use Rattle.sdr_base.specs.declared.refusal.Refusal.TheVariants as refusals
use Rattle.sdr_model.specs.declared.answer.Answer.{Answer}
use Rattle.sdr_model.specs.declared.answer.Answer.TheVariants as answers
use Rattle.sdr_model.specs.declared.answer.Close.TheVariants as closes
use Rattle.sdr_model.specs.declared.answer.Reply.TheVariants as replies
use Rattle.sdr_model.specs.declared.event.Event.{Event}
use Rattle.sdr_model.specs.declared.event.Event.TheVariants as events
use Rattle.sdr_model.specs.declared.journal.Said.{Said}
use Rattle.sdr_model.specs.declared.journal.What.{What}
use Rattle.sdr_model.specs.declared.journal.What.TheVariants as whats
use Rattle.sdr_machine.specs.Core.{Core, Under, Work, closed_by, entry_of, has_left, said_by, under, what_added, with_said}
use Rattle.sdr_machine.specs.Ground.{State}
use Rattle.sdr_machine.specs.Legal.{MayFollow, is_fault, is_leave}
use Rattle.sdr_machine.specs.Machine.{Machine, Made, with_roll}
use Rattle.sdr_machine.specs.Nesting.{closing, nested}
use Rattle.sdr_machine.specs.Closing.{close_of}
use Rattle.sdr_machine.specs.Roll.{Roll, at_nesting, daemon_of, number_of, put_daemon, served_number, with_daemon, with_number}
use Rattle.sdr_machine.specs.Transaction.{IsAnswered, IsOpening, refused, transaction_of}
use Rattle.sdr_machine.specs.declared.daemon.Daemon.{Daemon}
use Rattle.sdr_machine.specs.declared.daemon.Holding.{Holding}
use Rattle.sdr_machine.specs.declared.nesting.Nesting.{Nesting}
use Rattle.law_runs.specs.LastEntries.{AgreesWithLast}
use Rattle.law_runs.proofs.CoreLemmas.{IsNext, KeepsWorks, StepKeeps, adds_none, adds_some, and_not, found_there, next_inside, next_outside, number_is, what_unclosed}
use Rattle.law_runs.proofs.CurrentLemmas.{AllUntouched, Current, IsWorking, at_rest, current_drawn, current_looked, none_works, own_untouched, rests_put}
use Rattle.sdr_machine.specs.Served.{HoldsNumber}
use Rattle.law_runs.proofs.KeepLemmas.{none_held}
use Rattle.sdr_machine.proofs.RollLemmas.{contrary, found_put, least_stays}
use Rattle.law_runs.proofs.TransactLemmas.{passes}
use Rattle.law_runs.proofs.TurnLemmas.{IsTurn, done_roll, drawn_roll, entry_roll, nested_roll}
use Rattle.law_runs.proofs.WorkLemmas.{SoFar, Untouched, apart_said, said_more, said_other}

-- a refusal outside a transaction
pub not_begun_passes : (event : Event) → passes event (refused refusals.NotBegun) ≡ true
not_begun_passes events.Request = refl
not_begun_passes event = refl

pub suspended_passes : (event : Event) (serving mine : ℕ) → passes event (refused (refusals.Suspended serving mine)) ≡ true
suspended_passes events.Request serving mine = refl
suspended_passes event serving mine = refl

pub refused_adds_none : (u : Under) (event : Event) (refusal : Refusal) → u.left ≡ false → what_added u event (refused refusal) ≡ None
refused_adds_none u (events.Leaves leave) refusal stays = ap (λ b. if b then Some (whats.Leaves leave) else None) stays
refused_adds_none u (events.Look ticket) refusal stays = refl
refused_adds_none u event refusal stays = refl

-- what a daemon has said that is in no transaction
pub said_nothing : (told : Option Told) (said : List Said) (o : Option Holding) → Untouched told said o → ((h : Holding) → o ≡ Some h → (h.nesting.depth == 0) ≡ true) → said ≡ []
said_nothing told said None is outside = is
said_nothing told said (Some h) is outside = by (h.nesting.depth == 0) (outside h refl) is
  where
    by : (b : Bool) → b ≡ true → MatchBool b (said ≡ []) ((s : State) → SoFar told s h.number said (transaction_of h s)) → said ≡ []
    by true e is = is
    by false e is = contrary e refl

-- no close is a fault
pub closing_whole : (n : Nesting) (event : Event) (said : List Said) → is_fault (whats.Work said (closing n event)) ≡ false
closing_whole n event said = by n.doom
  where
    exited : (b : Bool) → is_fault (whats.Work said (if b then closes.Cancelled Reason.Modified else closes.Exited)) ≡ false
    exited true = refl
    exited false = refl

    of : (event : Event) → is_fault (whats.Work said (close_of event n.modified)) ≡ false
    of events.Cancel = refl
    of events.Exit = exited n.modified
    of (events.Leaves leave) = refl
    of event = refl

    by : (o : Option Reason) → is_fault (whats.Work said (option_map_or (λ reason. closes.Cancelled reason) o (close_of event n.modified))) ≡ false
    by None = of event
    by (Some reason) = refl

-- the daemon that has drawn the next number, at a depth
abbrev pub drawn_by : Roll → Daemon → ℕ → Daemon
drawn_by r d depth = record d { holds = Some (record { number = r.drawn + 1; nesting = nested depth }) }

-- the daemon that is done with its number
abbrev pub done_with : Daemon → Bool → Option ℕ → Daemon
done_with d left waits = record d { left = left; waits = waits; holds = None }

-- the machine in which it is, where so many are drawn
abbrev pub with_done : Machine → Daemon → Bool → Option ℕ → ℕ → Machine
with_done m d left waits drawn = with_roll m (record { daemons = put_daemon m.roll.daemons (done_with d left waits); drawn = drawn; failed = m.roll.failed })

-- nobody works, and the daemon is in no transaction
pub record IsIdle (told : Option Told) (m : Machine) (works : List Work) (d : Daemon) : Type 0 where
  pub nobody : (id : ℕ) (y : Daemon) (h : Holding) → IsWorking told m works id y h → ⊥
  pub outside : (h : Holding) → d.holds ≡ Some h → (h.nesting.depth == 0) ≡ true

module _ {told : Option Told} {daemons : List ℕ} {first : State} {c : Core} {e : Made} (p : IsNext told daemons first c e) {d : Daemon} (found : daemon_of c.machine.roll e.daemon ≡ Some d) where
  -- a daemon that stays as it was hasn't left by the event
  pub left_same : (m' : Machine) (d' : Daemon) → daemon_of m'.roll d.id ≡ Some d' → d'.left ≡ d.left → (has_left m'.roll d.id && not d.left) ≡ false
  left_same m' d' there same =
      ap (λ o. option_map_or (λ (x : Daemon). x.left) o false && not d.left) there ∙ ap (λ b. b && not d.left) same ∙ and_not d.left

  -- the machine stays
  pub unchanged : {event : Event} {answer : Answer} → e.said.event ≡ event → e.said.answer ≡ answer → passes event answer ≡ true → closed_by answer ≡ None
      → ((u : Under) → u.left ≡ false → what_added u event answer ≡ None) → StepKeeps told daemons first c e c.machine
  unchanged {event = event} {answer = answer} is told_so outside unclosed adds =
      adds_none p found c.machine c.log.works (next_outside p found is told_so outside)
      (what_unclosed p found is told_so c.machine unclosed
      ∙ adds (under c.machine.roll d c.machine.roll event) (left_same c.machine d (found_there p found) refl))
      p.keeps.roll refl refl p.keeps.works

  pub not_begun : e.said.answer ≡ refused refusals.NotBegun → StepKeeps told daemons first c e c.machine
  not_begun told_so = unchanged refl told_so (not_begun_passes e.said.event) refl (λ u stays. refused_adds_none u e.said.event refusals.NotBegun stays)

  pub suspended : (serving mine : ℕ) → e.said.answer ≡ refused (refusals.Suspended serving mine) → StepKeeps told daemons first c e c.machine
  suspended serving mine told_so =
      unchanged refl told_so (suspended_passes e.said.event serving mine) refl (λ u stays. refused_adds_none u e.said.event (refusals.Suspended serving mine) stays)

  pub requested : (number : ℕ) → e.said.event ≡ events.Request → e.said.answer ≡ answers.Lock number → StepKeeps told daemons first c e c.machine
  requested number is told_so = unchanged is told_so refl refl (λ u stays. refl)

  -- the open transactions where the daemon has drawn a number
  drawn_current : (works' : List Work) (depth : ℕ) → Current told c.machine c.log.works → d.holds ≡ None → Untouched told (said_by works' d.id) (drawn_by c.machine.roll d depth).holds
      → ((other : ℕ) → (d.id == other) ≡ false → said_by works' other ≡ said_by c.log.works other)
      → Current told (with_roll c.machine (with_number c.machine.roll d depth)) works'
  drawn_current works' depth current none own same =
      current_drawn told daemons c.log.journal c.machine c.log.works p.keeps.roll works' d
      (drawn_by c.machine.roll d depth) (c.machine.roll.drawn + 1) c.machine.roll.failed current
      (found_there p found) none
      (λ some. least_stays c.machine.roll.daemons c.machine.roll.drawn (drawn_by c.machine.roll d depth) d
      (record { number = c.machine.roll.drawn + 1; nesting = nested depth }) p.keeps.roll.held.within (found_there p found) none refl (omega arith) some)
      own same

  -- a daemon without a number has said nothing
  own_said : Current told c.machine c.log.works → d.holds ≡ None → said_by c.log.works d.id ≡ []
  own_said current none =
      said_nothing told (said_by c.log.works d.id) d.holds
      (own_untouched told c.machine c.log.works d.id d current (found_there p found) (λ h is inside. absurd cc)) (λ h is. absurd cc)

  -- it draws a number, and its event stands in no transaction
  pub draws : {event : Event} {answer : Answer} → e.said.event ≡ event → e.said.answer ≡ answer → passes event answer ≡ true → closed_by answer ≡ None
      → ((u : Under) → u.left ≡ false → what_added u event answer ≡ None) → d.holds ≡ None
      → StepKeeps told daemons first c e (with_roll c.machine (with_number c.machine.roll d 0))
  draws {event = event} {answer = answer} is told_so outside unclosed adds none =
      adds_none p found (with_roll c.machine (with_number c.machine.roll d 0)) c.log.works (next_outside p found is told_so outside)
      (what_unclosed p found is told_so (with_roll c.machine (with_number c.machine.roll d 0)) unclosed
      ∙ adds (under c.machine.roll d (with_number c.machine.roll d 0) event)
      (left_same (with_roll c.machine (with_number c.machine.roll d 0)) (drawn_by c.machine.roll d 0)
      (found_put c.machine.roll.daemons (drawn_by c.machine.roll d 0) d (found_there p found)) refl))
      (drawn_roll p.keeps.roll (found_there p found) 0 none) refl refl
      (λ sound. let k = p.keeps.works sound in record { apart = k.apart; current = drawn_current c.log.works 0 k.current none (own_said k.current none) (λ other apart. refl) })

  -- a transaction that has just begun
  begin_far : KeepsWorks told c.machine c.log.works → (number : ℕ) → said_by c.log.works d.id ≡ [] → IsOpening number e.said
      → (s : State) → SoFar told s number (said_by (with_said c.log.works d.id e.said) d.id) (record { number = number; nesting = nested 1; state = s })
  begin_far k number nothing opening s = record {
    begin = e.said;
    more = [];
    all = said_more c.log.works d.id e.said k.apart ∙ ap (λ xs. xs ++ e.said ∷ []) nothing;
    opening = opening;
    goes = refl;
  }

  pub begins : e.said.event ≡ events.Begin → IsAnswered e.said (answers.Lock (c.machine.roll.drawn + 1)) → d.holds ≡ None
      → StepKeeps told daemons first c e (with_roll c.machine (with_number c.machine.roll d 1))
  begins is given none =
      adds_none p found (with_roll c.machine (with_number c.machine.roll d 1)) (with_said c.log.works d.id e.said) (next_inside p found is given.answer refl refl)
      (what_unclosed p found is given.answer (with_roll c.machine (with_number c.machine.roll d 1)) refl)
      (drawn_roll p.keeps.roll (found_there p found) 1 none) refl refl
      (λ sound. let k = p.keeps.works sound in record {
        apart = apart_said c.log.works d.id e.said k.apart;
        current =
            drawn_current (with_said c.log.works d.id e.said) 1 k.current none
            (begin_far k (c.machine.roll.drawn + 1) (own_said k.current none) (record { event = is; answer = given }))
            (λ other apart. said_other c.log.works d.id other e.said apart);
      })

  -- the open transactions where the daemon is done with its number
  done_works : (left : Bool) (waits : Option ℕ) (drawn : ℕ) → IsIdle told c.machine c.log.works d → KeepsWorks told c.machine c.log.works
      → KeepsWorks told (with_done c.machine d left waits drawn) c.log.works
  done_works left waits drawn idle k =
      let rest : (c.machine.now ≡ c.machine.before) × AllUntouched told c.machine.roll c.log.works = at_rest told c.machine c.log.works k.current idle.nobody in
      record {
        apart = k.apart;
        current =
            rests_put told c.machine.roll c.log.works c.log.works d (done_with d left waits) drawn c.machine.roll.failed c.machine.before c.machine.now rest.0
            (found_there p found) (λ other y apart there. rest.1 other y there)
            (said_nothing told (said_by c.log.works d.id) d.holds (rest.1 d.id d (found_there p found)) idle.outside) (λ other apart. refl);
      }

  -- where no number is served, nobody works
  pub idle_fresh : d.holds ≡ None → (served_number c.machine.roll == 0) ≡ true → IsIdle told c.machine c.log.works d
  idle_fresh none free = record {
    nobody = λ id y h is. none_held daemons c.log.journal c.machine.roll id y h p.keeps.roll free is.held;
    outside = λ h is. absurd cc;
  }

  -- it is done with its number, and no entry is added
  pub done_none : {event : Event} {answer : Answer} {drawn : ℕ} (waits : Option ℕ) → e.said.event ≡ event → e.said.answer ≡ answer → passes event answer ≡ true → closed_by answer ≡ None
      → ((u : Under) → u.left ≡ false → u.waited ≡ (under c.machine.roll d c.machine.roll event).waited → what_added u event answer ≡ None)
      → IsTurn c.log.journal c.machine.roll d drawn → (c.machine.roll.failed ≡ None → IsIdle told c.machine c.log.works d) → waits ≡ d.waits
      → StepKeeps told daemons first c e (with_done c.machine d d.left waits drawn)
  done_none {event = event} {answer = answer} {drawn = drawn} waits is told_so outside unclosed adds turn idle same =
      adds_none p found (with_done c.machine d d.left waits drawn) c.log.works (next_outside p found is told_so outside)
      (what_unclosed p found is told_so (with_done c.machine d d.left waits drawn) unclosed
      ∙ adds (under c.machine.roll d (with_done c.machine d d.left waits drawn).roll event)
      (left_same (with_done c.machine d d.left waits drawn) (done_with d d.left waits) (found_put c.machine.roll.daemons (done_with d d.left waits) d (found_there p found)) refl) refl)
      (done_roll p.keeps.roll (found_there p found) d.left waits c.machine.roll.failed turn
      (let a = p.keeps.roll.agree d.id d (found_there p found) in record { left = a.left; waits = same ∙ a.waits }))
      refl refl
      (λ sound. done_works d.left waits drawn (idle sound) (p.keeps.works sound))

  -- it is done with its number, and an entry is added that leaves the state
  pub done_some : {event : Event} {answer : Answer} {drawn : ℕ} (left : Bool) (waits : Option ℕ) (what : What) → e.said.event ≡ event → e.said.answer ≡ answer → passes event answer ≡ true
      → closed_by answer ≡ None
      → what_added (under c.machine.roll d (with_done c.machine d left waits drawn).roll event) event answer ≡ Some what
      → IsTurn c.log.journal c.machine.roll d drawn → (c.machine.roll.failed ≡ None → IsIdle told c.machine c.log.works d)
      → AgreesWithLast (Some (entry_of (number_of c.machine.roll d) e what)) (done_with d left waits)
      → MayFollow told daemons c.log.journal c.machine.before (number_of c.machine.roll d) e.daemon what
      c.machine.before
      → (c.machine.roll.failed ≡ None) ⊎ (is_leave what ≡ true) → is_fault what ≡ false
      → StepKeeps told daemons first c e (with_done c.machine d left waits drawn)
  done_some {event = event} {answer = answer} {drawn = drawn} left waits what is told_so outside unclosed adds turn idle agree stands leaves whole =
      adds_some p found (with_done c.machine d left waits drawn) c.log.works what
      (next_outside p found is told_so outside)
      (what_unclosed p found is told_so (with_done c.machine d left waits drawn) unclosed ∙ adds)
      (entry_roll p.keeps.roll (found_there p found) left waits c.machine.roll.failed (entry_of (number_of c.machine.roll d) e what) turn refl (number_is p found) agree)
      stands turn.higher leaves (λ none. (none, whole))
      (subst (λ b. MatchBool b (e.said.answer ≡ answers.Reply replies.DiskFault) (c.machine.roll.failed ≡ c.machine.roll.failed)) (sym whole) refl)
      (λ sound. done_works left waits drawn (idle sound) (p.keeps.works sound))

  module _ {h : Holding} (holds : d.holds ≡ Some h) where
    pub mine : HoldsNumber c.machine.roll d.id d h
    mine = record { found = found_there p found; holds = holds }

    -- a look in its transaction is refused
    pub looked_inside : (ticket : ℕ) → (h.nesting.depth == 0) ≡ false → e.said.event ≡ events.Look ticket → IsAnswered e.said (refused (refusals.InTransaction h.number))
        → StepKeeps told daemons first c e c.machine
    looked_inside ticket inside is given =
        adds_none p found c.machine (with_said c.log.works d.id e.said) (next_inside p found is given.answer refl refl)
        (what_unclosed p found is given.answer c.machine refl) p.keeps.roll refl refl
        (λ sound. let k = p.keeps.works sound in record {
          apart = apart_said c.log.works d.id e.said k.apart;
          current = current_looked told daemons c.log.journal c.machine c.log.works p.keeps.roll d.id d h e.said ticket k.apart k.current mine inside is given;
        })

    module _ (served : (served_number c.machine.roll == h.number) ≡ true) where
      pub idle_mine : (h.nesting.depth == 0) ≡ true → IsIdle told c.machine c.log.works d
      idle_mine outside = record {
        nobody = none_works told daemons c.log.journal c.machine c.log.works p.keeps.roll d.id d h mine served outside;
        outside = λ k is. let s : Some h ≡ Some k = sym holds ∙ is in let t : h ≡ k = cc in subst (λ (z : Holding). (z.nesting.depth == 0) ≡ true) t outside;
      }

      -- it begins a transaction
      pub opens : (h.nesting.depth == 0) ≡ true → e.said.event ≡ events.Begin → IsAnswered e.said (answers.Lock h.number)
          → StepKeeps told daemons first c e (with_roll c.machine (with_daemon c.machine.roll (at_nesting d h (nested 1))))
      opens outside is given =
          adds_none p found (with_roll c.machine (with_daemon c.machine.roll (at_nesting d h (nested 1)))) (with_said c.log.works d.id e.said)
          (next_inside p found is given.answer refl refl)
          (what_unclosed p found is given.answer (with_roll c.machine (with_daemon c.machine.roll (at_nesting d h (nested 1)))) refl)
          (nested_roll p.keeps.roll (found_there p found) (nested 1) holds) refl refl
          (λ sound.
          let k = p.keeps.works sound in
          let idle = idle_mine outside in
          let rest : (c.machine.now ≡ c.machine.before) × AllUntouched told c.machine.roll c.log.works = at_rest told c.machine c.log.works k.current idle.nobody in
          record {
            apart = apart_said c.log.works d.id e.said k.apart;
            current =
                rests_put told c.machine.roll c.log.works (with_said c.log.works d.id e.said) d (at_nesting d h (nested 1)) c.machine.roll.drawn c.machine.roll.failed
                c.machine.before c.machine.now rest.0 (found_there p found) (λ other y apart there. rest.1 other y there)
                (begin_far k h.number (said_nothing told (said_by c.log.works d.id) d.holds (rest.1 d.id d (found_there p found)) idle.outside) (record { event = is; answer = given }))
                (λ other apart. said_other c.log.works d.id other e.said apart);
          })
