-- What an event of a daemon leaves of the roll and the log, where no other daemon holds a number.
use Rattle.std.proofs.Common.{◌≡◌, ◌∙◌, ◌==◌, ◌&&◌, ℕ, List, [], ◌∷◌, ◌++◌, Bool, true, false, true≢false, not, Option, None, Some, MatchBool, MatchOption, refl, sym, ap, subst, append-nil, cond}
use Rattle.std.specs.Option.{option_map, option_map_or, option_to_list}
use Rattle.std.specs.List.{filter, flat_map}
use Rattle.std.specs.Prelude.{if◌then◌else◌, is_none}
use Rattle.sdr_machine.proofs.RollLemmas.{among, put_here, put_later, number_same}
use Rattle.sdr_base.specs.Media.{Told}
use Rattle.sdr_base.specs.declared.refusal.Refusal.TheVariants as refusals
use Rattle.sdr_machine.proofs.HolderLemmas.{none_least}
use Rattle.sdr_machine.specs.Core.{Core, CoreStep, Log, Under, Work, all_said, closed_by, entry_of, log_after, said_by, under, was_outside, what_added, what_of, with_said, without_work, works_after}
use Rattle.sdr_machine.specs.Holders.{hold_none}
use Rattle.sdr_machine.specs.Machine.{StepsOf, Comes, Goes, Holds, is_of_work, Made, Performs, is_outside, roll_failed, with_roll}
use Rattle.sdr_machine.specs.Roll.{daemon_of, least_held, lesser_of, put_daemon}
use Rattle.sdr_machine.specs.Transaction.{OpenTransaction, is_opening, refused}
use Rattle.sdr_machine.specs.declared.daemon.Daemon.{Daemon}
use Rattle.sdr_machine.specs.declared.daemon.Holding.{Holding}
use Rattle.sdr_model.specs.declared.answer.Answer.TheVariants as answers
use Rattle.sdr_model.specs.declared.answer.Answer.{Answer}
use Rattle.sdr_model.specs.declared.answer.Close.{Close}
use Rattle.sdr_model.specs.declared.answer.Reply.TheVariants as replies
use Rattle.sdr_model.specs.declared.event.Event.TheVariants as events
use Rattle.sdr_model.specs.declared.event.Event.{Event}
use Rattle.sdr_model.specs.declared.journal.Said.{Said}
use Rattle.sdr_model.specs.declared.journal.What.TheVariants as whats
use Rattle.sdr_model.specs.declared.journal.What.{What}

-- a daemon is put in the place of one that was put there
pub put_put : (ds : List Daemon) (d d' : Daemon) → d'.id ≡ d.id → put_daemon (put_daemon ds d) d' ≡ put_daemon ds d'
put_put [] d d' same = refl
put_put (x ∷ ds) d d' same = by (x.id == d.id) refl (put_put ds d d' same)
  where
    mine : (d.id == d'.id) ≡ true
    mine = number_same d.id d'.id (sym same)

    by : (b : Bool) → (x.id == d.id) ≡ b → put_daemon (put_daemon ds d) d' ≡ put_daemon ds d' → put_daemon (put_daemon (x ∷ ds) d) d' ≡ put_daemon (x ∷ ds) d'
    by true is rest = ap (λ l. put_daemon l d') (put_here x ds d is) ∙ put_here d ds d' mine ∙ sym (put_here x ds d' (ap (λ n. x.id == n) same ∙ is))
    by false is rest =
        let other : (x.id == d'.id) ≡ false = ap (λ n. x.id == n) same ∙ is in
        ap (λ l. put_daemon l d') (put_later x ds d is) ∙ put_later x (put_daemon ds d) d' other ∙ ap (λ l. x ∷ l) rest ∙ sym (put_later x ds d' other)

both_of : (a b : Bool) → (a && b) ≡ true → (a ≡ true) × (b ≡ true)
both_of true b is = (refl, is)
both_of false b is = absurd (true≢false (sym is))

none_is : (o : Option Holding) → is_none o ≡ true → o ≡ None
none_is None is = refl
none_is (Some h) is = absurd (true≢false (sym is))

-- where none holds a number, one that is found doesn't
pub found_none : (ds : List Daemon) (id : ℕ) (x : Daemon) → hold_none ds ≡ true → among id ds ≡ Some x → x.holds ≡ None
found_none [] id x free found = absurd cc
found_none (y ∷ ds) id x free found = by (y.id == id) found (found_none ds id x parts.1)
  where
    parts : (is_none y.holds ≡ true) × (hold_none ds ≡ true)
    parts = both_of (is_none y.holds) (hold_none ds) free

    by : (b : Bool) → cond b (Some y) (among id ds) ≡ Some x → (among id ds ≡ Some x → x.holds ≡ None) → x.holds ≡ None
    by true there rest = let same : y ≡ x = cc in ap (λ (d : Daemon). d.holds) (sym same) ∙ none_is y.holds parts.0
    by false there rest = rest there

-- and its number is served as soon as it has one
pub served_own : (ds : List Daemon) (d x : Daemon) (h : Holding) → hold_none ds ≡ true → among d.id ds ≡ Some x → d.holds ≡ Some h → least_held (put_daemon ds d) ≡ h.number
served_own [] d x h free found holds = absurd cc
served_own (y ∷ ds) d x h free found holds = by (y.id == d.id) refl found (served_own ds d x h parts.1)
  where
    parts : (is_none y.holds ≡ true) × (hold_none ds ≡ true)
    parts = both_of (is_none y.holds) (hold_none ds) free

    by : (b : Bool) → (y.id == d.id) ≡ b → cond b (Some y) (among d.id ds) ≡ Some x
        → (among d.id ds ≡ Some x → d.holds ≡ Some h → least_held (put_daemon ds d) ≡ h.number) → least_held (put_daemon (y ∷ ds) d) ≡ h.number
    by true is there rest =
        ap least_held (put_here y ds d is) ∙ ap (λ o. lesser_of o (least_held ds)) holds ∙ ap (lesser_of (Some h)) (none_least ds parts.1)
    by false is there rest =
        ap least_held (put_later y ds d is) ∙ ap (λ o. lesser_of o (least_held (put_daemon ds d))) (none_is y.holds parts.0) ∙ rest there holds

-- What an event of a daemon of the roll leaves of the log.
module _ {told : Option Told} {c c' : Core} {e : Made} (step : CoreStep told c e c') {x : Daemon} (found : daemon_of c.machine.roll e.daemon ≡ Some x) where
  abbrev u : Under
  u = under c.machine.roll x step.next.roll e.said.event

  log_is : c'.log ≡ log_after u c.log e
  log_is =
      ap (λ (k : Core). k.log) step.history
      ∙ ap (λ o. option_map_or (λ (d : Daemon). log_after (under c.machine.roll d step.next.roll e.said.event) c.log e) o c.log) found

  pub machine_is : c'.machine ≡ step.next
  machine_is = ap (λ (k : Core). k.machine) step.history

  works_is : (b : Bool) → was_outside e.said ≡ b → c'.log.works ≡ (if b then c.log.works else works_after c.log.works e.daemon e.said)
  works_is b is = ap (λ (l : Log). l.works) log_is ∙ ap (λ (t : Bool). if t then c.log.works else works_after c.log.works e.daemon e.said) is

  journal_by : (o : Option What) → what_of u c.log.works e ≡ o → c'.log.journal ≡ c.log.journal ++ option_to_list (option_map (entry_of u.number e) o)
  journal_by o is = ap (λ (l : Log). l.journal) log_is ∙ ap (λ w. c.log.journal ++ option_to_list (option_map (entry_of u.number e) w)) is

  what_by : (o : Option Close) → closed_by e.said.answer ≡ o
      → what_of u c.log.works e ≡ option_map_or (λ (close : Close). Some (whats.Work (all_said c.log.works e.daemon e.said) close)) o (what_added u e.said.event e.said.answer)
  what_by o is = ap (λ k. option_map_or (λ (close : Close). Some (whats.Work (all_said c.log.works e.daemon e.said) close)) k (what_added u e.said.event e.said.answer)) is

  -- it stands in a transaction, and goes on
  pub goes_on : was_outside e.said ≡ false → closed_by e.said.answer ≡ None → what_added u e.said.event e.said.answer ≡ None
      → (c'.log.works ≡ with_said c.log.works e.daemon e.said) × (c'.log.journal ≡ c.log.journal)
  goes_on inside unclosed none = (
    works_is false inside ∙ ap (λ k. option_map_or (λ (close : Close). without_work c.log.works e.daemon) k (with_said c.log.works e.daemon e.said)) unclosed,
    journal_by None (what_by None unclosed ∙ none) ∙ append-nil c.log.journal,
  )

  -- it closes one
  pub closes_so : was_outside e.said ≡ false → (close : Close) → closed_by e.said.answer ≡ Some close
      → (c'.log.works ≡ without_work c.log.works e.daemon)
      × (c'.log.journal ≡ c.log.journal ++ entry_of u.number e (whats.Work (all_said c.log.works e.daemon e.said) close) ∷ [])
  closes_so inside close closed = (
    works_is false inside ∙ ap (λ k. option_map_or (λ (close : Close). without_work c.log.works e.daemon) k (with_said c.log.works e.daemon e.said)) closed,
    journal_by (Some (whats.Work (all_said c.log.works e.daemon e.said) close)) (what_by (Some close) closed),
  )

  -- it stands in none
  pub passes_by : was_outside e.said ≡ true → closed_by e.said.answer ≡ None → (o : Option What) → what_added u e.said.event e.said.answer ≡ o
      → (c'.log.works ≡ c.log.works) × (c'.log.journal ≡ c.log.journal ++ option_to_list (option_map (entry_of u.number e) o))
  passes_by outside unclosed o is = (works_is true outside, journal_by o (what_by None unclosed ∙ is))

  -- the step is the daemon's
  pub performs : c.machine.roll.failed ≡ None → x.left ≡ false
      → MatchOption x.holds (Comes c.machine x e.said.event e step.next) (λ h. Holds c.machine x h e.said.event e step.next)
  performs sound stays =
      subst (λ b. MatchBool b (Goes e step.next (refused refusals.NotBegun) c.machine)
      (MatchOption x.holds (Comes c.machine x e.said.event e step.next) (λ h. Holds c.machine x h e.said.event e step.next))) stays
      (subst (λ o. MatchOption o (Goes e step.next (refused refusals.NotBegun) c.machine) (λ d. Performs c.machine d e step.next)) found
      (subst (λ o. MatchOption o (StepsOf c.machine e step.next)
      (λ moment. Goes e step.next (answers.Reply (replies.Failed moment)) (with_roll c.machine (roll_failed c.machine.roll e.daemon e.said.event)))) sound step.step))

said_here : (w : Work) (works : List Work) (id : ℕ) → (w.daemon == id) ≡ true → said_by (w ∷ works) id ≡ w.said ++ said_by works id
said_here w works id e = ap (λ b. flat_map (λ (x : Work). x.said) (cond b (w ∷ filter (λ (x : Work). x.daemon == id) works) (filter (λ (x : Work). x.daemon == id) works))) e

-- what is said alone
pub said_alone : (id : ℕ) (said : List Said) (s : Said) → with_said (record { daemon = id; said = said } ∷ []) id s ≡ record { daemon = id; said = said ++ s ∷ [] } ∷ []
said_alone id said s =
    let w : Work = record { daemon = id; said = said } in
    ap (λ b. if b then record w { said = said ++ s ∷ [] } ∷ [] else w ∷ with_said [] id s) (number_same id id refl)

pub all_alone : (id : ℕ) (said : List Said) (s : Said) → all_said (record { daemon = id; said = said } ∷ []) id s ≡ said ++ s ∷ []
all_alone id said s =
    ap (λ works. said_by works id) (said_alone id said s) ∙ said_here (record { daemon = id; said = said ++ s ∷ [] }) [] id (number_same id id refl)
    ∙ append-nil (said ++ s ∷ [])

pub all_first : (id : ℕ) (s : Said) → all_said [] id s ≡ s ∷ []
all_first id s = said_here (record { daemon = id; said = s ∷ [] }) [] id (number_same id id refl)

pub none_alone : (id : ℕ) (said : List Said) → without_work (record { daemon = id; said = said } ∷ []) id ≡ []
none_alone id said = let w : Work = record { daemon = id; said = said } in ap (λ b. cond (not b) (w ∷ []) []) (number_same id id refl)

pub line_none : (u : Under) (event : Event) (answer : Answer) → is_of_work event ≡ true → what_added u event answer ≡ None
line_none u events.Request answer line = refl
line_none u (events.Look ticket) answer line = absurd (true≢false (sym line))
line_none u (events.Leaves leave) answer line = absurd (true≢false (sym line))
line_none u event answer line = refl

pub deep_outside : (h : Holding) (event : Event) → (h.nesting.depth == 0) ≡ false → is_outside h event ≡ false
deep_outside h events.Begin deep = refl
deep_outside h event deep = deep

pub deep_opening : (t : OpenTransaction) (event : Event) → (t.nesting.depth == 0) ≡ false → is_opening t event ≡ false
deep_opening t events.Begin deep = deep
deep_opening t event deep = refl
