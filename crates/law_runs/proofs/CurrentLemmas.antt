-- The open transactions of a machine: at most one has done something, and its number is served.
use Rattle.std.proofs.Common.{◌≡◌, ◌≤◌, ◌∙◌, ◌==◌, ℕ, List, [], Bool, true, false, Option, None, Some, MatchBool, refl, sym, ap, subst}
use Rattle.sdr_base.specs.Media.{Told}
use Rattle.sdr_base.specs.declared.refusal.Refusal.TheVariants as refusals
use Rattle.sdr_model.specs.declared.event.Event.TheVariants as events
use Rattle.sdr_model.specs.declared.journal.Entry.{Entry}
use Rattle.sdr_model.specs.declared.journal.Said.{Said}
use Rattle.sdr_machine.specs.Agreeing.{AgreesWith}
use Rattle.sdr_machine.specs.Core.{Work, said_by, with_said}
use Rattle.sdr_machine.specs.Ground.{State}
use Rattle.sdr_machine.specs.Machine.{Machine, with_roll}
use Rattle.sdr_machine.specs.Roll.{Roll, daemon_of, least_held, put_daemon, served_number}
use Rattle.sdr_machine.specs.Transaction.{IsAnswered, Transacts, is_closing, refused, transaction_of}
use Rattle.sdr_machine.specs.declared.daemon.Daemon.{Daemon}
use Rattle.sdr_machine.specs.declared.daemon.Holding.{Holding}
use Rattle.sdr_machine.proofs.LockLemmas.{agrees_untold}
use Rattle.sdr_machine.specs.Served.{HoldsNumber}
use Rattle.law_runs.proofs.KeepLemmas.{KeepsRoll}
use Rattle.sdr_machine.proofs.RollLemmas.{among, contrary, found_put, least_found, number_same, other_put, same_number}
use Rattle.law_runs.proofs.WorkLemmas.{AreApart, SoFar, Untouched, said_more, said_other, so_far_more}

-- the daemons have said nothing, or have only begun, but this one
abbrev pub OthersUntouched : Option Told → Roll → List Work → ℕ → Type 0
OthersUntouched told r works id =
    (other : ℕ) (d : Daemon) → (id == other) ≡ false → daemon_of r other ≡ Some d → Untouched told (said_by works other) d.holds

-- all daemons have
abbrev pub AllUntouched : Option Told → Roll → List Work → Type 0
AllUntouched told r works = (id : ℕ) (d : Daemon) → daemon_of r id ≡ Some d → Untouched told (said_by works id) d.holds

-- the daemon is in a transaction, its number is served, and what it has said leads to the state
pub record IsWorking (told : Option Told) (m : Machine) (works : List Work) (id : ℕ) (d : Daemon) (h : Holding) : Type 0 where
  pub held : HoldsNumber m.roll id d h
  pub inside : (h.nesting.depth == 0) ≡ false
  pub served : (served_number m.roll == h.number) ≡ true
  pub far : SoFar told m.before h.number (said_by works id) (transaction_of h m.now)

-- Nothing has been done in an open transaction, or something in the one that is served.
pub data Current (told : Option Told) (m : Machine) (works : List Work) : Type 0 where
  rests : m.now ≡ m.before → AllUntouched told m.roll works → Current told m works
  working : (id : ℕ) (d : Daemon) (h : Holding) → IsWorking told m works id d h → OthersUntouched told m.roll works id → Current told m works

-- the same daemon
pub same_daemon : (r : Roll) (id other : ℕ) (d d' : Daemon) → (id == other) ≡ true → daemon_of r id ≡ Some d → daemon_of r other ≡ Some d' → d ≡ d'
same_daemon r id other d d' same one two =
    let s : Some d ≡ Some d' = sym one ∙ ap (daemon_of r) (same_number id other same) ∙ two in cc

-- one daemon, and the others
pub all_untouched : (told : Option Told) (r : Roll) (works : List Work) (id : ℕ) (d : Daemon) → daemon_of r id ≡ Some d
    → Untouched told (said_by works id) d.holds → OthersUntouched told r works id → AllUntouched told r works
all_untouched told r works id d found own others other y there = by (id == other) refl
  where
    by : (b : Bool) → (id == other) ≡ b → Untouched told (said_by works other) y.holds
    by true e =
        subst (λ n. Untouched told (said_by works n) y.holds) (same_number id other e)
        (subst (λ (z : Daemon). Untouched told (said_by works id) z.holds) (same_daemon r id other d y e found there) own)
    by false e = others other y e there

-- the others, where a daemon is put in its place
pub others_put : (told : Option Told) (r : Roll) (works works' : List Work) (d : Daemon) (drawn : ℕ) (failed : Option ℕ) → OthersUntouched told r works d.id
    → ((other : ℕ) → (d.id == other) ≡ false → said_by works' other ≡ said_by works other)
    → OthersUntouched told (record { daemons = put_daemon r.daemons d; drawn = drawn; failed = failed }) works' d.id
others_put told r works works' d drawn failed others same other y apart there =
    subst (λ said. Untouched told said y.holds) (sym (same other apart)) (others other y apart (sym (other_put r.daemons d other apart) ∙ there))

-- where none is working
pub at_rest : (told : Option Told) (m : Machine) (works : List Work) → Current told m works
    → ((id : ℕ) (d : Daemon) (h : Holding) → IsWorking told m works id d h → ⊥) → (m.now ≡ m.before) × AllUntouched told m.roll works
at_rest told m works (Current.rests still all) none = (still, all)
at_rest told m works (Current.working id d h is others) none = absurd (none id d h is)

-- where the daemon is in no transaction
pub own_untouched : (told : Option Told) (m : Machine) (works : List Work) (id : ℕ) (d : Daemon) → Current told m works → daemon_of m.roll id ≡ Some d
    → ((h : Holding) → d.holds ≡ Some h → (h.nesting.depth == 0) ≡ false → ⊥) → Untouched told (said_by works id) d.holds
own_untouched told m works id d (Current.rests still all) found outside = all id d found
own_untouched told m works id d (Current.working other y h is others) found outside = by (other == id) refl
  where
    by : (b : Bool) → (other == id) ≡ b → Untouched told (said_by works id) d.holds
    by true e =
        let s : y ≡ d = same_daemon m.roll other id y d e is.held.found found in
        absurd (outside h (ap (λ (z : Daemon). z.holds) (sym s) ∙ is.held.holds) is.inside)
    by false e = others id d e found

-- a machine in which nothing has been done in an open transaction
pub rests_put : (told : Option Told) (r : Roll) (works works' : List Work) (x d : Daemon) (drawn : ℕ) (failed : Option ℕ) (before now : State)
    → now ≡ before → daemon_of r d.id ≡ Some x → OthersUntouched told r works d.id → Untouched told (said_by works' d.id) d.holds
    → ((other : ℕ) → (d.id == other) ≡ false → said_by works' other ≡ said_by works other)
    → Current told (record { roll = record { daemons = put_daemon r.daemons d; drawn = drawn; failed = failed }; before = before; now = now }) works'
rests_put told r works works' x d drawn failed before now still found others own same =
    Current.rests still
    (all_untouched told (record { daemons = put_daemon r.daemons d; drawn = drawn; failed = failed }) works' d.id d (found_put r.daemons d x found) own
    (others_put told r works works' d drawn failed others same))

module _ (told : Option Told) (daemons : List ℕ) (journal : List Entry) (m : Machine) (works : List Work) (keeps : KeepsRoll daemons journal m.roll) where
  -- the one whose number is served is the one that works
  pub works_alone : (id : ℕ) (d : Daemon) (h : Holding) (other : ℕ) (y : Daemon) (k : Holding) → HoldsNumber m.roll id d h → (served_number m.roll == h.number) ≡ true
      → IsWorking told m works other y k → (other ≡ id) × (y ≡ d) × (k ≡ h)
  works_alone id d h other y k held served is =
      let number : k.number ≡ h.number = sym (same_number (served_number m.roll) k.number is.served) ∙ same_number (served_number m.roll) h.number served in
      let at : other ≡ id = keeps.held.apart other id y d k h is.held held number in
      let s : y ≡ d = same_daemon m.roll other id y d (number_same other id at) is.held.found held.found in
      let t : Some k ≡ Some h = sym is.held.holds ∙ ap (λ (z : Daemon). z.holds) s ∙ held.holds in
      (at, s, (let u : k ≡ h = cc in u))

  -- what the one has said leads to the state, and the others have only begun
  pub served_far : (id : ℕ) (d : Daemon) (h : Holding) → Current told m works → HoldsNumber m.roll id d h → (h.nesting.depth == 0) ≡ false
      → (served_number m.roll == h.number) ≡ true
      → SoFar told m.before h.number (said_by works id) (transaction_of h m.now) × OthersUntouched told m.roll works id
  served_far id d h (Current.rests still all) held inside served = (
    subst (λ s. SoFar told m.before h.number (said_by works id) (transaction_of h s)) (sym still)
        (open_one (h.nesting.depth == 0) inside (subst (Untouched told (said_by works id)) held.holds (all id d held.found))),
    (λ other y apart there. all other y there),
  )
    where
      open_one : (b : Bool) → b ≡ false → MatchBool b (said_by works id ≡ []) ((s : State) → SoFar told s h.number (said_by works id) (transaction_of h s))
          → SoFar told m.before h.number (said_by works id) (transaction_of h m.before)
      open_one true e all = contrary refl e
      open_one false e all = all m.before
  served_far id d h (Current.working other y k is others) held inside served =
      let same = works_alone id d h other y k held served is in (
        subst (λ (z : Holding). SoFar told m.before z.number (said_by works id) (transaction_of z m.now)) same.2
            (subst (λ n. SoFar told m.before k.number (said_by works n) (transaction_of k m.now)) same.0 is.far),
        subst (OthersUntouched told m.roll works) same.0 others,
      )

  -- nobody works where the one that is served is in no transaction
  pub none_works : (id : ℕ) (d : Daemon) (h : Holding) → HoldsNumber m.roll id d h → (served_number m.roll == h.number) ≡ true → (h.nesting.depth == 0) ≡ true
      → (other : ℕ) (y : Daemon) (k : Holding) → IsWorking told m works other y k → ⊥
  none_works id d h held served outside other y k is =
      let same = works_alone id d h other y k held served is in
      contrary outside (subst (λ (z : Holding). (z.nesting.depth == 0) ≡ false) same.2 is.inside)

  -- a daemon draws a number
  pub current_drawn : (works' : List Work) (x d : Daemon) (drawn : ℕ) (failed : Option ℕ) → Current told m works → daemon_of m.roll d.id ≡ Some x → x.holds ≡ None
      → (1 ≤ served_number m.roll → least_held (put_daemon m.roll.daemons d) ≡ served_number m.roll)
      → Untouched told (said_by works' d.id) d.holds
      → ((other : ℕ) → (d.id == other) ≡ false → said_by works' other ≡ said_by works other)
      → Current told (with_roll m (record { daemons = put_daemon m.roll.daemons d; drawn = drawn; failed = failed })) works'
  current_drawn works' x d drawn failed (Current.rests still all) found none least own same =
      rests_put told m.roll works works' x d drawn failed m.before m.now still found (λ other y apart there. all other y there) own same
  current_drawn works' x d drawn failed (Current.working id y h is others) found none least own same =
      Current.working id y h
      (record {
        held = record { found = other_put m.roll.daemons d id apart ∙ is.held.found; holds = is.held.holds };
        inside = is.inside;
        served = ap (λ n. n == h.number) (least (least_found m.roll.daemons m.roll.drawn id y h keeps.held.within is.held.found is.held.holds).0) ∙ is.served;
        far = subst (λ said. SoFar told m.before h.number said (transaction_of h m.now)) (sym (same id apart)) is.far;
      })
      (λ other z away there. by other z away there (d.id == other) refl)
    where
      apart : (d.id == id) ≡ false
      apart = told_apart (d.id == id) refl
        where
          told_apart : (b : Bool) → (d.id == id) ≡ b → b ≡ false
          told_apart true e =
              let s : x ≡ y = same_daemon m.roll d.id id x y e found is.held.found in
              let t : None ≡ Some h = sym none ∙ ap (λ (z : Daemon). z.holds) s ∙ is.held.holds in
              absurd cc
          told_apart false e = refl

      by : (other : ℕ) (z : Daemon) → (id == other) ≡ false → among other (put_daemon m.roll.daemons d) ≡ Some z → (b : Bool) → (d.id == other) ≡ b
          → Untouched told (said_by works' other) z.holds
      by other z away there true e =
          let at : d.id ≡ other = same_number d.id other e in
          let s : Some d ≡ Some z = sym (found_put m.roll.daemons d x found) ∙ ap (λ n. among n (put_daemon m.roll.daemons d)) at ∙ there in
          let t : d ≡ z = cc in
          subst (λ n. Untouched told (said_by works' n) z.holds) at (subst (λ (w : Daemon). Untouched told (said_by works' d.id) w.holds) t own)
      by other z away there false e =
          subst (λ said. Untouched told said z.holds) (sym (same other e)) (others other z away (sym (other_put m.roll.daemons d other e) ∙ there))

  -- a look in a transaction is refused
  pub current_looked : (id : ℕ) (d : Daemon) (h : Holding) (said : Said) (ticket : ℕ) → AreApart works → Current told m works → HoldsNumber m.roll id d h
      → (h.nesting.depth == 0) ≡ false → said.event ≡ events.Look ticket → IsAnswered said (refused (refusals.InTransaction h.number))
      → Current told m (with_said works id said)
  current_looked id d h said ticket apart current held inside event answer = by current
    where
      looks : (s : State) → Transacts (transaction_of h s) said.event said (transaction_of h s)
      looks s = subst (λ ev. Transacts (transaction_of h s) ev said (transaction_of h s)) (sym event) (record { told = answer; after = refl })

      stays : (s : State) → is_closing (transaction_of h s) said.event ≡ false
      stays s = ap (is_closing (transaction_of h s)) event

      media : (s : State) → AgreesWith told s.world said.event said.answer said.bytes
      media s =
          subst (λ a. AgreesWith told s.world said.event a said.bytes) (sym answer.answer)
          (agrees_untold told s.world said.event (refused (refusals.InTransaction h.number)) said.bytes refl)

      more : (before s : State) → SoFar told before h.number (said_by works id) (transaction_of h s) → SoFar told before h.number (said_by (with_said works id said) id) (transaction_of h s)
      more before s far =
          subst (λ all. SoFar told before h.number all (transaction_of h s)) (sym (said_more works id said apart))
          (so_far_more told before h.number (said_by works id) (transaction_of h s) said (transaction_of h s) far (stays s) (looks s) (media s))

      own : Untouched told (said_by works id) (Some h) → Untouched told (said_by (with_said works id said) id) (Some h)
      own = open_one (h.nesting.depth == 0) inside
        where
          open_one : (b : Bool) → b ≡ false → MatchBool b (said_by works id ≡ []) ((s : State) → SoFar told s h.number (said_by works id) (transaction_of h s))
              → MatchBool b (said_by (with_said works id said) id ≡ []) ((s : State) → SoFar told s h.number (said_by (with_said works id said) id) (transaction_of h s))
          open_one true e all = contrary refl e
          open_one false e all = λ s. more s s (all s)

      own_of : (y : Daemon) → daemon_of m.roll id ≡ Some y → Untouched told (said_by works id) y.holds → Untouched told (said_by (with_said works id said) id) y.holds
      own_of y there is =
          let s : y ≡ d = same_daemon m.roll id id y d (number_same id id refl) there held.found in
          let t : y.holds ≡ Some h = ap (λ (z : Daemon). z.holds) s ∙ held.holds in
          subst (Untouched told (said_by (with_said works id said) id)) (sym t) (own (subst (Untouched told (said_by works id)) t is))

      each : (other : ℕ) (y : Daemon) → daemon_of m.roll other ≡ Some y → Untouched told (said_by works other) y.holds
          → (b : Bool) → (id == other) ≡ b → Untouched told (said_by (with_said works id said) other) y.holds
      each other y there is true e =
          let at : other ≡ id = sym (same_number id other e) in
          subst (λ n. Untouched told (said_by (with_said works id said) n) y.holds) (sym at)
          (own_of y (ap (daemon_of m.roll) (sym at) ∙ there) (subst (λ n. Untouched told (said_by works n) y.holds) at is))
      each other y there is false e = subst (λ all. Untouched told all y.holds) (sym (said_other works id other said e)) is

      by : Current told m works → Current told m (with_said works id said)
      by (Current.rests still all) = Current.rests still (λ other y there. each other y there (all other y there) (id == other) refl)
      by (Current.working other y k is others) =
          Current.working other y k
          (record { held = is.held; inside = is.inside; served = is.served; far = worker (id == other) refl })
          (λ n z away there. each n z there (others n z away there) (id == n) refl)
        where
          worker : (b : Bool) → (id == other) ≡ b → SoFar told m.before k.number (said_by (with_said works id said) other) (transaction_of k m.now)
          worker true e =
              let at : id ≡ other = same_number id other e in
              let s : y ≡ d = sym (same_daemon m.roll id other d y e held.found is.held.found) in
              let t : Some k ≡ Some h = sym is.held.holds ∙ ap (λ (z : Daemon). z.holds) s ∙ held.holds in
              let u : k ≡ h = cc in
              subst (λ n. SoFar told m.before k.number (said_by (with_said works id said) n) (transaction_of k m.now)) at
              (subst (λ (z : Holding). SoFar told m.before z.number (said_by (with_said works id said) id) (transaction_of z m.now)) (sym u)
              (more m.before m.now (subst (λ (z : Holding). SoFar told m.before z.number (said_by works id) (transaction_of z m.now)) u
              (subst (λ n. SoFar told m.before k.number (said_by works n) (transaction_of k m.now)) (sym at) is.far))))
          worker false e =
              subst (λ all. SoFar told m.before k.number all (transaction_of k m.now)) (sym (said_other works id other said e)) is.far
