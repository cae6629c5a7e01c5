-- The leaves at the end of a run, one after another.
use Rattle.std.proofs.Common.{◌≡◌, ◌∙◌, ◌≤◌, ◌<◌, ◌+◌, ◌==◌, ◌++◌, ℕ, List, [], ◌∷◌, Bool, true, false, true≢false, not, filter, Option, None, Some, IsSome, inl, length, ◌-◌, drop, slice_index_or, take, refl, sym, ap, subst, arith}
use Rattle.std.proofs.lemmas.Bool.Decides.{nat_tests}
use Rattle.std.proofs.lemmas.List.{length-map, take_all}
use Rattle.std.proofs.lemmas.List.Filters.{length-filter_both}
use Rattle.std.specs.Option.{option_map_or, option_and_then}
use Rattle.std.specs.Prelude.{if◌then◌else◌}
use Rattle.sdr_base.specs.Media.{Told}
use Rattle.sdr_model.specs.declared.event.Event.{Event}
use Rattle.sdr_model.specs.declared.event.Event.TheVariants as events
use Rattle.sdr_model.specs.declared.event.Leave.{Leave}
use Rattle.sdr_machine.specs.Core.{Core}
use Rattle.sdr_machine.specs.Lapses.{Lapses, LapsesLast}
use Rattle.sdr_machine.specs.Holders.{HoldFirst, hold_none, holders}
use Rattle.sdr_machine.specs.Leaving.{AllLeave, HoldersLeave, LeaveInTurn, MakesLeave, holds_number, served_daemon, staying}
use Rattle.sdr_machine.specs.Machine.{Machine, Made, MachineStep, roll_acting, roll_coming, roll_failed, roll_holding}
use Rattle.sdr_machine.specs.Roll.{MayDraw, Roll, after_leave, daemon_of, held_by, served_number, with_daemon, with_drawn, with_number}
use Rattle.sdr_machine.specs.declared.came.Came.{Came}
use Rattle.sdr_machine.specs.declared.daemon.Daemon.{Daemon}
use Rattle.sdr_machine.specs.declared.daemon.Holding.{Holding}
use Rattle.sdr_machine.proofs.GroundLemmas.{lapses_same}
use Rattle.sdr_machine.proofs.HolderLemmas.{IsFirst, find_first, put_fewer, put_length, served_holds}
use Rattle.sdr_machine.proofs.HolderSteps.{leave_none}
use Rattle.sdr_machine.proofs.StepLemmas.{from_option}
use Rattle.sdr_machine.proofs.WorkLemmas.{on_some}
use Rattle.sdr_core.proofs.LeaveLemmas.{LeaveIs, leave_is}
use Rattle.sdr_core.specs.Going.{GoesUnasked, HasCome, LeavesNone, MakesNext, NextCore}
use Rattle.sdr_core.specs.declared.has_run.HasRun.{Ghosts}

-- counts that didn't fall, and then didn't
lapses_then : (a b c : Lapses) → LapsesLast a b → LapsesLast b c → LapsesLast a c
lapses_then a b c first second = record {
  faults = omega (arith, first.faults, second.faults);
  short = omega (arith, first.short, second.short);
}

-- the daemon whose number is served is the first of its id, and hasn't left
module _ (r : Roll) (d : Daemon) (may : HoldFirst [] r.daemons) (served : served_daemon r ≡ Some d) where
  held : holds_number (served_number r) d ≡ true
  held = served_holds (holds_number (served_number r)) r.daemons d served

  pub served_some : IsSome d.holds
  served_some = by d.holds refl
    where
      by : (o : Option Holding) → d.holds ≡ o → IsSome o
      by None is = absurd (true≢false (sym held ∙ ap (λ (o : Option Holding). option_map_or (λ (h : Holding). h.number == served_number r) o false) is))
      by (Some h) is = refl

  pub served_first : IsFirst [] r.daemons d
  served_first = find_first (holds_number (served_number r)) [] r.daemons d may served served_some

  pub served_may : MayDraw r (held_by r d.id)
  served_may = inl (subst (λ (o : Option Daemon). IsSome (option_and_then (λ (x : Daemon). x.holds) o)) (sym served_first.found) served_some)

  -- its number is the served one
  served_is : (h : Holding) → d.holds ≡ Some h → (served_number r == h.number) ≡ true
  served_is h holds =
      turn (h.number == served_number r) (sym (ap (λ (o : Option Holding). option_map_or (λ (h : Holding). h.number == served_number r) o false) holds) ∙ held)
    where
      turn : (b : Bool) → (h.number == served_number r) ≡ true → (served_number r == h.number) ≡ true
      turn b is = grind (arith, nat_tests)

-- where the disk has failed, an event leaves it so
failed_coming : (r : Roll) (d : Daemon) (event : Event) → (roll_coming r d event).failed ≡ r.failed
failed_coming r d events.Request = refl
failed_coming r d (events.Leaves leave) = by (served_number r == 0)
  where
    by : (b : Bool) → (if b then with_daemon (with_drawn r) (after_leave d) else with_number r d 0).failed ≡ r.failed
    by true = refl
    by false = refl
failed_coming r d event = refl

failed_holding : (r : Roll) (d : Daemon) (h : Holding) (event : Event) → (roll_holding r d h event).failed ≡ r.failed
failed_holding r d h (events.Leaves leave) = by (served_number r == h.number)
  where
    by : (b : Bool) → (if b then with_daemon r (after_leave d) else r).failed ≡ r.failed
    by true = refl
    by false = refl
failed_holding r d h event = refl

failed_same : (r : Roll) (daemon : ℕ) (event : Event) → (roll_failed r daemon event).failed ≡ r.failed
failed_same r daemon event = by_daemon (daemon_of r daemon)
  where
    by_holding : (d : Daemon) (o : Option Holding) → (option_map_or (λ (h : Holding). roll_holding r d h event) o (roll_coming r d event)).failed ≡ r.failed
    by_holding d None = failed_coming r d event
    by_holding d (Some h) = failed_holding r d h event

    by_left : (d : Daemon) (b : Bool) → (if b then r else option_map_or (λ (h : Holding). roll_holding r d h event) d.holds (roll_coming r d event)).failed ≡ r.failed
    by_left d true = refl
    by_left d false = by_holding d d.holds

    by_daemon : (o : Option Daemon) → (option_map_or (λ (d : Daemon). roll_acting r d event) o r).failed ≡ r.failed
    by_daemon None = refl
    by_daemon (Some d) = by_left d d.left

-- so unless it has failed, it hadn't before
sound_before : (m : Machine) (e : Made) (m' : Machine) → MachineStep m e m' → m'.roll.failed ≡ None → m.roll.failed ≡ None
sound_before m e m' step sound =
    from_option m.roll.failed step (λ none _. none)
    (λ moment some goes. sym (failed_same m.roll e.daemon e.said.event) ∙ sym (ap (λ (n : Machine). n.roll.failed) goes.after) ∙ sound)

module _ {R : Type 0} (r : Ghosts R) (leave : Leave) (a : Came) (old new : R) where
  -- a leave that was made
  pub one_leave : (daemon : ℕ) (c : Core) (n : NextCore r daemon 0 (events.Leaves leave) a c old new) → MakesLeave (r.told old) leave daemon c n.made n.next
  one_leave daemon c n = record { daemon_is = n.daemon_is; event = n.event_is; line = n.line_is; step = n.step }

  -- the served daemon's leave gives its number up
  module _ (d : Daemon) (makes : MakesNext r d.id 0 (events.Leaves leave) a old new) (come : HasCome r old) (may : HoldFirst [] (r.roll_of old).daemons)
      (served : served_daemon (r.roll_of old) ≡ Some d) where
    abbrev c : Core
    c = come.core

    abbrev n : NextCore r d.id 0 (events.Leaves leave) a c old new
    n = makes.each c come.here

    before : c.machine.roll ≡ r.roll_of old
    before = r.rolls old c come.here

    after : n.next.machine.roll ≡ r.roll_of new
    after = r.rolls new n.next n.here

    may_here : HoldFirst [] c.machine.roll.daemons
    may_here = subst (λ (x : Roll). HoldFirst [] x.daemons) (sym before) may

    served_here : served_daemon c.machine.roll ≡ Some d
    served_here = ap (λ (x : Roll). served_daemon x) before ∙ served

    first : IsFirst [] c.machine.roll.daemons d
    first = served_first c.machine.roll d may_here served_here

    is : LeaveIs c.machine n.made n.next.machine d
    is =
        leave_is c.machine n.made n.next.machine leave n.event_is (ap (λ id. daemon_of c.machine.roll id) n.daemon_is ∙ first.found)
        (subst (MachineStep c.machine n.made) (sym (ap (λ (x : Core). x.machine) n.step.history)) n.step.step)

    gone : is.after.holds ≡ None
    gone = by d.holds refl (served_some c.machine.roll d may_here served_here)
      where
        by : (o : Option Holding) → d.holds ≡ o → IsSome o → is.after.holds ≡ None
        by None none some = absurd (true≢false (sym some))
        by (Some h) holds some = is.lets_go h first.stays holds (served_is c.machine.roll d may_here served_here h holds)

    pub leave_fewer : holders (r.roll_of old).daemons ≡ holders (r.roll_of new).daemons + 1
    leave_fewer =
        ap (λ (x : Roll). holders x.daemons) (sym before)
        ∙ put_fewer d is.after c.machine.roll.daemons first.found is.id (served_some c.machine.roll d may_here served_here) gone ∙ ap (λ ds. holders ds + 1) (sym is.roll)
        ∙ ap (λ (x : Roll). holders x.daemons + 1) after

    pub leave_many : length (r.roll_of new).daemons ≡ length (r.roll_of old).daemons
    leave_many =
        ap (λ (x : Roll). length x.daemons) (sym after)
        ∙ ap (λ (ds : List Daemon). length ds) is.roll ∙ put_length is.after c.machine.roll.daemons
        ∙ ap (λ (x : Roll). length x.daemons) before

  -- a leave asks no media
  pub unasked : (daemon : ℕ) → MakesNext r daemon 0 (events.Leaves leave) a old new → HasCome r old → r.asks new ≤ r.asks old
  unasked daemon makes come = let few = (makes.each come.core come.here).few in omega (arith, few)

  -- and where no number is held, none is behind it
  pub leaves_none : (daemon : ℕ) → MakesNext r daemon 0 (events.Leaves leave) a old new → HasCome r old → LeavesNone (r.roll_of old) (r.roll_of new)
  leaves_none daemon makes come =
      let c = come.core in
      let n = makes.each c come.here in
      let before = r.rolls old c come.here in
      let after = r.rolls new n.next n.here in
      let step : MachineStep c.machine n.made n.next.machine =
      subst (MachineStep c.machine n.made) (sym (ap (λ (x : Core). x.machine) n.step.history)) n.step.step in
      let sound : (r.roll_of new).failed ≡ None → c.machine.roll.failed ≡ None =
      λ well. sound_before c.machine n.made n.next.machine step (ap (λ (x : Roll). x.failed) after ∙ well) in
      record {
        sound = λ well. sym (ap (λ (x : Roll). x.failed) before) ∙ sound well;
        none = λ well none.
            sym (ap (λ (x : Roll). hold_none x.daemons) after)
            ∙ leave_none c.machine n.made n.next.machine leave (sound well) (ap (λ (x : Roll). hold_none x.daemons) before ∙ none) n.event_is step;
      }

  -- one leaves, and then the others
  pub holders_more : (d : Daemon) (next : R) → served_daemon (r.roll_of old) ≡ Some d → MakesNext r d.id 0 (events.Leaves leave) a old new → r.asks new ≤ r.asks old
      → GoesUnasked r (HoldersLeave (r.told new) leave) new next → GoesUnasked r (HoldersLeave (r.told old) leave) old next
  holders_more d next served makes few rest = record {
    each = λ c at.
        let n = makes.each c at in
        let others = rest.each n.next n.here in
        record {
          made = n.made ∷ others.made;
          core = others.core;
          here = others.here;
          tells = on_some _ _ (served_daemon c.machine.roll) d (ap (λ (x : Roll). served_daemon x) (r.rolls old c at) ∙ served) (record {
            next = n.next;
            leaves = one_leave d.id c n;
            rest = subst (λ told. HoldersLeave told leave n.next others.made others.core) makes.told others.tells;
          });
        };
    told = rest.told ∙ makes.told;
    lapses = lapses_then _ _ _ makes.lapses rest.lapses;
    asks = omega (arith, few, rest.asks);
  }

  pub turn_more : (daemon : ℕ) (daemons : List ℕ) (next : R) → MakesNext r daemon 0 (events.Leaves leave) a old new → r.asks new ≤ r.asks old
      → GoesUnasked r (LeaveInTurn (r.told new) leave daemons) new next → GoesUnasked r (LeaveInTurn (r.told old) leave (daemon ∷ daemons)) old next
  turn_more daemon daemons next makes few rest = record {
    each = λ c at.
        let n = makes.each c at in
        let others = rest.each n.next n.here in
        record {
          made = n.made ∷ others.made;
          core = others.core;
          here = others.here;
          tells = record {
            next = n.next;
            leaves = one_leave daemon c n;
            rest = subst (λ told. LeaveInTurn told leave daemons n.next others.made others.core) makes.told others.tells;
          };
        };
    told = rest.told ∙ makes.told;
    lapses = lapses_then _ _ _ makes.lapses rest.lapses;
    asks = omega (arith, few, rest.asks);
  }

-- nobody is served, or nobody is left
pub holders_none : {R : Type 0} (r : Ghosts R) (leave : Leave) (t : R) → served_daemon (r.roll_of t) ≡ None → GoesUnasked r (HoldersLeave (r.told t) leave) t t
holders_none r leave t none = record {
  each = λ c at. record { made = []; core = c; here = at; tells = (refl, ap (λ (x : Roll). served_daemon x) (r.rolls t c at) ∙ none) };
  told = refl;
  lapses = lapses_same (r.lapses t);
  asks = omega arith;
}

pub turn_none : {R : Type 0} (r : Ghosts R) (leave : Leave) (t : R) → GoesUnasked r (LeaveInTurn (r.told t) leave []) t t
turn_none r leave t = record {
  each = λ c at. record { made = []; core = c; here = at; tells = refl };
  told = refl;
  lapses = lapses_same (r.lapses t);
  asks = omega arith;
}

-- the holders leave, and then those that stay
pub all_leave : {R : Type 0} (r : Ghosts R) (told : Option Told) (leave : Leave) (old mid new : R) → GoesUnasked r (HoldersLeave told leave) old mid
    → GoesUnasked r (LeaveInTurn told leave (staying (r.roll_of mid))) mid new → GoesUnasked r (AllLeave told leave) old new
all_leave r told leave old mid new first last = record {
  each = λ c at.
      let s = first.each c at in
      let t = last.each s.core s.here in
      record {
        made = s.made ++ t.made;
        core = t.core;
        here = t.here;
        tells = record {
          first = s.made;
          last = t.made;
          all = refl;
          between = s.core;
          holders = s.tells;
          others = subst (λ (x : Roll). LeaveInTurn told leave (staying x) s.core t.made t.core) (sym (r.rolls mid s.core s.here)) t.tells;
        };
      };
  told = last.told ∙ first.told;
  lapses = lapses_then _ _ _ first.lapses last.lapses;
  asks = omega (arith, first.asks, last.asks);
}

-- a list without an item, and one with a first
pub none_of : (ds : List ℕ) → length ds < 1 → ds ≡ []
none_of [] few = refl
none_of (d ∷ ds) few = absurd (omega arith)

pub first_of : (ds : List ℕ) (d : ℕ) → 1 ≤ length ds → ds ≡ slice_index_or ds 0 d ∷ take (length ds - 1) (drop 1 ds)
first_of [] d within = absurd (omega arith)
first_of (x ∷ ds) d within = ap (λ (rest : List ℕ). x ∷ rest) (sym (take_all (length (x ∷ ds) - 1) ds (omega arith)))

-- no more stay than there are
pub staying_few : (r : Roll) → length (staying r) ≤ length r.daemons
staying_few r =
    omega (
      arith,
      length-map (filter (λ (d : Daemon). not d.left) r.daemons) (λ (d : Daemon). d.id),
      length-filter_both (λ (d : Daemon). not d.left) (λ (d : Daemon). not (not d.left)) (λ d. refl) r.daemons,
    )
