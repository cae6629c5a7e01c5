-- What an outermost end leaves of a transaction that isn't doomed.
use Rattle.std.proofs.Common.{◌≡◌, ◌∙◌, ◌==◌, ◌&&◌, ℕ, not, Bool, true, false, Option, None, Some, is_none, nat_le, refl, sym, ap, subst, inl, inr, true≢false}
use Rattle.std.specs.Option.{option_map_or}
use Rattle.sdr_base.specs.declared.refusal.Reason.{Reason}
use Rattle.sdr_model.specs.declared.answer.Answer.TheVariants as answers
use Rattle.sdr_model.specs.declared.answer.Close.TheVariants as closes
use Rattle.sdr_model.specs.declared.answer.Reply.TheVariants as replies
use Rattle.sdr_model.specs.declared.event.Event.{Event}
use Rattle.sdr_model.specs.declared.event.Event.TheVariants as events
use Rattle.sdr_machine.specs.Closing.{close_of}
use Rattle.sdr_machine.specs.Crash.{commits_by, commits_in, commits_of, commits_under}
use Rattle.sdr_machine.specs.Ground.{committed}
use Rattle.sdr_machine.specs.Machine.{Closes, FaultsWithin, Holds, Machine, Made, MachineStep, OnTurn, is_outside}
use Rattle.sdr_machine.specs.Nesting.{closing}
use Rattle.sdr_machine.specs.Roll.{Roll, daemon_of, served_number}
use Rattle.sdr_machine.specs.Transaction.{IsAnswered, state_left}
use Rattle.sdr_machine.specs.declared.daemon.Daemon.{Daemon}
use Rattle.sdr_machine.specs.declared.daemon.Holding.{Holding}
use Rattle.sdr_machine.proofs.StepLemmas.{from_option, from_test}

both : (a b : Bool) → (a && b) ≡ true → (a ≡ true) × (b ≡ true)
both true b e = (refl, e)
both false b e = absurd (true≢false (sym e))

and_never : {R : Type 0} (a : Bool) → (a && false) ≡ true → R
and_never true e = absurd (true≢false (sym e))
and_never false e = absurd (true≢false (sym e))

is_not : (b : Bool) → not b ≡ true → b ≡ false
is_not true e = absurd (true≢false (sym e))
is_not false e = refl

is_undoomed : (o : Option Reason) → is_none o ≡ true → o ≡ None
is_undoomed None is = refl
is_undoomed (Some reason) is = absurd (true≢false (sym is))

-- the event is the outermost end of the served transaction of a daemon, which isn't doomed
pub record IsOuterEnd (r : Roll) (id : ℕ) (event : Event) : Type 0 where
  pub daemon : Daemon
  pub holding : Holding
  pub found : daemon_of r id ≡ Some daemon
  pub stays : daemon.left ≡ false
  pub holds : daemon.holds ≡ Some holding
  pub event_is : event ≡ events.End
  pub inside : (holding.nesting.depth == 0) ≡ false
  pub served : (served_number r == holding.number) ≡ true
  pub outer : nat_le holding.nesting.depth 1 ≡ true
  pub undoomed : holding.nesting.doom ≡ None

end_under : (r : Roll) (id : ℕ) (d : Daemon) (h : Holding) → daemon_of r id ≡ Some d → d.left ≡ false → d.holds ≡ Some h
    → (event : Event) → commits_under r h event ≡ true → IsOuterEnd r id event
end_under r id d h found stays holds events.Request keeps = and_never _ keeps
end_under r id d h found stays holds events.Begin keeps = and_never _ keeps
end_under r id d h found stays holds (events.Say call) keeps = and_never _ keeps
end_under r id d h found stays holds events.Cancel keeps = and_never _ keeps
end_under r id d h found stays holds events.Exit keeps = and_never _ keeps
end_under r id d h found stays holds (events.Look ticket) keeps = and_never _ keeps
end_under r id d h found stays holds (events.Leaves leave) keeps = and_never _ keeps
end_under r id d h found stays holds events.End keeps =
    let all = both (served_number r == h.number && not (is_outside h events.End)) (commits_in h.nesting events.End) keeps in
    let there = both (served_number r == h.number) (not (is_outside h events.End)) all.0 in
    let outer = both (nat_le h.nesting.depth 1) (is_none h.nesting.doom) all.1 in
    record {
      daemon = d;
      holding = h;
      found = found;
      stays = stays;
      holds = holds;
      event_is = refl;
      inside = is_not (h.nesting.depth == 0) there.1;
      served = there.0;
      outer = outer.0;
      undoomed = is_undoomed h.nesting.doom outer.1;
    }

-- an event that may keep its transaction is such an end
pub outer_end : (r : Roll) (id : ℕ) (event : Event) → commits_by r id event ≡ true → IsOuterEnd r id event
outer_end r id event keeps = by (daemon_of r id) refl keeps
  where
    held : (d : Daemon) → daemon_of r id ≡ Some d → d.left ≡ false → (o : Option Holding) → d.holds ≡ o
        → option_map_or (λ (h : Holding). commits_under r h event) o false ≡ true → IsOuterEnd r id event
    held d found stays None is keeps = absurd (true≢false (sym keeps))
    held d found stays (Some h) is keeps = end_under r id d h found stays is event keeps

    by : (o : Option Daemon) → daemon_of r id ≡ o → option_map_or (λ (d : Daemon). commits_of r d event) o false ≡ true → IsOuterEnd r id event
    by None is keeps = absurd (true≢false (sym keeps))
    by (Some d) is keeps =
        let of = both (not d.left) (option_map_or (λ (h : Holding). commits_under r h event) d.holds false) keeps in
        held d is (is_not d.left of.0) d.holds refl of.1

-- The transaction ends, and its state is kept; or the disk fails, and the state before stays.
pub data EndsOrFaults (m : Machine) (e : Made) (m' : Machine) : Type 0 where
  ends : e.said.answer ≡ answers.Closed closes.Ended → m'.before ≡ committed m.now → EndsOrFaults m e m'
  faults : IsAnswered e.said (answers.Reply replies.DiskFault) → m'.before ≡ m.before → EndsOrFaults m e m'

module _ (m : Machine) (e : Made) (m' : Machine) (d : Daemon) (h : Holding) where
  end_closes : e.said.event ≡ events.End → h.nesting.doom ≡ None → Closes m d h e m' → EndsOrFaults m e m'
  end_closes is none c =
      let ended : c.close ≡ closes.Ended =
      c.closes.how ∙ ap (λ event. closing h.nesting event) is
      ∙ ap (λ o. option_map_or (λ (reason : Reason). closes.Cancelled reason) o (close_of events.End h.nesting.modified)) none in
      EndsOrFaults.ends (c.closes.told.answer ∙ ap answers.Closed ended)
      (ap (λ (n : Machine). n.before) c.after ∙ c.closes.left ∙ ap (λ close. state_left close m.before m.now) ended)

  end_faults : FaultsWithin m d h events.End e m' → EndsOrFaults m e m'
  end_faults f = EndsOrFaults.faults f.faults.told (ap (λ (n : Machine). n.before) f.faults.after)

  -- an outermost end of the holder
  end_holds : e.said.event ≡ events.End → (h.nesting.depth == 0) ≡ false → (served_number m.roll == h.number) ≡ true → nat_le h.nesting.depth 1 ≡ true
      → h.nesting.doom ≡ None → Holds m d h events.End e m' → EndsOrFaults m e m'
  end_holds is inside served outer none enters =
      from_test (is_outside h events.End) enters (λ out _. absurd (true≢false (sym out ∙ inside)))
      (λ _ rest. from_test (served_number m.roll == h.number) rest (λ _ serves. proceeds serves)
      (λ unserved _. absurd (true≢false (sym served ∙ unserved))))
    where
      proceeds : OnTurn m d h events.End e m' → EndsOrFaults m e m'
      proceeds (inr broken) = end_faults broken
      proceeds (inl rest) =
          from_test (nat_le h.nesting.depth 1) rest (λ _ c. end_closes is none c) (λ deep _. absurd (true≢false (sym outer ∙ deep)))

-- what such an end leaves
pub end_keeps : (m : Machine) (e : Made) (m' : Machine) → m.roll.failed ≡ None → IsOuterEnd m.roll e.daemon e.said.event → MachineStep m e m' → EndsOrFaults m e m'
end_keeps m e m' sound end step =
    from_option m.roll.failed step
    (λ _ answered. from_option (daemon_of m.roll e.daemon) answered
    (λ none _. let no : None ≡ Some end.daemon = sym none ∙ end.found in absurd cc)
    (λ d found performs.
    let some : Some d ≡ Some end.daemon = sym found ∙ end.found in
    let same : d ≡ end.daemon = cc in
    from_test d.left performs
    (λ left _. absurd (true≢false (sym left ∙ ap (λ (x : Daemon). x.left) same ∙ end.stays)))
    (λ _ rest. from_option d.holds rest
    (λ none _. let no : None ≡ Some end.holding = sym none ∙ ap (λ (x : Daemon). x.holds) same ∙ end.holds in absurd cc)
    (λ h holds acts.
    let one : Some h ≡ Some end.holding = sym holds ∙ ap (λ (x : Daemon). x.holds) same ∙ end.holds in
    let mine : end.holding ≡ h = cc in
    end_holds m e m' d h end.event_is (subst (λ (k : Holding). (k.nesting.depth == 0) ≡ false) mine end.inside)
    (subst (λ (k : Holding). (served_number m.roll == k.number) ≡ true) mine end.served)
    (subst (λ (k : Holding). nat_le k.nesting.depth 1 ≡ true) mine end.outer)
    (subst (λ (k : Holding). k.nesting.doom ≡ None) mine end.undoomed)
    (subst (λ ev. Holds m d h ev e m') end.event_is acts)))))
    (λ moment broken _. let some : Some moment ≡ None = sym broken ∙ sound in absurd cc)
