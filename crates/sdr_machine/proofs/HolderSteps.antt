-- What a step leaves of who holds a number.
use Rattle.std.proofs.Common.{◌≡◌, ◌⊎◌, ◌∙◌, ◌==◌, ◌&&◌, ◌+◌, ℕ, [], true, false, true≢false, Option, None, Some, IsSome, is_none, is_some, length, arith, MatchBool, refl, sym, ap, subst, inl, inr}
use Rattle.std.proofs.lemmas.Bool.Decides.{nat_tests}
use Rattle.std.specs.Option.{option_map_or}
use Rattle.sdr_model.specs.AccountSteps.{pending_of}
use Rattle.sdr_model.specs.declared.answer.Answer.{Answer}
use Rattle.sdr_model.specs.declared.event.Event.{Event}
use Rattle.sdr_model.specs.declared.event.Event.TheVariants as events
use Rattle.sdr_model.specs.declared.event.Leave.{Leave}
use Rattle.sdr_machine.specs.Ground.{HasHeap}
use Rattle.sdr_machine.specs.Holders.{HoldFirst, hold_none, holders}
use Rattle.sdr_machine.specs.Leaving.{holds_number, served_daemon}
use Rattle.sdr_machine.specs.Machine.{Machine, Made, MachineStep, Closes, Comes, ComesLeaving, Enters, Faults, FaultsWithin, Goes, Holds, LeavesHolding, Looks, Performs, OnTurn, GoesOnIn, is_outside}
use Rattle.sdr_machine.specs.Roll.{Roll, when_done, after_leave, when_passed_over, after_wait, daemon_of, is_stalled, served_number, waits_for, with_daemon}
use Rattle.sdr_machine.specs.Transaction.{is_closing, is_opening, transaction_of}
use Rattle.sdr_machine.specs.declared.daemon.Daemon.{Daemon}
use Rattle.sdr_machine.specs.declared.daemon.Holding.{Holding}
use Rattle.sdr_machine.proofs.HolderLemmas.{IsFirst, find_first, find_free, none_least, put_fewer, put_first, put_length, put_none, served_holds}
use Rattle.sdr_machine.proofs.StepLemmas.{from_option, from_test}

-- there are as many daemons, and each that holds a number still may
pub record KeepsHolders (r r' : Roll) : Type 0 where
  pub length : length r'.daemons ≡ length r.daemons
  pub first : HoldFirst [] r.daemons → HoldFirst [] r'.daemons

-- the same daemons
pub same_holders : (r r' : Roll) → r'.daemons ≡ r.daemons → KeepsHolders r r'
same_holders r r' same = record { length = ap length same; first = λ first. subst (HoldFirst []) (sym same) first }

-- one is put in its place that hasn't left, or holds no number
pub put_holders : (r r' : Roll) (d : Daemon) → r'.daemons ≡ (with_daemon r d).daemons → (IsSome d.holds → d.left ≡ false) → KeepsHolders r r'
put_holders r r' d same stays = record {
  length = ap length same ∙ put_length d r.daemons;
  first = λ first. subst (HoldFirst []) (sym same) (put_first d [] r.daemons stays refl first);
}

free : {P : Type 0} (o : Option Holding) → o ≡ None → IsSome o → P
free o is holds = absurd (true≢false (sym (subst IsSome is holds)))

module _ (m : Machine) (e : Made) (m' : Machine) where
  abbrev Kept : Type 0
  Kept = KeepsHolders m.roll m'.roll

  same : (answer : Answer) (next : Machine) → Goes e m' answer next → next.roll.daemons ≡ m.roll.daemons → Kept
  same answer next goes daemons = same_holders m.roll m'.roll (ap (λ (n : Machine). n.roll.daemons) goes.after ∙ daemons)

  put : (d : Daemon) (answer : Answer) (next : Machine) → Goes e m' answer next → next.roll.daemons ≡ (with_daemon m.roll d).daemons
      → (IsSome d.holds → d.left ≡ false) → Kept
  put d answer next goes daemons stays = put_holders m.roll m'.roll d (ap (λ (n : Machine). n.roll.daemons) goes.after ∙ daemons) stays

  faults : (d : Daemon) (roll : Roll) → roll.daemons ≡ (with_daemon m.roll d).daemons → d.holds ≡ None → Faults m e roll m' → Kept
  faults d roll daemons none fault =
      put_holders m.roll m'.roll d (ap (λ (n : Machine). n.roll.daemons) fault.after ∙ daemons) (free d.holds none)

  looks : (d : Daemon) (ticket : ℕ) (roll : Roll) → roll.daemons ≡ m.roll.daemons → Looks m d e ticket roll m' → Kept
  looks d ticket roll daemons (inr fault) = faults (when_done d) _ (λ i. (with_daemon (record m.roll { daemons = daemons i }) (when_done d)).daemons) refl fault
  looks d ticket roll daemons (inl seen) =
      from_option (pending_of m.before.world ticket) seen
      (λ _ goes. put (when_passed_over d) _ _ goes (λ i. (with_daemon (record m.roll { daemons = daemons i }) (when_passed_over d)).daemons) (free None refl))
      (λ p _ rest. from_test p.ticket.granted rest
      (λ _ goes. put (when_done d) _ _ goes (λ i. (with_daemon (record m.roll { daemons = daemons i }) (when_done d)).daemons) (free None refl))
      (λ _ waits. from_test (waits_for d ticket && is_stalled m.roll m.before.world) waits
      (λ _ goes. put (when_done d) _ _ goes (λ i. (with_daemon (record m.roll { daemons = daemons i }) (when_done d)).daemons) (free None refl))
      (λ _ goes. put (after_wait d ticket) _ _ goes (λ i. (with_daemon (record m.roll { daemons = daemons i }) (after_wait d ticket)).daemons) (free None refl))))

  comes : (d : Daemon) (event : Event) → d.left ≡ false → Comes m d event e m' → Kept
  comes d events.Request left goes = put _ _ _ goes refl (λ _. left)
  comes d events.Begin left goes = put _ _ _ goes refl (λ _. left)
  comes d (events.Look ticket) left come =
      from_test (served_number m.roll == 0) come (λ _ seen. looks d ticket _ refl seen) (λ _ goes. put _ _ _ goes refl (λ _. left))
  comes d (events.Leaves leave) left come =
      from_test (served_number m.roll == 0) come (λ _ goes. put (after_leave d) _ _ goes refl (free None refl)) (λ _ goes. put _ _ _ goes refl (λ _. left))
  comes d event left goes = same _ _ goes refl

  closes : (d : Daemon) (h : Holding) → Closes m d h e m' → Kept
  closes d h close = put_holders m.roll m'.roll (when_done d) (ap (λ (n : Machine). n.roll.daemons) close.after) (free None refl)

  ends : (d : Daemon) (h : Holding) (event : Event) → Closes m d h e m' ⊎ FaultsWithin m d h event e m' → Kept
  ends d h event (inl close) = closes d h close
  ends d h event (inr fault) = faults (when_done d) _ refl refl fault.faults

  serves : (d : Daemon) (h : Holding) (event : Event) → d.left ≡ false → OnTurn m d h event e m' → Kept
  serves d h event left served =
      from_test (is_opening (transaction_of h m.now) event) served (λ _ goes. put _ _ _ goes refl (λ _. left)) (λ _ either. proceeds either)
    where
      proceeds : MatchBool (is_closing (transaction_of h m.now) event) (Closes m d h e m') (GoesOnIn m d h event e m') ⊎ FaultsWithin m d h event e m' → Kept
      proceeds (inr fault) = faults (when_done d) _ refl refl fault.faults
      proceeds (inl goes_on) =
          from_test (is_closing (transaction_of h m.now) event) goes_on (λ _ close. closes d h close)
          (λ _ works. put_holders m.roll m'.roll _ (ap (λ (n : Machine). n.roll.daemons) works.others) (λ _. left))

  enters : (d : Daemon) (h : Holding) (event : Event) → d.left ≡ false → Enters m d h event e m' → Kept
  enters d h event left enter =
      from_test (is_outside h event) enter (λ _ goes. same _ _ goes refl)
      (λ _ rest. from_test (served_number m.roll == h.number) rest (λ _ served. serves d h event left served) (λ _ goes. same _ _ goes refl))

  holds : (d : Daemon) (h : Holding) (event : Event) → d.left ≡ false → Holds m d h event e m' → Kept
  holds d h events.Request left goes = same _ _ goes refl
  holds d h (events.Look ticket) left look =
      from_test (h.nesting.depth == 0) look
      (λ _ rest. from_test (served_number m.roll == h.number) rest (λ _ seen. looks d ticket m.roll refl seen) (λ _ goes. same _ _ goes refl))
      (λ _ goes. same _ _ goes refl)
  holds d h (events.Leaves leave) left leaves =
      from_test (served_number m.roll == h.number) leaves
      (λ _ departs. from_test (h.nesting.depth == 0) departs (λ _ goes. put (after_leave d) _ _ goes refl (free None refl))
      (λ _ end. ends d h (events.Leaves leave) end))
      (λ _ goes. same _ _ goes refl)
  holds d h event left enter = enters d h event left enter

  -- A step keeps who may hold a number, where the disk hasn't failed.
  pub keeps_holders : m.roll.failed ≡ None → MachineStep m e m' → Kept
  keeps_holders sound step =
      from_option m.roll.failed step
      (λ _ answered. from_option (daemon_of m.roll e.daemon) answered (λ _ goes. same _ _ goes refl)
      (λ d _ performs. from_test d.left performs (λ _ goes. same _ _ goes refl)
      (λ left rest. from_option d.holds rest (λ _ come. comes d e.said.event left come) (λ h _ held. holds d h e.said.event left held))))
      (λ moment some goes. absurd (some_none moment (sym some ∙ sound)))
    where
      some_none : (n : ℕ) → Some n ≡ None → ⊥
      some_none n is = cc

  -- The served daemon's leave gives up its number, where there is no heap.
  module _ (leave : Leave) (d : Daemon) (sound : m.roll.failed ≡ None) (no_heap : ¬ HasHeap m.before.base) (may : HoldFirst [] m.roll.daemons)
      (served : served_daemon m.roll ≡ Some d) (by_id : e.daemon ≡ d.id) (said : e.said.event ≡ events.Leaves leave) where
    held : holds_number (served_number m.roll) d ≡ true
    held = served_holds (holds_number (served_number m.roll)) m.roll.daemons d served

    holding : (o : Option Holding) → d.holds ≡ o → IsSome d.holds
    holding None is = absurd (true≢false (sym held ∙ ap (λ (o : Option Holding). option_map_or (λ (h : Holding). h.number == served_number m.roll) o false) is))
    holding (Some h) is = ap is_some is

    first : IsFirst [] m.roll.daemons d
    first = find_first (holds_number (served_number m.roll)) [] m.roll.daemons d may served (holding d.holds refl)

    abbrev Fewer : Type 0
    Fewer = holders m.roll.daemons ≡ holders m'.roll.daemons + 1

    gives_up : (d' : Daemon) → d'.id ≡ d.id → d'.holds ≡ None → m'.roll.daemons ≡ (with_daemon m.roll d').daemons → Fewer
    gives_up d' id none is = put_fewer d d' m.roll.daemons first.found id (holding d.holds refl) none ∙ ap (λ ds. holders ds + 1) (sym is)

    departs : (h : Holding) → d.holds ≡ Some h → LeavesHolding m d h (events.Leaves leave) e m' → Fewer
    departs h is leaves =
        from_test (served_number m.roll == h.number) leaves
        (λ _ departing. from_test (h.nesting.depth == 0) departing
        (λ _ goes. gives_up (after_leave d) refl refl (ap (λ (n : Machine). n.roll.daemons) goes.after)) (λ _ end. ending end))
        (λ other _. absurd (true≢false (sym (mine h.number (served_number m.roll) (number is)) ∙ other)))
      where
        number : d.holds ≡ Some h → (h.number == served_number m.roll) ≡ true
        number is = sym (ap (λ (o : Option Holding). option_map_or (λ (h : Holding). h.number == served_number m.roll) o false) is) ∙ held

        mine : (a b : ℕ) → (a == b) ≡ true → (b == a) ≡ true
        mine a b is = grind (arith, nat_tests)

        ending : Closes m d h e m' ⊎ FaultsWithin m d h (events.Leaves leave) e m' → Fewer
        ending (inl close) = gives_up (when_done d) refl refl (ap (λ (n : Machine). n.roll.daemons) close.after)
        ending (inr fault) = absurd (no_heap fault.faults.heap)

    performs : Performs m d e m' → Fewer
    performs performed =
        from_test d.left performed (λ left _. absurd (true≢false (sym left ∙ first.stays)))
        (λ _ rest. from_option d.holds rest (λ none _. free d.holds none (holding d.holds refl))
        (λ h is kept. departs h is (subst (λ (ev : Event). Holds m d h ev e m') said kept)))

    pub leave_fewer : MachineStep m e m' → Fewer
    leave_fewer step =
        from_option m.roll.failed step
        (λ _ answered. from_option (daemon_of m.roll e.daemon) answered (λ none _. absurd (some_none d (sym found ∙ none)))
        (λ x some performed. performs (let same : x ≡ d = cc (some, found) in subst (λ (y : Daemon). Performs m y e m') same performed)))
        (λ moment some goes. absurd (moment_none moment (sym some ∙ sound)))
      where
        found : daemon_of m.roll e.daemon ≡ Some d
        found = subst (λ id. daemon_of m.roll id ≡ Some d) (sym by_id) first.found

        some_none : (d : Daemon) → Some d ≡ None → ⊥
        some_none d is = cc

        moment_none : (n : ℕ) → Some n ≡ None → ⊥
        moment_none n is = cc

  -- Where none holds a number, none does after a leave.
  pub leave_none : (leave : Leave) → m.roll.failed ≡ None → hold_none m.roll.daemons ≡ true → e.said.event ≡ events.Leaves leave → MachineStep m e m'
      → hold_none m'.roll.daemons ≡ true
  leave_none leave sound none said step =
      from_option m.roll.failed step
      (λ _ answered. from_option (daemon_of m.roll e.daemon) answered (λ _ goes. stays goes)
      (λ d found performed. from_test d.left performed (λ _ goes. stays goes)
      (λ left rest. from_option d.holds rest (λ _ come. comes_none d (subst (λ (ev : Event). Comes m d ev e m') said come))
      (λ h is _. absurd (true≢false (sym (find_free (λ (x : Daemon). x.id == e.daemon) m.roll.daemons d found none) ∙ ap is_none is))))))
      (λ moment some goes. absurd (moment_none moment (sym some ∙ sound)))
    where
      moment_none : (n : ℕ) → Some n ≡ None → ⊥
      moment_none n is = cc

      stays : {answer : Answer} → Goes e m' answer m → hold_none m'.roll.daemons ≡ true
      stays goes = ap (λ (n : Machine). hold_none n.roll.daemons) goes.after ∙ none

      comes_none : (d : Daemon) → ComesLeaving m d e m' → hold_none m'.roll.daemons ≡ true
      comes_none d come =
          from_test (served_number m.roll == 0) come
          (λ _ goes. ap (λ (n : Machine). hold_none n.roll.daemons) goes.after ∙ put_none (after_leave d) m.roll.daemons refl none)
          (λ other _. absurd (true≢false (sym (ap (λ n. n == 0) (none_least m.roll.daemons none)) ∙ other)))
