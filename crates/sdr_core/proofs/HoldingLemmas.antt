-- Who holds a number after an event, and what is kept of what its daemon has said.
use Rattle.std.proofs.Common.{◌≡◌, ◌∙◌, ◌==◌, ℕ, List, [], ◌∷◌, Bool, true, false, true≢false, Option, None, Some, IsSome, MatchBool, length, refl, sym, ap, subst, arith}
use Rattle.std.proofs.lemmas.List.{length-map}
use Rattle.std.specs.Option.{option_map_or}
use Rattle.std.specs.Prelude.{if◌then◌else◌}
use Rattle.sdr_base.specs.Media.{Told}
use Rattle.sdr_model.specs.declared.event.Event.{Event}
use Rattle.sdr_model.specs.declared.event.Event.TheVariants as events
use Rattle.sdr_model.specs.declared.journal.Said.{Said}
use Rattle.sdr_machine.specs.Core.{Core, said_by}
use Rattle.sdr_machine.specs.Ground.{State}
use Rattle.sdr_machine.specs.Holders.{HoldFirst}
use Rattle.sdr_machine.specs.Machine.{Machine, Made, MachineStep, roll_acting, roll_coming, roll_failed, roll_holding}
use Rattle.sdr_machine.specs.Roll.{Roll, after_leave, daemon_of, served_number, with_daemon, with_drawn, with_number}
use Rattle.sdr_machine.specs.Transaction.{transaction_of}
use Rattle.sdr_machine.specs.declared.daemon.Daemon.{Daemon}
use Rattle.sdr_machine.specs.declared.daemon.Holding.{Holding}
use Rattle.sdr_machine.proofs.HolderSteps.{keeps_holders, put_holders}
use Rattle.sdr_machine.proofs.StepLemmas.{from_option}
use Rattle.law_runs.proofs.CoreLemmas.{KeepsCore}
use Rattle.law_runs.proofs.CurrentLemmas.{Current}
use Rattle.sdr_machine.proofs.RollLemmas.{contrary, same_number}
use Rattle.law_runs.proofs.WorkLemmas.{SoFar, Untouched}
use Rattle.sdr_core.proofs.PlaceLemmas.{none_works}
use Rattle.sdr_core.proofs.SpokenLemmas.{said_by-none}
use Rattle.sdr_core.specs.Keeping.{spoken_of, works_of}
use Rattle.sdr_core.specs.declared.spoken.Spoken.{Spoken}

-- who holds a number after an event, where the disk had failed
module _ (r : Roll) (event : Event) where
  abbrev Kept : Roll → Type 0
  Kept r' = HoldFirst [] r.daemons → HoldFirst [] r'.daemons

  stays : (d : Daemon) → (IsSome d.holds → d.left ≡ false) → Kept (with_daemon r d)
  stays d may = (put_holders r (with_daemon r d) d refl may).first

  left : (d : Daemon) → Kept (with_daemon r (after_leave d))
  left d = stays (after_leave d) (λ some. absurd (true≢false (sym some)))

  coming : (d : Daemon) → d.left ≡ false → (ev : Event) → Kept (roll_coming r d ev)
  coming d here events.Request = stays _ (λ _. here)
  coming d here (events.Leaves leave) = by (served_number r == 0)
    where
      by : (b : Bool) → Kept (if b then with_daemon (with_drawn r) (after_leave d) else with_number r d 0)
      by true = left d
      by false = stays _ (λ _. here)
  coming d here ev = λ first. first

  holding : (d : Daemon) (h : Holding) (ev : Event) → Kept (roll_holding r d h ev)
  holding d h (events.Leaves leave) = by (served_number r == h.number)
    where
      by : (b : Bool) → Kept (if b then with_daemon r (after_leave d) else r)
      by true = left d
      by false = λ first. first
  holding d h ev = λ first. first

  acting : (d : Daemon) → Kept (roll_acting r d event)
  acting d = by d.left refl
    where
      of : (o : Option Holding) → d.left ≡ false → Kept (option_map_or (λ (h : Holding). roll_holding r d h event) o (roll_coming r d event))
      of None here = coming d here event
      of (Some h) here = holding d h event

      by : (b : Bool) → d.left ≡ b → Kept (if b then r else option_map_or (λ (h : Holding). roll_holding r d h event) d.holds (roll_coming r d event))
      by true is = λ first. first
      by false is = of d.holds is

  failed_first : (daemon : ℕ) → Kept (roll_failed r daemon event)
  failed_first daemon = by (daemon_of r daemon)
    where
      by : (o : Option Daemon) → Kept (option_map_or (λ (d : Daemon). roll_acting r d event) o r)
      by None = λ first. first
      by (Some d) = acting d

-- only those hold a number that may, after an event too
pub first_after : (m : Machine) (e : Made) (m' : Machine) → MachineStep m e m' → HoldFirst [] m.roll.daemons → HoldFirst [] m'.roll.daemons
first_after m e m' step first = by m.roll.failed refl
  where
    by : (o : Option ℕ) → m.roll.failed ≡ o → HoldFirst [] m'.roll.daemons
    by None sound = (keeps_holders m e m' sound step).first first
    by (Some moment) broken =
        from_option m.roll.failed step (λ sound _. let no : Some moment ≡ None = sym broken ∙ sound in absurd cc)
        (λ _ _ goes. subst (HoldFirst []) (sym (ap (λ (n : Machine). n.roll.daemons) goes.after)) (failed_first m.roll e.said.event e.daemon first))

-- there are as many daemons in every core of a run
pub as_many : (told : Option Told) (daemons : List ℕ) (first : State) (c c' : Core) → KeepsCore told daemons first c → KeepsCore told daemons first c'
    → length c'.machine.roll.daemons ≡ length c.machine.roll.daemons
as_many told daemons first c c' one two =
    let a = length-map c.machine.roll.daemons (λ (d : Daemon). d.id) in
    let b = length-map c'.machine.roll.daemons (λ (d : Daemon). d.id) in
    let n = ap (λ (ids : List ℕ). length ids) one.roll.numbers in
    let k = ap (λ (ids : List ℕ). length ids) two.roll.numbers in
    omega (arith, a, b, n, k)

-- a daemon in a transaction has said its begin at least
some_said : (told : Option Told) (said : List Said) (h : Holding) → (h.nesting.depth == 0) ≡ false → (s : State) → Untouched told said (Some h) → said ≡ [] → ⊥
some_said told said h inside s is none = by (h.nesting.depth == 0) inside is
  where
    by : (b : Bool) → b ≡ false → MatchBool b (said ≡ []) ((s : State) → SoFar told s h.number said (transaction_of h s)) → ⊥
    by true e all = contrary refl e
    by false e all = let far = all s in let no : far.begin ∷ far.more ≡ [] = sym far.all ∙ none in absurd cc

-- what a daemon has said in its open transaction is kept, unless the disk has failed
abbrev pub HaveSpoken : Roll → List Spoken → Type 0
HaveSpoken r spoken =
    r.failed ≡ None → (id : ℕ) (d : Daemon) (h : Holding) → daemon_of r id ≡ Some d → d.holds ≡ Some h → (h.nesting.depth == 0) ≡ false
    → IsSome (spoken_of spoken id)

pub spoken_kept : (told : Option Told) (daemons : List ℕ) (first : State) (c : Core) (spoken : List Spoken) → KeepsCore told daemons first c → works_of spoken ≡ c.log.works
    → HaveSpoken c.machine.roll spoken
spoken_kept told daemons first c spoken keeps is sound id d h found holds inside = by (spoken_of spoken id) refl
  where
    nothing : spoken_of spoken id ≡ None → said_by c.log.works id ≡ []
    nothing none = ap (λ ws. said_by ws id) (sym is) ∙ said_by-none (works_of spoken) id (none_works spoken id none)

    untouched : Untouched told (said_by c.log.works id) d.holds → said_by c.log.works id ≡ [] → ⊥
    untouched all none = some_said told (said_by c.log.works id) h inside c.machine.now (subst (Untouched told (said_by c.log.works id)) holds all) none

    of : Current told c.machine c.log.works → said_by c.log.works id ≡ [] → ⊥
    of (Current.rests still all) none = untouched (all id d found) none
    of (Current.working other y k is others) none = who (other == id) refl
      where
        who : (b : Bool) → (other == id) ≡ b → ⊥
        who true e =
            let here : said_by c.log.works other ≡ [] = ap (said_by c.log.works) (same_number other id e) ∙ none in
            let no : is.far.begin ∷ is.far.more ≡ [] = sym is.far.all ∙ here in absurd cc
        who false e = untouched (others id d e found) none

    by : (o : Option Spoken) → spoken_of spoken id ≡ o → IsSome o
    by (Some s) there = refl
    by None none = absurd (of (keeps.works sound).current (nothing none))
