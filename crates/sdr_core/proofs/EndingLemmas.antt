-- The ground of a run behind which no number is held.
use Rattle.std.proofs.Common.{◌≡◌, ◌∙◌, ◌&&◌, ◌==◌, ℕ, Bool, List, [], ◌∷◌, true, false, true≢false, is_none, Option, None, Some, refl, sym, ap, subst}
use Rattle.law_runs.proofs.CurrentLemmas.{IsWorking, at_rest}
use Rattle.law_runs.proofs.KeepLemmas.{none_held}
use Rattle.law_runs.proofs.RunLemmas.{run_is_after, run_keeps}
use Rattle.sdr_core.specs.CoreKept.{KeepsRun, KeepsSafe, LoggedLock, RunStart, core_at}
use Rattle.sdr_core.specs.Ended.{StandsEnded}
use Rattle.sdr_machine.specs.Holders.{hold_none}
use Rattle.sdr_machine.specs.Roll.{lesser_of, least_held}
use Rattle.sdr_machine.specs.declared.daemon.Daemon.{Daemon}
use Rattle.sdr_machine.specs.declared.daemon.Holding.{Holding}
use Rattle.sdr_machine.specs.declared.has_ground.HasGround.{Ghosts}
use Rattle.sdr_model.specs.declared.journal.Entry.{Entry}

-- both tests are true where the one and the other is
both : (a b : Bool) → (a && b) ≡ true → (a ≡ true) × (b ≡ true)
both true b is = (refl, is)
both false b is = absurd (true≢false (sym is))

-- where no number is held, none is served
least_none : (ds : List Daemon) → hold_none ds ≡ true → least_held ds ≡ 0
least_none [] none = refl
least_none (d ∷ ds) none =
    let parts = both (is_none d.holds) (hold_none ds) none in
    ap (lesser_of d.holds) (least_none ds parts.1) ∙ by d.holds parts.0
  where
    by : (o : Option Holding) → is_none o ≡ true → lesser_of o 0 ≡ 0
    by None is = refl
    by (Some h) is = absurd (true≢false (sym is))

-- a disk that hasn't failed by a test hasn't
none_of : (failed : Option ℕ) → is_none failed ≡ true → failed ≡ None
none_of None is = refl
none_of (Some moment) is = absurd (true≢false (sym is))

-- so it has ended, and the ground stands for what it has come to
pub stands_ended : {T : Type 0} (g : Ghosts T) (b : RunStart) (k : LoggedLock T) (journal : List Entry) (base : T) → journal ≡ k.log.journal
    → base ≡ k.lock.base → KeepsRun g b k → KeepsSafe g b k.log.journal k.lock.roll.failed k.lock.base
    → (k.lock.roll.failed ≡ None → hold_none k.lock.roll.daemons ≡ true) → StandsEnded g b journal base
stands_ended {T} g b k journal base same_journal same_base run safe none =
    subst (λ (entries : List Entry). StandsEnded g b entries base) (sym same_journal)
    (subst (λ (t : T). StandsEnded g b k.log.journal t) (sym same_base) (λ sound.
    let unfailed = none_of k.lock.roll.failed (sym safe.sound ∙ sound) in
    let c = core_at k run.for in
    let keeps = run_keeps b.told b.daemons b.first run.made c run.runs in
    let free = ap (λ (n : ℕ). n == 0) (least_none k.lock.roll.daemons (none unfailed)) in
    record {
      for = run.for;
      holds = run.stood unfailed;
      tells = record {
        after = run_is_after b.told b.daemons b.first run.made c run.runs;
        closed = (at_rest b.told c.machine c.log.works (keeps.works unfailed).current
            (λ (id : ℕ) (d : Daemon) (h : Holding) (is : IsWorking b.told c.machine c.log.works id d h).
            none_held b.daemons c.log.journal c.machine.roll id d h keeps.roll free is.held)).0;
      };
    }))
