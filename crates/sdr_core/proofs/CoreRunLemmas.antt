-- A core as a run: what its events and its leaves make of it.
use Rattle.std.proofs.Common.{◌≤◌, ◌+◌, ℕ, suc, List, refl, sym, subst}
use Rattle.sdr_machine.specs.Asked.{outside_asked}
use Rattle.sdr_machine.specs.Core.{Core, CoreStep}
use Rattle.sdr_machine.specs.Machine.{Made}
use Rattle.sdr_machine.specs.Serving.{made_by}
use Rattle.sdr_machine.specs.declared.came.Came.{Came}
use Rattle.sdr_machine.specs.declared.has_ground.HasGround.{Ghosts}
use Rattle.sdr_model.specs.declared.event.Event.{Event}
use Rattle.sdr_core.specs.CoreKept.{LoggedLock, MakesCoreStep, core_at}
use Rattle.sdr_core.specs.CoreRun.{CoreAt, GivesBytes, rolls_at}
use Rattle.sdr_core.specs.Going.{GoesUnasked, MakesNext}
use Rattle.sdr_core.specs.Leaving.{LastsOn, RunLeads}
use Rattle.sdr_core.specs.declared.has_run.HasRun.{Ghosts as RunGhosts}

-- a core as a run
abbrev pub core_run : {T : Type 0} → Ghosts T → RunGhosts (LoggedLock T)
core_run g = record {
  at = λ k c. CoreAt g k c;
  roll_of = λ k. k.lock.roll;
  told = λ k. g.told k.lock.base;
  lapses = λ k. g.lapses k.lock.base;
  asks = λ k. g.asks k.lock.base;
  lasts = λ k. LastsOn g k.lock.base;
  gives = λ k came bytes. GivesBytes g k came bytes;
  rolls = λ k c at. rolls_at g k c at;
}

-- an event of a core
pub next_of : {T : Type 0} (g : Ghosts T) (daemon line : ℕ) (event : Event) (a : Came) (old new : LoggedLock T)
    → MakesCoreStep g daemon line event a old.lock old.log new.lock new.log → LastsOn g old.lock.base → MakesNext (core_run g) daemon line event a old new
next_of g daemon line event a old new makes lasts = record {
  each = λ c at.
      let s = makes.step.each at.for at.stood in
      let e : Made = made_by daemon event a (g.moment old.lock.base) (g.moment new.lock.base) line s.for in
      record {
        made = e;
        next = core_at new s.for;
        here = record { for = s.for; stood = s.stood; is = refl };
        step = subst (λ (k : Core). CoreStep (g.told old.lock.base) k e (core_at new s.for)) at.is s.tells;
        daemon_is = refl;
        line_is = refl;
        event_is = refl;
        answer_is = refl;
        bytes_are = λ bytes gives. gives s.for (λ called. s.stood (makes.called called));
        few = subst (λ (k : Core). g.asks new.lock.base ≤ g.asks old.lock.base + outside_asked k.machine daemon event) at.is (makes.media.each at.for at.stood);
      };
  told = makes.asks.kept.media;
  lapses = makes.asks.kept.lapses;
  gap = makes.asks.gap;
  drawn = makes.drawn;
  lasts = λ n. makes.asks.kept.lasts n (lasts (suc n));
}

-- what its leaves lead to
pub leads_of : {T : Type 0} (g : Ghosts T) (P : Core → List Made → Core → Type 0) (old new : LoggedLock T) → GoesUnasked (core_run g) P old new → RunLeads g P old new
leads_of g P old new left = record {
  each = λ v stood.
      let s = left.each (core_at old v) (record { for = v; stood = stood; is = refl }) in
      record {
        for = s.here.for;
        stood = s.here.stood;
        tells = record { made = s.made; tells = subst (P (core_at old v) s.made) (sym s.here.is) s.tells };
      };
  media = left.told;
  lapses = left.lapses;
}
