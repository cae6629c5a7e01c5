-- A core run is decided, chance aside.
use Rattle.std.proofs.Common.{◌≡◌, ◌∙◌, ℕ, List, [], ◌∷◌, Option, refl, sym, subst}
use Rattle.sdr_base.specs.Media.{Told}
use Rattle.sdr_machine.specs.Agreeing.{AgreesWith}
use Rattle.sdr_machine.specs.Core.{Core, CoreStep, RunsCore, core_after, first_core}
use Rattle.sdr_machine.specs.Ground.{State}
use Rattle.sdr_machine.specs.Machine.{Made, MachineStep}
use Rattle.law_runs.specs.Choosing.{AreAlike, RunAlike}
use Rattle.law_runs.proofs.DecideLemmas.{SameStep, answered_so, step_same}

-- one step of two runs
core_steps_same : (told : Option Told) (c : Core) (e e' : Made) (c1 c2 : Core) → AreAlike told e e' → CoreStep told c e c1 → CoreStep told c e' c2
    → (e' ≡ e) × (c2 ≡ c1)
core_steps_same told c e e' c1 c2 alike one two = (again, two.history ∙ (λ i. core_after c (again i) (same.machine i)) ∙ sym one.history)
  where
    -- the other event is this one, answered in another way
    is_so : e' ≡ answered_so e e'.said.answer e'.said.bytes e'.said.moves
    is_so = λ i. record {
      daemon = alike.daemon i;
      said = record { line = alike.line i; event = alike.event i; answer = e'.said.answer; bytes = e'.said.bytes; moves = e'.said.moves };
      begun = alike.begun i;
      done = alike.done i;
    }

    same : SameStep e e'.said.answer e'.said.bytes e'.said.moves one.next two.next
    same =
        step_same told c.machine e e'.said.answer e'.said.bytes e'.said.moves one.next two.next one.media
        (subst (λ event. AgreesWith told c.machine.now.world event e'.said.answer e'.said.bytes) alike.event two.media)
        alike.chance alike.bytes one.step (subst (λ x. MachineStep c.machine x two.next) is_so two.step)

    again : e' ≡ e
    again = is_so ∙ (λ i. answered_so e (same.answer_is i) (same.bytes_are i) (same.moves_are i))

-- two runs
runs_same : (told : Option Told) (made others : List Made) (c c1 c2 : Core) → RunAlike told made others → RunsCore told c made c1 → RunsCore told c others c2
    → (others ≡ made) × (c2 ≡ c1)
runs_same told [] [] c c1 c2 alike one two = (refl, two ∙ sym one)
runs_same told [] (e' ∷ others) c c1 c2 alike one two = absurd alike
runs_same told (e ∷ made) [] c c1 c2 alike one two = absurd alike
runs_same told (e ∷ made) (e' ∷ others) c c1 c2 alike one two =
    let step : (e' ≡ e) × (two.0 ≡ one.0) = core_steps_same told c e e' one.0 two.0 alike.0 one.1 two.1 in
    let rest : (others ≡ made) × (c2 ≡ c1) = runs_same told made others one.0 c1 c2 alike.1 one.2 (subst (λ x. RunsCore told x others c2) step.1 two.2) in
    ((λ i. step.0 i ∷ rest.0 i), rest.1)

pub run_decides : (told : Option Told) (daemons : List ℕ) (first : State) (made others : List Made) (core core' : Core) → RunAlike told made others
    → RunsCore told (first_core daemons first) made core → RunsCore told (first_core daemons first) others core' → (others ≡ made) × (core' ≡ core)
run_decides told daemons first made others core core' alike one two = runs_same told made others (first_core daemons first) core core' alike one two
