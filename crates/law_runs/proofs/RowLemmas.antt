-- Small runs, step by step.
use Rattle.std.proofs.Common.{◌≡◌, ℕ, List, [], ◌∷◌, Option, None, Some, refl, inl, false, true}
use Rattle.sdr_machine.specs.Core.{Core, RunsCore, core_after, first_core}
use Rattle.sdr_machine.specs.Ground.{MayMissMedia, State, bare}
use Rattle.std.proofs.Common.{sym}
use Rattle.sdr_base.specs.declared.moves.Move.{Move}
use Rattle.sdr_machine.specs.Nesting.{noted}
use Rattle.sdr_machine.specs.Transaction.{Replies, bytes_given}
use Rattle.sdr_model.specs.Dry.{StepsDry}
use Rattle.sdr_model.specs.declared.answer.Answer.TheVariants as answers
use Rattle.sdr_model.specs.declared.answer.Reply.{Reply}
use Rattle.sdr_model.specs.declared.call.Call.{Call}
use Rattle.sdr_machine.specs.Machine.{Machine, Made, MachineStep}
use Rattle.sdr_machine.specs.declared.daemon.Daemon.{Daemon}
use Rattle.sdr_machine.specs.declared.daemon.Holding.{Holding}
use Rattle.sdr_machine.specs.declared.nesting.Nesting.{Nesting}
use Rattle.sdr_model.specs.World.{World}
use Rattle.law_runs.specs.Rows.{LeavesJournal, called, said}
use Rattle.std.specs.Prelude.{⊤}
use Rattle.sdr_machine.specs.Transaction.{IsAnswered}
use Rattle.sdr_model.specs.declared.answer.Answer.{Answer}
use Rattle.sdr_model.specs.declared.event.Event.{Event}
use Rattle.sdr_model.specs.declared.journal.Entry.{Entry}

infixr 20 ◌and◌
-- one fact, and others
pub ◌and◌ : {A B : Type 0} → A → B → A × B
◌and◌ a b = (a, b)

-- the core after these events, by which its machine went through these
abbrev pub core_through : Core → List Made → List Machine → Core
core_through c (e ∷ made) (m ∷ machines) = core_through (core_after c e m) made machines
core_through c made machines = c

-- each event is a step of the machine to the next of these
abbrev pub AreSteps : Core → List Made → List Machine → Type 0
AreSteps c [] [] = ⊤
AreSteps c (e ∷ made) (m ∷ machines) = MachineStep c.machine e m × AreSteps (core_after c e m) made machines
AreSteps c made machines = ⊥

steps_run : (c : Core) (made : List Made) (machines : List Machine) → AreSteps c made machines → RunsCore None c made (core_through c made machines)
steps_run c [] [] steps = refl
steps_run c [] (m ∷ machines) steps = absurd steps
steps_run c (e ∷ made) [] steps = absurd steps
steps_run c (e ∷ made) (m ∷ machines) steps =
    (core_after c e m, record { next = m; step = steps.0; media = tt; history = refl }, steps_run (core_after c e m) made machines steps.1)

-- so they leave the journal of that core
pub steps_leave : (daemons : List ℕ) (first : State) (made : List Made) (machines : List Machine) (journal : List Entry) → AreSteps (first_core daemons first) made machines
    → (core_through (first_core daemons first) made machines).log.journal ≡ journal → LeavesJournal daemons first made journal
steps_leave daemons first made machines journal steps kept = record {
  core = core_through (first_core daemons first) made machines;
  runs = steps_run (first_core daemons first) made machines steps;
  kept = kept;
}

-- a daemon that hasn't left and waits for nothing
abbrev pub holder : ℕ → Option Holding → Daemon
holder id holds = record { id = id; left = false; waits = None; holds = holds }

-- a number, and the nesting of its transaction
abbrev pub under : ℕ → Nesting → Option Holding
under number n = Some (record { number = number; nesting = n })

-- the machine of these daemons, where so many numbers are drawn
abbrev pub machine : List Daemon → ℕ → State → State → Machine
machine daemons drawn before now = record { roll = record { daemons = daemons; drawn = drawn; failed = None }; before = before; now = now }

-- what is said has its answer, no moves and no bytes
pub plain : {line : ℕ} {event : Event} {answer : Answer} → IsAnswered (said line event answer) answer
plain = record { answer = refl; moves = refl; bytes = refl }

-- a transaction at this depth in which something was changed
abbrev pub modified_at : ℕ → Nesting
modified_at depth = record { depth = depth; doom = None; modified = true }

-- with no heap, a call in a transaction comes to this, and gives no bytes
pub answers_so : (number : ℕ) (n : Nesting) (now after : World) (line : ℕ) (call : Call) (reply : Reply) (moves : List Move) → StepsDry now call moves after reply
    → MayMissMedia now call reply → bytes_given (answers.Reply reply) after.shown ≡ []
    → Replies (record { number = number; nesting = n; state = bare now }) call (called line call reply moves) (record { number = number; nesting = noted call reply n; state = bare after })
answers_so number n now after line call reply moves dry media none = record {
  done = record { reply = reply; moves = moves; after = bare after };
  steps = record { step = inl dry; media = media; base = refl; demand = refl };
  answer = refl;
  moves = refl;
  bytes = sym none;
  after = refl;
}
