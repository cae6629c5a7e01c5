-- The row of a disk fault, step by step.
use Rattle.std.proofs.Common.{ℕ, [], ◌∷◌, None, Some, refl, inl, inr}
use Rattle.sdr_base.specs.declared.moves.Move.TheVariants.{Took}
use Rattle.sdr_machine.specs.Ground.{OnHeap, State}
use Rattle.sdr_machine.specs.Machine.{Machine}
use Rattle.sdr_machine.specs.Nesting.{nested}
use Rattle.sdr_machine.specs.declared.nesting.Nesting.{Nesting}
use Rattle.sdr_model.specs.World.{World, fresh_world}
use Rattle.sdr_model.specs.declared.answer.Reply.TheVariants as replies
use Rattle.std.specs.Prelude.{unwrap_or}
use Rattle.sdr_base.specs.Pools.{fresh_pools}
use Rattle.sdr_base.specs.Rules.{take_of}
use Rattle.sdr_base.specs.SmallPool.{Taken}
use Rattle.sdr_machine.specs.Demand.{demand_after, no_demand}
use Rattle.sdr_model.specs.Steps.{with_thing}
use Rattle.sdr_model.specs.declared.call.Call.TheVariants as calls
use Rattle.sdr_model.specs.declared.things.Thing.TheVariants as things
use Rattle.law_runs.specs.FaultRow.{faulted_journal, faulted_made, fresh_state}
use Rattle.law_runs.specs.Rows.{LeavesJournal}
use Rattle.law_runs.proofs.RowLemmas.{◌and◌, holder, machine, modified_at, plain, steps_leave, under}

-- the row of a disk fault
abbrev string_taken : Taken
string_taken = unwrap_or (take_of (fresh_pools 1024) 2) (record { addr = 0; pools = fresh_pools 1024 })

abbrev string_made : World
string_made = record (with_thing (fresh_world 32768) 2056 (things.Text (97 ∷ []))) { marks = 2056 ∷ []; shown = [] }

abbrev string_state : State
string_state = record {
  world = string_made;
  base = OnHeap 224 string_taken.pools;
  demand = demand_after no_demand (fresh_world 32768) (calls.String (97 ∷ [])) (record { moves = Took 2 2056 ∷ []; after = string_made; reply = replies.At 2056 });
}

abbrev on_heap : Nesting → State → Machine
on_heap n now = machine (holder 1 (under 1 n) ∷ []) 1 fresh_state now

abbrev failed_machine : ℕ → Machine
failed_machine moment = record { roll = record { daemons = holder 1 None ∷ []; drawn = 1; failed = Some moment }; before = fresh_state; now = fresh_state }

pub faulted_row : (begun done : ℕ) → LeavesJournal (1 ∷ []) fresh_state (faulted_made begun done) (faulted_journal begun done)
faulted_row begun done =
    steps_leave (1 ∷ []) fresh_state (faulted_made begun done)
    (on_heap (nested 1) fresh_state ∷ on_heap (modified_at 1) string_state ∷ failed_machine done ∷ failed_machine done ∷ []) (faulted_journal begun done)
    (record { told = plain; after = refl }
    and inl (record {
      after = record { number = 1; nesting = modified_at 1; state = string_state };
      transacts = record {
        done = record { reply = replies.At 2056; moves = Took 2 2056 ∷ []; after = string_state };
        steps = record { step = inl (refl, (refl, refl)); pools = string_taken.pools; base = refl; fit = (string_taken.pools, refl, refl); full = tt; media = tt; demand = refl };
        answer = refl;
        moves = refl;
        bytes = refl;
        after = refl;
      };
      others = refl;
    })
    and inr (record { asks = refl; faults = record { heap = tt; told = plain; after = refl } })
    and record { told = plain; after = refl }
    and tt) refl
