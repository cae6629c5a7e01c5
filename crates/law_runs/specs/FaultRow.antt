-- A row: the first sync fails.
use Rattle.std.specs.Prelude.{ℕ, List, [], ◌∷◌}
use Rattle.sdr_base.specs.Pools.{fresh_pools}
use Rattle.sdr_base.specs.declared.moves.Move.TheVariants.{Took}
use Rattle.sdr_machine.specs.Demand.{no_demand}
use Rattle.sdr_machine.specs.Ground.{OnHeap, State}
use Rattle.sdr_machine.specs.Machine.{Made}
use Rattle.sdr_model.specs.World.{fresh_world}
use Rattle.sdr_model.specs.declared.answer.Answer.TheVariants as answers
use Rattle.sdr_model.specs.declared.answer.Close.TheVariants as closes
use Rattle.sdr_model.specs.declared.answer.Reply.TheVariants as replies
use Rattle.sdr_model.specs.declared.call.Call.TheVariants as calls
use Rattle.sdr_model.specs.declared.event.Event.TheVariants as events
use Rattle.sdr_model.specs.declared.journal.Entry.{Entry}
use Rattle.sdr_model.specs.declared.journal.Said.{Said}
use Rattle.sdr_model.specs.declared.journal.What.TheVariants as whats
use Rattle.law_runs.specs.Rows.{called, said}

-- a fresh heap of 1,024 lines, whose undo log has room for 224
abbrev pub fresh_state : State
fresh_state = record { world = fresh_world 32768; base = OnHeap 224 (fresh_pools 1024); demand = no_demand }

-- a transaction that makes a string; the disk fails as it ends
abbrev pub faulted_said : List Said
faulted_said =
    said 1 events.Begin (answers.Lock 1)
    ∷ called 2 (calls.String (97 ∷ [])) (replies.At 2056) (Took 2 2056 ∷ [])
    ∷ said 3 events.End (answers.Reply replies.DiskFault)
    ∷ []

-- what daemon 1 says: nothing reaches the disk before the end, which begins at one moment and returns at another
abbrev pub faulted_made : ℕ → ℕ → List Made
faulted_made begun done =
    record { daemon = 1; said = said 1 events.Begin (answers.Lock 1); begun = begun; done = begun }
    ∷ record { daemon = 1; said = called 2 (calls.String (97 ∷ [])) (replies.At 2056) (Took 2 2056 ∷ []); begun = begun; done = begun }
    ∷ record { daemon = 1; said = said 3 events.End (answers.Reply replies.DiskFault); begun = begun; done = done }
    ∷ record { daemon = 1; said = said 4 events.Begin (answers.Reply (replies.Failed done)); begun = done; done = done }
    ∷ []

-- the journal: the transaction has met a disk fault, and nothing follows it
abbrev pub faulted_journal : ℕ → ℕ → List Entry
faulted_journal begun done = record { number = 1; daemon = 1; begun = begun; done = done; what = whats.Work faulted_said closes.Faulted } ∷ []
