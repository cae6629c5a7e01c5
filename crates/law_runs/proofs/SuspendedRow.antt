-- The row of a second daemon, step by step.
use Rattle.std.proofs.Common.{ℕ, List, [], ◌∷◌, Option, None, refl, inl}
use Rattle.sdr_machine.specs.Machine.{Machine}
use Rattle.sdr_machine.specs.Nesting.{nested}
use Rattle.sdr_machine.specs.declared.daemon.Holding.{Holding}
use Rattle.sdr_model.specs.World.{empty_world}
use Rattle.sdr_machine.specs.Ground.{bare}
use Rattle.law_runs.specs.Rows.{LeavesJournal}
use Rattle.sdr_model.specs.declared.answer.Close.TheVariants as closes
use Rattle.law_runs.proofs.RowLemmas.{◌and◌, answers_so, holder, machine, plain, steps_leave, under}
use Rattle.law_runs.specs.SuspendedRow.{suspended_journal, suspended_made}

-- the machines of the row of a second daemon
abbrev both : Option Holding → Option Holding → ℕ → Machine
both first second drawn = machine (holder 1 first ∷ holder 2 second ∷ []) drawn (bare empty_world) (bare empty_world)

abbrev suspended_machines : List Machine
suspended_machines =
    both (under 1 (nested 1)) None 1
    ∷ both (under 1 (nested 1)) (under 2 (nested 1)) 2
    ∷ both (under 1 (nested 1)) (under 2 (nested 1)) 2
    ∷ both None (under 2 (nested 1)) 2
    ∷ both None (under 2 (nested 1)) 2
    ∷ both None None 2
    ∷ []

pub suspended_row : LeavesJournal (1 ∷ 2 ∷ []) (bare empty_world) suspended_made suspended_journal
suspended_row =
    steps_leave (1 ∷ 2 ∷ []) (bare empty_world) suspended_made suspended_machines suspended_journal
    (record { told = plain; after = refl }
    and record { told = plain; after = refl }
    and record { told = plain; after = refl }
    and inl (record { close = closes.Ended; left = bare empty_world; closes = record { how = refl; told = plain; left = refl }; after = refl })
    and inl (record {
      after = record { number = 2; nesting = nested 1; state = bare empty_world };
      transacts = answers_so 2 (nested 1) empty_world empty_world 5 _ _ _ (record { step = (refl, refl, refl); in_order = tt; counted = refl }) tt refl;
      others = refl;
    })
    and inl (record { close = closes.Exited; left = bare empty_world; closes = record { how = refl; told = plain; left = refl }; after = refl })
    and tt) refl
