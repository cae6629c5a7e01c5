-- The row of an inner cancel, step by step.
use Rattle.std.proofs.Common.{ℕ, List, [], ◌∷◌, None, Some, refl, inl, true}
use Rattle.sdr_base.specs.declared.refusal.Reason.TheVariants as reasons
use Rattle.sdr_machine.specs.Machine.{Machine}
use Rattle.sdr_machine.specs.Nesting.{nested}
use Rattle.sdr_machine.specs.declared.nesting.Nesting.{Nesting}
use Rattle.sdr_model.specs.World.{World, empty_world}
use Rattle.law_runs.specs.NestedRow.{doomed_journal, doomed_made}
use Rattle.sdr_machine.specs.Ground.{bare}
use Rattle.law_runs.specs.Rows.{LeavesJournal}
use Rattle.sdr_model.specs.declared.answer.Close.TheVariants as closes
use Rattle.sdr_machine.specs.Transaction.{OpenTransaction}
use Rattle.law_runs.proofs.RowLemmas.{◌and◌, answers_so, holder, machine, modified_at, plain, steps_leave, under}

-- the worlds of the row of an inner cancel
abbrev one_name : World
one_name = record empty_world { names = record { block = 8; name = 97 ∷ []; kind = 1; object = 0 } ∷ []; marks = 8 ∷ []; taken = 1 }

abbrev two_names : World
two_names = record empty_world {
  names = record { block = 8; name = 97 ∷ []; kind = 1; object = 0 } ∷ record { block = 16; name = 98 ∷ []; kind = 1; object = 0 } ∷ [];
  marks = 8 ∷ 16 ∷ [];
  taken = 2;
}

abbrev no_names : World
no_names = record empty_world { taken = 2 }

abbrev in_row : ℕ → Nesting → ℕ → World → World → Machine
in_row number n drawn before now = machine (holder 1 (under number n) ∷ []) drawn (bare before) (bare now)

abbrev doomed_at : ℕ → Nesting
doomed_at depth = record { depth = depth; doom = Some reasons.Inner; modified = true }

abbrev doomed_machines : List Machine
doomed_machines =
    in_row 1 (nested 1) 1 empty_world empty_world
    ∷ in_row 1 (modified_at 1) 1 empty_world one_name
    ∷ in_row 1 (modified_at 2) 1 empty_world one_name
    ∷ in_row 1 (modified_at 2) 1 empty_world two_names
    ∷ in_row 1 (doomed_at 1) 1 empty_world two_names
    ∷ in_row 1 (doomed_at 1) 1 empty_world two_names
    ∷ machine (holder 1 None ∷ []) 1 (bare no_names) (bare no_names)
    ∷ in_row 2 (nested 1) 2 no_names no_names
    ∷ in_row 2 (nested 1) 2 no_names no_names
    ∷ machine (holder 1 None ∷ []) 2 (bare no_names) (bare no_names)
    ∷ []

-- the transaction under a number at this nesting
abbrev within : ℕ → Nesting → World → OpenTransaction
within number n w = record { number = number; nesting = n; state = bare w }

pub doomed_row : LeavesJournal (1 ∷ []) (bare empty_world) doomed_made doomed_journal
doomed_row =
    steps_leave (1 ∷ []) (bare empty_world) doomed_made doomed_machines doomed_journal
    (record { told = plain; after = refl }
    and inl (record {
      after = within 1 (modified_at 1) one_name;
      transacts = answers_so 1 (nested 1) empty_world one_name 2 _ _ _ (record { step = (refl, (refl, refl)); in_order = (refl, tt); counted = refl }) tt refl;
      others = refl;
    })
    and inl (record { after = within 1 (modified_at 2) one_name; transacts = record { told = plain; after = refl }; others = refl })
    and inl (record {
      after = within 1 (modified_at 2) two_names;
      transacts = answers_so 1 (modified_at 2) one_name two_names 4 _ _ _ (record { step = (refl, (refl, refl)); in_order = (refl, tt); counted = refl }) tt refl;
      others = refl;
    })
    and inl (record { after = within 1 (doomed_at 1) two_names; transacts = record { told = plain; after = refl }; others = refl })
    and inl (record { after = within 1 (doomed_at 1) two_names; transacts = record { told = plain; after = refl }; others = refl })
    and inl (record { close = closes.Cancelled reasons.Inner; left = bare no_names; closes = record { how = refl; told = plain; left = refl }; after = refl })
    and record { told = plain; after = refl }
    and inl (record {
      after = within 2 (nested 1) no_names;
      transacts = answers_so 2 (nested 1) no_names no_names 9 _ _ _ (record { step = (refl, refl, refl); in_order = tt; counted = refl }) tt refl;
      others = refl;
    })
    and inl (record { close = closes.Exited; left = bare no_names; closes = record { how = refl; told = plain; left = refl }; after = refl })
    and tt) refl
