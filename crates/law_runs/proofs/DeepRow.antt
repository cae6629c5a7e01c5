-- The row of transactions that are nested to depth 64.
use Rattle.std.proofs.Common.{◌≡◌, ◌≤◌, ◌<◌, ◌==◌, ◌+◌, ◌-◌, ℕ, zero, suc, List, [], ◌∷◌, ◌++◌, false, Option, None, Some, arith, refl, sym, ap, subst, inl, map, nat_le, append_assoc, append-nil}
use Rattle.std.specs.Prelude.{if◌then◌else◌}
use Rattle.std.proofs.lemmas.Bool.Decides.{nat_tests}
use Rattle.sdr_base.specs.Media.{Told}
use Rattle.sdr_base.specs.declared.refusal.Reason.{Reason}
use Rattle.sdr_base.specs.declared.refusal.Reason.TheVariants as reasons
use Rattle.sdr_base.specs.declared.refusal.Refusal.TheVariants as refusals
use Rattle.sdr_machine.specs.Core.{Core, RunsCore, first_core}
use Rattle.sdr_machine.specs.Ground.{State}
use Rattle.sdr_machine.specs.Machine.{Machine, Made, MachineStep}
use Rattle.sdr_machine.specs.Nesting.{comes_to, doomed_for}
use Rattle.sdr_machine.specs.Transaction.{Nests}
use Rattle.sdr_machine.specs.declared.nesting.Nesting.{Nesting}
use Rattle.sdr_machine.proofs.WorkLemmas.{on_false}
use Rattle.sdr_model.specs.declared.answer.Answer.TheVariants as answers
use Rattle.sdr_model.specs.declared.answer.Close.TheVariants as closes
use Rattle.sdr_model.specs.declared.answer.Reply.TheVariants as replies
use Rattle.sdr_model.specs.declared.event.Event.TheVariants as events
use Rattle.sdr_model.specs.declared.journal.Said.{Said}
use Rattle.sdr_model.specs.declared.journal.What.TheVariants as whats
use Rattle.law_runs.specs.DeepRow.{deep_begin, deep_end, deep_journal, deep_made, deep_said, deeper, shallower, too_deep}
use Rattle.law_runs.specs.Rows.{LeavesJournal, entry, said, says}
use Rattle.law_runs.proofs.RowLemmas.{holder, machine, plain, under}

-- a nesting at a depth, doomed or not
abbrev at_depth : ℕ → Option Reason → Nesting
at_depth depth doom = record { depth = depth; doom = doom; modified = false }

-- the machine in which daemon 1 is at a depth, and the core in which it has said this
abbrev at : State → ℕ → Option Reason → Machine
at s depth doom = machine (holder 1 (under 1 (at_depth depth doom)) ∷ []) 1 s s

abbrev core_at : State → ℕ → Option Reason → List Said → Core
core_at s depth doom all = record { machine = at s depth doom; log = record { works = record { daemon = 1; said = all } ∷ []; journal = [] } }

-- a step, and a run, are followed by a run
runs_append : (told : Option Told) (c : Core) (made : List Made) (c' : Core) (more : List Made) (c'' : Core) → RunsCore told c made c' → RunsCore told c' more c'' → RunsCore told c (made ++ more) c''
runs_append told c [] c' more c'' runs rest = subst (λ x. RunsCore told x more c'') runs rest
runs_append told c (e ∷ made) c' more c'' runs rest = (runs.0, runs.1, runs_append told runs.0 made c' more c'' runs.2 rest)

begin_step : (s : State) (depth line : ℕ) → 1 ≤ depth → depth < 64 → MachineStep (at s depth None) (says 1 (said line events.Begin (answers.Depth (depth + 1)))) (at s (depth + 1) None)
begin_step s depth line some below =
    let inside : (depth == 0) ≡ false = grind (arith, nat_tests) in
    let higher : nat_le 64 depth ≡ false = grind (arith, nat_tests) in
    on_false _ _ (depth == 0) inside (inl (record {
      after = record { number = 1; nesting = at_depth (depth + 1) None; state = s };
      transacts =
          subst
          (λ b. Nests (record { number = 1; nesting = at_depth depth None; state = s }) (said line events.Begin (answers.Depth (depth + 1))) (record { number = 1; nesting = at_depth (depth + 1) None; state = s })
          (if b then record { answer = answers.Reply (replies.Refused refusals.TooDeep); after = doomed_for (reasons.Refused 23) (at_depth depth None) } else comes_to (at_depth depth None) (depth + 1)))
          (sym higher) (record { told = plain; after = refl });
      others = refl;
    }))

end_step : (s : State) (depth line : ℕ) (doom : Option Reason) → 1 < depth → MachineStep (at s depth doom) (says 1 (said line events.End (answers.Depth (depth - 1)))) (at s (depth - 1) doom)
end_step s depth line doom above =
    let inside : (depth == 0) ≡ false = grind (arith, nat_tests) in
    let nested : nat_le depth 1 ≡ false = grind (arith, nat_tests) in
    on_false _ _ (depth == 0) inside (inl (on_false _ _ (nat_le depth 1) nested (record {
      after = record { number = 1; nesting = at_depth (depth - 1) doom; state = s };
      transacts = record { told = plain; after = refl };
      others = refl;
    })))

-- so many begins
begins_run : (s : State) (more line depth : ℕ) (all : List Said) → 1 ≤ depth → depth + more ≤ 64
    → RunsCore None (core_at s depth None all) (map (says 1) (deeper line depth more)) (core_at s (depth + more) None (all ++ deeper line depth more))
unfolding deeper
begins_run s zero line depth all some most =
    let z : depth + zero ≡ depth = omega arith in
    λ i. core_at s (z i) None (append-nil all i)
begins_run s (suc more) line depth all some most =
    let next : Said = said line events.Begin (answers.Depth (depth + 1)) in
    let z : depth + 1 + more ≡ depth + suc more = omega arith in (
      core_at s (depth + 1) None (all ++ next ∷ []),
      record { next = at s (depth + 1) None; step = begin_step s depth line some (omega arith); media = tt; history = refl },
      subst (RunsCore None (core_at s (depth + 1) None (all ++ next ∷ [])) (map (says 1) (deeper (line + 1) (depth + 1) more)))
          (λ i. core_at s (z i) None (append_assoc all (next ∷ []) (deeper (line + 1) (depth + 1) more) i))
          (begins_run s more (line + 1) (depth + 1) (all ++ next ∷ []) (omega arith) (omega arith)),
    )

-- so many ends
ends_run : (s : State) (doom : Option Reason) (more line depth : ℕ) (all : List Said) → more < depth
    → RunsCore None (core_at s depth doom all) (map (says 1) (shallower line depth more)) (core_at s (depth - more) doom (all ++ shallower line depth more))
unfolding shallower
ends_run s doom zero line depth all above =
    let z : depth - zero ≡ depth = omega arith in
    λ i. core_at s (z i) doom (append-nil all i)
ends_run s doom (suc more) line depth all above =
    let next : Said = said line events.End (answers.Depth (depth - 1)) in
    let z : depth - 1 - more ≡ depth - suc more = omega arith in (
      core_at s (depth - 1) doom (all ++ next ∷ []),
      record { next = at s (depth - 1) doom; step = end_step s depth line doom (omega arith); media = tt; history = refl },
      subst (RunsCore None (core_at s (depth - 1) doom (all ++ next ∷ [])) (map (says 1) (shallower (line + 1) (depth - 1) more)))
          (λ i. core_at s (z i) doom (append_assoc all (next ∷ []) (shallower (line + 1) (depth - 1) more) i))
          (ends_run s doom more (line + 1) (depth - 1) (all ++ next ∷ []) (omega arith)),
    )

-- what was said up to the begin that is too deep, and up to the last end
abbrev before_end : List Said
before_end = ((deep_begin ∷ deeper 2 1 63) ++ too_deep ∷ []) ++ shallower 66 64 63

abbrev core_out : State → List Said → Core
core_out s all = record {
  machine = machine (holder 1 None ∷ []) 1 s s;
  log = record { works = []; journal = entry 1 1 (whats.Work all (closes.Cancelled (reasons.Refused 23))) ∷ [] };
}

abbrev deep_core : State → Core
deep_core s = core_out s (before_end ++ deep_end ∷ [])

said_in_order : before_end ++ deep_end ∷ [] ≡ deep_said
said_in_order = ap (λ all. all ++ deep_end ∷ []) (append_assoc (deep_begin ∷ deeper 2 1 63) (too_deep ∷ []) (shallower 66 64 63))

-- down to depth 64, back to depth 1, and out
run_down : (s : State) → RunsCore None (first_core (1 ∷ []) s) (says 1 deep_begin ∷ map (says 1) (deeper 2 1 63)) (core_at s 64 None (deep_begin ∷ deeper 2 1 63))
run_down s = (
  core_at s 1 None (deep_begin ∷ []),
  record { next = at s 1 None; step = record { told = plain; after = refl }; media = tt; history = refl },
  begins_run s 63 2 1 (deep_begin ∷ []) (omega arith) (omega arith),
)

run_back : (s : State) → RunsCore None (core_at s 64 None (deep_begin ∷ deeper 2 1 63)) (says 1 too_deep ∷ map (says 1) (shallower 66 64 63)) (core_at s 1 (Some (reasons.Refused 23)) before_end)
run_back s = (
  core_at s 64 (Some (reasons.Refused 23)) ((deep_begin ∷ deeper 2 1 63) ++ too_deep ∷ []),
  record {
    next = at s 64 (Some (reasons.Refused 23));
    step = inl (record {
      after = record { number = 1; nesting = at_depth 64 (Some (reasons.Refused 23)); state = s };
      transacts = record { told = plain; after = refl };
      others = refl;
    });
    media = tt;
    history = refl;
  },
  ends_run s (Some (reasons.Refused 23)) 63 66 64 ((deep_begin ∷ deeper 2 1 63) ++ too_deep ∷ []) (omega arith),
)

run_out : (s : State)
    → RunsCore None (core_at s 1 (Some (reasons.Refused 23)) before_end) (says 1 deep_end ∷ says 1 (said 130 events.End (answers.Reply (replies.Refused refusals.NotBegun))) ∷ []) (deep_core s)
run_out s = (
  deep_core s,
  record {
    next = machine (holder 1 None ∷ []) 1 s s;
    step = inl (record { close = closes.Cancelled (reasons.Refused 23); left = s; closes = record { how = refl; told = plain; left = refl }; after = refl });
    media = tt;
    history = ap (core_out s) (sym (append-nil (before_end ++ deep_end ∷ [])));
  },
  (deep_core s, record { next = machine (holder 1 None ∷ []) 1 s s; step = record { told = plain; after = refl }; media = tt; history = refl }, refl),
)

pub deep_row : (s : State) → LeavesJournal (1 ∷ []) s deep_made deep_journal
deep_row s = record {
  core = deep_core s;
  runs =
      runs_append None (first_core (1 ∷ []) s) ((says 1 deep_begin ∷ map (says 1) (deeper 2 1 63)) ++ says 1 too_deep ∷ map (says 1) (shallower 66 64 63))
      (core_at s 1 (Some (reasons.Refused 23)) before_end) (says 1 deep_end ∷ says 1 (said 130 events.End (answers.Reply (replies.Refused refusals.NotBegun))) ∷ []) (deep_core s)
      (runs_append None (first_core (1 ∷ []) s) (says 1 deep_begin ∷ map (says 1) (deeper 2 1 63)) (core_at s 64 None (deep_begin ∷ deeper 2 1 63))
      (says 1 too_deep ∷ map (says 1) (shallower 66 64 63)) (core_at s 1 (Some (reasons.Refused 23)) before_end) (run_down s) (run_back s))
      (run_out s);
  kept = ap (λ all. entry 1 1 (whats.Work all (closes.Cancelled (reasons.Refused 23))) ∷ []) said_in_order;
}
