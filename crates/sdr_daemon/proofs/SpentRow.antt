-- A daemon of few lines that has waited for no ticket doesn't leave as spent, whatever number its leave has.
use Rattle.std.proofs.Common.{◌≡◌, ◌∙◌, ◌<◌, ◌+◌, ◌-◌, ◌^◌, ℕ, List, [], ◌∷◌, true≢false, inl, inr, Option, arith, refl, sym, ap, subst, length}
use Rattle.std.specs.List.{list_any}
use Rattle.sdr_base.specs.Media.{Told}
use Rattle.sdr_daemon.proofs.RowLemmas.{entry, last_alone, line}
use Rattle.sdr_daemon.specs.Scripts.{DaemonKeepsToScript, HasLeaveCause, IsLookRefused, KeepsToScripts, MayHaveDrawn, is_wait}
use Rattle.sdr_machine.specs.Ground.{State}
use Rattle.sdr_model.specs.declared.event.Leave.TheVariants as leaves
use Rattle.sdr_model.specs.declared.journal.Entry.{Entry}
use Rattle.sdr_model.specs.declared.journal.What.TheVariants as whats
use Rattle.sdr_model.specs.declared.script.ScriptStep.{ScriptStep}

-- without an entry that waits, few lines aren't enough for so many numbers
few_lines : (before : List Entry) (steps rest : List ScriptStep) → before ≡ [] → length steps + 1 < 2 ^ 40 → MayHaveDrawn (2 ^ 40 - 1) before steps rest → ⊥
few_lines before steps rest none few (inl waited) = true≢false (sym waited ∙ ap (list_any is_wait) none)
few_lines before steps rest none few (inr used) = absurd (omega (arith, few, used))

-- a daemon of few lines whose only entry is its leave hasn't left as spent
pub spent : (R : ℕ → ℕ → Type 0) (journal : List Entry) (steps : List ScriptStep) (leave : Entry) → length steps + 1 < 2 ^ 40 → leave.what ≡ whats.Leaves leaves.Spent
    → DaemonKeepsToScript R journal steps (leave ∷ []) → ⊥
spent R journal steps leave few says keeps =
    let alone = last_alone keeps.before keeps.last leave keeps.all in
    let is : whats.Leaves keeps.leave ≡ whats.Leaves leaves.Spent = sym keeps.leaves ∙ ap (λ (e : Entry). e.what) alone.1 ∙ says in
    let same : keeps.leave ≡ leaves.Spent = cc in
    let cause = subst (HasLeaveCause journal keeps.before steps keeps.last.number keeps.rest) same keeps.cause in
    few_lines keeps.before steps keeps.rest alone.0 few cause.1

-- the script of one daemon, of one line
abbrev script : List ScriptStep
script = line 1 1 [] 0 [] ∷ []

-- a journal in which it runs nothing, and leaves as spent
abbrev journal : List Entry
journal = entry (2 ^ 40) 1 (whats.Leaves leaves.Spent) ∷ []

-- the journal doesn't keep to the script
pub nothing_is_run : (told : Option Told) (first : State) → KeepsToScripts told first script journal → ⊥
nothing_is_run told first keeps =
    spent (IsLookRefused told (1 ∷ []) first journal) journal script (entry (2 ^ 40) 1 (whats.Leaves leaves.Spent)) (omega arith) refl keeps.each.0
