-- A daemon whose first line is a begin doesn't leave as done with no other entry: a journal without any of its transactions doesn't keep
-- to the script.
use Rattle.std.proofs.Common.{◌≡◌, ◌∙◌, ℕ, List, [], ◌∷◌, ◌++◌, true≢false, refl, sym, ap, subst}
use Rattle.std.specs.List.{flat_map}
use Rattle.sdr_model.specs.declared.event.Event.TheVariants as events
use Rattle.sdr_model.specs.declared.event.Leave.TheVariants as leaves
use Rattle.sdr_model.specs.declared.journal.Entry.{Entry}
use Rattle.sdr_model.specs.declared.journal.Said.{Said}
use Rattle.sdr_model.specs.declared.journal.What.TheVariants as whats
use Rattle.sdr_model.specs.declared.script.ScriptStep.{ScriptStep}
use Rattle.sdr_words.specs.Bindings.{Binding, event_of}
use Rattle.sdr_daemon.proofs.RowLemmas.{last_alone}
use Rattle.sdr_daemon.specs.Scripts.{HasLeaveCause, DaemonKeepsToScript}
use Rattle.sdr_daemon.specs.Turns.{DaemonTurn, IsTurn, Reached, SayLines, TakeTurns, at_start, is_refused_outside}

no_first : {A : Type 0} (front rest : List A) → [] ≡ front ++ rest → front ≡ []
no_first [] rest none = refl
no_first (one ∷ front) rest none = absurd cc

-- one line says one thing
one_line : (names : List Binding) (lines : List ScriptStep) (said : List Said) (s : Said) → said ≡ s ∷ [] → SayLines names lines said
    → (step : ScriptStep) × (lines ≡ step ∷ []) × (s.event ≡ event_of names step)
one_line names [] [] s is says = absurd cc
one_line names [] (other ∷ said) s is says = absurd says
one_line names (step ∷ lines) [] s is says = absurd says
one_line names (step ∷ []) (other ∷ []) s is says =
    let same : other ≡ s = cc in (step, refl, subst (λ (z : Said). z.event ≡ event_of names step) same says.0.event)
one_line names (step ∷ next ∷ lines) (other ∷ []) s is says = absurd says.1
one_line names (step ∷ lines) (other ∷ another ∷ said) s is says = absurd cc

module _ (R : ℕ → ℕ → Type 0) where
  -- in a turn that gives no entry one thing is said, which is no begin
  no_begin : (at : Reached) (t : DaemonTurn) → t.entries ≡ [] → IsTurn R at t → (s : Said) × (t.said ≡ s ∷ []) × (s.event ≡ events.Begin → ⊥)
  no_begin at t none turn = by turn
    where
      clash : (e : Entry) → t.entries ≡ e ∷ [] → ⊥
      clash e is = let no : [] ≡ e ∷ [] = sym none ∙ is in absurd cc

      by : IsTurn R at t → (s : Said) × (t.said ≡ s ∷ []) × (s.event ≡ events.Begin → ⊥)
      by (IsTurn.passes s ready said passed answer entries number phase) = (s, said, λ begins. true≢false (sym passed ∙ ap is_refused_outside begins))
      by (IsTurn.works close ready opens gives phase) = absurd (clash gives.entry gives.is)
      by (IsTurn.cut close s leave ready opens unlined event gives phase) = absurd (clash gives.entry gives.is)
      by (IsTurn.waits ticket ready lines gives phase) = absurd (clash gives.entry gives.is)
      by (IsTurn.looks ticket look what may gives ends phase) = absurd (clash gives.entry gives.is)
      by (IsTurn.refused_look ticket look may answer entries number refused phase) =
          (look.said, look.is, λ begins. let no : events.Look ticket ≡ events.Begin = sym look.event ∙ begins in absurd cc)

  -- so lines of which the first is a begin give an entry
  some_entry : (step : ScriptStep) (steps : List ScriptStep) → event_of [] step ≡ events.Begin → (turns : List DaemonTurn) → TakeTurns R at_start turns
      → [] ≡ flat_map (λ (t : DaemonTurn). t.entries) turns → step ∷ steps ≡ flat_map (λ (t : DaemonTurn). t.lines) turns ++ [] → ⊥
  some_entry step steps begins [] taken none is = absurd cc
  some_entry step steps begins (t ∷ turns) taken none is =
      let L : DaemonTurn → List ScriptStep = λ (t : DaemonTurn). t.lines in
      let one = no_begin at_start t (no_first t.entries (flat_map (λ (t : DaemonTurn). t.entries) turns) none) taken.0 in
      let line = one_line [] t.lines t.said one.0 one.1 taken.1 in
      let whole : step ∷ steps ≡ line.0 ∷ (flat_map L turns ++ []) = is ∙ ap (λ l. (l ++ flat_map L turns) ++ []) line.1 in
      let same : step ≡ line.0 = cc in
      one.2 (line.2 ∙ ap (event_of []) (sym same) ∙ begins)

  -- a daemon that begins a transaction, and leaves behind its last line, has an entry beside its leave
  pub dropped : (journal : List Entry) (step : ScriptStep) (steps : List ScriptStep) (leave : Entry) → event_of [] step ≡ events.Begin → leave.what ≡ whats.Leaves leaves.Done
      → DaemonKeepsToScript R journal (step ∷ steps) (leave ∷ []) → ⊥
  dropped journal step steps leave begins done keeps =
      let alone = last_alone keeps.before keeps.last leave keeps.all in
      let is : whats.Leaves keeps.leave ≡ whats.Leaves leaves.Done = sym keeps.leaves ∙ ap (λ (e : Entry). e.what) alone.1 ∙ done in
      let same : keeps.leave ≡ leaves.Done = cc in
      let ended : keeps.rest ≡ [] = subst (HasLeaveCause journal keeps.before (step ∷ steps) keeps.last.number keeps.rest) same keeps.cause in
      let kept = keeps.kept in
      some_entry step steps begins kept.turns kept.taken (sym alone.0 ∙ kept.entries_are)
      (kept.steps_are ∙ ap (λ rest. flat_map (λ (t : DaemonTurn). t.lines) kept.turns ++ rest) ended)
