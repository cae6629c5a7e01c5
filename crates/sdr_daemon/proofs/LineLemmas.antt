-- The next step of a daemon, and what a result tells.
use Rattle.std.proofs.Common.{◌≡◌, ◌∙◌, ◌≤◌, ◌==◌, ◌-◌, ℕ, List, [], ◌∷◌, ◌++◌, Bool, true, false, true≢false, arith, refl, sym, ap, append_assoc, cond, Option, None, Some, length, length-append, length-drop, take, drop}
use Rattle.std.proofs.lemmas.List.{take-append-drop, take_all, length-take-le}
use Rattle.std.proofs.Math.Seq.{drop-append_seam}
use Rattle.std.specs.Prelude.{is_some}
use Rattle.sdr_machine.proofs.RollLemmas.{same_number}
use Rattle.sdr_model.specs.declared.script.ScriptStep.{ScriptStep}
use Rattle.sdr_daemon.specs.Progressing.{steps_ahead}
use Rattle.sdr_daemon.specs.Turns.{steps_by}

-- the rest of a script from a place, as a slice
pub rest_is : (script : List ScriptStep) (place : ℕ) → place ≤ length script → take (length script - place) (drop place script) ≡ drop place script
rest_is script place within = take_all (length script - place) (drop place script) (omega (arith, length-drop place script))

-- what stands in front of it
pub front_is : (script : List ScriptStep) (place : ℕ) → place ≤ length script
    → (front : List ScriptStep) × (script ≡ front ++ take (length script - place) (drop place script)) × (place ≤ length front)
front_is script place within = (
  take place script,
  sym (take-append-drop place script) ∙ ap (λ l. take place script ++ l) (sym (rest_is script place within)),
  omega (arith, length-take-le place script within),
)

steps_mine : (daemon : ℕ) (step : ScriptStep) (after : List ScriptStep) → (step.daemon == daemon) ≡ true → steps_by daemon (step ∷ after) ≡ step ∷ steps_by daemon after
steps_mine daemon step after mine = ap (λ b. cond b (step ∷ steps_by daemon after) (steps_by daemon after)) mine

steps_others : (daemon : ℕ) (step : ScriptStep) (after : List ScriptStep) → (step.daemon == daemon) ≡ false → steps_by daemon (step ∷ after) ≡ steps_by daemon after
steps_others daemon step after other = ap (λ b. cond b (step ∷ steps_by daemon after) (steps_by daemon after)) other

-- what stands behind a step
behind_is : (script front : List ScriptStep) (step : ScriptStep) (after : List ScriptStep) → script ≡ front ++ step ∷ after → drop (length script - length after) script ≡ after
behind_is script front step after whole =
    let split : script ≡ (front ++ step ∷ []) ++ after = whole ∙ sym (append_assoc front (step ∷ []) after) in
    let len : length script - length after ≡ length (front ++ step ∷ []) = omega (arith, ap length split, length-append (front ++ step ∷ []) after) in
    ap (λ n. drop n script) len ∙ ap (λ l. drop (length (front ++ step ∷ [])) l) split ∙ drop-append_seam (front ++ step ∷ []) after

pub step_found : (script front rest : List ScriptStep) (daemon place : ℕ) (step : ScriptStep) (after : List ScriptStep) → script ≡ front ++ rest → rest ≡ step ∷ after
    → steps_by daemon rest ≡ steps_ahead script daemon place → (step.daemon == daemon) ≡ true → steps_ahead script daemon place ≡ step ∷ steps_ahead script daemon (length script - length after)
step_found script front rest daemon place step after whole is same mine =
    sym same ∙ ap (steps_by daemon) is ∙ steps_mine daemon step after mine
    ∙ ap (λ l. step ∷ steps_by daemon l) (sym (behind_is script front step after (whole ∙ ap (λ l. front ++ l) is)))

pub step_passed : (script front rest : List ScriptStep) (daemon place : ℕ) (step : ScriptStep) (after : List ScriptStep) → script ≡ front ++ rest → rest ≡ step ∷ after → place ≤ length front
    → ((x : List ScriptStep) × (script ≡ x ++ after) × (place ≤ length x))
step_passed script front rest daemon place step after whole is low = (
  front ++ step ∷ [],
  whole ∙ ap (λ l. front ++ l) is ∙ sym (append_assoc front (step ∷ []) after),
  omega (arith, low, length-append front (step ∷ [])),
)

pub same_passed : (script rest : List ScriptStep) (daemon place : ℕ) (step : ScriptStep) (after : List ScriptStep) → rest ≡ step ∷ after → steps_by daemon rest ≡ steps_ahead script daemon place
    → (step.daemon == daemon) ≡ false → steps_by daemon after ≡ steps_ahead script daemon place
same_passed script rest daemon place step after is same other = sym (steps_others daemon step after other) ∙ ap (steps_by daemon) (sym is) ∙ same

-- numbers that aren't equal
pub other_number : (a b : ℕ) → (a ≡ b → ⊥) → (a == b) ≡ false
other_number a b apart = by (a == b) refl
  where
    by : (c : Bool) → (a == b) ≡ c → (a == b) ≡ false
    by true is = absurd (apart (same_number a b is))
    by false is = is

-- an option that is none
pub none_if : {A : Type 0} (o : Option A) → is_some o ≡ false → o ≡ None
none_if None is = refl
none_if (Some x) is = absurd (true≢false is)
