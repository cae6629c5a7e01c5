-- The names that a script has bound so far, and its steps.
use Rattle.std.specs.Prelude.{◌≡◌, ◌<◌, ℕ, ◌&&◌, List, ◌==◌, length, nat_eq}
use Rattle.std.specs.Cmp.Lexicographic.{pointwise}
use Rattle.std.specs.List.{list_any}
use Rattle.sdr_words.specs.Statements.{is_bound_by}
use Rattle.sdr_words.specs.declared.draft.Binder.{Binder}
use Rattle.sdr_model.specs.declared.script.ScriptStep.{ScriptStep}

-- the binders are those of the steps that have a name
pub record AreBinders (binders : List Binder) (steps : List ScriptStep) : Type 0 where
  pub each : (daemon : ℕ) (name : List ℕ) → 0 < length name →
      list_any (λ b. daemon == b.daemon && pointwise nat_eq name b.name.now) binders ≡ is_bound_by steps daemon name
