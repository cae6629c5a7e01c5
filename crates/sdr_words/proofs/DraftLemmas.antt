-- The binders of a script with a step more.
use Rattle.std.proofs.Common.{◌≡◌, ◌==◌, ◌<◌, ◌&&◌, ◌||◌, ◌++◌, ℕ, List, [], ◌∷◌, Bool, true, false, cond, nat_eq, length, arith, refl, ap, sym, ◌∙◌}
use Rattle.std.proofs.lemmas.Bool.Decides.{nat_tests}
use Rattle.std.proofs.lemmas.List.Folds.{list_any-append}
use Rattle.std.specs.Cmp.Lexicographic.{pointwise}
use Rattle.std.specs.HashSet.{HashSet, Updates}
use Rattle.sdr_words.specs.Draft.{AreBinders}
use Rattle.sdr_words.specs.Statements.{is_bound_by}
use Rattle.sdr_words.specs.declared.draft.Binder.{Binder}
use Rattle.sdr_model.specs.declared.script.ScriptStep.{ScriptStep}

eqb-sym : (a b : ℕ) → (a == b) ≡ (b == a)
eqb-sym a b = grind (arith, nat_tests)

-- two lists of bytes are equal either way
pub pointwise-sym : (xs ys : List ℕ) → pointwise nat_eq xs ys ≡ pointwise nat_eq ys xs
pointwise-sym [] [] = refl
pointwise-sym [] (y ∷ ys) = refl
pointwise-sym (x ∷ xs) [] = refl
pointwise-sym (x ∷ xs) (y ∷ ys) = ap (λ b. b && pointwise nat_eq xs ys) (eqb-sym x y)
    ∙ ap (λ b. (y == x) && b) (pointwise-sym xs ys)

or_false : (b : Bool) → (b || (false || false)) ≡ b
or_false true = refl
or_false false = refl

and_none : (b c : Bool) → c ≡ false → (b && c) ≡ false
and_none true c is = is
and_none false c is = refl

true_or : (b c : Bool) → cond b true c ≡ (c || (b || false))
true_or true true = refl
true_or true false = refl
true_or false true = refl
true_or false false = refl

-- a new binder stands for a new step
pub AreBinders-step : {S : Type 0} (old new : HashSet Binder S) (key : Binder) (steps : List ScriptStep)
    (step : ScriptStep)
    → AreBinders old.keys steps
    → Updates (λ a b. a.daemon == b.daemon && pointwise nat_eq a.name.now b.name.now) old new key true
    → step.daemon ≡ key.daemon → step.name ≡ key.name.now → AreBinders new.keys (steps ++ step ∷ [])
AreBinders-step old new key steps step are updates daemon_is name_is = record {
  each = λ daemon name some.
      let asked : Binder = record { daemon = daemon; name = record key.name { now = name } } in
      updates.0 asked
      ∙ ap (cond (key.daemon == daemon && pointwise nat_eq key.name.now name) true) (are.each daemon name some)
      ∙ true_or (key.daemon == daemon && pointwise nat_eq key.name.now name) (is_bound_by steps daemon name)
      ∙ ap (λ b. is_bound_by steps daemon name || (b || false)) (
      ap (λ d. d == daemon && pointwise nat_eq key.name.now name) (sym daemon_is)
      ∙ ap (λ n. step.daemon == daemon && pointwise nat_eq n name) (sym name_is)
      ∙ ap (λ b. step.daemon == daemon && b) (pointwise-sym step.name name))
      ∙ sym (list_any-append (λ step. step.daemon == daemon && pointwise nat_eq name step.name) steps (step ∷ []));
}

-- a name of some bytes isn't that of a step without one
pointwise-none : (name none : List ℕ) → 0 < length name → none ≡ [] → pointwise nat_eq name none ≡ false
pointwise-none [] none some is = absurd (omega arith)
pointwise-none (x ∷ name) none some is = ap (pointwise nat_eq (x ∷ name)) is

-- a step without a name binds none
pub AreBinders-unnamed : (binders : List Binder) (steps : List ScriptStep) (step : ScriptStep)
    → AreBinders binders steps → step.name ≡ [] → AreBinders binders (steps ++ step ∷ [])
AreBinders-unnamed binders steps step are unnamed = record {
  each = λ daemon name some.
      are.each daemon name some
      ∙ sym (or_false (is_bound_by steps daemon name))
      ∙ ap (λ b. is_bound_by steps daemon name || (b || false)) (sym (and_none (step.daemon == daemon) _ (pointwise-none name step.name some unnamed)))
      ∙ sym (list_any-append (λ step. step.daemon == daemon && pointwise nat_eq name step.name) steps (step ∷ []));
}
