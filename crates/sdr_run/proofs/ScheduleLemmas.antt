-- A schedule, step by step.
use Rattle.std.proofs.Common.{◌≡◌, ◌+◌, List, [], ◌∷◌, ◌++◌, refl, sym, ap, ◌∙◌, subst, append_assoc, append-nil, arith}
use Rattle.std.specs.declared.option.Option.{Option}
use Rattle.sdr_machine.specs.Asked.{outside_asked}
use Rattle.sdr_machine.specs.Core.{Core, CoreStep, RunsCore}
use Rattle.sdr_machine.specs.Machine.{Made}
use Rattle.sdr_base.specs.Media.{Told}
use Rattle.sdr_model.specs.declared.script.ScriptStep.{ScriptStep}
use Rattle.sdr_run.specs.Needing.{outside_along}
use Rattle.sdr_run.specs.Schedule.{FollowsScript, MakesEvent, bindings_after, run_text}
use Rattle.sdr_text.specs.Text.{line_text}
use Rattle.sdr_words.specs.Bindings.{Binding, bound}

-- one more event was made
pub runs-push : (told : Option Told) (c mid c' : Core) (made : List Made) (e : Made)
    → RunsCore told c made mid → CoreStep told mid e c' → RunsCore told c (made ++ e ∷ []) c'
runs-push told c mid c' [] e runs step = (c', subst (λ x. CoreStep told x e c') runs step, refl)
runs-push told c mid c' (x ∷ made) e runs step = (runs.0, runs.1, runs-push told runs.0 mid c' made e runs.2 step)

-- which needs bytes of some extents more
pub outside_along-push : (told : Option Told) (c mid c' : Core) (made : List Made) (e : Made) (runs : RunsCore told c made mid) (step : CoreStep told mid e c')
    → outside_along told c (made ++ e ∷ []) c' (runs-push told c mid c' made e runs step)
    ≡ outside_along told c made mid runs + outside_asked mid.machine e.daemon e.said.event
unfolding runs-push
outside_along-push told c mid c' [] e runs step =
    let here = ap (λ (k : Core). outside_asked k.machine e.daemon e.said.event) runs in omega (arith, here)
outside_along-push told c mid c' (x ∷ made) e runs step =
    let more = outside_along-push told runs.0 mid c' made e runs.2 step in omega (arith, more)

-- one more step follows
pub follows-push : (bindings : List Binding) (steps : List ScriptStep) (made : List Made) (step : ScriptStep) (e : Made)
    → FollowsScript bindings steps made → MakesEvent (bindings_after bindings steps made) step e → FollowsScript bindings (steps ++ step ∷ []) (made ++ e ∷ [])
follows-push bindings [] [] step e f m = (m, tt)
follows-push bindings (s ∷ steps) (x ∷ made) step e f m = (f.0, follows-push (bound bindings s x.said.answer) steps made step e f.1 m)
follows-push bindings [] (x ∷ made) step e f m = absurd f
follows-push bindings (s ∷ steps) [] step e f m = absurd f

-- and its answer gives its name what it holds
pub bindings_after-push : (bindings : List Binding) (steps : List ScriptStep) (made : List Made) (step : ScriptStep) (e : Made) → FollowsScript bindings steps made
    → bindings_after bindings (steps ++ step ∷ []) (made ++ e ∷ []) ≡ bound (bindings_after bindings steps made) step e.said.answer
bindings_after-push bindings [] [] step e f = refl
bindings_after-push bindings (s ∷ steps) (x ∷ made) step e f = bindings_after-push (bound bindings s x.said.answer) steps made step e f.1
bindings_after-push bindings [] (x ∷ made) step e f = absurd f
bindings_after-push bindings (s ∷ steps) [] step e f = absurd f

-- the text of what was made, with one more line
pub run_text-push : (made : List Made) (e : Made) → run_text (made ++ e ∷ []) ≡ run_text made ++ line_text e.said.line e.daemon e.said.answer e.said.bytes
run_text-push [] e = append-nil _
run_text-push (x ∷ made) e = ap (λ l. line_text x.said.line x.daemon x.said.answer x.said.bytes ++ l) (run_text-push made e) ∙ sym (append_assoc _ (run_text made) _)
