-- The entries of an index map as bindings.
use Rattle.std.proofs.Common.{◌≡◌, ◌==◌, ◌&&◌, ℕ, List, [], ◌∷◌, Bool, true, false, cond, Option, Some, nat_eq, ap, sym, ◌∙◌, refl, unwrap_or, length, true≢false}
use Rattle.indexmap.specs.IndexMap.{insert_entry}
use Rattle.std.specs.Cmp.Lexicographic.{pointwise}
use Rattle.std.specs.Map.{lookup}
use Rattle.sdr_words.specs.Bindings.{Binding, value_in, with_binding, name_given, value_given, bound}
use Rattle.sdr_words.specs.BoundKeys.{bindings_in}
use Rattle.sdr_model.specs.declared.answer.Answer.{Answer}
use Rattle.sdr_words.specs.declared.bindings.Key.{Key}
use Rattle.sdr_model.specs.declared.script.ScriptStep.{ScriptStep}

unwrap_or-chosen : (b : Bool) (value : ℕ) (rest : Option ℕ) → unwrap_or (cond b (Some value) rest) 0
    ≡ cond b value (unwrap_or rest 0)
unwrap_or-chosen true value rest = refl
unwrap_or-chosen false value rest = refl

-- a name holds what the map has under its key
pub value-lookup : (daemon : ℕ) (name : List ℕ) (es : List (Key × ℕ))
    → unwrap_or (lookup (λ k. daemon == k.daemon && pointwise nat_eq name k.name.items) es) 0
    ≡ value_in (bindings_in es) daemon name
value-lookup daemon name [] = refl
value-lookup daemon name (e ∷ es) =
    unwrap_or-chosen (daemon == e.0.daemon && pointwise nat_eq name e.0.name.items) e.1 _
    ∙ ap (cond (daemon == e.0.daemon && pointwise nat_eq name e.0.name.items) e.1) (value-lookup daemon name es)

bindings_in-chosen : (b : Bool) (xs ys : List (Key × ℕ))
    → bindings_in (cond b xs ys) ≡ cond b (bindings_in xs) (bindings_in ys)
bindings_in-chosen true xs ys = refl
bindings_in-chosen false xs ys = refl

-- an entry as a binding
binding_of : Key → ℕ → Binding
binding_of key value = record { daemon = key.daemon; name = key.name.items; value = value }

-- an entry that is put into the map is a binding that is made
pub bindings_in-insert_entry : (es : List (Key × ℕ)) (key : Key) (value : ℕ)
    → bindings_in (insert_entry (λ a b. a.daemon == b.daemon && pointwise nat_eq a.name.items b.name.items) es key
    value)
    ≡ with_binding (bindings_in es) (record { daemon = key.daemon; name = key.name.items; value = value })
unfolding binding_of
bindings_in-insert_entry [] key value = refl
bindings_in-insert_entry (e ∷ es) key value =
    let here = key.daemon == e.0.daemon && pointwise nat_eq key.name.items e.0.name.items in
    bindings_in-chosen here _ _
    ∙ ap (λ l. cond here (binding_of e.0 value ∷ bindings_in es) (binding_of e.0 e.1 ∷ l))
    (bindings_in-insert_entry es key value)

-- a name that isn't empty is bound
name_given-some : (bindings : List Binding) (daemon : ℕ) (name : List ℕ) (value : ℕ) → (length name == 0) ≡ false
    → name_given bindings daemon name value
    ≡ with_binding bindings (record { daemon = daemon; name = name; value = value })
name_given-some bindings daemon [] value some = absurd (true≢false some)
name_given-some bindings daemon (b ∷ bs) value some = refl

-- the binding under a step's key is the one that its answer makes
pub bound-key : (es : List (Key × ℕ)) (key : Key) (value : ℕ) (bindings : List Binding) (step : ScriptStep)
    (answer : Answer)
    → bindings_in es ≡ bindings → key.daemon ≡ step.daemon → key.name.items ≡ step.name → value ≡ value_given answer
    → (length step.name == 0) ≡ false
    → with_binding (bindings_in es) (record { daemon = key.daemon; name = key.name.items; value = value })
    ≡ bound bindings step answer
bound-key es key value bindings step answer view daemon name given some =
    ap (λ l. with_binding l (record { daemon = key.daemon; name = key.name.items; value = value })) view
    ∙ ap (λ d. with_binding bindings (record { daemon = d; name = key.name.items; value = value })) daemon
    ∙ ap (λ n. with_binding bindings (record { daemon = step.daemon; name = n; value = value })) name
    ∙ ap (λ v. with_binding bindings (record { daemon = step.daemon; name = step.name; value = v })) given
    ∙ sym (name_given-some bindings step.daemon step.name (value_given answer) some)
