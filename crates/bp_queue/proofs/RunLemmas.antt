-- What waits behind a run of calls.
use Rattle.std.proofs.Common.{◌≡◌, ℕ, Bool, true, false, not, cond, List, [], ◌∷◌, ◌++◌, Option, Some, None, refl, sym, ap, ◌∙◌, append_assoc, append-nil}
use Rattle.std.specs.Prelude.{◌||◌, ◌==◌, filter, nat_le, nat_lt}
use Rattle.std.specs.List.{list_any}
use Rattle.std.proofs.lemmas.List.Elements.{filter-append, filter_agree}
use Rattle.bp_queue.specs.Runs.{QueueCall, QueueStep, RunsQueue, Puts, Takes, Expires, Looks, put_and_stay, stays, takes_out}
use Rattle.bp_queue.specs.States.{State, Waiting, except, highest, itself, object_of, without}
use Rattle.bp_queue.proofs.StateLemmas.{later-not, none_waits}

-- those that pass neither of two tests are those that don't pass the one among those that don't pass the other
filter_neither : {X : Type 0} (p q : X → Bool) (xs : List X) → filter (λ x. not (p x || q x)) xs ≡ filter (λ x. not (q x)) (filter (λ x. not (p x)) xs)
filter_neither p q [] = refl
filter_neither p q (x ∷ xs) =
    let ih = filter_neither p q xs in
    elim (p x) as (λ v. cond (not (v || q x)) (x ∷ filter (λ y. not (p y || q y)) xs) (filter (λ y. not (p y || q y)) xs)
    ≡ filter (λ y. not (q y)) (cond (not v) (x ∷ filter (λ y. not (p y)) xs) (filter (λ y. not (p y)) xs))) [
      | true ↦ ih
      | false ↦ ap (λ ys. cond (not (q x)) (x ∷ ys) ys) ih
    ]

-- all stay over no calls
stay_all : (s : State) → filter (stays []) s ≡ s
stay_all [] = refl
stay_all (w ∷ s) = ap (λ ys. w ∷ ys) (stay_all s)

-- behind a take, those of the object are gone
take_leaves : (calls : List QueueCall) (before mid : State) (object : ℕ) → QueueStep before (Takes object) mid →
    filter (stays (Takes object ∷ calls)) before ≡ filter (stays calls) mid
take_leaves calls before mid object step = by (highest itself before) refl step
  where
    by : (o : Option Waiting) → highest itself before ≡ o → (object ≡ object_of itself o) × (mid ≡ except itself o before) →
        filter (stays (Takes object ∷ calls)) before ≡ filter (stays calls) mid
    by None none s =
        let empty = none_waits itself before none in
        ap (filter (stays (Takes object ∷ calls))) empty ∙ sym (ap (filter (stays calls)) (s.1 ∙ empty))
    by (Some w) some s =
        filter_neither (λ v. v.object == object) (λ v. list_any (takes_out v) calls) before
        ∙ ap (λ n. filter (stays calls) (without itself n before)) s.0 ∙ sym (ap (filter (stays calls)) s.1)

-- behind an expiry, those that were overdue are
expiry_leaves : (calls : List QueueCall) (before mid : State) (now count : ℕ) → QueueStep before (Expires now count) mid →
    filter (stays (Expires now count ∷ calls)) before ≡ filter (stays calls) mid
expiry_leaves calls before mid now count step =
    filter_neither (λ v. nat_le v.deadline now) (λ v. list_any (takes_out v) calls) before
    ∙ ap (filter (stays calls))
    (filter_agree (λ v. not (nat_le v.deadline now)) (λ v. nat_lt now v.deadline) (λ v. sym (later-not now v.deadline)) before)
    ∙ sym (ap (filter (stays calls)) step.0)

-- those that wait behind a run are those that waited before it or were put in it, and stay over what follows
pub run_leaves : (calls : List QueueCall) (before s : State) → RunsQueue before calls s →
    s ≡ filter (stays calls) before ++ put_and_stay calls
run_leaves [] before s run = run ∙ sym (append-nil (filter (stays []) before) ∙ stay_all before)
run_leaves (Puts w ∷ calls) before s run =
    let ih = run_leaves calls run.0 s run.2 in
    let step = run.1 in
    ih
    ∙ ap (λ t. filter (stays calls) t ++ put_and_stay calls) step.1
    ∙ ap (λ t. t ++ put_and_stay calls) (filter-append (stays calls) before (w ∷ []))
    ∙ append_assoc (filter (stays calls) before) (filter (stays calls) (w ∷ [])) (put_and_stay calls)
run_leaves (Takes object ∷ calls) before s run =
    run_leaves calls run.0 s run.2 ∙ ap (λ t. t ++ put_and_stay calls) (sym (take_leaves calls before run.0 object run.1))
run_leaves (Expires now count ∷ calls) before s run =
    run_leaves calls run.0 s run.2 ∙ ap (λ t. t ++ put_and_stay calls) (sym (expiry_leaves calls before run.0 now count run.1))
run_leaves (Looks ∷ calls) before s run =
    run_leaves calls run.0 s run.2 ∙ ap (λ t. filter (stays calls) t ++ put_and_stay calls) run.1
