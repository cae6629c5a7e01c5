-- What each step of a seat tells: the seat before it, the number found in the word, and the seat after it.
use Rattle.std.specs.Prelude.{◌≡◌, ℕ, ◌+◌, ◌^◌, ◌<◌, ◌≤◌, ◌==◌, true, List, [], ◌∷◌, Option, Some, All, MatchBool}
use Rattle.atomic_table.specs.Table.{Me}
use Rattle.sdr_turn.specs.declared.view.View.{View}
use Rattle.sdr_turn.specs.Entries.{made_at}
use Rattle.sdr_turn.specs.Knowing.{after_draw, after_look, after_take, after_give}
use Rattle.sdr_turn.specs.Found.{IsFound}
use Rattle.sdr_turn.specs.Views.{with_draw, with_known}

-- it has drawn the number after all that were drawn, which is above all that it knew of
abbrev pub DrawsNumber : {V E : Type 0} → Me (Option V) (View E) → ℕ → Me (Option V) (View E) → Type 0
DrawsNumber me found after =
    (after ≡ (with_draw me.0 (after_draw me.0.knows (found + 1)), me.1))
    × All (λ n. n ≤ found) me.0.knows.numbers
    × (me.0.knows.front ≤ found)
    × (found ≤ 2 ^ 46)

-- it has seen how many numbers are done: no fewer than before, not the one that it holds, and all below that one while it has the value
abbrev pub SeesFront : {V E : Type 0} → Me (Option V) (View E) → ℕ → Me (Option V) (View E) → Type 0
SeesFront me found after =
    (after ≡ (with_known me.0 (after_look me.0.knows found), me.1))
    × (me.0.knows.front ≤ found)
    × (0 < me.0.knows.number → found < me.0.knows.number)
    × (me.0.knows.took ≡ true → found + 1 ≡ me.0.knows.number)

-- where its number is served it has the value, and else all is as it was
abbrev pub TakesValue : {V E : Type 0} → (V → List E) → (E → ℕ) → (E → ℕ) → (V → ℕ) → (V → Type 0) → Me (Option V) (View E) → ℕ → Me (Option V) (View E) → Type 0
TakesValue {V} entries number maker turns rests me found after =
    MatchBool (found + 1 == me.0.knows.number)
    ((value : V)
    × (after ≡ (with_known me.0 (after_take me.0.knows (entries value)), (0, Some value) ∷ []))
    × IsFound entries number maker turns rests me.0.knows me.0.knows.number value)
    (after ≡ me)

-- the value that it carried is in its slot, and its number is done; what was made at its place it added itself
abbrev pub GivesValue : {V E : Type 0} → (V → List E) → (E → ℕ) → Me (Option V) (View E) → ℕ → Me (Option V) (View E) → Type 0
GivesValue {V} entries maker me found after =
    ((value : V) → me.1 ≡ (0, Some value) ∷ [] → (after ≡ (with_known me.0 (after_give me.0.knows (entries value)), []))
    × (made_at maker me.0.knows.place (entries value) ≡ (after_give me.0.knows (entries value)).mine))
    × (found ≤ 2 ^ 46)
