-- A step of one seat keeps the rule.
use Rattle.std.proofs.Common.{◌≡◌, ◌≢◌, ◌⊎◌, inl, inr, ⊎_elim, ℕ, zero, suc, ◌+◌, ◌^◌, ◌<◌, ◌≤◌, true, List, [], ◌∷◌, length, set, refl, sym, ◌∙◌, ap, subst, arith}
use Rattle.std.specs.Prelude.{Option, slice_index, slice_set}
use mathlib.Core.Logic.{dite}
use mathlib.Core.Option.{some, some-injective, some-ne-none, Option as Home}
use native.Mathlib.Decide.{ℕ_discrete}
use lib.ListN.{get_elem?}
use Rattle.atomic_table.specs.Table.{State, Me, Act, Valid, homes_after, carried_after, Allows}
use Rattle.atomic_table.proofs.Lists.{at_set, set_here, set_else}
use Rattle.sdr_turn.specs.declared.view.View.{View}
use Rattle.sdr_turn.specs.Entries.{made_at, times, Rise, AtMost}
use Rattle.sdr_turn.specs.Views.{no_place, drew}
use Rattle.sdr_turn.specs.Serving.{Fits, IsHome, IsOut, IsHeld, IsServing}
use Rattle.sdr_turn.proofs.Sums.{sum_by-at, sum_by-parts}
use Rattle.sdr_turn.proofs.ViewLemmas.{drew-most}

pub within : {A : Type 0} (l : List A) (i : ℕ) (a : A) → get_elem? l i ≡ some a → i < length l
within [] i a e = absurd (some-ne-none a (sym e))
within (x ∷ l) zero a e = omega arith
within (x ∷ l) (suc i) a e = omega (arith, within l i a e)

module _ {V E : Type 0} (entries : V → List E) (number maker : E → ℕ) (turns : V → ℕ) (rests : V → Type 0) (seats : ℕ) where
  abbrev pub Rule : State (Option V) (View E) → Type 0
  Rule = IsServing entries number maker turns rests seats

  -- the seats draw few enough numbers for one word
  pub few_drawn : (s : State (Option V) (View E)) → (k : Rule s) → k.drawn ≤ 2 ^ 46
  few_drawn s k =
      let each = sum_by-parts (λ (v : View E). v.parts) (λ (v : View E). v.drawn) s.views (λ i v e. (k.fits i v e).few) in
      omega (arith, each, k.parts, k.draws, k.most)

  -- what has to hold when the view of the seat id goes from v to w, and the entries, the numbers drawn and done become these
  pub record Change (s : State (Option V) (View E)) (k : Rule s) (id : ℕ) (v w : View E) (homes : List (Home (Option V))) (all : List E) (drawn done : ℕ) : Type 0 where
    pub same_parts : w.parts ≡ v.parts
    pub same_places : w.places ≡ v.places
    pub more_drawn : drawn + v.drawn ≡ k.drawn + w.drawn
    pub below : done ≤ drawn
    pub rise : Rise number all
    pub past : AtMost number done all
    pub mine : Fits number maker all drawn done w
    pub others : (j : ℕ) (u : View E) → j ≢ id → get_elem? s.views j ≡ some u → Fits number maker all drawn done u
    pub numbers : (n : ℕ) → drew w n ≡ true → (drew v n ≡ true) ⊎ (k.drawn < n)
    pub waiting : (n : ℕ) → done < n → n ≤ drawn → (w.knows.number ≡ n) ⊎ ((v.knows.number ≢ n) × (k.done < n) × (n ≤ k.drawn))
    pub nowhere : made_at maker no_place all ≡ []
    pub slot : IsHome entries turns rests all done homes ⊎ IsOut (set s.views id w)

  pub changed : (s : State (Option V) (View E)) (k : Rule s) (id : ℕ) (v w : View E) (homes : List (Home (Option V))) (all : List E) (drawn done : ℕ) → get_elem? s.views id ≡ some v
      → Change s k id v w homes all drawn done → Rule (record { words = drawn ∷ done ∷ []; homes = homes; views = set s.views id w })
  changed s k id v w homes all drawn done at c = record {
    drawn = drawn;
    done = done;
    all = all;
    words = refl;
    most = k.most;
    parts = omega (arith, sum_by-at (λ (u : View E). u.parts) s.views id v w at, c.same_parts, k.parts);
    draws = omega (arith, sum_by-at (λ (u : View E). u.drawn) s.views id v w at, c.more_drawn, k.draws);
    below = c.below;
    rise = c.rise;
    past = c.past;
    fits = λ j u e. ⊎_elim (λ t. subst (Fits number maker all drawn done) t.1 c.mine) (λ t. c.others j u t.0 t.1) (at_set s.views id j w u e);
    apart = λ i j n a b ea eb ha hb. apart_after i j n a b ha hb (at_set s.views id i w a ea) (at_set s.views id j w b eb);
    places = λ place. let same = ap (times place) c.same_places in omega (arith, sum_by-at (λ (u : View E). times place u.places) s.views id v w at, same, k.places place);
    nowhere = c.nowhere;
    waiting = λ n low high. ⊎_elim (λ is. record { seat = id; view = w; sits = set_here s.views id w (within s.views id v at); holds = is }) (λ t. still_held n t.0 (k.waiting n t.1 t.2)) (c.waiting n low high);
    slot = c.slot;
  }
    where
      -- a number of the seat that another has too
      shared : (j n : ℕ) (b : View E) → get_elem? s.views j ≡ some b → drew w n ≡ true → drew b n ≡ true → id ≡ j
      shared j n b e hw hb =
          ⊎_elim (λ hv. k.apart id j n v b at e hv hb)
          (λ above. let low = drew-most number maker k.all k.drawn k.done b n (k.fits j b e).knows (k.fits j b e).told hb in absurd (omega (arith, low, above))) (c.numbers n hw)

      apart_after : (i j n : ℕ) (a b : View E) → drew a n ≡ true → drew b n ≡ true → ((i ≡ id) × (w ≡ a)) ⊎ ((i ≢ id) × (get_elem? s.views i ≡ some a))
          → ((j ≡ id) × (w ≡ b)) ⊎ ((j ≢ id) × (get_elem? s.views j ≡ some b)) → i ≡ j
      apart_after i j n a b ha hb (inl x) (inl y) = x.0 ∙ sym y.0
      apart_after i j n a b ha hb (inl x) (inr y) = x.0 ∙ shared j n b y.1 (ap (λ (u : View E). drew u n) x.1 ∙ ha) hb
      apart_after i j n a b ha hb (inr x) (inl y) = sym (shared i n a x.1 (ap (λ (u : View E). drew u n) y.1 ∙ hb) ha) ∙ sym y.0
      apart_after i j n a b ha hb (inr x) (inr y) = k.apart i j n a b x.1 y.1 ha hb

      -- a number that the seat doesn't hold is held by another
      still_held : (n : ℕ) → v.knows.number ≢ n → IsHeld s.views n → IsHeld (set s.views id w) n
      still_held n ne h =
          let other : h.seat ≢ id = λ same. ne (ap (λ (u : View E). u.knows.number) (some-injective v h.view (sym at ∙ ap (get_elem? s.views) (sym same) ∙ h.sits)) ∙ h.holds) in
          record { seat = h.seat; view = h.view; sits = set_else s.views id h.seat w other ∙ h.sits; holds = h.holds }

  -- where the seat holds what it held, each number waits as before
  pub same_waiting : (s : State (Option V) (View E)) (k : Rule s) (v : View E) (n : ℕ) → k.done < n → n ≤ k.drawn → (v.knows.number ≡ n) ⊎ ((v.knows.number ≢ n) × (k.done < n) × (n ≤ k.drawn))
  same_waiting s k v n low high = dite (ℕ_discrete v.knows.number n) inl (λ ne. inr (ne, low, high))

  -- who has the value has it still
  pub still_out : (views : List (View E)) (id : ℕ) (v w : View E) → get_elem? views id ≡ some v → w.knows.took ≡ v.knows.took → IsOut views → IsOut (set views id w)
  still_out views id v w at same o =
      dite (ℕ_discrete o.seat id)
      (λ is.
      let here : v ≡ o.view = some-injective v o.view (sym at ∙ ap (get_elem? views) (sym is) ∙ o.sits) in
      record { seat = id; view = w; sits = set_here views id w (within views id v at); took = same ∙ ap (λ (u : View E). u.knows.took) here ∙ o.took })
      (λ other. record { seat = o.seat; view = o.view; sits = set_else views id o.seat w other ∙ o.sits; took = o.took })

  -- a step is allowed where it is at each two words
  pub allowed : (slots id i : ℕ) (me : Me (Option V) (View E)) (f : ℕ → ℕ) (then : ℕ → Me (Option V) (View E) → Type 0)
      → ((s : State (Option V) (View E)) → (k : Rule s) → length s.homes ≡ slots → get_elem? s.views id ≡ some me.0
      → (w : View E) × (a : Act (Option V)) × Valid s.homes me.1 a
      × Rule (record { words = slice_set (k.drawn ∷ k.done ∷ []) i (f (slice_index (k.drawn ∷ k.done ∷ []) i)); homes = homes_after s.homes me.1 a; views = slice_set s.views id w })
      × then (slice_index (k.drawn ∷ k.done ∷ []) i) (w, carried_after me.1 a))
      → Allows Rule slots id me i f then
  allowed slots id i me f then each s k many at fits =
      subst (λ (ws : List ℕ). (w : View E) × (a : Act (Option V)) × Valid s.homes me.1 a
      × Rule (record { words = slice_set ws i (f (slice_index ws i)); homes = homes_after s.homes me.1 a; views = slice_set s.views id w })
      × then (slice_index ws i) (w, carried_after me.1 a))
      (sym k.words) (each s k many at)
