-- The step of a seat that gives the value back is allowed.
use Rattle.std.proofs.Common.{◌≡◌, ◌≢◌, inl, inr, ⊎_elim, ℕ, ◌+◌, ◌%◌, ◌^◌, ◌<◌, Bool, true, false, List, [], ◌∷◌, ◌++◌, drop, length, set, refl, sym, ◌∙◌, ap, subst, arith, mod-eq_of_lt}
use Rattle.std.specs.Prelude.{Option, Some, All}
use Rattle.std.proofs.lemmas.List.Elements.{All-nil, All-weaker}
use mathlib.Core.Option.{some}
use lib.ListN.{get_elem?}
use Rattle.atomic_table.specs.Table.{State, Allows, gives}
use Rattle.atomic_table.proofs.Lists.{set_here}
use Rattle.sdr_turn.specs.declared.known.Known.{Known}
use Rattle.sdr_turn.specs.declared.view.View.{View}
use Rattle.sdr_turn.specs.Entries.{has, made_at, times, AtMost, MayAdd}
use Rattle.sdr_turn.specs.Knowing.{Agrees, after_give}
use Rattle.sdr_turn.specs.Views.{no_place, with_known, drew}
use Rattle.sdr_turn.specs.Plays.{GivesValue}
use Rattle.sdr_turn.specs.Serving.{Fits, IsServing}
use Rattle.sdr_turn.proofs.EntryLemmas.{prefix_self, has-some, has-most, times-one, add-rise, add-past, own-added, made-others, made-added}
use Rattle.sdr_turn.proofs.Sums.{two-le-sum_by}
use Rattle.sdr_turn.proofs.ViewLemmas.{drew-own, agree-give}
use Rattle.sdr_turn.proofs.Changes.{few_drawn, changed, allowed}

module _ {V E : Type 0} (entries : V → List E) (number maker : E → ℕ) (turns : V → ℕ) (rests : V → Type 0) (seats : ℕ) where
  abbrev Rule : State (Option V) (View E) → Type 0
  Rule = IsServing entries number maker turns rests seats

  -- no other seat drew the number that is done
  not_theirs : (s : State (Option V) (View E)) (k : Rule s) (id : ℕ) (v : View E) → get_elem? s.views id ≡ some v → 0 < v.knows.number → (j : ℕ) (u : View E) → j ≢ id → get_elem? s.views j ≡ some u
      → drew u v.knows.number ≡ false
  not_theirs s k id v at has_one j u ne e = by_bool (drew u v.knows.number) refl
    where
      by_bool : (b : Bool) → drew u v.knows.number ≡ b → drew u v.knows.number ≡ false
      by_bool false is = is
      by_bool true is = absurd (ne (k.apart j id v.knows.number u v e at is (drew-own v v.knows.number ((k.fits id v at).held has_one).1)))

  -- no other seat has a place of the seat
  not_there : (s : State (Option V) (View E)) (k : Rule s) (id : ℕ) (v : View E) (place : ℕ) → get_elem? s.views id ≡ some v → 0 < times place v.places → (j : ℕ) (u : View E) → j ≢ id → get_elem? s.views j ≡ some u
      → times place u.places ≡ 0
  not_there s k id v place at here j u ne e = let two = two-le-sum_by (λ (x : View E). times place x.places) s.views j id u v ne e at in omega (arith, two, here, k.places place)

  others_fit : (s : State (Option V) (View E)) (k : Rule s) (id : ℕ) (v : View E) (after : List E) → get_elem? s.views id ≡ some v → v.knows.took ≡ true → 0 < v.knows.number → 0 < times v.knows.place v.places
      → v.knows.place ≢ no_place → MayAdd number maker v.knows.number v.knows.place k.all after
      → (j : ℕ) (u : View E) → j ≢ id → get_elem? s.views j ≡ some u → Fits number maker after k.drawn (k.done + 1) u
  others_fit s k id v after at out has_one here somewhere adds j u ne e =
      let g = k.fits j u e in
      let t = (k.fits id v at).took out in
      let strange = not_theirs s k id v at has_one j u ne e in
      let off = not_there s k id v v.knows.place at here j u ne e in
      let away : (place : ℕ) → 0 < times place u.places → place ≢ v.knows.place = λ place among same. let theirs = ap (λ p. times p u.places) same in absurd (omega (arith, theirs, among, off)) in
      let elsewhere : u.knows.place ≢ v.knows.place = λ same. ⊎_elim (λ among. away u.knows.place among same) (λ none. somewhere (sym same ∙ none)) g.placed in
      let told_elsewhere = All-weaker (λ (x : Known E). 0 < times x.place u.places) (λ (x : Known E). x.place ≢ v.knows.place) (λ x among. away x.place among) u.told g.told_placed in
      let both = agree-give number maker k.all k.drawn k.done v.knows.number v.knows.place after adds u strange elsewhere told_elsewhere g.knows g.told in
      let other : 0 < u.knows.number → u.knows.number ≢ v.knows.number = λ lt same. let theirs = drew-own u u.knows.number (g.held lt).1 in absurd (cc (strange, ap (drew u) (sym same) ∙ theirs)) in record {
        few = g.few;
        knows = both.0;
        told = both.1;
        placed = g.placed;
        told_placed = g.told_placed;
        unmade = λ none place among. made-others number maker v.knows.number v.knows.place k.all after adds place (away place among) ∙ g.unmade none place among;
        apart = g.apart;
        held = λ lt. let h = g.held lt in let o = other lt in (omega (arith, h.0, o, t.0), h.1, h.2);
        took = λ b. let c = g.took b in absurd (other (omega (arith, c.0)) (c.0 ∙ sym t.0));
      }

  -- what the seat knows that gave the value
  own_give : (all after : List E) (drawn done : ℕ) (k : Known E) → Agrees number maker all drawn done k → k.number ≡ done + 1 → k.seen ≡ all → has k.numbers k.number ≡ true → MayAdd number maker k.number k.place all after
      → Agrees number maker after drawn (done + 1) (after_give k after)
  own_give all after drawn done k a turn seen has_it adds = record {
    numbers = a.numbers;
    rise = a.rise;
    front = omega (arith, turn);
    begins = prefix_self after;
    mine = own-added number maker k.number k.place all after adds k.numbers has_it ∙ (λ i. a.mine i ++ drop (length (sym seen i)) after);
    made = made-added number maker k.number k.place all after adds ∙ (λ i. a.made i ++ drop (length (sym seen i)) after);
  }

  pub may_give : (slots id : ℕ) (v : View E) (y : V) → slots ≡ 1 → v.told ≡ [] → v.places ≡ v.knows.place ∷ [] → v.knows.place < 64 → v.drawn ≡ length v.knows.numbers → v.knows.took ≡ true → 0 < v.knows.number → turns y ≡ v.knows.number → rests y → MayAdd number maker v.knows.number v.knows.place v.knows.seen (entries y)
      → Allows Rule slots id (v, (0, Some y) ∷ []) 1 (λ n. (n + 1) % 2 ^ 64) (GivesValue entries maker (v, (0, Some y) ∷ []))
  may_give slots id v y single alone one_place few count out has_one turn rested may =
      allowed entries number maker turns rests seats slots id 1 (v, (0, Some y) ∷ []) (λ n. (n + 1) % 2 ^ 64) (GivesValue entries maker (v, (0, Some y) ∷ []))
      (λ s k one at.
      let f = k.fits id v at in
      let t = f.took out in
      let most = few_drawn entries number maker turns rests seats s k in
      let next : (k.done + 1) % 2 ^ 64 ≡ k.done + 1 = mod-eq_of_lt (omega (arith, most, k.below)) in
      let above : k.done < v.knows.number = omega (arith, t.0) in
      let adds : MayAdd number maker v.knows.number v.knows.place k.all (entries y) = subst (λ xs. MayAdd number maker v.knows.number v.knows.place xs (entries y)) t.1 may in
      let here : 0 < times v.knows.place v.places = omega (arith, ap (times v.knows.place) one_place, times-one v.knows.place) in
      let somewhere : v.knows.place ≢ no_place = λ none. absurd (omega (arith, none, few)) in
      let knows = own_give k.all (entries y) k.drawn k.done v.knows f.knows t.0 t.1 (f.held has_one).1 adds in
      let w = with_known v (after_give v.knows (entries y)) in (
        w,
        gives,
        tt,
        subst (λ n. Rule (record { words = k.drawn ∷ n ∷ []; homes = set s.homes 0 (some (Some y)); views = set s.views id w })) (sym next)
            (changed entries number maker turns rests seats s k id v w (set s.homes 0 (some (Some y))) (entries y) k.drawn (k.done + 1) at (record {
              same_parts = refl;
              same_places = refl;
              more_drawn = refl;
              below = let h = has-most k.drawn v.knows.number v.knows.numbers f.knows.numbers (f.held has_one).1 in omega (arith, h, t.0);
              rise = add-rise number maker v.knows.number v.knows.place k.all (entries y) adds k.done above k.past k.rise;
              past = subst (λ n. AtMost number n (entries y)) t.0 (add-past number maker v.knows.number v.knows.place k.all (entries y) adds k.done (omega (arith, above)) k.past);
              mine = record {
                few = f.few;
                knows = knows;
                told = subst (All (Agrees number maker (entries y) k.drawn (k.done + 1))) (sym alone) (All-nil (Agrees number maker (entries y) k.drawn (k.done + 1)));
                placed = inl here;
                told_placed = subst (All (λ (x : Known E). 0 < times x.place v.places)) (sym alone) (All-nil (λ (x : Known E). 0 < times x.place v.places));
                unmade = λ none. let some_number = has-some v.knows.numbers v.knows.number (f.held has_one).1 in absurd (omega (arith, none, count, some_number));
                apart = f.apart;
                held = λ lt. absurd (omega (arith, lt));
                took = λ e. absurd cc;
              };
              others = λ j u ne e. others_fit s k id v (entries y) at out has_one here somewhere adds j u ne e;
              numbers = λ n h. inl h;
              nowhere = made-others number maker v.knows.number v.knows.place k.all (entries y) adds no_place (λ same. somewhere (sym same)) ∙ k.nowhere;
              waiting = λ n low high. inr (λ is. absurd (omega (arith, is, low, t.0)), omega (arith, low), high);
              slot = inl (record { value = y; here = set_here s.homes 0 (some (Some y)) (omega (arith, one, single)); entries_are = refl; turns_are = turn ∙ t.0; rested = rested });
            })),
        (λ value same. let is = one_value y value same in (ap (λ x. (with_known v (after_give v.knows (entries x)), [])) is, subst (λ x. made_at maker v.knows.place (entries x) ≡ (after_give v.knows (entries x)).mine) is knows.made), omega (arith, most, k.below)),
      ))
    where
      one_value : (x y : V) → ◌≡◌ {A = List (ℕ × Option V)} ((0, Some x) ∷ []) ((0, Some y) ∷ []) → x ≡ y
      one_value x y same =
          let pair : ◌≡◌ {A = ℕ × Option V} (0, Some x) (0, Some y) = cc same in
          let value : Some x ≡ Some y = ap (λ (p : ℕ × Option V). p.1) pair in cc value
