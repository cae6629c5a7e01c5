-- The lock opens, its seats are cut and joined, and it closes.
use Rattle.std.proofs.Common.{◌≡◌, ◌≢◌, ◌⊎◌, inl, inr, ⊎_elim, ℕ, zero, suc, ◌+◌, ◌-◌, ◌<◌, ◌≤◌, ◌==◌, Bool, true, false, List, [], ◌∷◌, ◌++◌, set, refl, sym, ◌∙◌, ap, subst, arith}
use Rattle.std.specs.Prelude.{Option, Some, All, AllPairs, cond, sum_by}
use Rattle.std.proofs.lemmas.Bool.Decides.{nat_tests}
use Rattle.std.proofs.lemmas.List.Elements.{All-nil, All-cons, All-push, All-weaker}
use Rattle.std.proofs.lemmas.List.Sums.{sum_by-cons, sum_by_push}
use Rattle.std.proofs.lemmas.List.{map-append}
use Rattle.std.proofs.lemmas.List.Kept.{AllPairs-cons}
use Rattle.std.specs.List.{range_with_len}
use mathlib.Core.Logic.{dite}
use mathlib.Core.Option.{some, some-injective, some-ne-none}
use native.Mathlib.Decide.{ℕ_discrete}
use lib.ListN.{get_elem?}
use Rattle.atomic_table.specs.Table.{State, Splits, Joins, Final, Seen, opening}
use Rattle.atomic_table.proofs.Lists.{at_set, at_snoc, at_longer, set_here, set_else}
use Rattle.sdr_turn.specs.declared.known.Known.{Known}
use Rattle.sdr_turn.specs.declared.view.View.{View}
use Rattle.sdr_turn.specs.Entries.{has, times, made_at, Apart, Rise, AtMost}
use Rattle.sdr_turn.specs.Knowing.{nothing, Agrees}
use Rattle.sdr_turn.specs.Views.{no_place, new_view, seat_view, with_view, told_of, numbers_of, drew}
use Rattle.sdr_turn.specs.Serving.{Fits, IsHome, IsOut, IsHeld, IsServing}
use Rattle.sdr_turn.specs.Ends.{IsEnd}
use Rattle.sdr_turn.proofs.EntryLemmas.{own-none, or-cases, times-append, times-one, range-first, range-has_first, range-once}
use Rattle.sdr_turn.proofs.Sums.{sum_by-at, sum_by-rest, one-le-sum_by, two-le-sum_by}
use Rattle.sdr_turn.proofs.ViewLemmas.{apart_all, apart_one, drew-own}
use Rattle.sdr_turn.proofs.Changes.{within}

-- of one view that stands alone there is no other
only : {E : Type 0} (x : View E) (i : ℕ) (v : View E) → get_elem? (x ∷ []) i ≡ some v → x ≡ v
only x zero v e = some-injective x v e
only x (suc i) v e = absurd (some-ne-none v (sym e))

-- the number stood at a place that goes to this one
record Stood {E : Type 0} (views : List (View E)) (home : ℕ → ℕ) (j n : ℕ) : Type 0 where
  place : ℕ
  view : View E
  sits : get_elem? views place ≡ some view
  among : drew view n ≡ true
  goes : home place ≡ j

module _ {V E : Type 0} (entries : V → List E) (number maker : E → ℕ) (turns : V → ℕ) (rests : V → Type 0) where
  abbrev Rule : ℕ → State (Option V) (View E) → Type 0
  Rule = IsServing entries number maker turns rests

  -- what a new seat knows agrees with all
  new_agrees : (all : List E) (drawn done place : ℕ) → made_at maker place all ≡ [] → Agrees number maker all drawn done (nothing place)
  new_agrees all drawn done place none = record {
    numbers = All-nil (λ n. (0 < n) × (n ≤ drawn));
    rise = λ i j d lt inside. absurd (omega (arith, inside));
    front = omega arith;
    begins = (all, refl);
    mine = own-none number all;
    made = none;
  }

  -- nor was an entry made at its places
  new_fits : (all : List E) (drawn done place parts : ℕ) → (0 < times place (range_with_len place parts)) ⊎ (place ≡ no_place) → made_at maker place all ≡ []
      → ((p : ℕ) → 0 < times p (range_with_len place parts) → made_at maker p all ≡ []) → Fits number maker all drawn done (new_view place parts)
  new_fits all drawn done place parts placed none unmade = record {
    few = omega arith;
    knows = new_agrees all drawn done place none;
    told = All-nil (Agrees number maker all drawn done);
    placed = placed;
    told_placed = All-nil (λ (k : Known E). 0 < times k.place (range_with_len place parts));
    unmade = λ undrawn. unmade;
    apart = apart_one [];
    held = λ lt. absurd (omega (arith, lt));
    took = λ t. absurd cc;
  }

  pub opens : (seats : ℕ) (y : V) → 1 ≤ seats → seats ≤ 64 → rests y → entries y ≡ [] → turns y ≡ 0 → Rule seats (opening (0 ∷ 0 ∷ []) (Some y ∷ []) (new_view 0 seats))
  opens seats y some_seat few rested empty none_done = record {
    drawn = 0;
    done = 0;
    all = [];
    words = refl;
    most = few;
    parts = omega arith;
    draws = refl;
    below = omega arith;
    rise = λ i j d lt inside. absurd (omega (arith, inside));
    past = All-nil (λ e. number e ≤ 0);
    fits = λ i v e. subst (Fits number maker [] 0 0) (only (new_view 0 seats) i v e) (new_fits [] 0 0 0 seats (inl (range-has_first 0 seats some_seat)) refl (λ p among. refl));
    apart = λ i j n v w ev ew hv hw. let no_number : drew (new_view {E = E} 0 seats) n ≡ true = ap (λ (u : View E). drew u n) (only (new_view 0 seats) i v ev) ∙ hv in absurd (cc no_number);
    places = λ place. omega (arith, sum_by-cons (λ (u : View E). times place u.places) (new_view 0 seats) [], range-once place 0 seats);
    nowhere = refl;
    waiting = λ n low high. absurd (omega (arith, low, high));
    slot = inl (record { value = y; here = refl; entries_are = empty; turns_are = none_done; rested = rested });
  }

  -- other views with the same sums, whose numbers stood at places that go to theirs
  regrouped : (seats : ℕ) (s : State (Option V) (View E)) (k : Rule seats s) (views : List (View E)) (home : ℕ → ℕ)
      → sum_by (λ v. v.parts) views ≡ sum_by (λ v. v.parts) s.views → sum_by (λ v. v.drawn) views ≡ sum_by (λ v. v.drawn) s.views
      → ((place : ℕ) → sum_by (λ v. times place v.places) views ≡ sum_by (λ v. times place v.places) s.views)
      → ((j : ℕ) (u : View E) → get_elem? views j ≡ some u → Fits number maker k.all k.drawn k.done u × ((n : ℕ) → drew u n ≡ true → Stood s.views home j n))
      → ((n : ℕ) → 0 < n → IsHeld s.views n → IsHeld views n)
      → (IsOut s.views → IsOut views)
      → Rule seats (record { words = s.words; homes = s.homes; views = views })
  regrouped seats s k views home parts draws places each held out = record {
    drawn = k.drawn;
    done = k.done;
    all = k.all;
    words = k.words;
    most = k.most;
    parts = parts ∙ k.parts;
    draws = draws ∙ k.draws;
    below = k.below;
    rise = k.rise;
    past = k.past;
    fits = λ j u e. (each j u e).0;
    apart = λ i j n v w ev ew hv hw. let a = (each i v ev).1 n hv in let b = (each j w ew).1 n hw in sym a.goes ∙ (ap home (k.apart a.place b.place n a.view b.view a.sits b.sits a.among b.among) ∙ b.goes);
    places = λ place. omega (arith, places place, k.places place);
    nowhere = k.nowhere;
    waiting = λ n low high. held n (omega (arith, low)) (k.waiting n low high);
    slot = ⊎_elim inl (λ o. inr (out o)) k.slot;
  }

  -- a seat without the value isn't the one that has it
  not_out : (views : List (View E)) (id : ℕ) (v : View E) → get_elem? views id ≡ some v → v.knows.took ≡ false → (o : IsOut views) → o.seat ≢ id
  not_out views id v at free o same =
      let here : v ≡ o.view = some-injective v o.view (sym at ∙ ap (get_elem? views) (sym same) ∙ o.sits) in
      let out : v.knows.took ≡ true = ap (λ (u : View E). u.knows.took) here ∙ o.took in absurd (cc (free, out))

  -- a seat that holds no number isn't the one that holds this
  not_held : (views : List (View E)) (id : ℕ) (v : View E) (n : ℕ) → get_elem? views id ≡ some v → v.knows.number ≡ 0 → 0 < n → (h : IsHeld views n) → h.seat ≢ id
  not_held views id v n at idle some_number h same =
      let here : v ≡ h.view = some-injective v h.view (sym at ∙ ap (get_elem? views) (sym same) ∙ h.sits) in
      let holds : v.knows.number ≡ n = ap (λ (u : View E). u.knows.number) here ∙ h.holds in absurd (omega (arith, holds, idle, some_number))

  pub splits : (seats id place parts : ℕ) → 1 < parts → Splits (Rule seats) id (new_view place parts) (new_view (place + 1) (parts - 1)) (seat_view (nothing place))
  splits seats id place parts several s k at =
      let v = new_view {E = E} place parts in
      let w = new_view {E = E} (place + 1) (parts - 1) in
      let one = seat_view {E = E} (nothing place) in
      let some_part : 0 < parts = omega (arith, several) in
      let undone = (k.fits id v at).unmade refl in
      let first_fits : Fits number maker k.all k.drawn k.done one = new_fits k.all k.drawn k.done place 1 (inl (range-has_first place 1 (omega arith))) (undone place (range-has_first place parts some_part))
      (λ p among. undone p (omega (arith, range-first p place parts some_part, range-first p place 1 (omega arith), among))) in
      let next_is : 0 < times (place + 1) (range_with_len (place + 1) (parts - 1)) = range-has_first (place + 1) (parts - 1) (omega (arith, several)) in
      let later : (p : ℕ) → 0 < times p (range_with_len (place + 1) (parts - 1)) → made_at maker p k.all ≡ [] = λ p among. undone p (omega (arith, range-first p place parts some_part, among)) in
      let others_fit : Fits number maker k.all k.drawn k.done w = new_fits k.all k.drawn k.done (place + 1) (parts - 1) (inl next_is) (later (place + 1) next_is) later in
      let sum_parts = sum_by-at (λ (u : View E). u.parts) s.views id v w at in
      let sum_drawn = sum_by-at (λ (u : View E). u.drawn) s.views id v w at in
      regrouped seats s k (set s.views id w ++ one ∷ []) (λ i. i)
      (omega (arith, sum_by_push (λ (u : View E). u.parts) (set s.views id w) one, sum_parts, several))
      (omega (arith, sum_by_push (λ (u : View E). u.drawn) (set s.views id w) one, sum_drawn))
      (λ p. omega (arith, sum_by_push (λ (u : View E). times p u.places) (set s.views id w) one, sum_by-at (λ (u : View E). times p u.places) s.views id v w at, range-first p place parts some_part))
      (λ j u e. ⊎_elim
      (λ old. ⊎_elim
      (λ t. subst (Here s k j) t.1 (others_fit, λ n had. absurd (cc had)))
      (λ t. (k.fits j u t.1, λ n had. record { place = j; view = u; sits = t.1; among = had; goes = refl }))
      (at_set s.views id j w u old))
      (λ new. subst (Here s k j) new (first_fits, λ n had. absurd (cc had)))
      (at_snoc (set s.views id w) one u j e))
      (λ n some_number h. record {
        seat = h.seat;
        view = h.view;
        sits = at_longer (set s.views id w) (one ∷ []) h.seat h.view (set_else s.views id h.seat w (not_held s.views id v n at refl some_number h) ∙ h.sits);
        holds = h.holds;
      })
      (λ o. record { seat = o.seat; view = o.view; sits = at_longer (set s.views id w) (one ∷ []) o.seat o.view (set_else s.views id o.seat w (not_out s.views id v at refl o) ∙ o.sits); took = o.took })
    where
      Here : (s : State (Option V) (View E)) (k : Rule seats s) → ℕ → View E → Type 0
      Here s k j u = Fits number maker k.all k.drawn k.done u × ((n : ℕ) → drew u n ≡ true → Stood s.views (λ i. i) j n)

  -- where one seat and another that is joined into it go
  home_of : ℕ → ℕ → ℕ → ℕ
  home_of id other i = cond (i == other) id i

  home_of-itself : (id other : ℕ) → home_of id other id ≡ id
  unfolding home_of
  home_of-itself id other = by_case (id == other)
    where
      by_case : (b : Bool) → cond b id id ≡ id
      by_case true = refl
      by_case false = refl

  home_of-other : (id other : ℕ) → home_of id other other ≡ id
  unfolding home_of
  home_of-other id other = grind (arith, nat_tests)

  home_of-else : (id other i : ℕ) → i ≢ other → home_of id other i ≡ i
  unfolding home_of
  home_of-else id other i ne = grind (arith, nat_tests)

  pub joins : (seats id : ℕ) (v : View E) (other : ℕ) (w : View E) → v.knows.took ≡ false → w.places ≡ w.knows.place ∷ [] → w.knows.number ≡ 0 → w.knows.took ≡ false
      → Joins (Rule seats) id v other w (with_view v w) (new_view no_place 0)
  joins seats id v other w free placed' idle' free' s k at apart there =
      let both = with_view v w in
      let first = set s.views id both in
      let theirs : get_elem? s.views other ≡ some w = ⊎_elim (λ t. absurd (apart t.0)) (λ t. t.1) (at_set s.views id other both w there) in
      let f = k.fits id v at in
      let g = k.fits other w theirs in
      let strange : (n : ℕ) → has w.knows.numbers n ≡ true → drew v n ≡ true → ⊥ = λ n hw hv. apart (sym (k.apart id other n v w at theirs hv (drew-own w n hw))) in
      let all_fits : Fits number maker k.all k.drawn k.done both = record {
        few = omega (arith, f.few, g.few);
        knows = f.knows;
        told = All-cons (Agrees number maker k.all k.drawn k.done) w.knows v.told g.knows f.told;
        placed = ⊎_elim (λ among. inl (of_both v.knows.place (or_here v.knows.place among))) inr f.placed;
        told_placed = All-cons (λ (x : Known E). 0 < times x.place both.places) w.knows v.told (of_both w.knows.place (or_there w.knows.place (omega (arith, ap (times w.knows.place) placed', times-one w.knows.place))))
            (All-weaker (λ (x : Known E). 0 < times x.place v.places) (λ (x : Known E). 0 < times x.place both.places) (λ x among. of_both x.place (or_here x.place among)) v.told f.told_placed);
        unmade = λ none p among. dite (ℕ_discrete (times p v.places) 0)
            (λ off. g.unmade (omega (arith, none)) p (omega (arith, times-append p v.places w.places, among, off)))
            (λ on. f.unmade (omega (arith, none)) p (omega (arith, on)));
        apart = AllPairs-cons Apart w.knows.numbers (numbers_of v) (apart_all w.knows.numbers (numbers_of v) strange) f.apart;
        held = λ lt. let h = f.held lt in (h.0, h.1, omega (arith, h.2));
        took = λ t. absurd (cc (free, t));
      } in
      regrouped seats s k (set first other (new_view no_place 0)) (home_of id other)
      (omega (arith, sum_by-at (λ (u : View E). u.parts) s.views id v both at, sum_by-at (λ (u : View E). u.parts) first other w (new_view no_place 0) there))
      (omega (arith, sum_by-at (λ (u : View E). u.drawn) s.views id v both at, sum_by-at (λ (u : View E). u.drawn) first other w (new_view no_place 0) there))
      (λ p. omega (arith, sum_by-at (λ (u : View E). times p u.places) s.views id v both at, sum_by-at (λ (u : View E). times p u.places) first other w (new_view no_place 0) there, times-append p v.places w.places))
      (λ j u e. ⊎_elim
      (λ t. subst (Here s k j) t.1 (new_fits k.all k.drawn k.done no_place 0 (inr refl) k.nowhere (λ p among. absurd (omega (arith, among))), λ n had. absurd (cc had)))
      (λ t. ⊎_elim
      (λ r. subst (Here s k j) r.1 (all_fits, λ n had. joined_stood s k j n at theirs r.0 had))
      (λ r. (k.fits j u r.1, λ n had. record { place = j; view = u; sits = r.1; among = had; goes = home_of-else id other j t.0 }))
      (at_set s.views id j both u t.1))
      (at_set first other j (new_view no_place 0) u e))
      (λ n some_number h. still_held s n at h (not_held s.views other w n theirs idle' some_number h))
      (λ o. record {
        seat = o.seat;
        view = o.view;
        sits = set_else first other o.seat (new_view no_place 0) (not_out s.views other w theirs free' o) ∙ (set_else s.views id o.seat both (not_out s.views id v at free o) ∙ o.sits);
        took = o.took;
      })
    where
      Here : (s : State (Option V) (View E)) (k : Rule seats s) → ℕ → View E → Type 0
      Here s k j u = Fits number maker k.all k.drawn k.done u × ((n : ℕ) → drew u n ≡ true → Stood s.views (home_of id other) j n)

      -- a place of one of the two is one of the joined seat's
      of_both : (p : ℕ) → 0 < times p v.places + times p w.places → 0 < times p (v.places ++ w.places)
      of_both p among = omega (arith, times-append p v.places w.places, among)

      or_here : (p : ℕ) → 0 < times p v.places → 0 < times p v.places + times p w.places
      or_here p among = omega (arith, among)

      or_there : (p : ℕ) → 0 < times p w.places → 0 < times p v.places + times p w.places
      or_there p among = omega (arith, among)

      -- what the joined seat drew one of the two had drawn
      joined_stood : (s : State (Option V) (View E)) (k : Rule seats s) (j n : ℕ) → get_elem? s.views id ≡ some v → get_elem? s.views other ≡ some w → j ≡ id → drew (with_view v w) n ≡ true → Stood s.views (home_of id other) j n
      joined_stood s k j n at theirs here had =
          ⊎_elim (λ hw. record { place = other; view = w; sits = theirs; among = drew-own w n hw; goes = home_of-other id other ∙ sym here })
          (λ hv. record { place = id; view = v; sits = at; among = hv; goes = home_of-itself id other ∙ sym here })
          (or-cases (has w.knows.numbers n) (drew v n) had)

      -- a number is held by the seat that held it, or by the joined one
      still_held : (s : State (Option V) (View E)) (n : ℕ) → get_elem? s.views id ≡ some v → (h : IsHeld s.views n) → h.seat ≢ other → IsHeld (set (set s.views id (with_view v w)) other (new_view no_place 0)) n
      still_held s n at h ne = dite (ℕ_discrete h.seat id)
          (λ is. record {
            seat = id;
            view = with_view v w;
            sits = set_else (set s.views id (with_view v w)) other id (new_view no_place 0) (λ same. ne (is ∙ same)) ∙ set_here s.views id (with_view v w) (within s.views id v at);
            holds = ap (λ (u : View E). u.knows.number) (some-injective v h.view (sym at ∙ ap (get_elem? s.views) (sym is) ∙ h.sits)) ∙ h.holds;
          })
          (λ else. record {
            seat = h.seat;
            view = h.view;
            sits = set_else (set s.views id (with_view v w)) other h.seat (new_view no_place 0) ne ∙ (set_else s.views id h.seat (with_view v w) else ∙ h.sits);
            holds = h.holds;
          })

  -- who has all seats, and neither a number nor the value, finds the value at home, and all numbers done
  pub closes : (seats id : ℕ) (v : View E) (words : List ℕ) (slots : List (Option V)) → v.parts ≡ seats → v.knows.number ≡ 0 → v.knows.took ≡ false → Final (Seen (Rule seats) id v) words slots
      → (value : V) × (get_elem? slots 0 ≡ some (Some value)) × IsEnd entries number maker turns rests v value
  closes seats id v words slots whole idle free end =
      let s = end.0 in
      let k = end.1.0 in
      let at = end.1.1 in
      let f = k.fits id v at in
      let h : IsHome entries turns rests k.all k.done s.homes = ⊎_elim (λ h. h) (λ o. absurd (alone s k at o.seat o.view o.sits (not_out s.views id v at free o) ((k.fits o.seat o.view o.sits).took o.took).2)) k.slot in
      let all_done : k.done ≡ k.drawn = nobody_waits s k at in
      let drawn : k.drawn ≡ v.drawn = all_drawn s k at in
      let agree : All (Agrees number maker k.all k.drawn k.done) (told_of v) = All-push (Agrees number maker k.all k.drawn k.done) v.told v.knows f.told f.knows in (
        h.value,
        end.4 0 (Some h.value) h.here,
        record {
          rested = h.rested;
          rise = subst (Rise number) (sym h.entries_are) k.rise;
          past = subst (λ (n : ℕ). AtMost number n (entries h.value)) (sym h.turns_are) (subst (AtMost number k.done) (sym h.entries_are) k.past);
          turns_are = h.turns_are ∙ (all_done ∙ drawn);
          agree = subst (λ (t : ℕ). All (Agrees number maker (entries h.value) t t) (told_of v)) (sym h.turns_are)
              (subst (λ (es : List E). All (Agrees number maker es k.done k.done) (told_of v)) (sym h.entries_are) (subst (λ (n : ℕ). All (Agrees number maker k.all n k.done) (told_of v)) (sym all_done) agree));
          apart = subst (AllPairs Apart) (sym (map-append (λ (x : Known E). x.numbers) v.told (v.knows ∷ []))) f.apart;
        },
      )
    where
      -- no other seat has a part
      alone : (s : State (Option V) (View E)) (k : Rule seats s) → get_elem? s.views id ≡ some v → (j : ℕ) (u : View E) → get_elem? s.views j ≡ some u → j ≢ id → 0 < u.parts → ⊥
      alone s k at j u e ne part = let two = two-le-sum_by (λ (x : View E). x.parts) s.views j id u v ne e at in absurd (omega (arith, two, part, whole, k.parts))

      nobody_waits : (s : State (Option V) (View E)) (k : Rule seats s) → get_elem? s.views id ≡ some v → k.done ≡ k.drawn
      nobody_waits s k at =
          dite (ℕ_discrete k.done k.drawn) (λ is. is)
          (λ ne.
          let h = k.waiting k.drawn (omega (arith, ne, k.below)) (omega arith) in
          let some_number : 0 < k.drawn = omega (arith, ne, k.below) in
          let part = ((k.fits h.seat h.view h.sits).held (omega (arith, h.holds, some_number))).2 in
          absurd (alone s k at h.seat h.view h.sits (not_held s.views id v k.drawn at idle some_number h) part))

      all_drawn : (s : State (Option V) (View E)) (k : Rule seats s) → get_elem? s.views id ≡ some v → k.drawn ≡ v.drawn
      all_drawn s k at =
          let rest = sum_by-rest (λ (u : View E). u.parts) (λ (u : View E). u.drawn) s.views id v (λ j u e. (k.fits j u e).few) at in
          let one = one-le-sum_by (λ (u : View E). u.drawn) s.views id v at in
          omega (arith, rest, one, whole, k.parts, k.draws)
