-- Each step of a seat that draws, looks or takes is allowed.
use Rattle.std.proofs.Common.{◌≡◌, ◌≢◌, ◌⊎◌, inl, inr, ⊎_elim, ℕ, ◌+◌, ◌*◌, ◌%◌, ◌^◌, ◌<◌, ◌≤◌, ◌==◌, Bool, true, false, List, [], ◌∷◌, ◌++◌, set, refl, sym, ◌∙◌, ap, subst, arith, le_refl, mod-eq_of_lt}
use Rattle.std.specs.Prelude.{Option, Some, All, AllPairs, MatchBool, map}
use Rattle.std.proofs.lemmas.List.Elements.{All-push, All-weaker}
use mathlib.Core.Option.{some, none, some-injective}
use mathlib.Core.Logic.{dite}
use mathlib.Core.List.{IsPrefix}
use Rattle.std.proofs.lemmas.Bool.Decides.{nat_tests}
use native.Mathlib.Decide.{ℕ_discrete}
use lib.ListN.{get_elem?}
use Rattle.atomic_table.specs.Table.{State, Me, Act, Valid, homes_after, carried_after, rest, Allows, keeps, takes}
use Rattle.atomic_table.proofs.Lists.{set_here, set_again}
use Rattle.sdr_turn.specs.declared.known.Known.{Known}
use Rattle.sdr_turn.specs.declared.view.View.{View}
use Rattle.sdr_turn.specs.Entries.{has, own, made_at, Apart, Rise, AtMost}
use Rattle.sdr_turn.specs.Knowing.{Agrees, after_draw, after_look, after_take}
use Rattle.sdr_turn.specs.Found.{IsFound}
use Rattle.sdr_turn.specs.Views.{with_draw, with_known, drew}
use Rattle.sdr_turn.specs.Plays.{DrawsNumber, SeesFront, TakesValue}
use Rattle.sdr_turn.specs.Serving.{IsHome, IsOut, IsServing}
use Rattle.sdr_turn.proofs.EntryLemmas.{prefix_self, has-last, has-other, rise-push, own-new}
use Rattle.sdr_turn.proofs.ViewLemmas.{apart_one, drew-own, drew-alone, agrees-draw}
use Rattle.sdr_turn.proofs.Changes.{within, few_drawn, changed, same_waiting, still_out, allowed}

module _ {V E : Type 0} (entries : V → List E) (number maker : E → ℕ) (turns : V → ℕ) (rests : V → Type 0) (seats : ℕ) where
  abbrev Rule : State (Option V) (View E) → Type 0
  Rule = IsServing entries number maker turns rests seats

  pub may_look : (slots id : ℕ) (v : View E) (carry : List (ℕ × Option V)) → Allows Rule slots id (v, carry) 1 (λ n. n) (SeesFront (v, carry))
  may_look slots id v carry =
      allowed entries number maker turns rests seats slots id 1 (v, carry) (λ n. n) (SeesFront (v, carry))
      (λ s k many at.
      let f = k.fits id v at in
      let w = with_known v (after_look v.knows k.done) in (
        w,
        keeps,
        tt,
        changed entries number maker turns rests seats s k id v w s.homes k.all k.drawn k.done at (record {
          same_parts = refl;
          same_places = refl;
          more_drawn = refl;
          below = k.below;
          rise = k.rise;
          past = k.past;
          mine = record {
            few = f.few;
            knows = record { numbers = f.knows.numbers; rise = f.knows.rise; front = le_refl k.done; begins = f.knows.begins; mine = f.knows.mine; made = f.knows.made };
            told = f.told;
            placed = f.placed;
            told_placed = f.told_placed;
            unmade = f.unmade;
            apart = f.apart;
            held = f.held;
            took = f.took;
          };
          others = λ j u ne e. k.fits j u e;
          numbers = λ n h. inl h;
          nowhere = k.nowhere;
          waiting = λ n low high. same_waiting entries number maker turns rests seats s k v n low high;
          slot = ⊎_elim inl (λ o. inr (still_out entries number maker turns rests seats s.views id v w at refl o)) k.slot;
        }),
        (refl, f.knows.front, λ lt. (f.held lt).0, λ out. sym (f.took out).0),
      ))

  pub may_draw : (slots id : ℕ) (v : View E) (carry : List (ℕ × Option V)) → v.told ≡ [] → v.knows.number ≡ 0 → v.knows.took ≡ false → v.drawn < 2 ^ 40 * v.parts
      → Allows Rule slots id (v, carry) 0 (λ n. (n + 1) % 2 ^ 64) (DrawsNumber (v, carry))
  may_draw slots id v carry alone idle free room =
      allowed entries number maker turns rests seats slots id 0 (v, carry) (λ n. (n + 1) % 2 ^ 64) (DrawsNumber (v, carry))
      (λ s k many at.
      let f = k.fits id v at in
      let most = few_drawn entries number maker turns rests seats s k in
      let next : (k.drawn + 1) % 2 ^ 64 ≡ k.drawn + 1 = mod-eq_of_lt (omega (arith, most)) in
      let part : 0 < v.parts = omega (arith, room) in
      let w = with_draw v (after_draw v.knows (k.drawn + 1)) in (
        w,
        keeps,
        tt,
        subst (λ n. Rule (record { words = n ∷ k.done ∷ []; homes = s.homes; views = set s.views id w })) (sym next)
            (changed entries number maker turns rests seats s k id v w s.homes k.all (k.drawn + 1) k.done at (record {
              same_parts = refl;
              same_places = refl;
              more_drawn = omega arith;
              below = omega (arith, k.below);
              rise = k.rise;
              past = k.past;
              mine = record {
                few = omega (arith, room);
                knows = own_draw k.all k.drawn k.done f.knows k.below k.past;
                told = told_draw k.all k.drawn k.done v.told f.told;
                placed = f.placed;
                told_placed = f.told_placed;
                unmade = λ none. absurd (omega (arith, none));
                apart = subst (λ (ts : List (Known E)). AllPairs Apart (map (λ x. x.numbers) ts ++ (v.knows.numbers ++ (k.drawn + 1) ∷ []) ∷ [])) (sym alone) (apart_one (v.knows.numbers ++ (k.drawn + 1) ∷ []));
                held = λ lt. (omega (arith, k.below), has-last v.knows.numbers (k.drawn + 1), part);
                took = λ t. absurd cc;
              };
              others = λ j u ne e. let g = k.fits j u e in record {
                few = g.few;
                knows = agrees-draw number maker k.all k.drawn k.done u.knows g.knows;
                told = told_draw k.all k.drawn k.done u.told g.told;
                placed = g.placed;
                told_placed = g.told_placed;
                unmade = g.unmade;
                apart = g.apart;
                held = g.held;
                took = g.took;
              };
              numbers = λ n h. newer w k.drawn n alone h;
              nowhere = k.nowhere;
              waiting = λ n low high. dite (ℕ_discrete (k.drawn + 1) n) inl (λ ne. inr (λ is. absurd (omega (arith, is, idle, low)), low, omega (arith, high, ne)));
              slot = ⊎_elim inl (λ o. inr (still_out entries number maker turns rests seats s.views id v w at (sym free) o)) k.slot;
            })),
        (refl, All-weaker (λ n. (0 < n) × (n ≤ k.drawn)) (λ n. n ≤ k.drawn) (λ n low. low.1) v.knows.numbers f.knows.numbers, omega (arith, f.knows.front, k.below), most),
      ))
    where
      told_draw : (all : List E) (drawn done : ℕ) (told : List (Known E)) → All (Agrees number maker all drawn done) told → All (Agrees number maker all (drawn + 1) done) told
      told_draw all drawn done told each = All-weaker (Agrees number maker all drawn done) (Agrees number maker all (drawn + 1) done) (λ k a. agrees-draw number maker all drawn done k a) told each

      own_draw : (all : List E) (drawn done : ℕ) → Agrees number maker all drawn done v.knows → done ≤ drawn → AtMost number done all → Agrees number maker all (drawn + 1) done (after_draw v.knows (drawn + 1))
      own_draw all drawn done a below past =
          let higher = agrees-draw number maker all drawn done v.knows a in record {
            numbers = All-push (λ n. (0 < n) × (n ≤ drawn + 1)) v.knows.numbers (drawn + 1) higher.numbers (omega arith, le_refl (drawn + 1));
            rise = rise-push drawn (drawn + 1) v.knows.numbers (omega arith) a.numbers a.rise;
            front = a.front;
            begins = a.begins;
            mine = own-new number v.knows.numbers (drawn + 1) done all (omega (arith, below)) past ∙ a.mine;
            made = a.made;
          }

      -- of the numbers that the seat then has one is new
      newer : (w : View E) (most n : ℕ) → v.told ≡ [] → drew (with_draw v (after_draw v.knows (most + 1))) n ≡ true → (drew v n ≡ true) ⊎ (most < n)
      newer w most n alone h =
          let among : has (v.knows.numbers ++ (most + 1) ∷ []) n ≡ true = sym (drew-alone (with_draw v (after_draw v.knows (most + 1))) n alone) ∙ h in
          dite (ℕ_discrete (most + 1) n) (λ is. inr (omega (arith, is))) (λ ne. inl (drew-own v n (sym (has-other v.knows.numbers (most + 1) n ne) ∙ among)))

  -- at the seat whose number is served the value is at home
  is_home : (s : State (Option V) (View E)) (k : Rule s) (id : ℕ) (v : View E) → get_elem? s.views id ≡ some v → v.knows.took ≡ false → 0 < v.knows.number → k.done + 1 ≡ v.knows.number → IsHome entries turns rests k.all k.done s.homes
  is_home s k id v at free has_one served = ⊎_elim (λ h. h) (λ o. absurd (nobody o)) k.slot
    where
      nobody : IsOut s.views → ⊥
      nobody o =
          let g = k.fits o.seat o.view o.sits in
          let same : o.view.knows.number ≡ v.knows.number = (g.took o.took).0 ∙ served in
          let theirs = (g.held (omega (arith, same, has_one))).1 in
          let mine = drew-own v v.knows.number ((k.fits id v at).held has_one).1 in
          let seat : id ≡ o.seat = k.apart id o.seat v.knows.number v o.view at o.sits mine (drew-own o.view v.knows.number (ap (has o.view.knows.numbers) (sym same) ∙ theirs)) in
          let view : v ≡ o.view = some-injective v o.view (sym at ∙ ap (get_elem? s.views) seat ∙ o.sits) in
          let out : v.knows.took ≡ true = ap (λ (u : View E). u.knows.took) view ∙ o.took in
          absurd (cc (free, out))

  -- the rule tells what the value stands for
  found : (s : State (Option V) (View E)) (k : Rule s) (id : ℕ) (v : View E) → get_elem? s.views id ≡ some v → (h : IsHome entries turns rests k.all k.done s.homes) → k.done + 1 ≡ v.knows.number
      → IsFound entries number maker turns rests v.knows v.knows.number h.value
  found s k id v at h served =
      let f = k.fits id v at in record {
        turns_are = ap (λ n. n + 1) h.turns_are ∙ served;
        rested = h.rested;
        begins = subst (IsPrefix v.knows.seen) (sym h.entries_are) f.knows.begins;
        mine = ap (own number v.knows.numbers) h.entries_are ∙ f.knows.mine;
        made = ap (made_at maker v.knows.place) h.entries_are ∙ f.knows.made;
        rise = subst (Rise number) (sym h.entries_are) k.rise;
        below = subst (All (λ e. number e < v.knows.number)) (sym h.entries_are) (All-weaker (λ e. number e ≤ k.done) (λ e. number e < v.knows.number) (λ e low. omega (arith, low, served)) k.all k.past);
        ahead = omega (arith, f.knows.front, served);
      }

  pub may_take : (slots id : ℕ) (v : View E) → v.knows.took ≡ false → 0 < v.knows.number → 0 < v.parts → Allows Rule slots id (v, []) 1 (λ n. n) (TakesValue entries number maker turns rests (v, []))
  may_take slots id v free has_one part =
      allowed entries number maker turns rests seats slots id 1 (v, []) (λ n. n) (TakesValue entries number maker turns rests (v, []))
      (λ s k many at. by_case s k at (k.done + 1 == v.knows.number) refl)
    where
      Goes : (s : State (Option V) (View E)) → Rule s → Bool → Type 0
      Goes s k b = (w : View E) × (a : Act (Option V)) × Valid s.homes [] a
          × Rule (record { words = k.drawn ∷ k.done ∷ []; homes = homes_after s.homes [] a; views = set s.views id w })
          × MatchBool b
          ((value : V) × (◌≡◌ {A = Me (Option V) (View E)} (w, carried_after [] a) (with_known v (after_take v.knows (entries value)), (0, Some value) ∷ [])) × IsFound entries number maker turns rests v.knows v.knows.number value)
          (◌≡◌ {A = Me (Option V) (View E)} (w, carried_after [] a) (v, []))

      by_case : (s : State (Option V) (View E)) (k : Rule s) → get_elem? s.views id ≡ some v → (b : Bool) → (k.done + 1 == v.knows.number) ≡ b → Goes s k b
      by_case s k at true is =
          let served : k.done + 1 ≡ v.knows.number = grind (arith, nat_tests) in
          let h = is_home s k id v at free has_one served in
          let f = k.fits id v at in
          let w = with_known v (after_take v.knows (entries h.value)) in (
            w,
            takes 0 (Some h.value),
            h.here,
            changed entries number maker turns rests seats s k id v w (set s.homes 0 none) k.all k.drawn k.done at (record {
              same_parts = refl;
              same_places = refl;
              more_drawn = refl;
              below = k.below;
              rise = k.rise;
              past = k.past;
              mine = record {
                few = f.few;
                knows = record { numbers = f.knows.numbers; rise = f.knows.rise; front = omega (arith, served); begins = subst (λ xs. IsPrefix xs k.all) (sym h.entries_are) (prefix_self k.all); mine = f.knows.mine; made = f.knows.made };
                told = f.told;
                placed = f.placed;
                told_placed = f.told_placed;
                unmade = f.unmade;
                apart = f.apart;
                held = f.held;
                took = λ t. (sym served, h.entries_are, part);
              };
              others = λ j u ne e. k.fits j u e;
              numbers = λ n had. inl had;
              nowhere = k.nowhere;
              waiting = λ n low high. same_waiting entries number maker turns rests seats s k v n low high;
              slot = inr (record { seat = id; view = w; sits = set_here s.views id w (within s.views id v at); took = refl });
            }),
            (h.value, refl, found s k id v at h served),
          )
      by_case s k at false is = (
        v,
        keeps,
        tt,
        subst (λ (vs : List (View E)). Rule (record { words = k.drawn ∷ k.done ∷ []; homes = s.homes; views = vs })) (sym (set_again s.views id v at))
            (subst (λ (ws : List ℕ). Rule (record { words = ws; homes = s.homes; views = s.views })) k.words k),
        refl,
      )

-- of one thing that is carried nothing is the rest
pub carries_one : {A : Type 0} (slots : List (ℕ × A)) (x : A) → slots ≡ (0, x) ∷ [] → slots ≡ (0, x) ∷ rest slots
carries_one slots x is = is ∙ ap (λ l. (0, x) ∷ l) (sym (ap rest is))

-- what a look for one's turn tells, where the number is served, and where not
module _ {V E : Type 0} (entries : V → List E) (number maker : E → ℕ) (turns : V → ℕ) (rests : V → Type 0) (me after : Me (Option V) (View E)) (found : ℕ) where
  pub served-found : TakesValue entries number maker turns rests me found after → found + 1 ≡ me.0.knows.number
      → (value : V) × (after ≡ (with_known me.0 (after_take me.0.knows (entries value)), (0, Some value) ∷ [])) × IsFound entries number maker turns rests me.0.knows me.0.knows.number value
  served-found told served = let yes_is : (found + 1 == me.0.knows.number) ≡ true = grind (arith, nat_tests) in subst (λ b. MatchBool b ((value : V) × (after ≡ (with_known me.0 (after_take me.0.knows (entries value)), (0, Some value) ∷ [])) × IsFound entries number maker turns rests me.0.knows me.0.knows.number value) (after ≡ me)) yes_is told

  pub unserved-same : TakesValue entries number maker turns rests me found after → found + 1 ≢ me.0.knows.number → after ≡ me
  unserved-same told other = let no_is : (found + 1 == me.0.knows.number) ≡ false = grind (arith, nat_tests) in subst (λ b. MatchBool b ((value : V) × (after ≡ (with_known me.0 (after_take me.0.knows (entries value)), (0, Some value) ∷ [])) × IsFound entries number maker turns rests me.0.knows me.0.knows.number value) (after ≡ me)) no_is told
