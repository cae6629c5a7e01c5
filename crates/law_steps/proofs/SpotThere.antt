-- The list of a spot is among the things.
use Rattle.std.proofs.Common.{◌≡◌, ◌==◌, ℕ, Bool, true, false, List, [], ◌∷◌, ◌&&◌, T, cond, Option, Some, None, ap, sym, ◌∙◌, refl, Ordering, Less, Equal, Greater, is_lt, is_eq, unwrap_or, position}
use Rattle.std.specs.FinMap.{get, entries, entries_sorted, find, is_sorted, get-entries}
use Rattle.std.specs.FinMap.Entries.{below_all}
use Rattle.std.specs.Option.{option_map, option_or}
use Rattle.std.specs.Ordering.{nat_cmp}
use Rattle.sdr_model.specs.Things.{Spot, Things, spot_among, spot_in_thing}
use Rattle.sdr_model.specs.declared.things.Thing.{Thing}
use Rattle.sdr_model.specs.declared.things.Thing.TheVariants as things
use Rattle.sdr_model.proofs.ThingsLemmas.{at_itself, same_address}

left_of : (a b : Bool) → T (a && b) → T a
left_of true b h = tt
left_of false b h = absurd h

right_of : (a b : Bool) → T (a && b) → T b
right_of true b h = h
right_of false b h = absurd h

apart : (r : Ordering) → T (is_lt r) → is_eq r ≡ false
apart Less h = refl
apart Equal h = absurd h
apart Greater h = refl

-- an address below the others isn't among them
missing : (k : ℕ) (es : List (ℕ × Thing)) → T (below_all nat_cmp k es) → find nat_cmp k es ≡ None
missing k [] below = refl
missing k (e ∷ es) below =
    ap (λ b. cond b (Some e.1) (find nat_cmp k es)) (apart (nat_cmp k e.0) (left_of _ _ below)) ∙ missing k es (right_of _ _ below)

-- a spot in a thing is in the list that it is
in_list : (element list : ℕ) (thing : Thing) (s : Spot) → spot_in_thing element list (Some thing) ≡ Some s → (s.list ≡ list) × (thing ≡ things.List s.row)
in_list element list (things.List row) s is = by (position (λ e. e.block == element) row.elements) is
  where
    by : (o : Option ℕ) → option_map (λ place. record { list = list; row = row; place = place }) o ≡ Some s → (s.list ≡ list) × (things.List row ≡ things.List s.row)
    by None e = let none : None ≡ Some s = e in absurd cc
    by (Some place) e =
        let same : record { list = list; row = row; place = place } ≡ s = ap (λ o. unwrap_or o s) e in
        (ap (λ (t : Spot). t.list) (sym same), ap (λ (t : Spot). things.List t.row) same)
in_list element list thing s is = let none : None ≡ Some s = is in absurd cc

-- the list of a spot is among the things
there : (element : ℕ) (es : List (ℕ × Thing)) → T (is_sorted nat_cmp es) → (s : Spot) → spot_among element es ≡ Some s
    → find nat_cmp s.list es ≡ Some (things.List s.row)
there element [] sorted s is = let none : None ≡ Some s = is in cc
there element (e ∷ es) sorted s is =
    by (spot_in_thing element e.0 (Some e.1)) refl (λ rest. there element es (right_of _ _ sorted) s rest)
  where
    head : (t : Spot) → spot_in_thing element e.0 (Some e.1) ≡ Some t → t ≡ s → find nat_cmp s.list (e ∷ es) ≡ Some (things.List s.row)
    head t at same =
        let found = in_list element e.0 e.1 s (at ∙ ap Some same) in
        ap (λ b. cond b (Some e.1) (find nat_cmp s.list es)) (ap (λ k. is_eq (nat_cmp k e.0)) found.0 ∙ at_itself e.0) ∙ ap Some found.1

    tail : find nat_cmp s.list es ≡ Some (things.List s.row) → (b : Bool) → is_eq (nat_cmp s.list e.0) ≡ b
        → cond (is_eq (nat_cmp s.list e.0)) (Some e.1) (find nat_cmp s.list es) ≡ Some (things.List s.row)
    tail rest false at = ap (λ b. cond b (Some e.1) (find nat_cmp s.list es)) at ∙ rest
    tail rest true at =
        let none : None ≡ Some (things.List s.row) =
        sym (ap (λ k. find nat_cmp k es) (same_address s.list e.0 at) ∙ missing e.0 es (left_of _ _ sorted)) ∙ rest in cc

    by : (o : Option Spot) → spot_in_thing element e.0 (Some e.1) ≡ o → (spot_among element es ≡ Some s → find nat_cmp s.list es ≡ Some (things.List s.row))
        → find nat_cmp s.list (e ∷ es) ≡ Some (things.List s.row)
    by (Some t) at rest =
        let same : Some t ≡ Some s = sym (ap (λ o. option_or o (spot_among element es)) at) ∙ is in head t at (ap (λ o. unwrap_or o t) same)
    by None at rest =
        tail (rest (sym (ap (λ o. option_or o (spot_among element es)) at) ∙ is)) (is_eq (nat_cmp s.list e.0)) refl

-- the list of a spot is there
pub spot_there : (m : Things) (element : ℕ) (s : Spot) → spot_among element (entries m) ≡ Some s → get m s.list ≡ Some (things.List s.row)
spot_there m element s is = get-entries m s.list ∙ there element (entries m) (entries_sorted m) s is
