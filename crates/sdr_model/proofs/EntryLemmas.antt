-- A std map's entries, in the order of their keys, as a finite map.
use Rattle.std.proofs.Common.{◌≡◌, ℕ, Bool, true, false, T, ◌&&◌, List, [], ◌∷◌, map, ap, sym, ◌∙◌, subst}
use Rattle.std.specs.Cmp.{nat_cmp_total}
use Rattle.std.specs.FinMap.{entries, from_entries, from_sorted, is_sorted, entries-from_sorted, get-from_sorted, get-from_entries, same_map, nat_cmp-IsAntisymmetric}
use Rattle.std.specs.FinMap.Entries.{below_all}
use Rattle.std.specs.List.{AllByRecursion}
use Rattle.std.specs.List.Sorted.{IsStrictlySortedBy}
use Rattle.std.specs.Ordering.{nat_cmp, is_lt}
use Rattle.std.specs.declared.cmp.Ordering.TheVariants.{Less}

both : (a b : Bool) → T a → T b → T (a && b)
both true b p q = q
both false b p q = p

below : {X : Type 0} (k : ℕ) (es : List (ℕ × X)) → AllByRecursion (λ y. nat_cmp k y ≡ Less) (map (λ e. e.0) es)
    → T (below_all nat_cmp k es)
below k [] h = tt
below k (e ∷ es) h = both _ _ (subst (λ r. T (is_lt r)) (sym h.0) tt) (below k es h.1)

rising : {X : Type 0} (es : List (ℕ × X)) → IsStrictlySortedBy nat_cmp (map (λ e. e.0) es) → T (is_sorted nat_cmp es)
unfolding IsStrictlySortedBy
rising [] h = tt
rising (e ∷ es) h = both _ _ (below e.0 es h.0) (rising es h.1)

sorted_map : {X : Type 0} (es : List (ℕ × X)) → T (is_sorted nat_cmp es) → from_entries {R = nat_cmp} es ≡ from_sorted es
sorted_map es rise = same_map nat_cmp_total nat_cmp-IsAntisymmetric _ _ (λ q.
    get-from_entries nat_cmp_total es q ∙ sym (get-from_sorted nat_cmp es q rise))

-- entries whose keys strictly rise are those of their map
pub entries-from_entries : {X : Type 0} (es : List (ℕ × X)) → IsStrictlySortedBy nat_cmp (map (λ e. e.0) es)
    → entries (from_entries {R = nat_cmp} es) ≡ es
entries-from_entries es sorted =
    let rise = rising es sorted in
    ap entries (sorted_map es rise) ∙ entries-from_sorted nat_cmp es rise
