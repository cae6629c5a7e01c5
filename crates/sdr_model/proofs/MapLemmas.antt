-- The entries of a std map as a finite map.
use Rattle.std.proofs.Common.{◌≡◌, ℕ, List, [], ◌∷◌, cond, Some, None, ap, sym, ◌∙◌, refl}
use Rattle.std.specs.Ordering.{nat_cmp}
use Rattle.std.specs.Cmp.{nat_cmp_total, eq_by_cmp_equiv}
use Rattle.std.specs.BTreeMap.{is_at}
use Rattle.std.specs.Map.{lookup}
use Rattle.std.specs.FinMap.{from_entries, get, find, insert, remove, get-from_entries, get-insert, get-remove, same_map, nat_cmp-IsAntisymmetric}

pub find-lookup : {X : Type 0} (q : ℕ) (es : List (ℕ × X)) → find nat_cmp q es ≡ lookup (is_at (nat_cmp q)) es
find-lookup q [] = refl
find-lookup q (e ∷ es) = ap (λ r. cond (is_at (nat_cmp q) e.0) (Some e.1) r) (find-lookup q es)

-- what the map of the entries has at a key
pub get-entries_of : {X : Type 0} (q : ℕ) (es : List (ℕ × X)) → get (from_entries {R = nat_cmp} es) q ≡ lookup (is_at (nat_cmp q)) es
get-entries_of q es = get-from_entries nat_cmp_total es q ∙ find-lookup q es

-- entries that differ at one key make maps that differ there
pub inserted : {X : Type 0} (old new : List (ℕ × X)) (k : ℕ) (v : X)
    → ((q : ℕ) → lookup (is_at (nat_cmp q)) new ≡ cond (is_at (nat_cmp k) q) (Some v) (lookup (is_at (nat_cmp q)) old))
    → from_entries {R = nat_cmp} new ≡ insert (from_entries old) k v
inserted old new k v up = same_map nat_cmp_total nat_cmp-IsAntisymmetric _ _ (λ q.
    get-entries_of q new ∙ up q
    ∙ ap (λ r. cond (is_at (nat_cmp k) q) (Some v) r) (sym (get-entries_of q old))
    ∙ ap (λ b. cond b (Some v) (get (from_entries {R = nat_cmp} old) q)) ((eq_by_cmp_equiv nat_cmp_total).symm k q)
    ∙ sym (get-insert nat_cmp_total (from_entries old) k v q))

-- entries that lack one key make the map without it
pub removed : {X : Type 0} (old new : List (ℕ × X)) (k : ℕ)
    → ((q : ℕ) → lookup (is_at (nat_cmp q)) new ≡ cond (is_at (nat_cmp k) q) None (lookup (is_at (nat_cmp q)) old))
    → from_entries {R = nat_cmp} new ≡ remove (from_entries old) k
removed old new k up = same_map nat_cmp_total nat_cmp-IsAntisymmetric _ _ (λ q.
    get-entries_of q new ∙ up q
    ∙ ap (λ r. cond (is_at (nat_cmp k) q) None r) (sym (get-entries_of q old))
    ∙ ap (λ b. cond b None (get (from_entries {R = nat_cmp} old) q)) ((eq_by_cmp_equiv nat_cmp_total).symm k q)
    ∙ sym (get-remove nat_cmp_total (from_entries old) k q))
