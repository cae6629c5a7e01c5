-- A thing that comes, changes or goes is a part that does.
use Rattle.std.proofs.Common.{◌≡◌, ℕ, List, [], ◌∷◌, ◌++◌, Bool, true, false, cond, ◌&&◌, T, Option, Some, None, refl}
use Rattle.std.proofs.Common.{sym, ap, ◌∙◌, subst, append_assoc}
use Rattle.std.specs.List.{flat_map}
use Rattle.std.specs.declared.cmp.Ordering.{Ordering}
use Rattle.std.specs.declared.cmp.Ordering.TheVariants.{Less, Equal, Greater}
use Rattle.std.specs.Ordering.{nat_cmp, eq_by_cmp, is_eq, is_lt}
use Rattle.std.specs.Cmp.{nat_cmp_total, tied_itself}
use Rattle.std.specs.FinMap.{FinMap, entries, get, insert, remove, find, get-insert, get-remove, same_map, put}
use Rattle.std.specs.FinMap.{is_sorted, entries_sorted, entries-insert, get-entries, nat_cmp-IsAntisymmetric}
use Rattle.std.specs.FinMap.Entries.{by_order, below_all}
use Rattle.sdr_base.specs.Entries.{Entries, Swaps}
use Rattle.sdr_base.specs.Section.{section}

module _ {X : Type 0} (f : ℕ → X → Entries) where
  abbrev flat : List (ℕ × X) → Entries
  flat es = flat_map (λ e. f e.0 e.1) es

  put_new : (k : ℕ) (v : X) (es : List (ℕ × X)) → find nat_cmp k es ≡ None →
      Swaps (flat es) (flat (put nat_cmp k v es)) [] (f k v)
  put_new k v [] n = record { before = []; behind = []; was = refl; is = refl }
  put_new k v (e ∷ es) n =
      elim (nat_cmp k e.0) as
      (λ o. cond (is_eq o) (Some e.1) (find nat_cmp k es) ≡ None →
      Swaps (flat (e ∷ es)) (flat (by_order o ((k, v) ∷ e ∷ es) ((e.0, v) ∷ es) (e ∷ put nat_cmp k v es))) []
      (f k v)) [
        | Less ↦ λ h. record { before = []; behind = flat (e ∷ es); was = refl; is = refl }
        | Equal ↦ λ h. cc
        | Greater ↦ λ h. let r = put_new k v es h in record {
          before = f e.0 e.1 ++ r.before;
          behind = r.behind;
          was = ap (λ t. f e.0 e.1 ++ t) r.was ∙ sym (append_assoc (f e.0 e.1) r.before r.behind);
          is = ap (λ t. f e.0 e.1 ++ t) r.is ∙ sym (append_assoc (f e.0 e.1) r.before (f k v ++ r.behind));
        }
      ] n

  below_find : (k x : ℕ) (es : List (ℕ × X)) → nat_cmp k x ≡ Less → T (below_all nat_cmp x es) →
      find nat_cmp k es ≡ None
  below_find k x [] p h = refl
  below_find k x (e ∷ es) p h =
      elim (nat_cmp x e.0) as
      (λ o. nat_cmp x e.0 ≡ o → T (is_lt o && below_all nat_cmp x es) →
      cond (eq_by_cmp nat_cmp k e.0) (Some e.1) (find nat_cmp k es) ≡ None) [
        | Less ↦ λ q h2. let t : nat_cmp k e.0 ≡ Less = nat_cmp_total.trans k x e.0 p q in
            ap (λ o. cond (is_eq o) (Some e.1) (find nat_cmp k es)) t ∙ below_find k x es p h2
        | Equal ↦ λ q h2. absurd h2
        | Greater ↦ λ q h2. absurd h2
      ] refl h

  front_sorted : (b c : Bool) → T (b && c) → T b
  front_sorted true c h = tt
  front_sorted false c h = h

  rest_sorted : (b c : Bool) → T (b && c) → T c
  rest_sorted true c h = h
  rest_sorted false c h = absurd h

  put_change : (k : ℕ) (v v' : X) (es : List (ℕ × X)) → T (is_sorted nat_cmp es) → find nat_cmp k es ≡ Some v →
      Swaps (flat es) (flat (put nat_cmp k v' es)) (f k v) (f k v')
  put_change k v v' [] s n = cc
  put_change k v v' (e ∷ es) s n =
      elim (nat_cmp k e.0) as
      (λ o. nat_cmp k e.0 ≡ o → cond (is_eq o) (Some e.1) (find nat_cmp k es) ≡ Some v →
      Swaps (flat (e ∷ es)) (flat (by_order o ((k, v') ∷ e ∷ es) ((e.0, v') ∷ es) (e ∷ put nat_cmp k v' es)))
      (f k v) (f k v')) [
        | Less ↦ λ q h. let z = below_find k e.0 es q (front_sorted _ _ s) in let w : None ≡ Some v = sym z ∙ h in cc
        | Equal ↦ λ q h.
            let key : k ≡ e.0 = nat_cmp-IsAntisymmetric k e.0 q in
            let val : e.1 ≡ v = cc in record {
              before = [];
              behind = flat es;
              was = ap (λ x. f e.0 x ++ flat es) val ∙ ap (λ i. f i v ++ flat es) (sym key);
              is = ap (λ i. f i v' ++ flat es) (sym key);
            }
        | Greater ↦ λ q h. let r = put_change k v v' es (rest_sorted _ _ s) h in record {
          before = f e.0 e.1 ++ r.before;
          behind = r.behind;
          was = ap (λ t. f e.0 e.1 ++ t) r.was ∙ sym (append_assoc (f e.0 e.1) r.before (f k v ++ r.behind));
          is = ap (λ t. f e.0 e.1 ++ t) r.is ∙ sym (append_assoc (f e.0 e.1) r.before (f k v' ++ r.behind));
        }
      ] refl n

  -- a new thing
  pub section-new : (m : FinMap nat_cmp X) (k : ℕ) (v : X) → get m k ≡ None →
      Swaps (section f m) (section f (insert m k v)) [] (f k v)
  section-new m k v e =
      subst (λ es. Swaps (section f m) (flat es) [] (f k v)) (sym (entries-insert nat_cmp_total m k v))
      (put_new k v (entries m) (sym (get-entries m k) ∙ e))

  -- a thing that changes
  pub section-change : (m : FinMap nat_cmp X) (k : ℕ) (v v' : X) → get m k ≡ Some v →
      Swaps (section f m) (section f (insert m k v')) (f k v) (f k v')
  section-change m k v v' e =
      subst (λ es. Swaps (section f m) (flat es) (f k v) (f k v')) (sym (entries-insert nat_cmp_total m k v'))
      (put_change k v v' (entries m) (entries_sorted m) (sym (get-entries m k) ∙ e))

gone_key : {X : Type 0} (m : FinMap nat_cmp X) (k : ℕ) → get (remove m k) k ≡ None
gone_key m k = get-remove nat_cmp_total m k k ∙ ap (λ o. cond (is_eq o) None (get m k)) (tied_itself nat_cmp_total k)

apart_by : {X : Type 0} (q k : ℕ) (o : Ordering) (x y : Option X) → nat_cmp q k ≡ o → (q ≡ k → ⊥) →
    cond (is_eq o) x y ≡ y
apart_by q k Less x y e h = refl
apart_by q k Equal x y e h = absurd (h (nat_cmp-IsAntisymmetric q k e))
apart_by q k Greater x y e h = refl

other_key : {X : Type 0} (m : FinMap nat_cmp X) (k q : ℕ) → (q ≡ k → ⊥) → get (remove m k) q ≡ get m q
other_key m k q h = get-remove nat_cmp_total m k q ∙ apart_by q k (nat_cmp q k) None (get m q) refl h

-- a map without a key, and then with it again
again_at : {X : Type 0} (m : FinMap nat_cmp X) (k : ℕ) (v : X) → get m k ≡ Some v → (q : ℕ) (o : Ordering) →
    nat_cmp q k ≡ o → cond (is_eq o) (Some v) (get (remove m k) q) ≡ get m q
again_at m k v e q Less t =
    other_key m k q (λ s. let d : Less ≡ Equal = sym t
    ∙ subst (λ r. nat_cmp r k ≡ Equal) (sym s) (tied_itself nat_cmp_total k) in cc)
again_at m k v e q Equal t = sym (ap (get m) (nat_cmp-IsAntisymmetric q k t) ∙ e)
again_at m k v e q Greater t =
    other_key m k q (λ s. let d : Greater ≡ Equal = sym t
    ∙ subst (λ r. nat_cmp r k ≡ Equal) (sym s) (tied_itself nat_cmp_total k) in cc)

again : {X : Type 0} (m : FinMap nat_cmp X) (k : ℕ) (v : X) → get m k ≡ Some v → insert (remove m k) k v ≡ m
again m k v e = same_map nat_cmp_total nat_cmp-IsAntisymmetric (insert (remove m k) k v) m (λ q.
    get-insert nat_cmp_total (remove m k) k v q ∙ again_at m k v e q (nat_cmp q k) refl)

-- a thing that goes
pub section-gone : {X : Type 0} (f : ℕ → X → Entries) (m : FinMap nat_cmp X) (k : ℕ) (v : X) → get m k ≡ Some v →
    Swaps (section f m) (section f (remove m k)) (f k v) []
section-gone f m k v e =
    let s = section-new f (remove m k) k v (gone_key m k) in
    record { before = s.before; behind = s.behind; was = ap (section f) (sym (again m k v e)) ∙ s.is; is = s.was }
