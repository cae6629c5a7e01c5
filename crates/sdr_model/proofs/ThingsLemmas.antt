-- Maps of things.
use Rattle.sdr_model.specs.Things.{with_at, Things}
use Rattle.sdr_model.specs.declared.things.Thing.{Thing}
use Rattle.std.proofs.Common.{◌≡◌, ℕ, Bool, true, false, cond, Option, Some, None, ap, sym, ◌∙◌, refl}
use Rattle.std.specs.BTreeMap.{is_at}
use Rattle.std.specs.Cmp.{nat_cmp_total, eq_by_cmp_equiv, Equal-is}
use Rattle.std.specs.FinMap.{get, insert, remove, get-insert, get-remove, same_map, nat_cmp-IsAntisymmetric}
use Rattle.std.specs.Ordering.{nat_cmp}

-- the thing that was put at an address is there, and others stay
pub get-with_at : (m : Things) (addr : ℕ) (o : Option Thing) (q : ℕ) → get (with_at m addr o) q ≡ cond (is_at (nat_cmp q) addr) o (get m q)
get-with_at m addr None q = get-remove nat_cmp_total m addr q
get-with_at m addr (Some thing) q = get-insert nat_cmp_total m addr thing q

-- two maps of things that have the same at each address are one
pub same_things : (a b : Things) → ((q : ℕ) → get a q ≡ get b q) → a ≡ b
same_things a b same = same_map nat_cmp_total nat_cmp-IsAntisymmetric a b same

-- an address that compares alike is the same
pub same_address : (q k : ℕ) → is_at (nat_cmp q) k ≡ true → q ≡ k
same_address q k at = nat_cmp-IsAntisymmetric q k ((Equal-is (nat_cmp q k)).0 at)

-- what is at an address may be put there again
pub with_at-again : (m : Things) (k : ℕ) (o : Option Thing) → get m k ≡ o → with_at m k o ≡ m
with_at-again m k o is = same_things _ _ (λ q. get-with_at m k o q ∙ again (is_at (nat_cmp q) k) q refl)
  where
    again : (b : Bool) (q : ℕ) → is_at (nat_cmp q) k ≡ b → cond b o (get m q) ≡ get m q
    again false q at = refl
    again true q at = sym (ap (get m) (same_address q k at) ∙ is)

-- an address compares alike to itself
pub at_itself : (k : ℕ) → is_at (nat_cmp k) k ≡ true
at_itself k = (eq_by_cmp_equiv nat_cmp_total).refl k

-- what is put where something was taken out is there as if nothing had been
pub insert-removed : (things : Things) (k : ℕ) (thing : Thing) → insert (remove things k) k thing ≡ insert things k thing
insert-removed things k thing = same_things _ _ (λ q.
    get-insert nat_cmp_total (remove things k) k thing q
    ∙ ap (cond (is_at (nat_cmp q) k) (Some thing)) (get-remove nat_cmp_total things k q)
    ∙ last (is_at (nat_cmp q) k) (get things q)
    ∙ sym (get-insert nat_cmp_total things k thing q))
  where
    last : (t : Bool) (o : Option Thing) → cond t (Some thing) (cond t None o) ≡ cond t (Some thing) o
    last true o = refl
    last false o = refl

-- nothing is where something was taken out
pub get-removed : (things : Things) (k : ℕ) → get (remove things k) k ≡ None
get-removed things k = get-remove nat_cmp_total things k k ∙ ap (λ b. cond b None (get things k)) (at_itself k)
