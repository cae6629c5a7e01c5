-- The things at the places, one after another.
use Rattle.std.proofs.Common.{◌≡◌, ℕ, List, [], ◌∷◌, T, map, None, is_lt, arith, ap, subst, sym, ◌∙◌, refl}
use Rattle.std.specs.Cmp.{nat_cmp_total}
use Rattle.std.specs.FinMap.{empty, entries, entries-from_sorted, entries-insert, entries_sorted, from_entries, from_sorted, get-empty, get-from_sorted, is_sorted, put}
use Rattle.std.specs.FinMap.Entries.{below_all}
use Rattle.std.specs.List.Sorted.{IsStrictlySortedBy}
use Rattle.std.specs.Ordering.{nat_cmp}
use Rattle.sdr_model.proofs.EntryLemmas.{entries-from_entries}
use Rattle.sdr_model.proofs.MapLemmas.{find-lookup}
use Rattle.sdr_model.proofs.ThingsLemmas.{same_things, with_at-again}
use Rattle.sdr_model.specs.declared.things.Thing.{Thing}
use Rattle.mem_store.proofs.SpotLemmas.{left_of, missing, right_of}
use Rattle.mem_store.proofs.StoreLemmas.{thing_at}
use Rattle.mem_store.specs.Store.{now_at, things_at, things_in}
use Rattle.mem_store.specs.declared.place.Place.{Place}

-- an address below those of some places is below those of their things
below_things : (k : ℕ) (ps : List (ℕ × Place)) → T (below_all nat_cmp k ps) → T (below_all nat_cmp k (things_in ps))
below_things k [] below = tt
below_things k ((a, place) ∷ ps) below =
    let here : T (is_lt (nat_cmp k a)) = left_of _ _ below in
    let rest : T (below_all nat_cmp k (things_in ps)) = below_things k ps (right_of (is_lt (nat_cmp k a)) (below_all nat_cmp k ps) below) in
    grind arith

-- what is put at an address below all others comes first
put_first : (k : ℕ) (thing : Thing) (es : List (ℕ × Thing)) → T (below_all nat_cmp k es) → put nat_cmp k thing es ≡ (k, thing) ∷ es
put_first k thing [] below = refl
put_first k thing (e ∷ es) below =
    let here : T (is_lt (nat_cmp k e.0)) = left_of _ _ below in
    grind arith

-- no things have no entries
pub entries-empty : entries (empty {K = ℕ} {X = Thing} {R = nat_cmp}) ≡ []
entries-empty =
    ap entries (same_things empty (from_sorted []) (λ q. get-empty nat_cmp q ∙ sym (get-from_sorted nat_cmp [] q tt)))
    ∙ entries-from_sorted nat_cmp [] tt

-- the things at all places, in order
pub entries-things_at : (places : List (ℕ × Place)) → T (is_sorted nat_cmp places) → things_in places ≡ entries (things_at now_at places)
entries-things_at [] sorted = sym entries-empty
entries-things_at ((a, place) ∷ ps) sorted =
    let below : T (below_all nat_cmp a ps) = left_of _ _ sorted in
    let rise : T (is_sorted nat_cmp ps) = right_of (below_all nat_cmp a ps) (is_sorted nat_cmp ps) sorted in
    let first = λ (thing : Thing). put_first a thing (things_in ps) (below_things a ps below) in
    grind (
      arith,
      entries-things_at ps rise,
      with_at-again (things_at now_at ps) a None,
      thing_at now_at ps a,
      find-lookup a ps,
      missing a ps below,
      first,
      entries-insert nat_cmp_total (things_at now_at ps) a,
    )

-- the places of a map are in order
pub sorted_places : (places : List (ℕ × Place)) → IsStrictlySortedBy nat_cmp (map (λ e. e.0) places) → T (is_sorted nat_cmp places)
sorted_places places ordered =
    subst (λ es. T (is_sorted nat_cmp es)) (entries-from_entries places ordered) (entries_sorted (from_entries {R = nat_cmp} places))
