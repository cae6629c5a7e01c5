-- The blocks that stand have the kinds and lengths of the world's blocks.
use Rattle.std.proofs.Common.{◌≡◌, ℕ, ◌==◌, ◌≤◌, List, [], ◌∷◌, ◌++◌, map, length, Bool, true, false, cond, ◌&&◌, T, Some, None, refl, sym, ap, ◌∙◌, append_assoc, subst}
use Rattle.std.specs.Prelude.{IfSome}
use Rattle.std.specs.Cmp.{nat_cmp_total, tied_itself}
use Rattle.std.specs.FinMap.Entries.{below_all}
use Rattle.std.specs.Ordering.{nat_cmp, is_eq, is_lt}
use Rattle.std.specs.declared.cmp.Ordering.{Ordering}
use Rattle.std.specs.declared.cmp.Ordering.TheVariants.{Less, Equal, Greater}
use Rattle.std.proofs.lemmas.List.{map-append}
use Rattle.std.specs.FinMap as finite
use Rattle.std.specs.List.{AllByRecursion, flat_map}
use Rattle.sdr_base.specs.Blocks as base
use Rattle.sdr_base.specs.Blocks.{kind_length}
use Rattle.sdr_base.specs.Catalogue.{NameRow, name_addr, name_bytes}
use Rattle.sdr_base.specs.Catalogue as catalogue
use Rattle.sdr_base.specs.Entries.{Entries, BlocksAre, at}
use Rattle.sdr_base.specs.declared.account.Acct.TheVariants as accts
use Rattle.sdr_model.specs.Accounts.{block_for_ticket, ticket_blocks}
use Rattle.sdr_model.specs.Blocks.{blocks_of, thing_blocks}
use Rattle.sdr_model.specs.Things.{block_among, block_for_name}
use Rattle.sdr_model.specs.Valid.{IsBetween, IsValid, IsValidThing}
use Rattle.sdr_model.specs.Limits.{longest_name}
use Rattle.sdr_model.specs.World.{World}
use Rattle.sdr_model.specs.declared.name.Name.{Name}
use Rattle.sdr_model.specs.declared.things.UsedBlock.{UsedBlock}
use Rattle.sdr_model.specs.declared.things.Thing.{Thing}
use Rattle.sdr_stands.specs.Rows.{name_row}
use Rattle.sdr_stands.specs.Shape.{shape, shape_of}
use Rattle.sdr_stands.specs.Standing.{entries_of, other_entries, queue_entries, thing_entries}
use Rattle.sdr_stands.specs.Ties.{Ties, ties_of}
use Rattle.sdr_stands.proofs.GroupLemmas.{each_of}
use Rattle.sdr_stands.proofs.ThingShapes.{name_shapes, thing_shapes, ticket_shapes}

-- no key of entries that a key is below is that key
above : {X : Type 0} (k : ℕ) (es : List (ℕ × X)) → T (below_all nat_cmp k es) → finite.find nat_cmp k es ≡ None
above k [] h = refl
above k (e ∷ es) h =
    elim (nat_cmp k e.0) as
    (λ o. T (is_lt o && below_all nat_cmp k es) → cond (is_eq o) (Some e.1) (finite.find nat_cmp k es) ≡ None) [
      | Less ↦ λ h. above k es h
      | Equal ↦ λ h. absurd h
      | Greater ↦ λ h. absurd h
    ] h

-- the key of the first entry is none of the others
first_key : {X : Type 0} (e : ℕ × X) (es : List (ℕ × X)) → T (finite.is_sorted nat_cmp (e ∷ es)) →
    finite.find nat_cmp e.0 es ≡ None
first_key e es sorted = above e.0 es (left (below_all nat_cmp e.0 es) (finite.is_sorted nat_cmp es) sorted)
  where
    left : (a b : Bool) → T (a && b) → T a
    left true b h = tt
    left false b h = absurd h

others_sorted : (a b : Bool) → T (a && b) → T b
others_sorted true b h = h
others_sorted false b h = absurd h

-- what holds of the value at each key holds of each entry
pub each_entry : {X : Type 0} (P : X → Type 0) (es : List (ℕ × X)) → T (finite.is_sorted nat_cmp es) →
    ((q : ℕ) → IfSome (finite.find nat_cmp q es) P) → AllByRecursion (λ (e : ℕ × X). P e.1) es
each_entry P [] sorted holds = tt
each_entry {X} P (e ∷ es) sorted holds = (
  subst (λ o. IfSome (cond (is_eq o) (Some e.1) (finite.find nat_cmp e.0 es)) P) (tied_itself nat_cmp_total e.0) (holds e.0),
  each_entry P es (others_sorted (below_all nat_cmp e.0 es) (finite.is_sorted nat_cmp es) sorted)
      (λ q. later q (nat_cmp q e.0) refl (holds q)),
)
  where
    later : (q : ℕ) (o : Ordering) → nat_cmp q e.0 ≡ o → IfSome (cond (is_eq (nat_cmp q e.0)) (Some e.1) (finite.find nat_cmp q es)) P →
        IfSome (finite.find nat_cmp q es) P
    later q Less is h = subst (λ o. IfSome (cond (is_eq o) (Some e.1) (finite.find nat_cmp q es)) P) is h
    later q Greater is h = subst (λ o. IfSome (cond (is_eq o) (Some e.1) (finite.find nat_cmp q es)) P) is h
    later q Equal is h =
        let same : q ≡ e.0 = finite.nat_cmp-IsAntisymmetric q e.0 is in
        let none : finite.find nat_cmp q es ≡ None = ap (λ k. finite.find nat_cmp k es) same ∙ first_key e es sorted in
        subst (λ o. IfSome o P) (sym none) tt

section_shapes : (ties : Ties) (es : List (ℕ × Thing)) → AllByRecursion (λ (e : ℕ × Thing). IsValidThing e.1) es →
    map shape (flat_map (λ e. thing_entries ties e.0 e.1) es) ≡ flat_map (λ e. thing_blocks e.0 e.1) es
section_shapes ties [] all = refl
section_shapes ties (e ∷ es) all =
    map-append shape (thing_entries ties e.0 e.1) (flat_map (λ e. thing_entries ties e.0 e.1) es)
    ∙ ap (λ (t : List UsedBlock). t ++ map shape (flat_map (λ e. thing_entries ties e.0 e.1) es))
    (thing_shapes ties e.0 e.1 all.0)
    ∙ ap (λ (t : List UsedBlock). thing_blocks e.0 e.1 ++ t) (section_shapes ties es all.1)

-- the names of a valid world are short
short_names : (w : World) → IsValid w → AllByRecursion (λ (n : Name). length n.name ≤ 31) w.names
short_names w v = by w.names (each_of (λ (n : Name). n.name) (λ name. IsBetween 1 longest_name (length name)) w.names v.names)
  where
    by : (ns : List Name) → AllByRecursion (λ (n : Name). IsBetween 1 longest_name (length n.name)) ns →
        AllByRecursion (λ (n : Name). length n.name ≤ 31) ns
    by [] all = tt
    by (n ∷ ns) all = (all.0.1, by ns all.1)

other_shapes : (w : World) → IsValid w → map shape (other_entries w) ≡ map block_for_name w.names ++ ticket_blocks w.accounts
other_shapes w v =
    let ns = catalogue.catalogue_entries (map name_row w.names) in
    let ins = queue_entries w.accounts accts.Inbound in
    let outs = queue_entries w.accounts accts.Outbound in
    map-append shape ns (ins ++ outs)
    ∙ ap (λ (t : List UsedBlock). t ++ map shape (ins ++ outs)) (name_shapes w.names (short_names w v))
    ∙ ap (λ (t : List UsedBlock). map block_for_name w.names ++ t)
    (map-append shape ins outs
    ∙ ap (λ (t : List UsedBlock). t ++ map shape outs) (ticket_shapes accts.Inbound w.accounts.inbound.tickets)
    ∙ ap (λ (t : List UsedBlock). map block_for_ticket w.accounts.inbound.tickets ++ t)
    (ticket_shapes accts.Outbound w.accounts.outbound.tickets))

-- the entries of a valid world have the shapes of its blocks, in their order
pub shapes : (w : World) → IsValid w → map shape (entries_of w) ≡ blocks_of w
shapes w v =
    let all = each_entry IsValidThing (finite.entries w.things) (finite.entries_sorted w.things)
    (λ q. subst (λ o. IfSome o IsValidThing) (finite.get-entries w.things q) (v.things q)) in
    let own = flat_map (λ e. thing_blocks e.0 e.1) (finite.entries w.things) in
    map-append shape (flat_map (λ e. thing_entries (ties_of w) e.0 e.1) (finite.entries w.things)) (other_entries w)
    ∙ ap (λ (t : List UsedBlock). t ++ map shape (other_entries w)) (section_shapes (ties_of w) (finite.entries w.things) all)
    ∙ ap (λ (t : List UsedBlock). own ++ t) (other_shapes w v)
    ∙ sym (append_assoc own (map block_for_name w.names) (ticket_blocks w.accounts))

told_at : (q : ℕ) (es : Entries) → kind_length (at es q) ≡ shape_of (block_among q (map shape es))
unfolding at
told_at q [] = refl
told_at q (e ∷ es) =
    elim (e.0 == q) as
    (λ v. kind_length (cond v (Some e.1) (at es q)) ≡ shape_of (cond v (Some (shape e)) (block_among q (map shape es)))) [
      | true ↦ refl
      | false ↦ told_at q es
    ]

-- the blocks in use are the world's, by kind and length
pub told : (blocks : base.Blocks) (w : World) (addr : ℕ) → BlocksAre blocks (entries_of w) → IsValid w →
    kind_length (blocks addr) ≡ shape_of (block_among addr (blocks_of w))
told blocks w addr s v =
    ap kind_length (s.same addr) ∙ told_at addr (entries_of w)
    ∙ ap (λ bs. shape_of (block_among addr bs)) (shapes w v)
