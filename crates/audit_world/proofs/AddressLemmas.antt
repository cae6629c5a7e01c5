-- The blocks of a told world begin at addresses of which none is 0, and none stands there twice.
use Rattle.std.proofs.Common.{◌≡◌, ◌≤◌, ◌+◌, ◌==◌, ℕ, List, [], ◌∷◌, ◌++◌, cond, true, length, get_or, take, drop, map, nat_eq, arith, ap, ◌∙◌, refl, sym, subst, append_assoc, length-take}
use Rattle.std.specs.Prelude.{count_by, IfSome, Option}
use Rattle.std.specs.Cmp.{nat_eq_equiv}
use Rattle.std.specs.FinMap as finite
use Rattle.std.specs.List.{All, AllByRecursion, flat_map}
use Rattle.std.proofs.lemmas.List.{get_or-drop, get_or-take, length-drop, map-append}
use Rattle.std.proofs.lemmas.List.Elements.{All-head, All-map, All-tail}
use Rattle.std.proofs.lemmas.Simd.{map-map}
use Rattle.sdr_stands.proofs.ThingShapes.{name_shapes, thing_shapes, ticket_shapes}
use Rattle.sdr_stands.specs.Rows.{name_row}
use Rattle.sdr_stands.specs.Shape.{shape}
use Rattle.sdr_stands.specs.Standing.{entries_of, queue_entries, thing_entries}
use Rattle.sdr_stands.specs.Ties.{ties_of}
use Rattle.sdr_base.specs.Blocks as base
use Rattle.sdr_base.specs.Catalogue.{catalogue_entries}
use Rattle.sdr_base.specs.Entries.{Entries, times}
use Rattle.sdr_base.specs.declared.account.Acct.TheVariants as accts
use Rattle.sdr_base.specs.declared.kind.Kind.TheVariants as kinds
use Rattle.audit_counts.specs.Counted.{IsCounted}
use Rattle.audit_owners.specs.Members.{members}
use Rattle.law_steps.proofs.DistinctLemmas.{count_by-cons, from_once, not_contained}
use Rattle.sdr_model.specs.Accounts.{ticket_blocks}
use Rattle.sdr_model.specs.Blocks.{addresses_of, blocks_of, thing_blocks}
use Rattle.sdr_model.specs.Things.{block_for_name}
use Rattle.sdr_model.specs.Valid.{IsBetween, IsValid, IsValidThing, names_of}
use Rattle.sdr_model.specs.declared.name.Name.{Name}
use Rattle.sdr_model.specs.declared.things.UsedBlock.{UsedBlock}
use Rattle.sdr_model.specs.declared.things.Thing.{Thing}
use Rattle.audit_owners.specs.Chains.{first_link, is_member}
use Rattle.audit_owners.specs.Reading.{behind_words, name_in}
use Rattle.audit_owners.specs.View.{View, is_kind}
use Rattle.audit_owners.specs.declared.owner.Owner.TheVariants as owners
use Rattle.audit_world.proofs.ChainLemmas.{count_turned}
use Rattle.audit_world.proofs.OccupiedLemmas.{all_so, goes_members}
use Rattle.audit_world.proofs.LayoutLemmas.{is_name_so}
use Rattle.audit_world.proofs.OwnLemmas.{IsAudited, layout_of, own_of}
use Rattle.audit_world.proofs.PartLemmas.{names_chain}
use Rattle.audit_world.proofs.RowLemmas.{all_row}
use Rattle.audit_world.proofs.StandLemmas.{entries_stand, none_at_null, once}
use Rattle.audit_world.proofs.TiesLemmas.{thing_is, things_are}
use Rattle.audit_world.proofs.ValidLemmas.{between_so, thing_valid}
use Rattle.audit_world.proofs.Fitting.{AreFitting}
use Rattle.audit_world.specs.Told.{name_told, thing_told, world_told}

-- how often an address is listed is how often it stands among the addresses
times-addresses : (q : ℕ) (es : Entries) → times q es ≡ count_by (nat_eq q) (map (λ e. e.0) es)
unfolding times
times-addresses q es = by_turn q es ∙ sym (count_turned q (map (λ e. e.0) es))
  where
    by_turn : (q : ℕ) (es : Entries) → times q es ≡ count_by (λ other. other == q) (map (λ e. e.0) es)
    by_turn q [] = refl
    by_turn q (e ∷ es) =
        ap (λ (n : ℕ). cond (e.0 == q) 1 0 + n) (by_turn q es) ∙ sym (count_by-cons (λ other. other == q) e.0 (map (λ (e : ℕ × base.Block). e.0) es))

module _ (heap : View) (words : ℕ) (a : IsAudited heap words) where
  -- a name keeps to the limits
  name_valid : (addr : ℕ) → is_kind kinds.Name (heap.blocks addr) ≡ true → IsBetween 1 31 (length (name_told heap addr).name)
  name_valid addr is =
      let b = own_of heap words a kinds.Name addr is in
      let first : List ℕ = take 96 b.own.bytes in
      let l = is_name_so b.own.bytes (layout_of heap words a kinds.Name addr b) in
      let count = l.long in
      let between = between_so 1 31 (get_or first 24 0) l.named in
      let least = between.0 in
      let most = between.1 in
      let mark : get_or (drop 24 b.own.bytes) 0 0 ≡ get_or first 24 0 = get_or-drop 24 b.own.bytes 0 0 ∙ sym (get_or-take 96 b.own.bytes 24 0 (omega arith)) in
      let long = length-take (get_or (drop 24 b.own.bytes) 0 0) (drop 1 (drop 24 b.own.bytes)) in
      let x = length-drop 1 (drop 24 b.own.bytes) in
      let y = length-drop 24 b.own.bytes in
      let told : length (name_told heap addr).name ≡ length (name_in (drop 24 b.own.bytes)) = ap (λ (o : Option base.Block). length (name_in (behind_words o 3))) b.is in
      let low : 1 ≤ length (name_told heap addr).name = omega (arith, count, least, most, mark, long, x, y, told) in
      let high : length (name_told heap addr).name ≤ 31 = omega (arith, count, least, most, mark, long, x, y, told) in
      (low, high)

  names_members : All (λ n. is_member heap owners.Catalogue n ≡ true) (members heap words owners.Catalogue)
  names_members =
      goes_members heap words owners.Catalogue 0 (first_link heap owners.Catalogue) (members heap words owners.Catalogue) (names_chain heap words a).last 0
      (names_chain heap words a).goes

  pub names_valid : All (λ name. IsBetween 1 31 (length name)) (names_of (world_told heap words))
  names_valid =
      All-map (λ name. IsBetween 1 31 (length name)) (λ (n : Name). n.name) (map (name_told heap) (members heap words owners.Catalogue))
      (All-map (λ (n : Name). IsBetween 1 31 (length n.name)) (name_told heap) (members heap words owners.Catalogue)
      (all_so (λ n. is_member heap owners.Catalogue n ≡ true) (λ n. IsBetween 1 31 (length (name_told heap n).name)) (λ n member. name_valid n member)
      (members heap words owners.Catalogue) names_members))

  names_short : (ms : List ℕ) → All (λ n. is_member heap owners.Catalogue n ≡ true) ms → AllByRecursion (λ (n : Name). length n.name ≤ 31) (map (name_told heap) ms)
  names_short [] all = tt
  names_short (n ∷ ns) all = (
    (name_valid n (All-head (λ n. is_member heap owners.Catalogue n ≡ true) n ns all)).1,
    names_short ns (All-tail (λ n. is_member heap owners.Catalogue n ≡ true) n ns all),
  )

  module _ (f : AreFitting heap words) (c : IsCounted heap words) where
    things_shapes : (es : List (ℕ × Thing)) → All (λ e. IsValidThing e.1) es →
        map shape (flat_map (λ (e : ℕ × Thing). thing_entries (ties_of (world_told heap words)) e.0 e.1) es) ≡ flat_map (λ (e : ℕ × Thing). thing_blocks e.0 e.1) es
    things_shapes [] all = refl
    things_shapes (e ∷ es) all =
        map-append shape (thing_entries (ties_of (world_told heap words)) e.0 e.1) (flat_map (λ (e : ℕ × Thing). thing_entries (ties_of (world_told heap words)) e.0 e.1) es)
        ∙ (λ i. thing_shapes (ties_of (world_told heap words)) e.0 e.1 (All-head (λ (e : ℕ × Thing). IsValidThing e.1) e es all) i ++ things_shapes es (All-tail (λ (e : ℕ × Thing). IsValidThing e.1) e es all) i)

    all_valid : All (λ e. IsValidThing e.1) (finite.entries (world_told heap words).things)
    all_valid =
        subst (All (λ (e : ℕ × Thing). IsValidThing e.1)) (sym (things_are heap words a))
        (all_row (thing_told heap words) (λ (e : ℕ × Thing). IsValidThing e.1)
        (λ q x is. subst (λ (o : Option Thing). IfSome o IsValidThing) is (thing_valid heap words a f q)) 0 words)

    -- the blocks of the world are those that stand
    shapes_so : map shape (entries_of (world_told heap words)) ≡ blocks_of (world_told heap words)
    shapes_so =
        let w = world_told heap words in
        let things : Entries = flat_map (λ (e : ℕ × Thing). thing_entries (ties_of w) e.0 e.1) (finite.entries w.things) in
        let names : Entries = catalogue_entries (map name_row w.names) in
        let inbound : Entries = queue_entries w.accounts accts.Inbound in
        let outbound : Entries = queue_entries w.accounts accts.Outbound in
        map-append shape things (names ++ (inbound ++ outbound))
        ∙ ap (λ (l : List UsedBlock). map shape things ++ l) (map-append shape names (inbound ++ outbound) ∙ ap (λ (l : List UsedBlock). map shape names ++ l) (map-append shape inbound outbound))
        ∙ (λ i.
        things_shapes (finite.entries w.things) all_valid i
        ++ (name_shapes w.names (names_short (members heap words owners.Catalogue) names_members) i
        ++ (ticket_shapes accts.Inbound w.accounts.inbound.tickets i ++ ticket_shapes accts.Outbound w.accounts.outbound.tickets i)))
        ∙ sym (append_assoc (flat_map (λ (e : ℕ × Thing). thing_blocks e.0 e.1) (finite.entries w.things)) (map block_for_name w.names) (ticket_blocks w.accounts))

    addresses_so : addresses_of (blocks_of (world_told heap words)) ≡ map (λ e. e.0) (entries_of (world_told heap words))
    addresses_so =
        ap addresses_of (sym shapes_so) ∙ map-map (λ (b : UsedBlock). b.addr) shape (entries_of (world_told heap words))

    counts_so : (q : ℕ) → count_by (nat_eq q) (addresses_of (blocks_of (world_told heap words))) ≡ times q (entries_of (world_told heap words))
    counts_so q = ap (λ (l : List ℕ). count_by (nat_eq q) l) addresses_so ∙ sym (times-addresses q (entries_of (world_told heap words)))

    -- the told world is valid
    pub world_valid : IsValid (world_told heap words)
    world_valid = record {
      things = λ addr. subst (λ (o : Option Thing). IfSome o IsValidThing) (sym (thing_is heap words a addr)) (thing_valid heap words a f addr);
      names = names_valid;
      distinct_names = f.names;
      nonzero =
          not_contained 0 (addresses_of (blocks_of (world_told heap words)))
          (counts_so 0 ∙ none_at_null heap (entries_of (world_told heap words)) (entries_stand heap words a f c));
      distinct_addresses =
          from_once nat_eq_equiv (addresses_of (blocks_of (world_told heap words)))
          (λ q. subst (λ (n : ℕ). n ≤ 1) (sym (counts_so q)) (once heap words a f c q));
    }
