-- The blocks in use are those of the world that a heap tells.
use Rattle.std.proofs.Common.{◌≡◌, ◌≤◌, ◌+◌, ◌*◌, ◌==◌, ◌||◌, ◌⊎◌, ℕ, zero, suc, Bool, List, [], ◌∷◌, ◌++◌, cond, not, true, map, arith, ap, ◌∙◌, refl, sym, subst, inl, inr}
use Rattle.std.specs.Prelude.{count_by, IfSome, Option, None, Some}
use Rattle.std.specs.FinMap as finite
use Rattle.std.specs.List.{All, flat_map, range_with_len}
use Rattle.std.proofs.lemmas.Bool.{cases_eq, eq-eqb, ne_eqb, or_left, or_right}
use Rattle.std.proofs.lemmas.Grind.{flat_map-append}
use Rattle.std.proofs.lemmas.List.Elements.{All-append, All-cons, All-head, All-nil, All-tail}
use Rattle.std.proofs.lemmas.Option.{none-some}
use Rattle.sdr_stands.specs.Rows.{name_row}
use Rattle.sdr_stands.specs.Standing.{entries_of, other_entries, queue_entries, thing_entries}
use Rattle.sdr_stands.specs.Ties.{ties_of}
use Rattle.sdr_base.proofs.PoolsLemmas.{count_by-append, count_by-no}
use Rattle.sdr_base.proofs.StandingLemmas.{at-nowhere, times-append}
use Rattle.sdr_base.specs.Blocks.{Block}
use Rattle.sdr_base.specs.Catalogue.{catalogue_entries}
use Rattle.sdr_base.specs.Entries.{Entries, BlocksAre, at, times}
use Rattle.sdr_base.specs.Kinds.{kind_number}
use Rattle.sdr_base.specs.declared.account.Acct.TheVariants as accts
use Rattle.sdr_base.specs.declared.kind.Kind.{Kind}
use Rattle.sdr_base.specs.declared.kind.Kind.TheVariants as kinds
use Rattle.audit_counts.specs.Counted.{IsCounted}
use Rattle.audit_owners.specs.Members.{members}
use Rattle.sdr_model.specs.declared.things.Thing.{Thing}
use Rattle.audit_owners.proofs.MarksLemmas.{counted}
use Rattle.audit_owners.proofs.ReadingLemmas.{same_kind}
use Rattle.audit_owners.specs.Chains.{ChainGoes, first_link, is_among, next_of}
use Rattle.audit_owners.specs.Linking.{AllStandAt, StandsAt}
use Rattle.audit_owners.specs.Owners.{kind_in, owned_at, owners_of}
use Rattle.audit_owners.specs.Rules as rules
use Rattle.audit_owners.specs.Rules.{IsKept}
use Rattle.audit_owners.specs.View.{View, is_kind}
use Rattle.audit_owners.specs.declared.owner.Owner.{Owner}
use Rattle.audit_owners.specs.declared.owner.Owner.TheVariants as owners
use Rattle.audit_owners.specs.declared.rules.OwnerRule.TheVariants as which
use Rattle.audit_world.proofs.ChainLemmas.{IsTold, reached_followed}
use Rattle.audit_world.proofs.LinkLemmas.{all_told}
use Rattle.audit_world.proofs.OwnLemmas.{IsAudited}
use Rattle.audit_world.proofs.PartLemmas.{inner, names_stand, none_inside, queues_stand, thing_stands, times-names, times-queues, times-thing}
use Rattle.audit_world.proofs.RowLemmas.{all_row, own, own_none, own_one, row, times_row}
use Rattle.audit_world.proofs.TiesLemmas.{thing_place, things_are}
use Rattle.audit_world.proofs.Fitting.{AreFitting}
use Rattle.audit_world.specs.Told.{thing_by, thing_of_kind, thing_told, world_told}

-- blocks that stand are found where they are listed
at_listed : (heap : View) (q : ℕ) (es : Entries) → AllStandAt heap es → 1 ≤ times q es → heap.blocks q ≡ at es q
unfolding at times
at_listed heap q [] stand some = absurd (let e : 1 ≤ 0 = some in omega (arith, e))
at_listed heap q (e ∷ es) stand some =
    let here = All-head (StandsAt heap) e es stand in
    elim (cases_eq e.0 q) [
      | inl same ↦
          ap heap.blocks (sym same) ∙ here.is
          ∙ sym (ap (λ (t : Bool). cond t (Some e.1) (at es q)) (eq-eqb e.0 q same))
      | inr off ↦
          let none = ne_eqb e.0 q off in
          let less : cond {A = ℕ} (e.0 == q) 1 0 ≡ 0 = ap (λ (t : Bool). cond {A = ℕ} t 1 0) none in
          at_listed heap q es (All-tail (StandsAt heap) e es stand) (omega (arith, some, less))
          ∙ sym (ap (λ (t : Bool). cond t (Some e.1) (at es q)) none)
    ]

-- none of them stands at 0
pub none_at_null : (heap : View) (es : Entries) → AllStandAt heap es → times 0 es ≡ 0
unfolding times
none_at_null heap [] stand = refl
none_at_null heap (e ∷ es) stand =
    let here = All-head (StandsAt heap) e es stand in
    let less : cond {A = ℕ} (e.0 == 0) 1 0 ≡ 0 = ap (λ (t : Bool). cond {A = ℕ} t 1 0) (ne_eqb e.0 0 here.some) in
    let rest = none_at_null heap es (All-tail (StandsAt heap) e es stand) in
    omega (arith, less, rest)

-- blocks that stand, each listed once, and none besides, are just those in use
stands_by : (heap : View) (es : Entries) → AllStandAt heap es → ((q : ℕ) → times q es ≤ 1) →
    ((q : ℕ) (block : Block) → heap.blocks q ≡ Some block → 1 ≤ times q es) → BlocksAre heap.blocks es
stands_by heap es stand once all = record {
  same = λ q. same q (cases_eq (times q es) 0);
  once = once;
  null = none_at_null heap es stand;
}
  where
    none : (q : ℕ) (o : Option Block) → heap.blocks q ≡ o → times q es ≡ 0 → heap.blocks q ≡ None
    none q None is nil = is
    none q (Some block) is nil = let some = all q block is in absurd (omega (arith, some, nil))

    some : (n : ℕ) → (n ≡ 0 → ⊥) → 1 ≤ n
    some n off = omega (arith, off)

    same : (q : ℕ) → (times q es ≡ 0) ⊎ (times q es ≡ 0 → ⊥) → heap.blocks q ≡ at es q
    same q (inl nil) = none q (heap.blocks q) refl nil ∙ sym (at-nowhere q es nil)
    same q (inr off) = at_listed heap q es stand (some (times q es) off)

-- what holds of all numbers of a list holds of one that stands there
all_counted : (P : ℕ → Type 0) (q : ℕ) (xs : List ℕ) → All P xs → 1 ≤ count_by (λ other. other == q) xs → P q
all_counted P q [] all some = absurd (let e : 1 ≤ 0 = some in omega (arith, e))
all_counted P q (x ∷ xs) all some = elim (cases_eq x q) [
  | inl same ↦ subst P same (All-head P x xs all)
  | inr off ↦
      let less = count_by-no (λ other. other == q) x xs (ne_eqb x q off) in
      all_counted P q xs (All-tail P x xs all) (omega (arith, some, less))
]

module _ (heap : View) (words : ℕ) where
  -- a block that stands in a chain is no thing
  no_thing : (owner : Owner) (addr : ℕ) → thing_of_kind (kind_in owner) heap words addr ≡ None
  no_thing owners.Catalogue addr = refl
  no_thing (owners.Queue account) addr = refl
  no_thing (owners.List list) addr = refl
  no_thing (owners.Bucket hash front) addr = refl
  no_thing (owners.Headers object) addr = refl
  no_thing (owners.Extents object) addr = refl
  no_thing (owners.Trailers object) addr = refl

  member_none : (owner : Owner) (addr : ℕ) (o : Option Block) → is_kind (kind_in owner) o ≡ true → thing_by o heap words addr ≡ None
  member_none owner addr None is = refl
  member_none owner addr (Some block) is =
      ap (λ (k : Kind). thing_of_kind k heap words addr) (same_kind block.kind (kind_in owner) is) ∙ no_thing owner addr

  abbrev NoThing : ℕ → Type 0
  NoThing addr = thing_told heap words addr ≡ None

  goes_none : (owner : Owner) (before link : ℕ) (addrs : List ℕ) (last next : ℕ) → ChainGoes heap owner before link addrs last next → All NoThing addrs
  goes_none owner before link [] last next goes = All-nil NoThing
  goes_none owner before link (a ∷ addrs) last next (is, some, member, named, more) =
      All-cons NoThing a addrs (member_none owner a (heap.blocks a) member) (goes_none owner a (next_of heap owner a) addrs last next more)

  chains_none : (os : List Owner) → All (IsTold heap words) os → All NoThing (flat_map (members heap words) os)
  chains_none [] told = All-nil NoThing
  chains_none (owner ∷ os) told =
      let chain = All-head (IsTold heap words) owner os told in
      All-append NoThing (members heap words owner) (flat_map (members heap words) os)
      (goes_none owner 0 (first_link heap owner) (members heap words owner) chain.last 0 chain.goes)
      (chains_none os (All-tail (IsTold heap words) owner os told))

  -- what owners of owners reach
  members_inside : (h : ℕ → List Owner) (ns : List ℕ) →
      flat_map (members heap words) (flat_map h ns) ≡ flat_map (λ n. flat_map (members heap words) (h n)) ns
  members_inside h [] = refl
  members_inside h (n ∷ ns) =
      flat_map-append (members heap words) (h n) (flat_map h ns)
      ∙ ap (λ (l : List ℕ). flat_map (members heap words) (h n) ++ l) (members_inside h ns)

  -- a block that is no thing is of a kind that only stands in chains
  chained : (kind : Kind) (o : Option Block) (addr : ℕ) → is_kind kind o ≡ true → thing_of_kind kind heap words addr ≡ None → rules.is_chained o ≡ true
  chained kinds.Raw o addr is none = absurd (none-some _ (sym none))
  chained kinds.Text o addr is none = absurd (none-some _ (sym none))
  chained kinds.List o addr is none = absurd (none-some _ (sym none))
  chained kinds.Element o addr is none = or_left _ _ (or_left _ _ (or_left _ _ (or_left _ _ (or_left (is_kind kinds.Element o) _ is))))
  chained kinds.Table o addr is none = absurd (none-some _ (sym none))
  chained kinds.Hash o addr is none = absurd (none-some _ (sym none))
  chained kinds.HashEntry o addr is none = or_left _ _ (or_left _ _ (or_left _ _ (or_left _ _ (or_right (is_kind kinds.Element o) _ is))))
  chained kinds.Name o addr is none = or_left _ _ (or_left _ _ (or_left _ _ (or_right _ (is_kind kinds.Name o) is)))
  chained kinds.Source o addr is none = absurd (none-some _ (sym none))
  chained kinds.Object o addr is none = absurd (none-some _ (sym none))
  chained kinds.Extent o addr is none = or_left _ _ (or_left _ _ (or_right _ (is_kind kinds.Extent o) is))
  chained kinds.Capsule o addr is none = or_left _ _ (or_right _ (is_kind kinds.Capsule o) is)
  chained kinds.Ticket o addr is none = or_right _ (is_kind kinds.Ticket o) is

module _ (heap : View) (words : ℕ) (a : IsAudited heap words) where
  abbrev reach : List ℕ
  reach = a.owned.reached

  reach_is : a.owned.reached ≡ flat_map (members heap words) (owners_of heap words)
  reach_is = reached_followed heap words a.placed (owners_of heap words) a.owned.reached a.owned.chains

  reach_none : All (λ addr. thing_told heap words addr ≡ None) a.owned.reached
  reach_none =
      subst (All (λ addr. thing_told heap words addr ≡ None)) (sym reach_is)
      (chains_none heap words (owners_of heap words) (all_told heap words a))

  is_reached : IsKept heap a.owned.reached which.IsReached
  is_reached = a.owned.kept.1.1.1.1.0

  module _ (f : AreFitting heap words) (c : IsCounted heap words) where
    -- all blocks of the world stand
    pub entries_stand : AllStandAt heap (entries_of (world_told heap words))
    entries_stand =
        All-append (StandsAt heap) (flat_map (λ (e : ℕ × Thing). thing_entries (ties_of (world_told heap words)) e.0 e.1) (finite.entries (world_told heap words).things))
        (other_entries (world_told heap words))
        (subst (λ (es : List (ℕ × Thing)). AllStandAt heap (flat_map (λ (e : ℕ × Thing). thing_entries (ties_of (world_told heap words)) e.0 e.1) es)) (sym things_are')
        (each (row (thing_told heap words) 0 words)
        (all_row (thing_told heap words) (λ (e : ℕ × Thing). AllStandAt heap (thing_entries (ties_of (world_told heap words)) e.0 e.1))
        (λ q x is. subst (λ (o : Option Thing). IfSome o (λ thing. AllStandAt heap (thing_entries (ties_of (world_told heap words)) q thing))) is (thing_stands heap words a f c q)) 0 words)))
        (All-append (StandsAt heap) (catalogue_entries (map name_row (world_told heap words).names))
        (queue_entries (world_told heap words).accounts accts.Inbound ++ queue_entries (world_told heap words).accounts accts.Outbound)
        (names_stand heap words a)
        (All-append (StandsAt heap) (queue_entries (world_told heap words).accounts accts.Inbound) (queue_entries (world_told heap words).accounts accts.Outbound)
        (queues_stand heap words a accts.Inbound) (queues_stand heap words a accts.Outbound)))
      where
        things_are' : finite.entries (world_told heap words).things ≡ row (thing_told heap words) 0 words
        things_are' = things_are heap words a

        each : (es : List (ℕ × Thing)) → All (λ (e : ℕ × Thing). AllStandAt heap (thing_entries (ties_of (world_told heap words)) e.0 e.1)) es →
            AllStandAt heap (flat_map (λ (e : ℕ × Thing). thing_entries (ties_of (world_told heap words)) e.0 e.1) es)
        each [] all = All-nil (StandsAt heap)
        each (e ∷ es) all =
            All-append (StandsAt heap) (thing_entries (ties_of (world_told heap words)) e.0 e.1)
            (flat_map (λ (e : ℕ × Thing). thing_entries (ties_of (world_told heap words)) e.0 e.1) es)
            (All-head (λ (e : ℕ × Thing). AllStandAt heap (thing_entries (ties_of (world_told heap words)) e.0 e.1)) e es all)
            (each es (All-tail (λ (e : ℕ × Thing). AllStandAt heap (thing_entries (ties_of (world_told heap words)) e.0 e.1)) e es all))

    -- each is a thing's own or one that chains reach
    times-all : (q : ℕ) → times q (entries_of (world_told heap words)) ≡ own (thing_told heap words) q (row (thing_told heap words) 0 words) + count_by (λ other. other == q) a.owned.reached
    times-all q =
        let t : List ℕ → ℕ = count_by (λ other. other == q) in
        let g : ℕ × Thing → Entries = λ e. thing_entries (ties_of (world_told heap words)) e.0 e.1 in
        let things : Entries = flat_map g (finite.entries (world_told heap words).things) in
        let inbound : Entries = queue_entries (world_told heap words).accounts accts.Inbound in
        let outbound : Entries = queue_entries (world_told heap words).accounts accts.Outbound in
        let names : Entries = catalogue_entries (map name_row (world_told heap words).names) in
        let inside : List ℕ = flat_map (λ word. inner heap words (8 * word)) (range_with_len 0 words) in
        let cs : List ℕ = members heap words owners.Catalogue in
        let is : List ℕ = members heap words (owners.Queue accts.Inbound) in
        let os : List ℕ = members heap words (owners.Queue accts.Outbound) in
        let x = times-append q things (names ++ (inbound ++ outbound)) in
        let y = times-append q names (inbound ++ outbound) in
        let z = times-append q inbound outbound in
        let n = times-names heap words a q in
        let i = times-queues heap words a q accts.Inbound in
        let o = times-queues heap words a q accts.Outbound in
        let r : times q things ≡ own (thing_told heap words) q (row (thing_told heap words) 0 words) + count_by (λ other. other == q) inside =
        ap (λ (es : List (ℕ × Thing)). times q (flat_map g es)) (things_are heap words a)
        ∙ times_row (thing_told heap words) (λ p thing. thing_entries (ties_of (world_told heap words)) p thing) (inner heap words)
        (λ q p x is.
        subst (λ (o : Option Thing). IfSome o (λ thing. times q (thing_entries (ties_of (world_told heap words)) p thing) ≡ cond (p == q) 1 0 + count_by (λ other. other == q) (inner heap words p)))
        is (times-thing heap words a f c q p))
        (λ p is. none_inside heap words a p is) q 0 words in
        let e : a.owned.reached ≡ cs ++ (is ++ (os ++ inside)) =
        reach_is
        ∙ ap (λ (l : List ℕ). cs ++ (is ++ (os ++ l))) (members_inside heap words (λ (word : ℕ). owned_at heap (8 * word)) (range_with_len 0 words)) in
        let u = ap (λ (l : List ℕ). count_by (λ other. other == q) l) e in
        let v = count_by-append (λ other. other == q) cs (is ++ (os ++ inside)) in
        let w = count_by-append (λ other. other == q) is (os ++ inside) in
        let k = count_by-append (λ other. other == q) os inside in
        omega (arith, x, y, z, n, i, o, r, u, v, w, k)

    pub once : (q : ℕ) → times q (entries_of (world_told heap words)) ≤ 1
    once q = by_thing (thing_told heap words q) refl
      where
        by_thing : (o : Option Thing) → thing_told heap words q ≡ o → times q (entries_of (world_told heap words)) ≤ 1
        by_thing None is =
            let t = times-all q in
            let none = own_none (thing_told heap words) q 0 words is in
            let most = a.owned.chains.once q in
            omega (arith, t, none, most)
        by_thing (Some x) is =
            let t = times-all q in
            let p = thing_place heap words a q x is in
            let below = p.below in
            let one : own (thing_told heap words) q (row (thing_told heap words) 0 words) ≡ 1 =
            subst (λ (n : ℕ). own (thing_told heap words) n (row (thing_told heap words) 0 words) ≡ 1) (sym p.at)
            (own_one (thing_told heap words) p.word 0 words x (omega arith) (omega (arith, below)) (ap (thing_told heap words) (sym p.at) ∙ is)) in
            let none : count_by (λ other. other == q) a.owned.reached ≡ 0 = unreached (count_by (λ other. other == q) a.owned.reached) refl in
            omega (arith, t, one, none)
          where
            unreached : (n : ℕ) → count_by (λ other. other == q) a.owned.reached ≡ n → count_by (λ other. other == q) a.owned.reached ≡ 0
            unreached zero e = e
            unreached (suc n) e =
                absurd (none-some x (sym (all_counted (λ addr. thing_told heap words addr ≡ None) q a.owned.reached reach_none (omega (arith, e))) ∙ is))

    all_listed : (q : ℕ) (block : Block) → heap.blocks q ≡ Some block → 1 ≤ times q (entries_of (world_told heap words))
    all_listed q block at = by_thing (thing_told heap words q) refl
      where
        by_thing : (o : Option Thing) → thing_told heap words q ≡ o → 1 ≤ times q (entries_of (world_told heap words))
        by_thing None is =
            let t = times-all q in
            let kind : is_kind block.kind (heap.blocks q) ≡ true = ap (is_kind block.kind) at ∙ eq-eqb (kind_number block.kind) (kind_number block.kind) refl in
            let none : thing_of_kind block.kind heap words q ≡ None = sym (ap (λ (o : Option Block). thing_by o heap words q) at) ∙ is in
            let yes = chained heap words block.kind (heap.blocks q) q kind none in
            let among : is_among a.owned.reached q ≡ true = sym (ap (λ (t : Bool). not t || is_among a.owned.reached q) yes) ∙ is_reached q in
            let some = counted q a.owned.reached among in
            omega (arith, t, some)
        by_thing (Some x) is =
            let t = times-all q in
            let p = thing_place heap words a q x is in
            let below = p.below in
            let one : own (thing_told heap words) q (row (thing_told heap words) 0 words) ≡ 1 =
            subst (λ (n : ℕ). own (thing_told heap words) n (row (thing_told heap words) 0 words) ≡ 1) (sym p.at)
            (own_one (thing_told heap words) p.word 0 words x (omega arith) (omega (arith, below)) (ap (thing_told heap words) (sym p.at) ∙ is)) in
            omega (arith, t, one)

    -- the blocks in use are just those of the world
    pub blocks_stand : BlocksAre heap.blocks (entries_of (world_told heap words))
    blocks_stand = stands_by heap (entries_of (world_told heap words)) entries_stand once all_listed
