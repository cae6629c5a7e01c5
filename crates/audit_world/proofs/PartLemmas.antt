-- The blocks of each thing that a heap tells stand in it, and at which addresses.
use Rattle.std.proofs.Common.{◌≡◌, ◌+◌, ◌-◌, ◌*◌, ◌/◌, ◌==◌, ℕ, zero, suc, List, [], ◌∷◌, ◌++◌, cond, true, length, drop, map, arith, ap, ◌∙◌, refl, sym, subst}
use Rattle.std.specs.Prelude.{count_by, IfSome, Option, None, Some}
use Rattle.std.specs.List.{All, flat_map, range_with_len}
use Rattle.std.specs.Option.{option_map_or}
use Rattle.std.proofs.lemmas.List.{append-nil}
use Rattle.std.proofs.lemmas.List.Elements.{All-cons, All-head, All-nil, All-tail}
use Rattle.std.proofs.lemmas.Option.{none-some}
use Rattle.std.proofs.lemmas.Simd.{map-map}
use Rattle.sdr_stands.specs.Rows.{capsule_row, element_row, extent_row, hash_row, name_row, object_row, source_row}
use Rattle.sdr_stands.specs.Standing.{queue_entries, thing_entries}
use Rattle.sdr_stands.specs.Ties.{ties_of}
use Rattle.sdr_base.proofs.PoolsLemmas.{count_by-append}
use Rattle.sdr_base.proofs.StandingLemmas.{times-append}
use Rattle.sdr_base.specs.Blocks.{Block, kind_length}
use Rattle.sdr_base.specs.Catalogue.{catalogue_entries, name_addr, name_block}
use Rattle.sdr_base.specs.Entries.{Entries, times}
use Rattle.sdr_base.specs.Hashes.{HashItem, bucket_entries, hash_block, item_addr, item_block}
use Rattle.sdr_base.specs.Linked.{first_of, last_of, linked}
use Rattle.sdr_base.specs.Lists.{ListElement, addr_of, element_block, list_block}
use Rattle.sdr_base.specs.Raws.{raw_block}
use Rattle.sdr_base.specs.Sources.{source_block}
use Rattle.sdr_base.specs.Strings.{string_block}
use Rattle.sdr_base.specs.Tickets.{ticket_addr, ticket_block, ticket_entries}
use Rattle.sdr_base.specs.ZcoObjects.{CapsuleRow, ExtentRow, capsule_addr, capsule_block, capsule_entries, extent_addr, extent_block, extent_entries, object_block}
use Rattle.sdr_base.specs.declared.account.Acct.{Acct}
use Rattle.sdr_base.specs.declared.account.Acct.TheVariants as accts
use Rattle.sdr_base.specs.declared.kind.Kind.{Kind}
use Rattle.sdr_base.specs.declared.kind.Kind.TheVariants as kinds
use Rattle.audit_counts.specs.Counted.{IsCounted}
use Rattle.audit_owners.specs.Members.{members}
use Rattle.audit_counts.specs.Queues.{ticket_in}
use Rattle.law_steps.proofs.DistinctLemmas.{count_by-cons}
use Rattle.sdr_model.specs.Accounts.{tickets_of}
use Rattle.sdr_model.specs.TicketRows.{ticket_row}
use Rattle.sdr_model.specs.declared.things.Thing.{Thing}
use Rattle.audit_owners.proofs.LinkingLemmas.{goes_linked}
use Rattle.audit_owners.proofs.ReadingLemmas.{names_back, tickets_back}
use Rattle.audit_owners.specs.Chains as chains
use Rattle.audit_owners.specs.Linking.{AreRows, AllStandAt, StandsAt}
use Rattle.audit_owners.specs.Owners.{owned_at, owned_by, root_owners}
use Rattle.audit_owners.specs.Reading.{bytes_of, item_read, name_read, ticket_read}
use Rattle.audit_owners.specs.View.{View, is_kind, word_of}
use Rattle.audit_owners.specs.declared.owner.Owner.TheVariants as owners
use Rattle.audit_world.proofs.ChainLemmas.{IsTold, all_left}
use Rattle.audit_world.proofs.HashLemmas.{buckets_same, hash_stands, own_hash, whole_hash}
use Rattle.audit_world.proofs.LinkLemmas.{all_told, list_stands, object_stands}
use Rattle.audit_world.proofs.OwnLemmas.{IsAudited, nonzero, own_of, raw_own, readable, table_own, text_own}
use Rattle.audit_world.proofs.SourceLemmas.{source_own}
use Rattle.audit_world.proofs.TiesLemmas.{named_same, stored_same, thing_cases}
use Rattle.audit_world.proofs.Fitting.{AreFitting}
use Rattle.audit_world.specs.Told.{capsule_told, element_told, extent_told, hash_told, name_told, object_told, source_told, thing_of_kind, thing_told, world_told}

-- the addresses of what is made of addresses are these
addrs_back : {A B : Type 0} (told : ℕ → A) (row : A → B) (addr : B → ℕ) → ((n : ℕ) → addr (row (told n)) ≡ n) → (ns : List ℕ) → map addr (map row (map told ns)) ≡ ns
addrs_back told row addr same [] = refl
addrs_back told row addr same (n ∷ ns) = λ i. same n i ∷ addrs_back told row addr same ns i

-- a chain stands at the addresses of its rows
times-linked : {X : Type 0} (addr : X → ℕ) (block : ℕ → ℕ → X → Block) (q prev next : ℕ) (xs : List X) →
    times q (linked addr block prev next xs) ≡ count_by (λ other. other == q) (map addr xs)
unfolding linked times
times-linked addr block q prev next [] = refl
times-linked addr block q prev next (x ∷ xs) =
    ap (λ (n : ℕ). cond (addr x == q) 1 0 + n) (times-linked addr block q (addr x) next xs)
    ∙ sym (count_by-cons (λ other. other == q) (addr x) (map addr xs))

-- one block stands at its address
times-one : (q addr : ℕ) (block : Block) → times q ((addr, block) ∷ []) ≡ cond (addr == q) 1 0 + 0
unfolding times
times-one q addr block = refl

times-cons : (q addr : ℕ) (block : Block) (es : Entries) → times q ((addr, block) ∷ es) ≡ cond (addr == q) 1 0 + times q es
unfolding times
times-cons q addr block es = refl

-- the addresses in the chains of the block at an address
abbrev pub inner : View → ℕ → ℕ → List ℕ
inner heap words addr = flat_map (members heap words) (owned_at heap addr)

module _ (heap : View) (words : ℕ) (a : IsAudited heap words) where
  -- the chains of a block of a kind
  owned_is : (kind : Kind) (addr : ℕ) (is : is_kind kind (heap.blocks addr) ≡ true) →
      inner heap words addr ≡ flat_map (members heap words) (owned_by addr kind (length (own_of heap words a kind addr is).own.bytes))
  owned_is kind addr is =
      let b = own_of heap words a kind addr is in
      ap (λ (o : Option Block). flat_map (members heap words) (option_map_or (λ (told : Kind × ℕ). owned_by addr told.0 told.1) (kind_length o) [])) b.is
      ∙ ap (λ (k : Kind). flat_map (members heap words) (owned_by addr k (length b.own.bytes))) b.kind_is

  -- a block stands alone
  one_stands : (addr : ℕ) (block : Block) → heap.blocks addr ≡ Some block → AllStandAt heap ((addr, block) ∷ [])
  one_stands addr block is =
      All-cons (StandsAt heap) (addr, block) [] (record { some = nonzero heap words a addr block is; is = is }) (All-nil (StandsAt heap))

  -- the chains that begin in control words
  roots_told : All (IsTold heap words) root_owners
  roots_told =
      all_left (IsTold heap words) root_owners (flat_map (λ (word : ℕ). owned_at heap (8 * word)) (range_with_len 0 words)) (all_told heap words a)

  pub names_chain : IsTold heap words owners.Catalogue
  names_chain = All-head (IsTold heap words) owners.Catalogue (owners.Queue accts.Inbound ∷ owners.Queue accts.Outbound ∷ []) roots_told

  queues_told : All (IsTold heap words) (owners.Queue accts.Inbound ∷ owners.Queue accts.Outbound ∷ [])
  queues_told = All-tail (IsTold heap words) owners.Catalogue (owners.Queue accts.Inbound ∷ owners.Queue accts.Outbound ∷ []) roots_told

  pub queue_chain : (account : Acct) → IsTold heap words (owners.Queue account)
  queue_chain accts.Inbound = All-head (IsTold heap words) (owners.Queue accts.Inbound) (owners.Queue accts.Outbound ∷ []) queues_told
  queue_chain accts.Outbound =
      All-head (IsTold heap words) (owners.Queue accts.Outbound) []
      (All-tail (IsTold heap words) (owners.Queue accts.Inbound) (owners.Queue accts.Outbound ∷ []) queues_told)

  -- the catalogue's chain is that of the world's names
  pub names_rows : AreRows heap name_addr name_block 0 (heap.roots 89) (map name_row (world_told heap words).names) names_chain.last
  names_rows =
      subst (λ rows. AreRows heap name_addr name_block 0 (heap.roots 89) rows names_chain.last)
      (sym (map-map name_row (name_told heap) (members heap words owners.Catalogue)))
      (goes_linked heap owners.Catalogue name_addr name_block (name_read heap) (names_back heap (readable heap words a)) 0 (heap.roots 89)
      (members heap words owners.Catalogue) names_chain.last names_chain.goes)

  -- so is that of a queue that of the account's tickets
  queue_rows : (account : Acct) →
      AreRows heap ticket_addr (ticket_block account) 0 (chains.first_link heap (owners.Queue account))
      (map ticket_row (map (ticket_in heap) (members heap words (owners.Queue account)))) (queue_chain account).last
  queue_rows account =
      subst (λ rows. AreRows heap ticket_addr (ticket_block account) 0 (chains.first_link heap (owners.Queue account)) rows (queue_chain account).last)
      (sym (map-map ticket_row (ticket_in heap) (members heap words (owners.Queue account))))
      (goes_linked heap (owners.Queue account) ticket_addr (ticket_block account) (ticket_read heap) (tickets_back heap (readable heap words a) account) 0
      (chains.first_link heap (owners.Queue account)) (members heap words (owners.Queue account)) (queue_chain account).last (queue_chain account).goes)

  pub tickets_rows : (account : Acct) →
      AreRows heap ticket_addr (ticket_block account) 0 (chains.first_link heap (owners.Queue account))
      (map ticket_row (tickets_of (world_told heap words).accounts account)) (queue_chain account).last
  tickets_rows accts.Inbound = queue_rows accts.Inbound
  tickets_rows accts.Outbound = queue_rows accts.Outbound

  pub names_stand : AllStandAt heap (catalogue_entries (map name_row (world_told heap words).names))
  names_stand = names_rows.stand

  pub queues_stand : (account : Acct) → AllStandAt heap (queue_entries (world_told heap words).accounts account)
  queues_stand account = (tickets_rows account).stand

  pub times-names : (q : ℕ) → times q (catalogue_entries (map name_row (world_told heap words).names)) ≡ count_by (λ other. other == q) (members heap words owners.Catalogue)
  times-names q =
      times-linked name_addr name_block q 0 0 (map name_row (map (name_told heap) (members heap words owners.Catalogue)))
      ∙ ap (λ (l : List ℕ). count_by (λ other. other == q) l) (addrs_back (name_told heap) name_row name_addr (λ n. refl) (members heap words owners.Catalogue))

  times-queue : (q : ℕ) (account : Acct) →
      times q (ticket_entries account (map ticket_row (map (ticket_in heap) (members heap words (owners.Queue account)))))
      ≡ count_by (λ other. other == q) (members heap words (owners.Queue account))
  times-queue q account =
      times-linked ticket_addr (ticket_block account) q 0 0 (map ticket_row (map (ticket_in heap) (members heap words (owners.Queue account))))
      ∙ ap (λ (l : List ℕ). count_by (λ other. other == q) l) (addrs_back (ticket_in heap) ticket_row ticket_addr (λ n. refl) (members heap words (owners.Queue account)))

  pub times-queues : (q : ℕ) (account : Acct) →
      times q (queue_entries (world_told heap words).accounts account) ≡ count_by (λ other. other == q) (members heap words (owners.Queue account))
  times-queues q accts.Inbound = times-queue q accts.Inbound
  times-queues q accts.Outbound = times-queue q accts.Outbound

  module _ (f : AreFitting heap words) (counted : IsCounted heap words) where
    -- the blocks of each thing stand
    pub thing_stands : (addr : ℕ) → IfSome (thing_told heap words addr) (λ thing. AllStandAt heap (thing_entries (ties_of (world_told heap words)) addr thing))
    thing_stands addr =
        thing_cases heap words (λ (o : Option Thing). IfSome o (λ thing. AllStandAt heap (thing_entries (ties_of (world_told heap words)) addr thing))) addr
        (λ at. tt) by_kind
      where
        by_kind : (kind : Kind) → is_kind kind (heap.blocks addr) ≡ true →
            IfSome (thing_of_kind kind heap words addr) (λ thing. AllStandAt heap (thing_entries (ties_of (world_told heap words)) addr thing))
        by_kind kinds.Raw is =
            let bytes : List ℕ = drop 8 (bytes_of (heap.blocks addr)) in
            one_stands addr (raw_block ((ties_of (world_told heap words)).named_by addr) bytes)
            (raw_own heap words a addr is ∙ ap (λ (n : ℕ). Some (raw_block n bytes)) (sym (named_same heap words a addr is)))
        by_kind kinds.Text is = one_stands addr (string_block (drop 1 (bytes_of (heap.blocks addr)))) (text_own heap words a addr is)
        by_kind kinds.List is = list_stands heap words a addr is (f.lists addr is)
        by_kind kinds.Element is = tt
        by_kind kinds.Table is = one_stands addr _ (table_own heap words a addr is)
        by_kind kinds.Hash is = hash_stands heap words a addr is (f.hashes addr is)
        by_kind kinds.HashEntry is = tt
        by_kind kinds.Name is = tt
        by_kind kinds.Source is =
            one_stands addr _
            (source_own heap words a addr is
            ∙ (λ i. Some (source_block (sym (stored_same heap words a counted.counts accts.Inbound addr is) i) (sym (stored_same heap words a counted.counts accts.Outbound addr is) i)
            (source_row (source_told (heap.blocks addr))))))
        by_kind kinds.Object is = object_stands heap words a addr is
        by_kind kinds.Extent is = tt
        by_kind kinds.Capsule is = tt
        by_kind kinds.Ticket is = tt

    -- a block of a kind that owns no chain stands alone
    leaf : (q addr : ℕ) (kind : Kind) (block : Block) (is : is_kind kind (heap.blocks addr) ≡ true) → ((n : ℕ) → owned_by addr kind n ≡ []) →
        times q ((addr, block) ∷ []) ≡ cond (addr == q) 1 0 + count_by (λ other. other == q) (inner heap words addr)
    leaf q addr kind block is none =
        times-one q addr block
        ∙ ap (λ (l : List ℕ). cond (addr == q) 1 0 + count_by (λ other. other == q) l)
        (sym (owned_is kind addr is ∙ ap (flat_map (members heap words)) (none (length (own_of heap words a kind addr is).own.bytes))))

    buckets_stand_at : (q addr from n : ℕ) →
        times q (flat_map bucket_entries (map (λ (k : ℕ). map (item_read heap) (members heap words (owners.Bucket addr (3 + k)))) (range_with_len from n)))
        ≡ count_by (λ other. other == q) (flat_map (members heap words) (map (λ (k : ℕ). owners.Bucket addr (3 + k)) (range_with_len from n)))
    unfolding times
    buckets_stand_at q addr from zero = refl
    buckets_stand_at q addr from (suc n) =
        let ms : List ℕ = members heap words (owners.Bucket addr (3 + from)) in
        let later : List (List HashItem) = map (λ (k : ℕ). map (item_read heap) (members heap words (owners.Bucket addr (3 + k)))) (range_with_len (from + 1) n) in
        let rest = buckets_stand_at q addr (from + 1) n in
        times-append q (bucket_entries (map (item_read heap) ms)) (flat_map bucket_entries later)
        ∙ (λ i. (times-linked item_addr item_block q 0 0 (map (item_read heap) ms) ∙ ap (λ (l : List ℕ). count_by (λ other. other == q) l) (map-map item_addr (item_read heap) ms ∙ map_same ms)) i + rest i)
        ∙ sym (count_by-append (λ other. other == q) ms (flat_map (members heap words) (map (λ (k : ℕ). owners.Bucket addr (3 + k)) (range_with_len (from + 1) n))))
      where
        map_same : (ns : List ℕ) → map (λ (n : ℕ). n) ns ≡ ns
        map_same [] = refl
        map_same (n ∷ ns) = ap (λ (l : List ℕ). n ∷ l) (map_same ns)

    -- the blocks of a thing are its own and those in its chains
    pub times-thing : (q addr : ℕ) →
        IfSome (thing_told heap words addr)
        (λ thing. times q (thing_entries (ties_of (world_told heap words)) addr thing) ≡ cond (addr == q) 1 0 + count_by (λ other. other == q) (inner heap words addr))
    times-thing q addr =
        thing_cases heap words
        (λ (o : Option Thing).
        IfSome o
        (λ thing. times q (thing_entries (ties_of (world_told heap words)) addr thing) ≡ cond (addr == q) 1 0 + count_by (λ other. other == q) (inner heap words addr)))
        addr (λ at. tt) by_kind
      where
        by_kind : (kind : Kind) → is_kind kind (heap.blocks addr) ≡ true →
            IfSome (thing_of_kind kind heap words addr)
            (λ thing. times q (thing_entries (ties_of (world_told heap words)) addr thing) ≡ cond (addr == q) 1 0 + count_by (λ other. other == q) (inner heap words addr))
        by_kind kinds.Raw is = leaf q addr kinds.Raw _ is (λ n. refl)
        by_kind kinds.Text is = leaf q addr kinds.Text _ is (λ n. refl)
        by_kind kinds.List is =
            let ms : List ℕ = members heap words (owners.List addr) in
            let rows : List ListElement = map element_row (map (element_told heap) ms) in
            times-cons q addr (list_block (word_of (heap.blocks addr) 0) (length rows) (first_of addr_of 0 rows) (last_of addr_of 0 rows)) (linked addr_of (element_block addr) 0 0 rows)
            ∙ ap (λ (n : ℕ). cond (addr == q) 1 0 + n)
            (times-linked addr_of (element_block addr) q 0 0 rows
            ∙ ap (λ (l : List ℕ). count_by (λ other. other == q) l) (addrs_back (element_told heap) element_row addr_of (λ n. refl) ms ∙ sym (append-nil ms) ∙ sym (owned_is kinds.List addr is)))
        by_kind kinds.Element is = tt
        by_kind kinds.Table is = leaf q addr kinds.Table _ is (λ n. refl)
        by_kind kinds.Hash is =
            let n : ℕ = word_of (heap.blocks addr) 1 in
            let whole = whole_hash heap words a addr is in
            let many : n ≡ length (own_hash heap words a addr is).own.bytes / 8 - 3 = omega (arith, whole) in
            times-cons q addr (hash_block (hash_row (hash_told heap words addr))) (flat_map bucket_entries (hash_row (hash_told heap words addr)).buckets)
            ∙ ap (λ (n : ℕ). cond (addr == q) 1 0 + n)
            (ap (λ (l : List (List HashItem)). times q (flat_map bucket_entries l)) (buckets_same heap words a addr is (f.hashes addr is))
            ∙ buckets_stand_at q addr 0 n
            ∙ ap (λ (k : ℕ). count_by (λ other. other == q) (flat_map (members heap words) (map (λ (k : ℕ). owners.Bucket addr (3 + k)) (range_with_len 0 k)))) many
            ∙ ap (λ (l : List ℕ). count_by (λ other. other == q) l) (sym (owned_is kinds.Hash addr is)))
        by_kind kinds.HashEntry is = tt
        by_kind kinds.Name is = tt
        by_kind kinds.Source is = leaf q addr kinds.Source _ is (λ n. refl)
        by_kind kinds.Object is =
            let hs : List ℕ = members heap words (owners.Headers addr) in
            let es : List ℕ = members heap words (owners.Extents addr) in
            let ts : List ℕ = members heap words (owners.Trailers addr) in
            let headers : List CapsuleRow = map capsule_row (map (capsule_told heap) hs) in
            let extents : List ExtentRow = map extent_row (map (extent_told heap) es) in
            let trailers : List CapsuleRow = map capsule_row (map (capsule_told heap) ts) in
            let all = times-append q (capsule_entries headers ++ extent_entries extents) (capsule_entries trailers) in
            let two = times-append q (capsule_entries headers) (extent_entries extents) in
            let h : times q (capsule_entries headers) ≡ count_by (λ other. other == q) hs =
            times-linked capsule_addr capsule_block q 0 0 headers ∙ ap (λ (l : List ℕ). count_by (λ other. other == q) l) (addrs_back (capsule_told heap) capsule_row capsule_addr (λ n. refl) hs) in
            let e : times q (extent_entries extents) ≡ count_by (λ other. other == q) es =
            times-linked extent_addr extent_block q 0 0 extents ∙ ap (λ (l : List ℕ). count_by (λ other. other == q) l) (addrs_back (extent_told heap) extent_row extent_addr (λ n. refl) es) in
            let t : times q (capsule_entries trailers) ≡ count_by (λ other. other == q) ts =
            times-linked capsule_addr capsule_block q 0 0 trailers ∙ ap (λ (l : List ℕ). count_by (λ other. other == q) l) (addrs_back (capsule_told heap) capsule_row capsule_addr (λ n. refl) ts) in
            let x = count_by-append (λ other. other == q) hs (es ++ (ts ++ [])) in
            let y = count_by-append (λ other. other == q) es (ts ++ []) in
            let z = ap (λ (l : List ℕ). count_by (λ other. other == q) l) (append-nil ts) in
            let i = ap (λ (l : List ℕ). count_by (λ other. other == q) l) (owned_is kinds.Object addr is) in
            let chains : times q (capsule_entries headers ++ extent_entries extents ++ capsule_entries trailers) ≡ count_by (λ other. other == q) (hs ++ (es ++ (ts ++ []))) =
            omega (arith, all, two, h, e, t, x, y, z) in
            times-cons q addr (object_block (object_row (object_told heap words addr))) (capsule_entries headers ++ extent_entries extents ++ capsule_entries trailers)
            ∙ ap (λ (n : ℕ). cond (addr == q) 1 0 + n) (chains ∙ sym i)
        by_kind kinds.Extent is = tt
        by_kind kinds.Capsule is = tt
        by_kind kinds.Ticket is = tt

  -- where no thing stands, no chain begins
  pub none_inside : (addr : ℕ) → thing_told heap words addr ≡ None → inner heap words addr ≡ []
  none_inside addr =
      thing_cases heap words (λ (o : Option Thing). o ≡ None → inner heap words addr ≡ []) addr
      (λ at none. ap (λ (o : Option Block). flat_map (members heap words) (option_map_or (λ (told : Kind × ℕ). owned_by addr told.0 told.1) (kind_length o) [])) at)
      by_kind
    where
      by_kind : (kind : Kind) → is_kind kind (heap.blocks addr) ≡ true → thing_of_kind kind heap words addr ≡ None → inner heap words addr ≡ []
      by_kind kinds.Raw is none = owned_is kinds.Raw addr is
      by_kind kinds.Text is none = owned_is kinds.Text addr is
      by_kind kinds.List is none = absurd (none-some _ (sym none))
      by_kind kinds.Element is none = owned_is kinds.Element addr is
      by_kind kinds.Table is none = owned_is kinds.Table addr is
      by_kind kinds.Hash is none = absurd (none-some _ (sym none))
      by_kind kinds.HashEntry is none = owned_is kinds.HashEntry addr is
      by_kind kinds.Name is none = owned_is kinds.Name addr is
      by_kind kinds.Source is none = owned_is kinds.Source addr is
      by_kind kinds.Object is none = absurd (none-some _ (sym none))
      by_kind kinds.Extent is none = owned_is kinds.Extent addr is
      by_kind kinds.Capsule is none = owned_is kinds.Capsule addr is
      by_kind kinds.Ticket is none = owned_is kinds.Ticket addr is
