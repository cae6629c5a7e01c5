-- The chains of lists and objects are those of what is read of them.
use Rattle.std.proofs.Common.{◌≡◌, ◌≤◌, ◌==◌, ℕ, zero, suc, List, [], ◌∷◌, ◌++◌, true, length, map, take, arith, ap, ◌∙◌, refl, sym, subst, eqb-true}
use Rattle.std.specs.Prelude.{Option, Some}
use Rattle.std.specs.List.{All}
use Rattle.std.specs.Option.{option_map_or}
use Rattle.std.proofs.lemmas.Bool.{and_parts, leb-true}
use Rattle.std.proofs.lemmas.List.{length-map}
use Rattle.std.proofs.lemmas.List.Elements.{All-append, All-cons, All-head, All-tail}
use Rattle.std.proofs.lemmas.Simd.{map-map}
use Rattle.sdr_stands.specs.Rows.{capsule_row, element_row, extent_row, list_row, object_row}
use Rattle.sdr_base.specs.Blocks.{Block, kind_length}
use Rattle.sdr_base.specs.Linked.{first_of, last_of, linked}
use Rattle.sdr_base.specs.Lists.{ListElement, addr_of, element_block, list_block, list_entries}
use Rattle.sdr_base.specs.Words.{layout}
use Rattle.sdr_base.specs.ZcoObjects.{account_number, ObjectRow, capsule_addr, capsule_block, capsule_entries, extent_addr, extent_block, extent_entries, object_block, object_entries}
use Rattle.sdr_base.specs.declared.kind.Kind.{Kind}
use Rattle.sdr_base.specs.declared.kind.Kind.TheVariants as kinds
use Rattle.audit_owners.specs.Members.{members}
use Rattle.audit_owners.proofs.LinkingLemmas.{goes_linked}
use Rattle.audit_owners.proofs.ReadingLemmas.{IsOf, elements_back, extents_back, headers_back, laid, none_behind, trailers_back}
use Rattle.audit_owners.specs.Linking.{AreRows, AllStandAt, StandsAt}
use Rattle.audit_owners.specs.Owners.{owned_by, owners_of}
use Rattle.audit_owners.specs.Reading.{capsule_read, element_read, extent_read}
use Rattle.audit_owners.specs.View.{View, is_kind, word_of}
use Rattle.audit_owners.specs.declared.owner.Owner.TheVariants as owners
use Rattle.audit_world.proofs.ChainLemmas.{IsTold, each_told, owned_told}
use Rattle.audit_world.proofs.LayoutLemmas.{word_told}
use Rattle.audit_world.proofs.OwnLemmas.{IsAudited, layout_of, nonzero, own_of, readable}
use Rattle.audit_world.specs.Told.{account_told, capsule_told, element_told, extent_told, list_told, object_told}
use Rattle.audit_blocks.specs.Content.{field}

module _ (heap : View) (words : ℕ) (a : IsAudited heap words) where
  -- all chains are as they are followed
  pub all_told : All (IsTold heap words) (owners_of heap words)
  all_told = each_told heap words a.placed (owners_of heap words) a.owned.reached a.owned.chains

  -- so are those of a block of a kind
  pub block_told : (kind : Kind) (addr : ℕ) (b : IsOf (heap.blocks addr) kind) → All (IsTold heap words) (owned_by addr kind (length b.own.bytes))
  block_told kind addr b =
      subst (All (IsTold heap words))
      (ap (λ (o : Option Block). option_map_or (λ (told : Kind × ℕ). owned_by addr told.0 told.1) (kind_length o) []) b.is
      ∙ ap (λ (k : Kind). owned_by addr k (length b.own.bytes)) b.kind_is)
      (owned_told heap words addr (a.placed addr b.own b.is) all_told)

  -- the list at an address
  module _ (addr : ℕ) (is : is_kind kinds.List (heap.blocks addr) ≡ true) where
    pub list_chain : IsTold heap words (owners.List addr)
    list_chain = All-head (IsTold heap words) (owners.List addr) [] (block_told kinds.List addr (own_of heap words a kinds.List addr is))

    element_rows : AreRows heap addr_of (element_block addr) 0 (word_of (heap.blocks addr) 2) (map (element_read heap) (members heap words (owners.List addr))) list_chain.last
    element_rows =
        goes_linked heap (owners.List addr) addr_of (element_block addr) (element_read heap) (elements_back heap (readable heap words a) addr) 0
        (word_of (heap.blocks addr) 2) (members heap words (owners.List addr)) list_chain.last list_chain.goes

    -- its blocks are those of what is read of it, where it tells its length
    pub list_stands : word_of (heap.blocks addr) 1 ≡ length (members heap words (owners.List addr)) →
        AllStandAt heap (list_entries addr (list_row (list_told heap words addr)))
    list_stands counted =
        let b = own_of heap words a kinds.List addr is in
        let long = eqb-true (length b.own.bytes) 32 (layout_of heap words a kinds.List addr b) in
        let w = word_of (heap.blocks addr) in
        let rows : List ListElement = map (element_read heap) (members heap words (owners.List addr)) in
        let same : map element_row (map (element_told heap) (members heap words (owners.List addr))) ≡ rows = map-map element_row (element_told heap) (members heap words (owners.List addr)) in
        let count : w 1 ≡ length rows = counted ∙ sym (length-map (members heap words (owners.List addr)) (element_read heap)) in
        let last : w 3 ≡ last_of addr_of 0 rows = eqb-true (w 3) list_chain.last list_chain.ends ∙ element_rows.end in
        let own : heap.blocks addr ≡ Some (list_block (w 0) (length rows) (first_of addr_of 0 rows) (last_of addr_of 0 rows)) =
        laid heap (readable heap words a) kinds.List addr b 4 (omega (arith, long))
        ∙ (λ i. Some (record {
          kind = kinds.List;
          bytes =
              layout (w 0 ∷ count i ∷ element_rows.first i ∷ last i ∷ []) (none_behind heap (readable heap words a) kinds.List addr b 4 long i);
        })) in
        subst (λ (rows : List ListElement). AllStandAt heap (list_entries addr (record { user = w 0; elements = rows }))) (sym same)
        (All-cons (StandsAt heap) (addr, list_block (w 0) (length rows) (first_of addr_of 0 rows) (last_of addr_of 0 rows))
        (linked addr_of (element_block addr) 0 0 rows)
        (record { some = nonzero heap words a addr b.own b.is; is = own }) element_rows.stand)

  -- the object at an address
  module _ (addr : ℕ) (is : is_kind kinds.Object (heap.blocks addr) ≡ true) where
    own_object : IsOf (heap.blocks addr) kinds.Object
    own_object = own_of heap words a kinds.Object addr is

    chains_told : All (IsTold heap words) (owners.Headers addr ∷ owners.Extents addr ∷ owners.Trailers addr ∷ [])
    chains_told = block_told kinds.Object addr own_object

    pub header_chain : IsTold heap words (owners.Headers addr)
    header_chain = All-head (IsTold heap words) (owners.Headers addr) (owners.Extents addr ∷ owners.Trailers addr ∷ []) chains_told

    others_told : All (IsTold heap words) (owners.Extents addr ∷ owners.Trailers addr ∷ [])
    others_told = All-tail (IsTold heap words) (owners.Headers addr) (owners.Extents addr ∷ owners.Trailers addr ∷ []) chains_told

    pub extent_chain : IsTold heap words (owners.Extents addr)
    extent_chain = All-head (IsTold heap words) (owners.Extents addr) (owners.Trailers addr ∷ []) others_told

    pub trailer_chain : IsTold heap words (owners.Trailers addr)
    trailer_chain =
        All-head (IsTold heap words) (owners.Trailers addr) []
        (All-tail (IsTold heap words) (owners.Extents addr) (owners.Trailers addr ∷ []) others_told)

    header_rows : AreRows heap capsule_addr capsule_block 0 (word_of (heap.blocks addr) 3) (map (capsule_read heap) (members heap words (owners.Headers addr))) header_chain.last
    header_rows =
        goes_linked heap (owners.Headers addr) capsule_addr capsule_block (capsule_read heap) (headers_back heap (readable heap words a) addr) 0
        (word_of (heap.blocks addr) 3) (members heap words (owners.Headers addr)) header_chain.last header_chain.goes

    extent_rows : AreRows heap extent_addr extent_block 0 (word_of (heap.blocks addr) 1) (map (extent_read heap) (members heap words (owners.Extents addr))) extent_chain.last
    extent_rows =
        goes_linked heap (owners.Extents addr) extent_addr extent_block (extent_read heap) (extents_back heap (readable heap words a) addr) 0
        (word_of (heap.blocks addr) 1) (members heap words (owners.Extents addr)) extent_chain.last extent_chain.goes

    trailer_rows : AreRows heap capsule_addr capsule_block 0 (word_of (heap.blocks addr) 5) (map (capsule_read heap) (members heap words (owners.Trailers addr))) trailer_chain.last
    trailer_rows =
        goes_linked heap (owners.Trailers addr) capsule_addr capsule_block (capsule_read heap) (trailers_back heap (readable heap words a) addr) 0
        (word_of (heap.blocks addr) 5) (members heap words (owners.Trailers addr)) trailer_chain.last trailer_chain.goes

    account_back : (n : ℕ) → n ≤ 1 → n ≡ account_number (account_told n)
    account_back zero few = refl
    account_back (suc zero) few = refl
    account_back (suc (suc n)) few = absurd (omega (arith, few))

    object_long : length own_object.own.bytes ≡ 72
    object_long = eqb-true (length own_object.own.bytes) 72 (and_parts (length own_object.own.bytes == 72) _ (layout_of heap words a kinds.Object addr own_object)).0

    -- the number of its account is 0 or 1
    pub object_account : word_of (heap.blocks addr) 0 ≤ 1
    object_account =
        let b = own_object in
        let long = object_long in
        let flag = leb-true (field (take 96 b.own.bytes) 0) 1 (and_parts (length b.own.bytes == 72) _ (layout_of heap words a kinds.Object addr b)).1 in
        let told = word_told (heap.blocks addr) b.own 0 b.is (omega (arith, long)) (omega arith) in
        omega (arith, told, flag)

    -- its blocks are those of what is read of it
    pub object_stands : AllStandAt heap (object_entries addr (object_row (object_told heap words addr)))
    object_stands =
        let b = own_object in
        let long = object_long in
        let w = word_of (heap.blocks addr) in
        let last_extent : w 2 ≡ last_of extent_addr 0 (map (extent_read heap) (members heap words (owners.Extents addr))) =
        eqb-true (w 2) extent_chain.last extent_chain.ends ∙ extent_rows.end in
        let last_header : w 4 ≡ last_of capsule_addr 0 (map (capsule_read heap) (members heap words (owners.Headers addr))) =
        eqb-true (w 4) header_chain.last header_chain.ends ∙ header_rows.end in
        let last_trailer : w 6 ≡ last_of capsule_addr 0 (map (capsule_read heap) (members heap words (owners.Trailers addr))) =
        eqb-true (w 6) trailer_chain.last trailer_chain.ends ∙ trailer_rows.end in
        let account = account_back (w 0) object_account in
        let row : ObjectRow = record {
          account = account_told (w 0);
          headers = map (capsule_read heap) (members heap words (owners.Headers addr));
          extents = map (extent_read heap) (members heap words (owners.Extents addr));
          trailers = map (capsule_read heap) (members heap words (owners.Trailers addr));
          part_offset = w 7;
          part_length = w 8;
        } in
        let own : heap.blocks addr ≡ Some (object_block row) =
        laid heap (readable heap words a) kinds.Object addr b 9 (omega (arith, long))
        ∙ (λ i. Some (record {
          kind = kinds.Object;
          bytes =
              layout
              (account i ∷ extent_rows.first i ∷ last_extent i ∷ header_rows.first i ∷ last_header i ∷ trailer_rows.first i ∷ last_trailer i ∷ w 7
              ∷ w 8 ∷ [])
              (none_behind heap (readable heap words a) kinds.Object addr b 9 long i);
        })) in
        subst (AllStandAt heap)
        (λ i. object_entries addr (record {
          account = account_told (w 0);
          headers = sym (map-map capsule_row (capsule_told heap) (members heap words (owners.Headers addr))) i;
          extents = sym (map-map extent_row (extent_told heap) (members heap words (owners.Extents addr))) i;
          trailers = sym (map-map capsule_row (capsule_told heap) (members heap words (owners.Trailers addr))) i;
          part_offset = w 7;
          part_length = w 8;
        }))
        (All-cons (StandsAt heap) (addr, object_block row)
        (capsule_entries row.headers ++ extent_entries row.extents ++ capsule_entries row.trailers)
        (record { some = nonzero heap words a addr b.own b.is; is = own })
        (All-append (StandsAt heap) (capsule_entries row.headers ++ extent_entries row.extents) (capsule_entries row.trailers)
        (All-append (StandsAt heap) (capsule_entries row.headers) (extent_entries row.extents) header_rows.stand extent_rows.stand)
        trailer_rows.stand))
