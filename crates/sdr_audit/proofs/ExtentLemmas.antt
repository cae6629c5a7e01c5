-- Each extent of a heap that keeps a world has a byte, and lies inside its source.
use Rattle.std.proofs.Common.{◌≡◌, ◌≤◌, ◌+◌, ◌++◌, ℕ, true, false, List, [], ◌∷◌, map, Some, arith, refl, sym, ap, ◌∙◌, subst}
use Rattle.std.specs.Prelude.{IfSome, None, Option}
use Rattle.std.specs.FinMap as finite
use Rattle.std.specs.List.{All}
use Rattle.std.proofs.lemmas.Bool.{le-leb}
use Rattle.std.proofs.lemmas.List.Elements.{All-append, All-cons, All-head, All-map, All-nil, All-tail, All-weaker}
use Rattle.sdr_base.specs.Blocks.{Block}
use Rattle.sdr_base.specs.Catalogue.{catalogue_entries, name_addr, name_block}
use Rattle.sdr_base.specs.Hashes.{HashItem, bucket_entries, item_addr, item_block}
use Rattle.sdr_base.specs.Linked.{linked}
use Rattle.sdr_base.specs.Lists.{addr_of, element_block}
use Rattle.sdr_base.specs.Pools.{Pools}
use Rattle.sdr_base.specs.Section.{section}
use Rattle.sdr_base.specs.Tickets.{ticket_addr, ticket_block}
use Rattle.sdr_base.specs.ZcoObjects.{ExtentRow, capsule_addr, capsule_block, capsule_entries, extent_addr, extent_block, extent_entries}
use Rattle.sdr_base.specs.declared.account.Acct.{Acct}
use Rattle.sdr_base.specs.declared.account.Acct.TheVariants as accts
use Rattle.sdr_base.specs.declared.kind.Kind.TheVariants as kinds
use Rattle.sdr_stands.specs.Rows.{capsule_row, element_row, extent_row, hash_row, name_row}
use Rattle.sdr_stands.specs.Standing.{StandsForWhole, entries_of, other_entries, queue_entries, thing_entries}
use Rattle.sdr_stands.specs.Ties.{ties_of}
use Rattle.audit_counts.specs.Rules.{has_bytes, lies_inside}
use Rattle.sdr_model.specs.Accounts.{tickets_of}
use Rattle.sdr_model.specs.Fields.{FitsExtent, FitsFields, FitsThing, IsWord}
use Rattle.sdr_model.specs.TicketRows.{ticket_row}
use Rattle.sdr_model.specs.Valid.{AreInside, IsValidThing, LiesInside}
use Rattle.sdr_model.specs.Whole.{IsWhole}
use Rattle.sdr_model.specs.World.{World, thing_at}
use Rattle.sdr_model.specs.Zco.{as_source, source_at}
use Rattle.sdr_model.specs.declared.things.Thing.{Thing}
use Rattle.sdr_model.specs.declared.things.Thing.TheVariants as things
use Rattle.sdr_model.specs.declared.zco.Capsule.{Capsule}
use Rattle.sdr_model.specs.declared.zco.Extent.{Extent}
use Rattle.audit_owners.proofs.LayoutLemmas.{word_laid}
use Rattle.audit_owners.specs.View.{View, is_kind, view_in, word_of}
use Rattle.sdr_audit.proofs.CountLemmas.{where_so}
use Rattle.sdr_audit.proofs.ObjectLemmas.{source_word}
use Rattle.sdr_audit.proofs.ToldStandLemmas.{inner_entries, own_block, parts}
use Rattle.sdr_audit.proofs.ThingLemmas.{fits_thing}
use Rattle.sdr_audit.proofs.KeptLemmas.{found_at}
use Rattle.sdr_audit.proofs.NamedLemmas.{things_found}
use Rattle.sdr_audit.proofs.SoundStandLemmas.{All-every, All-linked, All-whole}
use Rattle.sdr_audit.proofs.WorldLemmas.{source_is}

module _ (w : World) where
  -- an extent of a world fits its words, has a byte, and lies inside its source
  pub record IsGood (e : Extent) : Type 0 where
    pub fits : FitsExtent e
    pub some : 1 ≤ e.length
    pub inside : LiesInside e (source_at w e.source)

  -- the block is that of such an extent
  pub record IsExtent (block : Block) : Type 0 where
    pub extent : Extent
    pub before : ℕ
    pub next : ℕ
    pub is : block ≡ extent_block before next (extent_row extent)
    pub good : IsGood extent

  -- it is, if it is an extent's
  abbrev pub IsFine : ℕ × Block → Type 0
  IsFine e = is_kind kinds.Extent (Some e.1) ≡ true → IsExtent e.1

  -- a block of another kind is none
  other : (addr : ℕ) (block : Block) → is_kind kinds.Extent (Some block) ≡ false → IsFine (addr, block)
  other addr block off on = let d : false ≡ true = sym off ∙ on in cc

  -- nor is one of a chain of others
  others : {X : Type 0} (addr : X → ℕ) (block : ℕ → ℕ → X → Block) →
      ((before next : ℕ) (x : X) → is_kind kinds.Extent (Some (block before next x)) ≡ false) →
      (xs : List X) → All IsFine (linked addr block 0 0 xs)
  others {X} addr block off xs =
      All-linked IsFine addr block (λ x. Unit {0}) (λ before next x u. other (addr x) (block before next x) (off before next x)) 0 0 xs
      (All-every (λ (x : X). Unit {0}) (λ x. tt) xs)

  own_other : (addr : ℕ) (thing : Thing) → is_kind kinds.Extent (Some (own_block (ties_of w) addr thing)) ≡ false
  own_other addr (things.Raw bytes) = refl
  own_other addr (things.Text text) = refl
  own_other addr (things.List list) = refl
  own_other addr (things.Table table) = refl
  own_other addr (things.Hash hash) = refl
  own_other addr (things.Source source) = refl
  own_other addr (things.Object z) = refl

  -- a row of such an extent
  record IsGoodRow (row : ExtentRow) : Type 0 where
    extent : Extent
    is : row ≡ extent_row extent
    good : IsGood extent

  extents_fine : (es : List Extent) → All IsGood es → All IsFine (extent_entries (map extent_row es))
  extents_fine es good =
      All-linked IsFine extent_addr extent_block IsGoodRow
      (λ before next row g on.
      record { extent = g.extent; before = before; next = next; is = ap (extent_block before next) g.is; good = g.good }) 0 0
      (map extent_row es)
      (All-map IsGoodRow extent_row es
      (All-weaker IsGood (λ e. IsGoodRow (extent_row e)) (λ e g. record { extent = e; is = refl; good = g }) es good))

  all_good : (es : List Extent) → All FitsExtent es → All (λ (e : Extent). 1 ≤ e.length) es →
      All (λ (e : Extent). LiesInside e (source_at w e.source)) es →
      All IsGood es
  all_good [] fits some inside = All-nil IsGood
  all_good (e ∷ es) fits some inside =
      All-cons IsGood e es
      (record {
        fits = All-head FitsExtent e es fits;
        some = All-head (λ (e : Extent). 1 ≤ e.length) e es some;
        inside = All-head (λ (e : Extent). LiesInside e (source_at w e.source)) e es inside;
      })
      (all_good es (All-tail FitsExtent e es fits) (All-tail (λ (e : Extent). 1 ≤ e.length) e es some)
      (All-tail (λ (e : Extent). LiesInside e (source_at w e.source)) e es inside))

  capsules_fine : (cs : List Capsule) → All IsFine (capsule_entries (map capsule_row cs))
  capsules_fine cs = others capsule_addr capsule_block (λ before next row. refl) (map capsule_row cs)

  -- all blocks of a whole world are fine
  module _ (whole : IsWhole w) (fields : FitsFields w) where
    inner_fine : (addr : ℕ) (thing : Thing) → IsValidThing thing → FitsThing thing → AreInside w thing →
        All IsFine (inner_entries addr thing)
    inner_fine addr (things.Raw bytes) valid fits inside = All-nil IsFine
    inner_fine addr (things.Text text) valid fits inside = All-nil IsFine
    inner_fine addr (things.List list) valid fits inside =
        others addr_of (element_block addr) (λ before next row. refl) (map element_row list.elements)
    inner_fine addr (things.Table table) valid fits inside = All-nil IsFine
    inner_fine addr (things.Hash hash) valid fits inside =
        All-whole IsFine bucket_entries (hash_row hash).buckets
        (All-every (λ (items : List HashItem). All IsFine (bucket_entries items))
        (λ items. others item_addr item_block (λ before next row. refl) items) (hash_row hash).buckets)
    inner_fine addr (things.Source source) valid fits inside = All-nil IsFine
    inner_fine addr (things.Object z) valid fits inside =
        let headers = capsule_entries (map capsule_row z.headers) in
        let extents = extent_entries (map extent_row z.extents) in
        All-append IsFine (headers ++ extents) (capsule_entries (map capsule_row z.trailers))
        (All-append IsFine headers extents (capsules_fine z.headers)
        (extents_fine z.extents (all_good z.extents fits.extents valid.extents inside)))
        (capsules_fine z.trailers)

    thing_fine : (addr : ℕ) (thing : Thing) → thing_at w addr ≡ Some thing → All IsFine (thing_entries (ties_of w) addr thing)
    thing_fine addr thing is =
        subst (All IsFine) (sym (parts (ties_of w) addr thing))
        (All-cons IsFine (addr, own_block (ties_of w) addr thing) (inner_entries addr thing)
        (other addr (own_block (ties_of w) addr thing) (own_other addr thing))
        (inner_fine addr thing (subst (λ (o : Option Thing). IfSome o IsValidThing) is (whole.valid.things addr))
        (subst (λ (o : Option Thing). IfSome o (λ thing. IsWord addr × FitsThing thing)) is (fields.things addr)).1
        (subst (λ (o : Option Thing). IfSome o (AreInside w)) is (whole.fits.inside addr))))

    queue_fine : (account : Acct) → All IsFine (queue_entries w.accounts account)
    queue_fine account =
        others ticket_addr (ticket_block account) (λ before next row. refl) (map ticket_row (tickets_of w.accounts account))

    pub all_fine : All IsFine (entries_of w)
    all_fine =
        let names = catalogue_entries (map name_row w.names) in
        let inbound = queue_entries w.accounts accts.Inbound in
        let outbound = queue_entries w.accounts accts.Outbound in
        All-append IsFine (section (thing_entries (ties_of w)) w.things) (other_entries w)
        (All-whole IsFine (λ (e : ℕ × Thing). thing_entries (ties_of w) e.0 e.1) (finite.entries w.things)
        (All-weaker (λ (e : ℕ × Thing). thing_at w e.0 ≡ Some e.1) (λ (e : ℕ × Thing). All IsFine (thing_entries (ties_of w) e.0 e.1))
        (λ e there. thing_fine e.0 e.1 there) (finite.entries w.things) (things_found w)))
        (All-append IsFine names (inbound ++ outbound) (others name_addr name_block (λ before next row. refl) (map name_row w.names))
        (All-append IsFine inbound outbound (queue_fine accts.Inbound) (queue_fine accts.Outbound)))

module _ (bytes : List ℕ) (w : World) (P : Pools) (s : StandsForWhole bytes w P) where
  abbrev heap : View
  heap = view_in bytes

  -- the extent at an address, if its block is one's
  extent_there : (addr : ℕ) → is_kind kinds.Extent (heap.blocks addr) ≡ true →
      (block : Block) × (heap.blocks addr ≡ Some block) × IsExtent w block
  extent_there addr on = by (heap.blocks addr) refl on
    where
      by : (o : Option Block) → heap.blocks addr ≡ o → is_kind kinds.Extent o ≡ true →
          (block : Block) × (heap.blocks addr ≡ Some block) × IsExtent w block
      by None is on = let d : false ≡ true = on in cc
      by (Some block) is on =
          (block, is, found_at (IsFine w) (entries_of w) (all_fine w s.whole s.fits) addr block (sym (s.stands.blocks.same addr) ∙ is) on)

  -- what its words tell
  record Tells (addr : ℕ) : Type 0 where
    extent : Extent
    good : IsGood w extent
    source : word_of (heap.blocks addr) 0 ≡ extent.source
    offset : word_of (heap.blocks addr) 1 ≡ extent.offset
    count : word_of (heap.blocks addr) 2 ≡ extent.length

  tells : (addr : ℕ) → is_kind kinds.Extent (heap.blocks addr) ≡ true → Tells addr
  tells addr on =
      let t = extent_there addr on in
      let x = t.2 in
      let e = x.extent in
      let own = t.1 ∙ ap (λ (b : Block). Some b) x.is in
      record {
        extent = e;
        good = x.good;
        source =
            ap (λ (b : Option Block). word_of b 0) own
            ∙ word_laid kinds.Extent (e.source ∷ e.offset ∷ e.length ∷ x.next ∷ []) [] 0 (omega arith) x.good.fits.source;
        offset =
            ap (λ (b : Option Block). word_of b 1) own
            ∙ word_laid kinds.Extent (e.source ∷ e.offset ∷ e.length ∷ x.next ∷ []) [] 1 (omega arith) x.good.fits.offset;
        count =
            ap (λ (b : Option Block). word_of b 2) own
            ∙ word_laid kinds.Extent (e.source ∷ e.offset ∷ e.length ∷ x.next ∷ []) [] 2 (omega arith) x.good.fits.length;
      }

  pub bytes_had : (addr : ℕ) → has_bytes heap addr ≡ true
  bytes_had addr =
      where_so (is_kind kinds.Extent (heap.blocks addr)) _ (λ on.
      let t = tells addr on in
      let count = t.count in
      let some = t.good.some in
      le-leb 1 (word_of (heap.blocks addr) 2) (omega (arith, count, some)))

  pub all_inside : (addr : ℕ) → lies_inside heap addr ≡ true
  all_inside addr =
      where_so (is_kind kinds.Extent (heap.blocks addr)) _ (λ on.
      let t = tells addr on in
      let e = t.extent in
      let there = source_is e (thing_at w e.source) t.good.inside in
      let within : e.offset + e.length ≤ there.0.length = subst (λ (o : Option Thing). LiesInside e (as_source o)) there.1 t.good.inside in
      let fits = (fits_thing bytes w P s e.source (things.Source there.0) there.1).1 in
      let whole =
      ap (λ (n : ℕ). word_of (heap.blocks n) 5) t.source
      ∙ source_word bytes w P s e.source there.0 there.1 fits 5 (omega arith) fits.length in
      let offset = t.offset in
      let count = t.count in
      le-leb (word_of (heap.blocks addr) 1 + word_of (heap.blocks addr) 2) (word_of (heap.blocks (word_of (heap.blocks addr) 0)) 5)
      (omega (arith, within, whole, offset, count)))
