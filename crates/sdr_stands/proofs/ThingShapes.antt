-- The blocks of a thing have the kinds and lengths of those that the world tells.
use Rattle.std.proofs.Common.{◌≡◌, ℕ, suc, ◌+◌, ◌-◌, ◌*◌, ◌<◌, ◌≤◌, List, [], ◌∷◌, ◌++◌, map, length, refl, sym, ap, ◌∙◌, arith}
use Rattle.std.specs.Prelude.{replicate}
use Rattle.std.proofs.lemmas.List.{length-append, length-map, length-replicate, map-append}
use Rattle.std.proofs.lemmas.List.FromFn.{length-range_with_len}
use Rattle.std.specs.List.{AllByRecursion, flat_map, range_with_len, sum_by}
use Rattle.std.specs.List.Sorted.{IsNonDecreasingBy}
use Rattle.sdr_base.specs.Blocks as base
use Rattle.sdr_base.specs.Blocks.{kind_length}
use Rattle.sdr_base.specs.Catalogue.{NameRow, name_addr, name_bytes}
use Rattle.sdr_base.specs.Catalogue as catalogue
use Rattle.sdr_base.specs.Hashes.{bucket_entries, item_addr, item_block}
use Rattle.sdr_base.specs.Linked.{first_of, linked}
use Rattle.sdr_base.specs.Lists.{addr_of}
use Rattle.sdr_base.specs.Lists as lists
use Rattle.sdr_base.specs.Tickets.{ticket_addr, ticket_words}
use Rattle.sdr_base.specs.Tickets as tickets
use Rattle.sdr_base.specs.Words.{layout}
use Rattle.sdr_base.specs.ZcoObjects.{capsule_addr, extent_addr}
use Rattle.sdr_base.specs.ZcoObjects as objects
use Rattle.sdr_base.specs.declared.account.Acct.{Acct}
use Rattle.sdr_base.specs.declared.kind.Kind.{Kind}
use Rattle.sdr_base.specs.declared.kind.Kind.TheVariants as kinds
use Rattle.sdr_base.proofs.LayoutLemmas.{length-layout}
use Rattle.sdr_model.specs.Accounts.{block_for_ticket}
use Rattle.sdr_model.specs.Blocks.{thing_blocks}
use Rattle.sdr_model.specs.HashSteps.{bucket_of}
use Rattle.sdr_model.specs.Hashes.{Hash}
use Rattle.sdr_model.specs.Things.{block_for_capsule, block_for_element, entry_block, block_for_extent, block_for_name, own_block, object_blocks, path_length}
use Rattle.sdr_model.specs.TicketRows.{ticket_row}
use Rattle.sdr_model.specs.Valid.{IsValidHash, IsValidThing}
use Rattle.sdr_model.specs.declared.accounts.Ticket.{Ticket}
use Rattle.sdr_model.specs.declared.name.Name.{Name}
use Rattle.sdr_model.specs.declared.things.UsedBlock.{UsedBlock}
use Rattle.sdr_model.specs.declared.things.Element.{Element}
use Rattle.sdr_model.specs.declared.things.HashEntry.{HashEntry}
use Rattle.sdr_model.specs.declared.things.Thing.{Thing}
use Rattle.sdr_model.specs.declared.things.Thing.TheVariants as things
use Rattle.sdr_model.specs.declared.zco.Capsule.{Capsule}
use Rattle.sdr_model.specs.declared.zco.Extent.{Extent}
use Rattle.sdr_model.specs.declared.zco.Subject.{Subject}
use Rattle.sdr_model.specs.declared.zco.Subject.TheVariants as subjects
use Rattle.sdr_model.specs.declared.zco.ZcoObject.{ZcoObject}
use Rattle.sdr_stands.specs.Rows.{bucket_row, capsule_row, element_row, extent_row, item_row, name_row, path_of}
use Rattle.sdr_stands.specs.Shape.{shape}
use Rattle.sdr_stands.specs.Standing.{thing_entries}
use Rattle.sdr_stands.specs.Ties.{Ties}
use Rattle.sdr_stands.proofs.GroupLemmas.{Rise, each_of, group, regrouped}

-- a block of this kind whose bytes are so many
of_length : (addr : ℕ) (kind : Kind) (bytes : List ℕ) {n : ℕ} → length bytes ≡ n →
    shape (addr, record { kind = kind; bytes = bytes }) ≡ record { addr = addr; kind = kind; bytes = n }
of_length addr kind bytes is = ap (λ (n : ℕ). record { addr = addr; kind = kind; bytes = n }) is

-- the shapes of a chain, by those of its blocks
module _ {X Y : Type 0} (addr : X → ℕ) (block : ℕ → ℕ → X → base.Block) (row : Y → X) (s : Y → UsedBlock) where
  linked_shapes : (prev next : ℕ) (ys : List Y) →
      AllByRecursion (λ y. (p n : ℕ) → shape (addr (row y), block p n (row y)) ≡ s y) ys →
      map shape (linked addr block prev next (map row ys)) ≡ map s ys
  unfolding linked
  linked_shapes prev next [] all = refl
  linked_shapes prev next (y ∷ ys) all =
      ap (λ (b : UsedBlock). b ∷ map shape (linked addr block (addr (row y)) next (map row ys)))
      (all.0 prev (first_of addr next (map row ys)))
      ∙ ap (λ (bs : List UsedBlock). s y ∷ bs) (linked_shapes (addr (row y)) next ys all.1)

-- what holds of all holds of each
each : {X : Type 0} (P : X → Type 0) → ((x : X) → P x) → (xs : List X) → AllByRecursion P xs
each P f [] = tt
each P f (x ∷ xs) = (f x, each P f xs)

-- the lengths of layouts
words_only : (ws : List ℕ) (n : ℕ) → 8 * length ws ≡ n → length (layout ws []) ≡ n
words_only ws n is = let l = length-layout ws [] in omega (arith, l, is)

words_and : (ws rest : List ℕ) (n : ℕ) → 8 * length ws ≡ n → length (layout ws rest) ≡ n + length rest
words_and ws rest n is = let l = length-layout ws rest in omega (arith, l, is)

element_shapes : (list : ℕ) (es : List Element) →
    map shape (linked addr_of (lists.element_block list) 0 0 (map element_row es)) ≡ map block_for_element es
element_shapes list es =
    linked_shapes addr_of (lists.element_block list) element_row block_for_element 0 0 es
    (each _ (λ e p n. of_length e.block kinds.Element _ (words_only _ 32 refl)) es)

capsule_shapes : (cs : List Capsule) → map shape (objects.capsule_entries (map capsule_row cs))
    ≡ map block_for_capsule cs
capsule_shapes cs =
    linked_shapes capsule_addr objects.capsule_block capsule_row block_for_capsule 0 0 cs
    (each _ (λ c p n. of_length c.block kinds.Capsule _ (words_and (n ∷ []) c.text 8 refl)) cs)

extent_shapes : (es : List Extent) → map shape (objects.extent_entries (map extent_row es)) ≡ map block_for_extent es
extent_shapes es =
    linked_shapes extent_addr objects.extent_block extent_row block_for_extent 0 0 es
    (each _ (λ e p n. of_length e.block kinds.Extent _ (words_only _ 32 refl)) es)

item_shapes : (es : List HashEntry) → map shape (bucket_entries (map item_row es)) ≡ map entry_block es
item_shapes es =
    linked_shapes item_addr item_block item_row entry_block 0 0 es
    (each _ (λ e p n. of_length e.block kinds.HashEntry _ (words_and (n ∷ e.value ∷ []) e.key 16 refl)) es)

pub ticket_shapes : (acct : Acct) (ts : List Ticket) →
    map shape (tickets.ticket_entries acct (map ticket_row ts)) ≡ map block_for_ticket ts
ticket_shapes acct ts =
    linked_shapes ticket_addr (tickets.ticket_block acct) ticket_row block_for_ticket 0 0 ts
    (each _ (λ t p n. of_length t.block kinds.Ticket _ (words_only (ticket_words acct n (ticket_row t)) 96 refl)) ts)

-- a name fills 32 bytes
length-name_bytes : (name : List ℕ) → length name ≤ 31 → length (name_bytes name) ≡ 32
length-name_bytes name short =
    let zeros = 31 - length name in
    omega (arith, short, length-append name (replicate zeros 0), length-replicate {A = ℕ} zeros 0)

pub name_shapes : (ns : List Name) → AllByRecursion (λ (n : Name). length n.name ≤ 31) ns →
    map shape (catalogue.catalogue_entries (map name_row ns)) ≡ map block_for_name ns
name_shapes ns short =
    linked_shapes name_addr catalogue.name_block name_row block_for_name 0 0 ns (lengths ns short)
  where
    lengths : (ns : List Name) → AllByRecursion (λ (n : Name). length n.name ≤ 31) ns →
        AllByRecursion (λ n. (p next : ℕ) →
        shape (n.block, catalogue.name_block p next (name_row n)) ≡ block_for_name n) ns
    lengths [] all = tt
    lengths (n ∷ ns) all = (
      (λ p next. of_length n.block kinds.Name _
          (words_and (next ∷ n.kind ∷ n.object ∷ []) (name_bytes n.name) 24 refl
          ∙ ap (λ k. 24 + k) (length-name_bytes n.name all.0))),
      lengths ns all.1,
    )

-- the buckets of a hash are its entries in order
bucket_shapes : (hash : Hash) (bs : List ℕ) →
    map shape (flat_map bucket_entries (map (bucket_row hash) bs))
    ≡ map entry_block (flat_map (λ b. group (λ (e : HashEntry). bucket_of hash.buckets e.key) b hash.entries) bs)
bucket_shapes hash [] = refl
bucket_shapes hash (b ∷ bs) =
    let g = λ (e : HashEntry). bucket_of hash.buckets e.key in
    map-append shape (bucket_entries (bucket_row hash b)) (flat_map bucket_entries (map (bucket_row hash) bs))
    ∙ ap (λ (t : List UsedBlock). t ++ map shape (flat_map bucket_entries (map (bucket_row hash) bs)))
    (item_shapes (group g b hash.entries))
    ∙ ap (λ (t : List UsedBlock). map entry_block (group g b hash.entries) ++ t) (bucket_shapes hash bs)
    ∙ sym (map-append entry_block (group g b hash.entries) (flat_map (λ b. group g b hash.entries) bs))

-- keys by rising buckets
rise : (n : ℕ) (es : List HashEntry) → IsNonDecreasingBy (bucket_of n) (map (λ (e : HashEntry). e.key) es) →
    Rise (λ (e : HashEntry). bucket_of n e.key) es
rise n [] sorted = tt
rise n (e ∷ es) sorted = (
  each_of (λ (e : HashEntry). e.key) (λ k. bucket_of n e.key ≤ bucket_of n k) es
      (λ j d l. sorted 0 (suc j) d (omega arith) (omega (arith, l))),
  rise n es (λ i j d le l. sorted (suc i) (suc j) d (omega (arith, le)) (omega (arith, l))),
)

below : (n : ℕ) → 1 ≤ n → (es : List HashEntry) → AllByRecursion (λ (e : HashEntry). bucket_of n e.key < n) es
below n some es = each _ (λ e. omega (arith, some)) es

hash_shapes : (hash : Hash) → IsValidHash hash →
    map shape (flat_map bucket_entries (map (bucket_row hash) (range_with_len 0 hash.buckets)))
    ≡ map entry_block hash.entries
hash_shapes hash valid =
    bucket_shapes hash (range_with_len 0 hash.buckets)
    ∙ ap (map entry_block)
    (regrouped (λ (e : HashEntry). bucket_of hash.buckets e.key) hash.buckets hash.entries
    (rise hash.buckets hash.entries valid.by_bucket) (below hash.buckets valid.buckets.0 hash.entries))

path_shape : (subject : Subject) → length (path_of subject) ≡ path_length subject
path_shape (subjects.File text) = refl
path_shape (subjects.Bulk item) = refl
path_shape (subjects.Heap raw) = refl
path_shape (subjects.Obj raw) = refl

object_shapes : (z : ZcoObject) →
    map shape (objects.capsule_entries (map capsule_row z.headers) ++ objects.extent_entries (map extent_row z.extents)
    ++ objects.capsule_entries (map capsule_row z.trailers)) ≡ object_blocks z
object_shapes z =
    let hs = objects.capsule_entries (map capsule_row z.headers) in
    let es = objects.extent_entries (map extent_row z.extents) in
    let ts = objects.capsule_entries (map capsule_row z.trailers) in
    map-append shape (hs ++ es) ts
    ∙ ap (λ (t : List UsedBlock). t ++ map shape ts) (map-append shape hs es)
    ∙ ap (λ (t : List UsedBlock). (t ++ map shape es) ++ map shape ts) (capsule_shapes z.headers)
    ∙ ap (λ (t : List UsedBlock). (map block_for_capsule z.headers ++ t) ++ map shape ts) (extent_shapes z.extents)
    ∙ ap (λ (t : List UsedBlock). (map block_for_capsule z.headers ++ map block_for_extent z.extents) ++ t) (capsule_shapes z.trailers)

-- the blocks of a thing
pub thing_shapes : (ties : Ties) (addr : ℕ) (thing : Thing) → IsValidThing thing →
    map shape (thing_entries ties addr thing) ≡ thing_blocks addr thing
thing_shapes ties addr (things.Raw bytes) v =
    ap (λ (b : UsedBlock). b ∷ []) (of_length addr kinds.Raw _ (words_and (ties.named_by addr ∷ []) bytes 8 refl))
thing_shapes ties addr (things.Text text) v =
    let n : suc (length text) ≡ 1 + length text = omega arith in
    ap (λ (n : ℕ). record { addr = addr; kind = kinds.Text; bytes = n } ∷ []) n
thing_shapes ties addr (things.List list) v =
    let es = linked addr_of (lists.element_block addr) 0 0 (map element_row list.elements) in
    ap (λ (b : UsedBlock). b ∷ map shape es) (of_length addr kinds.List _ (words_only _ 32 refl))
    ∙ ap (λ (t : List UsedBlock). own_block addr (things.List list) ∷ t) (element_shapes addr list.elements)
thing_shapes ties addr (things.Table table) v =
    ap (λ (b : UsedBlock). b ∷ [])
    (of_length addr kinds.Table _ (words_and (table.user ∷ table.size ∷ table.rows ∷ []) table.bytes 24 refl))
thing_shapes ties addr (things.Hash hash) v =
    let buckets = map (bucket_row hash) (range_with_len 0 hash.buckets) in
    let count : length (map (first_of item_addr 0) buckets) ≡ hash.buckets =
    length-map buckets (first_of item_addr 0) ∙ length-map (range_with_len 0 hash.buckets) (bucket_row hash)
    ∙ length-range_with_len 0 hash.buckets in
    ap (λ (b : UsedBlock). b ∷ map shape (flat_map bucket_entries buckets))
    (of_length addr kinds.Hash _
    (words_only
    (hash.key_length ∷ length buckets ∷ sum_by length buckets ∷ map (first_of item_addr 0) buckets)
    (24 + 8 * hash.buckets) (omega (arith, count))))
    ∙ ap (λ (t : List UsedBlock). own_block addr (things.Hash hash) ∷ t) (hash_shapes hash v)
thing_shapes ties addr (things.Source source) v =
    ap (λ (b : UsedBlock). b ∷ [])
    (of_length addr kinds.Source _
    (words_and _ (path_of source.subject) 48 refl ∙ ap (λ n. 48 + n) (path_shape source.subject)))
thing_shapes ties addr (things.Object z) v =
    let inner = objects.capsule_entries (map capsule_row z.headers) ++ objects.extent_entries (map extent_row z.extents)
    ++ objects.capsule_entries (map capsule_row z.trailers) in
    ap (λ (b : UsedBlock). b ∷ map shape inner) (of_length addr kinds.Object _ (words_only _ 72 refl))
    ∙ ap (λ (t : List UsedBlock). own_block addr (things.Object z) ∷ t) (object_shapes z)
