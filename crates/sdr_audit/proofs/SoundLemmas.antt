-- A heap region whose bytes stand for a world passes the audit of its structure.
use Rattle.std.proofs.Common.{◌≡◌, ◌≤◌, ◌<◌, ◌^◌, ◌==◌, ◌&&◌, ◌||◌, ℕ, true, not, List, [], ◌∷◌, ◌++◌, map, filter, length, Some, arith, refl, sym, ◌∙◌, subst}
use Rattle.std.specs.Prelude.{IfSome, Option, nat_le, sum_by}
use Rattle.std.specs.FinMap as finite
use Rattle.std.specs.List.{All, flat_map, range_with_len}
use Rattle.std.proofs.lemmas.Bool.{and_parts, le-ltb, leb-true}
use Rattle.std.proofs.lemmas.List.{length-map}
use Rattle.std.proofs.lemmas.List.Elements.{All-append, All-cons, All-filter, All-head, All-map, All-nil, All-tail, All-weaker}
use Rattle.std.proofs.lemmas.List.FromFn.{length-range_with_len}
use Rattle.sdr_base.specs.Blocks.{Block}
use Rattle.sdr_base.specs.Catalogue.{NameRow, catalogue_entries, name_addr, name_block}
use Rattle.sdr_base.specs.Hashes.{HashItem, bucket_entries, hash_block, item_addr, item_block}
use Rattle.sdr_base.specs.Linked.{first_of, last_of, linked}
use Rattle.sdr_base.specs.Lists.{addr_of, element_block, elements_between, list_block}
use Rattle.sdr_base.specs.Pools.{Pools}
use Rattle.sdr_base.specs.Raws.{raw_block}
use Rattle.sdr_base.specs.Section.{section}
use Rattle.sdr_base.specs.Sources.{source_block}
use Rattle.sdr_base.specs.Strings.{string_block}
use Rattle.sdr_base.specs.Tables.{table_block}
use Rattle.sdr_base.specs.Tickets.{ticket_addr, ticket_block}
use Rattle.sdr_base.specs.ZcoObjects.{CapsuleRow, capsule_addr, capsule_block, capsule_entries, extent_addr, extent_block, extent_entries, object_block}
use Rattle.sdr_base.specs.declared.account.Acct.{Acct}
use Rattle.sdr_base.specs.declared.account.Acct.TheVariants as accts
use Rattle.sdr_base.specs.declared.kind.Kind.TheVariants as kinds
use Rattle.sdr_model.specs.Accounts.{most_amount}
use Rattle.sdr_model.specs.Fields.{FitsName, FitsSubject, FitsThing, FitsTicket, IsWord}
use Rattle.sdr_model.specs.HashSteps.{bucket_of}
use Rattle.sdr_model.specs.Hashes.{Hash}
use Rattle.sdr_model.specs.Limits.{is_no_path}
use Rattle.sdr_model.specs.Valid.{IsBetween, IsValidCapsule, IsValidHash, IsValidSource, IsValidSubject, IsValidThing, IsValidTicket}
use Rattle.sdr_model.specs.World.{World, thing_at}
use Rattle.sdr_model.specs.declared.accounts.Ticket.{Ticket}
use Rattle.sdr_model.specs.declared.name.Name.{Name}
use Rattle.sdr_model.specs.declared.things.HashEntry.{HashEntry}
use Rattle.sdr_model.specs.declared.things.Thing.{Thing}
use Rattle.sdr_model.specs.declared.things.Thing.TheVariants as things
use Rattle.sdr_model.specs.declared.zco.Capsule.{Capsule}
use Rattle.sdr_model.specs.declared.zco.Subject.{Subject}
use Rattle.sdr_model.specs.declared.zco.Subject.TheVariants as subjects
use Rattle.sdr_model.specs.declared.zco.ZcoSource.{ZcoSource}
use Rattle.sdr_stands.specs.Rows.{bucket_row, capsule_row, element_row, extent_row, hash_row, item_row, name_row, object_row, source_row, table_row}
use Rattle.sdr_model.specs.TicketRows.{ticket_row}
use Rattle.sdr_stands.specs.Standing.{StandsForWhole, entries_of, other_entries, queue_entries, thing_entries}
use Rattle.sdr_stands.specs.Ties.{ties_of}
use Rattle.audit_blocks.proofs.HeapBitsLemmas.{bits_right}
use Rattle.audit_blocks.proofs.HeapLemmas.{blocks_are}
use Rattle.audit_blocks.proofs.HeapListsLemmas.{lists_are}
use Rattle.audit_blocks.specs.Region.{HasLayouts, IsSound}
use Rattle.sdr_audit.proofs.ControlLemmas.{control_right}
use Rattle.sdr_audit.proofs.FilledLemmas.{content_right}
use Rattle.sdr_audit.proofs.KeptLemmas.{All-unmap, found_at}
use Rattle.sdr_audit.proofs.LaidLemmas.{IsFewTicket, IsLaid, capsule_laid, hash_laid, item_laid, linked_laid, name_laid, object_laid, raw_laid, source_laid, table_laid, text_laid, ticket_laid, words_laid}
use Rattle.sdr_audit.proofs.NamedLemmas.{things_found}
use Rattle.sdr_audit.proofs.SoundStandLemmas.{All-every, All-left, All-right, All-whole}

abbrev IsLaidEntry : ℕ × Block → Type 0
IsLaidEntry e = IsLaid e.1

abbrev IsRow : {X : Type 0} → X → Type 0
IsRow x = Unit {0}

all_rows : {X : Type 0} (xs : List X) → All IsRow xs
all_rows xs = All-every IsRow (λ x. tt) xs

path_right : (n : ℕ) → 1 ≤ n → n ≤ 255 → not (is_no_path n) ≡ true
path_right n least most = λ i. not (le-ltb n 1 least i || le-ltb 255 n most i)

-- the block of a source of a subject
abbrev IsLaidSource : World → ℕ → ZcoSource → Subject → Type 0
IsLaidSource w addr source subject =
    IsLaid (source_block ((ties_of w).counts addr accts.Inbound) ((ties_of w).counts addr accts.Outbound) (source_row (record source { subject = subject })))

-- the numbers of an entry of the catalogue keep to the limits
record IsFewName (row : NameRow) : Type 0 where
  number : row.type_number < 2 ^ 32
  least : 1 ≤ length row.name
  most : length row.name ≤ 31

capsules_laid : (cs : List Capsule) → All IsValidCapsule cs → All IsLaidEntry (capsule_entries (map capsule_row cs))
capsules_laid cs valid =
    linked_laid capsule_addr capsule_block (λ (row : CapsuleRow). IsBetween 1 1024 (length row.text)) (λ before next row few. capsule_laid next row.text few.0 few.1) 0 0 (map capsule_row cs)
    (All-map (λ (row : CapsuleRow). IsBetween 1 1024 (length row.text)) capsule_row cs valid)

-- the entries of a hash
items_laid : (hash : Hash) → IsValidHash hash → All IsLaidEntry (flat_map bucket_entries (map (bucket_row hash) (range_with_len 0 hash.buckets)))
items_laid hash valid =
    All-whole IsLaidEntry bucket_entries (map (bucket_row hash) (range_with_len 0 hash.buckets))
    (All-map (λ (items : List HashItem). All IsLaidEntry (bucket_entries items)) (bucket_row hash) (range_with_len 0 hash.buckets)
    (All-every (λ number. All IsLaidEntry (bucket_entries (bucket_row hash number))) bucket (range_with_len 0 hash.buckets)))
  where
    keys : All (λ (e : HashEntry). length e.key ≡ hash.key_length) hash.entries
    keys = All-unmap (λ key. length key ≡ hash.key_length) (λ (e : HashEntry). e.key) hash.entries valid.keys

    bucket : (number : ℕ) → All IsLaidEntry (bucket_entries (bucket_row hash number))
    bucket number =
        linked_laid item_addr item_block (λ (row : HashItem). length row.key ≡ hash.key_length)
        (λ before next row is.
        let least = valid.key_length.0 in
        let most = valid.key_length.1 in
        item_laid next row.value row.key (omega (arith, is, least)) (omega (arith, is, most))) 0 0 (bucket_row hash number)
        (All-map (λ (row : HashItem). length row.key ≡ hash.key_length) item_row (filter (λ e. bucket_of hash.buckets e.key == number) hash.entries)
        (All-filter (λ e. bucket_of hash.buckets e.key == number) (λ (e : HashEntry). length e.key ≡ hash.key_length) hash.entries keys))

module _ (bytes : List ℕ) (w : World) (P : Pools) (s : StandsForWhole bytes w P) where
  source_right : (addr : ℕ) (source : ZcoSource) → IsValidSource source → FitsSubject source.subject →
      IsLaid (source_block ((ties_of w).counts addr accts.Inbound) ((ties_of w).counts addr accts.Outbound) (source_row source))
  source_right addr source valid fits = by source.subject refl valid.subject fits
    where
      by : (subject : Subject) → source.subject ≡ subject → IsValidSubject subject → FitsSubject subject → IsLaidSource w addr source subject
      by (subjects.File path) is few small =
          source_laid 1 ((ties_of w).counts addr accts.Inbound) ((ties_of w).counts addr accts.Outbound) 0 source.length source.flagged path (omega arith) (omega arith) (omega arith) valid.length
          (path_right (length path) few.0 few.1)
      by (subjects.Bulk item) is few small =
          source_laid 2 ((ties_of w).counts addr accts.Inbound) ((ties_of w).counts addr accts.Outbound) item source.length source.flagged [] (omega arith) (omega arith) small valid.length refl
      by (subjects.Heap raw) is few small =
          source_laid 3 ((ties_of w).counts addr accts.Inbound) ((ties_of w).counts addr accts.Outbound) raw source.length source.flagged [] (omega arith) (omega arith) small valid.length refl
      by (subjects.Obj raw) is few small =
          source_laid 4 ((ties_of w).counts addr accts.Inbound) ((ties_of w).counts addr accts.Outbound) raw source.length source.flagged [] (omega arith) (omega arith) small valid.length refl

  -- the blocks of a thing
  thing_laid : (addr : ℕ) (thing : Thing) → IsValidThing thing → FitsThing thing → All IsLaidEntry (thing_entries (ties_of w) addr thing)
  thing_laid addr (things.Raw text) valid fits =
      All-cons IsLaidEntry (addr, raw_block ((ties_of w).named_by addr) text) [] (raw_laid ((ties_of w).named_by addr) text valid) (All-nil IsLaidEntry)
  thing_laid addr (things.Text text) valid fits = All-cons IsLaidEntry (addr, string_block text) [] (text_laid text valid) (All-nil IsLaidEntry)
  thing_laid addr (things.List list) valid fits =
      let rows = map element_row list.elements in
      All-cons IsLaidEntry (addr, list_block list.user (length rows) (first_of addr_of 0 rows) (last_of addr_of 0 rows)) (elements_between addr 0 0 rows)
      (words_laid kinds.List (list.user ∷ length rows ∷ first_of addr_of 0 rows ∷ last_of addr_of 0 rows ∷ []) 32 (λ first. refl) refl)
      (linked_laid addr_of (element_block addr) IsRow (λ before next row r. words_laid kinds.Element (addr ∷ before ∷ next ∷ row.datum ∷ []) 32 (λ first. refl) refl) 0 0 rows (all_rows rows))
  thing_laid addr (things.Table table) valid fits =
      All-cons IsLaidEntry (addr, table_block (table_row table)) []
      (table_laid table.user table.size table.rows table.bytes valid.size valid.rows valid.all_rows valid.bytes) (All-nil IsLaidEntry)
  thing_laid addr (things.Hash hash) valid fits =
      let buckets = map (bucket_row hash) (range_with_len 0 hash.buckets) in
      let count : length buckets ≡ hash.buckets = length-map (range_with_len 0 hash.buckets) (bucket_row hash) ∙ length-range_with_len 0 hash.buckets in
      let least = valid.buckets.0 in
      let most = valid.buckets.1 in
      All-cons IsLaidEntry (addr, hash_block (hash_row hash)) (flat_map bucket_entries buckets)
      (hash_laid hash.key_length (length buckets) (sum_by length buckets) (map (first_of item_addr 0) buckets) valid.key_length.0 valid.key_length.1 (omega (arith, count, least))
      (omega (arith, count, most)) (length-map buckets (first_of item_addr 0)))
      (items_laid hash valid)
  thing_laid addr (things.Source source) valid fits =
      All-cons IsLaidEntry (addr, source_block ((ties_of w).counts addr accts.Inbound) ((ties_of w).counts addr accts.Outbound) (source_row source)) []
      (source_right addr source valid fits.subject) (All-nil IsLaidEntry)
  thing_laid addr (things.Object z) valid fits =
      let headers = map capsule_row z.headers in
      let extents = map extent_row z.extents in
      let trailers = map capsule_row z.trailers in
      All-cons IsLaidEntry (addr, object_block (object_row z)) (capsule_entries headers ++ extent_entries extents ++ capsule_entries trailers)
      (object_laid z.account
      (first_of extent_addr 0 extents ∷ last_of extent_addr 0 extents ∷ first_of capsule_addr 0 headers ∷ last_of capsule_addr 0 headers
      ∷ first_of capsule_addr 0 trailers ∷ last_of capsule_addr 0 trailers ∷ z.part.offset ∷ z.part.length ∷ []) refl)
      (All-append IsLaidEntry (capsule_entries headers ++ extent_entries extents) (capsule_entries trailers)
      (All-append IsLaidEntry (capsule_entries headers) (extent_entries extents) (capsules_laid z.headers valid.headers)
      (linked_laid extent_addr extent_block IsRow (λ before next row r. words_laid kinds.Extent (row.source ∷ row.offset ∷ row.length ∷ next ∷ []) 32 (λ first. refl) refl) 0 0 extents
      (all_rows extents)))
      (capsules_laid z.trailers valid.trailers))

  -- the entries of the catalogue
  names_laid : All IsLaidEntry (catalogue_entries (map name_row w.names))
  names_laid =
      linked_laid name_addr name_block IsFewName (λ before next row few. name_laid next row.type_number row.object row.name few.number few.least few.most) 0 0 (map name_row w.names)
      (All-map IsFewName name_row w.names (each w.names (All-unmap (λ name. IsBetween 1 31 (length name)) (λ (n : Name). n.name) w.names s.whole.valid.names) s.fits.names))
    where
      each : (ns : List Name) → All (λ (n : Name). IsBetween 1 31 (length n.name)) ns → All FitsName ns → All (λ n. IsFewName (name_row n)) ns
      each [] short fit = All-nil (λ n. IsFewName (name_row n))
      each (n ∷ ns) short fit =
          let h = All-head (λ (n : Name). IsBetween 1 31 (length n.name)) n ns short in
          All-cons (λ n. IsFewName (name_row n)) n ns (record { number = (All-head FitsName n ns fit).kind; least = h.0; most = h.1 })
          (each ns (All-tail (λ (n : Name). IsBetween 1 31 (length n.name)) n ns short) (All-tail FitsName n ns fit))

  -- tickets
  tickets_laid : (account : Acct) (ts : List Ticket) → All IsValidTicket ts → All FitsTicket ts → All (λ (t : Ticket). t.number < w.accounts.next) ts →
      All IsLaidEntry (linked ticket_addr (ticket_block account) 0 0 (map ticket_row ts))
  tickets_laid account ts valid fit below =
      linked_laid ticket_addr (ticket_block account) IsFewTicket (ticket_laid account) 0 0 (map ticket_row ts) (All-map IsFewTicket ticket_row ts (each ts valid fit below))
    where
      few : (t : Ticket) → IsValidTicket t → FitsTicket t → t.number < w.accounts.next → IsFewTicket (ticket_row t)
      few t valid fit below =
          let p = and_parts (nat_le t.asked.file most_amount && nat_le t.asked.bulk most_amount) (nat_le t.asked.heap most_amount) valid.asked in
          let q = and_parts (nat_le t.asked.file most_amount) (nat_le t.asked.bulk most_amount) p.0 in
          let next = s.whole.queues.next in
          record {
            number = omega (arith, below, next);
            coarse = fit.coarse;
            fine = fit.fine;
            file = leb-true _ _ q.0;
            bulk = leb-true _ _ q.1;
            heap = leb-true _ _ p.1;
          }

      each : (ts : List Ticket) → All IsValidTicket ts → All FitsTicket ts → All (λ (t : Ticket). t.number < w.accounts.next) ts → All (λ t. IsFewTicket (ticket_row t)) ts
      each [] valid fit below = All-nil (λ t. IsFewTicket (ticket_row t))
      each (t ∷ ts) valid fit below =
          All-cons (λ t. IsFewTicket (ticket_row t)) t ts
          (few t (All-head IsValidTicket t ts valid) (All-head FitsTicket t ts fit) (All-head (λ (t : Ticket). t.number < w.accounts.next) t ts below))
          (each ts (All-tail IsValidTicket t ts valid) (All-tail FitsTicket t ts fit) (All-tail (λ (t : Ticket). t.number < w.accounts.next) t ts below))

  all_laid : All IsLaidEntry (entries_of w)
  all_laid =
      let inbound = w.accounts.inbound.tickets in
      let outbound = w.accounts.outbound.tickets in
      let below = All-unmap (λ n. n < w.accounts.next) (λ (t : Ticket). t.number) (inbound ++ outbound) s.whole.queues.below in
      All-append IsLaidEntry (section (thing_entries (ties_of w)) w.things) (other_entries w)
      (All-whole IsLaidEntry (λ (e : ℕ × Thing). thing_entries (ties_of w) e.0 e.1) (finite.entries w.things)
      (All-weaker (λ (e : ℕ × Thing). thing_at w e.0 ≡ Some e.1) (λ (e : ℕ × Thing). All IsLaidEntry (thing_entries (ties_of w) e.0 e.1))
      (λ e there. thing_laid e.0 e.1 (subst (λ (o : Option Thing). IfSome o IsValidThing) there (s.whole.valid.things e.0))
      (subst (λ (o : Option Thing). IfSome o (λ thing. IsWord e.0 × FitsThing thing)) there (s.fits.things e.0)).1) (finite.entries w.things) (things_found w)))
      (All-append IsLaidEntry (catalogue_entries (map name_row w.names)) (queue_entries w.accounts accts.Inbound ++ queue_entries w.accounts accts.Outbound) names_laid
      (All-append IsLaidEntry (queue_entries w.accounts accts.Inbound) (queue_entries w.accounts accts.Outbound)
      (tickets_laid accts.Inbound inbound s.whole.queues.inbound.tickets s.fits.inbound (All-left (λ (t : Ticket). t.number < w.accounts.next) inbound outbound below))
      (tickets_laid accts.Outbound outbound s.whole.queues.outbound.tickets s.fits.outbound (All-right (λ (t : Ticket). t.number < w.accounts.next) inbound outbound below))))

  pub has_layouts : HasLayouts bytes
  has_layouts addr block is = found_at IsLaidEntry (entries_of w) all_laid addr block (sym (s.stands.blocks.same addr) ∙ is)

  -- the region is sound
  pub world_sound : All (λ byte. byte < 2 ^ 8) bytes → IsSound bytes P.small P.large
  world_sound are =
      let control = control_right bytes w P s in
      record {
        control = control;
        blocks = blocks_are bytes P s.stands.heap;
        bits = bits_right bytes P s.stands.heap control are;
        free = lists_are bytes P s.stands.heap;
        content = content_right bytes P s.stands.heap has_layouts;
      }
