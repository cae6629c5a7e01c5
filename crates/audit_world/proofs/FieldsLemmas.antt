-- The numbers of the world that a heap tells fit the fields of blocks.
use Rattle.std.proofs.Common.{◌≡◌, ◌≤◌, ◌<◌, ◌+◌, ◌*◌, ◌/◌, ◌==◌, ◌^◌, ℕ, suc, List, cond, true, length, get_or, drop, map, arith, refl, sym, subst, inl, inr}
use Rattle.std.specs.Prelude.{IfSome, Option, None, Some, nat_lt}
use Rattle.std.specs.List.{All}
use Rattle.std.proofs.lemmas.Bool.{cases_lt, cond_both}
use Rattle.std.proofs.lemmas.List.{get_or_past}
use Rattle.std.proofs.lemmas.List.Elements.{All-drop, All-get_or, All-map, All-nil, All-take}
use Rattle.sdr_base.specs.Blocks.{Block}
use Rattle.sdr_base.specs.Stored.{number_at}
use Rattle.sdr_base.specs.declared.account.Acct.{Acct}
use Rattle.sdr_base.specs.declared.account.Acct.TheVariants as accts
use Rattle.sdr_base.specs.declared.kind.Kind.{Kind}
use Rattle.sdr_base.specs.declared.kind.Kind.TheVariants as kinds
use Rattle.audit_counts.specs.Queues.{ticket_in, tickets}
use Rattle.audit_owners.specs.Members.{members}
use Rattle.sdr_model.specs.Fields.{FitsCapsule, FitsElement, FitsEntry, FitsExtent, FitsFields, FitsName, FitsSubject, FitsThing, FitsTicket, IsWord}
use Rattle.sdr_model.specs.declared.things.Thing.{Thing}
use Rattle.sdr_model.specs.declared.zco.Subject.{Subject}
use Rattle.sdr_model.specs.declared.zco.Subject.TheVariants as subjects
use Rattle.audit_owners.specs.Chains.{first_link, is_member}
use Rattle.audit_owners.specs.Owned.{AreBytes}
use Rattle.audit_owners.specs.Reading.{behind_words, bytes_of}
use Rattle.audit_owners.specs.View.{View, is_kind, word_of}
use Rattle.audit_owners.specs.declared.owner.Owner.{Owner}
use Rattle.audit_owners.specs.declared.owner.Owner.TheVariants as owners
use Rattle.audit_world.proofs.BucketLemmas.{all_groups}
use Rattle.audit_world.proofs.ChainLemmas.{IsTold}
use Rattle.audit_world.proofs.HashLemmas.{bucket_chain}
use Rattle.audit_world.proofs.LayoutLemmas.{is_name_so, word_told}
use Rattle.audit_world.proofs.LinkLemmas.{extent_chain, header_chain, list_chain, trailer_chain}
use Rattle.audit_world.proofs.OccupiedLemmas.{all_so, goes_members}
use Rattle.audit_world.proofs.OwnLemmas.{IsAudited, layout_of, own_of}
use Rattle.audit_world.proofs.PartLemmas.{names_chain, queue_chain}
use Rattle.audit_world.proofs.QueueLemmas.{is_ticket_so}
use Rattle.audit_world.proofs.SourceLemmas.{subject_by}
use Rattle.audit_world.proofs.TiesLemmas.{thing_cases, thing_is}
use Rattle.audit_world.specs.Told.{bucket_told, capsule_told, element_told, entry_told, extent_told, name_told, thing_of_kind, thing_told, world_told}

-- eight bytes make a word
number_small : (place : ℕ) (bytes : List ℕ) → AreBytes bytes → number_at place bytes < 2 ^ 64
unfolding number_at
number_small place bytes are =
    omega (
      arith,
      byte place,
      byte (suc place),
      byte (suc (suc place)),
      byte (suc (suc (suc place))),
      byte (suc (suc (suc (suc place)))),
      byte (suc (suc (suc (suc (suc place))))),
      byte (suc (suc (suc (suc (suc (suc place)))))),
      byte (suc (suc (suc (suc (suc (suc (suc place))))))),
    )
  where
    byte : (n : ℕ) → get_or bytes n 0 < 256
    byte n = elim (cases_lt n (length bytes)) [
      | inl within ↦ All-get_or (λ byte. byte < 2 ^ 8) bytes n 0 within are
      | inr past ↦ let e = get_or_past bytes n 0 past in omega (arith, e)
    ]

-- a subject fits, where a path is of bytes and the number of any other a word
subject_fits : (medium number : ℕ) (path : List ℕ) → IsWord number → AreBytes path → FitsSubject (subject_by medium number path)
subject_fits medium number path word are =
    let raw : Subject = cond (medium == 3) (subjects.Heap number) (subjects.Obj number) in
    let item : Subject = cond (medium == 2) (subjects.Bulk number) raw in
    let raw_fits : FitsSubject raw =
    cond_both (medium == 3) (subjects.Heap number) (subjects.Obj number) FitsSubject (λ heap. word) (λ obj. word) in
    let item_fits : FitsSubject item = cond_both (medium == 2) (subjects.Bulk number) raw FitsSubject (λ bulk. word) (λ other. raw_fits) in
    cond_both (medium == 1) (subjects.File path) item FitsSubject (λ file. are) (λ other. item_fits)

module _ (heap : View) (words : ℕ) (a : IsAudited heap words) (few : 8 * words ≤ 2 ^ 64) where
  -- the bytes of a block are bytes
  are_bytes : (addr : ℕ) → AreBytes (bytes_of (heap.blocks addr))
  are_bytes addr = by_block (heap.blocks addr) refl
    where
      by_block : (o : Option Block) → heap.blocks addr ≡ o → AreBytes (bytes_of o)
      by_block None at = All-nil (λ byte. byte < 2 ^ 8)
      by_block (Some block) at = a.bytes addr block at

  behind : (addr count : ℕ) → AreBytes (behind_words (heap.blocks addr) count)
  behind addr count = All-drop (λ byte. byte < 2 ^ 8) (8 * count) (bytes_of (heap.blocks addr)) (are_bytes addr)

  -- a word of a block is one
  is_word : (addr n : ℕ) → IsWord (word_of (heap.blocks addr) n)
  is_word addr n = by_block (heap.blocks addr) refl
    where
      by_block : (o : Option Block) → heap.blocks addr ≡ o → IsWord (word_of o n)
      by_block None at = omega arith
      by_block (Some block) at =
          cond_both (nat_lt n (length block.bytes / 8)) (number_at (8 * n) block.bytes) 0 IsWord
          (λ within. number_small (8 * n) block.bytes (a.bytes addr block at)) (λ past. omega arith)

  -- so is the address of a block
  at_word : (kind : Kind) (addr : ℕ) → is_kind kind (heap.blocks addr) ≡ true → IsWord addr
  at_word kind addr is =
      let b = own_of heap words a kind addr is in
      let place = a.placed addr b.own b.is in
      let at = place.at in
      let below = place.below in
      omega (arith, at, below, few)

  -- what holds of what is told of each block of a chain's kind holds of what is told of the chain
  all_told : {X : Type 0} (P : X → Type 0) (told : ℕ → X) (owner : Owner) → IsTold heap words owner →
      ((n : ℕ) → is_member heap owner n ≡ true → P (told n)) → All P (map told (members heap words owner))
  all_told P told owner chain holds =
      All-map P told (members heap words owner)
      (all_so (λ n. is_member heap owner n ≡ true) (λ n. P (told n)) holds (members heap words owner)
      (goes_members heap words owner 0 (first_link heap owner) (members heap words owner) chain.last 0 chain.goes))

  element_fits : (addr : ℕ) → is_kind kinds.Element (heap.blocks addr) ≡ true → FitsElement (element_told heap addr)
  element_fits addr is = record { block = at_word kinds.Element addr is; datum = is_word addr 3 }

  capsule_fits : (addr : ℕ) → is_kind kinds.Capsule (heap.blocks addr) ≡ true → FitsCapsule (capsule_told heap addr)
  capsule_fits addr is = record { block = at_word kinds.Capsule addr is; text = behind addr 1 }

  extent_fits : (addr : ℕ) → is_kind kinds.Extent (heap.blocks addr) ≡ true → FitsExtent (extent_told heap addr)
  extent_fits addr is = record {
    block = at_word kinds.Extent addr is;
    source = is_word addr 0;
    offset = is_word addr 1;
    length = is_word addr 2;
  }

  entry_fits : (addr : ℕ) → is_kind kinds.HashEntry (heap.blocks addr) ≡ true → FitsEntry (entry_told heap addr)
  entry_fits addr is = record { block = at_word kinds.HashEntry addr is; key = behind addr 2; value = is_word addr 1 }

  -- a thing at an address, if there is one, fits, and so does the address
  abbrev Fits : ℕ → Option Thing → Type 0
  Fits addr o = IfSome o (λ thing. IsWord addr × FitsThing thing)

  thing_fits : (addr : ℕ) → Fits addr (thing_told heap words addr)
  thing_fits addr = thing_cases heap words (Fits addr) addr (λ at. tt) by_kind
    where
      by_kind : (kind : Kind) → is_kind kind (heap.blocks addr) ≡ true → Fits addr (thing_of_kind kind heap words addr)
      by_kind kinds.Raw is = (at_word kinds.Raw addr is, behind addr 1)
      by_kind kinds.Text is = (at_word kinds.Text addr is, All-drop (λ byte. byte < 2 ^ 8) 1 (bytes_of (heap.blocks addr)) (are_bytes addr))
      by_kind kinds.List is = (
        at_word kinds.List addr is,
        (is_word addr 0, all_told FitsElement (element_told heap) (owners.List addr) (list_chain heap words a addr is) element_fits),
      )
      by_kind kinds.Element is = tt
      by_kind kinds.Table is = (at_word kinds.Table addr is, (is_word addr 0, behind addr 3))
      by_kind kinds.Hash is = (
        at_word kinds.Hash addr is,
        all_groups FitsEntry (bucket_told heap words addr) 0 (word_of (heap.blocks addr) 1)
            (λ k low less.
            let chain = bucket_chain heap words a addr is k (omega (arith, less)) in
            all_told FitsEntry (entry_told heap) (owners.Bucket addr (3 + k)) chain entry_fits),
      )
      by_kind kinds.HashEntry is = tt
      by_kind kinds.Name is = tt
      by_kind kinds.Source is = (
        at_word kinds.Source addr is,
        record {
          subject =
              subject_fits (word_of (heap.blocks addr) 0) (word_of (heap.blocks addr) 4) (behind_words (heap.blocks addr) 6)
              (is_word addr 4) (behind addr 6);
          length = is_word addr 5;
        },
      )
      by_kind kinds.Object is = (
        at_word kinds.Object addr is,
        record {
          headers = all_told FitsCapsule (capsule_told heap) (owners.Headers addr) (header_chain heap words a addr is) capsule_fits;
          extents = all_told FitsExtent (extent_told heap) (owners.Extents addr) (extent_chain heap words a addr is) extent_fits;
          trailers = all_told FitsCapsule (capsule_told heap) (owners.Trailers addr) (trailer_chain heap words a addr is) capsule_fits;
        },
      )
      by_kind kinds.Extent is = tt
      by_kind kinds.Capsule is = tt
      by_kind kinds.Ticket is = tt

  -- the type number of a name is one of 32 bits
  kind_small : (addr : ℕ) → is_kind kinds.Name (heap.blocks addr) ≡ true → word_of (heap.blocks addr) 1 < 2 ^ 32
  kind_small addr is =
      let b = own_of heap words a kinds.Name addr is in
      let l = is_name_so b.own.bytes (layout_of heap words a kinds.Name addr b) in
      let long = l.long in
      let small = l.small in
      let told = word_told (heap.blocks addr) b.own 1 b.is (omega (arith, long)) (omega arith) in
      omega (arith, small, told)

  name_fits : (addr : ℕ) → is_kind kinds.Name (heap.blocks addr) ≡ true → FitsName (name_told heap addr)
  name_fits addr is =
      let bytes : List ℕ = behind_words (heap.blocks addr) 3 in
      record {
        block = at_word kinds.Name addr is;
        name = All-take (λ byte. byte < 2 ^ 8) (get_or bytes 0 0) (drop 1 bytes) (All-drop (λ byte. byte < 2 ^ 8) 1 bytes (behind addr 3));
        kind = kind_small addr is;
        object = is_word addr 2;
      }

  ticket_fits : (addr : ℕ) → is_kind kinds.Ticket (heap.blocks addr) ≡ true → FitsTicket (ticket_in heap addr)
  ticket_fits addr is =
      let b = own_of heap words a kinds.Ticket addr is in
      let l = is_ticket_so b.own.bytes (layout_of heap words a kinds.Ticket addr b) in
      let long = l.long in
      let coarse = l.coarse in
      let fine = l.fine in
      let coarse_told = word_told (heap.blocks addr) b.own 2 b.is (omega (arith, long)) (omega arith) in
      let fine_told = word_told (heap.blocks addr) b.own 3 b.is (omega (arith, long)) (omega arith) in
      record { block = at_word kinds.Ticket addr is; coarse = omega (arith, coarse, coarse_told); fine = omega (arith, fine, fine_told) }

  tickets_fit : (account : Acct) → All FitsTicket (tickets heap words account)
  tickets_fit account = all_told FitsTicket (ticket_in heap) (owners.Queue account) (queue_chain heap words a account) ticket_fits

  -- all numbers of the told world fit
  pub fields_fit : FitsFields (world_told heap words)
  fields_fit = record {
    things = λ addr.
        subst (Fits addr) (sym (thing_is heap words a addr)) (thing_fits addr);
    names = all_told FitsName (name_told heap) owners.Catalogue (names_chain heap words a) name_fits;
    inbound = tickets_fit accts.Inbound;
    outbound = tickets_fit accts.Outbound;
  }
