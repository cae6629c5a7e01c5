-- The chains of a world are right.
use Rattle.std.proofs.Common.{◌≡◌, ◌<◌, ◌+◌, ◌-◌, ◌*◌, ◌/◌, ◌^◌, ◌==◌, ℕ, Bool, List, [], ◌∷◌, ◌++◌, map, length, get_or, Some, suc, true, filter, arith, refl, sym, ap, ◌∙◌, subst}
use Rattle.std.specs.Prelude.{IfSome, Option, None}
use Rattle.std.specs.List.{All, flat_map, range_with_len, sum_by}
use Rattle.std.proofs.lemmas.Bool.{eq-eqb}
use Rattle.std.proofs.lemmas.List.{get_or-map, length-map}
use Rattle.std.proofs.lemmas.List.FromFn.{get_or-range_with_len, length-range_with_len}
use Rattle.std.proofs.lemmas.List.Elements.{All-append, All-cons, All-filter, All-from_get_or, All-get_or, All-head, All-map, All-nil, All-tail, All-weaker}
use Rattle.sdr_base.specs.Blocks.{Block}
use Rattle.sdr_base.specs.Catalogue.{NameRow, catalogue_entries, name_addr, name_block}
use Rattle.sdr_base.specs.Entries.{Entries, BlocksAre}
use Rattle.sdr_base.specs.Hashes.{HashItem, bucket_entries, hash_block, item_addr, item_block}
use Rattle.sdr_base.specs.Linked.{first_of, last_of, linked}
use Rattle.sdr_base.specs.Lists.{ListElement, addr_of, element_block, elements_between, list_block}
use Rattle.sdr_base.specs.Roots.{roots_by}
use Rattle.sdr_base.specs.Tickets.{TicketRow, ticket_addr, ticket_block}
use Rattle.sdr_base.specs.ZcoObjects.{CapsuleRow, ExtentRow, account_number, capsule_addr, capsule_block, capsule_entries, extent_addr, extent_block, extent_entries, object_block}
use Rattle.sdr_base.specs.declared.account.Acct.{Acct}
use Rattle.sdr_base.specs.declared.account.Acct.TheVariants as accts
use Rattle.sdr_base.specs.declared.kind.Kind.TheVariants as kinds
use Rattle.sdr_model.specs.Accounts.{tickets_of}
use Rattle.sdr_model.specs.Fields.{FitsCapsule, FitsElement, FitsEntry, FitsExtent, FitsFields, FitsName, FitsObject, FitsThing, FitsTicket, IsWord}
use Rattle.sdr_model.specs.HashSteps.{bucket_of}
use Rattle.sdr_model.specs.Hashes.{Hash}
use Rattle.sdr_model.specs.Valid.{IsValid}
use Rattle.sdr_model.specs.World.{World, thing_at}
use Rattle.sdr_model.specs.declared.accounts.Ticket.{Ticket}
use Rattle.sdr_model.specs.declared.things.HashEntry.{HashEntry}
use Rattle.sdr_model.specs.declared.things.SdrList.{SdrList}
use Rattle.sdr_model.specs.declared.things.Thing.{Thing}
use Rattle.sdr_model.specs.declared.things.Thing.TheVariants as things
use Rattle.sdr_model.specs.declared.zco.Capsule.{Capsule}
use Rattle.sdr_model.specs.declared.zco.ZcoObject.{ZcoObject}
use Rattle.sdr_stands.specs.Rows.{bucket_row, capsule_row, element_row, extent_row, hash_row, item_row, name_row, object_row}
use Rattle.sdr_model.specs.TicketRows.{ticket_row}
use Rattle.sdr_stands.specs.Standing.{entries_of, queue_entries, roots_of}
use Rattle.audit_owners.proofs.LayoutLemmas.{elements_fit, extents_fit, headers_fit, items_fit, names_fit, tickets_fit, trailers_fit, word_laid}
use Rattle.audit_owners.proofs.LinkingLemmas.{linked_goes}
use Rattle.audit_owners.specs.Chains as chains
use Rattle.audit_owners.specs.Chains.{ChainGoes, IsChain, has_last}
use Rattle.audit_owners.specs.Linking.{AreSmall, FitsChain, AllStandAt, StandsAt}
use Rattle.audit_owners.specs.Owners.{owned_at, owners_of, root_owners}
use Rattle.audit_owners.specs.View.{View, word_of}
use Rattle.audit_owners.specs.declared.owner.Owner.{Owner}
use Rattle.audit_owners.specs.declared.owner.Owner.TheVariants as owners
use Rattle.sdr_audit.proofs.SoundStandLemmas.{All-every, All-left, All-part, All-right, All-whole, others_stand, thing_stands}
use Rattle.sdr_audit.specs.WorldChains.{chain_of, elements_of, extents_of, headers_of, items_of, trailers_of}
use Rattle.sdr_audit.proofs.OwnerLemmas.{owned_are, owners_in}

-- the last address of small ones is small
last_small : {X : Type 0} (addr : X → ℕ) (before : ℕ) (rows : List X) → before < 2 ^ 64 → AreSmall addr rows → last_of addr before rows < 2 ^ 64
last_small addr before [] low small = low
last_small addr before (x ∷ xs) low small =
    last_small addr (addr x) xs (All-head (λ row. addr row < 2 ^ 64) x xs small) (All-tail (λ row. addr row < 2 ^ 64) x xs small)

first_small : {X : Type 0} (addr : X → ℕ) (rows : List X) → AreSmall addr rows → first_of addr 0 rows < 2 ^ 64
first_small addr [] small = omega arith
first_small addr (x ∷ xs) small = All-head (λ row. addr row < 2 ^ 64) x xs small

module _ {X : Type 0} (heap : View) (owner : Owner) (addr : X → ℕ) (block : ℕ → ℕ → X → Block) (rows : List X) (fits : FitsChain owner block)
    (small : AreSmall addr rows) (stand : AllStandAt heap (linked addr block 0 0 rows)) where
  -- rows make a right chain where the words for the first and the last say so
  rows_right : chains.first_link heap owner ≡ first_of addr 0 rows → has_last heap owner (last_of addr 0 rows) ≡ true →
      IsChain heap (record { owner = owner; addrs = map addr rows })
  rows_right first ends = record {
    last = last_of addr 0 rows;
    goes =
        subst (λ (link : ℕ). ChainGoes heap owner 0 link (map addr rows) (last_of addr 0 rows) 0) (sym first)
        (linked_goes heap owner addr block fits 0 rows (omega arith) small stand);
    ends = ends;
  }

module _ (heap : View) (w : World) (stands : BlocksAre heap.blocks (entries_of w)) (roots : heap.roots ≡ roots_of w) (fields : FitsFields w) where
  abbrev pub IsRight : Owner → Type 0
  IsRight owner = IsChain heap (chain_of w owner)

  fits_thing : (addr : ℕ) (thing : Thing) → thing_at w addr ≡ Some thing → IsWord addr × FitsThing thing
  fits_thing addr thing is = subst (λ (o : Option Thing). IfSome o (λ thing. IsWord addr × FitsThing thing)) is (fields.things addr)

  list_right : (addr : ℕ) (list : SdrList) → thing_at w addr ≡ Some (things.List list) → IsRight (owners.List addr)
  list_right addr list is =
      let rows = map element_row list.elements in
      let fits = fits_thing addr (things.List list) is in
      let small : AreSmall addr_of rows =
      All-map (λ (row : ListElement). addr_of row < 2 ^ 64) element_row list.elements (All-weaker FitsElement (λ e. e.block < 2 ^ 64) (λ e f. f.block) list.elements fits.1.1) in
      let all = thing_stands heap w stands addr (things.List list) is in
      let words : List ℕ = list.user ∷ length rows ∷ first_of addr_of 0 rows ∷ last_of addr_of 0 rows ∷ [] in
      let own = All-head (StandsAt heap) (addr, list_block list.user (length rows) (first_of addr_of 0 rows) (last_of addr_of 0 rows)) (elements_between addr 0 0 rows) all in
      let inner = All-tail (StandsAt heap) (addr, list_block list.user (length rows) (first_of addr_of 0 rows) (last_of addr_of 0 rows)) (elements_between addr 0 0 rows) all in
      let word = λ (n : ℕ) (less : n < 4) (few : get_or words n 0 < 2 ^ 64).
      ap (λ (o : Option Block). word_of o n) own.is ∙ word_laid kinds.List words [] n less few in
      subst (λ (o : Option Thing). IsChain heap (record { owner = owners.List addr; addrs = map addr_of (elements_of o) })) (sym is)
      (rows_right heap (owners.List addr) addr_of (element_block addr) rows (elements_fit addr fits.0) small inner
      (word 2 (omega arith) (first_small addr_of rows small))
      (eq-eqb _ _ (word 3 (omega arith) (last_small addr_of 0 rows (omega arith) small))))

  module _ (addr : ℕ) (hash : Hash) (is : thing_at w addr ≡ Some (things.Hash hash)) where
    abbrev buckets : List (List HashItem)
    buckets = map (bucket_row hash) (range_with_len 0 hash.buckets)

    abbrev hash_words : List ℕ
    hash_words = hash.key_length ∷ length buckets ∷ sum_by length buckets ∷ map (first_of item_addr 0) buckets

    bucket_is : (number : ℕ) → number < hash.buckets → get_or buckets number [] ≡ bucket_row hash number
    bucket_is number less =
        get_or-map (bucket_row hash) (range_with_len 0 hash.buckets) number 0 [] (let l = length-range_with_len 0 hash.buckets in omega (arith, l, less))
        ∙ ap (bucket_row hash) (get_or-range_with_len 0 hash.buckets number 0 less ∙ (let e : 0 + number ≡ number = omega arith in e))

    count_is : length buckets ≡ hash.buckets
    count_is = length-map (range_with_len 0 hash.buckets) (bucket_row hash) ∙ length-range_with_len 0 hash.buckets

    items_small : (number : ℕ) → AreSmall item_addr (bucket_row hash number)
    items_small number =
        All-map (λ (row : HashItem). item_addr row < 2 ^ 64) item_row (filter (in_bucket number) hash.entries)
        (All-filter (in_bucket number) (λ (e : HashEntry). e.block < 2 ^ 64) hash.entries
        (All-weaker FitsEntry (λ e. e.block < 2 ^ 64) (λ e f. f.block) hash.entries (fits_thing addr (things.Hash hash) is).1))
      where
        in_bucket : ℕ → HashEntry → Bool
        in_bucket number e = bucket_of hash.buckets e.key == number

    bucket_right : (number : ℕ) → number < hash.buckets → IsRight (owners.Bucket addr (3 + number))
    bucket_right number less =
        let rows = bucket_row hash number in
        let small = items_small number in
        let all = thing_stands heap w stands addr (things.Hash hash) is in
        let own = All-head (StandsAt heap) (addr, hash_block (hash_row hash)) (flat_map bucket_entries buckets) all in
        let inner = All-tail (StandsAt heap) (addr, hash_block (hash_row hash)) (flat_map bucket_entries buckets) all in
        let each = All-part (StandsAt heap) bucket_entries buckets inner in
        let here = subst (λ (items : List HashItem). AllStandAt heap (bucket_entries items)) (bucket_is number less)
        (All-get_or (λ items. AllStandAt heap (bucket_entries items)) buckets number [] (let c = count_is in omega (arith, c, less)) each) in
        let told : get_or hash_words (3 + number) 0 ≡ first_of item_addr 0 rows =
        ap (λ (n : ℕ). get_or hash_words n 0) (let e : 3 + number ≡ suc (suc (suc number)) = omega arith in e)
        ∙ get_or-map (first_of item_addr 0) buckets number [] 0 (let c = count_is in omega (arith, c, less))
        ∙ ap (first_of item_addr 0) (bucket_is number less) in
        let front = first_small item_addr rows small in
        let c = count_is in
        let l = length-map buckets (first_of item_addr 0) in
        let word : word_of (heap.blocks addr) (3 + number) ≡ first_of item_addr 0 rows =
        ap (λ (o : Option Block). word_of o (3 + number)) own.is
        ∙ word_laid kinds.Hash hash_words [] (3 + number) (omega (arith, c, l, less)) (omega (arith, told, front)) ∙ told in
        let back : 3 + number - 3 ≡ number = omega arith in
        subst (λ (items : List HashItem). IsChain heap (record { owner = owners.Bucket addr (3 + number); addrs = map item_addr items }))
        (sym (ap (items_of (3 + number - 3)) is ∙ ap (bucket_row hash) back))
        (rows_right heap (owners.Bucket addr (3 + number)) item_addr item_block rows (items_fit addr (3 + number)) small here word refl)

  module _ (addr : ℕ) (z : ZcoObject) (is : thing_at w addr ≡ Some (things.Object z)) where
    abbrev headers : List CapsuleRow
    headers = map capsule_row z.headers

    abbrev extents : List ExtentRow
    extents = map extent_row z.extents

    abbrev trailers : List CapsuleRow
    trailers = map capsule_row z.trailers

    abbrev object_words : List ℕ
    object_words =
        account_number z.account ∷ first_of extent_addr 0 extents ∷ last_of extent_addr 0 extents ∷ first_of capsule_addr 0 headers
        ∷ last_of capsule_addr 0 headers ∷ first_of capsule_addr 0 trailers ∷ last_of capsule_addr 0 trailers ∷ z.part.offset ∷ z.part.length ∷ []

    capsules_small : (cs : List Capsule) → All FitsCapsule cs → AreSmall capsule_addr (map capsule_row cs)
    capsules_small cs fit =
        All-map (λ (row : CapsuleRow). capsule_addr row < 2 ^ 64) capsule_row cs (All-weaker FitsCapsule (λ c. c.block < 2 ^ 64) (λ c f. f.block) cs fit)

    fit : FitsObject z
    fit = (fits_thing addr (things.Object z) is).1

    headers_small : AreSmall capsule_addr headers
    headers_small = capsules_small z.headers fit.headers

    trailers_small : AreSmall capsule_addr trailers
    trailers_small = capsules_small z.trailers fit.trailers

    extents_small : AreSmall extent_addr extents
    extents_small =
        All-map (λ (row : ExtentRow). extent_addr row < 2 ^ 64) extent_row z.extents (All-weaker FitsExtent (λ e. e.block < 2 ^ 64) (λ e f. f.block) z.extents fit.extents)

    abbrev inside : Entries
    inside = capsule_entries headers ++ extent_entries extents ++ capsule_entries trailers

    own_stands : StandsAt heap (addr, object_block (object_row z))
    own_stands = All-head (StandsAt heap) (addr, object_block (object_row z)) inside (thing_stands heap w stands addr (things.Object z) is)

    inside_stands : AllStandAt heap inside
    inside_stands = All-tail (StandsAt heap) (addr, object_block (object_row z)) inside (thing_stands heap w stands addr (things.Object z) is)

    object_word : (n : ℕ) → n < 9 → get_or object_words n 0 < 2 ^ 64 → word_of (heap.blocks addr) n ≡ get_or object_words n 0
    object_word n less few = ap (λ (o : Option Block). word_of o n) own_stands.is ∙ word_laid kinds.Object object_words [] n less few

    two_stand : AllStandAt heap (capsule_entries headers ++ extent_entries extents)
    two_stand = All-left (StandsAt heap) (capsule_entries headers ++ extent_entries extents) (capsule_entries trailers) inside_stands

    headers_right : IsRight (owners.Headers addr)
    headers_right =
        subst (λ (o : Option Thing). IsChain heap (record { owner = owners.Headers addr; addrs = map capsule_addr (headers_of o) })) (sym is)
        (rows_right heap (owners.Headers addr) capsule_addr capsule_block headers (headers_fit addr) headers_small
        (All-left (StandsAt heap) (capsule_entries headers) (extent_entries extents) two_stand)
        (object_word 3 (omega arith) (first_small capsule_addr headers headers_small))
        (eq-eqb _ _ (object_word 4 (omega arith) (last_small capsule_addr 0 headers (omega arith) headers_small))))

    extents_right : IsRight (owners.Extents addr)
    extents_right =
        subst (λ (o : Option Thing). IsChain heap (record { owner = owners.Extents addr; addrs = map extent_addr (extents_of o) })) (sym is)
        (rows_right heap (owners.Extents addr) extent_addr extent_block extents (extents_fit addr) extents_small
        (All-right (StandsAt heap) (capsule_entries headers) (extent_entries extents) two_stand)
        (object_word 1 (omega arith) (first_small extent_addr extents extents_small))
        (eq-eqb _ _ (object_word 2 (omega arith) (last_small extent_addr 0 extents (omega arith) extents_small))))

    trailers_right : IsRight (owners.Trailers addr)
    trailers_right =
        subst (λ (o : Option Thing). IsChain heap (record { owner = owners.Trailers addr; addrs = map capsule_addr (trailers_of o) })) (sym is)
        (rows_right heap (owners.Trailers addr) capsule_addr capsule_block trailers (trailers_fit addr) trailers_small
        (All-right (StandsAt heap) (capsule_entries headers ++ extent_entries extents) (capsule_entries trailers) inside_stands)
        (object_word 5 (omega arith) (first_small capsule_addr trailers trailers_small))
        (eq-eqb _ _ (object_word 6 (omega arith) (last_small capsule_addr 0 trailers (omega arith) trailers_small))))

  -- each chain of a thing is right
  thing_right : (addr : ℕ) (o : Option Thing) → thing_at w addr ≡ o → All IsRight (owners_in addr o)
  thing_right addr None is = All-nil IsRight
  thing_right addr (Some (things.Raw bytes)) is = All-nil IsRight
  thing_right addr (Some (things.Text text)) is = All-nil IsRight
  thing_right addr (Some (things.List list)) is = All-cons IsRight (owners.List addr) [] (list_right addr list is) (All-nil IsRight)
  thing_right addr (Some (things.Table table)) is = All-nil IsRight
  thing_right addr (Some (things.Hash hash)) is =
      let count : ℕ = (24 + 8 * hash.buckets) / 8 - 3 in
      let l = length-range_with_len 0 count in
      All-map IsRight (λ number. owners.Bucket addr (3 + number)) (range_with_len 0 count)
      (All-from_get_or (λ number. IsRight (owners.Bucket addr (3 + number))) (range_with_len 0 count) 0 (λ i less.
      let within : i < count = omega (arith, l, less) in
      subst (λ (n : ℕ). IsRight (owners.Bucket addr (3 + n))) (sym (get_or-range_with_len 0 count i 0 within ∙ (let e : 0 + i ≡ i = omega arith in e)))
      (bucket_right addr hash is i (omega (arith, within)))))
  thing_right addr (Some (things.Source source)) is = All-nil IsRight
  thing_right addr (Some (things.Object z)) is =
      All-cons IsRight (owners.Headers addr) (owners.Extents addr ∷ owners.Trailers addr ∷ []) (headers_right addr z is)
      (All-cons IsRight (owners.Extents addr) (owners.Trailers addr ∷ []) (extents_right addr z is)
      (All-cons IsRight (owners.Trailers addr) [] (trailers_right addr z is) (All-nil IsRight)))

  abbrev names : List NameRow
  names = map name_row w.names

  abbrev tickets : Acct → List TicketRow
  tickets account = map ticket_row (tickets_of w.accounts account)

  catalogue_right : IsRight owners.Catalogue
  unfolding roots_by
  catalogue_right =
      let small : AreSmall name_addr names =
      All-map (λ (row : NameRow). name_addr row < 2 ^ 64) name_row w.names (All-weaker FitsName (λ n. n.block < 2 ^ 64) (λ n f. f.block) w.names fields.names) in
      rows_right heap owners.Catalogue name_addr name_block names names_fit small
      (All-left (StandsAt heap) (catalogue_entries names) (queue_entries w.accounts accts.Inbound ++ queue_entries w.accounts accts.Outbound) (others_stand heap w stands))
      (λ i. roots i 89) (eq-eqb _ _ (λ i. roots i 90))

  tickets_small : (ts : List Ticket) → All FitsTicket ts → AreSmall ticket_addr (map ticket_row ts)
  tickets_small ts fit =
      All-map (λ (row : TicketRow). ticket_addr row < 2 ^ 64) ticket_row ts (All-weaker FitsTicket (λ t. t.block < 2 ^ 64) (λ t f. f.block) ts fit)

  queues_stand : AllStandAt heap (queue_entries w.accounts accts.Inbound ++ queue_entries w.accounts accts.Outbound)
  queues_stand =
      All-right (StandsAt heap) (catalogue_entries names) (queue_entries w.accounts accts.Inbound ++ queue_entries w.accounts accts.Outbound) (others_stand heap w stands)

  inbound_right : IsRight (owners.Queue accts.Inbound)
  unfolding roots_by
  inbound_right =
      rows_right heap (owners.Queue accts.Inbound) ticket_addr (ticket_block accts.Inbound) (tickets accts.Inbound) (tickets_fit accts.Inbound)
      (tickets_small w.accounts.inbound.tickets fields.inbound)
      (All-left (StandsAt heap) (queue_entries w.accounts accts.Inbound) (queue_entries w.accounts accts.Outbound) queues_stand)
      (λ i. roots i 98) (eq-eqb _ _ (λ i. roots i 99))

  outbound_right : IsRight (owners.Queue accts.Outbound)
  unfolding roots_by
  outbound_right =
      rows_right heap (owners.Queue accts.Outbound) ticket_addr (ticket_block accts.Outbound) (tickets accts.Outbound) (tickets_fit accts.Outbound)
      (tickets_small w.accounts.outbound.tickets fields.outbound)
      (All-right (StandsAt heap) (queue_entries w.accounts accts.Inbound) (queue_entries w.accounts accts.Outbound) queues_stand)
      (λ i. roots i 106) (eq-eqb _ _ (λ i. roots i 107))

  roots_right : All IsRight root_owners
  roots_right =
      All-cons IsRight owners.Catalogue (owners.Queue accts.Inbound ∷ owners.Queue accts.Outbound ∷ []) catalogue_right
      (All-cons IsRight (owners.Queue accts.Inbound) (owners.Queue accts.Outbound ∷ []) inbound_right
      (All-cons IsRight (owners.Queue accts.Outbound) [] outbound_right (All-nil IsRight)))

  -- each chain of the heap is right
  pub owners_right : IsValid w → (words : ℕ) → All IsRight (owners_of heap words)
  owners_right valid words =
      All-append IsRight root_owners (flat_map (λ word. owned_at heap (8 * word)) (range_with_len 0 words)) roots_right
      (All-whole IsRight (λ word. owned_at heap (8 * word)) (range_with_len 0 words)
      (All-every (λ word. All IsRight (owned_at heap (8 * word))) (λ word.
      subst (All IsRight) (sym (owned_are heap w stands valid (8 * word))) (thing_right (8 * word) (thing_at w (8 * word)) refl)) (range_with_len 0 words)))
