-- What is occupied in the world that a heap tells is what is occupied in the heap.
use Rattle.std.proofs.Common.{◌≡◌, ◌≤◌, ◌+◌, ◌-◌, ◌*◌, ◌==◌, ◌&&◌, ◌||◌, ℕ, zero, suc, Bool, List, [], ◌∷◌, cond, not, true, false, length, map, sum_by, arith, ap, ◌∙◌, refl, sym, eqb-true}
use Rattle.std.specs.Prelude.{Option, None, Some}
use Rattle.std.specs.FinMap as finite
use Rattle.std.specs.List.{All}
use Rattle.std.specs.Option.{option_map_or}
use Rattle.std.proofs.lemmas.List.{length-drop, length-map}
use Rattle.std.proofs.lemmas.List.Elements.{All-cons, All-head, All-nil, All-tail}
use Rattle.sdr_base.specs.Blocks.{Block}
use Rattle.sdr_base.specs.Kinds.{kind_number}
use Rattle.sdr_base.specs.ZcoObjects.{account_number}
use Rattle.sdr_base.specs.declared.account.Acct.{Acct}
use Rattle.sdr_base.specs.declared.account.Acct.TheVariants as accts
use Rattle.sdr_base.specs.declared.kind.Kind.{Kind}
use Rattle.sdr_base.specs.declared.kind.Kind.TheVariants as kinds
use Rattle.sdr_base.specs.declared.kind.Space.{Space}
use Rattle.sdr_base.specs.declared.kind.Space.TheVariants as spaces
use Rattle.audit_counts.specs.Counted.{IsCounted}
use Rattle.audit_counts.specs.Counts.{keeps_counts}
use Rattle.audit_owners.specs.Places.{places}
use Rattle.audit_owners.specs.Members.{members}
use Rattle.audit_counts.specs.Occupied as heaps
use Rattle.audit_counts.specs.Queues.{ticket_in}
use Rattle.sdr_model.proofs.SumLemmas.{sum_by-map}
use Rattle.sdr_model.specs.Accounts.{tickets_of}
use Rattle.sdr_model.specs.Amounts.{amount, in_space}
use Rattle.sdr_model.specs.Charges.{capsule_bytes, capsule_charge, extent_bytes, left_in, object_bytes, occupancy, source_charge, thing_charge}
use Rattle.sdr_model.specs.Zco as model
use Rattle.sdr_model.specs.declared.accounts.Ticket.{Ticket}
use Rattle.sdr_model.specs.declared.things.Thing.{Thing}
use Rattle.audit_owners.specs.Chains.{ChainGoes, is_member, next_of}
use Rattle.audit_owners.specs.Reading.{behind_words}
use Rattle.audit_owners.specs.Rules.{IsKept}
use Rattle.audit_owners.specs.View.{View, is_kind, length_of, word_of}
use Rattle.audit_owners.specs.declared.owner.Owner.{Owner}
use Rattle.audit_owners.specs.declared.owner.Owner.TheVariants as owners
use Rattle.audit_owners.specs.declared.rules.OwnerRule.TheVariants as which
use Rattle.audit_world.proofs.LinkLemmas.{object_account}
use Rattle.audit_world.proofs.OwnLemmas.{IsAudited, own_of}
use Rattle.audit_world.proofs.RowLemmas.{sum_row}
use Rattle.audit_world.proofs.SourceLemmas.{source_of, source_word, subject_by}
use Rattle.audit_world.proofs.TiesLemmas.{account_same, kind_apart, stored_same, thing_cases, thing_is, things_are}
use Rattle.audit_world.specs.Told.{capsule_told, extent_told, object_told, source_told, thing_by, thing_of_kind, thing_told, world_told}

-- the space of a subject, by the number of its medium
space_is : (medium number : ℕ) (path : List ℕ) → 1 ≤ medium → medium ≤ 4 →
    model.space_of (subject_by medium number path) ≡ cond (medium == 1) spaces.File (cond (medium == 2) spaces.Bulk spaces.Heap)
space_is zero number path least most = absurd (omega (arith, least))
space_is (suc zero) number path least most = refl
space_is (suc (suc zero)) number path least most = refl
space_is (suc (suc (suc zero))) number path least most = refl
space_is (suc (suc (suc (suc zero)))) number path least most = refl
space_is (suc (suc (suc (suc (suc n))))) number path least most = absurd (omega (arith, most))

pub length-behind : (o : Option Block) → length (behind_words o 1) ≡ length_of o - 8
length-behind None = refl
length-behind (Some block) = length-drop 8 block.bytes

module _ (heap : View) (words : ℕ) where
  -- the blocks of a chain are of its kind
  pub goes_members : (owner : Owner) (before link : ℕ) (addrs : List ℕ) (last next : ℕ) → ChainGoes heap owner before link addrs last next →
      All (λ addr. is_member heap owner addr ≡ true) addrs
  goes_members owner before link [] last next goes = All-nil (λ addr. is_member heap owner addr ≡ true)
  goes_members owner before link (a ∷ addrs) last next (is, some, member, named, more) =
      All-cons (λ addr. is_member heap owner addr ≡ true) a addrs member (goes_members owner a (next_of heap owner a) addrs last next more)

pub all_so : {X : Type 0} (P Q : X → Type 0) → ((x : X) → P x → Q x) → (xs : List X) → All P xs → All Q xs
all_so P Q so [] all = All-nil Q
all_so P Q so (x ∷ xs) all = All-cons Q x xs (so x (All-head P x xs all)) (all_so P Q so xs (All-tail P x xs all))

module _ (heap : View) (words : ℕ) (a : IsAudited heap words) where
  -- each extent's source is there
  sources_there : IsKept heap a.owned.reached which.SourceIsThere
  sources_there = a.owned.kept.0

  pub source_there : (addr : ℕ) → is_kind kinds.Extent (heap.blocks addr) ≡ true → is_kind kinds.Source (heap.blocks (word_of (heap.blocks addr) 0)) ≡ true
  source_there addr is =
      sym (ap (λ (t : Bool). not t || is_kind kinds.Source (heap.blocks (word_of (heap.blocks addr) 0))) is) ∙ sources_there addr

  -- the source at an address is what its block tells
  pub source_at_is : (addr : ℕ) → is_kind kinds.Source (heap.blocks addr) ≡ true → model.source_at (world_told heap words) addr ≡ Some (source_told (heap.blocks addr))
  source_at_is addr is =
      ap model.as_source (thing_is heap words a addr) ∙ by_block (heap.blocks addr) refl
    where
      by_block : (o : Option Block) → heap.blocks addr ≡ o → model.as_source (thing_told heap words addr) ≡ Some (source_told (heap.blocks addr))
      by_block o at =
          let b = own_of heap words a kinds.Source addr is in
          ap (λ (o : Option Block). model.as_source (thing_by o heap words addr)) b.is
          ∙ ap (λ (k : Kind). model.as_source (thing_of_kind k heap words addr)) b.kind_is

  -- the space of the bytes of the source that a block tells
  space_same : (addr : ℕ) → is_kind kinds.Source (heap.blocks addr) ≡ true → model.space_of (source_told (heap.blocks addr)).subject ≡ heaps.medium_space (heap.blocks addr)
  space_same addr is =
      let b = own_of heap words a kinds.Source addr is in
      let told = source_word heap words a addr b 0 (omega arith) in
      let least = (source_of heap words a addr b).least in
      let most = (source_of heap words a addr b).most in
      space_is (word_of (heap.blocks addr) 0) (word_of (heap.blocks addr) 4) (behind_words (heap.blocks addr) 6) (omega (arith, told, least)) (omega (arith, told, most))

  capsules_same : (space : Space) (owner : Owner) →
      sum_by (capsule_charge space) (map (capsule_told heap) (members heap words owner)) ≡ sum_by (heaps.capsule_charge_at heap space) (members heap words owner)
  capsules_same space owner =
      sum_by-map (capsule_charge space) (capsule_told heap) (members heap words owner)
      ∙ (λ i. sum_by (λ (n : ℕ). in_space spaces.Heap (capsule_bytes (length-behind (heap.blocks n) i)) space) (members heap words owner))

  -- what the source at an address charges, by the counts that its block tells
  source_same : ((addr : ℕ) → keeps_counts heap words addr ≡ true) → (account : Acct) (space : Space) (addr : ℕ) → is_kind kinds.Source (heap.blocks addr) ≡ true →
      source_charge (world_told heap words) account space addr (source_told (heap.blocks addr)) ≡ heaps.source_charge_at heap account space addr
  source_same counted account space addr is = λ i.
      cond (stored_same heap words a counted account addr is i == 0) 0 (in_space (space_same addr is i) (word_of (heap.blocks addr) 5) space)

  -- what an object charges for its extents
  extents_same : (space : Space) (addr : ℕ) →
      in_space spaces.Heap (extent_bytes * length (object_told heap words addr).extents) space
      ≡ in_space spaces.Heap (extent_bytes * length (members heap words (owners.Extents addr))) space
  extents_same space addr = ap (λ (n : ℕ). in_space spaces.Heap (extent_bytes * n) space) (length-map (members heap words (owners.Extents addr)) (extent_told heap))

  -- what the block at an address charges, by whether it is an object, and a source
  abbrev charge_by : Acct → Space → ℕ → Bool → Bool → ℕ
  charge_by account space addr object source =
      cond (object && word_of (heap.blocks addr) 0 == account_number account) (heaps.object_charge_at heap words space addr)
      (cond source (heaps.source_charge_at heap account space addr) 0)

  -- what the thing at an address charges, where each source tells its counts
  charge_same : ((addr : ℕ) → keeps_counts heap words addr ≡ true) → (account : Acct) (space : Space) (addr : ℕ) →
      option_map_or (thing_charge (world_told heap words) account space addr) (thing_told heap words addr) 0 ≡ heaps.charge_at heap words account space addr
  charge_same counted account space addr =
      thing_cases heap words (λ (o : Option Thing). option_map_or (thing_charge (world_told heap words) account space addr) o 0 ≡ heaps.charge_at heap words account space addr) addr
      (λ at. sym (ap (λ (o : Option Block). charge_by account space addr (is_kind kinds.Object o) (is_kind kinds.Source o)) at))
      by_kind
    where
      other : (kind : Kind) → is_kind kind (heap.blocks addr) ≡ true → (kind_number kind == 10) ≡ false → (kind_number kind == 9) ≡ false →
          0 ≡ heaps.charge_at heap words account space addr
      other kind is no_object no_source =
          sym (λ i. charge_by account space addr (kind_apart kind kinds.Object (heap.blocks addr) is no_object i) (kind_apart kind kinds.Source (heap.blocks addr) is no_source i))

      by_kind : (kind : Kind) → is_kind kind (heap.blocks addr) ≡ true →
          option_map_or (thing_charge (world_told heap words) account space addr) (thing_of_kind kind heap words addr) 0 ≡ heaps.charge_at heap words account space addr
      by_kind kinds.Raw is = other kinds.Raw is refl refl
      by_kind kinds.Text is = other kinds.Text is refl refl
      by_kind kinds.List is = other kinds.List is refl refl
      by_kind kinds.Element is = other kinds.Element is refl refl
      by_kind kinds.Table is = other kinds.Table is refl refl
      by_kind kinds.Hash is = other kinds.Hash is refl refl
      by_kind kinds.HashEntry is = other kinds.HashEntry is refl refl
      by_kind kinds.Name is = other kinds.Name is refl refl
      by_kind kinds.Source is =
          source_same counted account space addr is
          ∙ sym (λ i. charge_by account space addr (kind_apart kinds.Source kinds.Object (heap.blocks addr) is refl i) (is i))
      by_kind kinds.Object is =
          (λ i. cond (account_same account (word_of (heap.blocks addr) 0) (object_account heap words a addr is) i)
          (in_space spaces.Heap object_bytes space + extents_same space addr i + capsules_same space (owners.Headers addr) i + capsules_same space (owners.Trailers addr) i) 0)
          ∙ sym (λ i. charge_by account space addr (is i) (kind_apart kinds.Object kinds.Source (heap.blocks addr) is refl i))
      by_kind kinds.Extent is = other kinds.Extent is refl refl
      by_kind kinds.Capsule is = other kinds.Capsule is refl refl
      by_kind kinds.Ticket is = other kinds.Ticket is refl refl

  left_same : (space : Space) (addr : ℕ) → amount (ticket_in heap addr).left space ≡ heaps.left_at heap space addr
  left_same spaces.File addr = refl
  left_same spaces.Bulk addr = refl
  left_same spaces.Heap addr = refl

  tickets_left : (account : Acct) (space : Space) → left_in space (tickets_of (world_told heap words).accounts account) ≡ sum_by (heaps.left_at heap space) (members heap words (owners.Queue account))
  tickets_left accts.Inbound space = left_all (members heap words (owners.Queue accts.Inbound)) space
    where
      left_all : (ms : List ℕ) (space : Space) → left_in space (map (ticket_in heap) ms) ≡ sum_by (heaps.left_at heap space) ms
      left_all ms space = sum_by-map (λ (t : Ticket). amount t.left space) (ticket_in heap) ms ∙ (λ i. sum_by (λ (n : ℕ). left_same space n i) ms)
  tickets_left accts.Outbound space =
      sum_by-map (λ (t : Ticket). amount t.left space) (ticket_in heap) (members heap words (owners.Queue accts.Outbound))
      ∙ (λ i. sum_by (λ (n : ℕ). left_same space n i) (members heap words (owners.Queue accts.Outbound)))

  -- what is occupied of a space in an account, where each source tells its counts
  pub occupancy_same : ((addr : ℕ) → keeps_counts heap words addr ≡ true) → (account : Acct) (space : Space) →
      occupancy (world_told heap words) account space ≡ heaps.occupancy_in heap words account space
  occupancy_same counted account space =
      let charge : ℕ × Thing → ℕ = λ e. thing_charge (world_told heap words) account space e.0 e.1 in
      let at_place : (p : ℕ) (o : Option Thing) → thing_told heap words p ≡ o → option_map_or (λ x. charge (p, x)) o 0 ≡ heaps.charge_at heap words account space p = λ p o is.
      ap (λ (o : Option Thing). option_map_or (thing_charge (world_told heap words) account space p) o 0) (sym is) ∙ charge_same counted account space p in
      let things : sum_by charge (finite.entries (world_told heap words).things) ≡ sum_by (heaps.charge_at heap words account space) (places words) =
      ap (sum_by charge) (things_are heap words a)
      ∙ sum_row (thing_told heap words) charge (heaps.charge_at heap words account space)
      (λ p x is. at_place p (Some x) is)
      (λ p is. sym (at_place p None is))
      0 words in
      λ i. things i + tickets_left account space i

  -- the control words tell it
  pub occupancy_told : IsCounted heap words → (account : Acct) (space : Space) →
      heap.roots (heaps.occupancy_word account space) ≡ occupancy (world_told heap words) account space
  occupancy_told c account space = eqb-true (heap.roots (heaps.occupancy_word account space)) _ (c.occupancies account space) ∙ sym (occupancy_same c.counts account space)
