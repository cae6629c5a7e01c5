-- The blocks to which the links of an owner lead are those of the world's row.
use Rattle.std.proofs.Common.{◌≡◌, ◌<◌, ◌+◌, ◌-◌, ◌*◌, ◌/◌, ℕ, List, [], ◌∷◌, map, length, Some, arith, sym, ap, ◌∙◌}
use Rattle.std.specs.Prelude.{Option}
use Rattle.std.specs.List.{All, flat_map, range_with_len}
use Rattle.std.proofs.lemmas.List.Elements.{All-head, All-tail, All-weaker}
use Rattle.sdr_base.specs.Catalogue.{name_addr}
use Rattle.sdr_base.specs.Cells.{IsRegionSize}
use Rattle.sdr_base.specs.Hashes.{item_addr}
use Rattle.sdr_base.specs.Lists.{addr_of}
use Rattle.sdr_base.specs.Pools.{Pools}
use Rattle.sdr_base.specs.Tickets.{ticket_addr}
use Rattle.sdr_base.specs.ZcoObjects.{capsule_addr, extent_addr}
use Rattle.sdr_base.specs.declared.account.Acct.{Acct}
use Rattle.sdr_base.specs.declared.account.Acct.TheVariants as accts
use Rattle.sdr_stands.specs.Rows.{bucket_row, capsule_row, element_row, extent_row, name_row}
use Rattle.sdr_stands.specs.Standing.{StandsForWhole}
use Rattle.sdr_stands.specs.Ties.{ties_of}
use Rattle.audit_owners.proofs.ChainLemmas.{chains_members}
use Rattle.audit_owners.specs.Members.{members}
use Rattle.sdr_model.specs.Accounts.{tickets_of}
use Rattle.sdr_model.specs.Hashes.{Hash}
use Rattle.sdr_model.specs.TicketRows.{ticket_row}
use Rattle.sdr_model.specs.World.{World, thing_at}
use Rattle.sdr_model.specs.declared.things.SdrList.{SdrList}
use Rattle.sdr_model.specs.declared.things.Thing.{Thing}
use Rattle.sdr_model.specs.declared.things.Thing.TheVariants as things
use Rattle.sdr_model.specs.declared.zco.ZcoObject.{ZcoObject}
use Rattle.audit_owners.specs.Chains.{Chain}
use Rattle.audit_owners.specs.Owners.{owned_at, owners_of, root_owners}
use Rattle.audit_owners.specs.View.{View, view_in}
use Rattle.audit_owners.specs.declared.owner.Owner.{Owner}
use Rattle.audit_owners.specs.declared.owner.Owner.TheVariants as owners
use Rattle.audit_world.proofs.ChainLemmas.{all_in_map}
use Rattle.sdr_audit.proofs.ToldStandLemmas.{own_block, own_stands}
use Rattle.sdr_audit.proofs.ControlLemmas as control
use Rattle.sdr_audit.proofs.KeptLemmas.{All-unmap}
use Rattle.sdr_audit.proofs.OwnerLemmas.{owners_in}
use Rattle.sdr_audit.proofs.ReachLemmas.{reached, thing_owners, world_chains}
use Rattle.sdr_audit.proofs.SoundStandLemmas.{All-left}
use Rattle.sdr_audit.specs.WorldChains.{chain_in, chain_of, elements_of, extents_of, headers_of, items_of, trailers_of}

module _ (bytes : List ℕ) (w : World) (P : Pools) (s : StandsForWhole bytes w P) where
  abbrev heap : View
  heap = view_in bytes

  abbrev words : ℕ
  words = length bytes / 8

  pub region : IsRegionSize (length bytes)
  region = control.region bytes w P s

  -- the links of an owner lead over the world's row
  abbrev pub HasRow : Owner → Type 0
  HasRow owner = members heap words owner ≡ chain_in w owner

  pub members_are : All HasRow (owners_of heap words)
  members_are =
      let whole = region.whole in
      All-weaker (λ owner. chain_in w owner ≡ members heap words owner) HasRow (λ owner is. sym is) (owners_of heap words)
      (All-unmap (λ (chain : Chain). chain.addrs ≡ members heap words chain.owner) (chain_of w) (owners_of heap words)
      (chains_members bytes (owners_of heap words) (reached bytes w P region s) (omega (arith, whole)) (world_chains bytes w P region s)))

  roots_are : All HasRow root_owners
  roots_are = All-left HasRow root_owners (flat_map (λ word. owned_at heap (8 * word)) (range_with_len 0 words)) members_are

  queues_are : All HasRow (owners.Queue accts.Inbound ∷ owners.Queue accts.Outbound ∷ [])
  queues_are = All-tail HasRow owners.Catalogue (owners.Queue accts.Inbound ∷ owners.Queue accts.Outbound ∷ []) roots_are

  pub name_members : members heap words owners.Catalogue ≡ map name_addr (map name_row w.names)
  name_members = All-head HasRow owners.Catalogue (owners.Queue accts.Inbound ∷ owners.Queue accts.Outbound ∷ []) roots_are

  pub ticket_members : (account : Acct) →
      members heap words (owners.Queue account) ≡ map ticket_addr (map ticket_row (tickets_of w.accounts account))
  ticket_members accts.Inbound = All-head HasRow (owners.Queue accts.Inbound) (owners.Queue accts.Outbound ∷ []) queues_are
  ticket_members accts.Outbound =
      All-head HasRow (owners.Queue accts.Outbound) []
      (All-tail HasRow (owners.Queue accts.Inbound) (owners.Queue accts.Outbound ∷ []) queues_are)

  -- so do those of the owners of a thing
  thing_members : (addr : ℕ) (thing : Thing) → thing_at w addr ≡ Some thing → All HasRow (owners_in addr (Some thing))
  thing_members addr thing is =
      thing_owners bytes w P region s HasRow members_are addr thing (own_block (ties_of w) addr thing) is
      (own_stands heap w s.stands.blocks addr thing is)

  pub list_members : (addr : ℕ) (list : SdrList) → thing_at w addr ≡ Some (things.List list) →
      members heap words (owners.List addr) ≡ map addr_of (map element_row list.elements)
  list_members addr list is =
      All-head HasRow (owners.List addr) [] (thing_members addr (things.List list) is)
      ∙ ap (λ (o : Option Thing). map addr_of (elements_of o)) is

  pub bucket_members : (addr : ℕ) (hash : Hash) → thing_at w addr ≡ Some (things.Hash hash) → (k : ℕ) → k < hash.buckets →
      members heap words (owners.Bucket addr (3 + k)) ≡ map item_addr (bucket_row hash k)
  bucket_members addr hash is k less =
      let back : 3 + k - 3 ≡ k = omega arith in
      all_in_map HasRow (λ number. owners.Bucket addr (3 + number)) ((24 + 8 * hash.buckets) / 8 - 3) 0 k (omega arith)
      (omega (arith, less))
      (thing_members addr (things.Hash hash) is)
      ∙ ap (λ (o : Option Thing). map item_addr (items_of (3 + k - 3) o)) is ∙ ap (λ (n : ℕ). map item_addr (bucket_row hash n)) back

  module _ (addr : ℕ) (z : ZcoObject) (is : thing_at w addr ≡ Some (things.Object z)) where
    three : All HasRow (owners.Headers addr ∷ owners.Extents addr ∷ owners.Trailers addr ∷ [])
    three = thing_members addr (things.Object z) is

    two : All HasRow (owners.Extents addr ∷ owners.Trailers addr ∷ [])
    two = All-tail HasRow (owners.Headers addr) (owners.Extents addr ∷ owners.Trailers addr ∷ []) three

    pub header_members : members heap words (owners.Headers addr) ≡ map capsule_addr (map capsule_row z.headers)
    header_members =
        All-head HasRow (owners.Headers addr) (owners.Extents addr ∷ owners.Trailers addr ∷ []) three
        ∙ ap (λ (o : Option Thing). map capsule_addr (headers_of o)) is

    pub extent_members : members heap words (owners.Extents addr) ≡ map extent_addr (map extent_row z.extents)
    extent_members =
        All-head HasRow (owners.Extents addr) (owners.Trailers addr ∷ []) two ∙ ap (λ (o : Option Thing). map extent_addr (extents_of o)) is

    pub trailer_members : members heap words (owners.Trailers addr) ≡ map capsule_addr (map capsule_row z.trailers)
    trailer_members =
        All-head HasRow (owners.Trailers addr) [] (All-tail HasRow (owners.Extents addr) (owners.Trailers addr ∷ []) two)
        ∙ ap (λ (o : Option Thing). map capsule_addr (trailers_of o)) is
