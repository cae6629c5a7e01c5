-- The own block of each thing of a world stands at its address, and what is inside of it stands too.
use Rattle.std.proofs.Common.{◌≡◌, ℕ, [], ◌∷◌, ◌++◌, map, length, Some, refl, subst}
use Rattle.std.specs.List.{flat_map}
use Rattle.std.proofs.lemmas.List.Elements.{All-head, All-tail}
use Rattle.sdr_base.specs.Blocks.{Block}
use Rattle.sdr_base.specs.Entries.{Entries, BlocksAre}
use Rattle.sdr_base.specs.Hashes.{bucket_entries, hash_block}
use Rattle.sdr_base.specs.Linked.{first_of, last_of}
use Rattle.sdr_base.specs.Lists.{addr_of, elements_between, list_block}
use Rattle.sdr_base.specs.Raws.{raw_block}
use Rattle.sdr_base.specs.Sources.{source_block}
use Rattle.sdr_base.specs.Strings.{string_block}
use Rattle.sdr_base.specs.Tables.{table_block}
use Rattle.sdr_base.specs.ZcoObjects.{capsule_entries, extent_entries, object_block}
use Rattle.sdr_base.specs.declared.account.Acct.TheVariants as accts
use Rattle.sdr_stands.specs.Rows.{capsule_row, element_row, extent_row, hash_row, object_row, source_row, table_row}
use Rattle.sdr_stands.specs.Standing.{entries_of, thing_entries}
use Rattle.sdr_stands.specs.Ties.{Ties, ties_of}
use Rattle.sdr_model.specs.World.{World, thing_at}
use Rattle.sdr_model.specs.declared.things.Thing.{Thing}
use Rattle.sdr_model.specs.declared.things.Thing.TheVariants as things
use Rattle.audit_owners.specs.Linking.{AllStandAt, StandsAt}
use Rattle.audit_owners.specs.View.{View}
use Rattle.sdr_audit.proofs.SoundStandLemmas.{thing_stands}

-- the own block of a thing
abbrev pub own_block : Ties → ℕ → Thing → Block
own_block ties addr (things.Raw bytes) = raw_block (ties.named_by addr) bytes
own_block ties addr (things.Text text) = string_block text
own_block ties addr (things.List list) =
    let rows = map element_row list.elements in list_block list.user (length rows) (first_of addr_of 0 rows) (last_of addr_of 0 rows)
own_block ties addr (things.Table table) = table_block (table_row table)
own_block ties addr (things.Hash hash) = hash_block (hash_row hash)
own_block ties addr (things.Source source) =
    source_block (ties.counts addr accts.Inbound) (ties.counts addr accts.Outbound) (source_row source)
own_block ties addr (things.Object z) = object_block (object_row z)

-- the blocks inside of it
abbrev pub inner_entries : ℕ → Thing → Entries
inner_entries addr (things.List list) = elements_between addr 0 0 (map element_row list.elements)
inner_entries addr (things.Hash hash) = flat_map bucket_entries (hash_row hash).buckets
inner_entries addr (things.Object z) =
    capsule_entries (map capsule_row z.headers) ++ extent_entries (map extent_row z.extents) ++ capsule_entries (map capsule_row z.trailers)
inner_entries addr thing = []

-- a thing's blocks are both
pub parts : (ties : Ties) (addr : ℕ) (thing : Thing) →
    thing_entries ties addr thing ≡ (addr, own_block ties addr thing) ∷ inner_entries addr thing
parts ties addr (things.Raw bytes) = refl
parts ties addr (things.Text text) = refl
parts ties addr (things.List list) = refl
parts ties addr (things.Table table) = refl
parts ties addr (things.Hash hash) = refl
parts ties addr (things.Source source) = refl
parts ties addr (things.Object z) = refl

module _ (heap : View) (w : World) (stands : BlocksAre heap.blocks (entries_of w)) (addr : ℕ) (thing : Thing)
    (is : thing_at w addr ≡ Some thing) where
  all_stand : AllStandAt heap ((addr, own_block (ties_of w) addr thing) ∷ inner_entries addr thing)
  all_stand = subst (AllStandAt heap) (parts (ties_of w) addr thing) (thing_stands heap w stands addr thing is)

  pub own_stands : heap.blocks addr ≡ Some (own_block (ties_of w) addr thing)
  own_stands = (All-head (StandsAt heap) (addr, own_block (ties_of w) addr thing) (inner_entries addr thing) all_stand).is

  pub inner_stand : AllStandAt heap (inner_entries addr thing)
  inner_stand = All-tail (StandsAt heap) (addr, own_block (ties_of w) addr thing) (inner_entries addr thing) all_stand
