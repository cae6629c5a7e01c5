-- Each source tells how many extents of each account name it.
use Rattle.std.proofs.Common.{◌≡◌, ◌<◌, ◌/◌, ◌^◌, ◌||◌, ℕ, Bool, true, false, not, List, length, Some, arith, refl, sym, ap, ◌∙◌}
use Rattle.std.specs.Prelude.{Option}
use Rattle.std.proofs.lemmas.Bool.{and_from, eq-eqb}
use Rattle.sdr_base.specs.Blocks.{Block}
use Rattle.sdr_base.specs.Pools.{Pools}
use Rattle.sdr_base.specs.declared.account.Acct.{Acct}
use Rattle.sdr_base.specs.declared.account.Acct.TheVariants as accts
use Rattle.sdr_base.specs.declared.kind.Kind.{Kind}
use Rattle.sdr_base.specs.declared.kind.Kind.TheVariants as kinds
use Rattle.sdr_stands.specs.Standing.{StandsForWhole}
use Rattle.audit_counts.proofs.CountsLemmas.{count_small}
use Rattle.audit_counts.specs.Counts as heaps
use Rattle.audit_counts.specs.Counts.{count_field, keeps_counts, tells_count}
use Rattle.sdr_model.specs.World.{World, thing_at}
use Rattle.sdr_model.specs.Zco.{count_of}
use Rattle.sdr_model.specs.declared.things.Thing.TheVariants as things
use Rattle.sdr_model.specs.declared.zco.ZcoSource.{ZcoSource}
use Rattle.audit_owners.specs.Owned.{AreBytes}
use Rattle.audit_owners.specs.View.{View, is_kind, view_in, word_of}
use Rattle.audit_world.proofs.OwnLemmas.{IsAudited, own_of}
use Rattle.audit_world.proofs.TiesLemmas.{count_same}
use Rattle.audit_world.specs.Told.{source_told, thing_by, thing_of_kind}
use Rattle.sdr_audit.proofs.MembersLemmas.{region}
use Rattle.sdr_audit.proofs.ObjectLemmas.{source_word}
use Rattle.sdr_audit.proofs.ThingLemmas.{fits_thing, thing_is}
use Rattle.sdr_audit.proofs.ToldLemmas.{heap_audited, world_is}

-- a rule for blocks of one sort is kept where each of them keeps it
pub where_so : (t r : Bool) → (t ≡ true → r ≡ true) → (not t || r) ≡ true
where_so true r so = so refl
where_so false r so = refl

module _ (bytes : List ℕ) (w : World) (P : Pools) (s : StandsForWhole bytes w P) (are : AreBytes bytes) where
  abbrev heap : View
  heap = view_in bytes

  abbrev words : ℕ
  words = length bytes / 8

  abbrev audit : IsAudited heap words
  audit = heap_audited bytes w P s are

  -- the thing of the world where a block of a kind stands
  pub thing_there : (kind : Kind) (addr : ℕ) → is_kind kind (heap.blocks addr) ≡ true → thing_at w addr ≡ thing_of_kind kind heap words addr
  thing_there kind addr is =
      let b = own_of heap words audit kind addr is in
      sym (thing_is bytes w P s addr)
      ∙ ap (λ (o : Option Block). thing_by o heap words addr) b.is
      ∙ ap (λ (k : Kind). thing_of_kind k heap words addr) b.kind_is

  -- how many extents of an account's objects name a source of the world
  count_is : (addr : ℕ) (account : Acct) → count_of w addr account ≡ heaps.named_count heap words account addr
  count_is addr account =
      ap (λ (v : World). count_of v addr account) (sym (world_is bytes w P s are)) ∙ count_same heap words audit addr account

  count_fits : (addr : ℕ) (account : Acct) → count_of w addr account < 2 ^ 64
  count_fits addr account =
      let lines = (region bytes w P s).whole in
      let most = (region bytes w P s).most in
      let few = count_small heap words account addr (omega (arith, lines, most)) in
      let same = count_is addr account in
      omega (arith, few, same)

  -- the word of a source with the count of an account
  pub count_told : (addr : ℕ) (source : ZcoSource) → thing_at w addr ≡ Some (things.Source source) → (account : Acct) →
      word_of (heap.blocks addr) (count_field account) ≡ count_of w addr account
  count_told addr source is accts.Inbound =
      source_word bytes w P s addr source is (fits_thing bytes w P s addr (things.Source source) is).1 2 (omega arith)
      (count_fits addr accts.Inbound)
  count_told addr source is accts.Outbound =
      source_word bytes w P s addr source is (fits_thing bytes w P s addr (things.Source source) is).1 3 (omega arith)
      (count_fits addr accts.Outbound)

  tells : (addr : ℕ) (source : ZcoSource) → thing_at w addr ≡ Some (things.Source source) → (account : Acct) →
      tells_count heap words account addr ≡ true
  tells addr source is account =
      eq-eqb (word_of (heap.blocks addr) (count_field account)) (heaps.named_count heap words account addr)
      (count_told addr source is account ∙ count_is addr account)

  -- each source tells both counts
  pub counts_kept : (addr : ℕ) → keeps_counts heap words addr ≡ true
  counts_kept addr =
      where_so (is_kind kinds.Source (heap.blocks addr)) _ (λ is.
      let there = thing_there kinds.Source addr is in
      and_from (tells_count heap words accts.Inbound addr) (tells_count heap words accts.Outbound addr)
      (tells addr (source_told (heap.blocks addr)) there accts.Inbound) (tells addr (source_told (heap.blocks addr)) there accts.Outbound))
