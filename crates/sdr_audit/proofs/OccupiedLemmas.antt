-- The control words tell what is occupied.
use Rattle.std.proofs.Common.{◌≡◌, ◌/◌, ℕ, true, List, length, sym, ap, ◌∙◌}
use Rattle.std.proofs.lemmas.Bool.{eq-eqb}
use Rattle.sdr_base.specs.Pools.{Pools}
use Rattle.sdr_base.specs.Roots.{roots_by}
use Rattle.sdr_base.specs.declared.account.Acct.{Acct}
use Rattle.sdr_base.specs.declared.account.Acct.TheVariants as accts
use Rattle.sdr_base.specs.declared.control.TheConstants.{FILE_OCCUPANCY}
use Rattle.sdr_base.specs.declared.kind.Space.{Space}
use Rattle.sdr_base.specs.declared.kind.Space.TheVariants as spaces
use Rattle.sdr_stands.specs.Standing.{StandsForWhole}
use Rattle.audit_counts.specs.Occupied as heaps
use Rattle.audit_counts.specs.Occupied.{occupancy_word, tells_occupancy}
use Rattle.audit_counts.specs.Queues.{amounts_in}
use Rattle.sdr_model.specs.Charges.{occupancies, occupancy}
use Rattle.sdr_model.specs.World.{World}
use Rattle.audit_owners.specs.Owned.{AreBytes}
use Rattle.audit_owners.specs.View.{View, view_in}
use Rattle.audit_world.proofs.OccupiedLemmas.{occupancy_same}
use Rattle.sdr_audit.proofs.CountLemmas.{counts_kept}
use Rattle.sdr_audit.proofs.ToldLemmas.{heap_audited, world_is}

module _ (bytes : List ℕ) (w : World) (P : Pools) (s : StandsForWhole bytes w P) where
  abbrev heap : View
  heap = view_in bytes

  abbrev words : ℕ
  words = length bytes / 8

  -- the control words of an account are what is occupied in the world
  pub occupied_are : (account : Acct) → amounts_in heap account FILE_OCCUPANCY ≡ occupancies w account
  unfolding roots_by
  occupied_are accts.Inbound = λ i. record { file = s.stands.roots i 92; bulk = s.stands.roots i 93; heap = s.stands.roots i 94 }
  occupied_are accts.Outbound = λ i. record { file = s.stands.roots i 100; bulk = s.stands.roots i 101; heap = s.stands.roots i 102 }

  word_is : (account : Acct) (space : Space) → heap.roots (occupancy_word account space) ≡ occupancy w account space
  unfolding roots_by
  word_is accts.Inbound spaces.File = λ i. s.stands.roots i 92
  word_is accts.Inbound spaces.Bulk = λ i. s.stands.roots i 93
  word_is accts.Inbound spaces.Heap = λ i. s.stands.roots i 94
  word_is accts.Outbound spaces.File = λ i. s.stands.roots i 100
  word_is accts.Outbound spaces.Bulk = λ i. s.stands.roots i 101
  word_is accts.Outbound spaces.Heap = λ i. s.stands.roots i 102

  -- they are what is occupied in the heap
  pub occupancies_told : AreBytes bytes → (account : Acct) (space : Space) → tells_occupancy heap words account space ≡ true
  occupancies_told are account space =
      eq-eqb (heap.roots (occupancy_word account space)) (heaps.occupancy_in heap words account space)
      (word_is account space ∙ ap (λ (v : World). occupancy v account space) (sym (world_is bytes w P s are))
      ∙ occupancy_same heap words (heap_audited bytes w P s are) (counts_kept bytes w P s are) account space)
