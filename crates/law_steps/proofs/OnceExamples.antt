-- A file that objects of both accounts name is charged once to each.
use Rattle.std.proofs.Common.{◌≡◌, refl}
use Rattle.std.specs.FinMap.{entries-from_sorted, get-from_sorted}
use Rattle.std.specs.Ordering.{nat_cmp}
use Rattle.sdr_base.specs.declared.account.Acct.TheVariants as accts
use Rattle.sdr_base.specs.declared.kind.Space.TheVariants as spaces
use Rattle.law_steps.specs.Charged.{charged, released}
use Rattle.law_steps.specs.OnceExample.{both_things, cloned_things, fewer_things, first_things, last_things, world_of}
use Rattle.sdr_model.specs.Charges.{occupancy}
use Rattle.sdr_model.specs.declared.call.Call.TheVariants as calls

pub first_out : occupancy (world_of first_things) accts.Outbound spaces.File ≡ 4
first_out = simp (entries-from_sorted nat_cmp first_things tt)

pub first_heap : occupancy (world_of first_things) accts.Outbound spaces.Heap ≡ 104
first_heap = simp (entries-from_sorted nat_cmp first_things tt)

pub clone_charges : charged (world_of first_things) (calls.ClonePart 16 0 0 1) accts.Outbound spaces.File ≡ 0
clone_charges = rw (get-from_sorted nat_cmp first_things 16 tt) refl

pub cloned_out : occupancy (world_of cloned_things) accts.Outbound spaces.File ≡ 4
cloned_out = simp (entries-from_sorted nat_cmp cloned_things tt)

pub both_out : occupancy (world_of both_things) accts.Outbound spaces.File ≡ 4
both_out = simp (entries-from_sorted nat_cmp both_things tt)

pub both_in : occupancy (world_of both_things) accts.Inbound spaces.File ≡ 4
both_in = simp (entries-from_sorted nat_cmp both_things tt)

pub first_gone : released (world_of both_things) (calls.Destroy 16) accts.Outbound spaces.File ≡ 0
first_gone = rw (get-from_sorted nat_cmp both_things 16 tt) (simp (entries-from_sorted nat_cmp both_things tt))

pub clone_gone : released (world_of fewer_things) (calls.Destroy 32) accts.Outbound spaces.File ≡ 4
clone_gone = rw (get-from_sorted nat_cmp fewer_things 32 tt) (simp (entries-from_sorted nat_cmp fewer_things tt))

pub last_out : occupancy (world_of last_things) accts.Outbound spaces.File ≡ 0
last_out = simp (entries-from_sorted nat_cmp last_things tt)

pub last_in : occupancy (world_of last_things) accts.Inbound spaces.File ≡ 4
last_in = simp (entries-from_sorted nat_cmp last_things tt)
