-- A region that passes the steps of the audit stands for the world that it tells.
use Rattle.std.proofs.Common.{◌/◌, ℕ, List, length, arith, refl, subst}
use Rattle.sdr_stands.specs.Standing.{StandsFor}
use Rattle.sdr_base.specs.Cells.{IsRegionSize}
use Rattle.sdr_base.specs.KeptHeap.{KeepsHeap}
use Rattle.sdr_base.specs.Pools.{Pools}
use Rattle.audit_counts.specs.Checked.{IsRightRegion}
use Rattle.sdr_model.specs.Fields.{FitsFields}
use Rattle.sdr_model.specs.Whole.{IsWhole}
use Rattle.audit_owners.specs.Owned.{AreBytes}
use Rattle.audit_owners.specs.View.{view_in}
use Rattle.audit_world.proofs.AddressLemmas.{world_valid}
use Rattle.audit_world.proofs.FieldsLemmas.{fields_fit}
use Rattle.audit_world.proofs.FitLemmas.{world_fits}
use Rattle.audit_world.proofs.Fitting.{AreFitting}
use Rattle.audit_world.proofs.FittingLemmas.{fits_so}
use Rattle.audit_world.proofs.OwnLemmas.{IsAudited}
use Rattle.audit_world.proofs.QueueLemmas.{next_least, queues_barred, queues_kept}
use Rattle.audit_world.proofs.RegionLemmas.{audited, kept}
use Rattle.audit_world.proofs.RootLemmas.{roots_same}
use Rattle.audit_world.proofs.StandLemmas.{blocks_stand}
use Rattle.audit_world.proofs.ToldPoolsLemmas.{pools_are}
use Rattle.audit_world.specs.Standing.{IsCounted, StandsAsTold}
use Rattle.audit_world.specs.Told.{world_of}
use Rattle.audit_world.specs.ToldPools.{pools_of}
use Rattle.audit_blocks.specs.Region.{IsSoundRegion}

module _ (bytes : List ℕ) (c : IsCounted bytes) where
  -- the region as a heap
  heap_audited : IsAudited (view_in bytes) (length bytes / 8)
  heap_audited = audited bytes c.region c.sound c.bytes_are c.owned

  heap_fitting : AreFitting (view_in bytes) (length bytes / 8)
  heap_fitting = fits_so (view_in bytes) (length bytes / 8) heap_audited c.counted

  pub stands_so : StandsFor bytes (world_of bytes) (pools_of bytes)
  stands_so =
      let k = kept bytes c.region c.sound in
      record {
        heap = subst (λ (P : Pools). KeepsHeap bytes P) (pools_are bytes k.pools k.keeps) k.keeps;
        blocks = blocks_stand (view_in bytes) (length bytes / 8) heap_audited heap_fitting c.counted;
        roots = roots_same bytes c.sound.sound.control heap_audited c.counted;
        marks = refl;
        shown = refl;
        taken = refl;
      }

  -- the numbers of its world fit the fields of blocks
  fields_so : FitsFields (world_of bytes)
  fields_so =
      let whole = c.region.whole in
      let most = c.region.most in
      fields_fit (view_in bytes) (length bytes / 8) heap_audited (omega (arith, whole, most))

-- The told world of a region that passes all steps is whole.
whole_so : (bytes : List ℕ) (c : IsCounted bytes) → IsRightRegion bytes → IsWhole (world_of bytes)
whole_so bytes c right =
    let heap = heap_audited bytes c in
    let fitting = heap_fitting bytes c in
    record {
      valid = world_valid (view_in bytes) (length bytes / 8) heap fitting c.counted;
      fits = world_fits (view_in bytes) (length bytes / 8) heap fitting c.counted;
      queues = queues_kept bytes c.sound.sound.control heap right.queued;
      barred = queues_barred bytes c.sound.sound.control heap right.queued c.counted;
    }

-- The region stands for it.
pub stands_whole : (bytes : List ℕ) → IsRegionSize (length bytes) → AreBytes bytes → IsSoundRegion bytes → IsRightRegion bytes →
    StandsAsTold bytes
stands_whole bytes region are sound right =
    let c : IsCounted bytes = record { region = region; bytes_are = are; sound = sound; owned = right.owned; counted = right.counted } in
    record {
      told = record {
        stands = stands_so bytes c;
        whole = whole_so bytes c right;
        fits = fields_so bytes c;
        next = next_least bytes sound.sound.control (heap_audited bytes c) right.queued;
      };
    }
