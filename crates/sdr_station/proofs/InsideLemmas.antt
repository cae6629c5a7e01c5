-- What changes of the disk's other bytes, over the calls of a ground.
use Rattle.std.proofs.Common.{◌≡◌, ◌∙◌, ℕ, Bool, List, [], ◌∷◌, Err, refl, sym, ap, subst}
use Rattle.sdr_base.specs.declared.stop.Stop.{Stop}
use Rattle.sdr_base.specs.declared.stop.Stop.TheVariants as stops
use Rattle.sdr_disk.proofs.RangesLemmas.{Agrees-refl, Agrees-trans}
use Rattle.sdr_heap.specs.Noted.{Held}
use Rattle.sdr_image.specs.Opened.{IsQuiet, Opened, StaysAt}
use Rattle.sdr_log.specs.Calls.{KeepsOutside, regions_of}
use Rattle.sdr_log.specs.declared.frame.Frame.{Frame}
use Rattle.sdr_station.specs.Grounded.{Grounded, StaysInside}

-- a call that was stopped leaves the regions
pub stays_frame : {D : Type 0} (stop : Stop) (old new : Opened D) → StaysAt {T = Unit {0}} (Err stop) old new → new.frame ≡ old.frame
stays_frame {D} (stops.Refused refusal) old new same = ap (λ (i : Opened D). i.frame) same
stays_frame {D} stops.DiskFault old new fails = fails.frame
stays_frame {D} stops.MediaFault old new same = ap (λ (i : Opened D). i.frame) same
stays_frame {D} stops.Failed old new same = ap (λ (i : Opened D). i.frame) same

module _ {D M : Type 0} (bytes : D → List ℕ) (tells : D → Bool) where
  -- a heap that a ground has come to, on a disk with the same regions
  pub inside_closed : (old new : Grounded D M) (heap : Held (Opened D)) → new.heap ≡ heap → heap.cells.frame ≡ old.heap.cells.frame
      → tells heap.cells.disk ≡ tells old.heap.cells.disk
      → KeepsOutside old.heap.cells.frame (bytes old.heap.cells.disk) (bytes heap.cells.disk) → StaysInside bytes tells old new
  inside_closed old new heap is frame told outside = record {
    frame = ap (λ (h : Held (Opened D)). h.cells.frame) is ∙ frame;
    tells = ap (λ (h : Held (Opened D)). tells h.cells.disk) is ∙ told;
    outside = subst (λ (h : Held (Opened D)). KeepsOutside old.heap.cells.frame (bytes old.heap.cells.disk) (bytes h.cells.disk))
        (sym is) outside;
  }

  -- on the same disk
  pub inside_same : (old new : Grounded D M) (heap : Held (Opened D)) → new.heap ≡ heap → heap.cells.frame ≡ old.heap.cells.frame
      → heap.cells.disk ≡ old.heap.cells.disk → StaysInside bytes tells old new
  inside_same old new heap is frame disk =
      inside_closed old new heap is frame (ap tells disk)
      (subst (λ (d : D). KeepsOutside old.heap.cells.frame (bytes old.heap.cells.disk) (bytes d)) (sym disk)
      (Agrees-refl (regions_of old.heap.cells.frame ∷ []) (bytes old.heap.cells.disk)))

  -- in a call within a transaction
  pub inside_quiet : (moment : D → ℕ) (may_hold_after : D → ℕ → List ℕ → Type 0) (old new : Grounded D M)
      → IsQuiet bytes tells moment may_hold_after old.heap.cells new.heap.cells → StaysInside bytes tells old new
  inside_quiet moment may_hold_after old new q = record { frame = q.frame; tells = q.disk.tells; outside = q.inside }

  -- over no call
  pub inside_refl : (old new : Grounded D M) → new ≡ old → StaysInside bytes tells old new
  inside_refl old new is = inside_same old new old.heap (ap (λ (g : Grounded D M). g.heap) is) refl refl

  -- and over two calls
  pub inside_then : (old mid new : Grounded D M) → StaysInside bytes tells old mid → StaysInside bytes tells mid new
      → StaysInside bytes tells old new
  inside_then old mid new f g = record {
    frame = g.frame ∙ f.frame;
    tells = g.tells ∙ f.tells;
    outside = Agrees-trans (regions_of old.heap.cells.frame ∷ []) _ _ _ f.outside
        (subst (λ (r : Frame). KeepsOutside r (bytes mid.heap.cells.disk) (bytes new.heap.cells.disk)) f.frame g.outside);
  }
