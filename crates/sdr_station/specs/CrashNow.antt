-- What a crash now leaves of a heap on an image.
use Rattle.std.proofs.Common.{ℕ, Bool, List, subst}
use Rattle.sdr_image.specs.QuietLaws.{rests_leaves}
use Rattle.sdr_machine.specs.Standing.{GroundState}
use Rattle.sdr_log.specs.Frame.{room_of}
use Rattle.sdr_station.specs.Grounded.{Grounded, Leaves, OpensAs, StandsForBoth}

module _ {D M : Type 0} (bytes : D → List ℕ) (tells : D → Bool) (moment : D → ℕ) (may_hold_after : D → ℕ → List ℕ → Type 0) where
  -- a crash now leaves what opens to the state before the transaction
  pub crash_now : (g : Grounded D M) (v : GroundState) (image : List ℕ) → StandsForBoth bytes tells moment may_hold_after g v
      → Leaves tells may_hold_after g.heap.cells.disk g.moment image → OpensAs image v.before
  crash_now g v image at l = record {
    heap = g.heap.cells.begun;
    back = rests_leaves bytes tells moment may_hold_after g.heap.cells at.memory.sound at.rests l.tells image
        (subst (λ (m : ℕ). may_hold_after g.heap.cells.disk m image) at.moment_is l.left);
    room = room_of g.heap.cells.frame;
    stands = at.memory.before;
  }
