-- What the answer to a call tells of media.
use Rattle.std.specs.Prelude.{◌≡◌, ℕ, true, List, Result, Err}
use Rattle.step_things.specs.Answering.{IsReady}
use Rattle.sdr_stands.specs.Standing.{HeapStandsFor}
use Rattle.sdr_base.specs.Objects.{Heap}
use Rattle.sdr_base.specs.declared.media.Media.{Ghosts}
use Rattle.sdr_base.specs.declared.stop.Stop.{Stop}
use Rattle.sdr_base.specs.declared.stop.Stop.TheVariants as stops
use Rattle.sdr_model.specs.Reading.{reads_media}
use Rattle.sdr_model.specs.World.{World}
use Rattle.sdr_model.specs.declared.answer.Reply.{Reply}
use Rattle.sdr_model.specs.declared.call.Call.{Call}
use Rattle.step_zco_parts.specs.Giving.{AgreesRead, MissesMedia}

-- In a world, what the call came to agrees with what media tell, and that they failed or had too few bytes has its cause. Where they
-- failed, it reads them, the heap stays, and so do the bytes that are shown.
pub record TellsMedia {M : Type 0} (m : Ghosts M) (w : World) (call : Call) (old new : Heap) (was shown : List ℕ) (before now : M)
    (result : Result Reply Stop) : Type 0 where
  pub agrees : AgreesRead (m.told before) w call result shown
  pub misses : MissesMedia m w call before now result
  pub stays : result ≡ Err stops.MediaFault → (reads_media call ≡ true) × (new ≡ old) × (shown ≡ was)

-- so it is in each world in which calls are served and for which the heap stood
pub record TellsInEach {M : Type 0} (m : Ghosts M) (call : Call) (old new : Heap) (was shown : List ℕ) (before now : M)
    (result : Result Reply Stop) : Type 0 where
  pub each : (w : World) → HeapStandsFor old w → IsReady w → TellsMedia m w call old new was shown before now result
