-- What is said of a stop goes by the moves and by the room for more.
use Rattle.std.proofs.Common.{◌≡◌, ◌∙◌}
use Rattle.sdr_base.specs.Objects.{Heap, OnlyUnmoved}
use Rattle.sdr_base.specs.declared.refusal.Refusal.TheVariants.{LogFull}
use Rattle.sdr_base.specs.declared.stop.Stop.{Stop}
use Rattle.sdr_base.specs.declared.stop.Stop.TheVariants.{Refused, DiskFault, MediaFault, Failed}

-- no move was made since an earlier state either
pub unmoved_since : (old mid new : Heap) (stop : Stop) → mid.moves ≡ old.moves → mid.spare ≡ old.spare →
    OnlyUnmoved mid new stop → OnlyUnmoved old new stop
unmoved_since old mid new (Refused (LogFull lines room)) m s u = record { moves = u.moves ∙ m; spare = u.spare ∙ s }
unmoved_since old mid new (Refused refusal) m s u = absurd u
unmoved_since old mid new DiskFault m s u = tt
unmoved_since old mid new MediaFault m s u = absurd u
unmoved_since old mid new Failed m s u = tt
