-- Why calls on the lists of queues stop, where the lists are there.
use Rattle.std.proofs.Common.{◌≡◌, ℕ, ap, ◌∙◌}
use Rattle.sdr_base.specs.Lists.{ListRow, KeepsList}
use Rattle.sdr_base.specs.Making.{besides}
use Rattle.sdr_base.specs.Objects.{Heap, OnlyShort, OnlyUnmoved}
use Rattle.sdr_base.specs.declared.kind.Kind.TheVariants as kinds
use Rattle.sdr_base.specs.declared.refusal.Refusal.TheVariants as refusals
use Rattle.sdr_base.specs.declared.stop.Stop.{Stop}
use Rattle.sdr_base.specs.declared.stop.Stop.TheVariants.{Refused, DiskFault, MediaFault, Failed}
use Rattle.sdr_list.specs.Calls.{ChangeStops, InsertStops}
use Rattle.bp_queue.proofs.QueueLemmas.{missed_only}

-- no block for an element, no log room, or a fault
pub insert_short : {list : ℕ} {row : ListRow} (old new : Heap) → KeepsList old.blocks list row → (stop : Stop) →
    InsertStops kinds.List list old new stop → OnlyShort 32 old new stop
insert_short old new k (Refused (refusals.BadAddress bad)) u = absurd (missed_only k (Refused (refusals.BadAddress bad)) u.0)
insert_short old new k (Refused (refusals.WrongKind bad number)) u = absurd (missed_only k (Refused (refusals.WrongKind bad number)) u.0)
insert_short old new k (Refused refusal) u = u.1
insert_short old new k DiskFault u = u
insert_short old new k MediaFault u = u
insert_short old new k Failed u = u

-- no log room, or a fault
pub change_unmoved : {list : ℕ} {row : ListRow} (old new : Heap) → KeepsList old.blocks list row → (stop : Stop) →
    ChangeStops kinds.List list old new stop → OnlyUnmoved old new stop
change_unmoved old new k (Refused (refusals.BadAddress bad)) u = absurd (missed_only k (Refused (refusals.BadAddress bad)) u.0)
change_unmoved old new k (Refused (refusals.WrongKind bad number)) u = absurd (missed_only k (Refused (refusals.WrongKind bad number)) u.0)
change_unmoved old new k (Refused refusal) u = u.1
change_unmoved old new k DiskFault u = u
change_unmoved old new k MediaFault u = u
change_unmoved old new k Failed u = u

-- after a call that made no move
pub unmoved_since : (old mid new : Heap) (stop : Stop) → besides mid ≡ besides old → OnlyUnmoved mid new stop → OnlyUnmoved old new stop
unmoved_since old mid new (Refused (refusals.LogFull lines room)) same u = record {
  moves = u.moves ∙ ap (λ (h : Heap). h.moves) same;
  spare = u.spare ∙ ap (λ (h : Heap). h.spare) same;
}
unmoved_since old mid new (Refused refusal) same u = u
unmoved_since old mid new DiskFault same u = u
unmoved_since old mid new MediaFault same u = u
unmoved_since old mid new Failed same u = u
