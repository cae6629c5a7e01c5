-- The block that is taken is a source's.
use Rattle.std.proofs.lemmas.Result.{IfErr-weaker, IfOk-weaker}
use Rattle.zco_ref.specs.Making.{BulkStops}
use Rattle.zco_ref.proofs.MadeLemmas.{bulk_made, bulk_stops}
use Rattle.zco_ref.proofs.making.bulk_ref.Goals as goal

pub returns-clause-made : goal.returns-clause-made
returns-clause-made g c =
    IfOk-weaker _ _ _ (λ source t. bulk_made c.args.item c.args.bytes c.in_ok-check_bytes.ensures.fits t)
    (rw c.check_failed.ensures.looks.same at c.take_plain.ensures.taken)

pub returns-clause-refused : goal.returns-clause-refused
returns-clause-refused g c =
    IfErr-weaker _ _ (BulkStops c.args.bytes (g.O.HasHeap.heap c.args.o.now) (g.O.HasHeap.heap c.take_plain.new.o))
    (λ stop s. bulk_stops c.args.bytes (g.O.HasHeap.heap c.args.o.now) (g.O.HasHeap.heap c.take_plain.new.o) stop
    c.in_ok-check_bytes.ensures.fits s)
    (rw c.check_failed.ensures.looks.same at c.take_plain.ensures.refused)
