-- The block that is taken is a source's.
use Rattle.std.proofs.lemmas.Result.{IfErr-weaker, IfOk-weaker}
use Rattle.zco_ref.specs.Making.{FileStops}
use Rattle.zco_ref.proofs.MadeLemmas.{file_made, file_stops}
use Rattle.zco_ref.proofs.making.file_ref.Goals as goal

pub returns-clause-made : goal.returns-clause-made
returns-clause-made g c =
    IfOk-weaker _ _ _
    (λ source t. file_made c.args.path.now c.args.bytes c.in_ok-check_path.ensures.fits c.in_ok-check_bytes.ensures.fits t)
    (rw c.check_failed.ensures.looks.same at c.take_file.ensures.taken)

pub returns-clause-refused : goal.returns-clause-refused
returns-clause-refused g c =
    IfErr-weaker _ _ (FileStops c.args.path.now c.args.bytes (g.O.HasHeap.heap c.args.o.now) (g.O.HasHeap.heap c.take_file.new.o))
    (λ stop s. file_stops c.args.path.now c.args.bytes (g.O.HasHeap.heap c.args.o.now) (g.O.HasHeap.heap c.take_file.new.o) stop
    c.in_ok-check_path.ensures.fits c.in_ok-check_bytes.ensures.fits s)
    (rw c.check_failed.ensures.looks.same at c.take_file.ensures.refused)
