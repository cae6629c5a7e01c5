-- The words of the block are those of an object with nothing in it.
use Rattle.std.proofs.lemmas.Result.{IfOk-weaker}
use Rattle.sdr_base.specs.Making.{MakesThing}
use Rattle.sdr_base.specs.ZcoObjects.{object_entries}
use Rattle.zco_obj.specs.Making.{empty_row}
use Rattle.zco_obj.proofs.MadeLemmas.{makes_empty}
use Rattle.zco_obj.proofs.object.make_object.Goals as goal

pub returns-clause-made : goal.returns-clause-made
returns-clause-made g c =
    let old = g.O.HasHeap.heap c.args.o.now in
    let new = g.O.HasHeap.heap c.take_words.new.o in
    IfOk-weaker _ _ (λ addr. MakesThing 72 addr (object_entries addr (empty_row c.args.acct)) old new)
    (λ addr t. makes_empty c.args.acct c.number-number.result c.number-number.ensures t) c.take_words.ensures.taken
