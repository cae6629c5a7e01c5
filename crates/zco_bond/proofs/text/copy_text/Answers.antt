-- The block is filled, and one of its bytes is taken.
use Rattle.std.proofs.lemmas.Result.{IfOk-weaker}
use Rattle.zco_bond.specs.Texts.{CopiesText}
use Rattle.zco_bond.proofs.TextLemmas.{copies_text}
use Rattle.zco_bond.proofs.text.copy_text.Goals as goal

pub returns-clause-copied : goal.returns-clause-copied
returns-clause-copied g c =
    let t = rw c.fill.ensures.looks.same at c.take_bytes.ensures.taken in
    IfOk-weaker _ _ (CopiesText c.args.text (g.O.HasHeap.heap c.args.o.now) (g.O.HasHeap.heap c.take_bytes.new.o))
    (λ raw b. copies_text _ c.in_ok-fill.ensures.filled b) t
