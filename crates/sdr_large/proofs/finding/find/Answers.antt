-- The block of the own list, or else that of a higher one.
use Rattle.std.proofs.Common.{subst}
use Rattle.std.specs.Prelude.{Option}
use Rattle.std.proofs.lemmas.Result.{IfOk-weaker}
use Rattle.sdr_large.specs.declared.block.Block.{Block}
use Rattle.sdr_large.specs.Steps.{FindsIn, FindsAbove, Finds}
use Rattle.sdr_large.proofs.FoundLemmas.{finds_own, finds_higher}
use Rattle.sdr_large.proofs.finding.find.Goals as goal

pub returns-in-Some-clause-found : goal.returns-in-Some-clause-found
returns-in-Some-clause-found g c =
    finds_own (g.C.Cells.bytes c.args.c.now) c.args.words c.order_of-order.result c.in-Some.block
    c.order_of-order.ensures.order
    (subst (λ (o : Option Block). FindsIn c.order_of-order.result c.args.words o (g.C.Cells.bytes c.args.c.now))
    c.in-Some.is c.in_ok-block.ensures.found)

pub returns-in-None-clause-found : goal.returns-in-None-clause-found
returns-in-None-clause-found g c =
    IfOk-weaker c.first_above.result
    (λ found. FindsAbove c.order_of-order.result found (g.C.Cells.bytes c.first_with.new.c))
    (λ found. Finds c.args.words found (g.C.Cells.bytes c.args.c.now))
    (λ found above. finds_higher (g.C.Cells.bytes c.args.c.now) (g.C.Cells.bytes c.first_with.new.c) c.args.words
    c.order_of-order.result found c.order_of-order.ensures.order
    (subst (λ (o : Option Block). FindsIn c.order_of-order.result c.args.words o (g.C.Cells.bytes c.args.c.now))
    c.in-None.is c.in_ok-block.ensures.found) c.in_ok-block.ensures.same above)
    c.first_above.ensures.found
