use Rattle.std.proofs.Common.{ℕ}
use Rattle.step_things.proofs.CallLemmas.{comes_never}
use Rattle.step_things.proofs.ReadingLemmas.{read_refused}
use Rattle.sdr_base.specs.declared.stop.Stop.{Stop}
use Rattle.sdr_heap.specs.Raw.{ReadStops}
use Rattle.sdr_model.specs.declared.call.Call.TheVariants as calls
use Rattle.step_things.proofs.raws.read.Goals as goal

pub returns-then-count-gt-LONGEST_READ-clause-comes : goal.returns-then-count-gt-LONGEST_READ-clause-comes
returns-then-count-gt-LONGEST_READ-clause-comes g c =
    let old = g.O.HasHeap.heap c.args.o.now in
    let new = g.O.HasHeap.heap c.refuse_count.new.o in
    let page = c.args.page.now in
    let e = c.refuse_count.ensures in
    comes_never (calls.Read c.args.addr c.args.place c.args.count) old new page c.refuse_count.result
    (λ (s : Stop). (place : ℕ) → ReadStops (old.blocks c.args.addr) c.args.addr place c.args.count s) e.only e.refused
    (λ w refusal stands served m. read_refused c.args.addr c.args.place c.args.count old new w page refusal c.requires.unmoved
    e.looks.same stands served.whole (m c.args.place))
