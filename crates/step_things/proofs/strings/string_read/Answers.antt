use Rattle.std.proofs.Common.{rules, take, Err}
use Rattle.step_things.proofs.CallLemmas.{comes_showing, comes_stopped}
use Rattle.step_things.proofs.StringLemmas.{string_read_answered, string_read_refused}
use Rattle.step_things.specs.Answering.{ComesInEach}
use Rattle.sdr_base.specs.Objects.{Misses}
use Rattle.sdr_base.specs.declared.kind.Kind.TheVariants as kinds
use Rattle.sdr_model.specs.declared.answer.Reply.TheVariants as replies
use Rattle.sdr_model.specs.declared.call.Call.TheVariants as calls
use Rattle.step_things.proofs.strings.string_read.Goals as goal

pub returns-in_err-count-clause-comes : goal.returns-in_err-count-clause-comes
returns-in_err-count-clause-comes g c =
    let old = g.O.HasHeap.heap c.args.o.now in
    let new = g.O.HasHeap.heap c.read.new.o in
    let page = c.args.page.now in
    let fact : ComesInEach (calls.StringRead c.args.addr) old new page page (Err c.in_err-count.field-0.0) =
    comes_stopped (calls.StringRead c.args.addr) old new page c.in_err-count.field-0.0
    (Misses (old.blocks c.args.addr) c.args.addr kinds.Text) c.in_err-count.ensures.refused
    (λ w refusal stands served m. string_read_refused c.args.addr old new w page refusal c.requires.unmoved
    c.in_err-count.ensures.looks.same stands served m) in
    search rules

pub returns-clause-comes : goal.returns-clause-comes
returns-clause-comes g c =
    let old = g.O.HasHeap.heap c.args.o.now in
    let new = g.O.HasHeap.heap c.read.new.o in
    comes_showing (calls.StringRead c.args.addr) old new c.args.page.now c.show.new.self
    (take c.in_ok-count.count c.read.new.into) (replies.Bytes c.in_ok-count.count) c.show.ensures
    (λ w stands served. string_read_answered c.args.addr c.in_ok-count.count c.read.new.into old new w c.requires.unmoved
    c.in_ok-count.ensures.looks.same c.in_ok-count.ensures.given stands served)
