use Rattle.std.proofs.Common.{rules, subst, Err, ℕ}
use Rattle.step_things.proofs.CallLemmas.{comes_showing, comes_stopped}
use Rattle.step_things.proofs.ReadingLemmas.{read_answered, read_refused}
use Rattle.step_things.specs.Answering.{ComesInEach}
use Rattle.sdr_heap.specs.Raw.{ReadStops, ReadsRaw}
use Rattle.sdr_model.specs.declared.answer.Reply.TheVariants as replies
use Rattle.sdr_model.specs.declared.call.Call.TheVariants as calls
use Rattle.step_things.proofs.raws.read_into.Goals as goal

pub returns-in_err-read-clause-comes : goal.returns-in_err-read-clause-comes
returns-in_err-read-clause-comes g c =
    let old = g.O.HasHeap.heap c.args.o.now in
    let new = g.O.HasHeap.heap c.read.new.o in
    let page = c.args.page.now in
    let fact : ComesInEach (calls.Read c.args.addr c.args.place c.args.count) old new page page (Err c.in_err-read.field-0.0) =
    comes_stopped (calls.Read c.args.addr c.args.place c.args.count) old new page c.in_err-read.field-0.0
    (ReadStops (old.blocks c.args.addr) c.args.addr c.args.place c.args.count)
    (subst (λ (n : ℕ). ReadStops (old.blocks c.args.addr) c.args.addr c.args.place n c.in_err-read.field-0.0) c.requires.count
    c.in_err-read.ensures.refused)
    (λ w refusal stands served m. read_refused c.args.addr c.args.place c.args.count old new w page refusal c.requires.unmoved
    c.in_err-read.ensures.looks.same stands served.whole m) in
    search rules

pub returns-clause-comes : goal.returns-clause-comes
returns-clause-comes g c =
    let old = g.O.HasHeap.heap c.args.o.now in
    let new = g.O.HasHeap.heap c.read.new.o in
    comes_showing (calls.Read c.args.addr c.args.place c.args.count) old new c.args.page.now c.show.new.self (c.read.new.into)
    (replies.Bytes c.args.count) c.show.ensures
    (λ w stands served. read_answered c.args.addr c.args.place c.args.count c.read.new.into old new w c.requires.unmoved
    c.in_ok-read.ensures.looks.same
    (subst (λ (n : ℕ). ReadsRaw (old.blocks c.args.addr) c.args.place n c.read.new.into) c.requires.count
    c.in_ok-read.ensures.given) stands served.whole)
