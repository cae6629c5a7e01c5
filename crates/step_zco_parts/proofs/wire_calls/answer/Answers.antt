-- More than a page is asked, which is refused.
use Rattle.std.proofs.Common.{ℕ, IfErr, subst}
use Rattle.step_things.proofs.CallLemmas.{comes_never}
use Rattle.step_things.proofs.ListLemmas.{IsSmall}
use Rattle.sdr_model.specs.Pieces.{asked_addr, asked_count}
use Rattle.step_zco_parts.specs.Giving.{CountStops}
use Rattle.step_zco_parts.proofs.AskedLemmas.{unasked_in}
use Rattle.step_zco_parts.proofs.GivenCalls.{count_refused}
use Rattle.step_zco_parts.proofs.wire_calls.answer.Goals as goal

pub returns-then-count-gt-LONGEST_READ-clause-comes : goal.returns-then-count-gt-LONGEST_READ-clause-comes
returns-then-count-gt-LONGEST_READ-clause-comes g c =
    let old = g.O.HasHeap.heap c.args.o.now in
    let new = g.O.HasHeap.heap c.refuse_count.new.o in
    let call = c.args.call.now in
    let small : IsSmall old = record {
      few = g.met.O.Objects.few c.args.o.now c.requires.kept;
      small = g.met.O.Objects.small c.args.o.now c.requires.kept;
    } in
    let r = c.reader_of-count.ensures in
    let stops =
    subst (λ (n : ℕ). IfErr c.refuse_count.result (CountStops old.blocks (asked_addr call) n)) r.count
    (subst (λ (addr : ℕ). IfErr c.refuse_count.result (CountStops old.blocks addr c.reader_of-count.result.1)) r.object c.refuse_count.ensures.refused) in
    comes_never call old new c.args.page.now c.refuse_count.result (CountStops old.blocks (asked_addr call) (asked_count call))
    c.refuse_count.ensures.only stops
    (λ w refusal stands served m.
    count_refused old new w c.requires.unmoved stands served small c.refuse_count.ensures.looks.same call c.requires.reads c.args.page.now refusal m)

pub returns-then-count-gt-LONGEST_READ-clause-asks : goal.returns-then-count-gt-LONGEST_READ-clause-asks
returns-then-count-gt-LONGEST_READ-clause-asks g c =
    unasked_in g.M.Media c.args.call.now (g.O.HasHeap.heap c.args.o.now) c.args.media.now
