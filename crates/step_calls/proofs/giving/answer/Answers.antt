-- What is of a kind is kept in the heap, and a call that reads no media tells nothing of them.
use Rattle.std.proofs.Common.{◌∙◌, sym}
use Rattle.sdr_model.specs.Pieces.{asked_addr}
use Rattle.sdr_model.specs.World.{World}
use Rattle.step_calls.proofs.GivingLemmas.{fits_reading, tells_unread, works_reading}
use Rattle.step_calls.proofs.KeptLemmas.{kinds_kept}
use Rattle.step_calls.specs.Serving.{call_lines}
use Rattle.step_zco_parts.proofs.AskedLemmas.{unasked_in}
use Rattle.step_calls.proofs.giving.answer.Goals as goal

pub answer-requires-clause-wire : goal.answer-requires-clause-wire
answer-requires-clause-wire g c =
    (kinds_kept c.requires.stands (record {
      few = g.met.O.Objects.few c.args.o.now c.requires.kept;
      small = g.met.O.Objects.small c.args.o.now c.requires.kept;
    })).wires (asked_addr c.args.call.now)

pub answer-requires-2-clause-kinds : goal.answer-requires-2-clause-kinds
answer-requires-2-clause-kinds g c =
    kinds_kept c.requires.stands (record {
      few = g.met.O.Objects.few c.args.o.now c.requires.kept;
      small = g.met.O.Objects.small c.args.o.now c.requires.kept;
    })

pub returns-then-reads_media-clause-works : goal.returns-then-reads_media-clause-works
returns-then-reads_media-clause-works g c =
    λ w stands served.
    works_reading c.answer.result w c.args.call.now (sym c.reads_media.ensures ∙ c.if-reads_media.true) c.answer.ensures.looks

pub returns-then-reads_media-clause-fits : goal.returns-then-reads_media-clause-fits
returns-then-reads_media-clause-fits g c = fits_reading c.args.call.now (sym c.reads_media.ensures ∙ c.if-reads_media.true)

pub returns-clause-tells : goal.returns-clause-tells
returns-clause-tells g c =
    let heap = g.O.HasHeap.heap in
    let call = c.args.call.now in
    tells_unread g.M.Media g.O.HasHeap (λ (w : World). call_lines (heap c.args.o.now) w call) c.args.o.now c.answer-2.new.o call c.args.page.now
    c.answer-2.new.page c.args.media.now c.answer-2.result (sym c.reads_media.ensures ∙ c.if-reads_media.false) c.answer-2.ensures.comes
    c.answer-2.ensures.works

pub returns-clause-asks : goal.returns-clause-asks
returns-clause-asks g c = unasked_in g.M.Media c.args.call.now (g.O.HasHeap.heap c.args.o.now) c.args.media.now
