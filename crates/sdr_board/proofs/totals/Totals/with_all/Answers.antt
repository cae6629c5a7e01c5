use Rattle.std.proofs.Common.{◌++◌, ◌∙◌, List, ap, arith, subst, sym}
use Rattle.std.proofs.lemmas.List.{take_all}
use Rattle.sdr_board.specs.Totals.{AddsUp, totals, with_entry}
use Rattle.sdr_board.specs.declared.totals.Totals.{Totals}
use Rattle.sdr_board.proofs.TotalsLemmas.{adds_up-with_entry, totals-more}
use Rattle.sdr_board.proofs.totals.Totals.with_all.Goals as goal
use Rattle.sdr_model.specs.declared.journal.Entry.{Entry}

pub loop-entry-preserved : goal.loop-entry-preserved
loop-entry-preserved c =
    let e = c.entry-item.result in
    let i = c.loop-entry.entry-index in
    let entries = c.args.entries.now in
    let so_far = c.loop-entry.invariant in
    let more = c.with-totals.ensures in (
      subst AddsUp (sym more) (adds_up-with_entry c.loop-entry.totals e so_far.0),
      omega (arith, ap (λ (t : Totals). t.entries) more, so_far.1),
      λ before same. more ∙ ap (λ (t : Totals). with_entry t e) (so_far.2 before same) ∙ sym (totals-more before entries i e c.loop-entry-test.true c.entry-item.is),
    )

pub returns : goal.returns
returns c = λ before same. c.loop-entry.invariant.2 before same
    ∙ ap (λ (l : List Entry). totals (before ++ l)) (take_all c.loop-entry.entry-index c.args.entries.now (omega (arith, c.loop-entry-test.false)))
