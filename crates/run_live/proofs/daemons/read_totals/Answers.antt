use Rattle.std.proofs.Common.{◌≡◌, ◌∙◌, List, ap, length, sym, subst, arith}
use mathlib.Core.List.{IsPrefix}
use Rattle.sdr_board.proofs.Beginnings.{prefix_whole}
use Rattle.sdr_board.specs.Known.{Published, Seen}
use Rattle.sdr_board.specs.Totals.{totals}
use Rattle.sdr_board.specs.declared.totals.Totals.{Totals}
use Rattle.sdr_model.specs.declared.journal.Entry.{Entry}
use Rattle.run_live.proofs.daemons.read_totals.Goals as goal

pub returns-then-totals-journal : goal.returns-then-totals-journal
returns-then-totals-journal c =
    let journal = c.args.journal.now in
    let seen = c.read-totals.new.pass.entries in
    let split : c.split-pass.result.entries ≡ journal = ap (λ (s : Seen). s.entries) c.split-pass.ensures.pass ∙ ap (λ (w : Published). w.entries) c.requires in
    let begins : IsPrefix journal seen = subst (λ (l : List Entry). IsPrefix l seen) split c.read-totals.ensures.seen in
    let count : c.read-totals.result.entries ≡ length seen = ap (λ (t : Totals). t.entries) c.read-totals.ensures.totals in
    c.read-totals.ensures.totals ∙ ap totals (sym (prefix_whole journal seen begins (omega (arith, count, c.if-totals-journal.true))))
