use Rattle.std.proofs.Common.{List, ap, refl, subst, sym}
use mathlib.Core.List.{IsPrefix}
use Rattle.sdr_board.specs.Known.{Published}
use Rattle.sdr_model.specs.declared.journal.Entry.{Entry}
use Rattle.sdr_live.proofs.posted_run.PostedRun.new.Goals as goal

pub invariant_of-result : goal.invariant_of-result
invariant_of-result g c =
    let journal = c.args.run.core.log.journal in (
      ap (λ (w : Published). w.board) c.requires,
      subst (λ (l : List Entry). IsPrefix l journal) (sym (ap (λ (w : Published). w.entries) c.requires)) (journal, refl),
    )
