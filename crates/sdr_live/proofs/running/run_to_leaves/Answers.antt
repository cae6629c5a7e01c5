use Rattle.std.proofs.Common.{◌≡◌, ◌∙◌, List, ap, subst, sym}
use mathlib.Core.List.{IsPrefix}
use Rattle.sdr_board.specs.Known.{Published}
use Rattle.sdr_daemon.specs.Progressing.{ScriptedCore}
use Rattle.sdr_model.specs.declared.journal.Entry.{Entry}
use Rattle.sdr_live.proofs.running.run_to_leaves.Goals as goal

pub publish-requires-clause-begins : goal.publish-requires-clause-begins
publish-requires-clause-begins g c =
    let parts = c.into_parts-run.result in
    let later = c.take_turns.new.self.core.log.journal in
    let posted : parts.1.entries ≡ parts.0.core.log.journal =
    ap (λ (w : Published). w.entries) c.into_parts-run.ensures.writer ∙ c.run_at_lock-posted.ensures
    ∙ ap (λ (r : ScriptedCore g.row.T.Denot). r.core.log.journal) (sym c.into_parts-run.ensures.run) in
    subst (λ (l : List Entry). IsPrefix parts.1.entries l) (sym c.journal.ensures)
    (subst (λ (l : List Entry). IsPrefix l later) (sym posted) c.take_turns.ensures.grows)
