use Rattle.std.proofs.Common.{◌∙◌, ap}
use Rattle.atomic_table.specs.Seated.{TableId}
use Rattle.sdr_board.specs.Known.{published}
use Rattle.sdr_live.specs.Posted.{PostedCore}
use Rattle.sdr_live.proofs.posted_run.PostedRun.into_parts.Goals as goal

pub returns-clause-writer : goal.returns-clause-writer
returns-clause-writer g c =
    ap (λ (board : TableId). published board c.self.inside.writer.entries) c.self.invariant.0
    ∙ ap (λ (v : PostedCore g.row.T.Denot). published g.B.Posting.board v.posted) c.self.view_is
