use Rattle.std.proofs.Common.{rules}
use Rattle.sdr_image.proofs.StillLemmas.{is_refused, touches_none}
use Rattle.sdr_image.proofs.still.StillCells.write.Goals as goal

pub returns-then-is_empty-clause-room : goal.returns-then-is_empty-clause-room
returns-then-is_empty-clause-room c = touches_none c.args.place _ (search rules)

pub returns-clause-room : goal.returns-clause-room
returns-clause-room c = is_refused c.args.place _ c.covered-lines.result (search rules) c.covered-lines.ensures
