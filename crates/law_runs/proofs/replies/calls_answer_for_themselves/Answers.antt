use Rattle.law_runs.proofs.RowReplies.{step_fair}
use Rattle.law_runs.proofs.replies.calls_answer_for_themselves.Goals as goal

pub returns : goal.returns
returns c = step_fair
