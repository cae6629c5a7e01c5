use Rattle.std.proofs.Common.{inl, inr}
use Rattle.sdr_command.proofs.EndingLemmas.{status_of}
use Rattle.sdr_command.proofs.answering.run_read.Goals as goal

pub returns-in-Err : goal.returns-in-Err
returns-in-Err g c before read = inl c.answer_unopened.ensures

pub returns : goal.returns
returns g c before read = inr (status_of _ (c.answer_read-status.ensures before read) tt)
