use Rattle.std.proofs.Common.{inl, inr, refl}
use Rattle.sdr_command.proofs.EndingLemmas.{shut_status, status_of}
use Rattle.sdr_command.proofs.answering.answer_on_file.Goals as goal

pub returns-in-Err : goal.returns-in-Err
returns-in-Err g c = shut_status c.answer_unopened.ensures

pub returns : goal.returns
returns g c = inr (inr (status_of _ c.answer-status.ensures tt))
