use Rattle.sdr_command.proofs.EndingLemmas.{comes_run, comes_unread, on_none, on_some}
use Rattle.sdr_command.specs.Ending.{ComesHeld}
use Rattle.sdr_command.proofs.answering.run_on_file.Goals as goal

pub returns-in_default : goal.returns-in_default
returns-in_default g c = ComesHeld.starved c.answer_starved.ensures.status c.answer_starved.ensures.written

pub returns-in_default-read_held : goal.returns-in_default-read_held
returns-in_default-read_held g c =
    let starved = c.answer_starved-in_default-read_held.ensures in
    ComesHeld.starved starved.status starved.written

pub returns-in-Some : goal.returns-in-Some
returns-in-Some g c =
    let read = on_some _ _ _ _ c.in-Some.is c.in-Ok-read_held.ensures.read in
    comes_run c.in-Ok.held c.in-Ok.ensures.held _ _ c.source-source.ensures read.0 (c.run_read.ensures _ read.1)

pub returns : goal.returns
returns g c =
    comes_unread c.in-Ok.held c.in-Ok.ensures.held _ _ c.source.ensures (on_none _ _ _ c.in-None.is c.in-Ok-read_held.ensures.read)
    c.answer_in_memory.ensures.ends
