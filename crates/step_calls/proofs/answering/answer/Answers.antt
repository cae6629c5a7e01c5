-- An object is kept with all that it takes to cut it.
use Rattle.step_calls.proofs.answering.answer.Goals as goal

pub strip-requires-clause-object : goal.strip-requires-clause-object
strip-requires-clause-object g c = c.requires.kinds.to_cut c.in-Strip.object
