use Rattle.sdr_core.proofs.NumberLemmas.{run_apart, run_counted}
use Rattle.sdr_core.proofs.numbers.drawn_numbers_are_held_or_done.Goals as goal

pub returns : goal.returns
returns c = record { apart = run_apart; counted = run_counted }
