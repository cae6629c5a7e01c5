use Rattle.sdr_stands.proofs.FreshLemmas.{fresh_fits, fresh_stands_whole, fresh_valid}
use Rattle.std.proofs.Common.{◌*◌}
use Rattle.sdr_stands.proofs.fresh.fresh_heap_stands.Goals as goal

pub returns-clause-stands : goal.returns-clause-stands
returns-clause-stands c = fresh_stands_whole

pub returns-clause-valid : goal.returns-clause-valid
returns-clause-valid c = λ lines. fresh_valid (32 * lines)

pub returns-clause-fits : goal.returns-clause-fits
returns-clause-fits c = λ lines. fresh_fits (32 * lines)
