-- A heap region in which nothing is changed.
use Rattle.std.specs.Prelude.{[], false}
use Rattle.sdr_base.specs.Transaction.{Transaction}

-- its transaction: no line is touched, there is room for none, and nothing has failed
abbrev pub untouched : Transaction
untouched = record { touched = []; room = 0; faults = 0; failed = false }
