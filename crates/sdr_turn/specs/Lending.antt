-- What the holder of a value ends as, where the value is lent.
use Rattle.std.specs.Borrow.{Lends, MutBor, Fml, RattleType}
use Rattle.sdr_turn.specs.contracts.held.Held.{the_row}

-- it has the value that was last behind r
abbrev pub LendsValue : (V : RattleType) → MutBor V.Denot → MutBor V.Denot → Fml
LendsValue V h r = Lends (the_row V) V h r (λ w. w)
