-- Worlds on which a call can be made.
use Rattle.sdr_base.specs.declared.account.Acct.{Acct}
use Rattle.sdr_base.specs.declared.kind.Space.{Space}
use Rattle.sdr_model.specs.Accounts.{most_amount}
use Rattle.sdr_model.specs.Charges.{occupancy}
use Rattle.sdr_model.specs.Few.{HasFewPieces, most_pieces}
use Rattle.sdr_model.specs.Whole.{IsWhole}
use Rattle.sdr_model.specs.World.{World}
use Rattle.std.specs.Prelude.{◌≤◌, ◌<◌, ◌^◌}

-- no more is occupied in either account than the greatest amount
abbrev pub IsBound : World → Type 0
IsBound w = (acct : Acct) (space : Space) → occupancy w acct space ≤ most_amount

-- A call can be made on the world: it is whole, no more is occupied than the greatest amount, its objects have few pieces, and
-- few blocks were taken so far.
pub record MayCall (w : World) : Type 0 where
  pub whole : IsWhole w
  pub bound : IsBound w
  pub few : HasFewPieces most_pieces w.things
  pub taken : w.taken < 2 ^ 60
