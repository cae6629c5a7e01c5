-- Whole worlds: valid ones in which sources, extents and queues keep their laws.
use Rattle.sdr_base.specs.declared.account.Acct.{Acct}
use Rattle.sdr_model.specs.Valid.{FitTogether, IsBarred, IsValid, KeepQueues}
use Rattle.sdr_model.specs.World.{World}

-- The world is valid, its sources and extents fit each other, and its queues keep their law: the first ticket that waits in
-- each asks of some space more than the room.
pub record IsWhole (w : World) : Type 0 where
  pub valid : IsValid w
  pub fits : FitTogether w
  pub queues : KeepQueues w.accounts
  pub barred : (acct : Acct) → IsBarred w acct
