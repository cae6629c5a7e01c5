-- What holds of every core.
use Rattle.std.specs.Prelude.{◌≤◌, [], length}
use Rattle.sdr_machine.specs.Holders.{HoldFirst}
use Rattle.sdr_machine.specs.Serving.{Locked}
use Rattle.sdr_machine.specs.declared.has_ground.HasGround.{Ghosts}
use Rattle.sdr_core.specs.CoreKept.{RunStart, KeepsRun, KeepsSafe}
use Rattle.sdr_core.specs.Keeping.{AreApart, works_of}
use Rattle.sdr_core.specs.Logging.{HasRoomFor, leaves_ahead, log_of}
use Rattle.sdr_core.specs.declared.keeper.Keeper.{Keeper}

-- The lock and the log are those of a run, of which a crash leaves some first entries, and no daemon is in two transactions.
pub record IsCore {T : Type 0} (g : Ghosts T) (b : RunStart) (lock : Locked T) (keeper : Keeper) : Type 0 where
  pub run : KeepsRun g b (record { lock = lock; log = log_of keeper })
  pub safe : KeepsSafe g b keeper.journal.items lock.roll.failed lock.base
  pub apart : AreApart (works_of keeper.works.items)
  -- there is room for all leaves, of few daemons of which only those hold a number that may
  pub room : HasRoomFor (leaves_ahead lock.roll.daemons) keeper
  pub few : length lock.roll.daemons ≤ 256
  pub first : HoldFirst [] lock.roll.daemons
