-- A world in memory as the ground of a lock.
use Rattle.std.specs.Prelude.{◌≡◌, ◌≤◌, ℕ, ◌*◌, ◌^◌, []}
use Rattle.mem_world.specs.Calling.{IsBound}
use Rattle.law_steps.specs.ValidDry.{IsValidDry}
use Rattle.sdr_model.specs.Few.{HasFewPieces, most_pieces}
use Rattle.sdr_model.specs.World.{World, at_rest}
use Rattle.sdr_machine.specs.Ground.{bare}
use Rattle.sdr_machine.specs.Machine.{Machine}
use Rattle.sdr_machine.specs.Roll.{Roll}
use Rattle.sdr_machine.specs.Standing.{GroundState}

-- a world in memory: at the begin of the open transaction, and now
pub record Worlds : Type 0 where
  pub begun : World
  pub now : World

-- the same, with the files and items that its sources name
pub record InMemory (M : Type 0) : Type 0 where
  pub worlds : Worlds
  pub media : M

-- the worlds stand for themselves, with no heap
pub record StandsBare (w : Worlds) (v : GroundState) : Type 0 where
  pub before : v.before ≡ bare w.begun
  pub now : v.now ≡ bare w.now

-- the worlds after the transaction is kept
abbrev pub worlds_kept : Worlds → Worlds
worlds_kept w = let left = at_rest w.now in record { begun = left; now = left }

-- and after it is put back: its blocks stay counted
abbrev pub worlds_back : Worlds → Worlds
worlds_back w = let left = record w.begun { taken = w.now.taken } in record { begun = left; now = left }

-- So many calls led to the world: each took at most 2^24 blocks and added one piece at most to an object. The world is whole,
-- and no more is occupied in it than the greatest amount.
pub record IsAfter (calls : ℕ) (w : World) : Type 0 where
  pub taken : w.taken ≤ 2 ^ 24 * calls
  pub few : HasFewPieces calls w.things
  pub valid : IsValidDry w
  pub bound : IsBound w

-- So many calls, at most 2^22, led to the world now, and to the one that putting back leaves.
pub record IsReached (calls : ℕ) (w : Worlds) : Type 0 where
  pub back : IsAfter calls (worlds_back w).now
  pub now : IsAfter calls w.now
  pub within : calls ≤ most_pieces

-- what the worlds stand for, where the moves of a call are left open
abbrev pub standing_bare : Worlds → GroundState
standing_bare w = record { before = bare w.begun; now = bare w.now; moves = [] }

-- the machine with this roll that stands on the worlds
abbrev pub machine_on : Roll → Worlds → Machine
machine_on r w = record { roll = r; before = bare w.begun; now = bare w.now }
