-- What a disk that was formatted gives.
use Rattle.std.specs.Prelude.{◌≡◌, ◌≤◌, ◌*◌, ℕ, List, [], Some, length}
use Rattle.sdr_base.specs.Entries.{BlocksAre}
use Rattle.sdr_base.specs.KeptHeap.{KeepsRegion, block_in, root_in}
use Rattle.sdr_base.specs.Pools.{fresh_pools}
use Rattle.sdr_base.specs.declared.account.Acct.{Acct}
use Rattle.sdr_base.specs.declared.line.TheConstants.{LINE}
use Rattle.sdr_image.specs.Format.{formatted}
use Rattle.sdr_log.specs.Frame.{IsInLimits, disk_bytes}
use Rattle.sdr_log.specs.Log.{put_back_of}
use Rattle.sdr_log.specs.declared.frame.Frame.{Frame}
use Rattle.zco_acct.specs.Words.{first_word, last_word}

-- a disk that was formatted with regions of allowed lengths, which lie inside it, gives these bytes as its heap
pub record GivesFormatted (f : Frame) (disk bytes : List ℕ) : Type 0 where
  pub limits : IsInLimits f
  pub long : disk_bytes f ≤ length disk
  pub gives : put_back_of (formatted f disk) ≡ Some bytes

-- the control words of a heap region tell of no ticket of an account
pub record HasNoTicket (bytes : List ℕ) (acct : Acct) : Type 0 where
  pub first : root_in bytes (first_word acct) ≡ 0
  pub last : root_in bytes (last_word acct) ≡ 0

-- a heap region of so many lines keeps pools without a block: no block is in use in it, and no ticket waits
pub record KeepsNothing (lines : ℕ) (bytes : List ℕ) : Type 0 where
  pub region : KeepsRegion (LINE * lines) bytes (fresh_pools lines)
  pub no_block : BlocksAre (block_in bytes) []
  pub no_ticket : (acct : Acct) → HasNoTicket bytes acct
