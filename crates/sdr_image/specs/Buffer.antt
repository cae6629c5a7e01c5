-- The touched lines that stand in memory.
use Rattle.std.specs.Prelude.{◌≡◌, ◌≤◌, ℕ, List, length, IsPermutation}
use Rattle.std.specs.List.Sorted.{IsNonDecreasingBy}
use Rattle.sdr_base.specs.Parts.{overwrite}
use Rattle.sdr_log.specs.Log.{AreLines}
use Rattle.sdr_log.specs.declared.record.Record.{Record}
use Rattle.sdr_image.specs.declared.buffer.TheConstants.{MOST_BUFFERED}

-- touched lines that no open batch names, with their bytes at begin and now
pub record Changes : Type 0 where
  pub olds : List Record
  pub news : List Record

-- as many lines at begin and now, few enough, and memory for as many as there may be
pub record IsBuffer (olds news : List Record) (room room' : ℕ) : Type 0 where
  pub long : length news ≡ length olds
  pub few : length olds ≤ MOST_BUFFERED
  pub whole : AreLines olds
  pub whole' : AreLines news
  pub reserved : MOST_BUFFERED ≤ room
  pub reserved' : MOST_BUFFERED ≤ room'

-- the same lines, by rising number
pub record Rises (old new : Changes) : Type 0 where
  pub olds : IsPermutation old.olds new.olds
  pub news : IsPermutation old.news new.news
  pub rising : IsNonDecreasingBy (λ r. r.line) new.olds
  pub rising' : IsNonDecreasingBy (λ r. r.line) new.news

-- the record with these bytes at a place of its line
abbrev pub with_bytes : ℕ → List ℕ → Record → Record
with_bytes place from r = record { line = r.line; bytes = overwrite place from r.bytes }
