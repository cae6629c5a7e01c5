-- The head of a disk, and where its regions lie.
use Rattle.std.specs.Prelude.{◌≤◌, ℕ, ◌+◌, ◌-◌, ◌*◌, ◌/◌, cond, Bool, ◌&&◌, List, ◌++◌, drop, replicate, nat_le}
use Rattle.std.specs.Prelude.{bytes_eq, codes, Option, Some, None}
use Rattle.byteorder.specs.Endian.{big_number, big_bytes}
use Rattle.sdr_base.specs.declared.line.TheConstants.{LINE, LEAST_LINES, MOST_LINES}
use Rattle.sdr_log.specs.declared.frame.Frame.{Frame}
use Rattle.sdr_log.specs.declared.frame.TheConstants.{LEAST_LOG, MOST_LOG}

-- both regions are as long as is allowed
pub record IsInLimits (f : Frame) : Type 0 where
  pub least_log : LEAST_LOG ≤ f.log_lines
  pub most_log : f.log_lines ≤ MOST_LOG
  pub least_heap : LEAST_LINES ≤ f.heap_lines
  pub most_heap : f.heap_lines ≤ MOST_LINES

-- whether they are
abbrev pub is_in_limits : Frame → Bool
is_in_limits f =
    nat_le LEAST_LOG f.log_lines && nat_le f.log_lines MOST_LOG
    && nat_le LEAST_LINES f.heap_lines && nat_le f.heap_lines MOST_LINES

-- how many lines the log has room for: as many as fit in batches of one record each, with the gate behind the last
abbrev pub room_of : Frame → ℕ
room_of f = (LINE * f.log_lines - 1) / 73

-- where the heap region begins
abbrev pub heap_place : Frame → ℕ
heap_place f = LINE + LINE * f.log_lines

-- the bytes of the head and of both regions
abbrev pub disk_bytes : Frame → ℕ
disk_bytes f = LINE * (1 + f.log_lines + f.heap_lines)

-- both regions are as long as is allowed, and lie inside a disk of so many bytes
pub record LieInside (f : Frame) (size : ℕ) : Type 0 where
  pub limits : IsInLimits f
  pub inside : disk_bytes f ≤ size

-- the number in the first four bytes
unfoldable pub first_number : List ℕ → ℕ
first_number bytes = big_number 4 bytes

-- a number in four bytes
unfoldable pub four : ℕ → List ℕ
four n = big_bytes 4 n

-- the head of a disk: its magic, the version, the lines of the log region and of the heap region, and zeros
unfoldable pub head_of : Frame → List ℕ
head_of f = codes "SDRHEAP1" ++ four 1 ++ four f.log_lines ++ four f.heap_lines ++ replicate 44 0

-- the frame whose lengths stand in a head
abbrev pub frame_in : List ℕ → Frame
frame_in head = record { log_lines = first_number (drop 12 head); heap_lines = first_number (drop 16 head) }

-- the frame that a head tells of; none where it is no head, or a length is out of its limits
unfoldable pub frame_of : List ℕ → Option Frame
frame_of head = cond (is_in_limits (frame_in head) && bytes_eq (head_of (frame_in head)) head)
    (Some (frame_in head)) None
