-- A heap on an image as the ground of a lock: what it stands for.
use Rattle.std.specs.Prelude.{◌≡◌, ◌≤◌, ◌*◌, ℕ, Bool, true, false, List, [], length, Some}
use Rattle.sdr_stands.specs.Standing.{HeapStandsFor, StandsForWhole}
use Rattle.sdr_base.specs.Entries.{Few}
use Rattle.sdr_base.specs.KeptHeap.{KeepsRegion, block_in, root_in}
use Rattle.sdr_base.specs.Objects.{Heap}
use Rattle.sdr_base.specs.Pools.{Pools}
use Rattle.sdr_base.specs.declared.line.TheConstants.{LINE, MOST_LINES}
use Rattle.sdr_heap.specs.Noted.{Held, marked_in}
use Rattle.sdr_image.specs.Opened.{Opened, Rests}
use Rattle.sdr_machine.specs.Demand.{most_lines, no_demand}
use Rattle.sdr_machine.specs.Ground.{Ground, State}
use Rattle.sdr_machine.specs.Standing.{GroundState}
use Rattle.sdr_log.specs.Calls.{KeepsOutside}
use Rattle.sdr_log.specs.Frame.{room_of}
use Rattle.sdr_log.specs.Log.{put_back_of}
use Rattle.sdr_model.specs.Fields.{FitsFields}
use Rattle.sdr_model.specs.Whole.{IsWhole}
use Rattle.sdr_model.specs.World.{World}

-- the heap; the media that it names; the bytes that the last answered call gave; whether the transaction can only be rolled back,
-- and whether no call was made in it; the disk's moment; and how many lines opening has put back
pub record Grounded (D M : Type 0) : Type 0 where
  pub heap : Held (Opened D)
  pub media : M
  pub shown : List ℕ
  pub stopped : Bool
  pub idle : Bool
  pub moment : ℕ
  pub restored : ℕ

-- the ground whose moves are forgotten, with memory for so many
abbrev pub without_moves : {D M : Type 0} → Grounded D M → ℕ → Grounded D M
without_moves g spare = record g { heap = record g.heap { moves = []; spare = spare } }

-- its disk hasn't failed
abbrev pub HasDiskSound : {D M : Type 0} → Grounded D M → Type 0
HasDiskSound g = g.heap.cells.failed ≡ false

-- no call of the open transaction was stopped on its way
pub record IsGoing {D M : Type 0} (g : Grounded D M) : Type 0 where
  pub sound : HasDiskSound g
  pub going : g.stopped ≡ false

-- no call was made in it
pub record HasNoCalls {D M : Type 0} (g : Grounded D M) : Type 0 where
  pub going : IsGoing g
  pub idle : g.idle ≡ true

-- the blocks, the control words, the marks and the moves of a heap on an image
abbrev pub heap_in : {D : Type 0} → Held (Opened D) → Heap
heap_in h = record {
  size = h.size;
  blocks = block_in h.cells.bytes;
  roots = root_in h.cells.bytes;
  marks = marked_in h.marks;
  moves = h.moves;
  spare = h.spare;
}

-- the bytes of a heap with this log room stand for the state, in which no transaction is open
pub record StandsAtRest (room : ℕ) (bytes : List ℕ) (s : State) : Type 0 where
  pub pools : Pools
  pub base : s.base ≡ Ground.OnHeap room pools
  pub stands : StandsForWhole bytes s.world pools
  pub demand : s.demand ≡ no_demand

-- The heap stands for the state that the open transaction has made, whose world is whole and fits its fields. These bytes are
-- shown, and the transaction has touched no more lines than it may by what it has asked.
pub record StandsWithin {D : Type 0} (h : Held (Opened D)) (shown : List ℕ) (s : State) : Type 0 where
  pub pools : Pools
  pub base : s.base ≡ Ground.OnHeap (room_of h.cells.frame) pools
  pub keeps : KeepsRegion h.size h.cells.bytes pools
  pub heap : HeapStandsFor (heap_in h) s.world
  pub whole : IsWhole s.world
  pub fits : FitsFields s.world
  pub next : 1 ≤ s.world.accounts.next
  pub gave : s.world.shown ≡ shown
  pub lines : length h.cells.touched ≤ most_lines s.demand

-- a world that a heap of so many bytes has stood for: it is whole, and its blocks are few
pub record HasStood (size : ℕ) (w : World) : Type 0 where
  pub heap : Heap
  pub same : heap.size ≡ size
  pub few : Few heap.size heap.blocks
  pub small : heap.size ≤ LINE * MOST_LINES
  pub stands : HeapStandsFor heap w
  pub whole : IsWhole w

-- The heap in memory, whose disk hasn't failed, stands for the states before the transaction and now: the bytes at begin stand
-- for the one, and for the other the heap does, unless a call was stopped on its way. The moves are the heap's, and the bytes
-- that are shown are those that stand here. A heap of this size has stood for the world now. Where no call was made in the
-- transaction, both states are the same; and where nothing was asked in it, no line is touched.
pub record StandsInMemory {D M : Type 0} (g : Grounded D M) (v : GroundState) : Type 0 where
  pub sound : g.heap.cells.failed ≡ false
  pub size : length g.heap.cells.begun ≡ g.heap.size
  pub before : StandsAtRest (room_of g.heap.cells.frame) g.heap.cells.begun v.before
  pub taken : v.now.world.taken ≡ 0
  pub gave : v.now.world.shown ≡ g.shown
  pub stood : HasStood g.heap.size v.now.world
  pub now : g.stopped ≡ false → StandsWithin g.heap g.shown v.now
  pub idle : g.idle ≡ true → v.now ≡ v.before
  pub untouched : v.now.demand ≡ no_demand → g.heap.cells.touched ≡ []
  pub moves : v.moves ≡ g.heap.moves

-- A heap on an image stands for the states before the transaction and now: it does so in memory, and the disk rests, where it tells
-- what a crash may leave.
pub record StandsForBoth {D M : Type 0} (bytes : D → List ℕ) (tells : D → Bool) (moment : D → ℕ) (may_hold_after : D → ℕ → List ℕ → Type 0)
    (g : Grounded D M) (v : GroundState) : Type 0 where
  pub rests : Rests bytes tells moment may_hold_after g.heap.cells
  pub moment_is : g.moment ≡ moment g.heap.cells.disk
  pub memory : StandsInMemory g v

-- the heap in memory stands for something
pub record StandsSome {D M : Type 0} (g : Grounded D M) : Type 0 where
  pub for : GroundState
  pub holds : StandsInMemory g for

-- the heap is kept, and stands for the world, which is whole and fits its fields
pub record HoldsWorld {D : Type 0} (h : Held (Opened D)) (w : World) : Type 0 where
  pub pools : Pools
  pub keeps : KeepsRegion h.size h.cells.bytes pools
  pub heap : HeapStandsFor (heap_in h) w
  pub whole : IsWhole w
  pub fits : FitsFields w

-- the heap in memory stands for something, and holds the world before the transaction of whatever it stands for
pub record IsBefore {D M : Type 0} (g : Grounded D M) : Type 0 where
  pub some : StandsSome g
  pub holds : (v : GroundState) → StandsInMemory g v → HoldsWorld g.heap v.before.world

-- What a ground keeps: its moment is its disk's; unless the disk has failed, the heap in memory stands for
-- something; where the disk has failed, the transaction can only be rolled back; and one in which no call was made goes on.
pub record IsGround {D M : Type 0} (moment : D → ℕ) (g : Grounded D M) : Type 0 where
  pub seen : g.moment ≡ moment g.heap.cells.disk
  pub sound : g.stopped ≡ false → g.heap.cells.failed ≡ false
  pub going : g.idle ≡ true → g.stopped ≡ false
  pub stands : g.heap.cells.failed ≡ false → StandsSome g

-- what a crash at a moment may leave of a disk that tells it
pub record Leaves {D : Type 0} (tells_crashes : D → Bool) (may_hold_after : D → ℕ → List ℕ → Type 0) (disk : D) (m : ℕ)
    (image : List ℕ) : Type 0 where
  pub tells : tells_crashes disk ≡ true
  pub left : may_hold_after disk m image

-- opening the image gives bytes that stand for the state
pub record OpensAs (image : List ℕ) (s : State) : Type 0 where
  pub heap : List ℕ
  pub back : put_back_of image ≡ Some heap
  pub room : ℕ
  pub stands : StandsAtRest room heap s

-- The disk has the same regions and tells what a crash may leave if it did, and none of its bytes outside the regions changes.
pub record StaysInside {D M : Type 0} (bytes : D → List ℕ) (tells_crashes : D → Bool) (old new : Grounded D M) : Type 0 where
  pub frame : new.heap.cells.frame ≡ old.heap.cells.frame
  pub tells : tells_crashes new.heap.cells.disk ≡ tells_crashes old.heap.cells.disk
  pub outside : KeepsOutside old.heap.cells.frame (bytes old.heap.cells.disk) (bytes new.heap.cells.disk)
