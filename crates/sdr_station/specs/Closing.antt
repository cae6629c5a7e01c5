-- How the transaction of a heap on an image closes.
use Rattle.std.specs.Prelude.{List, [], false, length, replicate}
use Rattle.sdr_base.specs.declared.moves.Move.{Move}
use Rattle.sdr_base.specs.declared.refusal.Refusal.{Refusal}
use Rattle.sdr_base.specs.declared.refusal.Refusal.TheVariants as refusals
use Rattle.sdr_heap.specs.Noted.{Held}
use Rattle.sdr_image.specs.Opened.{Opened}

-- the moves that are told of a refused call: none where log room was wanting
abbrev pub moves_left : Refusal → List Move → List Move
moves_left (refusals.LogFull lines room) moves = []
moves_left refusal moves = moves

-- the heap whose bytes were kept on this disk: there is no mark, and no line is touched
abbrev pub heap_committed : {D : Type 0} → Held (Opened D) → D → Held (Opened D)
heap_committed h disk = record h {
  cells = record h.cells { disk = disk; begun = h.cells.bytes; touched = []; is_open = false };
  marks = replicate (length h.marks) false;
}

-- the heap whose bytes were rolled back to those at begin, on this disk: there is no mark, and no line is touched
abbrev pub heap_rolled_back : {D : Type 0} → Held (Opened D) → D → Held (Opened D)
heap_rolled_back h disk = record h {
  cells = record h.cells { disk = disk; bytes = h.cells.begun; touched = []; is_open = false };
  marks = replicate (length h.marks) false;
}
