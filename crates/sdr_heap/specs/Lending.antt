-- What a heap ends as, where its cells are lent.
use Rattle.std.specs.Borrow.{Lends, Fml, RattleType, MutBor}
use Rattle.sdr_base.specs.declared.cells.Cells.{Ghosts}
use Rattle.sdr_heap.specs.Noted.{Held}
use Rattle.sdr_heap.specs.contracts.heap.Heap.{the_row}

-- once the borrow ends, the heap has the cells that were left behind it, and all else as before
abbrev pub lends_cells : (C : RattleType) → Ghosts C.Denot → MutBor (Held C.Denot) → MutBor C.Denot → Fml
lends_cells C ghosts heap cells = Lends (the_row C ghosts) C heap cells (λ left. record heap.now { cells = left })
