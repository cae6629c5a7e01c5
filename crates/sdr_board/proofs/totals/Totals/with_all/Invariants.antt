-- The entries so far are in the totals.
use Rattle.std.proofs.Common.{◌≡◌, ◌+◌, List, ◌++◌, take}
use Rattle.sdr_board.specs.Totals.{totals, AddsUp}
use Rattle.sdr_model.specs.declared.journal.Entry.{Entry}
use Rattle.sdr_board.proofs.totals.Totals.with_all.Given as goal

abbrev pub invariant-loop-entry : goal.invariant-loop-entry
invariant-loop-entry l =
    AddsUp l.totals × (l.totals.entries ≡ l.fn.self.entries + l.entry-index)
    × ((before : List Entry) → l.fn.self ≡ totals before → l.totals ≡ totals (before ++ take l.entry-index l.entries))
