use Rattle.std.proofs.Common.{◌≡◌, ℕ, true, false, length, get_or, drop}
use Rattle.std.specs.List.{Contains}
use Rattle.sdr_heap.proofs.marks.unmark.Given as goal

abbrev pub invariant-loop-word : goal.invariant-loop-word
invariant-loop-word l = record {
  many : length l.marks ≡ length l.fn.marks;
  left : (word : ℕ) → get_or l.marks word false ≡ true → Contains (drop l.word-index l.listed) word;
}
