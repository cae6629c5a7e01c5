use Rattle.std.proofs.Common.{◌≡◌, ◌<◌, ℕ, true, cond, length}
use Rattle.sdr_log.specs.Log.{names_line}
use Rattle.sdr_image.specs.Marks.{IsPlaced, stand_at}
use Rattle.sdr_image.proofs.marks.Marks.set_all.Given as goal

abbrev pub invariant-loop-first : goal.invariant-loop-first
invariant-loop-first l = record {
  below : (line : ℕ) → names_line l.rest line ≡ true → line < length l.self;
  long : length l.self ≡ length l.fn.self;
  placed : IsPlaced l.fn.stand;
  marked : (line : ℕ) → cond (names_line l.rest line) l.fn.stand (stand_at l.self line)
      ≡ cond (names_line l.fn.lines line) l.fn.stand (stand_at l.fn.self line);
}

abbrev pub decreases-loop-first : goal.decreases-loop-first
decreases-loop-first l = length l.rest
