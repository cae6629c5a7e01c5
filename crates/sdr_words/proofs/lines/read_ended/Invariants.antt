use Rattle.std.proofs.Common.{◌<◌, ◌+◌, ◌^◌, length}
use Rattle.sdr_words.proofs.ReadingLemmas.{HasRead}
use Rattle.sdr_words.proofs.lines.read_ended.Given as goal

abbrev pub invariant-loop-line : goal.invariant-loop-line
invariant-loop-line l = record {
  read : HasRead l.fn.draft l.draft l.bytes l.rest;
  room : l.draft.next + length l.rest < 2 ^ 63;
}

abbrev pub decreases-loop-line : goal.decreases-loop-line
decreases-loop-line l = length l.rest
