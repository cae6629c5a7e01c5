use Rattle.std.proofs.Common.{◌≡◌, ◌≤◌, ◌+◌, length, vec_capacity}
use Rattle.sdr_model.specs.Pieces.{pieces_told}
use Rattle.sdr_gather.specs.Gathering.{Gathering}
use Rattle.sdr_machine.specs.Asked.{count_outside}
use Rattle.sdr_gather.proofs.gathering.gather.Given as goal

abbrev pub invariant-loop-piece : goal.invariant-loop-piece
invariant-loop-piece g l = record {
  gathering : Gathering (g.M.Media.told l.fn.media) l.pieces l.rest l.bytes.items;
  few : length l.bytes.items + length (pieces_told l.rest) ≤ 4096;
  room : 4096 ≤ vec_capacity l.bytes;
  page : length l.page ≡ 4096;
  told : g.M.Media.told l.media ≡ g.M.Media.told l.fn.media;
  faults : g.M.Media.faults l.fn.media ≤ g.M.Media.faults l.media;
  short : g.M.Media.short l.fn.media ≤ g.M.Media.short l.media;
  asks : g.M.Media.asks l.media + count_outside l.rest ≤ g.M.Media.asks l.fn.media + count_outside l.pieces;
}

abbrev pub decreases-loop-piece : goal.decreases-loop-piece
decreases-loop-piece g l = length l.rest
