use Rattle.std.proofs.Common.{◌≡◌, ◌++◌, ◌+◌, ◌*◌, drop}
use Rattle.sdr_model.specs.Cuts.{placed}
use Rattle.mem_zco_calls.proofs.clone_calls.placed_behind.Given as goal

abbrev pub invariant-loop-extent : goal.invariant-loop-extent
invariant-loop-extent l = record {
  block : l.block ≡ l.addr + 8 * l.extent-index;
  placed : l.placed ++ placed (λ i. l.addr + 8 * i) (1 + l.extent-index) (drop l.extent-index l.extents)
      ≡ placed (λ i. l.addr + 8 * i) 1 l.extents;
}
