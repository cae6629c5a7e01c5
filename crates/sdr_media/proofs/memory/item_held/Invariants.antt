use Rattle.std.proofs.Common.{◌≡◌, drop}
use Rattle.sdr_media.specs.MemoryMedia.{item_held}
use Rattle.sdr_media.proofs.memory.item_held.Given as goal

abbrev pub invariant-loop-key : goal.invariant-loop-key
invariant-loop-key l = item_held l.number (drop l.key-index l.items) ≡ item_held l.number l.items
