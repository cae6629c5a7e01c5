use Rattle.std.proofs.Common.{◌≡◌, drop}
use Rattle.sdr_media.specs.MemoryMedia.{file_held}
use Rattle.sdr_media.proofs.memory.file_held.Given as goal

abbrev pub invariant-loop-key : goal.invariant-loop-key
invariant-loop-key l = file_held l.path (drop l.key-index l.files) ≡ file_held l.path l.files
