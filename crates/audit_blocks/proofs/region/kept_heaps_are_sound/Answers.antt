use Rattle.audit_blocks.proofs.HeapBitsLemmas.{bits_right}
use Rattle.audit_blocks.proofs.HeapLemmas.{blocks_are}
use Rattle.audit_blocks.proofs.HeapListsLemmas.{lists_are}
use Rattle.audit_blocks.proofs.region.kept_heaps_are_sound.Goals as goal

pub returns : goal.returns
returns c bytes P keeps are control content = record {
  control = control;
  blocks = blocks_are bytes P keeps;
  bits = bits_right bytes P keeps control are;
  free = lists_are bytes P keeps;
  content = content;
}
