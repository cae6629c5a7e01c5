use Rattle.audit_blocks.proofs.KeptLemmas.{keeps_blocks}
use Rattle.audit_blocks.proofs.region.sound_regions_keep_heaps.Goals as goal

pub returns : goal.returns
returns c bytes small large region sound = keeps_blocks bytes small large region sound
