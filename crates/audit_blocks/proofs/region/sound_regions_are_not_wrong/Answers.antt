use Rattle.audit_blocks.proofs.ExactLemmas.{sound_or_wrong}
use Rattle.audit_blocks.proofs.region.sound_regions_are_not_wrong.Goals as goal

pub returns : goal.returns
returns c bytes why place sound wrong = sound_or_wrong bytes sound why place wrong
