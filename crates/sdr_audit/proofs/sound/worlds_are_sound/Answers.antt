use Rattle.audit_blocks.proofs.ExactLemmas.{sound_or_wrong}
use Rattle.sdr_audit.proofs.SoundLemmas.{world_sound}
use Rattle.sdr_audit.proofs.sound.worlds_are_sound.Goals as goal

pub returns-clause-sound : goal.returns-clause-sound
returns-clause-sound c bytes w P stands are = world_sound bytes w P stands are

pub returns-clause-right : goal.returns-clause-right
returns-clause-right c bytes w P why place stands are wrong =
    sound_or_wrong bytes (record { small = P.small; large = P.large; sound = world_sound bytes w P stands are }) why place wrong
