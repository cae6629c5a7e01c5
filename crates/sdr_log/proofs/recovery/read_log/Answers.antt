use Rattle.std.proofs.Common.{◌∙◌}
use Rattle.sdr_log.proofs.RecoveryLemmas.{log_of-read}
use Rattle.sdr_log.proofs.recovery.read_log.Goals as goal

pub returns-clause-given : goal.returns-clause-given
returns-clause-given g c =
    log_of-read c.args.frame c.in_ok-bytes.bytes.len c.read_at.new.into c.in_ok-bytes.bytes.items _ c.of.result
    c.in_ok-bytes.ensures.len (c.read_at.auto.into ∙ c.deref_mut.ensures.len) c.in_ok-read_at.ensures.given
    c.of.ensures
