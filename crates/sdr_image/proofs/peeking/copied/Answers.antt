use Rattle.std.proofs.Common.{◌∙◌}
use Rattle.sdr_image.proofs.PeekLemmas.{copy_read, is_copied}
use Rattle.sdr_image.proofs.peeking.copied.Goals as goal

pub returns-clause-copy : goal.returns-clause-copy
returns-clause-copy g c =
    is_copied c.args.frame.now _ _ c.requires.framed
    (copy_read c.args.frame.now c.in_ok-bytes.bytes.len c.read_at.new.into c.in_ok-bytes.bytes.items _ _
    (c.in_ok-bytes.ensures.len ∙ c.disk_bytes.ensures) (c.read_at.auto.into ∙ c.deref_mut.ensures.len)
    c.in_ok-read_at.ensures.given c.new-2.ensures.bytes)
