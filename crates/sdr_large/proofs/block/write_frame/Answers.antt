-- The four words are written.
use Rattle.std.proofs.Common.{arith}
use Rattle.std.proofs.lemmas.Result.{on_ok_weaker}
use Rattle.sdr_large.proofs.FrameLemmas.{has_frame}
use Rattle.sdr_large.proofs.block.write_frame.Goals as goal

pub returns-clause-frame : goal.returns-clause-frame
returns-clause-frame g c =
    on_ok_weaker c.write_last_word.result
    (λ is. has_frame c.args.used c.args.block.words c.args.block.addr c.args.next _ _ _ _ _ c.requires.least
    c.requires.words (omega arith) c.requires.inside c.in_ok-write_bare_leader.ensures.written
    c.in_ok-write_number.ensures.written c.in_ok-write_number-2.ensures.written is)
    c.write_last_word.ensures.written
