-- The frame is written in the gap, and then the start bit.
use Rattle.std.proofs.Common.{refl}
use Rattle.std.proofs.lemmas.Result.{on_ok_weaker}
use Rattle.sdr_large.proofs.PutLemmas.{can_put, puts_used}
use Rattle.sdr_large.proofs.links.put_used.Goals as goal

pub write_frame-requires : goal.write_frame-requires
write_frame-requires g c =
    let k = can_put _ _ _ _ c.requires.gap refl in
    record { least = k.least; whole = k.whole; words = k.few; small = k.small; inside = k.inside }

pub set_start_bit-requires : goal.set_start_bit-requires
set_start_bit-requires g c = record { inside = (can_put _ _ _ _ c.requires.gap c.write_frame.ensures.size).bit }

pub returns-clause-put : goal.returns-clause-put
returns-clause-put g c =
    on_ok_weaker c.set_start_bit.result
    (λ sets. puts_used _ _ _ c.args.block.words c.args.block.addr c.requires.gap c.in_ok-write_frame.ensures.frame sets)
    c.set_start_bit.ensures.written
