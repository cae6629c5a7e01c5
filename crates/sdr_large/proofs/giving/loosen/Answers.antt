-- The start bit is cleared.
use Rattle.std.proofs.Common.{refl, arith}
use Rattle.sdr_large.proofs.LoosenLemmas.{can_loosen, loosens}
use Rattle.sdr_large.proofs.giving.loosen.Goals as goal

pub overflow_sub-addr : goal.overflow_sub-addr
overflow_sub-addr g c = (can_loosen _ _ _ c.requires.used refl).least

pub read_leader_words-requires : goal.read_leader_words-requires
read_leader_words-requires g c =
    let k = can_loosen _ _ _ c.requires.used refl in record { inside = omega (arith, k.least, k.inside) }

pub overflow_sub-addr-2 : goal.overflow_sub-addr-2
overflow_sub-addr-2 g c = omega (arith, (can_loosen _ _ _ c.requires.used refl).least)

pub clear_start_bit-requires : goal.clear_start_bit-requires
clear_start_bit-requires g c = record { inside = (can_loosen _ _ _ c.requires.used c.in_ok-words.ensures.same).bit }

pub returns-clause-loose : goal.returns-clause-loose
returns-clause-loose g c =
    loosens c.args.addr c.in_ok-words.words _ _ _ c.in_ok-words.ensures.given c.in_ok-words.ensures.same
    c.in_ok-clear_start_bit.ensures.written
