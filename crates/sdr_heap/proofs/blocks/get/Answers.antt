-- A range of a block is one of the region.
use Rattle.std.proofs.Common.{length, arith}
use Rattle.std.proofs.lemmas.Result.{on_ok_weaker}
use Rattle.sdr_heap.proofs.RangeLemmas.{uses_range}
use Rattle.sdr_heap.proofs.blocks.get.Goals as goal

pub overflow_add-addr : goal.overflow_add-addr
overflow_add-addr g c =
    let r = uses_range _ c.args.addr c.args.place (length c.args.into.now) c.requires.kept c.requires.inside in
    omega (arith, r.inside, r.most)

pub read-requires : goal.read-requires
read-requires g c =
    let r = uses_range _ c.args.addr c.args.place (length c.args.into.now) c.requires.kept c.requires.inside in
    record { inside = omega (arith, r.inside) }

pub returns-clause-given : goal.returns-clause-given
returns-clause-given g c =
    let r = uses_range _ c.args.addr c.args.place (length c.args.into.now) c.requires.kept c.requires.inside in
    on_ok_weaker c.read.result (λ is. r.bytes c.read.new.into is) c.read.ensures.given
