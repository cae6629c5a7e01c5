-- The extent is taken, and linked to what is in front.
use Rattle.std.proofs.Common.{refl}
use Rattle.std.proofs.lemmas.Result.{err_from_is_err_and}
use Rattle.sdr_base.proofs.HeapLemmas.{short_after}
use Rattle.zco_bond.proofs.PlaceLemmas.{inserts_extent, taken_reaches, took_one}
use Rattle.zco_bond.proofs.placing.insert_extent.Goals as goal

pub link_after-requires-clause-last : goal.link_after-requires-clause-last
link_after-requires-clause-last g c =
    λ nz. taken_reaches c.args.gap.previous 32 c.in_ok-extent.ensures.taken (c.requires.previous nz)

pub returns-in_err-link_after-clause-refused : goal.returns-in_err-link_after-clause-refused
returns-in_err-link_after-clause-refused g c =
    let p = err_from_is_err_and c.from_residual-in_err-link_after.result c.from_residual-in_err-link_after.ensures.1 in
    rw (p.1, p.2)
    (short_after (g.O.HasHeap.heap c.take_words.new.o) (g.O.HasHeap.heap c.link_after.new.o) _
    (took_one c.args.source c.args.bytes c.args.gap c.in_ok-extent.ensures.taken) refl c.in_err-link_after.ensures.refused)

pub returns-clause-inserted : goal.returns-clause-inserted
returns-clause-inserted g c =
    inserts_extent c.args.source c.args.bytes c.args.gap c.in_ok-extent.ensures.taken c.in_ok-link_after.ensures.linked
