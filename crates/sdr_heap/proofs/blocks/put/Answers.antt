-- A write inside of a block in use.
use Rattle.std.proofs.Common.{◌+◌, ◌/◌, length, sym, subst, arith}
use Rattle.std.proofs.lemmas.Result.{on_ok_weaker}
use Rattle.sdr_base.specs.Cells.{lines_of}
use Rattle.sdr_base.proofs.CellsLemmas.{TouchesAtMost-from_lines, length-lines_of, lines_within}
use Rattle.sdr_heap.proofs.RangeLemmas.{uses_range}
use Rattle.sdr_heap.specs.Calls.{WritesBlock}
use Rattle.sdr_heap.proofs.PutLemmas.{writes}
use Rattle.sdr_heap.proofs.blocks.put.Goals as goal

pub overflow_add-addr : goal.overflow_add-addr
overflow_add-addr g c =
    let r = uses_range _ c.args.addr c.args.place (length c.args.from.now) c.requires.kept c.requires.inside in
    omega (arith, r.inside, r.most)

pub write-requires : goal.write-requires
write-requires g c =
    let r = uses_range _ c.args.addr c.args.place (length c.args.from.now) c.requires.kept c.requires.inside in
    record { inside = omega (arith, r.inside) }

pub returns-clause-written : goal.returns-clause-written
returns-clause-written g c =
    on_ok_weaker c.write.result
    (λ is. subst (WritesBlock c.args.addr c.args.place c.args.from.now _) (sym is)
    (writes _ c.args.addr c.args.place c.args.from.now c.requires.inside c.requires.kept)) c.write.ensures.written

pub returns-clause-room : goal.returns-clause-room
returns-clause-room g c =
    TouchesAtMost-from_lines (lines_of (c.args.addr + c.args.place) (length c.args.from.now))
    (2 + length c.args.from.now / 64) _ _ c.write.result
    (omega (arith, length-lines_of (c.args.addr + c.args.place) (length c.args.from.now))) c.write.ensures.room

pub returns-clause-lines : goal.returns-clause-lines
returns-clause-lines g c =
    lines_within (lines_of (c.args.addr + c.args.place) (length c.args.from.now)) _ _ c.write.result c.write.ensures.room
