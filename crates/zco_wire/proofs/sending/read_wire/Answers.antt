-- The three chains are gone over.
use Rattle.std.proofs.Common.{length, arith}
use Rattle.std.proofs.lemmas.Result.{err_from_is_err_and}
use Rattle.sdr_base.proofs.WorksLemmas.{looks_looks, looks_ok}
use Rattle.zco_wire.specs.Reading.{asked_wire}
use Rattle.zco_wire.proofs.StoppingLemmas.{looks_past}
use Rattle.zco_wire.proofs.WireLemmas.{fills_wire, object_failed, object_unasked, some_extents, some_headers, some_object, some_trailers, wire_asks, wire_ends, wire_stops}
use Rattle.zco_wire.proofs.sending.read_wire.Goals as goal

pub first_parts-requires-clause-object : goal.first_parts-requires-clause-object
first_parts-requires-clause-object g c = some_object c.requires.object

pub returns-in_err-first-clause-stops : goal.returns-in_err-first-clause-stops
returns-in_err-first-clause-stops g c =
    let p = err_from_is_err_and c.from_residual.result c.from_residual.ensures.1 in
    rw (p.1, p.2) (object_failed g.M.Media (asked_wire c.args.place (length c.args.into.now)) c.args.media.now c.args.media.now _ c.in_err-first.ensures.refused)

pub returns-in_err-first-clause-looks : goal.returns-in_err-first-clause-looks
returns-in_err-first-clause-looks g c =
    let p = err_from_is_err_and c.from_residual.result c.from_residual.ensures.1 in
    rw (p.1, p.2) (looks_past _ c.in_err-first.ensures.looks)

pub read_heads-requires-clause-chain : goal.read_heads-requires-clause-chain
read_heads-requires-clause-chain g c = rw c.first_parts.ensures.looks.same (some_headers c.in_ok-first.ensures.told c.requires.object)

pub returns-in_err-headers-clause-stops : goal.returns-in_err-headers-clause-stops
returns-in_err-headers-clause-stops g c =
    let p = err_from_is_err_and c.from_residual-in_err-headers.result c.from_residual-in_err-headers.ensures.1 in
    rw (p.1, p.2) (object_failed g.M.Media (asked_wire c.args.place (length c.args.into.now)) c.args.media.now c.args.media.now _ c.in_err-headers.ensures.refused)

pub returns-in_err-headers-clause-looks : goal.returns-in_err-headers-clause-looks
returns-in_err-headers-clause-looks g c =
    let p = err_from_is_err_and c.from_residual-in_err-headers.result c.from_residual-in_err-headers.ensures.1 in
    rw (p.1, p.2) (looks_past _ (looks_looks c.in_ok-first.ensures.looks c.in_err-headers.ensures.looks))

pub read_extents-requires-clause-chain : goal.read_extents-requires-clause-chain
read_extents-requires-clause-chain g c =
    rw (c.read_heads.ensures.looks.same, c.first_parts.ensures.looks.same) (some_extents c.in_ok-first.ensures.told c.requires.object)

pub returns-in_err-extents-clause-stops : goal.returns-in_err-extents-clause-stops
returns-in_err-extents-clause-stops g c =
    let p = err_from_is_err_and c.from_residual-in_err-extents.result c.from_residual-in_err-extents.ensures.1 in
    let h = rw c.first_parts.ensures.looks.same at c.in_ok-headers.ensures.read in
    let s = rw (c.read_heads.ensures.looks.same, c.first_parts.ensures.looks.same) at c.in_err-extents.ensures.stops in
    rw (p.1, p.2)
    (wire_stops c.in_ok-first.ensures.told g.M.Media c.args.place c.args.media.now c.read_extents.new.media _ h c.read_heads.ensures.same s)

pub returns-in_err-extents-clause-looks : goal.returns-in_err-extents-clause-looks
returns-in_err-extents-clause-looks g c =
    let p = err_from_is_err_and c.from_residual-in_err-extents.result c.from_residual-in_err-extents.ensures.1 in
    rw (p.1, p.2) (looks_looks (looks_looks c.in_ok-first.ensures.looks c.in_ok-headers.ensures.looks) c.in_err-extents.ensures.looks)

pub read_heads-requires-2-clause-chain : goal.read_heads-requires-2-clause-chain
read_heads-requires-2-clause-chain g c =
    rw (c.read_extents.ensures.looks.same, c.read_heads.ensures.looks.same, c.first_parts.ensures.looks.same)
    (some_trailers c.in_ok-first.ensures.told c.requires.object)

pub returns-in_err-trailers-clause-stops : goal.returns-in_err-trailers-clause-stops
returns-in_err-trailers-clause-stops g c =
    let p = err_from_is_err_and c.from_residual-in_err-trailers.result c.from_residual-in_err-trailers.ensures.1 in
    rw (p.1, p.2) (object_failed g.M.Media (asked_wire c.args.place (length c.args.into.now)) c.args.media.now c.read_extents.new.media _ c.in_err-trailers.ensures.refused)

pub returns-in_err-trailers-clause-looks : goal.returns-in_err-trailers-clause-looks
returns-in_err-trailers-clause-looks g c =
    let p = err_from_is_err_and c.from_residual-in_err-trailers.result c.from_residual-in_err-trailers.ensures.1 in
    rw (p.1, p.2)
    (looks_past _
    (looks_looks (looks_looks (looks_looks c.in_ok-first.ensures.looks c.in_ok-headers.ensures.looks) c.in_ok-extents.ensures.looks)
    c.in_err-trailers.ensures.looks))

pub returns-clause-fills : goal.returns-clause-fills
returns-clause-fills g c =
    let h = rw c.first_parts.ensures.looks.same at c.in_ok-headers.ensures.read in
    let e = rw (c.read_heads.ensures.looks.same, c.first_parts.ensures.looks.same) at c.in_ok-extents.ensures.read in
    let t = rw (c.read_extents.ensures.looks.same, c.read_heads.ensures.looks.same, c.first_parts.ensures.looks.same)
    at c.in_ok-trailers.ensures.read in
    let few = c.in_ok-trailers.ensures.room in let same = c.read_heads-2.ensures.same in
    fills_wire c.in_ok-first.ensures.told c.args.place h e t c.read_heads.ensures.same c.read_extents.ensures.same (omega (arith, few, same))

pub returns-clause-ends : goal.returns-clause-ends
returns-clause-ends g c = λ nz.
    let h = rw c.first_parts.ensures.looks.same at c.in_ok-headers.ensures.read in
    let e = rw (c.read_heads.ensures.looks.same, c.first_parts.ensures.looks.same) at c.in_ok-extents.ensures.read in
    let t = rw (c.read_extents.ensures.looks.same, c.read_heads.ensures.looks.same, c.first_parts.ensures.looks.same)
    at c.in_ok-trailers.ensures.read in
    let few = c.in_ok-trailers.ensures.room in let same = c.read_heads-2.ensures.same in
    wire_ends c.args.place (length c.args.into.now) c.in_ok-trailers.trailers.given _ c.requires.object
    (fills_wire c.in_ok-first.ensures.told c.args.place h e t c.read_heads.ensures.same c.read_extents.ensures.same (omega (arith, few, same))) nz

pub returns-clause-looks : goal.returns-clause-looks
returns-clause-looks g c =
    looks_ok
    (looks_looks (looks_looks (looks_looks c.in_ok-first.ensures.looks c.in_ok-headers.ensures.looks) c.in_ok-extents.ensures.looks)
    c.in_ok-trailers.ensures.looks)

pub returns-in_err-first-clause-asks : goal.returns-in_err-first-clause-asks
returns-in_err-first-clause-asks g c = object_unasked g.M.Media (asked_wire c.args.place (length c.args.into.now)) c.args.media.now

pub returns-in_err-headers-clause-asks : goal.returns-in_err-headers-clause-asks
returns-in_err-headers-clause-asks g c = object_unasked g.M.Media (asked_wire c.args.place (length c.args.into.now)) c.args.media.now

pub returns-in_err-extents-clause-asks : goal.returns-in_err-extents-clause-asks
returns-in_err-extents-clause-asks g c =
    let h = rw c.first_parts.ensures.looks.same at c.in_ok-headers.ensures.read in
    let a = rw (c.read_heads.ensures.looks.same, c.first_parts.ensures.looks.same) at c.read_extents.ensures.asks in
    wire_asks c.in_ok-first.ensures.told g.M.Media c.args.place c.args.media.now c.read_extents.new.media h c.read_heads.ensures.same a

pub returns-in_err-trailers-clause-asks : goal.returns-in_err-trailers-clause-asks
returns-in_err-trailers-clause-asks g c =
    let h = rw c.first_parts.ensures.looks.same at c.in_ok-headers.ensures.read in
    let a = rw (c.read_heads.ensures.looks.same, c.first_parts.ensures.looks.same) at c.read_extents.ensures.asks in
    wire_asks c.in_ok-first.ensures.told g.M.Media c.args.place c.args.media.now c.read_extents.new.media h c.read_heads.ensures.same a

pub returns-clause-asks : goal.returns-clause-asks
returns-clause-asks g c =
    let h = rw c.first_parts.ensures.looks.same at c.in_ok-headers.ensures.read in
    let a = rw (c.read_heads.ensures.looks.same, c.first_parts.ensures.looks.same) at c.read_extents.ensures.asks in
    wire_asks c.in_ok-first.ensures.told g.M.Media c.args.place c.args.media.now c.read_extents.new.media h c.read_heads.ensures.same a
