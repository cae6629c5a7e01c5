-- The chain of extents is gone over.
use Rattle.std.proofs.Common.{◌≡◌, ◌++◌, length, min, take, drop, subst, arith}
use Rattle.std.proofs.lemmas.List.{length-take}
use Rattle.std.proofs.lemmas.Result.{err_from_is_err_and}
use Rattle.sdr_base.proofs.WorksLemmas.{looks_looks}
use Rattle.zco_obj.proofs.KeptLemmas.{object_reaches}
use Rattle.sdr_model.specs.Pieces.{cut_pieces}
use Rattle.zco_wire.specs.Asking.{AsksAtNamed}
use Rattle.zco_wire.specs.Reading.{FillsWith}
use Rattle.zco_wire.specs.Stopping.{StopsAtNamed}
use Rattle.zco_wire.proofs.StoppingLemmas.{looks_past}
use Rattle.zco_wire.proofs.WireLemmas.{begin_at, fills_some, first_is, object_failed, object_unasked, some_asks, some_ends, some_names, some_stops}
use Rattle.zco_wire.proofs.receiving.read_some.Goals as goal

pub word-requires-clause-inside : goal.word-requires-clause-inside
word-requires-clause-inside g c = object_reaches c.requires.object.keeps.keeps 16 (omega arith)

pub returns-in_err-first-clause-looks : goal.returns-in_err-first-clause-looks
returns-in_err-first-clause-looks g c =
    let p = err_from_is_err_and c.from_residual.result c.from_residual.ensures.1 in
    rw (p.1, p.2) (looks_past _ c.in_err-first.ensures.looks)

pub returns-in_err-first-clause-stops : goal.returns-in_err-first-clause-stops
returns-in_err-first-clause-stops g c =
    let p = err_from_is_err_and c.from_residual.result c.from_residual.ensures.1 in
    rw (p.1, p.2) (object_failed g.M.Media _ c.args.media.now c.args.media.now _ c.in_err-first.ensures.refused)

pub read_extents-requires-clause-chain : goal.read_extents-requires-clause-chain
read_extents-requires-clause-chain g c = rw c.word.ensures.looks.same (some_names (first_is c.in_ok-first.ensures.given) c.requires.object)

pub returns-in_err-at-clause-looks : goal.returns-in_err-at-clause-looks
returns-in_err-at-clause-looks g c =
    let p = err_from_is_err_and c.from_residual-in_err-at.result c.from_residual-in_err-at.ensures.1 in
    rw (p.1, p.2) (looks_looks c.in_ok-first.ensures.looks c.in_err-at.ensures.looks)

pub returns-clause-looks : goal.returns-clause-looks
returns-clause-looks g c = looks_looks c.in_ok-first.ensures.looks c.in_ok-at.ensures.looks

pub returns-in_err-at-clause-stops : goal.returns-in_err-at-clause-stops
returns-in_err-at-clause-stops g c =
    let p = err_from_is_err_and c.from_residual-in_err-at.result c.from_residual-in_err-at.ensures.1 in
    let blocks = (g.O.HasHeap.heap c.args.o.now).blocks in
    let first = c.in_ok-first.first in
    let t = length-take c.min-count.result c.args.into.now in
    let m = c.min-count.ensures in
    let room : length (take c.min-count.result c.args.into.now) ≡ min (length c.args.into.now) c.args.most = omega (arith, t, m) in
    let s = rw c.word.ensures.looks.same at c.in_err-at.ensures.stops in
    rw (p.1, p.2)
    (some_stops (first_is c.in_ok-first.ensures.given) g.M.Media c.args.place (min (length c.args.into.now) c.args.most) c.args.media.now
    c.read_extents.new.media c.in_err-at.field-0.0
    (subst (λ n. StopsAtNamed g.M.Media blocks first (begin_at c.args.place) n c.args.media.now c.read_extents.new.media c.in_err-at.field-0.0) room s))

pub returns-clause-fills : goal.returns-clause-fills
returns-clause-fills g c =
    let blocks = (g.O.HasHeap.heap c.args.o.now).blocks in
    let sub = take c.min-count.result c.args.into.now in
    let w = c.read_extents.new.into ++ drop c.min-count.result c.args.into.now in
    let t = length-take c.min-count.result c.args.into.now in
    let m = c.min-count.ensures in
    let room : length sub ≡ min (length c.args.into.now) c.args.most = omega (arith, t, m) in
    let e = rw c.word.ensures.looks.same at c.in_ok-at.ensures.read in
    let few = c.in_ok-at.ensures.room in let same = c.read_extents.ensures.same in
    subst (λ n. FillsWith (g.M.Media.told c.args.media.now) blocks c.args.object (λ row named. cut_pieces c.args.place n named) w c.in_ok-at.at.given) room
    (fills_some (first_is c.in_ok-first.ensures.given) c.args.place (drop c.min-count.result c.args.into.now) e (omega (arith, few, same)))

pub returns-clause-ends : goal.returns-clause-ends
returns-clause-ends g c = λ nz.
    let sub = take c.min-count.result c.args.into.now in
    let w = c.read_extents.new.into ++ drop c.min-count.result c.args.into.now in
    let e = rw c.word.ensures.looks.same at c.in_ok-at.ensures.read in
    let few = c.in_ok-at.ensures.room in let same = c.read_extents.ensures.same in
    some_ends c.args.place (length sub) c.in_ok-at.at.given w c.requires.object
    (fills_some (first_is c.in_ok-first.ensures.given) c.args.place (drop c.min-count.result c.args.into.now) e (omega (arith, few, same))) nz

pub returns-in_err-first-clause-asks : goal.returns-in_err-first-clause-asks
returns-in_err-first-clause-asks g c = object_unasked g.M.Media _ c.args.media.now

pub returns-in_err-at-clause-asks : goal.returns-in_err-at-clause-asks
returns-in_err-at-clause-asks g c =
    let blocks = (g.O.HasHeap.heap c.args.o.now).blocks in
    let first = c.in_ok-first.first in
    let t = length-take c.min-count.result c.args.into.now in
    let m = c.min-count.ensures in
    let room : length (take c.min-count.result c.args.into.now) ≡ min (length c.args.into.now) c.args.most = omega (arith, t, m) in
    let a = rw c.word.ensures.looks.same at c.read_extents.ensures.asks in
    some_asks (first_is c.in_ok-first.ensures.given) g.M.Media c.args.place (min (length c.args.into.now) c.args.most) c.args.media.now
    c.read_extents.new.media
    (subst (λ n. AsksAtNamed g.M.Media blocks first (begin_at c.args.place) n c.args.media.now c.read_extents.new.media) room a)

pub returns-clause-asks : goal.returns-clause-asks
returns-clause-asks g c =
    let blocks = (g.O.HasHeap.heap c.args.o.now).blocks in
    let first = c.in_ok-first.first in
    let t = length-take c.min-count.result c.args.into.now in
    let m = c.min-count.ensures in
    let room : length (take c.min-count.result c.args.into.now) ≡ min (length c.args.into.now) c.args.most = omega (arith, t, m) in
    let a = rw c.word.ensures.looks.same at c.read_extents.ensures.asks in
    some_asks (first_is c.in_ok-first.ensures.given) g.M.Media c.args.place (min (length c.args.into.now) c.args.most) c.args.media.now
    c.read_extents.new.media
    (subst (λ n. AsksAtNamed g.M.Media blocks first (begin_at c.args.place) n c.args.media.now c.read_extents.new.media) room a)
