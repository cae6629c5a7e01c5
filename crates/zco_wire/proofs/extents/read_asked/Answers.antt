-- The window of the range is read, unless it has no byte.
use Rattle.std.proofs.Common.{◌∙◌, length, arith}
use Rattle.std.proofs.lemmas.Slice.{take-put_mid}
use Rattle.std.proofs.lemmas.Result.{err_from_is_err_and}
use Rattle.zco_wire.proofs.HeadLemmas.{nothing_over, range_asks_at, range_failed, range_over, range_stops, range_unasked_at, slice_long, some_within}
use Rattle.zco_wire.proofs.StoppingLemmas.{looks_past}
use Rattle.zco_wire.proofs.extents.read_asked.Goals as goal

pub returns-in_err-check_failed-clause-stops : goal.returns-in_err-check_failed-clause-stops
returns-in_err-check_failed-clause-stops g c =
    let p = err_from_is_err_and c.from_residual.result c.from_residual.ensures.1 in
    rw (p.1, p.2) (range_failed g.M.Media c.args.range c.args.at c.args.media.now c.args.media.now _ c.in_err-check_failed.ensures.refused)

pub returns-in_err-check_failed-clause-looks : goal.returns-in_err-check_failed-clause-looks
returns-in_err-check_failed-clause-looks g c =
    let p = err_from_is_err_and c.from_residual.result c.from_residual.ensures.1 in
    rw (p.1, p.2) (looks_past _ c.in_err-check_failed.ensures.looks)

pub returns-then-part-eq0-clause-read : goal.returns-then-part-eq0-clause-read
returns-then-part-eq0-clause-read g c =
    let w = c.window-part.ensures in
    nothing_over c.args.range c.args.at c.behind.result c.window-part.result c.args.into.now c.requires.room c.if-part-eq0.true
    (record { offset = w.offset; length = w.length; skip = c.behind.ensures.skip; given = c.behind.ensures.given })

pub returns-then-part-eq0-clause-looks : goal.returns-then-part-eq0-clause-looks
returns-then-part-eq0-clause-looks g c = looks_past _ c.in_ok-check_failed.ensures.looks

pub read_range-requires-clause-named : goal.read_range-requires-clause-named
read_range-requires-clause-named g c =
    let w = c.window-part.ensures in some_within c.window-part.result c.requires.named (omega (arith, w.offset, w.length))

pub read_range-requires-clause-long : goal.read_range-requires-clause-long
read_range-requires-clause-long g c =
    let w = c.window-part.ensures in
    slice_long c.args.at.given c.window-part.result.length c.args.into.now (omega (arith, w.length, c.requires.room))

pub returns-in_err-read_range-clause-stops : goal.returns-in_err-read_range-clause-stops
returns-in_err-read_range-clause-stops g c =
    let p = err_from_is_err_and c.from_residual-in_err-read_range.result c.from_residual-in_err-read_range.ensures.1 in
    let w = c.window-part.ensures in
    rw (p.1, p.2)
    (range_stops g.M.Media c.args.range c.args.at c.window-part.result (length c.args.into.now) c.args.media.now c.read_range.new.media _
    w.offset w.length c.if-part-eq0.false c.in_err-read_range.ensures.stops)

pub returns-in_err-read_range-clause-looks : goal.returns-in_err-read_range-clause-looks
returns-in_err-read_range-clause-looks g c =
    let p = err_from_is_err_and c.from_residual-in_err-read_range.result c.from_residual-in_err-read_range.ensures.1 in
    rw (p.1, p.2) c.in_err-read_range.ensures.looks

pub returns-clause-read : goal.returns-clause-read
returns-clause-read g c =
    let w = c.window-part.ensures in
    let got =
    c.read_range.ensures.same ∙ slice_long c.args.at.given c.window-part.result.length c.args.into.now (omega (arith, w.length, c.requires.room)) in
    range_over c.args.at c.behind-2.result c.window-part.result c.args.into.now _ c.read_range.new.into c.requires.room
    (take-put_mid c.args.at.given _ c.args.into.now c.read_range.new.into c.behind-2.result.given (omega (arith, c.behind-2.ensures.given, got)) c.requires.room)
    c.args.range (record { offset = w.offset; length = w.length; skip = c.behind-2.ensures.skip; given = c.behind-2.ensures.given }) got
    (λ nz. c.in_ok-read_range.ensures.gives)

pub returns-clause-asks : goal.returns-clause-asks
returns-clause-asks g c =
    let w = c.window-part.ensures in
    range_asks_at g.M.Media c.args.range c.args.at c.window-part.result (length c.args.into.now) c.args.media.now c.read_range.new.media
    w.offset w.length c.if-part-eq0.false c.read_range.ensures.asks

pub returns-in_err-read_range-clause-asks : goal.returns-in_err-read_range-clause-asks
returns-in_err-read_range-clause-asks g c =
    let w = c.window-part.ensures in
    range_asks_at g.M.Media c.args.range c.args.at c.window-part.result (length c.args.into.now) c.args.media.now c.read_range.new.media
    w.offset w.length c.if-part-eq0.false c.read_range.ensures.asks

pub returns-then-part-eq0-clause-asks : goal.returns-then-part-eq0-clause-asks
returns-then-part-eq0-clause-asks g c = range_unasked_at g.M.Media c.args.range c.args.at c.args.media.now

pub returns-in_err-check_failed-clause-asks : goal.returns-in_err-check_failed-clause-asks
returns-in_err-check_failed-clause-asks g c = range_unasked_at g.M.Media c.args.range c.args.at c.args.media.now
