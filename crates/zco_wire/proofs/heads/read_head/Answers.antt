-- The text stands behind the word of the block.
use Rattle.std.proofs.Common.{◌∙◌, ◌+◌, subst, arith}
use Rattle.std.proofs.lemmas.Slice.{take-put_mid}
use Rattle.sdr_base.specs.Blocks.{HasBytes}
use Rattle.zco_wire.proofs.HeadLemmas.{head_over, slice_long}
use Rattle.zco_wire.proofs.SeeingLemmas.{some_head_reaches}
use Rattle.zco_wire.proofs.heads.read_head.Goals as goal

pub get-requires-clause-inside : goal.get-requires-clause-inside
get-requires-clause-inside g c =
    let w = c.window-part.ensures in
    let long = slice_long c.args.at.given c.window-part.result.length c.args.into.now (omega (arith, w.length, c.requires.room)) in
    some_head_reaches _ c.requires.head c.requires.seen (omega (arith, w.offset, w.length, long))

pub returns-clause-read : goal.returns-clause-read
returns-clause-read g c =
    let w = c.window-part.ensures in
    let long = slice_long c.args.at.given c.window-part.result.length c.args.into.now (omega (arith, w.length, c.requires.room)) in
    let got = c.get.auto.into ∙ long in
    head_over c.args.at c.behind.result c.window-part.result c.args.into.now _ c.get.new.into c.requires.room
    (take-put_mid c.args.at.given _ c.args.into.now c.get.new.into c.behind.result.given (omega (arith, c.behind.ensures.given, got)) c.requires.room)
    c.args.seen c.requires.seen
    (record { offset = w.offset; length = w.length; skip = c.behind.ensures.skip; given = c.behind.ensures.given })
    (subst (λ n. HasBytes ((g.O.HasHeap.heap c.args.o.now).blocks c.args.head) (8 + c.window-part.result.offset) n c.get.new.into) long
    c.in_ok-get.ensures.given)
