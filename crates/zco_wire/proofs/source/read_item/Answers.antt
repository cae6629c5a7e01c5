-- Media are asked for the item of the source.
use Rattle.std.proofs.Common.{◌∙◌, arith}
use Rattle.std.proofs.lemmas.Result.{IfErr-weaker, on_ok_weaker}
use Rattle.zco_ref.proofs.KeptLemmas.{source_reaches}
use Rattle.zco_wire.specs.Stopping.{StopsRange}
use Rattle.zco_wire.proofs.SourceLemmas.{item_gives, item_lacks}
use Rattle.zco_wire.proofs.source.read_item.Goals as goal

pub word-requires-clause-inside : goal.word-requires-clause-inside
word-requires-clause-inside g c = source_reaches c.requires.named.named.tied.keeps 40 (omega arith)

pub returns-in-Ok-clause-gives : goal.returns-in-Ok-clause-gives
returns-in-Ok-clause-gives g c =
    let blocks = (g.O.HasHeap.heap c.args.o.now).blocks in
    let long = c.bulk_read.auto.into ∙ c.requires.long in
    on_ok_weaker _
    (λ whole. item_gives g.M.Media blocks c.args.range c.args.media.now c.bulk_read.new.self c.bulk_read.new.into c.in_ok-item.item c.in-Ok.have
    c.requires.item c.in_ok-item.ensures.given long c.in-Ok.ensures.bound c.in-Ok.ensures.bytes whole)
    c.check_whole.ensures.whole

pub returns-in-Ok-clause-stops : goal.returns-in-Ok-clause-stops
returns-in-Ok-clause-stops g c =
    let blocks = (g.O.HasHeap.heap c.args.o.now).blocks in
    let long = c.bulk_read.auto.into ∙ c.requires.long in
    IfErr-weaker _ _ (StopsRange g.M.Media blocks c.args.range c.args.media.now c.bulk_read.new.self)
    (λ stop lack. item_lacks g.M.Media blocks c.args.range c.args.media.now c.bulk_read.new.self c.bulk_read.new.into c.in_ok-item.item c.in-Ok.have
    c.requires.item c.in_ok-item.ensures.given long c.in-Ok.ensures.bound c.in-Ok.ensures.bytes stop c.in-Ok.ensures.short lack)
    c.check_whole.ensures.refused
