-- The path is read, and media are asked.
use Rattle.std.proofs.Common.{◌∙◌, refl}
use Rattle.std.proofs.lemmas.Result.{on_ok_weaker}
use Rattle.zco_wire.proofs.SourceLemmas.{file_gives}
use Rattle.zco_wire.proofs.source.read_file.Goals as goal

pub returns-in-Ok-clause-gives : goal.returns-in-Ok-clause-gives
returns-in-Ok-clause-gives g c =
    let blocks = (g.O.HasHeap.heap c.args.o.now).blocks in
    let long = c.file_read.auto.into ∙ c.requires.long in
    on_ok_weaker _
    (λ whole. file_gives g.M.Media blocks c.args.range c.args.media.now c.file_read.new.self c.file_read.new.into c.see_path.new.into _ c.in_ok-path.path
    c.in-Ok.have c.requires.file c.in_ok-path.ensures.seen refl long c.in-Ok.ensures.bound c.in-Ok.ensures.bytes whole)
    c.check_whole.ensures.whole
