-- The source is there, so its count is told, or it is a fault.
use Rattle.std.proofs.lemmas.Result.{IfErr-weaker}
use Rattle.sdr_base.specs.Objects.{OnlyFault}
use Rattle.zco_obj.proofs.SourceLemmas.{source_misses}
use Rattle.zco_obj.proofs.seeing.see_count.Goals as goal

pub count_in-requires-clause-source : goal.count_in-requires-clause-source
count_in-requires-clause-source g c = λ kind. c.requires.source

pub returns-clause-refused : goal.returns-clause-refused
returns-clause-refused g c =
    IfErr-weaker _ _ OnlyFault (λ stop m. source_misses c.args.source stop c.requires.source m) c.count_in.ensures.refused
