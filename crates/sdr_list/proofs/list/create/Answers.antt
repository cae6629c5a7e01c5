-- The block is a list without elements.
use Rattle.std.proofs.Common.{[]}
use Rattle.std.proofs.lemmas.Result.{IfOk-weaker}
use Rattle.sdr_base.specs.Lists.{list_entries}
use Rattle.sdr_base.specs.Making.{MakesThing}
use Rattle.sdr_list.proofs.InsertLemmas.{empty_made}
use Rattle.sdr_list.proofs.list.create.Goals as goal

pub returns-clause-made : goal.returns-clause-made
returns-clause-made g c =
    IfOk-weaker _ _
    (λ list. MakesThing 32 list (list_entries list (record { user = c.args.user; elements = [] }))
    (g.O.HasHeap.heap c.args.o.now) (g.O.HasHeap.heap c.take_words.new.o))
    (λ list t. empty_made c.args.user t) c.take_words.ensures.taken
