-- The word of the part's length is read.
use Rattle.std.proofs.Common.{arith}
use Rattle.std.proofs.lemmas.Result.{IfOk-weaker}
use Rattle.zco_obj.specs.Reading.{TellsObject}
use Rattle.zco_obj.proofs.KeptLemmas.{object_reaches, object_word}
use Rattle.zco_obj.proofs.summing.source_length.Goals as goal

pub word-requires-clause-inside : goal.word-requires-clause-inside
word-requires-clause-inside g c =
    rw c.expect_kind.ensures.looks.same (object_reaches (c.requires.object c.in_ok-expect_kind.ensures.found).keeps 72 (omega arith))

pub returns-clause-told : goal.returns-clause-told
returns-clause-told g c =
    IfOk-weaker _ _ (TellsObject (g.O.HasHeap.heap c.args.o.now).blocks c.args.object (λ row. row.part_length))
    (λ value h. record {
      kind = c.in_ok-expect_kind.ensures.found;
      told = record { tells = λ row k. object_word k 8 value (omega arith) (rw c.expect_kind.ensures.looks.same at h) };
    }) c.word.ensures.given
