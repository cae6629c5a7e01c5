-- Its words are read.
use Rattle.std.proofs.Common.{arith}
use Rattle.zco_obj.proofs.KeptLemmas.{object_reaches, object_word}
use Rattle.zco_obj.proofs.object.first_parts.Goals as goal

pub word-requires-clause-inside : goal.word-requires-clause-inside
word-requires-clause-inside g c = object_reaches c.requires.object.keeps 32 (omega arith)

pub word-requires-2-clause-inside : goal.word-requires-2-clause-inside
word-requires-2-clause-inside g c = rw c.word.ensures.looks.same (object_reaches c.requires.object.keeps 16 (omega arith))

pub word-requires-3-clause-inside : goal.word-requires-3-clause-inside
word-requires-3-clause-inside g c =
    rw (c.word-2.ensures.looks.same, c.word.ensures.looks.same) (object_reaches c.requires.object.keeps 48 (omega arith))

pub returns-clause-told : goal.returns-clause-told
returns-clause-told g c =
    let e = rw c.word.ensures.looks.same at c.in_ok-extent.ensures.given in
    let t = rw (c.word-2.ensures.looks.same, c.word.ensures.looks.same) at c.in_ok-trailer.ensures.given in
    record {
      told = λ row k. record {
        header = object_word k 3 _ (omega arith) c.in_ok-header.ensures.given;
        extent = object_word k 1 _ (omega arith) e;
        trailer = object_word k 5 _ (omega arith) t;
      };
    }
