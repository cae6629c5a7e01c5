-- The path is what is behind the words of the block.
use Rattle.std.proofs.Common.{◌∙◌, sym, arith}
use Rattle.zco_wire.proofs.SeeingLemmas.{source_kind_length}
use Rattle.zco_wire.proofs.source.path_length.Goals as goal

pub overflow_sub-result : goal.overflow_sub-result
overflow_sub-result g c =
    let l = source_kind_length c.in-Some.field-0-0 c.in-Some.all c.requires.source.keeps (sym c.in-Some.is ∙ c.in_ok-all.ensures.found) in
    omega (arith, l)

pub returns-in-Some-clause-told : goal.returns-in-Some-clause-told
returns-in-Some-clause-told g c = record {
  tells = λ source k.
      let l = source_kind_length c.in-Some.field-0-0 c.in-Some.all k (sym c.in-Some.is ∙ c.in_ok-all.ensures.found) in omega (arith, l);
}
