-- So many pieces has an object of the length that was told.
use Rattle.std.proofs.Common.{ap, ◌∙◌}
use Rattle.std.specs.Int.{div_ceil}
use Rattle.zco_pieces.proofs.cutting.count.Goals as goal

pub returns-clause-told : goal.returns-clause-told
returns-clause-told g c =
    let t = c.in_ok-length.ensures.told in
    record {
      kind = t.kind;
      told = record { tells = λ row k. c.div_ceil.ensures ∙ ap (λ n. div_ceil n c.args.most) (t.told.tells row k) };
    }
