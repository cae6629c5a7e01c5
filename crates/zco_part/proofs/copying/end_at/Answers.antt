-- The words are written at once.
use Rattle.std.proofs.Common.{◌∙◌, ◌+◌, ap, arith, length, ℕ, [], ◌∷◌}
use Rattle.std.proofs.lemmas.Result.{on_ok_weaker}
use Rattle.sdr_base.proofs.LayoutLemmas.{length-layout}
use Rattle.sdr_base.proofs.ObjectsLemmas.{layout-words}
use Rattle.zco_obj.proofs.KeptLemmas.{object_reaches}
use Rattle.zco_part.proofs.WholeLemmas.{ended_by}
use Rattle.zco_part.proofs.copying.end_at.Goals as goal

pub put-requires-clause-inside : goal.put-requires-clause-inside
put-requires-clause-inside g c =
    let words = c.args.last ∷ 0 ∷ 0 ∷ 0 ∷ 0 ∷ 0 ∷ c.args.part ∷ [] in
    let is = ap (length {A = ℕ}) (c.write_u64_into.ensures ∙ layout-words words) in
    let long = length-layout words [] in
    object_reaches c.requires.object.some.keeps (16 + length c.write_u64_into.new.dst) (omega (arith, is, long))

pub returns-clause-ended : goal.returns-clause-ended
returns-clause-ended g c =
    let is = c.write_u64_into.ensures ∙ layout-words (c.args.last ∷ 0 ∷ 0 ∷ 0 ∷ 0 ∷ 0 ∷ c.args.part ∷ []) in
    on_ok_weaker _
    (λ w. ended_by c.args.last c.args.part (g.O.HasHeap.heap c.args.o.now) (g.O.HasHeap.heap c.put.new.self) c.write_u64_into.new.dst
    c.requires.object is w)
    c.put.ensures.written
