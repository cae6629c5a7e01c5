use Rattle.std.proofs.Common.{arith, sym, subst, List, ap, ◌++◌, ◌∷◌, []}
use Rattle.std.specs.Prelude.{vec_capacity, length}
use Rattle.sdr_log.specs.declared.record.Record.{Record}
use Rattle.sdr_image.specs.Buffer.{Changes, IsBuffer}
use Rattle.sdr_image.proofs.BufferLemmas.{push_keeps}
use Rattle.sdr_image.proofs.buffer.Buffer.push.Goals as goal

pub invariant_of-self : goal.invariant_of-self
invariant_of-self c =
    let b = c.self.inside in
    let o : Record = record { line = c.args.line; bytes = c.args.old } in
    let n : Record = record { line = c.args.line; bytes = c.args.new } in
    let few = ap (λ (v : Changes). length v.olds) c.self.view_is in
    subst (λ (rs : List Record). IsBuffer rs c.push_reserved-2.new.self.items (vec_capacity c.push_reserved.new.self)
    (vec_capacity c.push_reserved-2.new.self)) (sym c.push_reserved.ensures.items)
    (subst (λ (rs : List Record). IsBuffer (b.olds.items ++ o ∷ []) rs (vec_capacity c.push_reserved.new.self)
    (vec_capacity c.push_reserved-2.new.self)) (sym c.push_reserved-2.ensures.items)
    (push_keeps b.olds.items b.news.items o n _ _ _ _ c.self.invariant (omega (arith, few, c.requires.room))
    c.requires.old c.requires.new
    (omega (arith, c.push_reserved.ensures.capacity, c.self.invariant.reserved))
    (omega (arith, c.push_reserved-2.ensures.capacity, c.self.invariant.reserved'))))
