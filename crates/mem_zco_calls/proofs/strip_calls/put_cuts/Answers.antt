use Rattle.std.proofs.Common.{◌≡◌, ◌∙◌, ap, arith, sym, subst, Some}
use Rattle.std.specs.Prelude.{IfSome}
use Rattle.sdr_model.specs.PartSteps.{part_end, stripped}
use Rattle.sdr_model.specs.Zco.{as_object, object_at}
use Rattle.mem_parts.specs.Bounds.{AreFewBytes, IsBounded}
use Rattle.mem_store.specs.Owners.{MayPut}
use Rattle.mem_zco_calls.proofs.CutLemmas.{length-cut}
use Rattle.mem_zco_calls.proofs.InsideLemmas.{stripped-owned}
use Rattle.mem_zco_calls.proofs.strip_calls.put_cuts.Goals as goal

pub whole_of-object-requires : goal.whole_of-object-requires
whole_of-object-requires c =
    let z = c.in-Object.object in
    let there : object_at c.args.world.now.now c.args.addr ≡ Some z =
    ap as_object (c.in_ok-object.ensures.taken ∙ ap Some c.in-Object.is) in
    let cuts = subst (λ o. IfSome o (λ z. c.args.cuts ≡ (stripped z).extents)) there c.requires.cuts in
    let bounded = subst (λ o. IfSome o IsBounded) there c.requires.bounded in
    record {
      few = subst AreFewBytes (sym (c.as_slice.ensures ∙ cuts))
          (omega (arith, length-cut z.part.offset (part_end z) z.extents, bounded.extents));
    }

pub put-requires-clause-may_put : goal.put-requires-clause-may_put
put-requires-clause-may_put c =
    let z = c.in-Object.object in
    let there : object_at c.args.world.now.now c.args.addr ≡ Some z =
    ap as_object (c.in_ok-object.ensures.taken ∙ ap Some c.in-Object.is) in
    let cuts = subst (λ o. IfSome o (λ z. c.args.cuts ≡ (stripped z).extents)) there c.requires.cuts in
    stripped-owned c.take.new.self c.args.addr z c.args.cuts c.whole_of-object.result cuts
    (subst (MayPut c.take.new.self c.args.addr) c.in-Object.is c.in_ok-object.ensures.may_put)
