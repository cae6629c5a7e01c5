use Rattle.std.proofs.Common.{◌≡◌, ◌∙◌, ◌+◌, ◌*◌, ap, arith, length}
use Rattle.std.specs.List.{sum_by}
use Rattle.sdr_base.specs.declared.kind.Space.TheVariants as spaces
use Rattle.sdr_model.specs.Charges.{capsule_charge}
use Rattle.mem_parts.proofs.BoundsLemmas.{object_charge-parts}
use Rattle.mem_parts.specs.Capped.{capped}
use Rattle.mem_parts.proofs.charges.object_charge.Goals as goal

pub returns : goal.returns
returns c =
    let z = c.args.object.now in
    let headers = c.capsules_charge.ensures ∙ ap (λ cs. capped (sum_by (capsule_charge spaces.Heap) cs)) c.as_slice.ensures in
    let trailers = c.capsules_charge-2.ensures ∙ ap (λ cs. capped (sum_by (capsule_charge spaces.Heap) cs)) c.as_slice-2.ensures in
    let heap : c.saturating_add-3.result
    ≡ capped (32 * length z.extents + 72 + sum_by (capsule_charge spaces.Heap) z.headers + sum_by (capsule_charge spaces.Heap) z.trailers) =
    omega (arith, c.len-extents.ensures, c.saturating_mul.ensures, c.saturating_add.ensures, headers, c.saturating_add-2.ensures, trailers, c.saturating_add-3.ensures) in
    c.heap_charge.ensures ∙ object_charge-parts z c.saturating_add-3.result heap
