use Rattle.std.proofs.Common.{◌≡◌, ◌+◌, ◌*◌, ◌∙◌, ◌/◌, ℕ, List, length, sum_by, arith, ap}
use Rattle.sdr_base.specs.declared.kind.Space.{Space}
use Rattle.sdr_base.specs.declared.kind.Space.TheVariants as spaces
use Rattle.audit_counts.proofs.ChargesLemmas.{charges_same, few_members}
use Rattle.audit_counts.specs.Occupied.{capsule_charge_at, object_charge_at}
use Rattle.sdr_model.specs.Amounts.{in_space}
use Rattle.audit_owners.specs.Members.{members}
use Rattle.audit_owners.specs.View.{view_in}
use Rattle.audit_owners.specs.declared.owner.Owner.TheVariants as owners
use Rattle.audit_counts.proofs.occupied.with_object.Goals as goal

pub overflow_mul-len : goal.overflow_mul-len
overflow_mul-len c =
    let few = few_members c.args.heap.now (owners.Extents c.args.addr) c.requires.region in
    let all = ap (λ (ms : List ℕ). length ms) c.in_ok-extents.ensures in
    omega (arith, few, all)

pub returns : goal.returns
returns c of is =
    let heap = view_in c.args.heap.now in
    let words : ℕ = length c.args.heap.now / 8 in
    let own : Space → ℕ = λ space. of space + in_space spaces.Heap 72 space in
    let extents : Space → ℕ = λ space. own space + in_space spaces.Heap (32 * c.len.result) space in
    let headers : Space → ℕ = λ space. extents space + sum_by (capsule_charge_at heap space) c.deref.result.now in
    let trailers : Space → ℕ = λ space. headers space + sum_by (capsule_charge_at heap space) c.deref-2.result.now in
    let e : c.len.result ≡ length (members heap words (owners.Extents c.args.addr)) =
    omega (arith, c.len.ensures, c.in_ok-extents.extents.ok.0, ap (λ (ms : List ℕ). length ms) c.in_ok-extents.ensures) in
    let h = c.deref.ensures.value ∙ c.in_ok-headers.ensures in
    let t = c.deref-2.ensures.value ∙ c.in_ok-trailers.ensures in
    c.with_capsules.ensures headers (c.with_capsules-charges.ensures extents (c.with-charges-2.ensures own (c.with-charges.ensures of is)))
    ∙ charges_same trailers (λ space. of space + object_charge_at heap words space c.args.addr) (λ space.
    let e' = ap (λ (n : ℕ). in_space spaces.Heap (32 * n) space) e in
    let h' = ap (sum_by (capsule_charge_at heap space)) h in
    let t' = ap (sum_by (capsule_charge_at heap space)) t in
    omega (arith, e', h', t'))
