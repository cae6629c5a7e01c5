use Rattle.std.proofs.Common.{◌+◌, ◌∙◌, ◌/◌, ℕ, Bool, cond, length, count_by, arith, ap, sym}
use Rattle.audit_counts.proofs.CountsLemmas.{told_same}
use Rattle.audit_counts.specs.Counts.{extent_names, uses_at}
use Rattle.audit_owners.specs.Members.{members}
use Rattle.audit_owners.specs.View.{view_in}
use Rattle.audit_owners.specs.declared.owner.Owner.TheVariants as owners
use Rattle.audit_counts.proofs.counts.count_object.Goals as goal

pub returns-then-not-is_object_of : goal.returns-then-not-is_object_of
returns-then-not-is_object_of c number told =
    let heap = view_in c.args.heap.now in
    let words : ℕ = length c.args.heap.now / 8 in
    told_same number (λ from. number from + uses_at heap words c.args.account from c.args.addr) c.args.counts.now
    (λ from.
    let e =
    ap (λ (t : Bool). cond t (count_by (extent_names heap from) (members heap words (owners.Extents c.args.addr))) 0)
    (sym c.is_object_of.ensures ∙ c.if-not-is_object_of.true) in
    omega (arith, e)) told

pub returns : goal.returns
returns c number told =
    let heap = view_in c.args.heap.now in
    let words : ℕ = length c.args.heap.now / 8 in
    let extents = c.deref.ensures.value ∙ c.in_ok-extents.ensures in
    told_same (λ from. number from + count_by (extent_names heap from) c.deref.result.now) (λ from. number from + uses_at heap words c.args.account from c.args.addr)
    c.count_extents.new.counts
    (λ from.
    let same = ap (count_by (extent_names heap from)) extents in
    let there =
    ap (λ (t : Bool). cond t (count_by (extent_names heap from) (members heap words (owners.Extents c.args.addr))) 0)
    (sym c.is_object_of.ensures ∙ c.if-not-is_object_of.false) in
    omega (arith, same, there))
    (c.count_extents.ensures number told)
