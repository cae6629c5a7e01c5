use Rattle.std.proofs.Common.{◌∙◌, ◌-◌, ℕ, length, min, ap, sym}
use Rattle.std.specs.Prelude.{Option, Some}
use Rattle.sdr_base.specs.Blocks.{kind_length}
use Rattle.sdr_base.specs.Kinds.{kind_of}
use Rattle.sdr_base.specs.declared.kind.Kind.{Kind}
use Rattle.audit_owners.proofs.RegionLemmas.{found_clear, found_free, found_nowhere, found_unset, found_used, none_past}
use Rattle.audit_owners.proofs.region.find.Goals as goal

pub returns-then-addr-heap : goal.returns-then-addr-heap
returns-then-addr-heap c = sym (ap kind_length (none_past c.args.heap.now c.args.addr c.if-addr-heap.true))

pub returns-then-not-is_begun_before : goal.returns-then-not-is_begun_before
returns-then-not-is_begun_before c = sym (found_unset c.args.heap.now c.args.addr (sym c.is_begun_before.ensures ∙ c.if-not-is_begun_before.true))

pub returns-in_default : goal.returns-in_default
returns-in_default c = sym (found_nowhere c.args.heap.now c.args.addr (sym c.leader_place.ensures ∙ c.in_default.is))

pub returns-then-not-has_start_bit : goal.returns-then-not-has_start_bit
returns-then-not-has_start_bit c =
    sym (found_clear c.args.heap.now c.args.addr c.in-Some.place (sym c.leader_place.ensures ∙ c.in-Some.is)
    (sym c.has_start_bit.ensures ∙ c.if-not-has_start_bit.true))

pub returns-in-None : goal.returns-in-None
returns-in-None c =
    sym (found_free c.args.heap.now c.args.addr c.in-Some.place (sym c.leader_place.ensures ∙ c.in-Some.is)
    (sym c.has_start_bit.ensures ∙ c.if-not-has_start_bit.false) (sym (c.in-None.ensures ∙ ap kind_of c.read_label-label.ensures.given.kind)))

pub returns-in-Some-of : goal.returns-in-Some-of
returns-in-Some-of c =
    let told : ℕ → Option (Kind × ℕ) = λ (n : ℕ). Some (c.in-Some-of.kind, n) in
    ap told
    (c.min-count.ensures ∙ ap (λ (n : ℕ). min n (length c.args.heap.now - c.args.addr)) c.read_label-label.ensures.given.length)
    ∙ sym (found_used c.args.heap.now c.args.addr c.in-Some.place c.in-Some-of.kind (sym c.leader_place.ensures ∙ c.in-Some.is)
    (sym c.has_start_bit.ensures ∙ c.if-not-has_start_bit.false) (sym (c.in-Some-of.ensures ∙ ap kind_of c.read_label-label.ensures.given.kind)))
