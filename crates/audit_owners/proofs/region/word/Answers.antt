use Rattle.std.proofs.Common.{◌∙◌, ◌<◌, ◌/◌, ℕ, subst, sym, arith}
use Rattle.audit_owners.proofs.RegionLemmas.{has_word}
use Rattle.audit_owners.proofs.region.word.Goals as goal

pub overflow_add-addr : goal.overflow_add-addr
overflow_add-addr c =
    let h = has_word c.args.heap.now c.args.addr c.args.field (subst (λ (n : ℕ). c.args.field < n / 8) c.length_of.ensures c.if-field-length_of.true) in
    let inside = h.inside in
    let whole = c.requires.region.whole in
    let most = c.requires.region.most in
    omega (arith, inside, whole, most)

pub number_at-requires : goal.number_at-requires
number_at-requires c =
    (has_word c.args.heap.now c.args.addr c.args.field (subst (λ (n : ℕ). c.args.field < n / 8) c.length_of.ensures c.if-field-length_of.true)).inside

pub returns-then-field-length_of : goal.returns-then-field-length_of
returns-then-field-length_of c =
    c.number_at.ensures
    ∙ sym (has_word c.args.heap.now c.args.addr c.args.field
    (subst (λ (n : ℕ). c.args.field < n / 8) c.length_of.ensures c.if-field-length_of.true)).is
