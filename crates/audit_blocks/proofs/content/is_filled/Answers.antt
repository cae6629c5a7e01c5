use Rattle.std.proofs.Common.{◌≡◌, ◌∙◌, ◌-◌, ◌+◌, ◌||◌, ℕ, Bool, Option, Some, ap, arith, min, not, sym, true, take, drop}
use Rattle.sdr_base.specs.Kinds.{kind_of}
use Rattle.sdr_base.specs.Parts.{part}
use Rattle.sdr_base.specs.Stored.{leader_kind, leader_length}
use Rattle.sdr_base.specs.declared.kind.Kind.{Kind}
use Rattle.audit_blocks.specs.Content.{has_layout, is_filled_at, may_have}
use Rattle.audit_blocks.specs.Labels.{is_led}
use Rattle.audit_blocks.proofs.content.is_filled.Goals as goal

pub returns-in-Some : goal.returns-in-Some
returns-in-Some c place is =
    let bytes = c.args.heap.now in
    let addr = c.args.addr in
    let led : is_led c.args.label.now ≡ true = sym c.is_used.ensures ∙ c.if-not-is_used.false in
    let kind_is : Some c.in-Some.kind ≡ kind_of (leader_kind place bytes) = c.in-Some.ensures ∙ ap kind_of is.kind in
    let first : take (addr + c.min.result - addr) (drop addr bytes) ≡ part addr (min 96 (leader_length place bytes)) bytes =
    ap (λ (n : ℕ). part addr n bytes) (let m = c.min.ensures in let l = is.length in omega (arith, m, l)) in
    c.has_layout.ensures
    ∙ (λ i. has_layout c.in-Some.kind (is.length i) (first i))
    ∙ ap (λ (k : Option Kind). may_have k (leader_length place bytes) (part addr (min 96 (leader_length place bytes)) bytes)) kind_is
    ∙ sym (ap (λ (t : Bool). not t || is_filled_at bytes place addr) led)
