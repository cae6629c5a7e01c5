use Rattle.std.proofs.Common.{◌≡◌, ◌∙◌, ◌-◌, ◌%◌, ◌==◌, ◌&&◌, ℕ, Bool, true, ap, arith, sym}
use Rattle.std.specs.Prelude.{nat_le}
use Rattle.std.proofs.lemmas.Bool.{and_parts, eqb-true, le-leb}
use Rattle.audit_blocks.proofs.ListedLemmas.{free_inside}
use Rattle.audit_blocks.specs.Listed.{is_told_free, list_of}
use Rattle.audit_blocks.specs.declared.control.Edges.{Edges}
use Rattle.audit_blocks.proofs.free.is_listed.Goals as goal

pub read_label-label-requires : goal.read_label-label-requires
read_label-label-requires c =
    let place = c.args.addr - c.frame_in-frame.result in
    let told = and_parts _ _ (sym c.is_told_free.ensures ∙ c.if-not-is_told_free.false) in
    let whole : place % 8 ≡ 0 = eqb-true _ _ told.0 in
    let inside = free_inside c.args.spots.now _ told.1 in
    let long = c.requires.spots in
    record { inside = omega (arith, whole, inside, long) }

pub returns : goal.returns
returns c =
    let bytes = c.args.heap.now in
    let spots = c.args.spots.now in
    let addr = c.args.addr in
    let frame = c.frame_in-frame.result in
    let listed : ℕ → Bool = λ (f : ℕ). nat_le f addr && (is_told_free spots (addr - f) && list_of bytes (addr - f) == c.args.word) in
    let enough : nat_le frame addr ≡ true = le-leb _ _ c.if-addr-frame.false in
    let told : is_told_free spots (addr - frame) ≡ true = sym c.is_told_free.ensures ∙ c.if-not-is_told_free.false in
    let low = sym (ap (λ (e : Edges). e.low) c.requires.built.edged.between) in
    ap (λ (n : ℕ). n == c.args.word) (c.list_of.ensures bytes c.read_label-label.ensures.given low)
    ∙ sym (λ i. enough i && (told i && list_of bytes (addr - frame) == c.args.word))
    ∙ ap listed c.frame_in-frame.ensures
