use Rattle.std.proofs.Common.{◌≡◌, ◌+◌, ◌-◌, ◌∙◌, ℕ, arith, ap, take, drop}
use Rattle.audit_owners.proofs.BlockLemmas.{lies_at}
use Rattle.audit_world.proofs.blocks.bytes_of.Goals as goal

pub overflow_add-result : goal.overflow_add-result
overflow_add-result c =
    let some = c.if-count-eq0.false in
    let l = lies_at c.args.heap.now c.args.addr (λ none. some (c.length_of-count.ensures ∙ none)) in
    let end = l.end in
    let count = c.length_of-count.ensures in
    let whole = c.requires.region.whole in
    let most = c.requires.region.most in
    omega (arith, end, count, whole, most)

pub slice_bounds-result-end-2 : goal.slice_bounds-result-end-2
slice_bounds-result-end-2 c =
    let some = c.if-count-eq0.false in
    let l = lies_at c.args.heap.now c.args.addr (λ none. some (c.length_of-count.ensures ∙ none)) in
    let end = l.end in
    let count = c.length_of-count.ensures in
    omega (arith, end, count)

pub returns : goal.returns
returns c =
    let some = c.if-count-eq0.false in
    let l = lies_at c.args.heap.now c.args.addr (λ none. some (c.length_of-count.ensures ∙ none)) in
    let count : c.args.addr + c.length_of-count.result - c.args.addr ≡ c.length_of-count.result = omega arith in
    ap (λ (n : ℕ). take n (drop c.args.addr c.args.heap.now)) (count ∙ c.length_of-count.ensures) ∙ l.is
