use Rattle.std.proofs.Common.{arith, refl}
use Rattle.audit_blocks.proofs.ContentLemmas.{small_inside, small_next, small_wrong}
use Rattle.audit_blocks.proofs.content.check_small.Goals as goal

pub read_label-label-requires : goal.read_label-label-requires
read_label-label-requires c = record {
  inside = (let i = small_inside c.args.heap.now c.requires.built c.args.place c.requires.filled c.requires.more in omega (arith, i));
}

pub overflow_add-place : goal.overflow_add-place
overflow_add-place c =
    let i = small_inside c.args.heap.now c.requires.built c.args.place c.requires.filled c.requires.more in
    let whole = c.requires.built.edged.region.whole in
    let most = c.requires.built.edged.region.most in
    omega (arith, i, whole, most)

pub overflow_add-result : goal.overflow_add-result
overflow_add-result c =
    let i = small_inside c.args.heap.now c.requires.built c.args.place c.requires.filled c.requires.more in
    let whole = c.requires.built.edged.region.whole in
    let most = c.requires.built.edged.region.most in
    omega (arith, i, whole, most)

pub overflow_add-result-3 : goal.overflow_add-result-3
overflow_add-result-3 c =
    let i = small_inside c.args.heap.now c.requires.built c.args.place c.requires.filled c.requires.more in
    let whole = c.requires.built.edged.region.whole in
    let most = c.requires.built.edged.region.most in
    let words = c.read_label-label.ensures.words in
    omega (arith, i, whole, most, words)

pub is_filled-requires : goal.is_filled-requires
is_filled-requires c = record {
  inside =
      let i = small_inside c.args.heap.now c.requires.built c.args.place c.requires.filled c.requires.more in
      let is = c.read_label-label.ensures.given.length in
      omega (arith, i, is);
}

pub returns-then-not-is_filled-clause-damaged : goal.returns-then-not-is_filled-clause-damaged
returns-then-not-is_filled-clause-damaged c = (
  refl,
  small_wrong c.args.heap.now c.requires.built c.args.place c.requires.filled c.requires.more c.read_label-label.result c.read_label-label.ensures.given
      (c.is_filled.ensures c.args.place c.read_label-label.ensures.given) c.if-not-is_filled.true,
)

pub returns-clause-filled : goal.returns-clause-filled
returns-clause-filled c =
    small_next c.args.heap.now c.requires.built c.args.place c.requires.filled c.requires.more c.read_label-label.result c.read_label-label.ensures.given
    (c.is_filled.ensures c.args.place c.read_label-label.ensures.given) c.if-not-is_filled.false
