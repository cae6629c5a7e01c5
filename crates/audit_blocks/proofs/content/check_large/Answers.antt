use Rattle.std.proofs.Common.{arith, refl}
use Rattle.audit_blocks.proofs.ContentLemmas.{large_inside, large_next, large_wrong}
use Rattle.audit_blocks.proofs.content.check_large.Goals as goal

pub read_label-label-requires : goal.read_label-label-requires
read_label-label-requires c = record {
  inside = (let i = large_inside c.args.heap.now c.requires.built c.args.place c.requires.filled c.requires.more in omega (arith, i));
}

pub is_filled-requires : goal.is_filled-requires
is_filled-requires c = record {
  inside =
      let i = large_inside c.args.heap.now c.requires.built c.args.place c.requires.filled c.requires.more in
      let is = c.read_label-label.ensures.given.length in
      omega (arith, i, is);
}

pub returns-then-not-is_filled-clause-damaged : goal.returns-then-not-is_filled-clause-damaged
returns-then-not-is_filled-clause-damaged c = (
  refl,
  large_wrong c.args.heap.now c.requires.built c.args.place c.requires.filled c.requires.more c.read_label-label.result c.read_label-label.ensures.given
      (c.is_filled.ensures c.args.place c.read_label-label.ensures.given) c.if-not-is_filled.true,
)

pub returns-clause-filled : goal.returns-clause-filled
returns-clause-filled c =
    large_next c.args.heap.now c.requires.built c.args.place c.requires.filled c.requires.more c.read_label-label.result c.read_label-label.ensures.given
    (c.is_filled.ensures c.args.place c.read_label-label.ensures.given) c.if-not-is_filled.false
