use Rattle.std.proofs.Common.{◌∙◌, sym, arith}
use Rattle.audit_blocks.proofs.StruckLemmas.{listed_left}
use Rattle.audit_blocks.proofs.ToldLemmas.{listed_large}
use Rattle.audit_blocks.proofs.free.may_follow.Goals as goal

pub has_previous-requires-clause-inside : goal.has_previous-requires-clause-inside
has_previous-requires-clause-inside c =
    let bytes = c.args.heap.now in
    let left = c.requires.left in
    let blocks = left.found in
    let told = listed_left left.left_is bytes c.args.link.now.word c.args.link.now.addr (sym c.is_listed.ensures ∙ c.if-is_listed.true) in
    let l =
    listed_large bytes left.told c.requires.built.edged.right left.long left.found blocks.small blocks.large blocks.blocks c.args.link.now.word c.args.link.now.addr
    (sym c.is_small_list.ensures ∙ c.if-is_small_list.false) told.0 in
    let inside = l.inside in
    let words = l.sized in
    omega (arith, inside, words)
