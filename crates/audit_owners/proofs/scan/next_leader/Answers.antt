use Rattle.std.proofs.Common.{◌≡◌, ◌*◌, ◌∙◌, false, get_or, arith, sym}
use Rattle.audit_owners.proofs.OneOfLemmas.{leads_none_more}
use Rattle.audit_owners.specs.View.{have_number}
use Rattle.audit_owners.proofs.scan.next_leader.Goals as goal

pub loop-word-preserved : goal.loop-word-preserved
loop-word-preserved c =
    let found = c.next_start-word-in-loop-word.ensures in
    let behind = found.onward in
    let most = found.most in
    let before = c.loop-word.invariant.onward in
    let inside = c.loop-word-test.true in
    let off : have_number c.args.kinds.now (get_or c.args.heap.now (8 * c.loop-word.word) 0) ≡ false = sym c.have_number.ensures ∙ c.if-not-have_number.true in
    record {
      onward = omega (arith, behind, before);
      most = λ less. most (omega (arith, inside));
      clear = leads_none_more c.args.kinds.now c.args.heap.now c.args.from c.loop-word.word c.next_start-word-in-loop-word.result c.loop-word.invariant.clear off found.clear;
    }
