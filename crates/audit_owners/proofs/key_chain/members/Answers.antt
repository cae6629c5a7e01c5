use Rattle.std.proofs.Common.{◌∙◌, ◌++◌, ◌/◌, ◌-◌, ℕ, [], ◌∷◌, List, length, arith, ap}
use Rattle.audit_owners.proofs.MembersLemmas.{followed-all, followed-most, followed-step}
use Rattle.audit_owners.specs.Members.{followed, members}
use Rattle.sdr_base.specs.KeptHeap.{block_in}
use Rattle.audit_owners.specs.View.{view_in, word_of}
use Rattle.audit_owners.proofs.key_chain.members.Goals.{then-loop-link-test+else-most-gt0, else-loop-link-test}
use Rattle.audit_owners.proofs.key_chain.members.Goals as goal

pub loop-link-preserved : goal.loop-link-preserved
loop-link-preserved c =
    let heap = view_in c.args.heap.now in
    let all = members heap (length c.args.heap.now / 8) c.args.owner in
    let next = c.word-link.ensures ∙ ap (word_of (block_in c.args.heap.now c.loop-link.link)) c.next_field.ensures in
    ap (λ (l : List ℕ). l ++ followed heap c.args.owner (c.loop-link.most - 1) c.word-link.result) c.in_ok-push.ensures.items
    ∙ ap (λ (n : ℕ). (c.loop-link.addrs.items ++ (c.loop-link.link ∷ [])) ++ followed heap c.args.owner (c.loop-link.most - 1) n) next
    ∙ followed-step heap c.args.owner c.loop-link.addrs.items all c.loop-link.most c.loop-link.link c.loop-link-test.true c.if-most-gt0.true
    c.loop-link.invariant

pub returns : goal.returns
returns c =
    let heap = view_in c.args.heap.now in
    let all = members heap (length c.args.heap.now / 8) c.args.owner in
    elim c.loop-link-test.branch [
      | then-loop-link-test+else-most-gt0 w ↦
          let least = w.if-most-gt0.false in
          followed-most heap c.args.owner c.loop-link.addrs.items all c.loop-link.most c.loop-link.link (omega (arith, least)) c.loop-link.invariant
      | else-loop-link-test w ↦
          followed-all heap c.args.owner c.loop-link.addrs.items all c.loop-link.most c.loop-link.link w.loop-link-test.false c.loop-link.invariant
    ]
