-- The bytes are those of the grant, and their lines its lines.
use Rattle.std.proofs.Common.{[], ◌∷◌, ◌≡◌, ◌+◌, ◌∙◌, ℕ, length, subst, arith}
use Rattle.std.proofs.lemmas.Result.{on_ok_weaker}
use Rattle.sdr_base.specs.Cells.{TouchesWithin, lines_of}
use Rattle.sdr_base.proofs.ObjectsLemmas.{layout-words}
use Rattle.zco_acct.proofs.TicketLemmas.{grant_put}
use Rattle.zco_acct.proofs.ticket.put_grant.Goals as goal

pub returns-clause-granted : goal.returns-clause-granted
returns-clause-granted g c =
    let left = c.args.left.now in
    on_ok_weaker _
    (λ w. grant_put (g.O.HasHeap.heap c.args.o.now) (g.O.HasHeap.heap c.put.new.self) c.args.addr left
    c.write_u64_into.new.dst
    (c.write_u64_into.ensures ∙ layout-words (left.file ∷ left.bulk ∷ left.heap ∷ 1 ∷ [])) w) c.put.ensures.written

pub returns-clause-lines : goal.returns-clause-lines
returns-clause-lines g c =
    let long : length c.write_u64_into.new.dst ≡ 32 = omega arith in
    subst
    (λ (n : ℕ). TouchesWithin (lines_of (c.args.addr + 56) n) (g.O.HasHeap.transaction c.args.o.now)
    (g.O.HasHeap.transaction c.put.new.self) c.put.result) long c.put.ensures.lines
