use Rattle.std.proofs.Common.{◌+◌, ◌∙◌, ℕ, sum_by, take}
use Rattle.sdr_base.specs.declared.kind.Space.{Space}
use Rattle.sdr_base.specs.declared.kind.Space.TheVariants as spaces
use Rattle.audit_counts.proofs.ChargesLemmas.{charges_same, left_more}
use Rattle.audit_counts.specs.Occupied.{left_at}
use Rattle.sdr_model.specs.Amounts.{in_space}
use Rattle.audit_owners.specs.View.{view_in}
use Rattle.audit_counts.proofs.occupied.with_left.Goals as goal

pub loop-addr-preserved : goal.loop-addr-preserved
loop-addr-preserved c of is =
    let heap = view_in c.args.heap.now in
    let i = c.loop-addr.addr-index in
    let before : Space → ℕ = λ space. of space + sum_by (left_at heap space) (take i c.args.tickets.now) in
    let file = c.word.result in
    let bulk = c.word-in-loop-addr.result in
    let here = c.word-in-loop-addr-2.result in
    c.with-charges.ensures (λ other. (before other + in_space spaces.File file other) + in_space spaces.Bulk bulk other)
    (c.with-in-loop-addr.ensures (λ other. before other + in_space spaces.File file other)
    (c.with.ensures before (c.loop-addr.invariant of is)))
    ∙ charges_same _ _ (left_more heap of c.args.tickets.now i _ c.loop-addr-test.true file bulk here c.word.ensures c.word-in-loop-addr.ensures c.word-in-loop-addr-2.ensures)
