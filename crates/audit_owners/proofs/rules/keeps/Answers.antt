use Rattle.std.proofs.Common.{◌≡◌, ◌∙◌, ◌/◌, ◌||◌, Bool, not, true, false, get_or, ap, sym}
use Rattle.sdr_base.specs.KeptHeap.{block_in}
use Rattle.audit_owners.proofs.RulesLemmas.{reached_told}
use Rattle.audit_owners.specs.Rules.{is_chained, keeps_owner_rule}
use Rattle.audit_owners.specs.View.{view_in}
use Rattle.audit_owners.specs.declared.rules.OwnerRule.{OwnerRule}
use Rattle.audit_owners.proofs.rules.keeps.Goals as goal

pub returns-else-not-is_chained : goal.returns-else-not-is_chained
returns-else-not-is_chained c reached marked =
    let chained : is_chained (block_in c.args.heap.now c.args.addr) ≡ true = sym c.is_chained.ensures ∙ c.if-not-is_chained.false in
    c.is_marked.ensures
    ∙ ap (λ (t : Bool). not t || get_or c.args.marks.now (c.args.addr / 8) false) (sym chained)
    ∙ reached_told c.args.heap.now reached c.args.marks.now c.args.addr marked
    ∙ ap (λ (rule : OwnerRule). keeps_owner_rule (view_in c.args.heap.now) reached rule c.args.addr)
    (sym c.in-IsReached.is)
