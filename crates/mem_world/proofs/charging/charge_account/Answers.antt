use Rattle.std.proofs.Common.{ap, sym, ◌∙◌}
use Rattle.mem_world.specs.Allowed.{refusal_of, with_back}
use Rattle.sdr_model.specs.Amounts.{minus}
use Rattle.sdr_model.specs.Charging.{with_covered}
use Rattle.mem_store.specs.Draft.{Draft}
use Rattle.mem_world.proofs.ChargeLemmas.{charge_refused_by, with_back-used}
use Rattle.mem_world.proofs.charging.charge_account.Goals as goal

pub returns-in-Some-clause-refused : goal.returns-in-Some-clause-refused
returns-in-Some-clause-refused c =
    let uncovered = c.minus-uncovered.ensures ∙ ap (minus c.args.amounts.now) c.grant_left.ensures in
    charge_refused_by c.args.world.now.now c.args.acct c.args.number c.args.amounts.now c.in-Ok.granted c.in-Some.refusal
    c.in-Ok.ensures.granted
    (ap (refusal_of c.args.world.now.now c.args.acct) (sym uncovered) ∙ sym c.refusal.ensures.value ∙ c.in-Some.is)

pub returns-in_ok-save_accounts-in-None-clause-back : goal.returns-in_ok-save_accounts-in-None-clause-back
returns-in_ok-save_accounts-in-None-clause-back c =
    let now = ap (λ (d : Draft). d.now) c.use_grant.ensures
    ∙ ap (λ (d : Draft). with_covered d.now c.in-Ok.granted c.args.amounts.now) c.in_ok-save_accounts-in-None.ensures.saved
    ∙ ap (λ (d : Draft). with_covered d.now c.in-Ok.granted c.args.amounts.now) c.refusal.ensures.same in
    ap (λ w. with_back w c.in-Ok.granted) now
    ∙ with_back-used c.args.world.now.now c.in-Ok.granted c.args.amounts.now c.in-Ok.ensures.stands
