use Rattle.std.proofs.Common.{◌+◌, ap, ap₂, refl, sym, ◌∙◌}
use Rattle.std.specs.Option.{option_copied}
use Rattle.sdr_model.specs.Amounts.{amount}
use Rattle.sdr_model.specs.Zco.{naming}
use Rattle.mem_store.specs.Charged.{own_extents}
use Rattle.mem_store.specs.Tallies.{charge_named, counted}
use Rattle.mem_store.proofs.TallyLemmas.{Tallies-left}
use Rattle.mem_store.proofs.tally.leave.Goals as goal

pub returns : goal.returns
returns c =
    let acct = c.args.acct in
    let mid = c.unname_all.new.tally in
    Tallies-left acct _ c.args.addr c.args.tally mid (record mid { charged = c.in_ok-tally.field-0 })
    (λ at. ap (λ l. counted mid at + naming at l) (sym (c.own_extents.ensures ∙ ap (own_extents acct) c.thing_at-thing.ensures))
    ∙ c.in_ok-unname_all.ensures.counts at)
    (c.in_ok-unname_all.ensures.sums acct)
    (λ at. refl)
    (λ space. ap₂ (λ n o. amount c.in_ok-tally.field-0 space + charge_named n acct space o) (sym c.count-uses.ensures) (sym c.thing_at-thing.ensures)
    ∙ c.in_ok-tally.ensures (λ s. charge_named c.count-uses.result acct s (option_copied c.thing_at-thing.result)) c.own_charge.ensures space)
