use Rattle.std.proofs.Common.{◌+◌, ap, ap₂, refl, ◌∙◌}
use Rattle.std.specs.Option.{option_copied}
use Rattle.sdr_model.specs.Amounts.{amount}
use Rattle.sdr_model.specs.Zco.{naming}
use Rattle.mem_store.specs.Charged.{own_extents}
use Rattle.mem_store.specs.Tallies.{charge_named, counted}
use Rattle.mem_store.proofs.TallyLemmas.{Tallies-entered}
use Rattle.mem_store.proofs.tally.enter.Goals as goal

pub returns : goal.returns
returns c =
    let acct = c.args.acct in
    Tallies-entered acct _ c.args.addr c.args.tally (record c.args.tally { charged = c.in_ok-tally.field-0 }) c.name_all.new.tally (λ at. refl)
    (λ space. c.in_ok-tally.ensures (λ s. charge_named c.count-uses.result acct s (option_copied c.thing_at-thing.result)) c.own_charge.ensures space
    ∙ ap₂ (λ n o. amount c.args.tally.charged space + charge_named n acct space o) c.count-uses.ensures c.thing_at-thing.ensures)
    (λ at. c.in_ok-name_all.ensures.counts at
    ∙ ap (λ l. counted c.args.tally at + naming at l) (c.own_extents.ensures ∙ ap (own_extents acct) c.thing_at-thing.ensures))
    (c.in_ok-name_all.ensures.sums acct)
