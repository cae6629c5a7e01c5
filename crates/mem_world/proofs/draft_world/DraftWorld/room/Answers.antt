use Rattle.std.proofs.Common.{ap, ◌∙◌}
use Rattle.sdr_model.specs.Accounts.{account_of}
use Rattle.sdr_model.specs.Amounts.{minus}
use Rattle.sdr_model.specs.Charges.{occupancies, occupancy}
use Rattle.sdr_model.specs.declared.accounts.Account.{Account}
use Rattle.sdr_model.specs.declared.accounts.Accounts.{Accounts}
use Rattle.mem_store.specs.Draft.{Draft}
use Rattle.mem_world.proofs.draft_world.DraftWorld.room.Goals as goal

pub returns-clause-value : goal.returns-clause-value
returns-clause-value c =
    let w = c.args.self.now.now in
    let acct = c.args.acct in
    c.room_beside.ensures (occupancy w acct) c.occupied-occupied.ensures.value
    ∙ ap (λ (a : Account). minus a.maxima (occupancies w acct))
    (c.account-account.ensures
    ∙ ap (λ (a : Accounts). account_of a acct) (c.now.ensures ∙ ap (λ (d : Draft). d.now.accounts) (c.self.view_is ∙ c.occupied-occupied.ensures.same)))
