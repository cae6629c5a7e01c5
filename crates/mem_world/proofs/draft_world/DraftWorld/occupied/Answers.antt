use Rattle.std.proofs.Common.{◌≡◌, ◌+◌, ◌∙◌, ap, arith}
use Rattle.sdr_model.proofs.AmountLemmas.{amount-by, same_amounts}
use Rattle.sdr_model.specs.Accounts.{tickets_of}
use Rattle.sdr_model.specs.Amounts.{amount}
use Rattle.sdr_model.specs.Charges.{left_in, occupancy}
use Rattle.sdr_model.specs.declared.accounts.Account.{Account}
use Rattle.sdr_model.specs.declared.accounts.Accounts.{Accounts}
use Rattle.mem_parts.specs.Capped.{capped, capped_by}
use Rattle.mem_store.specs.Charged.{charged, world_of}
use Rattle.mem_store.specs.Draft.{Draft}
use Rattle.mem_world.proofs.draft_world.DraftWorld.occupied.Goals as goal

pub returns-clause-value : goal.returns-clause-value
returns-clause-value c =
    let w = c.args.self.now.now in
    let acct = c.args.acct in
    let objects = c.charged-charged.result in
    let grants = c.left.result in
    let tickets : c.as_slice.result.now ≡ tickets_of w.accounts acct =
    c.as_slice.ensures ∙ ap (λ (a : Account). a.tickets) c.account-account.ensures
    ∙ ap (λ (a : Accounts). tickets_of a acct) (c.now.ensures ∙ ap (λ (d : Draft). d.now.accounts) c.self.view_is) in
    same_amounts c.capped_plus.result (capped_by (occupancy w acct)) (λ space.
    let both : amount c.capped_plus.result space ≡ capped (amount objects space + amount grants space) =
    ap (λ a. amount a space) c.capped_plus.ensures ∙ amount-by (λ s. capped (amount objects s + amount grants s)) space in
    let first : amount objects space ≡ capped (charged w acct space) =
    ap (λ a. amount a space) c.charged-charged.ensures.value
    ∙ amount-by (λ s. capped (charged (world_of c.self.inside.things.now) acct s)) space
    ∙ ap (λ (d : Draft). capped (charged d.now acct space)) c.self.view_is in
    let second : amount grants space ≡ capped (left_in space (tickets_of w.accounts acct)) =
    ap (λ a. amount a space) c.left.ensures ∙ amount-by (λ s. capped (left_in s c.as_slice.result.now)) space
    ∙ ap (λ ts. capped (left_in space ts)) tickets in
    omega (arith, both, first, second, amount-by (λ s. capped (occupancy w acct s)) space))
