use Rattle.std.proofs.Common.{◌∙◌, ap}
use Rattle.sdr_model.specs.Accounts.{account_of}
use Rattle.mem_store.specs.Draft.{Draft}
use Rattle.mem_parts.specs.Refusals.{refusal_in}
use Rattle.mem_world.proofs.ChargeLemmas.{refusal-world}
use Rattle.mem_world.proofs.draft_world.DraftWorld.refusal.Goals as goal

pub returns-clause-value : goal.returns-clause-value
returns-clause-value c =
    let w = c.args.self.now.now in
    let same = c.self.view_is ∙ c.occupied-occupied.ensures.same in
    c.refusal.ensures
    ∙ ap (λ a. refusal_in a c.occupied-occupied.result c.args.uncovered.now)
    (c.account-account.ensures ∙ ap (λ a. account_of a c.args.acct) (c.now.ensures ∙ ap (λ (d : Draft). d.now.accounts) same))
    ∙ refusal-world w c.args.acct c.args.uncovered.now c.occupied-occupied.result c.occupied-occupied.ensures.value c.requires.bound
