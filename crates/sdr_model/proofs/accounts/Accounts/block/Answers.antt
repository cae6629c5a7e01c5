use Rattle.std.proofs.Common.{map, ap, sym, ◌∙◌}
use Rattle.std.proofs.lemmas.List.Folds.{find-append}
use Rattle.std.specs.Option.{option_or}
use Rattle.sdr_model.specs.Accounts.{block_for_ticket}
use Rattle.sdr_model.specs.Things.{block_among}
use Rattle.sdr_model.proofs.accounts.Accounts.block.Goals as goal

pub returns-in-Some : goal.returns-in-Some
returns-in-Some c =
    let accounts = c.args.self.now in
    ap (λ o. option_or o (block_among c.args.addr (map block_for_ticket accounts.outbound.tickets))) c.in-Some.ensures
    ∙ sym (find-append _ (map block_for_ticket accounts.inbound.tickets)
    (map block_for_ticket accounts.outbound.tickets))

pub returns-in-None : goal.returns-in-None
returns-in-None c =
    let accounts = c.args.self.now in
    c.block-in-None.ensures
    ∙ ap (λ o. option_or o (block_among c.args.addr (map block_for_ticket accounts.outbound.tickets))) c.in-None.ensures
    ∙ sym (find-append _ (map block_for_ticket accounts.inbound.tickets)
    (map block_for_ticket accounts.outbound.tickets))
