use Rattle.std.proofs.Common.{ap, sym, ◌∙◌}
use Rattle.sdr_model.specs.Accounts.{account_of, tickets_of, with_tickets}
use Rattle.sdr_model.specs.Charges.{occupancies, rooms}
use Rattle.sdr_model.specs.Queue.{with_served}
use Rattle.mem_parts.proofs.CappedLemmas.{served-room}
use Rattle.mem_parts.specs.Rooms.{served_in}
use Rattle.mem_store.specs.Draft.{Draft}
use Rattle.mem_store.specs.Ledger.{Ledger}
use Rattle.mem_world.specs.contracts.draft_world.DraftWorld.{the_view}
use Rattle.mem_world.proofs.draft_world.DraftWorld.serve.Goals as goal

pub returns : goal.returns
returns c =
    let acct = c.args.acct in
    let inside = c.self.inside in
    let w = (the_view inside).now in
    let same = c.self.view_is ∙ c.room-room.ensures.same in
    let tickets = tickets_of w.accounts acct in
    let served = ap (λ room. served_in room tickets)
    (c.room-room.ensures.value ∙ ap (λ (d : Draft). rooms d.now acct) (sym same))
    ∙ sym (served-room (account_of w.accounts acct).maxima (occupancies w acct) tickets) in
    ap (λ (l : Ledger). the_view (record inside { accounts = l }))
    (c.serve.ensures ∙ ap (λ ts. record inside.accounts { now = with_tickets w.accounts acct ts }) served)
    ∙ ap (λ (d : Draft). record d { now = with_served d.now acct }) same
