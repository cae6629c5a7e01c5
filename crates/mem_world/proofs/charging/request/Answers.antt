use Rattle.std.proofs.Common.{◌+◌, ◌++◌, ◌∷◌, [], ℕ, ap, ap₂, ◌∙◌}
use Rattle.sdr_model.specs.AccountSteps.{new_ticket}
use Rattle.sdr_model.specs.Accounts.{tickets_of, with_tickets}
use Rattle.mem_store.specs.Draft.{Draft}
use Rattle.sdr_model.specs.Dry.{next_addr}
use Rattle.sdr_model.specs.Queue.{enqueued, with_served}
use Rattle.sdr_model.specs.World.{World}
use Rattle.sdr_model.specs.declared.accounts.Accounts.{Accounts}
use Rattle.sdr_model.specs.declared.accounts.Ticket.{Ticket}
use Rattle.mem_world.proofs.charging.request.Goals as goal

pub returns-in-Ok-clause-ok : goal.returns-in-Ok-clause-ok
returns-in-Ok-clause-ok c =
    let acct = c.args.acct in
    let counted : World → World = λ w. record w { shown = []; taken = w.taken + 1 } in
    let entered : Ticket → World → World = λ t w. record w {
      accounts =
          record (with_tickets w.accounts acct (enqueued (tickets_of w.accounts acct) t)) { next = t.number + 1 };
    } in
    let ticket = new_ticket c.accounts.result.now.next c.in_ok-block.block c.args.asked c.args.coarse c.args.fine in
    let old = c.args.world.now.now in
    let after : ℕ → ℕ → World = λ number block.
    counted (with_served (entered (new_ticket number block c.args.asked c.args.coarse c.args.fine)
    (record old { marks = old.marks ++ block ∷ [] })) acct) in
    let saved = ap (λ (d : Draft). d.now) c.in_ok-save_accounts.ensures.saved in
    c.count_blocks.ensures.counted
    ∙ ap (λ (d : Draft). counted d.now) c.serve.ensures
    ∙ ap (λ (d : Draft). counted (with_served d.now acct)) c.in-Ok.ensures.entered
    ∙ ap (λ w. counted (with_served (entered ticket w) acct)) c.in_ok-block.ensures.marked
    ∙ ap (λ (w : World). counted (with_served (entered ticket (record w { marks = w.marks ++ c.in_ok-block.block ∷ [] })) acct)) saved
    ∙ ap₂ after
    (ap (λ (a : Accounts). a.next) c.accounts.ensures ∙ ap (λ (w : World). w.accounts.next) c.in_ok-block.ensures.marked ∙ ap (λ (w : World). w.accounts.next) saved)
    (c.in_ok-block.ensures.addr ∙ ap (λ (w : World). next_addr w.taken) saved)
