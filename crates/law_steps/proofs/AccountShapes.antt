-- The shapes of the rows of accounts and tickets.
use Rattle.std.proofs.Common.{◌≡◌, ◌==◌, ◌+◌, ℕ, List, [], ◌∷◌, ◌++◌, ◌<◌, true, Some, map, length, nat_lt, get_or, refl, sym, ap, ◌∙◌, arith}
use Rattle.std.specs.List.{prefix_len, remove, sum_by}
use Rattle.std.proofs.lemmas.List.Sums.{sum_by-insert, sum_by-remove}
use Rattle.sdr_base.specs.declared.account.Acct.{Acct}
use Rattle.sdr_base.specs.declared.account.Acct.TheVariants as accts
use Rattle.sdr_base.specs.declared.account.Amounts.{Amounts}
use Rattle.sdr_base.specs.declared.kind.Space.{Space}
use Rattle.law_steps.proofs.AccountLemmas.{alike-served, pending_of_stands, sum_by-with_tickets}
use Rattle.law_steps.proofs.Alike.{Alike, alike-then}
use Rattle.law_steps.proofs.Changes.{Changes, none_marked, one_marked, swaps_tickets}
use Rattle.law_steps.proofs.Shapes.{Shape, does, on_failed, on_none, on_passed, on_some, reads, takes_one}
use Rattle.sdr_model.proofs.SumLemmas.{sum_by-map}
use Rattle.law_steps.proofs.ThingChanges.{in_takes}
use Rattle.law_steps.specs.MovesBlocks.{given_addresses, taken_needs}
use Rattle.sdr_model.specs.AccountSteps as account
use Rattle.sdr_model.specs.Accounts.{account_of, most_amount, no_ticket, block_for_ticket, ticket_blocks, ticket_need, tickets_of, with_account, with_tickets}
use Rattle.sdr_model.specs.Amounts.{first_above}
use Rattle.sdr_model.specs.Queue.{enqueued, stands_before}
use Rattle.sdr_model.specs.RowMoves.{block_of_ticket}
use Rattle.sdr_model.specs.Step.{is_answer}
use Rattle.sdr_model.specs.Steps.{Does, Outcome, gave, taken_addresses}
use Rattle.sdr_model.specs.World.{World}
use Rattle.sdr_model.specs.declared.accounts.Accounts.{Accounts}
use Rattle.sdr_model.specs.declared.accounts.Pending.{Pending}
use Rattle.sdr_model.specs.declared.accounts.Ticket.{Ticket}
use Rattle.sdr_model.specs.declared.answer.Reply.TheVariants as replies
use Rattle.sdr_model.specs.declared.call.Call.TheVariants as calls
use Rattle.sdr_model.specs.declared.things.UsedBlock.{UsedBlock}

-- the blocks of an account's tickets, where it has another maximum
with_maximum_blocks : (accounts : Accounts) (acct : Acct) (space : Space) (value : ℕ)
    → ticket_blocks (with_account accounts acct (account.with_maximum (account_of accounts acct) space value))
    ≡ ticket_blocks accounts
with_maximum_blocks accounts accts.Inbound space value = refl
with_maximum_blocks accounts accts.Outbound space value = refl

-- the blocks of a queue with one more ticket
sum_by-enqueued : (measure : UsedBlock → ℕ) (tickets : List Ticket) (t : Ticket)
    → sum_by measure (map block_for_ticket (enqueued tickets t))
    ≡ sum_by measure (map block_for_ticket tickets) + measure (block_for_ticket t)
sum_by-enqueued measure tickets t =
    omega (
      arith,
      sum_by-map measure block_for_ticket (enqueued tickets t),
      sum_by-map measure block_for_ticket tickets,
      sum_by-insert (λ t. measure (block_for_ticket t)) tickets (prefix_len (λ u. stands_before u t) tickets) t,
    )

-- and with one less
sum_by-dequeued : (measure : UsedBlock → ℕ) (tickets : List Ticket) (place : ℕ) → place < length tickets
    → sum_by measure (map block_for_ticket (remove tickets place))
    + measure (block_for_ticket (get_or tickets place no_ticket)) ≡ sum_by measure (map block_for_ticket tickets)
sum_by-dequeued measure tickets place within =
    omega (
      arith,
      sum_by-map measure block_for_ticket (remove tickets place),
      sum_by-map measure block_for_ticket tickets,
      sum_by-remove (λ t. measure (block_for_ticket t)) tickets place no_ticket within,
    )

module _ {w : World} {o : Outcome} where
  pub occupancy : (acct : Acct) (space : Space) → account.Occupancy w o acct space
      → Shape w (calls.Occupancy acct space) o
  occupancy acct space r = reads r refl refl (λ at. refl) refl

  pub maximum : (acct : Acct) (space : Space) → account.Maximum w o acct space → Shape w (calls.Maximum acct space) o
  maximum acct space r = reads r refl refl (λ at. refl) refl

  -- a call that leaves the blocks
  blocks_stay : {next : World} → Alike w next → Does o [] next replies.Done → Changes w o
  blocks_stay like d = swaps_tickets w o (record {
    taken = [];
    given = [];
    answered = ap is_answer d.2;
    marks = none_marked w o _ d.1 (ap taken_addresses d.0) like.marks refl like.taken;
    needs = sym (ap taken_needs d.0);
    takes = sym (ap taken_addresses d.0);
    gives = sym (ap given_addresses d.0);
    things = ap (λ (v : World). v.things) d.1 ∙ like.things;
    names = ap (λ (v : World). v.names) d.1 ∙ like.names;
    sums = λ measure.
        omega (
          arith,
          ap (λ (v : World). sum_by measure (ticket_blocks v.accounts)) d.1,
          ap (sum_by measure) like.tickets,
        );
  })

  pub set_maximum : (acct : Acct) (space : Space) (value : ℕ) → account.SetMaximum w o acct space value
      → Shape w (calls.SetMaximum acct space value) o
  set_maximum acct space value h =
      on_failed (nat_lt most_amount value) _ h refl (λ fits d.
      let accounts =
      with_account w.accounts acct (account.with_maximum (account_of w.accounts acct) space value) in
      let like : Alike w (record w { accounts = accounts }) = record {
        things = refl;
        names = refl;
        tickets = with_maximum_blocks w.accounts acct space value;
        marks = refl;
        taken = refl;
      } in
      does d refl (λ at. refl)
      (blocks_stay (alike-then like (alike-served (record w { accounts = accounts }) acct)) d))

  -- a ticket enters a queue, which is served
  enters : (acct : Acct) (t : Ticket) (addr : ℕ) → t.block ≡ addr
      → taken_needs o.moves ≡ ticket_need ∷ [] → taken_addresses o.moves ≡ addr ∷ [] → given_addresses o.moves ≡ []
      → o.after ≡ record (account.with_request w acct t) { marks = w.marks ++ addr ∷ []; shown = [] }
      → is_answer o.reply ≡ true → Changes w o
  enters acct t addr at needs takes gives is answered =
      let base : World = record w {
        accounts = record (with_tickets w.accounts acct (enqueued (tickets_of w.accounts acct) t)) { next = t.number + 1 };
      } in
      let like = alike-served base acct in
      swaps_tickets w o (record {
        taken = block_for_ticket t ∷ [];
        given = [];
        answered = answered;
        marks = one_marked w o addr _ is takes refl refl refl;
        needs = sym needs;
        takes = ap (λ a. a ∷ []) at ∙ sym takes;
        gives = sym gives;
        things = ap (λ (v : World). v.things) is;
        names = ap (λ (v : World). v.names) is;
        sums = λ measure.
            omega (
              arith,
              ap (λ (v : World). sum_by measure (ticket_blocks v.accounts)) is,
              ap (sum_by measure) like.tickets,
              sum_by-with_tickets measure w.accounts acct (enqueued (tickets_of w.accounts acct) t),
              sum_by-enqueued measure (tickets_of w.accounts acct) t,
            );
      })

  pub request : (acct : Acct) (file bulk heap coarse fine : ℕ)
      → account.Request w o acct (record { file = file; bulk = bulk; heap = heap }) coarse fine
      → Shape w (calls.Request acct file bulk heap coarse fine) o
  request acct file bulk heap coarse fine h =
      let asked : Amounts = record { file = file; bulk = bulk; heap = heap } in
      on_none (first_above asked (account_of w.accounts acct).maxima) _ h (λ space. refl) (λ fits h.
      on_failed (w.accounts.next == most_amount) _ h refl (λ below made.
      takes_one ticket_need _ made refl (λ at. refl)
      (in_takes o.moves ticket_need _ made (λ addr moves did.
      enters acct (account.new_ticket w.accounts.next addr asked coarse fine) addr refl (ap taken_needs moves)
      (ap taken_addresses moves) (ap given_addresses moves) did.0 (ap is_answer did.1)))))

  pub awarded : (number : ℕ) → account.Awarded w o number → Shape w (calls.Awarded number) o
  awarded number h =
      on_some (account.pending_of w number) _ h refl (λ p is h.
      on_passed p.ticket.granted _ h refl (λ granted r. reads r refl refl (λ at. refl) refl))

  -- a ticket leaves a queue, which is served
  leaves : (p : Pending) (number : ℕ) → account.pending_of w number ≡ Some p
      → Does o (gave (p.ticket.block ∷ [])) (account.without_ticket w p) replies.Done → Changes w o
  leaves p number is d =
      let stands = pending_of_stands w number p is in
      let rest = remove (tickets_of w.accounts p.acct) p.place in
      let like = alike-served (record w { accounts = with_tickets w.accounts p.acct rest }) p.acct in
      swaps_tickets w o (record {
        taken = [];
        given = block_for_ticket p.ticket ∷ [];
        answered = ap is_answer d.2;
        marks = none_marked w o _ d.1 (ap taken_addresses d.0) refl refl refl;
        needs = sym (ap taken_needs d.0);
        takes = sym (ap taken_addresses d.0);
        gives = sym (ap given_addresses d.0);
        things = ap (λ (v : World). v.things) d.1;
        names = ap (λ (v : World). v.names) d.1;
        sums = λ measure.
            omega (
              arith,
              ap (λ (v : World). sum_by measure (ticket_blocks v.accounts)) d.1,
              ap (sum_by measure) like.tickets,
              sum_by-with_tickets measure w.accounts p.acct rest,
              sum_by-dequeued measure (tickets_of w.accounts p.acct) p.place stands.within,
              ap (λ t. measure (block_for_ticket t)) stands.there,
            );
      })

  pub shred : (number : ℕ) → account.Shred w o number → Shape w (calls.Shred number) o
  shred number h =
      on_some (account.pending_of w number) _ h refl (λ p is d.
      does d refl (λ at. ap (λ q. gave (block_of_ticket q)) is) (leaves p number is d))
