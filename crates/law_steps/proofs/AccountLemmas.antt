-- The blocks of tickets, after a queue is served, charged or has others.
use Rattle.std.proofs.Common.{◌≡◌, ◌==◌, ◌<◌, ◌+◌, ℕ, List, [], ◌∷◌, ◌++◌, cond, Option, Some, None, map, length, get_or, set, position, unwrap_or, refl, sym, ap, ◌∙◌, subst, arith}
use Rattle.std.specs.List.{sum_by}
use Rattle.std.specs.Option.{option_map, option_or}
use Rattle.std.proofs.Math.Seq.{map-set_same}
use Rattle.std.proofs.lemmas.List.Quantifiers.{position-Some}
use Rattle.std.proofs.lemmas.List.Sums.{sum_by-append}
use Rattle.std.proofs.lemmas.Option.{unwrap_or-slice_get}
use Rattle.sdr_base.specs.declared.account.Acct.{Acct}
use Rattle.sdr_base.specs.declared.account.Acct.TheVariants as accts
use Rattle.sdr_base.specs.declared.account.Amounts.{Amounts}
use Rattle.law_steps.proofs.Alike.{Alike}
use Rattle.law_steps.proofs.DistinctLemmas.{on_test}
use Rattle.sdr_model.specs.AccountSteps.{pending_of}
use Rattle.sdr_model.specs.Accounts.{account_of, no_ticket, pending_in, ticket_at, block_for_ticket, ticket_blocks, tickets_of, with_ticket, with_tickets}
use Rattle.sdr_model.specs.Amounts.{are_within, minus, plus}
use Rattle.sdr_model.specs.Charges.{occupancies}
use Rattle.sdr_model.specs.Charging.{with_covered}
use Rattle.sdr_model.specs.Queue.{granted, served, with_served}
use Rattle.sdr_model.specs.World.{World}
use Rattle.sdr_model.specs.declared.accounts.Accounts.{Accounts}
use Rattle.sdr_model.specs.declared.accounts.Pending.{Pending}
use Rattle.sdr_model.specs.declared.accounts.Ticket.{Ticket}
use Rattle.sdr_model.specs.declared.things.UsedBlock.{UsedBlock}

-- a ticket stands at its place in the queue of an account
pub record StandsIn (accounts : Accounts) (acct : Acct) (p : Pending) : Type 0 where
  pub queue : p.acct ≡ acct
  pub within : p.place < length (tickets_of accounts acct)
  pub there : get_or (tickets_of accounts acct) p.place no_ticket ≡ p.ticket

-- as one does that is found there
pub pending_stands : (accounts : Accounts) (acct : Acct) (number : ℕ) (p : Pending)
    → pending_in accounts acct number ≡ Some p → StandsIn accounts acct p
pending_stands accounts acct number p is = by (position (λ t. t.number == number) tickets) refl is
  where
    tickets : List Ticket
    tickets = tickets_of accounts acct

    pending : ℕ → Pending
    pending place = record { acct = acct; place = place; ticket = ticket_at tickets place }

    by : (o : Option ℕ) → position (λ t. t.number == number) tickets ≡ o → option_map pending o ≡ Some p
        → StandsIn accounts acct p
    by None at e = let none : None ≡ Some p = e in absurd cc
    by (Some place) at e =
        let same : pending place ≡ p = ap (λ o. unwrap_or o p) e in
        subst (StandsIn accounts acct) same (record {
          queue = refl;
          within = (position-Some (λ t. t.number == number) tickets place no_ticket at).0;
          there = sym (unwrap_or-slice_get tickets place no_ticket);
        })

-- and one that is found in either account
pub pending_of_stands : (w : World) (number : ℕ) (p : Pending) → pending_of w number ≡ Some p
    → StandsIn w.accounts p.acct p
pending_of_stands w number p is =
    by (pending_in w.accounts accts.Inbound number) (pending_in w.accounts accts.Outbound number) refl refl is
  where
    its : (acct : Acct) → StandsIn w.accounts acct p → StandsIn w.accounts p.acct p
    its acct s = subst (λ acct. StandsIn w.accounts acct p) (sym s.queue) s

    by : (a b : Option Pending) → pending_in w.accounts accts.Inbound number ≡ a
        → pending_in w.accounts accts.Outbound number ≡ b → option_or a b ≡ Some p → StandsIn w.accounts p.acct p
    by (Some q) b at other e =
        its accts.Inbound (pending_stands w.accounts accts.Inbound number p (at ∙ e))
    by None b at other e =
        its accts.Outbound (pending_stands w.accounts accts.Outbound number p (other ∙ e))

-- the blocks of the tickets, where those of one queue are the same
pub ticket_blocks-with_tickets : (accounts : Accounts) (acct : Acct) (tickets : List Ticket)
    → map block_for_ticket tickets ≡ map block_for_ticket (tickets_of accounts acct)
    → ticket_blocks (with_tickets accounts acct tickets) ≡ ticket_blocks accounts
ticket_blocks-with_tickets accounts accts.Inbound tickets same =
    ap (λ bs. bs ++ map block_for_ticket accounts.outbound.tickets) same
ticket_blocks-with_tickets accounts accts.Outbound tickets same =
    ap (λ bs. map block_for_ticket accounts.inbound.tickets ++ bs) same

-- what is measured of them, where one queue has others
pub sum_by-with_tickets : (measure : UsedBlock → ℕ) (accounts : Accounts) (acct : Acct) (tickets : List Ticket)
    → sum_by measure (ticket_blocks (with_tickets accounts acct tickets)) + sum_by measure
    (map block_for_ticket (tickets_of accounts acct))
    ≡ sum_by measure (ticket_blocks accounts) + sum_by measure (map block_for_ticket tickets)
sum_by-with_tickets measure accounts accts.Inbound tickets =
    omega (
      arith,
      sum_by-append measure (map block_for_ticket tickets) (map block_for_ticket accounts.outbound.tickets),
      sum_by-append measure (map block_for_ticket accounts.inbound.tickets)
          (map block_for_ticket accounts.outbound.tickets),
    )
sum_by-with_tickets measure accounts accts.Outbound tickets =
    omega (
      arith,
      sum_by-append measure (map block_for_ticket accounts.inbound.tickets) (map block_for_ticket tickets),
      sum_by-append measure (map block_for_ticket accounts.inbound.tickets)
          (map block_for_ticket accounts.outbound.tickets),
    )

-- a queue that is served has the blocks of before
map-served : (maxima occupied : Amounts) (tickets : List Ticket)
    → map block_for_ticket (served maxima occupied tickets) ≡ map block_for_ticket tickets
map-served maxima occupied [] = refl
map-served maxima occupied (t ∷ ts) =
    let goes_on = served maxima (plus occupied t.asked) ts in
    let fits = are_within t.asked (minus maxima occupied) in
    on_test t.granted
    (λ e. ap (λ b. map block_for_ticket (cond b (t ∷ served maxima occupied ts)
    (cond fits (granted t ∷ goes_on) (t ∷ ts)))) e
    ∙ ap (λ bs. block_for_ticket t ∷ bs) (map-served maxima occupied ts))
    (λ e. ap (λ b. map block_for_ticket (cond b (t ∷ served maxima occupied ts)
    (cond fits (granted t ∷ goes_on) (t ∷ ts)))) e
    ∙ on_test fits
    (λ f. ap (λ b. map block_for_ticket (cond b (granted t ∷ goes_on) (t ∷ ts))) f
    ∙ ap (λ bs. block_for_ticket t ∷ bs) (map-served maxima (plus occupied t.asked) ts))
    (λ f. ap (λ b. map block_for_ticket (cond b (granted t ∷ goes_on) (t ∷ ts))) f))

-- so a world is alike the one in which an account's queue is served
pub alike-served : (w : World) (acct : Acct) → Alike w (with_served w acct)
alike-served w acct = record {
  things = refl;
  names = refl;
  tickets =
      ticket_blocks-with_tickets w.accounts acct
      (served (account_of w.accounts acct).maxima (occupancies w acct) (tickets_of w.accounts acct))
      (map-served (account_of w.accounts acct).maxima (occupancies w acct) (tickets_of w.accounts acct));
  marks = refl;
  taken = refl;
}

-- another ticket with the same block in the place of one
ticket_blocks-with_ticket : (accounts : Accounts) (acct : Acct) (p : Pending) (t : Ticket) → StandsIn accounts acct p
    → t.block ≡ p.ticket.block → ticket_blocks (with_ticket accounts p t) ≡ ticket_blocks accounts
ticket_blocks-with_ticket accounts acct p t stands same =
    let tickets = tickets_of accounts acct in
    ap (λ a. ticket_blocks (with_tickets accounts a (set (tickets_of accounts a) p.place t))) stands.queue
    ∙ ticket_blocks-with_tickets accounts acct (set tickets p.place t)
    (map-set_same block_for_ticket tickets p.place t no_ticket
    (sym (ap (λ (u : Ticket). block_for_ticket u) stands.there ∙ block_of)))
  where
    block_of : block_for_ticket p.ticket ≡ block_for_ticket t
    block_of i = record (block_for_ticket t) { addr = sym same i }

-- and a world is alike the one in which the grant of a ticket is used
pub alike-used : (w : World) (acct : Acct) (number : ℕ) (p : Pending) (amounts : Amounts)
    → pending_in w.accounts acct number ≡ Some p → Alike w (with_covered w (Some p) amounts)
alike-used w acct number p amounts is = record {
  things = refl;
  names = refl;
  tickets =
      ticket_blocks-with_ticket w.accounts acct p (record p.ticket { left = minus p.ticket.left amounts })
      (pending_stands w.accounts acct number p is) refl;
  marks = refl;
  taken = refl;
}
