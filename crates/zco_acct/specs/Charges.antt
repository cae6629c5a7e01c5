-- What a charge comes to, and why it stops.
use Rattle.std.specs.Prelude.{◌≡◌, ◌==◌, ℕ, List, [], ◌∷◌, ⊤, Option, None, Some, if◌then◌else◌}
use Rattle.sdr_base.specs.Blocks.{UsesRange}
use Rattle.sdr_base.specs.Entries.{Changes}
use Rattle.sdr_base.specs.Making.{besides}
use Rattle.sdr_base.specs.Objects.{Heap, IsUnmoved, OnlyFault}
use Rattle.sdr_base.specs.declared.account.Acct.{Acct}
use Rattle.sdr_base.specs.declared.account.Amounts.{Amounts}
use Rattle.sdr_base.specs.declared.refusal.Refusal.TheVariants as refusals
use Rattle.sdr_base.specs.declared.stop.Stop.{Stop}
use Rattle.sdr_base.specs.declared.stop.Stop.TheVariants.{Refused}
use Rattle.sdr_model.specs.Amounts.{minus, plus}
use Rattle.sdr_model.specs.declared.accounts.Ticket.{Ticket}
use Rattle.zco_acct.specs.Kept.{KeepsQueue, queue_entries}
use Rattle.zco_acct.specs.Refusals.{Allows, Refuses, charge_refusal, uncovered_by}
use Rattle.zco_acct.specs.Tickets.{with_grant}
use Rattle.zco_acct.specs.Words.{maxima_in, occupied_in, with_occupied}
use Rattle.zco_acct.specs.declared.queue.Found.{Found}

-- the tickets, where the grant of the first of a number covers of these amounts what it can
unfoldable pub tickets_covered : ℕ → Amounts → List Ticket → List Ticket
tickets_covered number amounts [] = []
tickets_covered number amounts (t ∷ ts) =
    if t.number == number then record t { left = minus t.left amounts } ∷ ts else t ∷ tickets_covered number amounts ts

-- the tickets after a charge; 0 names none
abbrev pub charged : List Ticket → ℕ → Amounts → List Ticket
charged tickets number amounts = if number == 0 then tickets else tickets_covered number amounts tickets

-- whichever queue is kept allows the charge: the grant of its ticket covers what it can, the rest is occupied, and all else
-- stays
pub record ChargesAccount (acct : Acct) (number : ℕ) (amounts : Amounts) (old new : Heap) : Type 0 where
  pub allows : Allows old acct (λ tickets. charge_refusal tickets number amounts (occupied_in old acct) (maxima_in old acct))
  pub changes : (tickets : List Ticket) → KeepsQueue old acct tickets →
      Changes old.blocks new.blocks (queue_entries acct tickets) (queue_entries acct (charged tickets number amounts))
  pub others : (tickets : List Ticket) → KeepsQueue old acct tickets →
      besides new ≡ besides (with_occupied old acct (plus (occupied_in old acct) (uncovered_by tickets number amounts)))

-- why it stops: whichever queue is kept has a cause, and all is as before; or it has none, and there is no log room, and no
-- move was made; or a fault
abbrev pub ChargeStops : Acct → ℕ → Amounts → Heap → Heap → Stop → Type 0
ChargeStops acct number amounts old new (Refused (refusals.LogFull lines room)) =
    Allows old acct (λ tickets. charge_refusal tickets number amounts (occupied_in old acct) (maxima_in old acct))
    × IsUnmoved old new
ChargeStops acct number amounts old new (Refused refusal) =
    Refuses old acct (λ tickets. charge_refusal tickets number amounts (occupied_in old acct) (maxima_in old acct)) refusal
    × (new ≡ old)
ChargeStops acct number amounts old new stop = OnlyFault stop

-- the block of the grant is in use, if there is one
abbrev pub SomeGrant : Option Found → Heap → Type 0
SomeGrant None heap = ⊤
SomeGrant (Some found) heap = UsesRange heap.blocks found.ticket.block 56 32

-- the grant, if there is one, covers of these amounts what it can
abbrev pub UsesGrant : Option Found → Amounts → Heap → Heap → Type 0
UsesGrant None amounts old new = new ≡ old
UsesGrant (Some found) amounts old new = new ≡ with_grant old found.ticket.block (minus found.ticket.left amounts)
