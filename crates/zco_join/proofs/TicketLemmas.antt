-- The tickets of an account that was charged.
use Rattle.std.proofs.Common.{◌≡◌, ℕ, List, [], ◌∷◌, true, false, refl, arith}
use Rattle.std.specs.Prelude.{◌==◌, All, if◌then◌else◌}
use Rattle.std.proofs.lemmas.List.Elements.{All-cons, All-head, All-tail}
use Rattle.sdr_base.specs.Blocks.{with_at}
use Rattle.sdr_base.specs.Linked.{first_of, last_of}
use Rattle.sdr_base.specs.Objects.{Heap}
use Rattle.sdr_base.specs.declared.account.Acct.{Acct}
use Rattle.sdr_base.specs.declared.account.Acct.TheVariants as accts
use Rattle.sdr_base.specs.declared.account.Amounts.{Amounts}
use Rattle.sdr_model.specs.Amounts.{minus}
use Rattle.sdr_model.specs.declared.accounts.Ticket.{Ticket}
use Rattle.zco_acct.specs.Charges.{charged, tickets_covered}
use Rattle.zco_acct.specs.Kept.{TicketFits, block_of}
use Rattle.zco_acct.specs.Words.{first_word, last_word, with_occupied}

first_covered : (number : ℕ) (amounts : Amounts) (ts : List Ticket) → first_of block_of 0 (tickets_covered number amounts ts) ≡ first_of block_of 0 ts
unfolding tickets_covered
first_covered number amounts [] = refl
first_covered number amounts (t ∷ ts) =
    elim (t.number == number) as (λ v. first_of block_of 0
    (if v then record t { left = minus t.left amounts } ∷ ts else t ∷ tickets_covered number amounts ts) ≡ t.block) [
      | true ↦ refl
      | false ↦ refl
    ]

last_covered : (number : ℕ) (amounts : Amounts) (previous : ℕ) (ts : List Ticket) →
    last_of block_of previous (tickets_covered number amounts ts) ≡ last_of block_of previous ts
unfolding tickets_covered
last_covered number amounts previous [] = refl
last_covered number amounts previous (t ∷ ts) =
    elim (t.number == number) as (λ v. last_of block_of previous
    (if v then record t { left = minus t.left amounts } ∷ ts else t ∷ tickets_covered number amounts ts) ≡ last_of block_of t.block ts) [
      | true ↦ refl
      | false ↦ last_covered number amounts t.block ts
    ]

less_fits : (t : Ticket) (amounts : Amounts) → TicketFits t → TicketFits (record t { left = minus t.left amounts })
less_fits t amounts f = record {
  block = f.block;
  number = f.number;
  coarse = f.coarse;
  fine = f.fine;
  asked = f.asked;
  left = record {
    file = let a = f.left.file in omega (arith, a);
    bulk = let a = f.left.bulk in omega (arith, a);
    heap = let a = f.left.heap in omega (arith, a);
  };
}

fits_covered : (number : ℕ) (amounts : Amounts) (ts : List Ticket) → All TicketFits ts → All TicketFits (tickets_covered number amounts ts)
unfolding tickets_covered
fits_covered number amounts [] f = f
fits_covered number amounts (t ∷ ts) f =
    let one = All-head TicketFits t ts f in
    let others = All-tail TicketFits t ts f in
    elim (t.number == number) as (λ v. All TicketFits
    (if v then record t { left = minus t.left amounts } ∷ ts else t ∷ tickets_covered number amounts ts)) [
      | true ↦ All-cons TicketFits (record t { left = minus t.left amounts }) ts (less_fits t amounts one) others
      | false ↦ All-cons TicketFits t (tickets_covered number amounts ts) one (fits_covered number amounts ts others)
    ]

-- the queue begins and ends where it did, and its tickets fit
module _ (number : ℕ) (amounts : Amounts) (ts : List Ticket) where
  pub first_charged : first_of block_of 0 (charged ts number amounts) ≡ first_of block_of 0 ts
  first_charged = elim (number == 0) as (λ v. first_of block_of 0 (if v then ts else tickets_covered number amounts ts) ≡ first_of block_of 0 ts) [
    | true ↦ refl
    | false ↦ first_covered number amounts ts
  ]

  pub last_charged : last_of block_of 0 (charged ts number amounts) ≡ last_of block_of 0 ts
  last_charged = elim (number == 0) as (λ v. last_of block_of 0 (if v then ts else tickets_covered number amounts ts) ≡ last_of block_of 0 ts) [
    | true ↦ refl
    | false ↦ last_covered number amounts 0 ts
  ]

  pub fits_charged : All TicketFits ts → All TicketFits (charged ts number amounts)
  fits_charged f = elim (number == 0) as (λ v. All TicketFits (if v then ts else tickets_covered number amounts ts)) [
    | true ↦ f
    | false ↦ fits_covered number amounts ts f
  ]

-- the control words that tell of tickets aren't those that say what is occupied
pub occupied_first : (heap : Heap) (charged acct : Acct) (amounts : Amounts) →
    (with_occupied heap charged amounts).roots (first_word acct) ≡ heap.roots (first_word acct)
unfolding with_at
occupied_first heap accts.Inbound accts.Inbound amounts = refl
occupied_first heap accts.Inbound accts.Outbound amounts = refl
occupied_first heap accts.Outbound accts.Inbound amounts = refl
occupied_first heap accts.Outbound accts.Outbound amounts = refl

pub occupied_last : (heap : Heap) (charged acct : Acct) (amounts : Amounts) →
    (with_occupied heap charged amounts).roots (last_word acct) ≡ heap.roots (last_word acct)
unfolding with_at
occupied_last heap accts.Inbound accts.Inbound amounts = refl
occupied_last heap accts.Inbound accts.Outbound amounts = refl
occupied_last heap accts.Outbound accts.Inbound amounts = refl
occupied_last heap accts.Outbound accts.Outbound amounts = refl
