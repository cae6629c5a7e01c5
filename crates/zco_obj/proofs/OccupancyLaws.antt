-- What is occupied is the sum of what is charged and of what is left of grants, before and after each charge.
-- They hold whatever is charged.
use Rattle.std.proofs.Common.{◌≡◌, ◌+◌, ◌-◌, ℕ, List, [], ◌∷◌, true, false, cond, Some, None, refl, arith}
use Rattle.std.specs.Prelude.{◌==◌, find, if◌then◌else◌}
use Rattle.std.proofs.lemmas.List.Sums.{sum_by-cons}
use Rattle.sdr_base.specs.Objects.{Heap}
use Rattle.sdr_base.specs.declared.account.Acct.{Acct}
use Rattle.sdr_base.specs.declared.account.Amounts.{Amounts}
use Rattle.sdr_base.specs.declared.kind.Space.{Space}
use Rattle.sdr_base.specs.declared.kind.Space.TheVariants as spaces
use Rattle.sdr_model.specs.Amounts.{amount, minus}
use Rattle.sdr_model.specs.Charges.{left_in}
use Rattle.sdr_model.specs.declared.accounts.Ticket.{Ticket}
use Rattle.zco_acct.specs.Charges.{charged, tickets_covered}
use Rattle.zco_acct.specs.Refusals.{named_ticket, ticket_left}
use Rattle.zco_acct.specs.Walks.{has_number}
use Rattle.zco_acct.specs.Words.{occupied_in}
use Rattle.zco_obj.specs.Charging.{occupied_then}

-- space by space
amount-minus : (a b : Amounts) (space : Space) → amount (minus a b) space ≡ amount a space - amount b space
amount-minus a b spaces.File = refl
amount-minus a b spaces.Bulk = refl
amount-minus a b spaces.Heap = refl

left_named : (number : ℕ) (amounts : Amounts) (space : Space) (ts : List Ticket) →
    left_in space (tickets_covered number amounts ts) + amount (ticket_left (find (has_number number) ts)) space
    ≡ left_in space ts + (amount (ticket_left (find (has_number number) ts)) space - amount amounts space)
unfolding tickets_covered
left_named number amounts spaces.File [] = omega arith
left_named number amounts spaces.Bulk [] = omega arith
left_named number amounts spaces.Heap [] = omega arith
left_named number amounts space (t ∷ ts) =
    let ih = left_named number amounts space ts in
    let f = λ (x : Ticket). amount x.left space in
    let whole = sum_by-cons f t ts in
    elim (t.number == number) as (λ v.
    left_in space (if v then record t { left = minus t.left amounts } ∷ ts else t ∷ tickets_covered number amounts ts)
    + amount (ticket_left (cond v (Some t) (find (has_number number) ts))) space
    ≡ left_in space (t ∷ ts) + (amount (ticket_left (cond v (Some t) (find (has_number number) ts))) space - amount amounts space)) [
      | true ↦ let s = sum_by-cons f (record t { left = minus t.left amounts }) ts in
          let m = amount-minus t.left amounts space in omega (arith, s, m, whole)
      | false ↦ let s = sum_by-cons f t (tickets_covered number amounts ts) in omega (arith, s, ih, whole)
    ]

left_charged : (number : ℕ) (amounts : Amounts) (space : Space) (ts : List Ticket) →
    left_in space (charged ts number amounts) + amount (ticket_left (named_ticket ts number)) space
    ≡ left_in space ts + (amount (ticket_left (named_ticket ts number)) space - amount amounts space)
left_charged number amounts space ts =
    elim (number == 0) as (λ v. left_in space (if v then ts else tickets_covered number amounts ts)
    + amount (ticket_left (if v then None else find (has_number number) ts)) space
    ≡ left_in space ts + (amount (ticket_left (if v then None else find (has_number number) ts)) space - amount amounts space)) [
      | true ↦ nothing_left space
      | false ↦ left_named number amounts space ts
    ]
  where
    nothing_left : (space : Space) → left_in space ts + amount (ticket_left None) space
        ≡ left_in space ts + (amount (ticket_left None) space - amount amounts space)
    nothing_left spaces.File = omega arith
    nothing_left spaces.Bulk = omega arith
    nothing_left spaces.Heap = omega arith

occupied_by : (heap : Heap) (acct : Acct) (number : ℕ) (amounts : Amounts) (ts : List Ticket) (space : Space) →
    amount (occupied_then heap acct number amounts ts) space
    ≡ amount (occupied_in heap acct) space + (amount amounts space - amount (ticket_left (named_ticket ts number)) space)
occupied_by heap acct number amounts ts spaces.File = refl
occupied_by heap acct number amounts ts spaces.Bulk = refl
occupied_by heap acct number amounts ts spaces.Heap = refl

-- a charge: so much more is charged, and the rest was what the grant covered
pub occupied_charged : (heap : Heap) (acct : Acct) (number : ℕ) (amounts : Amounts) (ts : List Ticket) (space : Space) (charges : ℕ) →
    amount (occupied_in heap acct) space ≡ charges + left_in space ts →
    amount (occupied_then heap acct number amounts ts) space
    ≡ (charges + amount amounts space) + left_in space (charged ts number amounts)
occupied_charged heap acct number amounts ts space charges e =
    let o = occupied_by heap acct number amounts ts space in
    let l = left_charged number amounts space ts in omega (arith, e, o, l)
