-- Worked rows: tickets that enter a queue of 1000 bytes of heap space, and what is granted as others go.
use Rattle.std.proofs.Common.{◌≡◌, ℕ, List, [], ◌∷◌, refl}
use Rattle.sdr_base.specs.declared.account.Amounts.{Amounts}
use Rattle.sdr_model.specs.AccountSteps.{new_ticket}
use Rattle.sdr_model.specs.Queue.{enqueued, granted, served}
use Rattle.sdr_model.specs.declared.accounts.Ticket.{Ticket}
use Rattle.zco_space.specs.Served.{newly_granted, occupied_after}
use Rattle.zco_space.specs.Shreds.{without_number}

abbrev heap_space : ℕ → Amounts
heap_space bytes = record { file = 0; bulk = 0; heap = bytes }

abbrev first_two : List Ticket
first_two = granted (new_ticket 1 8 (heap_space 450) 1 0) ∷ granted (new_ticket 2 16 (heap_space 450) 1 0) ∷ []

abbrev third : Ticket
third = new_ticket 3 24 (heap_space 600) 2 0

abbrev fourth : Ticket
fourth = new_ticket 4 32 (heap_space 200) 1 0

abbrev fifth : Ticket
fifth = new_ticket 5 40 (heap_space 500) 1 5

-- each goes behind those that stand before it: those of greater priority, and then the older
row_entered : enqueued (enqueued (enqueued first_two third) fourth) fifth
    ≡ granted (new_ticket 1 8 (heap_space 450) 1 0) ∷ granted (new_ticket 2 16 (heap_space 450) 1 0) ∷ third ∷ fifth ∷ fourth ∷ []
row_entered = refl

-- a ticket of the same priority goes behind its equals
row_equals : enqueued (third ∷ fourth ∷ []) (new_ticket 6 48 (heap_space 1) 1 0)
    ≡ third ∷ fourth ∷ new_ticket 6 48 (heap_space 1) 1 0 ∷ []
row_equals = refl

-- with 450 bytes occupied the third doesn't fit, and the fourth, which would, isn't granted past it
row_front : served (heap_space 1000) (heap_space 450) (third ∷ fifth ∷ fourth ∷ []) ≡ third ∷ fifth ∷ fourth ∷ []
row_front = refl

-- with none occupied it is granted, and the fifth doesn't fit then
row_granted : served (heap_space 1000) (heap_space 0) (third ∷ fifth ∷ fourth ∷ []) ≡ granted third ∷ fifth ∷ fourth ∷ []
row_granted = refl

-- so 600 bytes are occupied, for one ticket
row_occupied : occupied_after (heap_space 0) (third ∷ fifth ∷ fourth ∷ []) (granted third ∷ fifth ∷ fourth ∷ []) ≡ heap_space 600
row_occupied = refl

row_count : newly_granted (third ∷ fifth ∷ fourth ∷ []) (granted third ∷ fifth ∷ fourth ∷ []) ≡ 1
row_count = refl

-- a ticket that goes
row_gone : without_number 2 (first_two) ≡ granted (new_ticket 1 8 (heap_space 450) 1 0) ∷ []
unfolding without_number
row_gone = refl
