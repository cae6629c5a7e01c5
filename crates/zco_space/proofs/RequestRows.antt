-- Worked rows: requests at the ends of their ranges.
use Rattle.std.proofs.Common.{◌≡◌, ◌^◌, ◌+◌, ◌-◌, ℕ, [], ◌∷◌, false, None, Some, refl}
use Rattle.sdr_base.specs.Objects.{Heap}
use Rattle.sdr_base.specs.Roots.{account_words, root_words, roots_by}
use Rattle.sdr_base.specs.declared.account.Acct.TheVariants as accts
use Rattle.sdr_base.specs.declared.account.Amounts.{Amounts}
use Rattle.sdr_base.specs.declared.control.TheConstants.{HEAP_VERSION}
use Rattle.sdr_base.specs.declared.kind.Space.TheVariants as spaces
use Rattle.sdr_base.specs.declared.refusal.Refusal.TheVariants as refusals
use Rattle.sdr_model.specs.AccountSteps.{new_ticket}
use Rattle.sdr_model.specs.Queue.{enqueued, granted}
use Rattle.zco_space.specs.Located.{award_refusal}
use Rattle.zco_space.specs.Requests.{request_refusal}

-- so much of each space
abbrev each : ℕ → Amounts
each bytes = record { file = bytes; bulk = bytes; heap = bytes }

-- a heap without blocks, whose accounts have these maxima; the next ticket has this number
abbrev heap_with : ℕ → ℕ → Heap
heap_with most next = record {
  size = 2048;
  blocks = λ addr. None;
  roots = roots_by (root_words HEAP_VERSION 0 0 (account_words (each 0) (each most) 0 0) (account_words (each 0) (each most) 0 0) next);
  marks = λ addr. false;
  moves = [];
  spare = 9;
}

-- as much as a maximum may be asked, and not more
row_most : request_refusal (heap_with (2 ^ 40) 1) accts.Outbound (each (2 ^ 40)) ≡ None
unfolding roots_by
row_most = refl

row_more : request_refusal (heap_with (2 ^ 40) 1) accts.Inbound (record { file = 0; bulk = 2 ^ 40 + 1; heap = 2 ^ 40 + 1 })
    ≡ Some (refusals.TooLarge spaces.Bulk (2 ^ 40 + 1) (2 ^ 40))
unfolding roots_by
row_more = refl

-- the last number is given, and none behind it
row_last : request_refusal (heap_with 1000 (2 ^ 40 - 1)) accts.Outbound (each 0) ≡ None
unfolding roots_by
row_last = refl

row_used_up : request_refusal (heap_with 1000 (2 ^ 40)) accts.Outbound (each 0) ≡ Some (refusals.BadTicket (2 ^ 40))
unfolding roots_by
row_used_up = refl

-- the highest priorities go first, and the older of two of them
row_highest : enqueued (new_ticket 1 8 (each 1) 255 255 ∷ new_ticket 2 16 (each 1) 255 254 ∷ []) (new_ticket 3 24 (each 1) 255 255)
    ≡ new_ticket 1 8 (each 1) 255 255 ∷ new_ticket 3 24 (each 1) 255 255 ∷ new_ticket 2 16 (each 1) 255 254 ∷ []
row_highest = refl

-- a ticket of either account is awarded where it is granted; one that waits isn't, nor one of no account
row_inbound : award_refusal 1 (granted (new_ticket 1 8 (each 1) 0 0) ∷ []) (new_ticket 2 16 (each 1) 0 0 ∷ []) ≡ None
row_inbound = refl

row_waits : award_refusal 2 (granted (new_ticket 1 8 (each 1) 0 0) ∷ []) (new_ticket 2 16 (each 1) 0 0 ∷ [])
    ≡ Some (refusals.NotAwarded 2)
row_waits = refl

row_nowhere : award_refusal (2 ^ 40) (granted (new_ticket 1 8 (each 1) 0 0) ∷ []) (new_ticket 2 16 (each 1) 0 0 ∷ [])
    ≡ Some (refusals.BadTicket (2 ^ 40))
row_nowhere = refl
