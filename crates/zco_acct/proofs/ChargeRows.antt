-- Worked rows: charges of an account of 1000 bytes of heap space, of which 600 are granted to the ticket 3.
use Rattle.std.proofs.Common.{◌≡◌, ℕ, [], ◌∷◌, true, false, None, Some, refl}
use Rattle.sdr_base.specs.declared.account.Amounts.{Amounts}
use Rattle.sdr_base.specs.declared.kind.Space.TheVariants as spaces
use Rattle.sdr_base.specs.declared.refusal.Refusal.TheVariants as refusals
use Rattle.sdr_model.specs.declared.accounts.Ticket.{Ticket}
use Rattle.zco_acct.specs.Charges.{charged, tickets_covered}
use Rattle.zco_acct.specs.Refusals.{charge_refusal, uncovered_by}

abbrev heap_space : ℕ → Amounts
heap_space bytes = record { file = 0; bulk = 0; heap = bytes }

abbrev third : Ticket
third = record {
  block = 24;
  number = 3;
  coarse = 2;
  fine = 0;
  asked = heap_space 600;
  left = heap_space 600;
  granted = true;
}

abbrev fifth : Ticket
fifth = record {
  block = 40;
  number = 5;
  coarse = 1;
  fine = 5;
  asked = heap_space 500;
  left = heap_space 0;
  granted = false;
}

-- without a ticket the one that waits comes first
row_queue : charge_refusal (third ∷ fifth ∷ []) 0 (heap_space 72) (heap_space 600) (heap_space 1000) ≡ Some (refusals.Queue 5)
row_queue = refl

-- nothing is charged past it either where the grant doesn't cover all
row_part : charge_refusal (third ∷ fifth ∷ []) 3 (heap_space 601) (heap_space 600) (heap_space 1000) ≡ Some (refusals.Queue 5)
row_part = refl

-- a charge that the grant covers is allowed, and uses it
row_covered : charge_refusal (third ∷ fifth ∷ []) 3 (heap_space 72) (heap_space 600) (heap_space 1000) ≡ None
row_covered = refl

row_used : charged (third ∷ fifth ∷ []) 3 (heap_space 72) ≡ record third { left = heap_space 528 } ∷ fifth ∷ []
unfolding tickets_covered
row_used = refl

-- one that waits can't be used, nor one that isn't there
row_waits : charge_refusal (third ∷ fifth ∷ []) 5 (heap_space 0) (heap_space 600) (heap_space 1000) ≡ Some (refusals.NotAwarded 5)
row_waits = refl

row_none : charge_refusal (third ∷ []) 4 (heap_space 0) (heap_space 600) (heap_space 1000) ≡ Some (refusals.BadTicket 4)
row_none = refl

-- where none waits there has to be room for the rest
row_room : charge_refusal (third ∷ []) 3 (heap_space 1001) (heap_space 600) (heap_space 1000)
    ≡ Some (refusals.NoSpace spaces.Heap 600 401 1000)
row_room = refl

row_fits : charge_refusal (third ∷ []) 3 (heap_space 1000) (heap_space 600) (heap_space 1000) ≡ None
row_fits = refl

row_rest : uncovered_by (third ∷ []) 3 (heap_space 1000) ≡ heap_space 400
row_rest = refl
