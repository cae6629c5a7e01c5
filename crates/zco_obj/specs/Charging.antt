-- An account that is charged for an object.
use Rattle.std.specs.Prelude.{◌≡◌, ◌≢◌, ◌-◌, ◌<◌, ◌^◌, ℕ, List, [], ◌∷◌, ◌++◌, Option, None, Some}
use Rattle.sdr_base.specs.Blocks.{Blocks}
use Rattle.sdr_base.specs.Entries.{Changes, Entries}
use Rattle.sdr_base.specs.Making.{besides, with_moves}
use Rattle.sdr_base.specs.Objects.{Heap, IsUnmoved, OnlyFault, TookNoMore}
use Rattle.sdr_base.specs.ZcoObjects.{ObjectRow}
use Rattle.sdr_base.specs.declared.account.Acct.{Acct}
use Rattle.sdr_base.specs.declared.account.Amounts.{Amounts}
use Rattle.sdr_base.specs.declared.moves.Move.{Move}
use Rattle.sdr_base.specs.declared.moves.Move.TheVariants.{Short}
use Rattle.sdr_base.specs.declared.refusal.Refusal.{Refusal}
use Rattle.sdr_base.specs.declared.refusal.Refusal.TheVariants as refusals
use Rattle.sdr_base.specs.declared.stop.Stop.{Stop}
use Rattle.sdr_base.specs.declared.stop.Stop.TheVariants.{Refused}
use Rattle.sdr_model.specs.Amounts.{plus}
use Rattle.sdr_model.specs.declared.accounts.Ticket.{Ticket}
use Rattle.zco_acct.specs.Charges.{ChargesAccount, charged}
use Rattle.zco_acct.specs.Kept.{queue_entries}
use Rattle.zco_acct.specs.Refusals.{charge_refusal, uncovered_by}
use Rattle.zco_acct.specs.Words.{maxima_in, occupied_in, with_occupied}
use Rattle.zco_obj.specs.Kept.{KeepsWithQueue}

-- an address where nothing stands, for a block that is new
pub record IsFree (blocks : Blocks) (addr : ℕ) : Type 0 where
  pub nonzero : addr ≢ 0
  pub small : addr < 2 ^ 32
  pub free : blocks addr ≡ None

-- why an account with these tickets refuses a charge, if it does
abbrev pub refusal_in : Heap → Acct → ℕ → Amounts → List Ticket → Option Refusal
refusal_in heap acct number amounts tickets =
    charge_refusal tickets number amounts (occupied_in heap acct) (maxima_in heap acct)

-- what is occupied in an account with these tickets, once it was charged
abbrev pub occupied_then : Heap → Acct → ℕ → Amounts → List Ticket → Amounts
occupied_then heap acct number amounts tickets = plus (occupied_in heap acct) (uncovered_by tickets number amounts)

-- the account allows a charge, and is charged; some blocks become others, with these moves; and all else stays
pub record Pays (acct : Acct) (number : ℕ) (amounts : Amounts) (tickets : List Ticket) (moves : List Move) (es es' : Entries)
    (old new : Heap) : Type 0 where
  pub allowed : refusal_in old acct number amounts tickets ≡ None
  pub changes : Changes old.blocks new.blocks (es ++ queue_entries acct tickets)
      (es' ++ queue_entries acct (charged tickets number amounts))
  pub others : besides new
      ≡ besides (with_moves (with_occupied old acct (occupied_then old acct number amounts tickets)) moves)

-- the account of whichever object is kept is charged what is to be charged to that account
pub record ChargesObject (object number : ℕ) (amounts : Acct → Amounts) (old new : Heap) : Type 0 where
  pub charges : (row : ObjectRow) (tickets : List Ticket) → KeepsWithQueue old object row tickets →
      ChargesAccount row.account number (amounts row.account) old new

-- the account of whichever object is kept allows what is to be charged to it
pub record ObjectAllows (object number : ℕ) (amounts : Acct → Amounts) (heap : Heap) : Type 0 where
  pub allows : (row : ObjectRow) (tickets : List Ticket) → KeepsWithQueue heap object row tickets →
      refusal_in heap row.account number (amounts row.account) tickets ≡ None

-- the account of whichever object is kept has this cause to refuse
pub record ObjectRefuses (object number : ℕ) (amounts : Acct → Amounts) (heap : Heap) (refusal : Refusal) : Type 0 where
  pub refuses : (row : ObjectRow) (tickets : List Ticket) → KeepsWithQueue heap object row tickets →
      refusal_in heap row.account number (amounts row.account) tickets ≡ Some refusal

-- why an object's account isn't charged: it refuses, and all is as before; or there is no log room, and no move was made; or
-- a fault
abbrev pub ObjectChargeStops : ℕ → ℕ → (Acct → Amounts) → Heap → Heap → Stop → Type 0
ObjectChargeStops object number amounts old new (Refused (refusals.LogFull lines room)) =
    ObjectAllows object number amounts old × IsUnmoved old new
ObjectChargeStops object number amounts old new (Refused refusal) =
    ObjectRefuses object number amounts old refusal × (new ≡ old)
ObjectChargeStops object number amounts old new stop = OnlyFault stop

-- want of a block for so many bytes is noted, and no move was made before
pub record LacksBlock (need missing : ℕ) (old new : Heap) : Type 0 where
  pub is : missing ≡ need
  pub moves : new.moves ≡ old.moves ++ Short need ∷ []
  pub spare : new.spare ≡ old.spare - 1

-- why a call stops that has charged and wants a block: there is none, or no log room; or a fault
abbrev pub LacksRoom : ℕ → Heap → Heap → Stop → Type 0
LacksRoom need old new (Refused (refusals.NoBlock missing)) = LacksBlock need missing old new
LacksRoom need old new (Refused (refusals.LogFull lines room)) = TookNoMore need old new
LacksRoom need old new (Refused refusal) = ⊥
LacksRoom need old new stop = OnlyFault stop
