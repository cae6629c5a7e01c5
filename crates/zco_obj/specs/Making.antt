-- Objects that are made.
use Rattle.std.specs.Prelude.{◌≡◌, ℕ, List, [], ◌∷◌}
use Rattle.sdr_base.specs.Objects.{Heap, OnlyFault}
use Rattle.sdr_base.specs.ZcoObjects.{ObjectRow, object_entries}
use Rattle.sdr_base.specs.declared.account.Acct.{Acct}
use Rattle.sdr_base.specs.declared.moves.Move.TheVariants.{Took}
use Rattle.sdr_base.specs.declared.refusal.Refusal.TheVariants as refusals
use Rattle.sdr_base.specs.declared.stop.Stop.{Stop}
use Rattle.sdr_base.specs.declared.stop.Stop.TheVariants.{Refused}
use Rattle.sdr_model.specs.Charges.{object_bytes}
use Rattle.sdr_model.specs.declared.accounts.Ticket.{Ticket}
use Rattle.zco_acct.specs.Kept.{KeepsQueue}
use Rattle.zco_acct.specs.Refusals.{Allows, Refuses}
use Rattle.zco_obj.specs.Amounts.{object_amounts}
use Rattle.zco_obj.specs.Charging.{IsFree, LacksRoom, Pays, refusal_in}

-- an object with nothing in it
abbrev pub empty_row : Acct → ObjectRow
empty_row acct =
    record { account = acct; headers = []; extents = []; trailers = []; part_offset = 0; part_length = 0 }

-- an object with nothing in it was made, for which its account is charged
pub record CreatesObject (acct : Acct) (number addr : ℕ) (old new : Heap) : Type 0 where
  pub new_block : IsFree old.blocks addr
  pub pays : (tickets : List Ticket) → KeepsQueue old acct tickets →
      Pays acct number object_amounts tickets (Took object_bytes addr ∷ []) [] (object_entries addr (empty_row acct)) old new

-- why none is made: the account refuses, and all is as before; or there is no block for it, or no log room; or a fault
abbrev pub CreateStops : Acct → ℕ → Heap → Heap → Stop → Type 0
CreateStops acct number old new (Refused (refusals.NoBlock missing)) =
    Allows old acct (refusal_in old acct number object_amounts)
    × LacksRoom object_bytes old new (Refused (refusals.NoBlock missing))
CreateStops acct number old new (Refused (refusals.LogFull lines room)) =
    Allows old acct (refusal_in old acct number object_amounts)
    × LacksRoom object_bytes old new (Refused (refusals.LogFull lines room))
CreateStops acct number old new (Refused refusal) =
    Refuses old acct (refusal_in old acct number object_amounts) refusal × (new ≡ old)
CreateStops acct number old new stop = OnlyFault stop
