-- What is printed of a world.
use Rattle.std.specs.Prelude.{ℕ, ◌<◌, ◌^◌, List, ◌++◌, All, codes}
use Rattle.std.specs.FinMap as map
use Rattle.sdr_base.specs.declared.account.Acct.{Acct}
use Rattle.sdr_base.specs.declared.account.Acct.TheVariants as accts
use Rattle.sdr_base.specs.declared.kind.Space.{Space}
use Rattle.sdr_model.specs.Accounts.{account_of}
use Rattle.sdr_model.specs.Charges.{occupancies, occupancy}
use Rattle.sdr_model.specs.World.{World}
use Rattle.sdr_text.specs.Refused.{field_on}
use Rattle.sdr_text_world.specs.AccountText.{account_line, names_text, tickets_text}
use Rattle.sdr_text_world.specs.ThingText.{HasSmallWire, things_text}
use Rattle.sdr_audit.specs.declared.census.Census.{Census}

-- the bytes of the heap region, and where its unassigned space begins and ends
abbrev pub heap_line : Census → List ℕ
heap_line c = field_on (field_on (field_on (codes "heap") c.size ++ codes " low") c.low ++ codes " high") c.high ++ codes "\n"

-- how many blocks are in use, and how many small and large ones are free
abbrev pub blocks_line : Census → List ℕ
blocks_line c = field_on (field_on (field_on (codes "blocks") c.used ++ codes " small") c.small ++ codes " large") c.large ++ codes "\n"

-- an account of a world
abbrev pub account_text : World → Acct → List ℕ
account_text w acct = account_line acct (occupancies w acct) (account_of w.accounts acct).maxima

-- the heap and both accounts
abbrev pub front_text : World → Census → List ℕ
front_text w c = heap_line c ++ account_text w accts.Inbound ++ account_text w accts.Outbound

-- the inbound and the outbound tickets in queue order, and the catalogue in its order
abbrev pub queues_text : World → List ℕ
queues_text w =
    tickets_text accts.Inbound w.accounts.inbound.tickets
    ++ tickets_text accts.Outbound w.accounts.outbound.tickets
    ++ names_text w.names

-- A world: the heap and both accounts, the tickets and the catalogue, the things by rising address, and the blocks.
abbrev pub world_text : World → Census → List ℕ
world_text w c = front_text w c ++ queues_text w ++ things_text w (map.entries w.things) ++ blocks_line c

-- what is occupied of each space, and the bytes of each object on the wire, are below what a word can count
pub record HasSmallSums (w : World) : Type 0 where
  pub occupied : (acct : Acct) (space : Space) → occupancy w acct space < 2 ^ 64
  pub wires : All (λ e. HasSmallWire e.1) (map.entries w.things)
