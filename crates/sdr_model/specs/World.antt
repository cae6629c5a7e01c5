-- The world: all that a user sees in a heap, as maps and lists.
use Rattle.sdr_base.specs.Kinds.{kind_number}
use Rattle.sdr_base.specs.declared.refusal.Refusal.TheVariants as refusals
use Rattle.sdr_base.specs.declared.refusal.Refusal.{Refusal}
use Rattle.sdr_model.specs.Accounts.{fresh_accounts, ticket_blocks}
use Rattle.sdr_model.specs.Names.{coded_name}
use Rattle.sdr_model.specs.Things.{Spot, Things, own_block, block_for_name, block_among, inner_among, spot_among}
use Rattle.sdr_model.specs.contracts.accounts.Accounts as accounts
use Rattle.sdr_model.specs.contracts.things.Thing as thing
use Rattle.sdr_model.specs.declared.accounts.Accounts.{Accounts}
use Rattle.sdr_model.specs.declared.name.Name.{Name}
use Rattle.sdr_model.specs.declared.things.UsedBlock.{UsedBlock}
use Rattle.sdr_model.specs.declared.things.Thing.TheVariants as things
use Rattle.sdr_model.specs.declared.things.Thing.{Thing}
use Rattle.std.specs.Coded.{Coded, code_by, coded×, coded_ℕ, coded_list}
use Rattle.std.specs.FinMap as finite
use Rattle.std.specs.List.{list_any}
use Rattle.std.specs.Option.{option_map, option_or}
use Rattle.std.specs.Prelude.{ℕ, Bool, List, [], ◌==◌, map, Option, None, Some, refl}

-- the things by their addresses, the catalogue, oldest entry first, both accounts of space, the addresses marked in the
-- open transaction, the bytes that the last answered call gave, and how many blocks were taken without a heap
pub record World : Type 0 where
  pub things : Things
  pub names : List Name
  pub accounts : Accounts
  pub marks : List ℕ
  pub shown : List ℕ
  pub taken : ℕ

-- the world without things, where each account has this maximum of heap space
abbrev pub fresh_world : ℕ → World
fresh_world heap = record { things = finite.empty; names = []; accounts = fresh_accounts heap; marks = []; shown = []; taken = 0 }

-- the world without things where there is no heap
abbrev pub empty_world : World
empty_world = fresh_world 32768

-- a world as its parts
abbrev pub coded_world : Coded World
coded_world = code_by (Things × (List Name × (Accounts × (List ℕ × (List ℕ × ℕ)))))
    (coded× (finite.code coded_ℕ thing.the_row.coded) (coded× (coded_list coded_name) (coded× accounts.the_row.coded (coded× (coded_list coded_ℕ) (coded× (coded_list coded_ℕ) coded_ℕ)))))
    (λ w. (w.things, (w.names, (w.accounts, (w.marks, (w.shown, w.taken))))))
    (λ p. record { things = p.0; names = p.1.0; accounts = p.1.1.0; marks = p.1.1.1.0; shown = p.1.1.1.1.0; taken = p.1.1.1.1.1 })
    (λ _. refl)

-- the thing at an address
abbrev pub thing_at : World → ℕ → Option Thing
thing_at w addr = finite.get w.things addr

-- the block that begins at an address: a thing's own, one inside a thing, a name's or a ticket's
abbrev pub block_at : World → ℕ → Option UsedBlock
block_at w addr =
    option_or (option_map (own_block addr) (thing_at w addr))
    (option_or (inner_among addr (finite.entries w.things))
    (option_or (block_among addr (map block_for_name w.names)) (block_among addr (ticket_blocks w.accounts))))

-- why an address is refused where this block, or none, begins there: a kind that the call doesn't take
abbrev pub refusal_for : ℕ → Option UsedBlock → Refusal
refusal_for addr None = refusals.BadAddress addr
refusal_for addr (Some block) = refusals.WrongKind addr (kind_number block.kind)

-- why an address is refused to a call
abbrev pub misnamed : World → ℕ → Refusal
misnamed w addr = refusal_for addr (block_at w addr)

-- the raw object's bytes, where the thing is one
abbrev pub as_raw : Option Thing → Option (List ℕ)
as_raw (Some (things.Raw bytes)) = Some bytes
as_raw thing = None

-- the string's text, where the thing is one
abbrev pub as_text : Option Thing → Option (List ℕ)
as_text (Some (things.Text text)) = Some text
as_text thing = None

-- whether the address was taken or staged in this transaction
abbrev pub is_marked : World → ℕ → Bool
is_marked w addr = list_any (λ m. m == addr) w.marks

-- where the element at an address stands
abbrev pub spot_of : World → ℕ → Option Spot
spot_of w element = spot_among element (finite.entries w.things)

-- the world as a transaction begins with it
abbrev pub at_rest : World → World
at_rest w = record w { marks = []; shown = [] }
