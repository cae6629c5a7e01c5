-- What is printed of accounts of space, of tickets and of the catalogue. Each `.._on` is the line so far, with one more thing on
-- it.
use Rattle.std.specs.Prelude.{ℕ, List, [], ◌++◌, codes, flat_map}
use Rattle.sdr_base.specs.declared.account.Acct.{Acct}
use Rattle.sdr_base.specs.declared.account.Acct.TheVariants as accts
use Rattle.sdr_base.specs.declared.account.Amounts.{Amounts}
use Rattle.sdr_base.specs.declared.kind.Space.{Space}
use Rattle.sdr_base.specs.declared.kind.Space.TheVariants as spaces
use Rattle.sdr_model.specs.declared.accounts.Ticket.{Ticket}
use Rattle.sdr_model.specs.declared.name.Name.{Name}
use Rattle.sdr_text.specs.Refused.{field_on, space_on}
use Rattle.sdr_text.specs.Text.{grant_text, literal_text}

-- an account, by the way its objects go
abbrev pub account_on : List ℕ → Acct → List ℕ
account_on t accts.Inbound = t ++ codes " in"
account_on t accts.Outbound = t ++ codes " out"

-- a space, how much of it is occupied, and how much may be
abbrev pub occupied_on : List ℕ → Space → ℕ → ℕ → List ℕ
occupied_on t space occupied most = field_on (field_on (space_on t space) occupied) most

-- an account: of file, bulk and heap space what is occupied, and what may be
abbrev pub account_line : Acct → Amounts → Amounts → List ℕ
account_line acct occupied most =
    let file = occupied_on (account_on (codes "account") acct) spaces.File occupied.file most.file in
    let bulk = occupied_on file spaces.Bulk occupied.bulk most.bulk in
    occupied_on bulk spaces.Heap occupied.heap most.heap ++ codes "\n"

-- an amount of file, bulk and heap space
abbrev pub amounts_on : List ℕ → Amounts → List ℕ
amounts_on t amounts = field_on (field_on (field_on t amounts.file) amounts.bulk) amounts.heap

-- a ticket in the queue of an account: its number, its coarse and fine priority, whether it was granted, and what it asks
abbrev pub ticket_line : Acct → Ticket → List ℕ
ticket_line acct ticket =
    let named = account_on (field_on (codes "ticket") ticket.number) acct in
    amounts_on (field_on (field_on named ticket.coarse) ticket.fine ++ grant_text ticket.granted) ticket.asked ++ codes "\n"

-- the tickets in the queue of an account, in its order
abbrev pub tickets_text : Acct → List Ticket → List ℕ
tickets_text acct = flat_map (ticket_line acct)

-- an entry of the catalogue: its name, its type and its object
abbrev pub name_line : Name → List ℕ
name_line entry = codes "name " ++ literal_text entry.name ++ (field_on (field_on [] entry.kind) entry.object ++ codes "\n")

-- the catalogue, oldest entry first
abbrev pub names_text : List Name → List ℕ
names_text = flat_map name_line
