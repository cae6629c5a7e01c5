-- The chains of a world's blocks, by their owners.
use Rattle.std.specs.Prelude.{◌-◌, ℕ, List, [], map, Option, Some}
use Rattle.sdr_base.specs.Catalogue.{name_addr}
use Rattle.sdr_base.specs.Hashes.{HashItem, item_addr}
use Rattle.sdr_base.specs.Lists.{ListElement, addr_of}
use Rattle.sdr_base.specs.Tickets.{ticket_addr}
use Rattle.sdr_base.specs.ZcoObjects.{CapsuleRow, ExtentRow, capsule_addr, extent_addr}
use Rattle.sdr_base.specs.declared.layout.hash.TheConstants as hash
use Rattle.sdr_model.specs.Accounts.{tickets_of}
use Rattle.sdr_model.specs.World.{World, thing_at}
use Rattle.sdr_model.specs.declared.things.Thing.{Thing}
use Rattle.sdr_model.specs.declared.things.Thing.TheVariants as things
use Rattle.sdr_stands.specs.Rows.{bucket_row, capsule_row, element_row, extent_row, name_row}
use Rattle.sdr_model.specs.TicketRows.{ticket_row}
use Rattle.audit_owners.specs.Chains.{Chain}
use Rattle.audit_owners.specs.declared.owner.Owner.{Owner}
use Rattle.audit_owners.specs.declared.owner.Owner.TheVariants as owners

-- the elements of a thing, if it is a list
abbrev pub elements_of : Option Thing → List ListElement
elements_of (Some (things.List list)) = map element_row list.elements
elements_of thing = []

-- the entries in a bucket of a thing, if it is a hash
abbrev pub items_of : ℕ → Option Thing → List HashItem
items_of bucket (Some (things.Hash table)) = bucket_row table bucket
items_of bucket thing = []

-- the headers of a thing, if it is an object
abbrev pub headers_of : Option Thing → List CapsuleRow
headers_of (Some (things.Object object)) = map capsule_row object.headers
headers_of thing = []

-- its extents
abbrev pub extents_of : Option Thing → List ExtentRow
extents_of (Some (things.Object object)) = map extent_row object.extents
extents_of thing = []

-- its trailers
abbrev pub trailers_of : Option Thing → List CapsuleRow
trailers_of (Some (things.Object object)) = map capsule_row object.trailers
trailers_of thing = []

-- the addresses of the blocks in the chain of an owner
abbrev pub chain_in : World → Owner → List ℕ
chain_in w owners.Catalogue = map name_addr (map name_row w.names)
chain_in w (owners.Queue account) = map ticket_addr (map ticket_row (tickets_of w.accounts account))
chain_in w (owners.List addr) = map addr_of (elements_of (thing_at w addr))
chain_in w (owners.Bucket addr front) = map item_addr (items_of (front - hash.WORDS) (thing_at w addr))
chain_in w (owners.Headers addr) = map capsule_addr (headers_of (thing_at w addr))
chain_in w (owners.Extents addr) = map extent_addr (extents_of (thing_at w addr))
chain_in w (owners.Trailers addr) = map capsule_addr (trailers_of (thing_at w addr))

-- an owner with its chain
abbrev pub chain_of : World → Owner → Chain
chain_of w owner = record { owner = owner; addrs = chain_in w owner }
