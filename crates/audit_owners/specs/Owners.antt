-- Who owns a chain of blocks, and where the links of a chain stand.
use Rattle.std.specs.Prelude.{◌==◌, ◌+◌, ◌-◌, ◌*◌, ◌/◌, ◌&&◌, ℕ, Bool, true, List, [], ◌∷◌, ◌++◌, map, Option, None, Some}
use Rattle.std.specs.List.{flat_map, range_with_len}
use Rattle.std.specs.Option.{option_map_or}
use Rattle.sdr_base.specs.Blocks.{Block, kind_length}
use Rattle.sdr_base.specs.ZcoObjects.{account_number}
use Rattle.sdr_base.specs.declared.account.Acct.{Acct}
use Rattle.sdr_base.specs.declared.account.Acct.TheVariants as accts
use Rattle.sdr_base.specs.declared.control.TheConstants.{FIRST_NAME, FIRST_TICKET, INBOUND, LAST_NAME, LAST_TICKET, OUTBOUND}
use Rattle.sdr_base.specs.declared.kind.Kind.{Kind}
use Rattle.sdr_base.specs.declared.kind.Kind.TheVariants as kinds
use Rattle.sdr_base.specs.declared.layout.capsule.TheConstants as capsule
use Rattle.sdr_base.specs.declared.layout.element.TheConstants as element
use Rattle.sdr_base.specs.declared.layout.extent.TheConstants as extent
use Rattle.sdr_base.specs.declared.layout.hash.TheConstants as hash
use Rattle.sdr_base.specs.declared.layout.hash_entry.TheConstants as hash_entry
use Rattle.sdr_base.specs.declared.layout.list.TheConstants as list
use Rattle.sdr_base.specs.declared.layout.name.TheConstants as name
use Rattle.sdr_base.specs.declared.layout.object.TheConstants as object
use Rattle.sdr_base.specs.declared.layout.ticket.TheConstants as ticket
use Rattle.sdr_base.specs.declared.line.TheConstants.{WORD}
use Rattle.audit_owners.specs.View.{View, word_of}
use Rattle.audit_owners.specs.declared.owner.Owner.{Owner}
use Rattle.audit_owners.specs.declared.owner.Owner.TheVariants as owners
use Rattle.audit_owners.specs.declared.owner.Site.{Site}
use Rattle.audit_owners.specs.declared.owner.Site.TheVariants as sites

-- the number in a word that holds a link
abbrev pub told_at : View → Site → ℕ
told_at heap (sites.Control word) = heap.roots word
told_at heap (sites.Block addr field) = word_of (heap.blocks addr) field

-- where it is told that such a word is wrong: at the control word, or at the block's address
abbrev pub site_place : Site → ℕ
site_place (sites.Control word) = WORD * word
site_place (sites.Block addr field) = addr

-- the control word with which those of an account begin
abbrev pub account_word : Acct → ℕ
account_word accts.Inbound = INBOUND
account_word accts.Outbound = OUTBOUND

-- the word with the link to the first block of a chain
abbrev pub first_site : Owner → Site
first_site owners.Catalogue = sites.Control FIRST_NAME
first_site (owners.Queue account) = sites.Control (account_word account + FIRST_TICKET)
first_site (owners.List addr) = sites.Block addr list.FIRST
first_site (owners.Bucket addr front) = sites.Block addr front
first_site (owners.Headers addr) = sites.Block addr object.FIRST_HEADER
first_site (owners.Extents addr) = sites.Block addr object.FIRST_EXTENT
first_site (owners.Trailers addr) = sites.Block addr object.FIRST_TRAILER

-- the word with the address of the last block of a chain; a bucket of a hash has none
abbrev pub last_site : Owner → Option Site
last_site owners.Catalogue = Some (sites.Control LAST_NAME)
last_site (owners.Queue account) = Some (sites.Control (account_word account + LAST_TICKET))
last_site (owners.List addr) = Some (sites.Block addr list.LAST)
last_site (owners.Bucket addr front) = None
last_site (owners.Headers addr) = Some (sites.Block addr object.LAST_HEADER)
last_site (owners.Extents addr) = Some (sites.Block addr object.LAST_EXTENT)
last_site (owners.Trailers addr) = Some (sites.Block addr object.LAST_TRAILER)

-- the kind of the blocks of a chain
abbrev pub kind_in : Owner → Kind
kind_in owners.Catalogue = kinds.Name
kind_in (owners.Queue account) = kinds.Ticket
kind_in (owners.List addr) = kinds.Element
kind_in (owners.Bucket addr front) = kinds.HashEntry
kind_in (owners.Headers addr) = kinds.Capsule
kind_in (owners.Extents addr) = kinds.Extent
kind_in (owners.Trailers addr) = kinds.Capsule

-- the word of each block of a chain that links to the next one
abbrev pub next_field : Owner → ℕ
next_field owners.Catalogue = name.NEXT
next_field (owners.Queue account) = ticket.NEXT
next_field (owners.List addr) = element.NEXT
next_field (owners.Bucket addr front) = hash_entry.NEXT
next_field (owners.Headers addr) = capsule.NEXT
next_field (owners.Extents addr) = extent.NEXT
next_field (owners.Trailers addr) = capsule.NEXT

-- whether a block of a chain names its owner, and the block before it, where its kind does: a ticket the account, and an element
-- the list and the element before it, 0 for none
abbrev pub names_owner : Owner → ℕ → Option Block → Bool
names_owner owners.Catalogue before block = true
names_owner (owners.Queue account) before block = word_of block ticket.ACCOUNT == account_number account
names_owner (owners.List addr) before block =
    word_of block element.LIST == addr && word_of block element.PREVIOUS == before
names_owner (owners.Bucket addr front) before block = true
names_owner (owners.Headers addr) before block = true
names_owner (owners.Extents addr) before block = true
names_owner (owners.Trailers addr) before block = true

-- The chains that a block of a kind and of so many bytes owns, in order: a list one; a hash one for each word behind its numbers;
-- an object its headers, extents and trailers.
abbrev pub owned_by : ℕ → Kind → ℕ → List Owner
owned_by addr kinds.List bytes = owners.List addr ∷ []
owned_by addr kinds.Hash bytes =
    map (λ number. owners.Bucket addr (hash.WORDS + number)) (range_with_len 0 (bytes / WORD - hash.WORDS))
owned_by addr kinds.Object bytes = owners.Headers addr ∷ owners.Extents addr ∷ owners.Trailers addr ∷ []
owned_by addr kind bytes = []

-- the kinds of blocks that own chains
abbrev pub owning_kinds : List Kind
owning_kinds = kinds.List ∷ kinds.Hash ∷ kinds.Object ∷ []

-- the chains of the block at an address, if there is one
abbrev pub owned_at : View → ℕ → List Owner
owned_at heap addr = option_map_or (λ (told : Kind × ℕ). owned_by addr told.0 told.1) (kind_length (heap.blocks addr)) []

-- the chains whose ends stand in control words: the catalogue, the inbound tickets and the outbound ones
abbrev pub root_owners : List Owner
root_owners = owners.Catalogue ∷ owners.Queue accts.Inbound ∷ owners.Queue accts.Outbound ∷ []

-- the chains of a heap in the order in which they are checked: those, and then those of the blocks in its first so many words, by
-- rising address
abbrev pub owners_of : View → ℕ → List Owner
owners_of heap words = root_owners ++ flat_map (λ word. owned_at heap (WORD * word)) (range_with_len 0 words)
