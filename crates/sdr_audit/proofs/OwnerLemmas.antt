-- The owners of chains are the things of a world.
use Rattle.std.proofs.Common.{◌≡◌, ◌==◌, ℕ, true, false, cond, List, [], ◌∷◌, ◌++◌, map, refl, sym, ap, subst, ◌∙◌}
use Rattle.std.specs.Prelude.{IfSome, Option, None, Some}
use Rattle.std.specs.FinMap as finite
use Rattle.std.specs.Option.{option_map, option_map_or, option_or}
use Rattle.std.proofs.lemmas.List.Folds.{find-append}
use Rattle.sdr_base.specs.Blocks.{kind_length}
use Rattle.sdr_base.specs.Entries.{BlocksAre}
use Rattle.sdr_base.specs.declared.kind.Kind.{Kind}
use Rattle.sdr_base.specs.declared.kind.Kind.TheVariants as kinds
use Rattle.sdr_model.specs.Accounts.{block_for_ticket, ticket_blocks}
use Rattle.sdr_model.specs.Things.{block_among, block_for_capsule, block_for_element, entry_block, block_for_extent, inner_among, inner_blocks, block_for_name, own_block}
use Rattle.sdr_model.specs.Valid.{IsValid}
use Rattle.sdr_model.specs.World.{World, thing_at}
use Rattle.sdr_model.specs.declared.things.UsedBlock.{UsedBlock}
use Rattle.sdr_model.specs.declared.things.Thing.{Thing}
use Rattle.sdr_model.specs.declared.things.Thing.TheVariants as things
use Rattle.law_steps.proofs.FoundLemmas.{blocks_are_found}
use Rattle.sdr_stands.proofs.ShapeLemmas.{told}
use Rattle.sdr_stands.specs.Shape.{shape_of}
use Rattle.sdr_stands.specs.Standing.{entries_of}
use Rattle.audit_owners.specs.Owners.{owned_at, owned_by}
use Rattle.audit_owners.specs.View.{View}
use Rattle.audit_owners.specs.declared.owner.Owner.{Owner}

-- the chains of a block of the world, if there is one
abbrev pub owned_in : ℕ → Option UsedBlock → List Owner
owned_in addr block = option_map_or (λ (told : Kind × ℕ). owned_by addr told.0 told.1) (shape_of block) []

-- the kind of what is inside of a thing, or is the catalogue's or an account's
abbrev pub IsInner : Kind → Type 0
IsInner kinds.Element = Unit {0}
IsInner kinds.HashEntry = Unit {0}
IsInner kinds.Name = Unit {0}
IsInner kinds.Extent = Unit {0}
IsInner kinds.Capsule = Unit {0}
IsInner kinds.Ticket = Unit {0}
IsInner kind = ⊥

-- no block, or one that is no thing's own
abbrev pub IsLoose : Option UsedBlock → Type 0
IsLoose block = IfSome block (λ b. IsInner b.kind)

or_loose : (a b : Option UsedBlock) → IsLoose a → IsLoose b → IsLoose (option_or a b)
or_loose None b one other = other
or_loose (Some x) b one other = one

-- of loose blocks each is one
among_loose : {Y : Type 0} (at : ℕ) (f : Y → UsedBlock) → ((y : Y) → IsLoose (Some (f y))) → (ys : List Y) → IsLoose (block_among at (map f ys))
among_loose at f loose [] = tt
among_loose at f loose (y ∷ ys) =
    elim ((f y).addr == at) as (λ t. IsLoose (cond t (Some (f y)) (block_among at (map f ys)))) [
      | true ↦ loose y
      | false ↦ among_loose at f loose ys
    ]

both_loose : (at : ℕ) (xs ys : List UsedBlock) → IsLoose (block_among at xs) → IsLoose (block_among at ys) → IsLoose (block_among at (xs ++ ys))
both_loose at xs ys one other =
    subst IsLoose (sym (find-append (λ (b : UsedBlock). b.addr == at) xs ys)) (or_loose (block_among at xs) (block_among at ys) one other)

inner_loose : (at : ℕ) (thing : Thing) → IsLoose (block_among at (inner_blocks thing))
inner_loose at (things.Raw bytes) = tt
inner_loose at (things.Text text) = tt
inner_loose at (things.List list) = among_loose at block_for_element (λ e. tt) list.elements
inner_loose at (things.Table table) = tt
inner_loose at (things.Hash hash) = among_loose at entry_block (λ e. tt) hash.entries
inner_loose at (things.Source source) = tt
inner_loose at (things.Object z) =
    both_loose at (map block_for_capsule z.headers ++ map block_for_extent z.extents) (map block_for_capsule z.trailers)
    (both_loose at (map block_for_capsule z.headers) (map block_for_extent z.extents) (among_loose at block_for_capsule (λ c. tt) z.headers)
    (among_loose at block_for_extent (λ e. tt) z.extents))
    (among_loose at block_for_capsule (λ c. tt) z.trailers)

inner_all_loose : (at : ℕ) (es : List (ℕ × Thing)) → IsLoose (inner_among at es)
inner_all_loose at [] = tt
inner_all_loose at (e ∷ es) = or_loose (block_among at (inner_blocks e.1)) (inner_among at es) (inner_loose at e.1) (inner_all_loose at es)

tickets_loose : (at : ℕ) (w : World) → IsLoose (block_among at (ticket_blocks w.accounts))
tickets_loose at w =
    both_loose at (map block_for_ticket w.accounts.inbound.tickets) (map block_for_ticket w.accounts.outbound.tickets)
    (among_loose at block_for_ticket (λ t. tt) w.accounts.inbound.tickets)
    (among_loose at block_for_ticket (λ t. tt) w.accounts.outbound.tickets)

-- the block at an address that is no thing's own, if there is one
abbrev pub loose_at : World → ℕ → Option UsedBlock
loose_at w addr =
    option_or (inner_among addr (finite.entries w.things))
    (option_or (block_among addr (map block_for_name w.names)) (block_among addr (ticket_blocks w.accounts)))

pub others_loose : (w : World) (addr : ℕ) → IsLoose (loose_at w addr)
others_loose w addr =
    or_loose (inner_among addr (finite.entries w.things)) _ (inner_all_loose addr (finite.entries w.things))
    (or_loose (block_among addr (map block_for_name w.names)) (block_among addr (ticket_blocks w.accounts))
    (among_loose addr block_for_name (λ n. tt) w.names) (tickets_loose addr w))

-- the block at an address is that of the thing there, or else a loose one
pub block_told : (heap : View) (w : World) → BlocksAre heap.blocks (entries_of w) → IsValid w → (addr : ℕ) →
    kind_length (heap.blocks addr) ≡ shape_of (option_or (option_map (own_block addr) (thing_at w addr)) (loose_at w addr))
block_told heap w stands valid addr = told heap.blocks w addr stands valid ∙ ap shape_of (sym (blocks_are_found w addr valid))

-- a loose block owns no chain
loose_plain : (addr : ℕ) (block : Option UsedBlock) → IsLoose block → owned_in addr block ≡ []
loose_plain addr None loose = refl
loose_plain addr (Some block) loose = by block.kind loose
  where
    by : (kind : Kind) → IsInner kind → owned_by addr kind block.bytes ≡ []
    by kinds.Raw loose = absurd loose
    by kinds.Text loose = absurd loose
    by kinds.List loose = absurd loose
    by kinds.Element loose = refl
    by kinds.Table loose = absurd loose
    by kinds.Hash loose = absurd loose
    by kinds.HashEntry loose = refl
    by kinds.Name loose = refl
    by kinds.Source loose = absurd loose
    by kinds.Object loose = absurd loose
    by kinds.Extent loose = refl
    by kinds.Capsule loose = refl
    by kinds.Ticket loose = refl

-- the chains of a thing, if there is one
abbrev pub owners_in : ℕ → Option Thing → List Owner
owners_in addr thing = owned_in addr (option_map (own_block addr) thing)

owned_or : (addr : ℕ) (a b : Option UsedBlock) → IsLoose b → owned_in addr (option_or a b) ≡ owned_in addr a
owned_or addr None b loose = loose_plain addr b loose
owned_or addr (Some x) b loose = refl

-- the chains of the block at an address are those of the thing there
pub owned_are : (heap : View) (w : World) → BlocksAre heap.blocks (entries_of w) → IsValid w → (addr : ℕ) →
    owned_at heap addr ≡ owners_in addr (thing_at w addr)
owned_are heap w stands valid addr =
    ap (λ (o : Option (Kind × ℕ)). option_map_or (λ (told : Kind × ℕ). owned_by addr told.0 told.1) o [])
    (block_told heap w stands valid addr)
    ∙ owned_or addr (option_map (own_block addr) (thing_at w addr)) (loose_at w addr) (others_loose w addr)
