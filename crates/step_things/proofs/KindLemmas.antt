-- What of a world stands at an address, by the kind of the block in use there.
use Rattle.std.proofs.Common.{◌≡◌, ◌∙◌, ℕ, ◌==◌, ◌||◌, List, [], ◌∷◌, ◌++◌, Bool, true, false, true≢false, cond, map, Option, None, Some, refl, sym, ap, subst, arith}
use Rattle.std.specs.Prelude.{Contains, nat_eq}
use Rattle.std.proofs.lemmas.Bool.Decides.{nat_tests}
use Rattle.std.proofs.lemmas.Map.Views.{list_any-from_Contains}
use Rattle.std.specs.Cmp.{nat_eq_equiv}
use Rattle.std.specs.FinMap as finite
use Rattle.std.specs.List.{AllByRecursion, list_any}
use Rattle.std.specs.Option.{option_map, option_or}
use Rattle.sdr_stands.proofs.ShapeLemmas.{told}
use Rattle.sdr_stands.specs.Shape.{shape_of}
use Rattle.sdr_stands.specs.Standing.{HeapStandsFor}
use Rattle.sdr_base.specs.Blocks as base
use Rattle.sdr_base.specs.Blocks.{IsKind, kind_length}
use Rattle.sdr_base.specs.Kinds.{kind_number}
use Rattle.sdr_base.specs.Objects.{Heap, Misses}
use Rattle.sdr_base.specs.declared.kind.Kind.{Kind}
use Rattle.sdr_base.specs.declared.kind.Kind.TheVariants as kinds
use Rattle.sdr_base.specs.declared.refusal.Refusal.{Refusal}
use Rattle.sdr_base.specs.declared.refusal.Refusal.TheVariants as refusals
use Rattle.sdr_base.specs.declared.stop.Stop.TheVariants as stops
use Rattle.law_steps.proofs.FoundLemmas.{blocks_are_found}
use Rattle.sdr_model.specs.Accounts.{block_for_ticket, ticket_blocks}
use Rattle.sdr_model.specs.Blocks.{addresses_of, blocks_of}
use Rattle.sdr_model.specs.Things.{block_among, block_for_capsule, block_for_element, entry_block, block_for_extent, inner_among, inner_blocks, block_for_name, object_blocks, own_block}
use Rattle.sdr_model.specs.Valid.{IsValid}
use Rattle.sdr_model.specs.World.{World, block_at, misnamed, refusal_for, thing_at}
use Rattle.sdr_model.specs.declared.accounts.Ticket.{Ticket}
use Rattle.sdr_model.specs.declared.name.Name.{Name}
use Rattle.sdr_model.specs.declared.things.UsedBlock.{UsedBlock}
use Rattle.sdr_model.specs.declared.things.Thing.{Thing}
use Rattle.sdr_model.specs.declared.things.Thing.TheVariants as things
use Rattle.sdr_model.specs.declared.zco.Capsule.{Capsule}
use Rattle.sdr_model.specs.declared.zco.Extent.{Extent}
use Rattle.sdr_model.specs.declared.zco.ZcoObject.{ZcoObject}

-- whether a block of this kind is a thing's own; the other kinds are those of blocks inside things, of names and of tickets
abbrev pub is_own : Kind → Bool
is_own kinds.Raw = true
is_own kinds.Text = true
is_own kinds.List = true
is_own kinds.Table = true
is_own kinds.Hash = true
is_own kinds.Source = true
is_own kinds.Object = true
is_own kind = false

-- the block at an address beside those of things: a name's or a ticket's
abbrev pub loose_block : World → ℕ → Option UsedBlock
loose_block w addr = option_or (block_among addr (map block_for_name w.names))
    (block_among addr (ticket_blocks w.accounts))

-- the block at an address that is no thing's own
abbrev pub inner_block : World → ℕ → Option UsedBlock
inner_block w addr = option_or (inner_among addr (finite.entries w.things)) (loose_block w addr)

-- what holds of each block that may be found
module _ (P : UsedBlock → Type 0) where
  abbrev pub Finds : Option UsedBlock → Type 0
  Finds o = (b : UsedBlock) → o ≡ Some b → P b

  pub found_all : (addr : ℕ) (bs : List UsedBlock) → AllByRecursion P bs → Finds (block_among addr bs)
  found_all addr [] all b is = absurd cc
  found_all addr (x ∷ xs) all b is = step (found_all addr xs all.1 b) (x.addr == addr) is
    where
      step : (block_among addr xs ≡ Some b → P b) → (v : Bool) → cond v (Some x) (block_among addr xs) ≡ Some b → P b
      step rest true here = let same : x ≡ b = cc in subst P same all.0
      step rest false here = rest here

  pub or_finds : (o r : Option UsedBlock) → Finds o → Finds r → Finds (option_or o r)
  or_finds None r first second = second
  or_finds (Some x) r first second = first

  pub all_of : {X : Type 0} (f : X → UsedBlock) → ((x : X) → P (f x)) → (xs : List X) → AllByRecursion P (map f xs)
  all_of f each [] = tt
  all_of f each (x ∷ xs) = (each x, all_of f each xs)

  pub all_both : (xs ys : List UsedBlock) → AllByRecursion P xs → AllByRecursion P ys → AllByRecursion P (xs ++ ys)
  all_both [] ys first second = second
  all_both (x ∷ xs) ys first second = (first.0, all_both xs ys first.1 second)

  -- it holds of the blocks of names and tickets
  pub loose_all : (w : World) (addr : ℕ) → ((n : Name) → P (block_for_name n)) → ((t : Ticket) → P (block_for_ticket t))
      → Finds (loose_block w addr)
  loose_all w addr name ticket =
      or_finds (block_among addr (map block_for_name w.names)) (block_among addr (ticket_blocks w.accounts))
      (found_all addr (map block_for_name w.names) (all_of block_for_name name w.names))
      (found_all addr (ticket_blocks w.accounts) (all_both (map block_for_ticket w.accounts.inbound.tickets)
      (map block_for_ticket w.accounts.outbound.tickets)
      (all_of block_for_ticket ticket w.accounts.inbound.tickets)
      (all_of block_for_ticket ticket w.accounts.outbound.tickets)))

  -- and of those of the inside of an object
  pub object_all : (z : ZcoObject) → ((c : Capsule) → P (block_for_capsule c)) → ((e : Extent) → P (block_for_extent e))
      → AllByRecursion P (object_blocks z)
  object_all z capsule extent =
      all_both (map block_for_capsule z.headers ++ map block_for_extent z.extents) (map block_for_capsule z.trailers)
      (all_both (map block_for_capsule z.headers) (map block_for_extent z.extents)
      (all_of block_for_capsule capsule z.headers)
      (all_of block_for_extent extent z.extents))
      (all_of block_for_capsule capsule z.trailers)

-- a block is no thing's own
abbrev IsInner : UsedBlock → Type 0
IsInner b = is_own b.kind ≡ false

all_inner : (thing : Thing) → AllByRecursion IsInner (inner_blocks thing)
all_inner (things.List row) = all_of IsInner block_for_element (λ e. refl) row.elements
all_inner (things.Hash hash) = all_of IsInner entry_block (λ e. refl) hash.entries
all_inner (things.Object z) = object_all IsInner z (λ c. refl) (λ e. refl)
all_inner thing = tt

inside_inner : (addr : ℕ) (es : List (ℕ × Thing)) → Finds IsInner (inner_among addr es)
inside_inner addr [] b is = absurd cc
inside_inner addr (e ∷ es) b is =
    or_finds IsInner (block_among addr (inner_blocks e.1)) (inner_among addr es)
    (found_all IsInner addr (inner_blocks e.1) (all_inner e.1)) (inside_inner addr es) b is

-- a thing, and the kind of its block
pub record ThingAt (w : World) (addr : ℕ) (kind : Kind) : Type 0 where
  pub thing : Thing
  pub there : thing_at w addr ≡ Some thing
  pub kind_is : (own_block addr thing).kind ≡ kind

-- a block of a kind that things' own blocks have is a thing's own
own_block_at : (w : World) (addr : ℕ) (b : UsedBlock) → block_at w addr ≡ Some b → is_own b.kind ≡ true → ThingAt w addr b.kind
own_block_at w addr b is own = by (thing_at w addr) refl is
  where
    others : Finds IsInner (inner_block w addr)
    others =
        or_finds IsInner (inner_among addr (finite.entries w.things)) (loose_block w addr)
        (inside_inner addr (finite.entries w.things)) (loose_all IsInner w addr (λ n. refl) (λ t. refl))

    by : (o : Option Thing) → thing_at w addr ≡ o → option_or (option_map (own_block addr) o) (inner_block w addr) ≡ Some b
        → ThingAt w addr b.kind
    by None at here = absurd (true≢false (sym own ∙ others b here))
    by (Some thing) at here =
        let same : own_block addr thing ≡ b = cc in
        record { thing = thing; there = at; kind_is = ap (λ (x : UsedBlock). x.kind) same }

-- the block in use at an address is the world's
pub block_told : (heap : Heap) (w : World) (addr : ℕ) → HeapStandsFor heap w → IsValid w
    → kind_length (heap.blocks addr) ≡ shape_of (block_at w addr)
block_told heap w addr s valid = told heap.blocks w addr s.blocks valid ∙ ap shape_of (sym (blocks_are_found w addr valid))

-- the kind that was told, and the bytes
abbrev kind_in : Option (Kind × ℕ) → Kind
kind_in None = kinds.Raw
kind_in (Some told) = told.0

-- the block in use has the kind of the world's
pub kind_told : (found : Option base.Block) (b : UsedBlock) → kind_length found ≡ Some (b.kind, b.bytes) → IsKind found b.kind
kind_told None b same = absurd cc
kind_told (Some block) b same = ap kind_in same

-- and where there is one, there is the world's
pub block_of_kind : (heap : Heap) (w : World) (addr : ℕ) (kind : Kind) → HeapStandsFor heap w → IsValid w
    → IsKind (heap.blocks addr) kind
    → (b : UsedBlock) × (block_at w addr ≡ Some b) × (b.kind ≡ kind)
block_of_kind heap w addr kind s valid is = by (heap.blocks addr) (block_at w addr) refl (block_told heap w addr s valid) is
  where
    by : (found : Option base.Block) (o : Option UsedBlock) → block_at w addr ≡ o → kind_length found ≡ shape_of o → IsKind found kind
        → (b : UsedBlock) × (block_at w addr ≡ Some b) × (b.kind ≡ kind)
    by None o at same is = absurd is
    by (Some block) None at same is = absurd cc
    by (Some block) (Some b) at same is = (b, at, sym (ap kind_in same) ∙ is)

-- a block in use of a kind that things' own blocks have is such a thing's
pub thing_is_at : (heap : Heap) (w : World) (addr : ℕ) (kind : Kind) → HeapStandsFor heap w → IsValid w → is_own kind ≡ true
    → IsKind (heap.blocks addr) kind → ThingAt w addr kind
thing_is_at heap w addr kind s valid own is =
    let b = block_of_kind heap w addr kind s valid is in
    subst (λ (k : Kind). ThingAt w addr k) b.2 (own_block_at w addr b.0 b.1 (subst (λ (k : Kind). is_own k ≡ true) (sym b.2) own))

-- a thing's own block is in use
pub own_in_use : (heap : Heap) (w : World) (addr : ℕ) (thing : Thing) → HeapStandsFor heap w → IsValid w
    → thing_at w addr ≡ Some thing
    → IsKind (heap.blocks addr) (own_block addr thing).kind
own_in_use heap w addr thing s valid there =
    kind_told (heap.blocks addr) (own_block addr thing)
    (block_told heap w addr s valid ∙ ap (λ o. shape_of (option_or (option_map (own_block addr) o) (inner_block w addr))) there)

-- the address of what isn't of a kind is refused
pub missed : (heap : Heap) (w : World) (addr : ℕ) (kind : Kind) (refusal : Refusal) → HeapStandsFor heap w → IsValid w
    → Misses (heap.blocks addr) addr kind (stops.Refused refusal)
    → (¬ IsKind (heap.blocks addr) kind) × (refusal ≡ misnamed w addr)
missed heap w addr kind refusal s valid = by (heap.blocks addr) (block_at w addr) refusal (block_told heap w addr s valid)
  where
    by : (found : Option base.Block) (b : Option UsedBlock) (r : Refusal) → kind_length found ≡ shape_of b
        → Misses found addr kind (stops.Refused r)
        → (¬ IsKind found kind) × (r ≡ refusal_for addr b)
    by None None (refusals.BadAddress bad) same m = (λ is. is, ap (λ a. refusals.BadAddress a) m.0)
    by None (Some b) r same m = absurd cc
    by (Some block) None r same m = absurd cc
    by (Some block) (Some b) (refusals.BadAddress bad) same m = absurd (let no : Some block ≡ None = m.1 in cc)
    by (Some block) (Some b) (refusals.WrongKind bad number) same m =
        (m.1.1, λ i. refusals.WrongKind (m.0 i) ((m.1.0 ∙ ap kind_number (ap kind_in same)) i))
    by None None (refusals.WrongKind bad number) same m = absurd m.1
    by None None r same m = absurd m
    by (Some block) (Some b) r same m = absurd m

-- no block of the world is where none is in use
pub no_block : (heap : Heap) (w : World) (addr : ℕ) → HeapStandsFor heap w → IsValid w → heap.blocks addr ≡ None
    → block_at w addr ≡ None
no_block heap w addr s valid none = untold (block_at w addr) (sym (ap kind_length none) ∙ block_told heap w addr s valid)
  where
    untold : (o : Option UsedBlock) → None ≡ shape_of o → o ≡ None
    untold None is = refl
    untold (Some b) is = absurd cc

-- no address is listed where no block begins
unlisted : (addr : ℕ) (bs : List UsedBlock) → block_among addr bs ≡ None → list_any (nat_eq addr) (addresses_of bs)
    ≡ false
unlisted addr [] none = refl
unlisted addr (b ∷ bs) none = step (unlisted addr bs) (b.addr == addr) refl none
  where
    step : (block_among addr bs ≡ None → list_any (nat_eq addr) (addresses_of bs) ≡ false)
        → (v : Bool) → (b.addr == addr) ≡ v → cond v (Some b) (block_among addr bs) ≡ None
        → (nat_eq addr b.addr || list_any (nat_eq addr) (addresses_of bs)) ≡ false
    step rest true is goes = absurd cc
    step rest false is goes =
        let apart : nat_eq addr b.addr ≡ false = grind (arith, nat_tests, is) in
        ap (λ v. v || list_any (nat_eq addr) (addresses_of bs)) apart ∙ rest goes

-- where no block is in use, the world has none
pub none_of : (heap : Heap) (w : World) (addr : ℕ) → HeapStandsFor heap w → IsValid w → heap.blocks addr ≡ None
    → ¬ Contains (addresses_of (blocks_of w)) addr
none_of heap w addr s valid none listed =
    let no : None ≡ shape_of (block_among addr (blocks_of w)) = sym (ap kind_length none) ∙ told heap.blocks w addr s.blocks valid
    in
    true≢false (sym (list_any-from_Contains nat_eq_equiv addr (addresses_of (blocks_of w)) listed)
    ∙ unlisted addr (blocks_of w) (untold (block_among addr (blocks_of w)) no))
  where
    untold : (o : Option UsedBlock) → None ≡ shape_of o → o ≡ None
    untold None is = refl
    untold (Some b) is = absurd cc
