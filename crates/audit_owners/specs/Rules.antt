-- What binds extents, sources and raw objects to one another, and all blocks of chains to their chains.
use Rattle.std.specs.Prelude.{◌≡◌, ◌<◌, ◌==◌, ◌&&◌, ◌||◌, ◌⊎◌, ℕ, Bool, true, false, not, List, [], ◌∷◌, Option, ⊤}
use Rattle.sdr_base.specs.Blocks.{Block}
use Rattle.sdr_base.specs.Sources.{medium_number}
use Rattle.sdr_base.specs.declared.kind.Kind.{Kind}
use Rattle.sdr_base.specs.declared.kind.Kind.TheVariants as kinds
use Rattle.sdr_base.specs.declared.layout.extent.TheConstants as extent
use Rattle.sdr_base.specs.declared.layout.raw.TheConstants as raw
use Rattle.sdr_base.specs.declared.layout.source.TheConstants as source
use Rattle.sdr_base.specs.declared.medium.Medium.TheVariants as media
use Rattle.audit_owners.specs.Chains.{is_among}
use Rattle.audit_owners.specs.View.{View, is_kind, word_of}
use Rattle.audit_owners.specs.declared.rules.OwnerRule.{OwnerRule}
use Rattle.audit_owners.specs.declared.rules.OwnerRule.TheVariants as which

-- whether a block is a source whose bytes are a raw object's, that it owns or that it only names
abbrev pub is_source_of_raw : Option Block → Bool
is_source_of_raw block =
    is_kind kinds.Source block
    && (word_of block source.MEDIUM == medium_number media.Heap || word_of block source.MEDIUM == medium_number media.Obj)

-- whether a block is a raw object that names a source
abbrev pub is_raw_of_source : Option Block → Bool
is_raw_of_source block = is_kind kinds.Raw block && not (word_of block raw.SOURCE == 0)

-- whether a block is of a kind that only stands in chains
abbrev pub is_chained : Option Block → Bool
is_chained block =
    is_kind kinds.Element block || is_kind kinds.HashEntry block || is_kind kinds.Name block
    || is_kind kinds.Extent block || is_kind kinds.Capsule block || is_kind kinds.Ticket block

-- whether a source of the raw object at an address stands at another
abbrev pub is_source_of : View → ℕ → ℕ → Bool
is_source_of heap raw_addr addr =
    is_source_of_raw (heap.blocks addr) && word_of (heap.blocks addr) source.SUBJECT == raw_addr

-- the kinds of blocks that a rule speaks of
abbrev pub owner_kinds : OwnerRule → List Kind
owner_kinds which.SourceIsThere = kinds.Extent ∷ []
owner_kinds which.RawIsThere = kinds.Source ∷ []
owner_kinds which.SourceNamesRaw = kinds.Raw ∷ []
owner_kinds which.RawNamesSource = kinds.Source ∷ []
owner_kinds which.IsReached =
    kinds.Element ∷ kinds.HashEntry ∷ kinds.Name ∷ kinds.Extent ∷ kinds.Capsule ∷ kinds.Ticket ∷ []

-- whether the block at an address keeps a rule, where chains reach these blocks: one that the rule doesn't speak of does
abbrev pub keeps_owner_rule : View → List ℕ → OwnerRule → ℕ → Bool
keeps_owner_rule heap reached which.SourceIsThere addr =
    not (is_kind kinds.Extent (heap.blocks addr))
    || is_kind kinds.Source (heap.blocks (word_of (heap.blocks addr) extent.SOURCE))
keeps_owner_rule heap reached which.RawIsThere addr =
    not (is_source_of_raw (heap.blocks addr)) || is_kind kinds.Raw
    (heap.blocks (word_of (heap.blocks addr) source.SUBJECT))
keeps_owner_rule heap reached which.SourceNamesRaw addr =
    not (is_raw_of_source (heap.blocks addr)) || is_source_of heap addr (word_of (heap.blocks addr) raw.SOURCE)
keeps_owner_rule heap reached which.RawNamesSource addr =
    not (is_source_of_raw (heap.blocks addr))
    || word_of (heap.blocks (word_of (heap.blocks addr) source.SUBJECT)) raw.SOURCE == addr
keeps_owner_rule heap reached which.IsReached addr = not (is_chained (heap.blocks addr)) || is_among reached addr

-- the rules in the order in which they are checked
abbrev pub owner_rules : List OwnerRule
owner_rules =
    which.SourceIsThere ∷ which.RawIsThere ∷ which.SourceNamesRaw ∷ which.RawNamesSource ∷ which.IsReached ∷ []

-- each block keeps a rule
abbrev pub IsKept : View → List ℕ → OwnerRule → Type 0
IsKept heap reached rule = (addr : ℕ) → keeps_owner_rule heap reached rule addr ≡ true

-- the block at an address doesn't keep a rule, and each before it does
pub record BreaksFirst (heap : View) (reached : List ℕ) (rule : OwnerRule) (addr : ℕ) : Type 0 where
  pub before : (other : ℕ) → other < addr → keeps_owner_rule heap reached rule other ≡ true
  pub wrong : keeps_owner_rule heap reached rule addr ≡ false

-- each block keeps these rules
abbrev pub AreKept : View → List ℕ → List OwnerRule → Type 0
AreKept heap reached [] = ⊤
AreKept heap reached (rule ∷ rules) = IsKept heap reached rule × AreKept heap reached rules

-- of these rules the first that a block doesn't keep is broken first at this address
abbrev pub IsBroken : View → List ℕ → List OwnerRule → ℕ → Type 0
IsBroken heap reached [] addr = ⊥
IsBroken heap reached (rule ∷ rules) addr =
    BreaksFirst heap reached rule addr ⊎ (IsKept heap reached rule × IsBroken heap reached rules addr)
