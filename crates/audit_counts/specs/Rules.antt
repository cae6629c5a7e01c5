-- What sources, extents and objects have to keep of one another.
use Rattle.std.specs.Prelude.{◌==◌, ◌+◌, ◌-◌, ◌&&◌, ◌||◌, ℕ, Bool, not, nat_le, List, [], ◌∷◌, map, sum_by, Option}
use Rattle.sdr_base.specs.Sources.{medium_number}
use Rattle.sdr_base.specs.declared.kind.Kind.{Kind}
use Rattle.sdr_base.specs.declared.kind.Kind.TheVariants as kinds
use Rattle.sdr_base.specs.declared.layout.extent.TheConstants as extent
use Rattle.sdr_base.specs.declared.layout.object.TheConstants as object
use Rattle.sdr_base.specs.declared.layout.raw.TheConstants as raw
use Rattle.sdr_base.specs.declared.layout.source.TheConstants as source
use Rattle.sdr_base.specs.declared.medium.Medium.TheVariants as media
use Rattle.audit_counts.specs.declared.rules.CountRule.{CountRule}
use Rattle.audit_counts.specs.declared.rules.CountRule.TheVariants as which
use Rattle.audit_owners.specs.Members.{members}
use Rattle.audit_owners.specs.Places.{first_failing, first_some}
use Rattle.audit_owners.specs.Rules.{is_source_of_raw}
use Rattle.audit_owners.specs.View.{View, is_kind, length_of, word_of}
use Rattle.audit_owners.specs.declared.owner.Owner.TheVariants as owners

-- whether the block at an address, if it is a source of a raw object, has its length, without the word before the bytes
abbrev pub has_raw_length : View → ℕ → Bool
has_raw_length heap addr =
    not (is_source_of_raw (heap.blocks addr))
    || word_of (heap.blocks addr) source.LENGTH
    == length_of (heap.blocks (word_of (heap.blocks addr) source.SUBJECT)) - raw.BYTES

-- whether the block at an address, if it is an extent, lies inside its source
abbrev pub lies_inside : View → ℕ → Bool
lies_inside heap addr =
    not (is_kind kinds.Extent (heap.blocks addr))
    || nat_le (word_of (heap.blocks addr) extent.OFFSET + word_of (heap.blocks addr) extent.LENGTH)
    (word_of (heap.blocks (word_of (heap.blocks addr) extent.SOURCE)) source.LENGTH)

-- the bytes of the extent at an address
abbrev pub extent_length : View → ℕ → ℕ
extent_length heap addr = word_of (heap.blocks addr) extent.LENGTH

-- whether the block at an address, if it is an object, has a part that lies inside the bytes of its extents
abbrev pub covers_part : View → ℕ → ℕ → Bool
covers_part heap words addr =
    not (is_kind kinds.Object (heap.blocks addr))
    || nat_le (word_of (heap.blocks addr) object.PART_OFFSET + word_of (heap.blocks addr) object.PART_LENGTH)
    (sum_by (extent_length heap) (members heap words (owners.Extents addr)))

-- whether the block at an address, if it is an extent, has a byte
abbrev pub has_bytes : View → ℕ → Bool
has_bytes heap addr = not (is_kind kinds.Extent (heap.blocks addr)) || nat_le 1 (extent_length heap addr)

-- whether the block at an address is a source that has taken over a raw object
abbrev pub has_taken : View → ℕ → Bool
has_taken heap addr =
    is_kind kinds.Source (heap.blocks addr) && word_of (heap.blocks addr) source.MEDIUM == medium_number media.Heap

-- whether the block at an address is a flagged source
abbrev pub is_flagged : View → ℕ → Bool
is_flagged heap addr = is_kind kinds.Source (heap.blocks addr) && not (word_of (heap.blocks addr) source.FLAG == 0)

-- A source that is flagged, or that has taken over its raw object, still has an extent. Every other block passes.
abbrev pub has_extent_if_passing : View → ℕ → Bool
has_extent_if_passing heap addr =
    not (is_flagged heap addr || has_taken heap addr)
    || not (word_of (heap.blocks addr) source.INBOUND == 0) || not (word_of (heap.blocks addr) source.OUTBOUND == 0)

-- whether the block at an address, if it is a source that has taken over a raw object, isn't flagged
abbrev pub is_unflagged : View → ℕ → Bool
is_unflagged heap addr = not (has_taken heap addr) || not (is_flagged heap addr)

-- the kinds of blocks that a rule speaks of
abbrev pub count_kinds : CountRule → List Kind
count_kinds which.RawLength = kinds.Source ∷ []
count_kinds which.Inside = kinds.Extent ∷ []
count_kinds which.Part = kinds.Object ∷ []
count_kinds which.Bytes = kinds.Extent ∷ []
count_kinds which.Used = kinds.Source ∷ []
count_kinds which.Unflagged = kinds.Source ∷ []

-- whether the block at an address keeps a rule
abbrev pub keeps_count_rule : View → ℕ → CountRule → ℕ → Bool
keeps_count_rule heap words which.RawLength addr = has_raw_length heap addr
keeps_count_rule heap words which.Inside addr = lies_inside heap addr
keeps_count_rule heap words which.Part addr = covers_part heap words addr
keeps_count_rule heap words which.Bytes addr = has_bytes heap addr
keeps_count_rule heap words which.Used addr = has_extent_if_passing heap addr
keeps_count_rule heap words which.Unflagged addr = is_unflagged heap addr

-- the rules in the order in which they are checked
abbrev pub count_rules : List CountRule
count_rules = which.RawLength ∷ which.Inside ∷ which.Part ∷ which.Bytes ∷ which.Used ∷ which.Unflagged ∷ []

-- the address of the first block that doesn't keep one of these rules, asked one after another
abbrev pub first_broken : View → ℕ → List CountRule → Option ℕ
first_broken heap words rules = first_some (map (λ rule. first_failing (keeps_count_rule heap words rule) words) rules)
