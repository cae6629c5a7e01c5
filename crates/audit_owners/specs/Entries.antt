-- The lengths of lists, and the entries of hashes.
use Rattle.std.specs.Prelude.{◌==◌, ◌+◌, ◌-◌, ◌/◌, ◌&&◌, ◌||◌, ℕ, Bool, not, List, is_none, length, sum_by}
use Rattle.std.specs.List.{list_all, range_with_len}
use Rattle.sdr_base.specs.declared.kind.Kind.TheVariants as kinds
use Rattle.sdr_base.specs.declared.layout.hash.TheConstants as hash
use Rattle.sdr_base.specs.declared.layout.list.TheConstants as list
use Rattle.sdr_base.specs.declared.line.TheConstants.{WORD}
use Rattle.audit_owners.specs.Members.{members}
use Rattle.audit_owners.specs.Texts.{first_repeated, text_at}
use Rattle.audit_owners.specs.declared.texts.EntryText.TheVariants as texts
use Rattle.sdr_model.specs.HashSteps.{bucket_of}
use Rattle.audit_owners.specs.View.{View, is_kind, length_of, word_of}
use Rattle.audit_owners.specs.declared.owner.Owner.TheVariants as owners

-- whether the block at an address, if it is a list, tells how many elements it has
abbrev pub keeps_length : View → ℕ → ℕ → Bool
keeps_length heap words addr =
    not (is_kind kinds.List (heap.blocks addr))
    || word_of (heap.blocks addr) list.LENGTH == length (members heap words (owners.List addr))

-- how many buckets a hash has: a word of its block for each, behind its numbers
abbrev pub bucket_count : View → ℕ → ℕ
bucket_count heap addr = length_of (heap.blocks addr) / WORD - hash.WORDS

-- the entries in a bucket of a hash
abbrev pub bucket : View → ℕ → ℕ → ℕ → List ℕ
bucket heap words addr number = members heap words (owners.Bucket addr (hash.WORDS + number))

-- whether the key of an entry has the length that a hash asks, and belongs in a bucket of it
abbrev pub fits_bucket : View → ℕ → ℕ → ℕ → Bool
fits_bucket heap addr number entry =
    length (text_at heap texts.Key entry) == word_of (heap.blocks addr) hash.KEY_LENGTH
    && bucket_of (bucket_count heap addr) (text_at heap texts.Key entry) == number

-- whether the entries in a bucket of a hash belong there, and no two have the same key
abbrev pub keeps_bucket : View → ℕ → ℕ → ℕ → Bool
keeps_bucket heap words addr number =
    list_all (fits_bucket heap addr number) (bucket heap words addr number)
    && is_none (first_repeated heap texts.Key (bucket heap words addr number))

-- the numbers of the buckets of a hash
abbrev pub buckets : View → ℕ → List ℕ
buckets heap addr = range_with_len 0 (bucket_count heap addr)

-- how many entries a hash has
abbrev pub entry_count : View → ℕ → ℕ → ℕ
entry_count heap words addr = sum_by (λ number. length (bucket heap words addr number)) (buckets heap addr)

-- whether the block at an address, if it is a hash, has right buckets, and tells how many entries it has
abbrev pub keeps_entries : View → ℕ → ℕ → Bool
keeps_entries heap words addr =
    not (is_kind kinds.Hash (heap.blocks addr))
    || (list_all (keeps_bucket heap words addr) (buckets heap addr)
    && word_of (heap.blocks addr) hash.ENTRIES == entry_count heap words addr)
