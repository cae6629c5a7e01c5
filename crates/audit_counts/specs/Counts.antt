-- How many extents of an account's objects name a source.
use Rattle.std.specs.Prelude.{◌==◌, ◌&&◌, ◌||◌, ℕ, Bool, not, cond, sum_by, count_by}
use Rattle.sdr_base.specs.ZcoObjects.{account_number}
use Rattle.sdr_base.specs.declared.account.Acct.{Acct}
use Rattle.sdr_base.specs.declared.account.Acct.TheVariants as accts
use Rattle.sdr_base.specs.declared.kind.Kind.TheVariants as kinds
use Rattle.sdr_base.specs.declared.layout.extent.TheConstants as extent
use Rattle.sdr_base.specs.declared.layout.object.TheConstants as object
use Rattle.sdr_base.specs.declared.layout.source.TheConstants as source
use Rattle.audit_owners.specs.Members.{members}
use Rattle.audit_owners.specs.Places.{places}
use Rattle.audit_owners.specs.View.{View, is_kind, word_of}
use Rattle.audit_owners.specs.declared.owner.Owner.TheVariants as owners

-- whether an object of this account stands at an address
abbrev pub is_object_of : View → Acct → ℕ → Bool
is_object_of heap account addr =
    is_kind kinds.Object (heap.blocks addr) && word_of (heap.blocks addr) object.ACCOUNT == account_number account

-- whether the extent at an address names a source
abbrev pub extent_names : View → ℕ → ℕ → Bool
extent_names heap from addr = word_of (heap.blocks addr) extent.SOURCE == from

-- how many extents of the object at an address name a source; none where no object of this account stands there
abbrev pub uses_at : View → ℕ → Acct → ℕ → ℕ → ℕ
uses_at heap words account from addr =
    cond (is_object_of heap account addr)
    (count_by (extent_names heap from) (members heap words (owners.Extents addr))) 0

-- how many extents of an account's objects name a source
abbrev pub named_count : View → ℕ → Acct → ℕ → ℕ
named_count heap words account from = sum_by (uses_at heap words account from) (places words)

-- the word of a source with the count of an account
abbrev pub count_field : Acct → ℕ
count_field accts.Inbound = source.INBOUND
count_field accts.Outbound = source.OUTBOUND

-- whether the block at an address tells how many extents of an account's objects name it
abbrev pub tells_count : View → ℕ → Acct → ℕ → Bool
tells_count heap words account addr =
    word_of (heap.blocks addr) (count_field account) == named_count heap words account addr

-- whether the block at an address, if it is a source, tells both counts
abbrev pub keeps_counts : View → ℕ → ℕ → Bool
keeps_counts heap words addr =
    not (is_kind kinds.Source (heap.blocks addr))
    || (tells_count heap words accts.Inbound addr && tells_count heap words accts.Outbound addr)
