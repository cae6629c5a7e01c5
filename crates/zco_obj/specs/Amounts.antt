-- What an object and its parts charge an account.
use Rattle.std.specs.Prelude.{ℕ, ◌==◌, Bool, List, length, if◌then◌else◌}
use Rattle.sdr_base.specs.declared.account.Acct.{Acct}
use Rattle.sdr_base.specs.declared.account.Amounts.{Amounts}
use Rattle.sdr_base.specs.declared.kind.Space.{Space}
use Rattle.sdr_base.specs.declared.kind.Space.TheVariants as spaces
use Rattle.sdr_base.specs.declared.medium.Medium.{Medium}
use Rattle.sdr_base.specs.declared.medium.Medium.TheVariants as media
use Rattle.sdr_model.specs.Amounts.{amounts_by, in_space}
use Rattle.sdr_model.specs.Charges.{bytes_charge, capsule_bytes, extent_bytes, object_bytes}
use Rattle.zco_ref.specs.Kept.{CountedSource, count_in}

-- so many bytes of heap space
abbrev pub heap_amounts : ℕ → Amounts
heap_amounts bytes = amounts_by (in_space spaces.Heap bytes)

-- what an object charges for itself
abbrev pub object_amounts : Amounts
object_amounts = heap_amounts object_bytes

-- what a header or trailer of this text charges
abbrev pub capsule_amounts : List ℕ → Amounts
capsule_amounts text = heap_amounts (capsule_bytes (length text))

-- the space that the bytes of a medium are in
abbrev pub medium_space : Medium → Space
medium_space media.File = spaces.File
medium_space media.Bulk = spaces.Bulk
medium_space medium = spaces.Heap

-- the space that a source's bytes are in
abbrev pub source_space : CountedSource → Space
source_space source = medium_space source.row.medium

-- what an extent charges that is the first of an account's to name a source of so many bytes, which are in this space
abbrev pub extent_amounts : Space → ℕ → Amounts
extent_amounts of bytes = amounts_by (bytes_charge of bytes)

-- what an extent charges that names a source: itself, and the source's bytes where it is the only one of the account to do so
abbrev pub naming_amounts : Bool → CountedSource → Amounts
naming_amounts only source =
    if only then extent_amounts (source_space source) source.row.length else heap_amounts extent_bytes

-- what an extent of the account more charges that names a source
abbrev pub use_amounts : Acct → CountedSource → Amounts
use_amounts acct source = naming_amounts (count_in acct source == 0) source

-- what an extent of the account less gives back that named a source
abbrev pub last_amounts : Acct → CountedSource → Amounts
last_amounts acct source = naming_amounts (count_in acct source == 1) source
