-- The sources that an object's extents name, and what goes with the extents, or is charged no more.
use Rattle.std.specs.Prelude.{ℕ, ◌+◌, ◌-◌, ◌*◌, ◌==◌, ◌&&◌, Bool, List, [], ◌∷◌, ◌++◌, length, nat_lt, sum_by, flat_map, find, Option, None, Some, if◌then◌else◌}
use Rattle.sdr_base.specs.Entries.{Entries}
use Rattle.sdr_base.specs.ZcoObjects.{ExtentRow}
use Rattle.sdr_base.specs.declared.account.Acct.{Acct}
use Rattle.sdr_base.specs.declared.account.Amounts.{Amounts}
use Rattle.sdr_base.specs.declared.kind.Space.{Space}
use Rattle.sdr_base.specs.declared.kind.Space.TheVariants as spaces
use Rattle.sdr_model.specs.Amounts.{amounts_by, in_space}
use Rattle.sdr_model.specs.Charges.{extent_bytes}
use Rattle.zco_obj.specs.Amounts.{source_space}
use Rattle.zco_ref.specs.Counting.{with_count}
use Rattle.zco_ref.specs.Going.{gone_with, is_passing, blocks_left}
use Rattle.zco_ref.specs.Kept.{CountedSource, count_in, tied_entries, uses_of}

-- a source with its address, and with the bytes of its raw object where it has one
pub record NamedSource : Type 0 where
  pub addr : ℕ
  pub source : CountedSource
  pub bytes : List ℕ

-- the blocks of these sources, of each with its raw object where it has one
abbrev pub sources_entries : List NamedSource → Entries
sources_entries = flat_map (λ s. tied_entries s.addr s.source s.bytes)

-- the source at an address, if it is among these
abbrev pub source_at : ℕ → List NamedSource → Option NamedSource
source_at addr = find (λ s. s.addr == addr)

-- how many of these extents name the source at an address
abbrev pub naming : ℕ → List ExtentRow → ℕ
naming addr = sum_by (λ e. if e.source == addr then 1 else 0)

-- whether a source goes with these extents: it goes with its last one, and these are all that name it
abbrev pub goes_with : List ExtentRow → NamedSource → Bool
goes_with extents s =
    is_passing s.source.row.medium s.source.row.flagged
    && (nat_lt 0 (naming s.addr extents) && uses_of s.source == naming s.addr extents)

-- the source with so many extents of an account less
abbrev pub less_uses : Acct → ℕ → CountedSource → CountedSource
less_uses acct n source = with_count acct (count_in acct source - n) source

-- the source, which counts these extents of an account no more
abbrev pub less_source : Acct → List ExtentRow → NamedSource → NamedSource
less_source acct extents s = record s { source = less_uses acct (naming s.addr extents) s.source }

-- the blocks that are left of a source once these extents of an account are gone
abbrev pub left_of : Acct → List ExtentRow → NamedSource → Entries
left_of acct extents s =
    if goes_with extents s then blocks_left s.source.row.medium s.source.row.subject s.bytes
    else tied_entries s.addr (less_source acct extents s).source s.bytes

-- the blocks that are left of these sources
abbrev pub sources_left : Acct → List ExtentRow → List NamedSource → Entries
sources_left acct extents = flat_map (left_of acct extents)

-- the addresses of the blocks of a source that goes with the extents `all`, where an extent is the last one of these to name
-- it: none of those `later` does
abbrev pub going_before : List ExtentRow → List ExtentRow → Option NamedSource → List ℕ
going_before all later None = []
going_before all later (Some s) =
    if goes_with all s && (naming s.addr later == 0) then gone_with s.source.row.medium s.source.row.subject s.addr else []

-- the addresses of the blocks that go where these extents go, of all that go: what goes with each before its own
abbrev pub gone_blocks : List NamedSource → List ExtentRow → List ExtentRow → List ℕ
gone_blocks sources all [] = []
gone_blocks sources all (e ∷ es) = going_before all es (source_at e.source sources) ++ e.addr ∷ gone_blocks sources all es

-- what a source charges an account no more of a space once these extents of it are gone: its bytes, where these are all of the
-- account's that name it
abbrev pub source_less : Acct → List ExtentRow → Space → NamedSource → ℕ
source_less acct extents space s =
    if nat_lt 0 (naming s.addr extents) && count_in acct s.source == naming s.addr extents
    then in_space (source_space s.source) s.source.row.length space else 0

-- what these extents of an account charge no more once they are gone: themselves, and the sources that no other extent of it
-- names
abbrev pub extents_amounts : Acct → List NamedSource → List ExtentRow → Amounts
extents_amounts acct sources extents =
    amounts_by (λ space.
    in_space spaces.Heap (extent_bytes * length extents) space + sum_by (source_less acct extents space) sources)
