-- The sources that some extents name, which extents more are to name.
use Rattle.std.specs.Prelude.{◌+◌, ◌<◌, ◌==◌, ◌^◌, ℕ, List, map, sum_by, All, if◌then◌else◌}
use Rattle.sdr_base.specs.ZcoObjects.{ExtentRow}
use Rattle.sdr_base.specs.declared.account.Acct.{Acct}
use Rattle.zco_obj.specs.Gone.{NamedSource, source_at}
use Rattle.zco_obj.specs.Uses.{IsThere}
use Rattle.zco_obj.specs.declared.extent.ExtentPiece.{ExtentPiece}
use Rattle.zco_ref.specs.Counting.{with_count}
use Rattle.zco_ref.specs.Kept.{CountedSource, SourceFits, count_in}

-- how many of these pieces are of the source at an address
abbrev pub pieces_of : ℕ → List ExtentPiece → ℕ
pieces_of addr = sum_by (λ p. if p.of == addr then 1 else 0)

-- the source with so many extents of an account more
abbrev pub more_uses : Acct → ℕ → CountedSource → CountedSource
more_uses acct n source = with_count acct (count_in acct source + n) source

-- the source, once an extent of the account more names each of these pieces
abbrev pub counted : Acct → List ExtentPiece → NamedSource → NamedSource
counted acct ps s = record s { source = more_uses acct (pieces_of s.addr ps) s.source }

-- so it is with each of these sources
abbrev pub all_counted : Acct → List ExtentPiece → List NamedSource → List NamedSource
all_counted acct ps = map (counted acct ps)

-- the numbers of a source fit, and as many extents more as a chain may have can be counted
pub record MayCount (s : NamedSource) : Type 0 where
  pub fits : SourceFits s.source
  pub inbound : s.source.inbound < 2 ^ 61
  pub outbound : s.source.outbound < 2 ^ 61

-- these are the sources that these extents name, and each may count more
pub record AreCountable (extents : List ExtentRow) (sources : List NamedSource) : Type 0 where
  pub there : All (λ e. IsThere (source_at e.source sources)) extents
  pub counted : All MayCount sources
