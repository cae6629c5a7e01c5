-- What an object that goes leaves of the sources that its extents name, as the end of the next object wants them.
use Rattle.std.specs.Prelude.{List, ◌++◌, filter, flat_map, map, not, if◌then◌else◌}
use Rattle.sdr_base.specs.Blocks.{Blocks}
use Rattle.sdr_base.specs.Entries.{Entries, BlocksAre}
use Rattle.sdr_base.specs.ZcoObjects.{ExtentRow}
use Rattle.sdr_base.specs.declared.account.Acct.{Acct}
use Rattle.sdr_model.specs.Accounts.{is_same_account}
use Rattle.zco_obj.specs.Gone.{NamedSource, goes_with, less_source, sources_entries}
use Rattle.zco_obj.specs.Uses.{AreNamed}
use Rattle.zco_ref.specs.Going.{blocks_left}

-- the sources that stay where these extents of an account go: those that don't go with them, which count them no more
abbrev pub sources_staying : Acct → List ExtentRow → List NamedSource → List NamedSource
sources_staying acct extents sources = map (less_source acct extents) (filter (λ s. not (goes_with extents s)) sources)

-- the raw objects that are left of the sources that go
abbrev pub raws_left : List ExtentRow → List NamedSource → Entries
raws_left extents sources =
    flat_map (λ s. blocks_left s.source.row.medium s.source.row.subject s.bytes) (filter (goes_with extents) sources)

-- more extents of the other account, behind these where it is the same account
abbrev pub together : Acct → List ExtentRow → Acct → List ExtentRow → List ExtentRow
together acct extents other more = if is_same_account acct other then extents ++ more else more

-- The sources that stay stand, beside the raw objects that are left of the others. All other extents that named these sources name
-- the ones that stay, and those count them.
pub record LeavesSources (acct : Acct) (extents : List ExtentRow) (sources : List NamedSource) (rest : Entries) (blocks : Blocks) : Type 0 where
  pub stands : BlocksAre blocks (sources_entries (sources_staying acct extents sources) ++ (raws_left extents sources ++ rest))
  pub named : (other : Acct) (more : List ExtentRow) → AreNamed other (together acct extents other more) sources →
      AreNamed other more (sources_staying acct extents sources)
