-- The counts of the extents that name a source.
use Rattle.std.specs.Prelude.{◌≡◌, ◌+◌, ◌-◌, ℕ, Bool, List, [], MatchBool, Option}
use Rattle.std.specs.Prelude.{if◌then◌else◌}
use Rattle.sdr_base.specs.Blocks.{Block, IsKind}
use Rattle.sdr_base.specs.Entries.{Changes}
use Rattle.sdr_base.specs.Making.{GaveSome, besides}
use Rattle.sdr_base.specs.Objects.{Heap, OnlyFault}
use Rattle.sdr_base.specs.declared.account.Acct.{Acct}
use Rattle.sdr_base.specs.declared.account.Acct.TheVariants as accts
use Rattle.sdr_base.specs.declared.kind.Kind.TheVariants as kinds
use Rattle.sdr_base.specs.declared.layout.source.TheConstants.{INBOUND, OUTBOUND}
use Rattle.sdr_base.specs.declared.refusal.Refusal.TheVariants.{LogFull}
use Rattle.sdr_base.specs.declared.stop.Stop.{Stop}
use Rattle.sdr_base.specs.declared.stop.Stop.TheVariants.{Refused}
use Rattle.zco_ref.specs.Going.{SourceGoes, goes_next, gone_with}
use Rattle.zco_ref.specs.Kept.{CountedSource, KeepsSource, KeepsTied, count_in, counted_entries, uses_of}

-- so many extents name whichever source is kept
pub record TellsUses (found : Option Block) (value : ℕ) : Type 0 where
  pub tells : (source : CountedSource) → KeepsSource found source → value ≡ uses_of source

-- so many extents name the source that is kept there
pub record CountsUses (found : Option Block) (value : ℕ) : Type 0 where
  pub kind : IsKind found kinds.Source
  pub uses : TellsUses found value

-- so many extents of the account name the source that is kept there
pub record CountsIn (acct : Acct) (found : Option Block) (value : ℕ) : Type 0 where
  pub kind : IsKind found kinds.Source
  pub tells : (source : CountedSource) → KeepsSource found source → value ≡ count_in acct source

-- the word field with the count of an account's extents
abbrev pub count_field : Acct → ℕ
count_field accts.Inbound = INBOUND
count_field accts.Outbound = OUTBOUND

-- the source with another count of an account's extents
abbrev pub with_count : Acct → ℕ → CountedSource → CountedSource
with_count accts.Inbound count source = record source { inbound = count }
with_count accts.Outbound count source = record source { outbound = count }

-- the source has become another, with no move, and all else stays
pub record Becomes (addr : ℕ) (source now : CountedSource) (old new : Heap) : Type 0 where
  pub changes : Changes old.blocks new.blocks (counted_entries addr source) (counted_entries addr now)
  pub same : besides new ≡ besides old

-- the source with an extent of an account more
abbrev pub attached : Acct → CountedSource → CountedSource
attached acct source = with_count acct (count_in acct source + 1) source

-- the source with an extent of an account less
abbrev pub detached : Acct → CountedSource → CountedSource
detached acct source = with_count acct (count_in acct source - 1) source

-- an extent more of the account names whichever source is kept, and all else stays
pub record Attaches (addr : ℕ) (acct : Acct) (old new : Heap) : Type 0 where
  pub becomes : (source : CountedSource) → KeepsSource (old.blocks addr) source →
      Becomes addr source (attached acct source) old new

-- whichever source is kept goes where that was the last extent of one which goes with it; else an extent less of the
-- account names it, and all else stays
pub record Detaches (addr : ℕ) (acct : Acct) (old new : Heap) (gone : Bool) : Type 0 where
  pub told : (source : CountedSource) → KeepsSource (old.blocks addr) source → gone ≡ goes_next source
  pub does : (source : CountedSource) (bytes : List ℕ) → KeepsTied old.blocks addr source bytes →
      MatchBool gone (SourceGoes addr source bytes old new) (Becomes addr source (detached acct source) old new)

-- the addresses of the blocks that go where an extent less names the source
abbrev pub gone_next : ℕ → CountedSource → List ℕ
gone_next addr source = if goes_next source then gone_with source.row.medium source.row.subject addr else []

-- there was no log room, and some first ones of the blocks that go were given back
pub record DetachesSome (addr : ℕ) (old new : Heap) : Type 0 where
  pub gave : (source : CountedSource) → KeepsSource (old.blocks addr) source → GaveSome (gone_next addr source) old new

-- why an extent isn't taken off: there is no log room; or a fault
abbrev pub DetachStops : ℕ → Heap → Heap → Stop → Type 0
DetachStops addr old new (Refused (LogFull lines room)) = DetachesSome addr old new
DetachStops addr old new stop = OnlyFault stop
