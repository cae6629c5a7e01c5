-- An object that is kept with all that its end takes: its sources, and the queue of its account.
use Rattle.std.specs.Prelude.{ℕ, List}
use Rattle.sdr_base.specs.Blocks.{IsKind}
use Rattle.sdr_base.specs.Objects.{Heap}
use Rattle.sdr_base.specs.ZcoObjects.{ObjectRow}
use Rattle.sdr_base.specs.declared.kind.Kind.TheVariants as kinds
use Rattle.sdr_model.specs.declared.accounts.Ticket.{Ticket}
use Rattle.zco_obj.specs.Beside.{KeepsBeside}
use Rattle.zco_obj.specs.Gone.{NamedSource, sources_entries}
use Rattle.zco_obj.specs.Uses.{AreNamed}

-- the heap keeps some object with the queue of its account, and beside them the sources that its extents name
pub record SomeWithAll (heap : Heap) (object : ℕ) : Type 0 where
  pub row : ObjectRow
  pub tickets : List Ticket
  pub sources : List NamedSource
  pub beside : KeepsBeside heap object row tickets (sources_entries sources)
  pub named : AreNamed row.account row.extents sources

-- where an object's block stands, an object is kept so
abbrev pub IsWithAll : Heap → ℕ → Type 0
IsWithAll heap object = IsKind (heap.blocks object) kinds.Object → SomeWithAll heap object
