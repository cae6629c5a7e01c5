-- An object that is kept with all that it takes to clone a part of it, and how many lines that touches.
use Rattle.std.specs.Prelude.{◌+◌, ◌*◌, ℕ, List, length}
use Rattle.std.specs.Option.{option_map_or}
use Rattle.sdr_base.specs.Blocks.{IsKind}
use Rattle.sdr_base.specs.Objects.{Heap}
use Rattle.sdr_base.specs.ZcoObjects.{ObjectRow}
use Rattle.sdr_base.specs.declared.kind.Kind.TheVariants as kinds
use Rattle.sdr_model.specs.PartSteps.{asked_extents}
use Rattle.sdr_model.specs.World.{World}
use Rattle.sdr_model.specs.Zco.{object_at}
use Rattle.sdr_model.specs.declared.accounts.Ticket.{Ticket}
use Rattle.zco_obj.specs.Gone.{NamedSource}
use Rattle.zco_part.specs.Cloning.{KeepsToClone}

-- the heap keeps some object with the queue of its account, and the sources that its extents name, each of which may count more
pub record SomeCountable (heap : Heap) (object : ℕ) : Type 0 where
  pub row : ObjectRow
  pub tickets : List Ticket
  pub sources : List NamedSource
  pub keeps : KeepsToClone heap object row tickets sources

-- where an object's block stands, an object is kept so
abbrev pub IsCountable : Heap → ℕ → Type 0
IsCountable heap object = IsKind (heap.blocks object) kinds.Object → SomeCountable heap object

-- so many lines are touched at most where it is cloned: 33 for each extent of the clone, beside those of the clone itself
abbrev pub clone_lines : World → ℕ → ℕ → ℕ → ℕ
clone_lines w object offset bytes =
    option_map_or (λ z. 34 + 33 * length (asked_extents z offset bytes)) (object_at w object) 0
