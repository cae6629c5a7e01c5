-- An object that is kept with all that it takes to cut it to its part, and how many lines that touches.
use Rattle.std.specs.Prelude.{◌+◌, ◌*◌, ℕ, length}
use Rattle.std.specs.Option.{option_map_or}
use Rattle.sdr_base.specs.Blocks.{IsKind}
use Rattle.sdr_base.specs.Objects.{Heap}
use Rattle.sdr_base.specs.declared.kind.Kind.TheVariants as kinds
use Rattle.sdr_machine.specs.Demand.{grants_between}
use Rattle.sdr_model.specs.Gone.{gone_things, without_things}
use Rattle.sdr_model.specs.ObjectSteps.{with_object}
use Rattle.sdr_model.specs.PartSteps.{outside_part, stripped}
use Rattle.sdr_model.specs.Queue.{with_served}
use Rattle.sdr_model.specs.RowMoves.{stripped_blocks}
use Rattle.sdr_model.specs.World.{World}
use Rattle.sdr_model.specs.Zco.{object_at}
use Rattle.step_zco.specs.Destroying.{SomeWithAll}
use Rattle.zco_strip.specs.Cuts.{HaveBytes}

-- the heap keeps some object with the queue of its account and the sources that its extents name, each of which has a byte
pub record SomeToCut (heap : Heap) (object : ℕ) : Type 0 where
  pub all : SomeWithAll heap object
  pub bytes : HaveBytes all.row.extents

-- where an object's block stands, an object is kept so
abbrev pub IsToCut : Heap → ℕ → Type 0
IsToCut heap object = IsKind (heap.blocks object) kinds.Object → SomeToCut heap object

-- the world in which the object at an address was cut to its part, with what goes with the extents outside gone, and the queue
-- of its account was served
abbrev pub left_cut : World → ℕ → World
left_cut w object =
    option_map_or
    (λ z. with_served (with_object (without_things w (gone_things w (outside_part z) (outside_part z))) object (stripped z)) z.account)
    (object_at w object) w

-- so many lines the call touches at most: 28 for each block that goes, and 32 for each ticket that it grants, beside 21
abbrev pub strip_lines : World → ℕ → ℕ
strip_lines w object =
    21 + 28 * length (stripped_blocks w (object_at w object)) + 32 * grants_between w (left_cut w object)
