-- Blocks by their addresses, kinds and lengths alone.
use Rattle.std.specs.Prelude.{ℕ, length, Option, None, Some}
use Rattle.sdr_base.specs.Blocks as base
use Rattle.sdr_base.specs.declared.kind.Kind.{Kind}
use Rattle.sdr_model.specs.declared.things.UsedBlock.{UsedBlock}

-- the block at an address, without its bytes
abbrev pub shape : ℕ × base.Block → UsedBlock
shape e = record { addr = e.0; kind = e.1.kind; bytes = length e.1.bytes }

-- the kind of a block, and how many bytes it has
abbrev pub shape_of : Option UsedBlock → Option (Kind × ℕ)
shape_of None = None
shape_of (Some block) = Some (block.kind, block.bytes)
