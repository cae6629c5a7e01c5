-- What the checks of an audit answer.
use Rattle.std.specs.Prelude.{◌≡◌, ℕ, List, length}
use Rattle.sdr_base.specs.Pools.{PoolBlock}
use Rattle.sdr_base.specs.declared.control.TheConstants.{HIGH, LOW, START}
use Rattle.audit_blocks.specs.Control.{control_word}
use Rattle.audit_blocks.specs.Walk.{OfBlocks}
use Rattle.audit_blocks.specs.declared.control.Edges.{Edges}
use Rattle.audit_blocks.specs.declared.error.Check.{Check}
use Rattle.audit_blocks.specs.declared.error.Damage.{Damage}

-- where blocks may stand, as the control words tell
abbrev pub edges_of : List ℕ → Edges
edges_of bytes = record {
  start = control_word bytes START;
  low = control_word bytes LOW;
  high = control_word bytes HIGH;
  end = length bytes;
}

-- this check found the damage, at a place that is wrong
abbrev pub DamagedBy : Check → (ℕ → Type 0) → Damage → Type 0
DamagedBy check IsWrong damage = (damage.why ≡ check) × IsWrong damage.place

-- this check found the damage, at a place that is wrong, whatever the blocks of the region are
abbrev pub DamagedIn : Check → (List ℕ → List PoolBlock → List PoolBlock → ℕ → Type 0) → List ℕ → Damage → Type 0
DamagedIn check IsWrong bytes damage =
    (damage.why ≡ check) × OfBlocks (λ bytes small large. IsWrong bytes small large damage.place) bytes
