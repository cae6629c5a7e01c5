-- How many lines a clone of a part may touch by what it asks.
use Rattle.std.proofs.Common.{◌≡◌, ◌≤◌, ◌+◌, ◌*◌, ℕ, suc, List, [], ◌∷◌, length, refl, ap, arith}
use Rattle.std.specs.Option.{option_map_or}
use Rattle.std.specs.Prelude.{Option, None, Some, map}
use Rattle.sdr_base.specs.declared.moves.Move.{Move}
use Rattle.sdr_machine.specs.Demand.{Demand, bytes_taken, demand_after, most_lines}
use Rattle.sdr_model.specs.PartSteps.{asked_extents}
use Rattle.sdr_model.specs.RowMoves.{clone_moves_of}
use Rattle.sdr_model.specs.Steps.{Outcome, takes_from}
use Rattle.sdr_model.specs.Things.{extent_need}
use Rattle.sdr_model.specs.World.{World}
use Rattle.sdr_model.specs.declared.call.Call.TheVariants as calls
use Rattle.sdr_model.specs.declared.zco.Extent.{Extent}
use Rattle.sdr_model.specs.declared.zco.ZcoObject.{ZcoObject}

-- a block is taken for each extent
pub extents_taken : (at : ℕ → ℕ) (k : ℕ) (es : List Extent) → length (takes_from at k (map (λ (e : Extent). extent_need) es)) ≡ length es
extents_taken at k [] = refl
extents_taken at k (e ∷ es) = let rest = extents_taken at (suc k) es in omega (arith, rest)

bytes_for : (at : ℕ → ℕ) (k : ℕ) (es : List Extent) →
    bytes_taken (takes_from at k (map (λ (e : Extent). extent_need) es)) ≡ 32 * length es
bytes_for at k [] = refl
bytes_for at k (e ∷ es) = let rest = bytes_for at (suc k) es in omega (arith, rest)

-- blocks were taken for a clone and its extents
pub clone_enough : (d : Demand) (w : World) (addr ticket offset bytes : ℕ) (o : Outcome) (z : Option ZcoObject) (at : ℕ → ℕ) →
    o.moves ≡ clone_moves_of z offset bytes at →
    most_lines d + option_map_or (λ x. 34 + 33 * length (asked_extents x offset bytes)) z 0
    ≤ most_lines (demand_after d w (calls.ClonePart addr ticket offset bytes) o)
clone_enough d w addr ticket offset bytes o None at moves = omega arith
clone_enough d w addr ticket offset bytes o (Some z) at moves =
    let es = asked_extents z offset bytes in
    let rest = takes_from at 1 (map (λ (e : Extent). extent_need) es) in
    let many : length o.moves ≡ suc (length rest) = ap (λ (ms : List Move). length ms) moves in
    let need : bytes_taken o.moves ≡ 72 + bytes_taken rest = ap bytes_taken moves in
    omega (arith, many, need, extents_taken at 1 es, bytes_for at 1 es)
