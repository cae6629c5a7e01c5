-- How many lines a bond may touch by what it asks.
use Rattle.std.proofs.Common.{◌≡◌, ◌+◌, ◌*◌, ◌/◌, ◌≤◌, ℕ, List, [], ◌∷◌, Option, None, Some, true, inl, length, slice_index, ap, arith}
use Rattle.std.proofs.lemmas.List.Sums.{sum_by-cons}
use Rattle.std.specs.Option.{option_map_or}
use Rattle.std.specs.Prelude.{sum_by}
use Rattle.sdr_base.specs.declared.moves.Move.{Move}
use Rattle.law_steps.proofs.StepLemmas.{moves_are_the_rows}
use Rattle.sdr_machine.specs.Demand.{Demand, bytes_taken, demand_after, most_lines}
use Rattle.sdr_model.specs.BondSteps.{bond_moves, capsules_of}
use Rattle.sdr_model.specs.RowMoves.{bond_moves_of}
use Rattle.sdr_model.specs.Rows.{ByRow}
use Rattle.sdr_model.specs.Step.{is_answer}
use Rattle.sdr_model.specs.Steps.{Outcome, taken_addresses}
use Rattle.sdr_model.specs.World.{World}
use Rattle.sdr_model.specs.Zco.{object_at}
use Rattle.sdr_model.specs.declared.call.Call.TheVariants as calls
use Rattle.sdr_model.specs.declared.zco.Capsule.{Capsule}
use Rattle.sdr_model.specs.declared.zco.ZcoObject.{ZcoObject}
use Rattle.step_zco_parts.proofs.LinesLemmas.{four_moves}
use Rattle.step_zco_parts.specs.BondAnswering.{bond_lines, capsule_lines}

-- the lines for headers and trailers, by the blocks that they take
lines_taken : (at : ℕ → ℕ) (k : ℕ) (cs : List Capsule) →
    sum_by capsule_lines cs ≤ 114 * length cs + bytes_taken (bond_moves at k cs) / 32
lines_taken at k [] = omega arith
lines_taken at k (c ∷ cs) =
    let rest = lines_taken at (k + 3) cs in
    let sums = sum_by-cons capsule_lines c cs in
    let need : bytes_taken (bond_moves at k (c ∷ cs))
    ≡ 8 + length c.text + (48 + (32 + bytes_taken (bond_moves at (k + 3) cs))) = omega arith in
    omega (arith, rest, sums, need)

-- a bond that is answered by its row asks for as many lines as it touches
pub enough : (d : Demand) (w : World) (addr number : ℕ) (o : Outcome) → ByRow w o (calls.Bond addr number) →
    is_answer o.reply ≡ true →
    most_lines d + bond_lines w addr ≤ most_lines (demand_after d w (calls.Bond addr number) o)
enough d w addr number o row answered =
    by (object_at w addr) (moves_are_the_rows w o.after (calls.Bond addr number) o.moves o.reply (inl row) answered)
  where
    at : ℕ → ℕ
    at = slice_index (taken_addresses o.moves)

    by : (x : Option ZcoObject) → o.moves ≡ bond_moves_of x at →
        most_lines d + option_map_or (λ (z : ZcoObject). 8 + sum_by capsule_lines (capsules_of z)) x 0
        ≤ most_lines (demand_after d w (calls.Bond addr number) o)
    by None moves = omega arith
    by (Some z) moves =
        let cs = capsules_of z in
        let many = ap (λ (ms : List Move). length ms) moves in
        let four = four_moves at 0 cs in
        let bytes = ap bytes_taken moves in
        let lines = lines_taken at 0 cs in omega (arith, many, four, bytes, lines)
