-- Zeros that are put line by line.
use Rattle.std.proofs.Common.{◌≡◌, ◌≤◌, ◌+◌, ◌-◌, ◌/◌, ◌%◌, ◌∙◌, ℕ, Bool, true, false, cond, ◌==◌, List, [], length}
use Rattle.std.proofs.Common.{take, ap, subst, arith}
use Rattle.std.specs.Prelude.{replicate, Result, Ok, Err, OnOk}
use Rattle.std.specs.List.{range_with_len}
use Rattle.std.proofs.lemmas.List.{length-replicate}
use Rattle.std.proofs.lemmas.List.FromFn.{length-range_with_len}
use Rattle.sdr_base.specs.Cells.{TouchesLines, lines_of}
use Rattle.sdr_base.specs.Parts.{overwrite}
use Rattle.sdr_base.specs.Transaction.{Transaction, TouchesAtMost}
use Rattle.sdr_base.proofs.CellsLemmas.{TouchesAtMost-from_lines}
use Rattle.sdr_base.specs.declared.stop.Stop.{Stop}
use Rattle.sdr_base.proofs.PartsLemmas.{take_zeros}

-- bytes within a line touch that line alone
pub length-lines_of_one : (place count : ℕ) → 1 ≤ count → place % 64 + count ≤ 64 → length (lines_of place count) ≤ 1
unfolding lines_of
length-lines_of_one place count some within =
    let n = (place + count - 1) / 64 + 1 - place / 64 in
    let one : n ≤ 1 = omega arith in
    either (count == 0) n one
  where
    either : (none : Bool) (n : ℕ) → n ≤ 1 → length (cond none [] (range_with_len (place / 64) n)) ≤ 1
    either true n le = omega arith
    either false n le = omega (arith, le, length-range_with_len (place / 64) n)

-- a write of zeros within a line touches that line alone
pub zeros_touch : {T : Type 0} (line place count : ℕ) (old new : Transaction) (result : Result T Stop) → 1 ≤ count →
    place % 64 + count ≤ 64 → count ≤ line →
    TouchesLines (lines_of place (length (take {A = ℕ} count (replicate line 0)))) old new result →
    TouchesAtMost 1 old new result
zeros_touch line place count old new result some within le touches =
    let long : length (take {A = ℕ} count (replicate line 0)) ≡ count =
    ap length (take_zeros line count le) ∙ length-replicate {A = ℕ} count 0 in
    TouchesAtMost-from_lines (lines_of place count) 1 old new result (length-lines_of_one place count some within)
    (subst (λ (n : ℕ). TouchesLines (lines_of place n) old new result) long touches)

-- the first of a line of zeros are zeros
pub zeros_put : {T : Type 0} (line place count : ℕ) (x y : List ℕ) (result : Result T Stop) → count ≤ line →
    OnOk result (y ≡ overwrite place (take count (replicate line 0)) x) →
    OnOk result (y ≡ overwrite place (replicate count 0) x)
zeros_put line place count x y (Ok value) le put =
    put ∙ ap (λ (l : List ℕ). overwrite place l x) (take_zeros line count le)
zeros_put line place count x y (Err stop) le put = put
