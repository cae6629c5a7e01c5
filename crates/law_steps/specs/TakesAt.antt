-- Where the blocks that are taken begin.
use Rattle.std.specs.Prelude.{◌≡◌, ℕ, suc, List, [], ◌∷◌}
use Rattle.sdr_base.specs.declared.moves.Move.{Move}
use Rattle.sdr_base.specs.declared.moves.Move.TheVariants.{Took}

-- the k-th block that these moves take, counted from 0, begins at `at k`
abbrev pub TakesAt : (ℕ → ℕ) → List Move → Type 0
TakesAt at [] = Unit {0}
TakesAt at (Took need addr ∷ moves) = (addr ≡ at 0) × TakesAt (λ k. at (suc k)) moves
TakesAt at (move ∷ moves) = TakesAt at moves
