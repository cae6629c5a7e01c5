-- Fresh blocks.
use Rattle.std.specs.Prelude.{◌≢◌, ℕ, ◌==◌, not, List, [], ◌∷◌, Contains, filter}
use Rattle.sdr_base.specs.declared.moves.Move.{Move}
use Rattle.sdr_base.specs.declared.moves.Move.TheVariants.{Took, Gave, Short}

-- each block taken by these moves begins where no block does at that time, where these addresses are in use at
-- first, and not at 0
abbrev pub AreFresh : List ℕ → List Move → Type 0
AreFresh used [] = Unit {0}
AreFresh used (Took need addr ∷ moves) = (addr ≢ 0) × ¬ Contains used addr × AreFresh (addr ∷ used) moves
AreFresh used (Gave addr ∷ moves) = AreFresh (filter (λ a. not (a == addr)) used) moves
AreFresh used (Short need ∷ moves) = AreFresh used moves
