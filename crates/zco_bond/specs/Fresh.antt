-- Addresses that are free while moves are made, and moves that take only these.
use Rattle.std.specs.Prelude.{◌≡◌, ◌≢◌, ◌⊎◌, ℕ, List, [], ◌∷◌, None}
use Rattle.sdr_base.specs.Blocks.{Blocks}
use Rattle.sdr_base.specs.declared.moves.Move.{Move}
use Rattle.sdr_base.specs.declared.moves.Move.TheVariants.{Gave, Short, Took}

-- no block stands there
abbrev pub is_free : Blocks → ℕ → Type 0
is_free blocks addr = blocks addr ≡ None

-- which addresses are free once these moves were made, where these were so before
abbrev pub free_after : (ℕ → Type 0) → List Move → ℕ → Type 0
free_after Free [] = Free
free_after Free (Took need addr ∷ moves) = free_after (λ q. (q ≢ addr) × Free q) moves
free_after Free (Gave addr ∷ moves) = free_after (λ q. (q ≡ addr) ⊎ Free q) moves
free_after Free (Short need ∷ moves) = free_after Free moves

-- each block that these moves take begins at an address that is free at that time, where these are so before, and not at 0
abbrev pub TakesFree : (ℕ → Type 0) → List Move → Type 0
TakesFree Free [] = Unit {0}
TakesFree Free (Took need addr ∷ moves) = (addr ≢ 0) × Free addr × TakesFree (λ q. (q ≢ addr) × Free q) moves
TakesFree Free (Gave addr ∷ moves) = TakesFree (λ q. (q ≡ addr) ⊎ Free q) moves
TakesFree Free (Short need ∷ moves) = TakesFree Free moves

-- these moves lead from blocks to others: they take what is free, and what is free in the end is so once they were made
pub record Fresh (moves : List Move) (old new : Blocks) : Type 0 where
  pub takes : TakesFree (is_free old) moves
  pub left : (addr : ℕ) → is_free new addr → free_after (is_free old) moves addr
