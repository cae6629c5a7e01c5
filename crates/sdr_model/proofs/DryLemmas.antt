-- Blocks that are given back take none.
use Rattle.std.proofs.Common.{◌≡◌, ℕ, List, [], ◌∷◌, refl}
use Rattle.sdr_model.specs.Dry.{AreInOrder, blocks_taken}
use Rattle.sdr_model.specs.Steps.{gave}

-- blocks that are given back are in order
pub AreInOrder-gave : (taken : ℕ) (addrs : List ℕ) → AreInOrder taken (gave addrs)
AreInOrder-gave taken [] = Prim.search
AreInOrder-gave taken (addr ∷ addrs) = AreInOrder-gave taken addrs

-- and none of them is taken
pub blocks_taken-gave : (addrs : List ℕ) → blocks_taken (gave addrs) ≡ 0
blocks_taken-gave [] = refl
blocks_taken-gave (addr ∷ addrs) = blocks_taken-gave addrs

pub ruleset gives = (AreInOrder-gave, blocks_taken-gave)
