-- A call of several moves that stops before the last of them.
use Rattle.std.specs.Prelude.{◌≡◌, ◌+◌, ◌-◌, ℕ, List, [], ◌∷◌, ◌++◌, length}
use Rattle.sdr_base.specs.Objects.{AreFirstOf, Heap, OnlyFault}
use Rattle.sdr_base.specs.declared.moves.Move.{Move}
use Rattle.sdr_base.specs.declared.moves.Move.TheVariants.{Short, Took}
use Rattle.sdr_base.specs.declared.refusal.Refusal.TheVariants as refusals
use Rattle.sdr_base.specs.declared.stop.Stop.{Stop}
use Rattle.sdr_base.specs.declared.stop.Stop.TheVariants.{Refused}

-- want of a block of so many bytes is noted behind some first moves of a list that Row allows, in which such a block comes next
pub record LacksAmong (Row : List Move → Type 0) (missing : ℕ) (old new : Heap) : Type 0 where
  pub all : List Move
  pub row : Row all
  pub made : List Move
  pub addr : ℕ
  pub first : AreFirstOf all (made ++ Took missing addr ∷ [])
  pub moves : new.moves ≡ old.moves ++ (made ++ Short missing ∷ [])
  pub spare : new.spare ≡ old.spare - (length made + 1)

-- some first moves of a list that Row allows were made, and no other
pub record MadeAmong (Row : List Move → Type 0) (old new : Heap) : Type 0 where
  pub all : List Move
  pub row : Row all
  pub made : List Move
  pub first : AreFirstOf all made
  pub moves : new.moves ≡ old.moves ++ made
  pub spare : new.spare ≡ old.spare - length made

-- why a call isn't done whose moves Row allows: there is no block for one of them, or no log room; or a fault
abbrev pub RowStops : (List Move → Type 0) → Heap → Heap → Stop → Type 0
RowStops Row old new (Refused (refusals.NoBlock missing)) = LacksAmong Row missing old new
RowStops Row old new (Refused (refusals.LogFull lines room)) = MadeAmong Row old new
RowStops Row old new (Refused refusal) = ⊥
RowStops Row old new stop = OnlyFault stop
