-- Why calls stop that take several blocks.
use Rattle.std.specs.Prelude.{◌≡◌, ℕ, List, [], ◌∷◌, ◌++◌, map}
use Rattle.sdr_base.specs.Objects.{Heap, OnlyFault}
use Rattle.sdr_base.specs.declared.moves.Move.{Move}
use Rattle.sdr_base.specs.declared.moves.Move.TheVariants.{Short, Took}
use Rattle.sdr_base.specs.declared.refusal.Refusal.TheVariants as refusals
use Rattle.sdr_base.specs.declared.stop.Stop.{Stop}
use Rattle.sdr_base.specs.declared.stop.Stop.TheVariants.{Refused}

-- a block that was taken: for so many bytes, at this address
pub record TakenBlock : Type 0 where
  pub need : ℕ
  pub addr : ℕ

-- blocks are taken
abbrev pub took_blocks : List TakenBlock → List Move
took_blocks = map (λ t. Took t.need t.addr)

-- for so many bytes
abbrev pub needs_of : List TakenBlock → List ℕ
needs_of = map (λ t. t.need)

-- of the blocks that are needed some first ones were taken, and there was none for the next one, which is noted
pub record LacksBlock (needs : List ℕ) (missing : ℕ) (old new : Heap) : Type 0 where
  pub taken : List TakenBlock
  pub more : List ℕ
  pub wanted : needs ≡ needs_of taken ++ missing ∷ more
  pub moves : new.moves ≡ old.moves ++ (took_blocks taken ++ Short missing ∷ [])

-- of the blocks that are needed some first ones were taken, and that was all
pub record TookSome (needs : List ℕ) (old new : Heap) : Type 0 where
  pub taken : List TakenBlock
  pub more : List ℕ
  pub wanted : needs ≡ needs_of taken ++ more
  pub moves : new.moves ≡ old.moves ++ took_blocks taken

-- why a call stops that takes blocks for these needs: there is none for one of them, or no log room; or a fault
abbrev pub LacksRoom : List ℕ → Heap → Heap → Stop → Type 0
LacksRoom needs old new (Refused (refusals.NoBlock missing)) = LacksBlock needs missing old new
LacksRoom needs old new (Refused (refusals.LogFull lines room)) = TookSome needs old new
LacksRoom needs old new (Refused refusal) = ⊥
LacksRoom needs old new stop = OnlyFault stop
