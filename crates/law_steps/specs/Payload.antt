-- What a clone takes.
use Rattle.std.specs.Prelude.{◌≡◌, ℕ, List, ◌∷◌, replicate}
use Rattle.sdr_base.specs.declared.moves.Move.{Move}
use Rattle.sdr_model.specs.Steps.{taken_at, takes_from}
use Rattle.sdr_model.specs.Things.{extent_need, object_need}
use Rattle.sdr_model.specs.World.{World, as_raw, thing_at}

-- Blocks are taken for an object and for so many extents, and none is given back. Each raw object has the bytes that
-- it had,
-- and there is no new one.
pub record TakesNoPayload (w : World) (moves : List Move) (w' : World) : Type 0 where
  pub extents : ℕ
  pub takes : moves ≡ takes_from (taken_at moves) 0 (object_need ∷ replicate extents extent_need)
  pub raws : (addr : ℕ) → as_raw (thing_at w' addr) ≡ as_raw (thing_at w addr)
