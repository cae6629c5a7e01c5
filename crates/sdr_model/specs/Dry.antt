-- The rule for addresses where there is no heap: the k-th block that is taken has address 8 k, and never another.
use Rattle.sdr_base.specs.declared.moves.Move.TheVariants.{Took, Gave, Short}
use Rattle.sdr_base.specs.declared.moves.Move.{Move}
use Rattle.sdr_model.specs.Reading.{reads_media}
use Rattle.sdr_model.specs.RowMoves.{row_moves}
use Rattle.sdr_model.specs.Rows.{ByRow}
use Rattle.sdr_model.specs.Step.{Stops}
use Rattle.sdr_model.specs.World.{World}
use Rattle.sdr_model.specs.declared.answer.Reply.TheVariants as replies
use Rattle.sdr_model.specs.declared.answer.Reply.{Reply}
use Rattle.sdr_model.specs.declared.call.Call.{Call}
use Rattle.std.specs.Prelude.{◌≡◌, ℕ, true, zero, suc, ◌+◌, ◌*◌, List, [], ◌∷◌, ◌++◌}

-- the address of the next block, where so many were taken
abbrev pub next_addr : ℕ → ℕ
next_addr taken = 8 * (taken + 1)

-- the address of the block that is taken after so many more
abbrev pub addr_after : ℕ → ℕ → ℕ
addr_after taken zero = next_addr taken
addr_after taken (suc more) = addr_after (taken + 1) more

-- the addresses of the next so many blocks
abbrev pub next_addrs : ℕ → ℕ → List ℕ
next_addrs taken zero = []
next_addrs taken (suc more) = next_addr taken ∷ next_addrs (taken + 1) more

-- the world with the next so many blocks taken, which are marked, and no bytes shown
abbrev pub with_blocks : World → ℕ → World
with_blocks w count = record w { marks = w.marks ++ next_addrs w.taken count; shown = []; taken = w.taken + count }

-- where so many blocks were taken before, each block taken has the next address, and there is always one
abbrev pub AreInOrder : ℕ → List Move → Type 0
AreInOrder taken [] = Unit {0}
AreInOrder taken (Took need addr ∷ moves) = (addr ≡ next_addr taken) × AreInOrder (taken + 1) moves
AreInOrder taken (Gave addr ∷ moves) = AreInOrder taken moves
AreInOrder taken (Short need ∷ moves) = ⊥

-- how many blocks the moves take
abbrev pub blocks_taken : List Move → ℕ
blocks_taken [] = 0
blocks_taken (Took need addr ∷ moves) = 1 + blocks_taken moves
blocks_taken (Gave addr ∷ moves) = blocks_taken moves
blocks_taken (Short need ∷ moves) = blocks_taken moves

-- a call comes to what its row allows, its blocks have the next addresses, and they are counted
pub record StepsDry (old : World) (call : Call) (moves : List Move) (new : World) (reply : Reply) : Type 0 where
  pub step : ByRow old (record { moves = moves; after = record new { taken = old.taken }; reply = reply }) call
  pub in_order : AreInOrder old.taken moves
  pub counted : new.taken ≡ old.taken + blocks_taken moves

-- the moves of an answered call, whose blocks have the next addresses
abbrev pub answered_moves : World → Call → List Move
answered_moves w call = row_moves w call (addr_after w.taken)

-- the moves of a call that was answered so
abbrev pub dry_moves : World → Call → Reply → List Move
dry_moves w call (replies.Refused refusal) = []
dry_moves w call reply = answered_moves w call

-- a call that reads media stops there, and leaves the world
pub record StopsReading (old : World) (call : Call) (moves : List Move) (new : World) (reply : Reply) : Type 0 where
  pub reads : reads_media call ≡ true
  pub stopped : Stops old (record { moves = moves; after = new; reply = reply }) call

-- the world with one more block taken, which is marked, and no bytes shown
abbrev pub with_taken : World → ℕ → World
with_taken w addr = record w { marks = w.marks ++ addr ∷ []; shown = []; taken = w.taken + 1 }
