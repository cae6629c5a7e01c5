-- What a machine stands on: a world, and the pools and the undo log of the heap that keeps it, if there is one.
use Rattle.std.specs.Prelude.{◌≡◌, ◌⊎◌, ℕ, List, Bool, true, false, ⊤}
use Rattle.std.specs.List.{list_any}
use Rattle.sdr_base.specs.Moves.{MovesPools}
use Rattle.sdr_base.specs.Pools.{Pools}
use Rattle.sdr_base.specs.declared.moves.Move.{Move}
use Rattle.sdr_base.specs.declared.refusal.Refusal.TheVariants as refusals
use Rattle.sdr_model.specs.Dry.{StepsDry, StopsReading}
use Rattle.sdr_model.specs.Pieces.{pieces_asked}
use Rattle.sdr_model.specs.Step.{Step}
use Rattle.sdr_model.specs.World.{World, at_rest}
use Rattle.sdr_model.specs.declared.answer.Reply.{Reply}
use Rattle.sdr_model.specs.declared.answer.Reply.TheVariants as replies
use Rattle.sdr_model.specs.declared.call.Call.{Call}
use Rattle.sdr_model.specs.declared.piece.Piece.{Piece}
use Rattle.sdr_model.specs.declared.piece.Piece.TheVariants as pieces
use Rattle.sdr_machine.specs.Demand.{Demand, MayFillLog, demand_after, no_demand}

-- where blocks come from: there is no heap, and the world counts those taken; or a heap has these pools, and its undo log
-- has room for so many lines
pub data Ground : Type 0 where
  NoHeap : Ground
  OnHeap : (room : ℕ) → Pools → Ground

-- a world, the ground that it stands on, and what the open transaction has asked of it
pub record State : Type 0 where
  pub world : World
  pub base : Ground
  pub demand : Demand

-- the world, where there is no heap
abbrev pub bare : World → State
bare w = record { world = w; base = NoHeap; demand = no_demand }

-- there is a heap
abbrev pub HasHeap : Ground → Type 0
HasHeap NoHeap = ⊥
HasHeap (OnHeap room P) = ⊤

-- what came of a call: its reply, its moves, and the state after it
pub record Replied : Type 0 where
  pub reply : Reply
  pub moves : List Move
  pub after : State

-- whether the piece lies in a file or an item
abbrev pub lies_with_media : Piece → Bool
lies_with_media (pieces.Known bytes) = false
lies_with_media piece = true

-- whether any of the bytes that the call asks lie in a file or an item
abbrev pub asks_media : World → Call → Bool
asks_media w call = list_any lies_with_media (pieces_asked w call)

-- where the reply tells that media failed, or gave fewer bytes than were asked for, the call asks bytes of them
abbrev pub MayMissMedia : World → Call → Reply → Type 0
MayMissMedia w call replies.MediaFault = asks_media w call ≡ true
MayMissMedia w call (replies.Refused (refusals.SourceShort have want)) = asks_media w call ≡ true
MayMissMedia w call reply = ⊤

-- On a heap the call is a step of the machine, its moves fit the pools, it is refused for want of log room only where its
-- transaction may have touched so many lines, and stopped by media only where it asks bytes of them.
pub record StepsHeap (room : ℕ) (P : Pools) (s : State) (call : Call) (o : Replied) : Type 0 where
  pub step : Step s.world call o.moves o.after.world o.reply
  pub pools : Pools
  pub base : o.after.base ≡ OnHeap room pools
  pub fit : MovesPools P o.moves pools
  pub full : MayFillLog room s.demand s.world call o.reply
  pub media : MayMissMedia s.world call o.reply
  pub demand : o.after.demand ≡ demand_after s.demand s.world call (record { moves = o.moves; after = o.after.world; reply = o.reply })

-- With no heap the call is a step whose blocks have the next addresses, or a stop where media that it asks fail or give too
-- few bytes.
pub record StepsBare (s : State) (call : Call) (o : Replied) : Type 0 where
  pub step : StepsDry s.world call o.moves o.after.world o.reply ⊎ StopsReading s.world call o.moves o.after.world o.reply
  pub media : MayMissMedia s.world call o.reply
  pub base : o.after.base ≡ NoHeap
  pub demand : o.after.demand ≡ s.demand

-- the call may come to this on the ground
abbrev pub StepsOn : Ground → State → Call → Replied → Type 0
StepsOn NoHeap s call o = StepsBare s call o
StepsOn (OnHeap room P) s call o = StepsHeap room P s call o

-- from a state, a call may come to this
abbrev pub Steps : State → Call → Replied → Type 0
Steps s call o = StepsOn s.base s call o

-- a state in which no transaction is open
abbrev pub resting : World → Ground → State
resting w base = record { world = at_rest w; base = base; demand = no_demand }

-- the state that a transaction leaves which ended: its marks and its shown bytes go
abbrev pub committed : State → State
committed now = resting now.world now.base

-- the state that every other transaction leaves: the one before it, but with no heap blocks once taken stay counted
abbrev pub rolled_back : State → State → State
rolled_back before now = record before { world = record before.world { taken = now.world.taken } }
