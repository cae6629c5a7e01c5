-- A payload's object among others, beside a text.
use Rattle.std.specs.Prelude.{◌+◌, ◌*◌, ◌≤◌, ℕ, List, ◌∷◌, ◌++◌, length}
use Rattle.sdr_base.specs.Objects.{Heap}
use Rattle.zco_join.specs.declared.filled.Filled.{Filled}
use Rattle.law_pieces.specs.Texts.{SomeText, room_to_add}

-- the object stands among others beside a text of so many parts at most, and there is room for so many moves
pub record HasPayload (heap : Heap) (parts : List Filled) (object n room : ℕ) : Type 0 where
  pub before : List ℕ
  pub behind : List ℕ
  pub few : length parts ≤ n
  pub text : SomeText heap parts (before ++ (object ∷ behind)) 1 room

-- so many moves are enough to cut a piece more and add it
abbrev pub room_for_next : ℕ → ℕ
room_for_next n = 2 + room_to_add 1 n

-- so it is with a text of some number of parts at most
pub record SomePayload (heap : Heap) (parts : List Filled) (object : ℕ) : Type 0 where
  pub n : ℕ
  pub has : HasPayload heap parts object n (room_for_next n)

-- a piece more was added: what there was room for, there is
pub record AddsNext (old new : Heap) (parts parts' : List Filled) (object : ℕ) : Type 0 where
  pub adds : (n room : ℕ) → HasPayload old parts object n (room + room_for_next n) →
      HasPayload new parts' object (2 * n + 1) room
