-- Calls on queues one after another, and what waits behind them.
use Rattle.std.specs.Prelude.{◌≡◌, ◌≢◌, ◌+◌, ◌==◌, ℕ, Bool, false, not, nat_le, if◌then◌else◌, List, [], ◌∷◌, ◌++◌, length, All}
use Rattle.std.specs.List.{list_any}
use Rattle.bp_queue.specs.States.{State, Waiting, except, highest, itself, later_than, object_of}

-- A call on queues that wasn't stopped, with its answer: one was put; an object was taken, 0 where none waited; so many that
-- were overdue then have expired; or a call that changes nothing, as one that is refused for what it is asked.
pub data QueueCall : Type 0 where
  Puts : Waiting → QueueCall
  Takes : ℕ → QueueCall
  Expires : ℕ → ℕ → QueueCall
  Looks : QueueCall

-- what a call makes of a state
abbrev pub QueueStep : State → QueueCall → State → Type 0
QueueStep s (Puts w) s' = All (λ v. v.object ≢ w.object) s × (s' ≡ s ++ w ∷ [])
QueueStep s (Takes object) s' = (object ≡ object_of itself (highest itself s)) × (s' ≡ except itself (highest itself s) s)
QueueStep s (Expires now count) s' = (s' ≡ later_than itself now s) × (count + length s' ≡ length s)
QueueStep s Looks s' = s' ≡ s

-- the calls one after another lead from one state to another
abbrev pub RunsQueue : State → List QueueCall → State → Type 0
RunsQueue s [] s' = s' ≡ s
RunsQueue s (call ∷ calls) s' = (mid : State) × QueueStep s call mid × RunsQueue mid calls s'

-- whether a call takes one that waits out: its object was taken, or it was overdue at an expiry
abbrev pub takes_out : Waiting → QueueCall → Bool
takes_out w (Takes object) = w.object == object
takes_out w (Expires now count) = nat_le w.deadline now
takes_out w call = false

-- whether one that waits stays over these calls
abbrev pub stays : List QueueCall → Waiting → Bool
stays calls w = not (list_any (takes_out w) calls)

-- those that were put and stay over the calls behind that
abbrev pub put_and_stay : List QueueCall → State
put_and_stay [] = []
put_and_stay (Puts w ∷ calls) = (if stays calls w then w ∷ [] else []) ++ put_and_stay calls
put_and_stay (call ∷ calls) = put_and_stay calls
