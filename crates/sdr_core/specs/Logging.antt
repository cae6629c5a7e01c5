-- The log that a keeper keeps, and what it has room for.
use Rattle.std.specs.Prelude.{◌≡◌, ◌<◌, ◌≤◌, ◌+◌, ◌==◌, ◌++◌, ℕ, List, [], ◌∷◌, ◌||◌, Vec, Bool, Option, None, Some, true, false, IsSome, MatchOption, if◌then◌else◌, vec_capacity, vec_len, ⊤}
use Rattle.std.specs.Option.{option_map, option_map_or, option_to_list}
use Rattle.std.specs.declared.alloc.Global.{Global}
use Rattle.sdr_machine.specs.Core.{Log, closed_by, is_failed, is_passed_over, was_outside, what_added, with_said}
use Rattle.sdr_machine.specs.declared.daemon.Daemon.{Daemon}
use Rattle.sdr_machine.specs.declared.daemon.Holding.{Holding}
use Rattle.sdr_model.specs.declared.answer.Answer.{Answer}
use Rattle.sdr_model.specs.declared.event.Event.{Event}
use Rattle.sdr_model.specs.declared.event.Event.TheVariants as events
use Rattle.sdr_model.specs.declared.journal.Entry.{Entry}
use Rattle.sdr_model.specs.declared.journal.Said.{Said}
use Rattle.sdr_model.specs.declared.journal.What.{What}
use Rattle.sdr_core.specs.Keeping.{AreSpacious, MaySay, spoken_of, works_of}
use Rattle.sdr_core.specs.Noting.{entry_noted, under_of}
use Rattle.sdr_core.specs.declared.keeper.Keeper.{Keeper}
use Rattle.sdr_core.specs.declared.noted.Noted.{Noted}

-- the log that is kept
abbrev pub log_of : Keeper → Log
log_of k = record { works = works_of k.works.items; journal = k.journal.items }

-- There is room for two more that the daemon says, for one more transaction with the first two that are said in it, and for one more
-- entry.
pub record HasRoom (k : Keeper) (daemon : ℕ) : Type 0 where
  pub works : vec_len k.works < vec_capacity k.works
  pub said : MaySay 2 k.works.items daemon
  pub blank : k.first.items ≡ []
  pub begins : 2 ≤ vec_capacity k.first
  pub journal : vec_len k.journal < vec_capacity k.journal

-- There is room for so many more entries, and in each open transaction for one more that is said.
pub record HasRoomFor (n : ℕ) (k : Keeper) : Type 0 where
  pub journal : vec_len k.journal + n ≤ vec_capacity k.journal
  pub said : AreSpacious k.works.items

-- how many entries the leaves of a daemon may still add: one, and one more where it is in a transaction
abbrev pub leaves_of : Daemon → ℕ
leaves_of d = if d.left then 0 else option_map_or (λ (h : Holding). if h.nesting.depth == 0 then 1 else 2) d.holds 1

-- how many the leaves of these daemons may still add
abbrev pub leaves_ahead : List Daemon → ℕ
leaves_ahead [] = 0
leaves_ahead (d ∷ ds) = leaves_of d + leaves_ahead ds

-- what has been said in the transaction of a daemon that a leave closes is kept
abbrev pub ClosesKept : Keeper → ℕ → Answer → Type 0
ClosesKept k daemon answer = MatchOption (closed_by answer) ⊤ (λ close. IsSome (spoken_of k.works.items daemon))

-- what closes a transaction was said in one
abbrev pub ClosesWithin : Said → Type 0
ClosesWithin said = MatchOption (closed_by said.answer) ⊤ (λ close. was_outside said ≡ false)

-- What was said closes no transaction: it is kept where it was said in one, and the entry of a look or a leave is added.
pub record GoesOn (n : Noted) (said : Said) (old new : Log) : Type 0 where
  pub works : new.works ≡ (if was_outside said then old.works else with_said old.works n.daemon said)
  pub journal :
      new.journal ≡ old.journal ++ option_to_list (option_map (entry_noted n) (what_added (under_of n.under) said.event said.answer))

-- an entry is added where there was room
pub record AddsOne (old new : Vec Entry Global) : Type 0 where
  pub len : vec_len new ≡ vec_len old + 1
  pub capacity : vec_capacity new ≡ vec_capacity old

-- at most one is
pub record AddsSome (old new : Vec Entry Global) : Type 0 where
  pub len : vec_len new ≤ vec_len old + 1
  pub capacity : vec_capacity new ≡ vec_capacity old

-- how many entries are added: one where this is some
abbrev pub entries_of : Option What → ℕ
entries_of None = 0
entries_of (Some what) = 1

-- so many are
pub record AddsEntries (what : Option What) (old new : Vec Entry Global) : Type 0 where
  pub len : vec_len new ≡ vec_len old + entries_of what
  pub capacity : vec_capacity new ≡ vec_capacity old

-- an event that was answered so stands in no transaction, unless it closes one
abbrev pub PassesUnlessClosing : Event → Answer → Type 0
PassesUnlessClosing event answer = closed_by answer ≡ None → (is_passed_over event answer || is_failed answer) ≡ true

-- whether the event is a leave
abbrev pub is_leave : Event → Bool
is_leave (events.Leaves leave) = true
is_leave event = false
