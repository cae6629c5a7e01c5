-- When a journal is legal: each entry goes on from the state that those before it have left.
use Rattle.std.specs.Prelude.{◌≡◌, ◌<◌, ◌≤◌, ℕ, List, [], ◌∷◌, ◌++◌, Bool, true, false, not, ◌==◌, Option, find, reverse, take, MatchBool, ⊤}
use Rattle.std.specs.List.{list_all}
use Rattle.std.specs.Option.{option_map_or}
use Rattle.sdr_base.specs.Media.{Told}
use Rattle.sdr_model.specs.AccountSteps.{is_granted, pending_of}
use Rattle.sdr_model.specs.World.{World}
use Rattle.sdr_model.specs.declared.answer.Close.TheVariants as closes
use Rattle.sdr_model.specs.declared.journal.Entry.{Entry}
use Rattle.sdr_model.specs.declared.journal.What.{What}
use Rattle.sdr_model.specs.declared.journal.What.TheVariants as whats
use Rattle.sdr_machine.specs.Ground.{State, resting}
use Rattle.sdr_machine.specs.Transaction.{Runs}

-- the daemon's last entry
abbrev pub last_entry : List Entry → ℕ → Option Entry
last_entry journal daemon = find (λ e. e.daemon == daemon) (reverse journal)

-- whether the entry is a wait for this ticket
abbrev pub is_wait_for : ℕ → What → Bool
is_wait_for ticket (whats.Waits other) = other == ticket
is_wait_for ticket what = false

-- whether the daemon's last entry is a wait for this ticket
abbrev pub waited_for : List Entry → ℕ → ℕ → Bool
waited_for journal daemon ticket = option_map_or (λ (e : Entry). is_wait_for ticket e.what) (last_entry journal daemon) false

-- whether the entry is a leave, or a wait for a ticket that isn't granted in the world
abbrev pub ends_stuck : World → What → Bool
ends_stuck w (whats.Leaves leave) = true
ends_stuck w (whats.Waits ticket) = not (is_granted (pending_of w ticket))
ends_stuck w what = false

-- whether all of these daemons have stalled: the last entry of each is a leave, or a wait for a ticket that isn't granted
abbrev pub have_stalled : List ℕ → List Entry → World → Bool
have_stalled daemons journal w =
    list_all (λ daemon. option_map_or (λ (e : Entry). ends_stuck w e.what) (last_entry journal daemon) false) daemons

-- the ticket waits in the world
abbrev pub IsWaiting : World → ℕ → Type 0
IsWaiting w ticket = (is_granted (pending_of w ticket) ≡ false) × (option_map_or (λ _. true) (pending_of w ticket) false ≡ true)

-- The entry of this number, of a daemon, may stand behind the journal, where the state is this, and leaves that one.
abbrev pub MayFollow : Option Told → List ℕ → List Entry → State → ℕ → ℕ → What → State → Type 0
MayFollow told daemons journal s number daemon (whats.Work said close) s' = Runs told s number said close s'
MayFollow told daemons journal s number daemon (whats.Waits ticket) s' =
    IsWaiting s.world ticket × (waited_for journal daemon ticket ≡ false) × (s' ≡ s)
MayFollow told daemons journal s number daemon (whats.Awarded ticket) s' =
    (is_granted (pending_of s.world ticket) ≡ true) × (s' ≡ s)
MayFollow told daemons journal s number daemon (whats.Stalled ticket) s' =
    IsWaiting s.world ticket × (waited_for journal daemon ticket ≡ true) × (have_stalled daemons journal s.world ≡ true) × (s' ≡ s)
MayFollow told daemons journal s number daemon (whats.Leaves leave) s' = s' ≡ s

-- The entry may stand behind those before it, and what of the state that it leaves then holds.
pub record LeadThen (told : Option Told) (daemons : List ℕ) (before : List Entry) (s : State) (e : Entry) (Then : State → Type 0) : Type 0 where
  pub after : State
  pub stands : MayFollow told daemons before s e.number e.daemon e.what after
  pub rest : Then after

-- The entries lead from one state to another, each behind those before it, where media tell this.
abbrev pub Lead : Option Told → List ℕ → List Entry → State → List Entry → State → Type 0
Lead told daemons before s [] s' = s' ≡ s
Lead told daemons before s (e ∷ entries) s' = LeadThen told daemons before s e (λ mid. Lead told daemons (before ++ e ∷ []) mid entries s')

-- the state is one after the first k entries, from this first one
abbrev pub IsAfter : Option Told → List ℕ → State → List Entry → ℕ → State → Type 0
IsAfter told daemons first journal k s = Lead told daemons [] first (take k journal) s

-- the entry comes behind another: its number is higher, and it has begun where that one was done
pub record ComesAfter (number done : ℕ) (e : Entry) : Type 0 where
  pub higher : number < e.number
  pub later : done ≤ e.begun
  pub in_time : e.begun ≤ e.done

-- numbers rise from above this one, and moments from this one on
abbrev pub Rise : ℕ → ℕ → List Entry → Type 0
Rise number done [] = ⊤
Rise number done (e ∷ entries) = ComesAfter number done e × Rise e.number e.done entries

-- whether the disk failed in the entry
abbrev pub is_fault : What → Bool
is_fault (whats.Work said closes.Faulted) = true
is_fault what = false

-- whether the entry is a leave
abbrev pub is_leave : What → Bool
is_leave (whats.Leaves leave) = true
is_leave what = false

-- behind an entry in which the disk failed stand leaves alone
abbrev pub EndsWithLeaves : List Entry → Type 0
EndsWithLeaves [] = ⊤
EndsWithLeaves (e ∷ entries) =
    MatchBool (is_fault e.what) (list_all (λ x. is_leave x.what) entries ≡ true) (EndsWithLeaves entries)

-- A journal of these daemons is legal from a state in which no transaction is open, where media tell this.
pub record IsLegal (told : Option Told) (daemons : List ℕ) (first : State) (journal : List Entry) : Type 0 where
  pub rests : first ≡ resting first.world first.base
  pub rise : Rise 0 0 journal
  pub last_state : State
  pub leads : Lead told daemons [] first journal last_state
  pub faults : EndsWithLeaves journal
