-- What a crash leaves of a journal.
use Rattle.std.specs.Prelude.{◌≡◌, ◌≤◌, ◌+◌, ◌⊎◌, ◌==◌, ℕ, Option, zero, suc, Bool, true, false, not, cond, is_none, ◌&&◌, List, [], ◌∷◌, nat_le, nat_lt, slice_get, take, Some, None}
use Rattle.std.specs.List.{list_all}
use Rattle.std.specs.Option.{option_map_or}
use Rattle.sdr_base.specs.Media.{Told}
use Rattle.sdr_disk.specs.Moments.{AtEach}
use Rattle.sdr_model.specs.declared.answer.Close.{Close}
use Rattle.sdr_model.specs.declared.answer.Close.TheVariants as closes
use Rattle.sdr_model.specs.declared.event.Event.{Event}
use Rattle.sdr_model.specs.declared.event.Event.TheVariants as events
use Rattle.sdr_model.specs.declared.answer.Answer.TheVariants as answers
use Rattle.sdr_model.specs.declared.journal.Entry.{Entry}
use Rattle.sdr_model.specs.declared.journal.Said.{Said}
use Rattle.sdr_model.specs.declared.journal.What.{What}
use Rattle.sdr_model.specs.declared.journal.What.TheVariants as whats
use Rattle.sdr_machine.specs.Ground.{State, committed}
use Rattle.sdr_machine.specs.Legal.{IsAfter, MayFollow, is_fault}
use Rattle.sdr_machine.specs.Machine.{is_outside}
use Rattle.sdr_machine.specs.Roll.{Roll, daemon_of, served_number}
use Rattle.sdr_machine.specs.Standing.{GroundState}
use Rattle.sdr_machine.specs.declared.daemon.Daemon.{Daemon}
use Rattle.sdr_machine.specs.declared.daemon.Holding.{Holding}
use Rattle.sdr_machine.specs.declared.has_ground.HasGround.{Ghosts}
use Rattle.sdr_machine.specs.declared.nesting.Nesting.{Nesting}

-- whether no disk fault is met in the entry
abbrev pub is_whole : Entry → Bool
is_whole e = not (is_fault e.what)

-- how many first entries are done at the moment; one in which the disk failed is never done
unfoldable pub done_by : ℕ → List Entry → ℕ
done_by m [] = 0
done_by m (e ∷ journal) = cond (is_whole e && nat_le e.done m) (suc (done_by m journal)) 0

-- whether the entry behind the first k has begun below the moment
unfoldable pub begun_below : ℕ → ℕ → List Entry → Bool
begun_below m k [] = false
begun_below m zero (e ∷ journal) = nat_lt e.begun m
begun_below m (suc k) (e ∷ journal) = begun_below m k journal

-- whether no disk fault is met in the journal
abbrev pub is_sound : List Entry → Bool
is_sound journal = list_all is_whole journal

-- R holds of the image for the first entries that are done at the moment, or for one more that has begun below it
abbrev pub AfterSome : (ℕ → List ℕ → Type 0) → ℕ → List Entry → List ℕ → Type 0
AfterSome R m journal image =
    R (done_by m journal) image ⊎ ((begun_below m (done_by m journal) journal ≡ true) × R (done_by m journal + 1) image)

-- at every moment since the start, what a crash then leaves is that of some first entries
abbrev pub IsCrashSafe : {T : Type 0} → (T → ℕ) → (T → ℕ → List ℕ → Type 0) → (ℕ → List ℕ → Type 0) → ℕ → List Entry → T → Type 0
IsCrashSafe moment left R start journal t =
    (m : ℕ) (image : List ℕ) → start ≤ m → m ≤ moment t → left t m image → AfterSome R m journal image

-- the image opens to a state of which P tells
pub record OpensTo (opens : List ℕ → State → Type 0) (P : State → Type 0) (image : List ℕ) : Type 0 where
  pub state : State
  pub opened : opens image state
  pub tells : P state

-- the last of these, told as the transaction's end
abbrev pub end_told : List Said → List Said
end_told [] = []
end_told (said ∷ []) = record said { answer = answers.Closed closes.Ended } ∷ []
end_told (said ∷ more) = said ∷ end_told more

-- what an entry in which the disk failed would be if its last event, an end, had been answered
abbrev pub as_ended : What → Option What
as_ended (whats.Work said closes.Faulted) = Some (whats.Work (end_told said) closes.Ended)
as_ended what = None

-- The disk failed at the end of the last of the first k entries, and this is the state that it would have left.
pub record KeptInVain (told : Option Told) (daemons : List ℕ) (first : State) (journal : List Entry) (k : ℕ) (s : State) : Type 0 where
  pub before : ℕ
  pub next : k ≡ before + 1
  pub entry : Entry
  pub at : slice_get journal before ≡ Some entry
  pub left : State
  pub after : IsAfter told daemons first journal before left
  pub what : What
  pub ended : as_ended entry.what ≡ Some what
  pub kept : MayFollow told daemons (take before journal) left entry.number entry.daemon what s

-- The image opens to a state after the first k entries. Where the disk failed at the end of the last of them, it may open to
-- the state with that transaction whole.
abbrev pub OpensAfter : (List ℕ → State → Type 0) → Option Told → List ℕ → State → List Entry → ℕ → List ℕ → Type 0
OpensAfter opens told daemons first journal k image =
    OpensTo opens (λ s. IsAfter told daemons first journal k s ⊎ KeptInVain told daemons first journal k s) image

-- What a crash leaves while no transaction commits: the state before the open one.
pub record LeavesBefore {T : Type 0} (g : Ghosts T) (old new : T) : Type 0 where
  pub each : (v : GroundState) → g.stands old v → AtEach g.moment g.left old new (λ image. g.opens image v.before)

-- What a crash leaves while a transaction commits: the state before it, or the one that it commits.
pub record LeavesEither {T : Type 0} (g : Ghosts T) (old new : T) : Type 0 where
  pub each : (v : GroundState) → g.stands old v → AtEach g.moment g.left old new (λ image. g.opens image v.before ⊎ g.opens image (committed v.now))

-- What a crash leaves while a transaction may be kept or not.
abbrev pub LeavesOr : Bool → {T : Type 0} → Ghosts T → T → T → Type 0
LeavesOr true g old new = LeavesEither g old new
LeavesOr false g old new = LeavesBefore g old new

-- whether a transaction that closes so commits
abbrev pub is_kept : Close → Bool
is_kept closes.Ended = true
is_kept close = false

-- whether an event in a transaction of this nesting keeps what it has done: it is the outermost end, and the transaction isn't
-- doomed
abbrev pub commits_in : Nesting → Event → Bool
commits_in n events.End = nat_le n.depth 1 && is_none n.doom
commits_in n event = false

-- whether an event under a number keeps what its transaction has done: the number is served, and the transaction has begun
abbrev pub commits_under : Roll → Holding → Event → Bool
commits_under r h event = served_number r == h.number && not (is_outside h event) && commits_in h.nesting event

-- whether an event of a daemon that is so keeps what its transaction has done: the daemon hasn't left
abbrev pub commits_of : Roll → Daemon → Event → Bool
commits_of r d event = not d.left && option_map_or (λ (h : Holding). commits_under r h event) d.holds false

-- whether an event of the daemon of a number keeps what its transaction has done
abbrev pub commits_by : Roll → ℕ → Event → Bool
commits_by r daemon event = option_map_or (λ (d : Daemon). commits_of r d event) (daemon_of r daemon) false
