-- Events of a run on a world in memory.
use Rattle.std.proofs.Common.{◌≡◌, ◌∙◌, ◌≤◌, ◌+◌, ℕ, List, [], ◌∷◌, Bool, true, false, true≢false, Option, None, Some, Result, Ok, Err, IfOk, OnOk, OnErr, length, map, refl, sym, ap, subst, arith}
use Rattle.std.specs.Prelude.{⊤}
use Rattle.std.proofs.lemmas.List.{length-map}
use Rattle.sdr_base.specs.Media.{Told}
use Rattle.sdr_base.specs.declared.media.Media.{Ghosts as MediaGhosts}
use Rattle.sdr_model.specs.World.{World}
use Rattle.sdr_model.specs.declared.answer.Answer.{Answer}
use Rattle.sdr_model.specs.declared.event.Event.{Event}
use Rattle.sdr_model.specs.declared.event.Event.TheVariants as events
use Rattle.sdr_model.specs.declared.event.Leave.{Leave}
use Rattle.sdr_machine.proofs.GroundLemmas.{lapses_same}
use Rattle.sdr_machine.proofs.HolderSteps.{keeps_holders}
use Rattle.sdr_machine.proofs.StepLemmas.{from_option, step_is}
use Rattle.sdr_machine.proofs.WorkLemmas.{on_some}
use Rattle.sdr_machine.specs.Agreeing.{AgreesWith}
use Rattle.sdr_machine.specs.Asked.{outside_asked}
use Rattle.sdr_machine.specs.Core.{Core, core_after}
use Rattle.sdr_machine.specs.Holders.{HoldFirst}
use Rattle.sdr_machine.specs.Lapses.{HasLapseCause, LapsesLast}
use Rattle.sdr_machine.specs.Leaving.{AllLeave, HoldersLeave, LeaveInTurn, MakesLeave, served_daemon, staying}
use Rattle.sdr_machine.specs.Machine.{Machine, Made, MachineStep}
use Rattle.sdr_machine.specs.Roll.{first_roll, newcomer}
use Rattle.sdr_machine.specs.Serving.{Acts, IsInSomeState, Locked, MakesMachineStep, machine_at, takes_memory}
use Rattle.sdr_machine.specs.Standing.{GroundState}
use Rattle.sdr_machine.specs.declared.came.Came.{Came}
use Rattle.sdr_core.specs.Going.{GoesUnasked, MakesNext}
use Rattle.sdr_core.specs.Logging.{is_leave}
use Rattle.sdr_core.specs.declared.has_run.HasRun.{Ghosts as RunGhosts}
use Rattle.mem_machine.proofs.MemoryLemmas.{memory_ground}
use Rattle.mem_machine.specs.Answering.{lapses_of}
use Rattle.mem_machine.specs.Memory.{InMemory, StandsBare, Worlds, machine_on, standing_bare}
use Rattle.mem_machine.specs.MemoryRun.{GivesBytes, IsAt, IsKept, MemoryRun, Responds, bytes_answered, machine_of, made_dry, rolls_at}
use Rattle.mem_machine.specs.Plain.{AllLeaveFrom}

-- a run on a world in memory as a run
abbrev pub memory_run : {M : Type 0} → MediaGhosts M → RunGhosts (MemoryRun M)
memory_run media = record {
  at = λ k c. IsAt k c;
  roll_of = λ k. k.roll;
  told = λ k. media.told k.media;
  lapses = λ k. lapses_of media k.media;
  asks = λ k. media.asks k.media;
  lasts = λ _. ⊤;
  gives = λ k came bytes. GivesBytes k came bytes;
  rolls = λ k c at. rolls_at k c at;
}

-- the run of a lock
abbrev pub run_of : {M : Type 0} → Locked (InMemory M) → MemoryRun M
run_of l = record { roll = l.roll; worlds = l.base.worlds; media = l.base.media }

-- the worlds stand for themselves
pub stands_for_itself : (w : Worlds) → StandsBare w (standing_bare w)
stands_for_itself w = record { before = refl; now = refl }

-- a daemon that hasn't come holds nothing
newcomers_first : (before ids : List ℕ) → HoldFirst before (map newcomer ids)
newcomers_first before [] = tt
newcomers_first before (id ∷ ids) = (λ holds. absurd (true≢false (sym holds)), newcomers_first (id ∷ before) ids)

-- before any event all is kept
pub kept_first : (ids : List ℕ) → length ids ≤ 256 → IsKept (first_roll ids)
kept_first ids few = record { few = omega (arith, few, length-map ids newcomer); first = newcomers_first [] ids; sound = refl }

-- an event that finds no memory is no leave
pub wants_no_leave : (event : Event) → takes_memory event ≡ true → is_leave event ≡ false
wants_no_leave (events.Say call) takes = refl
wants_no_leave events.End takes = refl
wants_no_leave events.Request takes = absurd (true≢false (sym takes))
wants_no_leave events.Begin takes = absurd (true≢false (sym takes))
wants_no_leave events.Cancel takes = absurd (true≢false (sym takes))
wants_no_leave events.Exit takes = absurd (true≢false (sym takes))
wants_no_leave (events.Look ticket) takes = absurd (true≢false (sym takes))
wants_no_leave (events.Leaves leave) takes = absurd (true≢false (sym takes))

-- an event was answered by a step of a machine
pub record Answered {M : Type 0} (media : MediaGhosts M) (old new : MemoryRun M) (daemon : ℕ) (event : Event) (a : Came) : Type 0 where
  pub responds : Responds (media.told old.media) (machine_of old) daemon event a (machine_of new)
  pub gap : HasLapseCause a.answer (lapses_of media old.media) (lapses_of media new.media)
  pub told : media.told new.media ≡ media.told old.media
  pub lapses : LapsesLast (lapses_of media old.media) (lapses_of media new.media)
  pub kept : IsKept new.roll
  pub daemons : length new.roll.daemons ≡ length old.roll.daemons
  pub drawn : new.roll.drawn ≤ old.roll.drawn + 1
  pub needs : media.asks new.media ≤ media.asks old.media + outside_asked (machine_of old) daemon event

-- What a lock answers on a world in memory.
pub answered_so : {M : Type 0} (media : MediaGhosts M) (keeps : Bool) (old new : Locked (InMemory M)) (daemon : ℕ) (event : Event) (a : Came)
    → IsKept old.roll → Acts (memory_ground media) keeps MachineStep daemon event a old new → Answered media (run_of old) (run_of new) daemon event a
answered_so {M} media keeps old new daemon event a kept acts = from (acts.leads.each v (λ _. stands_for_itself old.base.worlds))
  where
    v : GroundState
    v = standing_bare old.base.worlds

    m : Machine
    m = machine_of (run_of old)

    from : IsInSomeState (memory_ground media).stands new (MakesMachineStep (memory_ground media) MachineStep old new daemon event a (standing_bare old.base.worlds))
        → Answered media (run_of old) (run_of new) daemon event a
    from led =
        let step0 : MachineStep m (made_dry daemon 0 event a led.for.moves (machine_at new.roll led.for)) (machine_at new.roll led.for) = led.tells.step 0 in
        let is = step_is m _ (machine_at new.roll led.for) step0 in
        let holders = keeps_holders m _ (machine_at new.roll led.for) kept.sound step0 in
        let well : new.roll.failed ≡ None = is.sound (λ heap. heap) kept.sound in
        let stands = led.stood well in
        let same : machine_at new.roll led.for ≡ machine_on new.roll new.base.worlds = λ i. record { roll = new.roll; before = stands.before i; now = stands.now i } in
        record {
          responds = record {
            steps = λ line. record {
              moves = led.for.moves;
              step = subst (λ (n : Machine). MachineStep m (made_dry daemon line event a led.for.moves n) n) same (led.tells.step line);
            };
            media = subst (λ (n : Machine). AgreesWith (media.told old.base.media) m.now.world event a.answer (bytes_answered a n)) same led.tells.media;
          };
          gap = acts.asks.gap;
          told = acts.asks.kept.media;
          lapses = acts.asks.kept.lapses;
          kept = record {
            few = let many = holders.length in let few = kept.few in omega (arith, many, few);
            first = holders.first kept.first;
            sound = well;
          };
          daemons = holders.length;
          drawn = is.drawn;
          needs = acts.media.each (standing_bare old.base.worlds) (λ _. stands_for_itself old.base.worlds);
        }

-- What an event leaves of a run, whether it was answered or found no memory: media tell the same, no count of theirs has fallen, and there are as many
-- daemons.
pub record Stays {M : Type 0} (media : MediaGhosts M) (old new : MemoryRun M) : Type 0 where
  pub told : media.told new.media ≡ media.told old.media
  pub lapses : LapsesLast (lapses_of media old.media) (lapses_of media new.media)
  pub daemons : length new.roll.daemons ≡ length old.roll.daemons

-- what came of an event at a lock, where the run was this one
module _ {M : Type 0} (media : MediaGhosts M) (keeps : Bool) (old new : Locked (InMemory M)) (run : MemoryRun M) (view : run_of old ≡ run) (daemon : ℕ) (event : Event)
    (kept : IsKept old.roll) where
  answered_here : (a : Came) → Acts (memory_ground media) keeps MachineStep daemon event a old new → Answered media run (run_of new) daemon event a
  answered_here a acts = subst (λ (k : MemoryRun M). Answered media k (run_of new) daemon event a) view (answered_so media keeps old new daemon event a kept acts)

  pub responds_of : {E : Type 0} (r : Result Came E) → IfOk r (λ a. Acts (memory_ground media) keeps MachineStep daemon event a old new)
      → IfOk r (λ a. Responds (media.told run.media) (machine_of run) daemon event a (machine_of (run_of new)))
  responds_of (Ok a) acts = (answered_here a acts).responds
  responds_of (Err e) acts = tt

  pub gap_of : {E : Type 0} (r : Result Came E) → IfOk r (λ a. Acts (memory_ground media) keeps MachineStep daemon event a old new)
      → IfOk r (λ a. HasLapseCause a.answer (lapses_of media run.media) (lapses_of media new.base.media))
  gap_of (Ok a) acts = (answered_here a acts).gap
  gap_of (Err e) acts = tt

  pub needs_of : {E : Type 0} (r : Result Came E) → IfOk r (λ a. Acts (memory_ground media) keeps MachineStep daemon event a old new)
      → OnOk r (media.asks new.base.media ≤ media.asks run.media + outside_asked (machine_of run) daemon event)
  needs_of (Ok a) acts = (answered_here a acts).needs
  needs_of (Err e) acts = tt

  pub drawn_of : {E : Type 0} (r : Result Came E) → IfOk r (λ a. Acts (memory_ground media) keeps MachineStep daemon event a old new)
      → OnOk r (new.roll.drawn ≤ run.roll.drawn + 1)
  drawn_of (Ok a) acts = (answered_here a acts).drawn
  drawn_of (Err e) acts = tt

  pub err_of : {E : Type 0} (r : Result Came E) → OnErr r (new ≡ old) → OnErr r (run_of new ≡ run)
  err_of (Ok a) same = tt
  err_of (Err e) same = ap (λ (l : Locked (InMemory M)). run_of l) same ∙ view

  pub stays_of : {E : Type 0} (r : Result Came E) → IfOk r (λ a. Acts (memory_ground media) keeps MachineStep daemon event a old new) → OnErr r (new ≡ old)
      → Stays media run (run_of new)
  stays_of (Ok a) acts same =
      let answered = answered_here a acts in record { told = answered.told; lapses = answered.lapses; daemons = answered.daemons }
  stays_of (Err e) acts same =
      subst (λ (k : MemoryRun M). Stays media run k) (sym (ap (λ (l : Locked (InMemory M)). run_of l) same ∙ view))
      (record { told = refl; lapses = lapses_same (lapses_of media run.media); daemons = refl })

  -- what is kept of the roll
  pub kept_of : {E : Type 0} (r : Result Came E) → IfOk r (λ a. Acts (memory_ground media) keeps MachineStep daemon event a old new) → OnErr r (new ≡ old) → IsKept new.roll
  kept_of (Ok a) acts same = (answered_here a acts).kept
  kept_of (Err e) acts same = subst (λ (l : Locked (InMemory M)). IsKept l.roll) (sym same) kept

-- an event of a run, as one of a core that is at its machine
pub next_of : {M : Type 0} (media : MediaGhosts M) (daemon line : ℕ) (event : Event) (a : Came) (old new : MemoryRun M)
    → Responds (media.told old.media) (machine_of old) daemon event a (machine_of new) → HasLapseCause a.answer (lapses_of media old.media) (lapses_of media new.media)
    → media.told new.media ≡ media.told old.media → LapsesLast (lapses_of media old.media) (lapses_of media new.media) → new.roll.drawn ≤ old.roll.drawn + 1
    → media.asks new.media ≤ media.asks old.media + outside_asked (machine_of old) daemon event → MakesNext (memory_run media) daemon line event a old new
next_of media daemon line event a old new responds gap told lapses drawn needs = record {
  each = λ c at.
      let s = responds.steps line in
      let e : Made = made_dry daemon line event a s.moves (machine_of new) in
      record {
        made = e;
        next = core_after c e (machine_of new);
        here = refl;
        step = record {
          next = machine_of new;
          step = subst (λ (n : Machine). MachineStep n e (machine_of new)) (sym at) s.step;
          media = subst (λ (n : Machine). AgreesWith (media.told old.media) n.now.world event a.answer (bytes_answered a (machine_of new))) (sym at) responds.media;
          history = refl;
        };
        daemon_is = refl;
        line_is = refl;
        event_is = refl;
        answer_is = refl;
        bytes_are = λ bytes gives. gives;
        few = subst (λ (n : Machine). media.asks new.media ≤ media.asks old.media + outside_asked n daemon event) (sym at) needs;
      };
  told = told;
  lapses = lapses;
  gap = gap;
  drawn = drawn;
  lasts = tt;
}

-- so it is of what came of one
pub next_all : {M E : Type 0} (media : MediaGhosts M) (daemon line : ℕ) (event : Event) (old new : MemoryRun M) (r : Result Came E)
    → IfOk r (λ a. Responds (media.told old.media) (machine_of old) daemon event a (machine_of new))
    → IfOk r (λ a. HasLapseCause a.answer (lapses_of media old.media) (lapses_of media new.media))
    → media.told new.media ≡ media.told old.media → LapsesLast (lapses_of media old.media) (lapses_of media new.media)
    → OnOk r (new.roll.drawn ≤ old.roll.drawn + 1) → OnOk r (media.asks new.media ≤ media.asks old.media + outside_asked (machine_of old) daemon event)
    → IfOk r (λ a. MakesNext (memory_run media) daemon line event a old new)
next_all media daemon line event old new (Ok a) responds gap told lapses drawn needs = next_of media daemon line event a old new responds gap told lapses drawn needs
next_all media daemon line event old new (Err e) responds gap told lapses drawn needs = tt

-- a leave agrees with whatever media tell
agrees_leaving : (told : Option Told) (w : World) (leave : Leave) (a : Answer) (bytes : List ℕ) → AgreesWith told w (events.Leaves leave) a bytes
agrees_leaving None w leave a bytes = tt
agrees_leaving (Some media) w leave a bytes = tt

-- so leaves are those with any other media
module _ (told told' : Option Told) (leave : Leave) where
  leave_told : (daemon : ℕ) (c : Core) (e : Made) (c' : Core) → MakesLeave told leave daemon c e c' → MakesLeave told' leave daemon c e c'
  leave_told daemon c e c' l = record {
    daemon_is = l.daemon_is;
    event = l.event;
    line = l.line;
    step = record {
      next = l.step.next;
      step = l.step.step;
      media = subst (λ (ev : Event). AgreesWith told' c.machine.now.world ev e.said.answer e.said.bytes) (sym l.event)
          (agrees_leaving told' c.machine.now.world leave e.said.answer e.said.bytes);
      history = l.step.history;
    };
  }

  holders_told : (c : Core) (made : List Made) (c' : Core) → HoldersLeave told leave c made c' → HoldersLeave told' leave c made c'
  holders_told c [] c' h = h
  holders_told c (e ∷ made) c' h =
      from_option (served_daemon c.machine.roll) h (λ _ no. absurd no)
      (λ d some turn. on_some _ _ (served_daemon c.machine.roll) d some (record {
        next = turn.next;
        leaves = leave_told d.id c e turn.next turn.leaves;
        rest = holders_told turn.next made c' turn.rest;
      }))

  turn_told : (daemons : List ℕ) (c : Core) (made : List Made) (c' : Core) → LeaveInTurn told leave daemons c made c' → LeaveInTurn told' leave daemons c made c'
  turn_told [] c [] c' h = h
  turn_told (d ∷ ds) c (e ∷ made) c' h = record { next = h.next; leaves = leave_told d c e h.next h.leaves; rest = turn_told ds h.next made c' h.rest }
  turn_told [] c (e ∷ made) c' h = absurd h
  turn_told (d ∷ ds) c [] c' h = absurd h

  pub all_told : (c : Core) (made : List Made) (c' : Core) → AllLeave told leave c made c' → AllLeave told' leave c made c'
  all_told c made c' h = record {
    first = h.first;
    last = h.last;
    all = h.all;
    between = h.between;
    holders = holders_told c h.first h.between h.holders;
    others = turn_told (staying h.between.machine.roll) h.between h.last c' h.others;
  }

-- what the leaves of a run lead to, which is at each core at its machine
pub leaves_from : {M : Type 0} (r : RunGhosts (MemoryRun M)) (leave : Leave) (old new : MemoryRun M) → GoesUnasked r (AllLeave (r.told old) leave) old new
    → ((c : Core) → IsAt old c → r.at old c) → ((c : Core) → r.at new c → IsAt new c) → AllLeaveFrom leave (machine_of old) (machine_of new)
leaves_from r leave old new goes here there = record {
  each = λ told c at.
      let s = goes.each c (here c at) in
      record { made = s.made; core = s.core; tells = all_told (r.told old) told leave c s.made s.core s.tells; machine = there s.core s.here };
}
