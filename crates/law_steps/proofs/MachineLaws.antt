-- Why every world that a machine without a heap reaches is valid.
use Rattle.std.proofs.Common.{lit≤, ◌≡◌, ℕ, ◌*◌, ◌≤◌, ◌⊎◌, inl, inr, List, [], ◌∷◌, Option, refl, sym, ap, ◌∙◌, subst, arith, map, ◌++◌}
use Rattle.std.specs.Prelude.{All}
use Rattle.sdr_base.specs.Media.{Told}
use Rattle.sdr_base.specs.declared.moves.Move.{Move}
use Rattle.law_steps.proofs.DryLaws.{valid_kept_dry, whole_from}
use Rattle.law_steps.proofs.FreshWorlds.{fresh_barred, fresh_fits, fresh_queues}
use Rattle.law_steps.proofs.Examples.{empty_is_valid, empty_addresses}
use Rattle.law_steps.specs.ValidDry.{IsValidDry}
use Rattle.sdr_machine.proofs.StepLemmas.{IsCalled, Kind, step_is}
use Rattle.sdr_machine.specs.Core.{Core, RunsCore, first_core}
use Rattle.sdr_machine.specs.Ground.{Ground, HasHeap, State, StepsBare, StepsOn, bare}
use Rattle.sdr_machine.specs.Machine.{Machine, Made}
use Rattle.sdr_machine.specs.Transaction.{OpenTransaction, state_left}
use Rattle.sdr_model.specs.Accounts.{ticket_blocks}
use Rattle.sdr_model.specs.Blocks.{addresses_of, blocks_of, things_blocks}
use Rattle.sdr_model.specs.Dry.{StepsDry, StopsReading}
use Rattle.sdr_model.specs.Things.{block_for_name}
use Rattle.sdr_model.specs.World.{World, empty_world}
use Rattle.sdr_model.specs.declared.answer.Close.{Close}
use Rattle.sdr_model.specs.declared.answer.Close.TheVariants as closes
use Rattle.sdr_model.specs.declared.answer.Reply.{Reply}
use Rattle.sdr_model.specs.declared.call.Call.{Call}

-- the second world is a valid one, and no less blocks were taken for it than for the first
record Follows (w w' : World) : Type 0 where
  valid : IsValidDry w'
  order : w.taken ≤ w'.taken

-- a world with the things, names and accounts of one that follows does too, where no less blocks were taken for it
again : (w v v' : World) → v'.things ≡ v.things → v'.names ≡ v.names → v'.accounts ≡ v.accounts → v.taken ≤ v'.taken
    → Follows w v → Follows w v'
again w v v' things names accounts more f = record {
  valid = record {
    whole = whole_from v v' things names accounts f.valid.whole;
    given =
        λ k d within. omega (arith, given k d within, more);
  };
  order = omega (arith, f.order, more);
}
  where
    blocks : blocks_of v' ≡ blocks_of v
    blocks i = things_blocks (things i) ++ map block_for_name (names i) ++ ticket_blocks (accounts i)

    given : All (λ addr. addr ≤ 8 * v.taken) (addresses_of (blocks_of v'))
    given = subst (λ bs. All (λ addr. addr ≤ 8 * v.taken) (addresses_of bs)) (sym blocks) f.valid.given

-- one call of a transaction: a step, or a stop that leaves the world
reply_follows : (w w' : World) (call : Call) (moves : List Move) (reply : Reply) → IsValidDry w
    → StepsDry w call moves w' reply ⊎ StopsReading w call moves w' reply → Follows w w'
reply_follows w w' call moves reply valid (inl s) = record {
  valid = valid_kept_dry w w' call moves reply valid s;
  order = omega (arith, s.counted);
}
reply_follows w w' call moves reply valid (inr s) =
    subst (Follows w) (sym s.stopped.same) (record { valid = valid; order = omega arith })

-- a machine with no heap, whose worlds between transactions and in the served one are valid
record IsSound (m : Machine) : Type 0 where
  before_bare : m.before.base ≡ Ground.NoHeap
  now_bare : m.now.base ≡ Ground.NoHeap
  world : IsValidDry m.before.world
  current : Follows m.before.world m.now.world

-- a machine in these states
sound_in : (m : Machine) (before now : State) → m.before ≡ before → m.now ≡ now → before.base ≡ Ground.NoHeap → now.base ≡ Ground.NoHeap
    → IsValidDry before.world → Follows before.world now.world → IsSound m
sound_in m before now before_is now_is before_bare now_bare world current = record {
  before_bare = ap (λ (s : State). s.base) before_is ∙ before_bare;
  now_bare = ap (λ (s : State). s.base) now_is ∙ now_bare;
  world = subst (λ (s : State). IsValidDry s.world) (sym before_is) world;
  current = subst (λ (s : State). Follows s.world m.now.world) (sym before_is)
      (subst (λ (s : State). Follows before.world s.world) (sym now_is) current);
}

-- what a closed transaction leaves
sound_closed : (m : Machine) (close : Close) → IsSound m
    → (let left = state_left close m.before m.now in (left.base ≡ Ground.NoHeap) × Follows m.before.world left.world)
sound_closed m closes.Ended sound =
    (sound.now_bare, again m.before.world m.now.world _ refl refl refl (omega arith) sound.current)
sound_closed m close sound =
    (sound.before_bare, again m.before.world m.before.world _ refl refl refl sound.current.order (record { valid = sound.world; order = omega arith }))

-- one call of the served transaction
called_sound : (m m' : Machine) (e : Made) → IsSound m → IsCalled m e m' → IsSound m'
called_sound m m' e sound c =
    let done = c.replies.done in
    let bare_steps : StepsBare m.now c.call done = subst (λ (g : Ground). StepsOn g m.now c.call done) sound.now_bare c.replies.steps in
    let f = reply_follows m.now.world done.after.world c.call done.moves done.reply sound.current.valid bare_steps.step in
    sound_in m' m.before done.after c.before (c.now ∙ ap (λ (t : OpenTransaction). t.state) c.replies.after) sound.before_bare bare_steps.base
    sound.world (record { valid = f.valid; order = omega (arith, f.order, sound.current.order) })

kind_sound : (m m' : Machine) (e : Made) → IsSound m → Kind m e m' → IsSound m'
kind_sound m m' e sound (Kind.stays quiet before now) =
    sound_in m' m.before m.now before now sound.before_bare sound.now_bare sound.world sound.current
kind_sound m m' e sound (Kind.called c) = called_sound m m' e sound c
kind_sound m m' e sound (Kind.closed close quiet before now) =
    let left = sound_closed m close sound in
    sound_in m' (state_left close m.before m.now) (state_left close m.before m.now) before now left.0 left.0
    left.1.valid
    (record { valid = left.1.valid; order = omega arith })
kind_sound m m' e sound (Kind.failed quiet heap before now) = absurd (subst HasHeap sound.before_bare heap)

run_sound : (told : Option Told) (c c' : Core) (made : List Made) → IsSound c.machine → RunsCore told c made c' → IsSound c'.machine
run_sound told c c' [] sound is = subst (λ (c : Core). IsSound c.machine) (sym is) sound
run_sound told c c' (e ∷ made) sound (mid, step, rest) =
    run_sound told mid c' made
    (subst (λ (c : Core). IsSound c.machine) (sym step.history) (kind_sound c.machine step.next e sound (step_is c.machine e step.next step.step).kind)) rest

-- the machine begins with the empty world
empty_dry : IsValidDry empty_world
empty_dry = record {
  whole = record {
    valid = empty_is_valid;
    fits = fresh_fits 32768;
    queues = fresh_queues 32768 (lit≤ tt);
    barred = fresh_barred 32768;
  };
  given =
      subst (All (λ addr. addr ≤ 0)) (sym empty_addresses) (λ k d within. absurd (omega (arith, within)));
}

-- Every world that a machine without a heap reaches is valid.
pub dry_worlds_are_valid : (told : Option Told) (daemons : List ℕ) (made : List Made) (c : Core)
    → RunsCore told (first_core daemons (bare empty_world)) made c
    → IsValidDry c.machine.before.world × IsValidDry c.machine.now.world
dry_worlds_are_valid told daemons made c run =
    let sound = run_sound told (first_core daemons (bare empty_world)) c made
    (record { before_bare = refl; now_bare = refl; world = empty_dry; current = record { valid = empty_dry; order = omega arith } }) run in
    (sound.world, sound.current.valid)
