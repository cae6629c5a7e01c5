-- A world in memory as a ground.
use Rattle.std.proofs.Common.{◌≡◌, ◌∙◌, ◌≤◌, ◌+◌, ◌*◌, ◌^◌, [], ℕ, List, Bool, true, false, true≢false, Option, None, refl, sym, ap, subst, inl, inr, arith}
use Rattle.std.proofs.lemmas.Option.{none-some}
use Rattle.std.proofs.lemmas.List.{nil_from_length}
use Rattle.std.specs.Prelude.{⊤}
use Rattle.std.specs.FinMap.{entries, get-empty, len-empty, len-entries}
use Rattle.std.specs.List.{sum_by}
use Rattle.std.specs.Ordering.{nat_cmp}
use Rattle.sdr_base.specs.Media.{Told}
use Rattle.sdr_base.specs.declared.account.Acct.{Acct}
use Rattle.sdr_base.specs.declared.account.Acct.TheVariants as accts
use Rattle.sdr_base.specs.declared.media.Media.{Ghosts as MediaGhosts}
use Rattle.mem_store.specs.Draft.{Draft}
use Rattle.mem_world.specs.Calling.{IsBound, MayCall}
use Rattle.law_steps.proofs.DryLaws.{valid_kept_dry, whole_from}
use Rattle.law_steps.proofs.MachineLaws.{dry_worlds_are_valid}
use Rattle.sdr_model.proofs.BlocksTaken.{few_blocks}
use Rattle.sdr_model.proofs.FewLemmas.{few_more}
use Rattle.sdr_model.proofs.FewSteps.{few_row}
use Rattle.sdr_model.specs.Accounts.{tickets_of}
use Rattle.sdr_model.specs.Charges.{left_in, thing_charge}
use Rattle.sdr_model.specs.Dry.{StepsDry, dry_moves}
use Rattle.sdr_model.specs.Few.{most_pieces}
use Rattle.sdr_model.specs.World.{World, at_rest, empty_world}
use Rattle.sdr_model.specs.declared.answer.Answer.TheVariants as answers
use Rattle.sdr_model.specs.declared.answer.Reply.{Reply}
use Rattle.sdr_model.specs.declared.call.Call.{Call}
use Rattle.sdr_model.specs.declared.event.Event.TheVariants as events
use Rattle.sdr_model.specs.declared.things.Thing.{Thing}
use Rattle.sdr_machine.specs.Agreeing.{AgreesWith}
use Rattle.sdr_machine.specs.Asked.{outside_needed}
use Rattle.sdr_machine.specs.Core.{first_core}
use Rattle.sdr_machine.specs.Ground.{bare, State, Steps, committed, rolled_back}
use Rattle.sdr_machine.specs.Standing.{GroundState}
use Rattle.sdr_machine.specs.Serving.{Brings, CallAsks, Calls, Commits, KeepsGround, RollsBack, Shows, shown_in}
use Rattle.sdr_machine.specs.Transaction.{bytes_given}
use Rattle.sdr_machine.specs.declared.has_ground.HasGround.{Ghosts}
use Rattle.sdr_machine.proofs.GroundLemmas.{lapses_same}
use Rattle.mem_machine.proofs.BoundLaws.{bound_kept_dry}
use Rattle.mem_machine.specs.Answering.{Answers, lapses_of}
use Rattle.mem_machine.specs.Memory.{InMemory, IsAfter, IsReached, StandsBare, Worlds, worlds_back, worlds_kept}

-- the worlds with their media as a ground
abbrev pub memory_ground : {M : Type 0} → MediaGhosts M → Ghosts (InMemory M)
memory_ground media = record {
  stands = λ m v. StandsBare m.worlds v;
  moment = λ _. 0;
  faults = λ _. 0;
  lapses = λ m. lapses_of media m.media;
  asks = λ m. media.asks m.media;
  told = λ m. media.told m.media;
  lasts = λ _ _. ⊤;
  sound = λ _. ⊤;
  going = λ _. ⊤;
  idle = λ _. ⊤;
  left = λ _ _ _. ⊥;
  opens = λ _ _. ⊥;
  crash_now = λ t v image at left. absurd left;
  lasts_less = λ t n lasts. lasts;
  idle_going = λ t idle. tt;
  going_sound = λ t going. tt;
}

-- a world in the making as a ground, with its media
abbrev pub drafted : {M : Type 0} → Draft → M → InMemory M
drafted d files = record { worlds = record { begun = d.begun; now = d.now }; media = files }

-- where a call left the world now and media, it left the ground
pub drafted_same : {M : Type 0} (old new : Draft) (files files' : M) → new.begun ≡ old.begun → (new.now ≡ old.now) × (files' ≡ files) → drafted new files' ≡ drafted old files
drafted_same old new files files' begun left = λ i. record { worlds = record { begun = begun i; now = left.0 i }; media = left.1 i }

-- so many calls lead to a world of the same things too, where as many blocks or more were taken for it
after_same : (calls more : ℕ) (w : World) (marks shown : List ℕ) (taken : ℕ) → calls ≤ more → w.taken ≤ taken → taken ≤ 2 ^ 24 * more → IsAfter calls w
    → IsAfter more (record w { marks = marks; shown = shown; taken = taken })
after_same calls more w marks shown taken le later few after = record {
  taken = few;
  few = few_more calls more w.things le after.few;
  valid = record {
    whole = whole_from w _ refl refl refl after.valid.whole;
    given = λ k d within. omega (arith, after.valid.given k d within, later);
  };
  bound = after.bound;
}

-- a world to which calls led is one to which more did
after_more : (calls : ℕ) (w : World) → IsAfter calls w → IsAfter (calls + 1) w
after_more calls w after = record {
  taken = omega (arith, after.taken);
  few = few_more calls (calls + 1) w.things (omega arith) after.few;
  valid = after.valid;
  bound = after.bound;
}

-- what was kept was reached by as many calls
pub reached_kept : (calls : ℕ) (old : Worlds) → IsReached calls old → IsReached calls (worlds_kept old)
reached_kept calls old reached =
    let left = after_same calls calls old.now [] [] old.now.taken (omega arith) (omega arith) reached.now.taken reached.now in
    record { back = left; now = left; within = reached.within }

-- and so was what was put back
pub reached_back : (calls : ℕ) (old : Worlds) → IsReached calls old → IsReached calls (worlds_back old)
reached_back calls old reached = record { back = reached.back; now = reached.back; within = reached.within }

-- one call takes few blocks, adds one piece at most to an object, and leaves the world whole and bound
reached_dry : (calls : ℕ) (old new : Worlds) (call : Call) (reply : Reply) → StepsDry old.now call (dry_moves old.now call reply) new.now reply
    → new.begun ≡ old.begun → calls + 1 ≤ most_pieces → IsReached calls old → IsReached (calls + 1) new
reached_dry calls old new call reply s begun within reached =
    let w = old.now in
    let w' = new.now in
    let moves = dry_moves w call reply in
    let few : w'.taken ≤ 2 ^ 24 * (calls + 1) = omega (arith, s.counted, few_blocks calls w call reply reached.now.few, reached.now.taken, within) in
    record {
      back = subst (λ (v : World). IsAfter (calls + 1) (record v { taken = w'.taken })) (sym begun)
          (after_same calls (calls + 1) (worlds_back old).now old.begun.marks old.begun.shown w'.taken (omega arith) (omega (arith, s.counted)) few reached.back);
      now = record {
        taken = few;
        few = few_row calls w (record { moves = moves; after = record w' { taken = w.taken }; reply = reply }) reached.now.few call s.step;
        valid = valid_kept_dry w w' call moves reply reached.now.valid s;
        bound = bound_kept_dry w w' call moves reply reached.now.valid s reached.now.bound;
      };
      within = within;
    }

-- where media stop it, it leaves the world
reached_stopped : (calls : ℕ) (old new : Worlds) → new.now ≡ old.now → new.begun ≡ old.begun → calls + 1 ≤ most_pieces → IsReached calls old → IsReached (calls + 1) new
reached_stopped calls old new now begun within reached =
    subst (λ (w : Worlds). IsReached (calls + 1) w) (λ i. record { begun = sym begun i; now = sym now i })
    (record { back = after_more calls (worlds_back old).now reached.back; now = after_more calls old.now reached.now; within = within })

pub reached_called : (calls : ℕ) (told : Option Told) (old new : Worlds) (call : Call) (reply : Reply) → Answers told call old.now new.now reply
    → new.begun ≡ old.begun → calls + 1 ≤ most_pieces → IsReached calls old → IsReached (calls + 1) new
reached_called calls told old new call reply answers begun within reached = elim answers.step [
  | inl dry ↦ reached_dry calls old new call reply dry begun within reached
  | inr stops ↦ reached_stopped calls old new stops.stopped.same begun within reached
]

-- a call can be made on worlds that were reached
pub reached_may : (calls : ℕ) (w : Worlds) → IsReached calls w → MayCall w.now
reached_may calls w reached = record {
  whole = reached.now.valid.whole;
  bound = reached.now.bound;
  few = few_more calls most_pieces w.now.things reached.within reached.now.few;
  taken = omega (arith, reached.now.taken, reached.within);
}

-- in a world without things nothing is occupied
empty_bound : IsBound empty_world
empty_bound acct space = omega (arith, none_charged, none_left acct)
  where
    none_charged : sum_by (λ (e : ℕ × Thing). thing_charge empty_world acct space e.0 e.1) (entries empty_world.things) ≡ 0
    none_charged =
        ap (sum_by (λ (e : ℕ × Thing). thing_charge empty_world acct space e.0 e.1))
        (nil_from_length (entries empty_world.things) (sym (len-entries empty_world.things) ∙ len-empty nat_cmp Thing))

    none_left : (acct : Acct) → left_in space (tickets_of empty_world.accounts acct) ≡ 0
    none_left accts.Inbound = refl
    none_left accts.Outbound = refl

-- no call led to empty worlds
pub reached_empty : IsReached 0 (record { begun = empty_world; now = empty_world })
reached_empty = record { back = empty; now = empty; within = omega arith }
  where
    empty : IsAfter 0 empty_world
    empty = record {
      taken = omega arith;
      few = record { each = λ addr z is. absurd (none-some _ (sym (get-empty nat_cmp addr) ∙ is)) };
      valid = (dry_worlds_are_valid None [] [] (first_core [] (bare empty_world)) refl).0;
      bound = empty_bound;
    }

-- the states before and now are one that was left
brings_left : {P : GroundState → GroundState → Type 0} (old new : Worlds) (left : World) (next : GroundState → State) → new ≡ record { begun = left; now = left }
    → ((v : GroundState) → StandsBare old v → next v ≡ bare left) → ((v : GroundState) → P v (record { before = next v; now = next v; moves = v.moves }))
    → Brings StandsBare old new P
brings_left old new left next is here tells = record {
  each = λ v stands. record {
    for = record { before = next v; now = next v; moves = v.moves };
    holds = record { before = here v stands ∙ sym (ap (λ (w : Worlds). bare w.begun) is); now = here v stands ∙ sym (ap (λ (w : Worlds). bare w.now) is) };
    tells = tells v;
  };
}

pub brings_kept : (old new : Worlds) → new ≡ worlds_kept old → Brings StandsBare old new Commits
brings_kept old new is = brings_left old new (at_rest old.now) (λ v. committed v.now) is (λ v stands. ap committed stands.now) (λ v. (refl, refl))

pub brings_put_back : (old new : Worlds) → new ≡ worlds_back old → Brings StandsBare old new RollsBack
brings_put_back old new is =
    brings_left old new (worlds_back old).now (λ v. rolled_back v.before v.now) is (λ v stands. λ i. rolled_back (stands.before i) (stands.now i)) (λ v. (refl, refl))

pub brings_look : (ticket : ℕ) (granted : Option Bool) (old : Worlds) → granted ≡ shown_in old.begun ticket
    → Brings StandsBare old old (Shows ticket granted)
brings_look ticket granted old is = record {
  each = λ v stands. record {
    for = v;
    holds = stands;
    tells = record {
      shown = is ∙ sym (ap (λ (s : State). shown_in s.world ticket) stands.before);
      still = record { before = refl; now = refl };
    };
  };
}

-- what the worlds bring, they bring with their media
module _ {M : Type 0} (media : MediaGhosts M) (old new : InMemory M) where
  pub brings_both : {P : GroundState → GroundState → Type 0} → Brings StandsBare old.worlds new.worlds P
      → Brings (λ (m : InMemory M) (v : GroundState). StandsBare m.worlds v) old new P
  brings_both brings = record { each = λ v at. let s = brings.each v at in record { for = s.for; holds = s.holds; tells = s.tells } }

  -- a call that was answered so
  pub brings_call : (call : Call) (reply : Reply) → Answers (media.told old.media) call old.worlds.now new.worlds.now reply → new.worlds.begun ≡ old.worlds.begun
      → Brings (λ (m : InMemory M) (v : GroundState). StandsBare m.worlds v) old new (Calls (media.told old.media) call reply)
  brings_call call reply came begun = record {
    each = λ v stands.
        let moves = dry_moves old.worlds.now call reply in
        record {
          for = record { before = v.before; now = bare new.worlds.now; moves = moves };
          holds = record { before = stands.before ∙ sym (ap bare begun); now = refl };
          tells = record {
            steps = subst (λ (s : State). Steps s call (record { reply = reply; moves = moves; after = bare new.worlds.now })) (sym stands.now)
                (record { step = came.step; media = came.misses; base = refl; demand = refl });
            media = subst (λ (s : State). AgreesWith (media.told old.media) s.world (events.Say call) (answers.Reply reply) (bytes_given (answers.Reply reply) new.worlds.now.shown)) (sym stands.now)
                came.agrees;
            before = refl;
          };
        };
  }

  -- how often media were asked in it
  pub asks_call : (call : Call) → media.asks new.media ≤ media.asks old.media + outside_needed old.worlds.now call
      → CallAsks (memory_ground media) call old new
  asks_call call needs = record {
    each = λ v stands.
        subst (λ (s : State). media.asks new.media ≤ media.asks old.media + outside_needed s.world call) (sym stands.now) needs;
  }

  -- where nothing was done, they weren't
  pub asks_none : (call : Call) → new ≡ old → CallAsks (memory_ground media) call old new
  asks_none call same = subst (λ (m : InMemory M). CallAsks (memory_ground media) call old m) (sym same) (record { each = λ v stands. omega arith })

  -- what is kept where media were asked
  pub keeps_called : media.told new.media ≡ media.told old.media → media.faults old.media ≤ media.faults new.media → media.short old.media ≤ media.short new.media
      → KeepsGround (memory_ground media) true old new
  keeps_called told faults short = record {
    later = omega arith;
    lapses = record { faults = faults; short = short };
    media = told;
    unasked = λ is. absurd (true≢false is);
    lasts = λ n lasts. tt;
  }

  -- and where they weren't
  pub keeps_unasked : {spent : Bool} → new.media ≡ old.media → KeepsGround (memory_ground media) spent old new
  keeps_unasked {spent} same =
      subst (λ (files : M). KeepsGround (memory_ground media) spent old (record { worlds = new.worlds; media = files })) (sym same)
      (record { later = omega arith; lapses = lapses_same (lapses_of media old.media); media = refl; unasked = λ is. refl; lasts = λ n lasts. tt })
