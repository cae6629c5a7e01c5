-- How a lock's answer to an event is a step of the machine.
use Rattle.sdr_machine.specs.Transaction.{bytes_given}
use Rattle.std.proofs.Common.{◌≡◌, ◌∙◌, ◌≤◌, ◌<◌, ◌+◌, ◌==◌, ◌&&◌, not, ℕ, List, [], if◌then◌else◌, Bool, true, false, true≢false, Result, Ok, Err, IfOk, Option, None, Some, is_none, is_some, refl, sym, ap, subst, arith}
use Rattle.std.proofs.lemmas.Bool.Decides.{nat_tests}
use Rattle.std.specs.Option.{option_map_or}
use Rattle.sdr_model.specs.declared.answer.Answer.{Answer}
use Rattle.sdr_model.specs.declared.answer.Answer.TheVariants as answers
use Rattle.sdr_model.specs.declared.answer.Reply.TheVariants as replies
use Rattle.sdr_model.specs.declared.call.Call.{Call}
use Rattle.sdr_model.specs.declared.event.Event.{Event}
use Rattle.sdr_model.specs.declared.event.Event.TheVariants as events
use Rattle.sdr_base.specs.Media.{Told}
use Rattle.sdr_base.specs.declared.refusal.Refusal.TheVariants as refusals
use Rattle.sdr_machine.specs.Agreeing.{AgreesReading, AgreesWith}
use Rattle.sdr_machine.specs.Asked.{is_served, makes_calls, outside_asked, outside_needed}
use Rattle.sdr_machine.specs.Crash.{LeavesOr}
use Rattle.sdr_machine.specs.Lapses.{Lapses, HasLapseCause}
use Rattle.sdr_machine.specs.Machine.{Machine, Made, Goes, Faults, with_roll}
use Rattle.sdr_machine.specs.Roll.{Roll, served_number, with_drawn, with_fault}
use Rattle.sdr_machine.specs.Served.{HoldsServed}
use Rattle.sdr_machine.specs.Serving.{Acts, Asks, Brings, CallAsks, EventAsks, KeepsGround, Locked, MeetsFault, is_disk_fault, is_sight, machine_at, made_by}
use Rattle.sdr_machine.specs.Standing.{GroundState, standing_at}
use Rattle.sdr_machine.specs.declared.came.Came.{Came}
use Rattle.sdr_machine.specs.declared.daemon.Daemon.{Daemon}
use Rattle.sdr_machine.specs.declared.daemon.Holding.{Holding}
use Rattle.sdr_machine.specs.declared.has_ground.HasGround.{Ghosts}
use Rattle.sdr_machine.proofs.GroundLemmas.{keeps_more, keeps_same, leaves_or, leaves_same}
use Rattle.sdr_model.specs.World.{World}

-- the calls are made of a daemon whose number is served, in a transaction that isn't doomed
makes_here : (r : Roll) (d : Daemon) (h : Holding) → HoldsServed r d h → d.left ≡ false → 0 < h.nesting.depth → h.nesting.doom ≡ None → makes_calls r d.id ≡ true
makes_here r d h turn stays begun undoomed =
    ap (λ (o : Option Daemon). option_map_or (λ (d : Daemon). not d.left && option_map_or (λ (h : Holding). is_served r h) d.holds false) o false) turn.held.found
    ∙ (λ i. not (stays i) && option_map_or (λ (h : Holding). is_served r h) (turn.held.holds i) false)
    ∙ (λ i. not (inside (h.nesting.depth == 0) refl i) && (served (served_number r == h.number) refl i) && is_none (undoomed i))
  where
    inside : (b : Bool) → (h.nesting.depth == 0) ≡ b → b ≡ false
    inside true is = absurd (grind (arith, nat_tests))
    inside false is = refl

    served : (b : Bool) → (served_number r == h.number) ≡ b → b ≡ true
    served true is = refl
    served false is = let same : served_number r ≡ h.number = turn.served in absurd (grind (arith, nat_tests))

-- a number that was drawn and is done changes nothing that is asked
drawn_asks : (m : Machine) (daemon : ℕ) (event : Event) → outside_asked (record m { roll = with_drawn m.roll }) daemon event ≡ outside_asked m daemon event
drawn_asks m daemon (events.Say call) = refl
drawn_asks m daemon event = refl

-- an answer for which no call was made
abbrev pub told : Answer → Came
told answer = record { answer = answer; called = false }

-- what holds of the answer, where there is one
pub if_ok : {X E : Type 0} (r : Result X E) (P Q : X → Type 0) → ((x : X) → P x → Q x) → IfOk r P → IfOk r Q
if_ok (Ok x) P Q also p = also x p
if_ok (Err e) P Q also p = p

-- whether an answer tells of what media hold, or that they failed
abbrev pub tells_media : Answer → Bool
tells_media (answers.Reply (replies.Bytes count)) = true
tells_media (answers.Reply (replies.Refused (refusals.SourceShort have want))) = true
tells_media (answers.Reply replies.MediaFault) = true
tells_media answer = false

-- an answer that tells nothing of media agrees with them
pub agrees_untold : (media : Option Told) (w : World) (event : Event) (given : Answer) (bytes : List ℕ) → tells_media given ≡ false → AgreesWith media w event given bytes
agrees_untold None w event given bytes untold = tt
agrees_untold (Some media) w (events.Say call) given bytes untold = λ reads. agrees given untold
  where
    agrees : (a : Answer) → tells_media a ≡ false → AgreesReading media w call a bytes
    agrees (answers.Reply (replies.Bytes count)) untold = absurd (true≢false untold)
    agrees (answers.Reply (replies.Refused (refusals.SourceShort have want))) untold = absurd (true≢false untold)
    agrees a untold = tt
agrees_untold (Some media) w event given bytes untold = tt

-- and needs no cause of theirs
pub no_gap_cause : (a : Answer) (old new : Lapses) → tells_media a ≡ false → HasLapseCause a old new
no_gap_cause (answers.Reply replies.MediaFault) old new untold = absurd (true≢false untold)
no_gap_cause (answers.Reply (replies.Refused (refusals.SourceShort have want))) old new untold = absurd (true≢false untold)
no_gap_cause a old new untold = tt

-- an answer to a look is no disk fault, and tells nothing of media
pub sight_no_fault : (a : Answer) → is_sight a ≡ true → is_disk_fault (told a) ≡ false
sight_no_fault answers.Awarded is = refl
sight_no_fault answers.Waits is = refl
sight_no_fault answers.Stalled is = refl
sight_no_fault (answers.Reply (replies.Refused (refusals.BadTicket ticket))) is = refl
sight_no_fault a is = absurd (true≢false (sym is))

pub sight_untold : (a : Answer) → is_sight a ≡ true → tells_media a ≡ false
sight_untold answers.Awarded is = refl
sight_untold answers.Waits is = refl
sight_untold answers.Stalled is = refl
sight_untold (answers.Reply (replies.Refused (refusals.BadTicket ticket))) is = refl
sight_untold a is = absurd (true≢false (sym is))

module _ {T : Type 0} (g : Ghosts T) where
  -- the step of an event between two locks, where they stand for these
  abbrev pub step_of : (Machine → Made → Machine → Type 0) → ℕ → Event → Came → Locked T → Locked T → GroundState → GroundState → ℕ → Type 0
  step_of R daemon event a old new v v' line = R (machine_at old.roll v) (made_by daemon event a (g.moment old.base) (g.moment new.base) line v') (machine_at new.roll v')

  -- a step that is another one too
  pub acts_also : (keeps keeps' : Bool) (R S : Machine → Made → Machine → Type 0) (daemon : ℕ) (event : Event) (a : Came) (old new : Locked T)
      → keeps ≡ keeps'
      → ((v v' : GroundState) (line : ℕ) → step_of R daemon event a old new v v' line → step_of S daemon event a old new v v' line)
      → Acts g keeps R daemon event a old new → Acts g keeps' S daemon event a old new
  acts_also keeps keeps' R S daemon event a old new same also acts = record {
    leads = record {
      each = λ v stood. let s = acts.leads.each v stood in
          record { for = s.for; stood = s.stood; tells = record { sound = s.tells.sound; step = λ line. also v s.for line (s.tells.step line); media = s.tells.media } };
    };
    asks = subst (λ k. Asks g k a old new) same acts.asks;
    media = acts.media;
  }

  -- where nothing may be kept, the more where something may
  pub acts_or : (keeps : Bool) (R : Machine → Made → Machine → Type 0) (daemon : ℕ) (event : Event) (a : Came) (old new : Locked T)
      → Acts g false R daemon event a old new → Acts g keeps R daemon event a old new
  acts_or keeps R daemon event a old new acts = record {
    leads = acts.leads;
    asks = record {
      kept = acts.asks.kept;
      cause = acts.asks.cause;
      gap = acts.asks.gap;
      any_moment = leaves_or g keeps acts.asks.any_moment;
      failed = acts.asks.failed;
    };
    media = acts.media;
  }

  -- media were not asked
  pub media_same : (daemon : ℕ) (event : Event) (old new : Locked T) → g.asks new.base ≡ g.asks old.base → EventAsks g daemon event old new
  media_same daemon event old new same = record { each = λ v stood. omega (arith, same) }

  -- what a call asked of them that was made under a number
  pub media_called : (d : Daemon) (h : Holding) (call : Call) (old self new : Locked T) → old ≡ self → HoldsServed self.roll d h → d.left ≡ false → 0 < h.nesting.depth
      → h.nesting.doom ≡ None → self.roll.failed ≡ None → CallAsks g call old.base new.base → EventAsks g d.id (events.Say call) old new
  media_called d h call old self new view turn stays begun undoomed sound asks = record {
    each = λ v stood.
        let mine = subst (λ (l : Locked T). HoldsServed l.roll d h) (sym view) turn in
        let one = asks.each v (stood (ap (λ (l : Locked T). l.roll.failed) view ∙ sound)) in
        subst (λ b. g.asks new.base ≤ g.asks old.base + (if b then outside_needed v.now.world call else 0)) (sym (makes_here old.roll d h mine stays begun undoomed)) one;
  }

  -- nothing was asked of the ground
  asks_same : (keeps : Bool) (a : Came) (old new : Locked T) → new.base ≡ old.base → is_disk_fault a ≡ false → tells_media a.answer ≡ false → Asks g keeps a old new
  asks_same keeps a old new base no_fault untold = record {
    kept = subst (λ t. KeepsGround g true old.base t) (sym base) (keeps_more g (keeps_same g old.base));
    cause = λ fault. absurd (true≢false (sym fault ∙ no_fault));
    gap = no_gap_cause a.answer _ _ untold;
    any_moment = subst (λ t. LeavesOr keeps g old.base t) (sym base) (leaves_or g keeps (leaves_same g old.base));
    failed = λ _. base;
  }

  -- an event for which the ground isn't asked, and which changes the roll alone
  pub acts_told : (keeps : Bool) (R : Machine → Made → Machine → Type 0) (daemon : ℕ) (event : Event) (answer : Answer) (a : Came) (old self new : Locked T) (r : Roll)
      → old ≡ self → a ≡ told answer → is_disk_fault (told answer) ≡ false → tells_media answer ≡ false
      → new.base ≡ old.base → new.roll ≡ r → (r.failed ≡ None → old.roll.failed ≡ None)
      → ((v : GroundState) (line : ℕ) → let e = made_by daemon event (told answer) (g.moment old.base) (g.moment new.base) line v in
      Goes e (machine_at new.roll v) answer (with_roll (machine_at old.roll v) r) → R (machine_at old.roll v) e (machine_at new.roll v))
      → Acts g keeps R daemon event a self new
  acts_told keeps R daemon event answer a old self new r view is no_fault untold base roll failed step =
      subst (λ o. Acts g keeps R daemon event a o new) view (subst (λ x. Acts g keeps R daemon event x old new) (sym is) (record {
        leads = record {
          each = λ v stood. record {
            for = v;
            stood = λ none. subst (λ t. g.stands t v) (sym base) (stood (failed (sym (ap (λ (x : Roll). x.failed) roll) ∙ none)));
            tells = record {
              sound = λ called. absurd (true≢false (sym called));
              step = λ line. step v line (record {
                told = record { answer = refl; moves = refl; bytes = refl };
                after = ap (λ x. machine_at x v) roll;
              });
              media = agrees_untold (g.told old.base) v.now.world event answer [] untold;
            };
          };
        };
        asks = asks_same keeps (told answer) old new base no_fault untold;
        media = media_same daemon event old new (ap g.asks base);
      }))

  -- an event that changes nothing
  pub acts_same : (keeps : Bool) (R : Machine → Made → Machine → Type 0) (daemon : ℕ) (event : Event) (answer : Answer) (a : Came) (self : Locked T)
      → a ≡ told answer → is_disk_fault (told answer) ≡ false → tells_media answer ≡ false
      → ((v : GroundState) (line : ℕ) → let e = made_by daemon event (told answer) (g.moment self.base) (g.moment self.base) line v in
      Goes e (machine_at self.roll v) answer (machine_at self.roll v) → R (machine_at self.roll v) e (machine_at self.roll v))
      → Acts g keeps R daemon event a self self
  acts_same keeps R daemon event answer a self is no_fault untold step =
      acts_told keeps R daemon event answer a self self self self.roll refl is no_fault untold refl refl (λ none. none) step

  -- an event for which the ground is asked, and answers well
  pub acts_asked : (keeps : Bool) (R : Machine → Made → Machine → Type 0) (P : GroundState → GroundState → Type 0) (daemon : ℕ) (event : Event) (b a : Came) (old self new : Locked T)
      → old ≡ self → a ≡ b → is_disk_fault b ≡ false → (b.called ≡ true → new.roll.failed ≡ None) → self.roll.failed ≡ None
      → Brings g.stands old.base new.base P → KeepsGround g true old.base new.base → LeavesOr keeps g old.base new.base
      → HasLapseCause b.answer (g.lapses old.base) (g.lapses new.base) → EventAsks g daemon event old new
      → ((v v' : GroundState) → P v v' → AgreesWith (g.told old.base) v.now.world event b.answer (if b.called then bytes_given b.answer v'.now.world.shown else []))
      → ((v v' : GroundState) (line : ℕ) → P v v' → step_of R daemon event b old new v v' line)
      → Acts g keeps R daemon event a self new
  acts_asked keeps R P daemon event b a old self new view is no_fault still sound brings kept leaves gap asked media step =
      let none : old.roll.failed ≡ None = ap (λ (l : Locked T). l.roll.failed) view ∙ sound in
      subst (λ o. Acts g keeps R daemon event a o new) view (subst (λ x. Acts g keeps R daemon event x old new) (sym is) (record {
        leads = record {
          each = λ v stood. let s = brings.each v (stood none) in
              record {
                for = s.for;
                stood = λ _. s.holds;
                tells = record { sound = still; step = λ line. step v s.for line s.tells; media = media v s.for s.tells };
              };
        };
        asks = record {
          kept = kept;
          cause = λ fault. absurd (true≢false (sym fault ∙ no_fault));
          gap = gap;
          any_moment = leaves;
          failed = λ some. absurd (true≢false (sym some ∙ ap is_some none));
        };
        media = asked;
      }))

  -- an event for which the ground is asked, and fails
  pub acts_failed : (keeps : Bool) (R : Machine → Made → Machine → Type 0) (daemon : ℕ) (event : Event) (a : Came) (old self new : Locked T) (r : Roll)
      → old ≡ self → a ≡ told (answers.Reply replies.DiskFault) → self.roll.failed ≡ None
      → MeetsFault g old.base new.base → KeepsGround g true old.base new.base → LeavesOr keeps g old.base new.base
      → EventAsks g daemon event old new → new.roll ≡ with_fault r (g.moment new.base)
      → ((v : GroundState) (line : ℕ) → let e = made_by daemon event (told (answers.Reply replies.DiskFault)) (g.moment old.base) (g.moment new.base) line v in
      Faults (machine_at old.roll v) e r (machine_at new.roll (standing_at v.before [])) → R (machine_at old.roll v) e (machine_at new.roll (standing_at v.before [])))
      → Acts g keeps R daemon event a self new
  acts_failed keeps R daemon event a old self new r view is sound fails kept leaves asked roll step =
      let none : old.roll.failed ≡ None = ap (λ (l : Locked T). l.roll.failed) view ∙ sound in
      subst (λ o. Acts g keeps R daemon event a o new) view (subst (λ x. Acts g keeps R daemon event x old new) (sym is) (record {
        leads = record {
          each = λ v stood. record {
            for = standing_at v.before [];
            stood = λ no. absurd (some_is_none (g.moment new.base) (sym (ap (λ (x : Roll). x.failed) roll) ∙ no));
            tells = record {
              sound = λ called. absurd (true≢false (sym called));
              step = λ line. step v line (record {
                heap = fails.heap v (stood none);
                told = record { answer = refl; moves = refl; bytes = refl };
                after = ap (λ x. machine_at x (standing_at v.before [])) roll;
              });
              media = agrees_untold (g.told old.base) v.now.world event (answers.Reply replies.DiskFault) [] refl;
            };
          };
        };
        asks = record {
          kept = kept;
          cause = λ _. fails.cause;
          gap = tt;
          any_moment = leaves;
          failed = λ some. absurd (true≢false (sym some ∙ ap is_some none));
        };
        media = asked;
      }))
    where
      some_is_none : (n : ℕ) → Some n ≡ None → ⊥
      some_is_none n e = cc

  -- an event behind a number that was drawn and is done
  pub acts_drawn : (keeps : Bool) (R S : Machine → Made → Machine → Type 0) (daemon : ℕ) (event : Event) (a : Came) (old new : Locked T)
      → ((v v' : GroundState) (line : ℕ) → step_of R daemon event a (record old { roll = with_drawn old.roll }) new v v' line → step_of S daemon event a old new v v' line)
      → Acts g keeps R daemon event a (record old { roll = with_drawn old.roll }) new → Acts g keeps S daemon event a old new
  acts_drawn keeps R S daemon event a old new also acts = record {
    leads = record {
      each = λ v stood. let s = acts.leads.each v stood in
          record { for = s.for; stood = s.stood; tells = record { sound = s.tells.sound; step = λ line. also v s.for line (s.tells.step line); media = s.tells.media } };
    };
    asks = record { kept = acts.asks.kept; cause = acts.asks.cause; gap = acts.asks.gap; any_moment = acts.asks.any_moment; failed = acts.asks.failed };
    media = record {
      each = λ v stood.
          subst (λ n. g.asks new.base ≤ g.asks old.base + n) (drawn_asks (machine_at old.roll v) daemon event) (acts.media.each v stood);
    };
  }
