-- On a heap too a call comes to one outcome, chance aside.
use Rattle.std.proofs.Common.{◌≡◌, ◌∙◌, ◌||◌, ℕ, zero, suc, List, [], ◌∷◌, Bool, true, false, Option, None, Some, refl, sym, ap, subst, inl, inr}
use Rattle.std.specs.Prelude.{slice_index}
use Rattle.sdr_base.specs.Media.{Told}
use Rattle.sdr_base.specs.Moves.{MovesPools}
use Rattle.sdr_base.specs.Pools.{Pools}
use Rattle.sdr_base.specs.SmallPool.{Taken}
use Rattle.sdr_base.specs.declared.moves.Move.{Move}
use Rattle.sdr_base.specs.declared.moves.Move.TheVariants.{Gave, Short, Took}
use Rattle.sdr_base.specs.declared.refusal.Refusal.TheVariants as refusals
use Rattle.law_steps.proofs.DecidedLemmas.{rows_decide, rows_decide_but_bytes}
use Rattle.law_steps.proofs.StepLemmas.{moves_are_the_rows, refused_moves, row_is_no_stop}
use Rattle.law_steps.specs.Refused.{is_stop, may_stop_midway}
use Rattle.law_steps.specs.TakesAt.{TakesAt}
use Rattle.sdr_machine.specs.Demand.{demand_after}
use Rattle.sdr_machine.specs.Ground.{Ground, NoHeap, OnHeap, Replied, State, StepsOn}
use Rattle.sdr_model.specs.Reading.{reads_media}
use Rattle.sdr_model.specs.Rows.{ByRow}
use Rattle.sdr_model.specs.Step.{LackBlock, Step, Stops, is_answer}
use Rattle.sdr_model.specs.Steps.{Outcome, taken_addresses}
use Rattle.sdr_model.specs.World.{World}
use Rattle.sdr_model.specs.declared.answer.Answer.{Answer}
use Rattle.sdr_model.specs.declared.answer.Answer.TheVariants as answers
use Rattle.sdr_model.specs.declared.answer.Reply.{Reply}
use Rattle.sdr_model.specs.declared.answer.Reply.TheVariants as replies
use Rattle.sdr_model.specs.declared.call.Call.{Call}
use Rattle.law_runs.specs.Choosing.{is_chance}
use Rattle.law_runs.proofs.OutcomeLemmas.{Answered, StopKind, bare_same, either_first, either_second, media_row, replies_same, rows_shown, stop_kind, whole_chance}
use Rattle.law_runs.proofs.PlanLemmas.{fits_same, lacks_alike, lacks_never, plan_of, row_plan}
use Rattle.sdr_machine.proofs.RollLemmas.{contrary}

-- the addresses of the blocks that moves take
abbrev at_of : List Move → ℕ → ℕ
at_of [] k = 0
at_of (Took need addr ∷ moves) zero = addr
at_of (Took need addr ∷ moves) (suc k) = at_of moves k
at_of (move ∷ moves) k = at_of moves k

takes_own : (moves : List Move) → TakesAt (at_of moves) moves
takes_own [] = tt
takes_own (Took need addr ∷ moves) = (refl, takes_own moves)
takes_own (Gave addr ∷ moves) = takes_own moves
takes_own (Short need ∷ moves) = takes_own moves

-- moves lead from pools to one
pools_same : (P : Pools) (moves : List Move) (Q R : Pools) → MovesPools P moves Q → MovesPools P moves R → R ≡ Q
pools_same P [] Q R one two = two ∙ sym one
pools_same P (Took need addr ∷ moves) Q R one two =
    let s : Some (record { addr = addr; pools = two.0 }) ≡ Some (record { addr = addr; pools = one.0 }) = sym two.1 ∙ one.1 in
    let t : record { addr = addr; pools = two.0 } ≡ record { addr = addr; pools = one.0 } = cc in
    pools_same one.0 moves Q R one.2 (subst (λ X. MovesPools X moves R) (ap (λ (x : Taken). x.pools) t) two.2)
pools_same P (Gave addr ∷ moves) Q R one two = pools_same _ moves Q R one.1 two.1
pools_same P (Short need ∷ moves) Q R one two = pools_same P moves Q R one.1 two.1

-- what tells of no stop comes not after some moves
whole_first : (reply : Reply) → is_stop reply ≡ false → may_stop_midway reply ≡ false
whole_first (replies.Refused (refusals.NoBlock need)) whole = whole
whole_first (replies.Refused (refusals.LogFull lines room)) whole = whole
whole_first (replies.Refused refusal) whole = refl
whole_first reply whole = refl

-- a row that isn't answered has no moves
row_moveless : (w : World) (o : Outcome) (call : Call) → ByRow w o call → is_answer o.reply ≡ false → o.moves ≡ []
row_moveless w o call row refused = refused_moves w o.after call o.moves o.reply (inl row) refused (whole_first o.reply (row_is_no_stop w o call row))

-- two answered rows of one call ask the same
rows_ask : (w : World) (o o' : Outcome) (call : Call) → ByRow w o call → ByRow w o' call → is_answer o.reply ≡ true → is_answer o'.reply ≡ true → plan_of o'.moves ≡ plan_of o.moves
rows_ask w o o' call row other answered also =
    ap plan_of (moves_are_the_rows w o'.after call o'.moves o'.reply (inl other) also)
    ∙ row_plan w call (slice_index (taken_addresses o'.moves)) (slice_index (taken_addresses o.moves))
    ∙ ap plan_of (sym (moves_are_the_rows w o.after call o.moves o.reply (inl row) answered))

-- a row and an answered row of one call have one reply, where the first has no moves
rows_reply : (w : World) (o aim : Outcome) (call : Call) → ByRow w o call → ByRow w aim call → o.moves ≡ [] → o.reply ≡ aim.reply
rows_reply w o aim call row other none =
    (rows_decide_but_bytes w call (at_of aim.moves) o aim row other (subst (TakesAt (at_of aim.moves)) (sym none) tt) (takes_own aim.moves)).reply

module _ (told : Option Told) (w : World) (call : Call) (o o' : Outcome) (answer answer' : Answer) (bytes bytes' : List ℕ)
    (one : Answered told w call o.reply o.after.shown answer bytes) (two : Answered told w call o'.reply o'.after.shown answer' bytes')
    (blind : told ≡ None → bytes' ≡ bytes) (chance : (is_chance answer || is_chance answer') ≡ true → (answer' ≡ answer) × (o'.moves ≡ o.moves))
    (P Q R : Pools) (fit : MovesPools P o.moves Q) (fit' : MovesPools P o'.moves R) where
  answer_chance : (is_chance answer || is_chance answer') ≡ true → answer' ≡ answer
  answer_chance is = (chance is).0

  -- chance in one is chance in the other
  first_chance : is_chance (answers.Reply o.reply) ≡ true → (o'.reply ≡ o.reply) × (o'.moves ≡ o.moves)
  first_chance is =
      let c = chance (either_first (is_chance answer) (is_chance answer') (ap is_chance one.answer_is ∙ is)) in
      (replies_same told w call o o' answer answer' bytes bytes' one two blind answer_chance c.0, c.1)

  second_chance : is_chance (answers.Reply o'.reply) ≡ true → (o'.reply ≡ o.reply) × (o'.moves ≡ o.moves)
  second_chance is =
      let c = chance (either_second (is_chance answer) (is_chance answer') (ap is_chance two.answer_is ∙ is)) in
      (replies_same told w call o o' answer answer' bytes bytes' one two blind answer_chance c.0, c.1)

  -- two rows whose blocks are taken at one's addresses
  rows_same : ByRow w o call → ByRow w o' call → (at : ℕ → ℕ) → TakesAt at o.moves → TakesAt at o'.moves → o' ≡ o
  rows_same row other at takes also = by (reads_media call) refl
    where
      by : (b : Bool) → reads_media call ≡ b → o' ≡ o
      by false e = sym (rows_decide w call at o o' e row other takes also)
      by true e =
          let same = rows_decide_but_bytes w call at o o' row other takes also in
          let shown : o'.after.shown ≡ o.after.shown =
          rows_shown told w call o o' answer answer' bytes bytes' one two blind answer_chance e same.reply (media_row w o call e row) (media_row w o' call e other) in
          λ i. record { moves = sym same.moves i; after = (sym (same.after ∙ (λ j. record o'.after { shown = sym shown j }))) i; reply = sym same.reply i }

  row_and_row : ByRow w o call → ByRow w o' call → (a b : Bool) → is_answer o.reply ≡ a → is_answer o'.reply ≡ b → o' ≡ o
  row_and_row row other false b refused e =
      rows_same row other (at_of o'.moves) (subst (TakesAt (at_of o'.moves)) (sym (row_moveless w o call row refused)) tt) (takes_own o'.moves)
  row_and_row row other true false answered refused =
      rows_same row other (at_of o.moves) (takes_own o.moves) (subst (TakesAt (at_of o.moves)) (sym (row_moveless w o' call other refused)) tt)
  row_and_row row other true true answered also =
      let moves : o'.moves ≡ o.moves = fits_same P o.moves o'.moves Q R (rows_ask w o o' call row other answered also) fit fit' in
      rows_same row other (at_of o.moves) (takes_own o.moves) (subst (TakesAt (at_of o.moves)) (sym moves) (takes_own o.moves))

  -- a row and a stop
  row_and_stop : ByRow w o call → Stops w o' call → ⊥
  row_and_stop row stops = by (stop_kind o'.reply call stops.aim.moves o'.moves stops.stopped)
    where
      answered : (b : Bool) → is_answer o.reply ≡ b → (need : ℕ) → LackBlock stops.aim.moves o'.moves need → ⊥
      answered false refused need lack =
          contrary (ap is_answer (rows_reply w o stops.aim call row stops.row (row_moveless w o call row refused)) ∙ stops.answered) refused
      answered true is need lack =
          lacks_never P o.moves lack.done need lack.addr lack.rest Q R (ap plan_of (sym lack.whole) ∙ rows_ask w o stops.aim call row stops.row is stops.answered) fit
          (subst (λ ms. MovesPools P ms R) lack.short fit')

      by : StopKind o'.reply stops.aim.moves o'.moves → ⊥
      by (StopKind.by_chance is) =
          contrary (ap (λ r. is_chance (answers.Reply r)) (sym (second_chance is).0) ∙ is) (whole_chance o.reply (row_is_no_stop w o call row))
      by (StopKind.lacks need is lack) = answered (is_answer o.reply) refl need lack

  stop_and_row : Stops w o call → ByRow w o' call → ⊥
  stop_and_row stops row = by (stop_kind o.reply call stops.aim.moves o.moves stops.stopped)
    where
      answered : (b : Bool) → is_answer o'.reply ≡ b → (need : ℕ) → LackBlock stops.aim.moves o.moves need → ⊥
      answered false refused need lack =
          contrary (ap is_answer (rows_reply w o' stops.aim call row stops.row (row_moveless w o' call row refused)) ∙ stops.answered) refused
      answered true is need lack =
          lacks_never P o'.moves lack.done need lack.addr lack.rest R Q (ap plan_of (sym lack.whole) ∙ rows_ask w o' stops.aim call row stops.row is stops.answered) fit'
          (subst (λ ms. MovesPools P ms Q) lack.short fit)

      by : StopKind o.reply stops.aim.moves o.moves → ⊥
      by (StopKind.by_chance is) =
          contrary (ap (λ r. is_chance (answers.Reply r)) (first_chance is).0 ∙ is) (whole_chance o'.reply (row_is_no_stop w o' call row))
      by (StopKind.lacks need is lack) = answered (is_answer o'.reply) refl need lack

  -- two stops
  stop_and_stop : Stops w o call → Stops w o' call → o' ≡ o
  stop_and_stop stops others =
      by (stop_kind o.reply call stops.aim.moves o.moves stops.stopped) (stop_kind o'.reply call others.aim.moves o'.moves others.stopped)
    where
      so : (o'.reply ≡ o.reply) × (o'.moves ≡ o.moves) → o' ≡ o
      so same = λ i. record { moves = same.1 i; after = (others.same ∙ sym stops.same) i; reply = same.0 i }

      by : StopKind o.reply stops.aim.moves o.moves → StopKind o'.reply others.aim.moves o'.moves → o' ≡ o
      by (StopKind.by_chance is) other = so (first_chance is)
      by (StopKind.lacks need is lack) (StopKind.by_chance chance) = so (second_chance chance)
      by (StopKind.lacks need is lack) (StopKind.lacks need' is' lack') =
          let same =
          lacks_alike P lack.done lack'.done need lack.addr need' lack'.addr lack.rest lack'.rest Q R
          (ap plan_of (sym lack'.whole) ∙ rows_ask w stops.aim others.aim call stops.row others.row stops.answered others.answered ∙ ap plan_of lack.whole)
          (subst (λ ms. MovesPools P ms Q) lack.short fit) (subst (λ ms. MovesPools P ms R) lack'.short fit') in
          so (is' ∙ ap (λ n. replies.Refused (refusals.NoBlock n)) same.1 ∙ sym is, lack'.short ∙ same.0 ∙ sym lack.short)

  pub heap_same : Step w call o.moves o.after o.reply → Step w call o'.moves o'.after o'.reply → o' ≡ o
  heap_same (inl row) (inl other) = row_and_row row other (is_answer o.reply) (is_answer o'.reply) refl refl
  heap_same (inl row) (inr stops) = absurd (row_and_stop row stops)
  heap_same (inr stops) (inl row) = absurd (stop_and_row stops row)
  heap_same (inr stops) (inr others) = stop_and_stop stops others

-- two ways in which a call was answered on a ground
pub steps_same : (told : Option Told) (g : Ground) (s : State) (call : Call) (o o' : Replied) (answer answer' : Answer) (bytes bytes' : List ℕ) → StepsOn g s call o → StepsOn g s call o'
    → Answered told s.world call o.reply o.after.world.shown answer bytes → Answered told s.world call o'.reply o'.after.world.shown answer' bytes'
    → (told ≡ None → bytes' ≡ bytes) → ((is_chance answer || is_chance answer') ≡ true → (answer' ≡ answer) × (o'.moves ≡ o.moves)) → o' ≡ o
steps_same told NoHeap s call o o' answer answer' bytes bytes' steps others one two blind chance =
    let same =
    bare_same told s.world call (record { moves = o.moves; after = o.after.world; reply = o.reply }) (record { moves = o'.moves; after = o'.after.world; reply = o'.reply })
    answer answer' bytes bytes' one two blind (λ is. (chance is).0) steps.step others.step in
    λ i. record {
      reply = (same i).reply;
      moves = (same i).moves;
      after = record { world = (same i).after; base = (others.base ∙ sym steps.base) i; demand = (others.demand ∙ sym steps.demand) i };
    }
steps_same told (OnHeap room P) s call o o' answer answer' bytes bytes' steps others one two blind chance =
    let same =
    heap_same told s.world call (record { moves = o.moves; after = o.after.world; reply = o.reply }) (record { moves = o'.moves; after = o'.after.world; reply = o'.reply })
    answer answer' bytes bytes' one two blind chance P steps.pools others.pools steps.fit others.fit steps.step others.step in
    let pools : others.pools ≡ steps.pools =
    pools_same P o.moves steps.pools others.pools steps.fit (subst (λ ms. MovesPools P ms others.pools) (λ i. (same i).moves) others.fit) in
    λ i. record {
      reply = (same i).reply;
      moves = (same i).moves;
      after = record {
        world = (same i).after;
        base = (others.base ∙ ap (OnHeap room) pools ∙ sym steps.base) i;
        demand = (others.demand ∙ ap (demand_after s.demand s.world call) same ∙ sym steps.demand) i;
      };
    }
