-- The shapes of what a row comes to: it refuses, reads, or acts.
use Rattle.std.proofs.Common.{◌≡◌, ℕ, List, [], ◌∷◌, Bool, true, false, Option, Some, None, refl, sym, ap, ◌∙◌, subst, MatchBool, MatchOption}
use Rattle.std.specs.Prelude.{slice_index}
use Rattle.sdr_base.specs.declared.moves.Move.{Move}
use Rattle.sdr_base.specs.declared.moves.Move.TheVariants.{Took}
use Rattle.sdr_base.specs.declared.refusal.Refusal.{Refusal}
use Rattle.law_steps.proofs.Changes.{Changes}
use Rattle.law_steps.proofs.ThingChanges.{in_takes}
use Rattle.sdr_model.specs.Steps.{taken_addresses, Outcome, Refuses, ReadsBytes, TakesOne, On, taken_at}
use Rattle.law_steps.specs.Refused.{is_stop}
use Rattle.law_steps.specs.Shows.{ShowsOnly}
use Rattle.sdr_model.specs.Reading.{is_reading}
use Rattle.sdr_model.specs.RowMoves.{row_moves, takes}
use Rattle.sdr_model.specs.Step.{is_answer}
use Rattle.sdr_model.specs.World.{World, misnamed, refusal_for, block_at}
use Rattle.sdr_model.specs.declared.answer.Reply.{Reply}
use Rattle.sdr_model.specs.declared.answer.Reply.TheVariants as replies
use Rattle.sdr_model.specs.declared.call.Call.{Call}
use Rattle.sdr_model.specs.declared.things.UsedBlock.{UsedBlock}

-- a reading call was answered
pub record Shows (w : World) (call : Call) (o : Outcome) : Type 0 where
  pub reading : is_reading call ≡ true
  pub answered : is_answer o.reply ≡ true
  pub moves : o.moves ≡ []
  pub row : (at : ℕ → ℕ) → row_moves w call at ≡ []
  pub only : ShowsOnly call w o.after

-- a changing call was answered
pub record Acts (w : World) (call : Call) (o : Outcome) : Type 0 where
  pub changing : is_reading call ≡ false
  pub row : o.moves ≡ row_moves w call (slice_index (taken_addresses o.moves))
  pub changes : Changes w o

-- no stop on the way has this refusal
abbrev pub IsOfRow : Refusal → Type 0
IsOfRow refusal = is_stop (replies.Refused refusal) ≡ false

-- the three shapes
pub data Shape (w : World) (call : Call) (o : Outcome) : Type 0 where
  refuses : (refusal : Refusal) → IsOfRow refusal → Refuses w o refusal → Shape w call o
  shows : Shows w call o → Shape w call o
  acts : Acts w call o → Shape w call o

-- the refusal of an address is of the row
pub misnamed-IsOfRow : (w : World) (addr : ℕ) → IsOfRow (misnamed w addr)
misnamed-IsOfRow w addr = by (block_at w addr)
  where
    by : (o : Option UsedBlock) → IsOfRow (refusal_for addr o)
    by None = refl
    by (Some block) = refl

module _ {w : World} {call : Call} {o : Outcome} where
  -- a call that is refused where a test passes, and goes on where it fails
  pub on_failed : {Q : Type 0} (b : Bool) (refusal : Refusal) → MatchBool b (Refuses w o refusal) Q → IsOfRow refusal
      → (b ≡ false → Q → Shape w call o) → Shape w call o
  on_failed true refusal h of_row goes = Shape.refuses refusal of_row h
  on_failed false refusal h of_row goes = goes refl h

  -- and the other way round
  pub on_passed : {P : Type 0} (b : Bool) (refusal : Refusal) → MatchBool b P (Refuses w o refusal) → IsOfRow refusal
      → (b ≡ true → P → Shape w call o) → Shape w call o
  on_passed true refusal h of_row goes = goes refl h
  on_passed false refusal h of_row goes = Shape.refuses refusal of_row h

  -- a call that is refused where something isn't there, and goes on with it where it is
  pub on_some : {X : Type 0} {Q : X → Type 0} (x : Option X) (refusal : Refusal)
      → MatchOption x (Refuses w o refusal) Q → IsOfRow refusal
      → ((v : X) → x ≡ Some v → Q v → Shape w call o) → Shape w call o
  on_some None refusal h of_row goes = Shape.refuses refusal of_row h
  on_some (Some v) refusal h of_row goes = goes v refl h

  -- and the other way round
  pub on_none : {X : Type 0} {P : Type 0} (x : Option X) (refusal : X → Refusal)
      → MatchOption x P (λ v. Refuses w o (refusal v))
      → ((v : X) → IsOfRow (refusal v)) → (x ≡ None → P → Shape w call o) → Shape w call o
  on_none None refusal h of_row goes = goes refl h
  on_none (Some v) refusal h of_row goes = Shape.refuses (refusal v) (of_row v) h

  -- a call on an address
  pub on_addr : {X : Type 0} {Q : X → Type 0} (addr : ℕ) (x : Option X) → On w o addr x Q
      → ((v : X) → x ≡ Some v → Q v → Shape w call o) → Shape w call o
  on_addr addr x h goes = on_some x (misnamed w addr) h (misnamed-IsOfRow w addr) goes

  -- a call that reads
  pub reads : {next : World} {reply : Reply} → (o.moves ≡ []) × (o.after ≡ next) × (o.reply ≡ reply)
      → is_reading call ≡ true → is_answer reply ≡ true
      → ((at : ℕ → ℕ) → row_moves w call at ≡ []) → ShowsOnly call w next → Shape w call o
  reads h reading answers none only = Shape.shows (record {
    reading = reading;
    answered = ap is_answer h.2 ∙ answers;
    moves = h.0;
    row = none;
    only = subst (ShowsOnly call w) (sym h.1) only;
  })

  -- a call that takes one block
  pub takes_one : (need : ℕ) (P : ℕ → Type 0) → TakesOne o.moves need P → is_reading call ≡ false
      → ((at : ℕ → ℕ) → row_moves w call at ≡ takes at need) → Changes w o → Shape w call o
  takes_one need P h changing row changes = in_takes o.moves need P h (λ addr moves did. Shape.acts (record {
    changing = changing;
    row = moves ∙ ap (λ ms. Took need (slice_index (taken_addresses ms) 0) ∷ []) (sym moves)
        ∙ sym (row (slice_index (taken_addresses o.moves)));
    changes = changes;
  }))

  -- a call that takes none
  pub does : {moves : List Move} {next : World} → (o.moves ≡ moves) × (o.after ≡ next) × (o.reply ≡ replies.Done)
      → is_reading call ≡ false
      → ((at : ℕ → ℕ) → row_moves w call at ≡ moves) → Changes w o → Shape w call o
  does h changing row changes = Shape.acts (record {
    changing = changing;
    row = h.0 ∙ sym (row (slice_index (taken_addresses o.moves)));
    changes = changes;
  })

  -- a call that takes blocks by the addresses that they have
  pub does_with : (moves : (ℕ → ℕ) → List Move) → o.moves ≡ moves (taken_at o.moves) → is_reading call ≡ false
      → ((at : ℕ → ℕ) → row_moves w call at ≡ moves at) → Changes w o → Shape w call o
  does_with moves did changing row changes = Shape.acts (record {
    changing = changing;
    row = did ∙ sym (row (taken_at o.moves));
    changes = changes;
  })

  -- a call that reads what it names
  pub reads_named : {X : Type 0} (addr : ℕ) (x : Option X) (bytes : X → List ℕ) (reply : X → Reply)
      → On w o addr x (λ v. ReadsBytes w o (bytes v) (reply v))
      → is_reading call ≡ true → ((v : X) → is_answer (reply v) ≡ true) → ((at : ℕ → ℕ) → row_moves w call at ≡ [])
      → ((shown : List ℕ) → ShowsOnly call w (record w { shown = shown })) → Shape w call o
  reads_named addr x bytes reply h reading answers none only =
      on_addr addr x h (λ v is r. reads r reading (answers v) none (only (bytes v)))
