-- Outcomes that touch no source and no object, and leave the accounts.
use Rattle.std.proofs.Common.{◌≡◌, ℕ, List, [], ◌∷◌, ◌++◌, Bool, true, false, Option, Some, None, MatchBool, MatchOption, refl, ap, ◌∙◌}
use Rattle.sdr_base.specs.declared.moves.Move.{Move}
use Rattle.sdr_base.specs.declared.moves.Move.TheVariants.{Took, Gave, Short}
use Rattle.law_steps.specs.Fresh.{AreFresh}
use Rattle.sdr_model.specs.Blocks.{addresses_of, blocks_of}
use Rattle.sdr_model.specs.Steps.{Outcome, TakesOne, with_thing}
use Rattle.sdr_model.specs.Things.{with_at}
use Rattle.sdr_model.specs.Valid.{HasBytes}
use Rattle.sdr_model.specs.World.{World, as_raw, thing_at}
use Rattle.sdr_model.specs.Zco.{source_naming}
use Rattle.sdr_model.specs.declared.answer.Reply.{Reply}
use Rattle.sdr_model.specs.declared.things.Thing.{Thing}
use Rattle.sdr_model.specs.declared.things.Thing.TheVariants as things

-- the blocks that the outcome took begin where none of the world's did
abbrev pub IsFresh : World → Outcome → Type 0
IsFresh w o = AreFresh (addresses_of (blocks_of w)) o.moves

-- neither a source nor an object is there
abbrev pub IsNoZco : Option Thing → Type 0
IsNoZco (Some (things.Source source)) = ⊥
IsNoZco (Some (things.Object object)) = ⊥
IsNoZco thing = Unit {0}

-- a raw object with so many bytes stays one
abbrev pub KeepsBytes : Option Thing → Option Thing → Type 0
KeepsBytes before after = (n : ℕ) → HasBytes n (as_raw before) → HasBytes n (as_raw after)

-- neither source nor object comes, goes or is another, and the accounts stay
pub data Plain (w : World) (o : Outcome) : Type 0 where
  leaves : o.after.things ≡ w.things → o.after.accounts ≡ w.accounts → Plain w o
  swaps : (addr : ℕ) (before after : Option Thing) → (IsFresh w o → thing_at w addr ≡ before)
      → IsNoZco before → IsNoZco after → KeepsBytes before after
      → o.after.things ≡ with_at w.things addr after → o.after.accounts ≡ w.accounts → Plain w o
  frees : (addr : ℕ) (bytes : List ℕ) → thing_at w addr ≡ Some (things.Raw bytes) → source_naming w addr ≡ None
      → o.after.things ≡ with_at w.things addr None → o.after.accounts ≡ w.accounts → Plain w o

-- such outcomes are plain
pub record ArePlain (w : World) (R : Outcome → Type 0) : Type 0 where
  pub plain : (o : Outcome) → R o → Plain w o

-- what follows from the one block that is taken
pub in_takes_one : {R : Type 0} (moves : List Move) (need : ℕ) (P : ℕ → Type 0) → TakesOne moves need P
    → ((addr : ℕ) → moves ≡ Took need addr ∷ [] → P addr → R) → R
in_takes_one (Took n addr ∷ []) need P t f = f addr (ap (λ n. Took n addr ∷ []) t.0) t.1
in_takes_one (Took n addr ∷ m ∷ ms) need P t f = absurd t
in_takes_one (Gave addr ∷ ms) need P t f = absurd t
in_takes_one (Short n ∷ ms) need P t f = absurd t
in_takes_one [] need P t f = absurd t

module _ {w : World} where
  -- a refusal, or bytes that are shown
  pub left : {moves : List Move} {next : World} {reply : Reply} → next.things ≡ w.things → next.accounts ≡ w.accounts
      → ArePlain w (λ o. (o.moves ≡ moves) × (o.after ≡ next) × (o.reply ≡ reply))
  left things accounts = record {
    plain = λ o h. Plain.leaves (ap (λ (v : World). v.things) h.1 ∙ things)
        (ap (λ (v : World). v.accounts) h.1 ∙ accounts);
  }

  pub refused : {moves : List Move} {reply : Reply}
      → ArePlain w (λ o. (o.moves ≡ moves) × (o.after ≡ w) × (o.reply ≡ reply))
  refused = left refl refl

  pub shown : {moves : List Move} {marks bytes : List ℕ} {reply : Reply}
      → ArePlain w (λ o. (o.moves ≡ moves) × (o.after ≡ record w { marks = marks; shown = bytes }) × (o.reply ≡ reply))
  shown = left refl refl

  -- an outcome by a test, and by what is there
  pub tested : {P Q : Outcome → Type 0} (b : Bool) → ArePlain w P → ArePlain w Q
      → ArePlain w (λ o. MatchBool b (P o) (Q o))
  tested true p q = p
  tested false p q = q

  pub asked : {P Q : Outcome → Type 0} (b : Bool) → (b ≡ true → ArePlain w P) → (b ≡ false → ArePlain w Q)
      → ArePlain w (λ o. MatchBool b (P o) (Q o))
  asked true p q = p refl
  asked false p q = q refl

  pub found : {X : Type 0} {P : Outcome → Type 0} {Q : X → Outcome → Type 0} (x : Option X) → ArePlain w P
      → ((v : X) → x ≡ Some v → ArePlain w (Q v))
      → ArePlain w (λ o. MatchOption x (P o) (λ v. Q v o))
  found None p q = p
  found (Some v) p q = q v refl

  pub unnamed : {X : Type 0} {P : Outcome → Type 0} {Q : X → Outcome → Type 0} (x : Option X)
      → (x ≡ None → ArePlain w P) → ((v : X) → ArePlain w (Q v))
      → ArePlain w (λ o. MatchOption x (P o) (λ v. Q v o))
  unnamed None p q = p refl
  unnamed (Some v) p q = q v

  -- a thing is another, or gains a block, where it was
  pub changes : {moves : List Move} {reply : Reply} (addr : ℕ) (old new : Thing) → thing_at w addr ≡ Some old
      → IsNoZco (Some old) → IsNoZco (Some new) → KeepsBytes (Some old) (Some new)
      → ArePlain w (λ o. (o.moves ≡ moves) × (o.after ≡ record (with_thing w addr new) { shown = [] }) ×
      (o.reply ≡ reply))
  changes addr old new is no_zco still bytes = record {
    plain = λ o h. Plain.swaps addr (Some old) (Some new) (λ fresh. is) no_zco still bytes
        (ap (λ (v : World). v.things) h.1) (ap (λ (v : World). v.accounts) h.1);
  }

  pub gains : {need : ℕ} {reply : ℕ → Reply} (addr : ℕ) (old : Thing) (new : ℕ → Thing) → thing_at w addr ≡ Some old
      → IsNoZco (Some old) → ((a : ℕ) → IsNoZco (Some (new a))) → ((a : ℕ) → KeepsBytes (Some old) (Some (new a)))
      → ArePlain w (λ o. TakesOne o.moves need
      (λ a. (o.after ≡ record (with_thing w addr (new a)) { marks = w.marks ++ a ∷ []; shown = [] }) ×
      (o.reply ≡ reply a)))
  gains {need} addr old new is no_zco still bytes = record {
    plain = λ o h. in_takes_one o.moves need _ h (λ a moves did.
        Plain.swaps addr (Some old) (Some (new a)) (λ fresh. is) no_zco (still a) (bytes a)
        (ap (λ (v : World). v.things) did.0) (ap (λ (v : World). v.accounts) did.0));
  }

  -- a name comes
  pub takes_name : {need : ℕ} {next : ℕ → World} {reply : ℕ → Reply} → ((a : ℕ) → (next a).things ≡ w.things)
      → ((a : ℕ) → (next a).accounts ≡ w.accounts)
      → ArePlain w (λ o. TakesOne o.moves need (λ a. (o.after ≡ next a) × (o.reply ≡ reply a)))
  takes_name {need} things accounts = record {
    plain = λ o h. in_takes_one o.moves need _ h (λ a moves did.
        Plain.leaves (ap (λ (v : World). v.things) did.0 ∙ things a)
        (ap (λ (v : World). v.accounts) did.0 ∙ accounts a));
  }
