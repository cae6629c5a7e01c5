-- How what a call came to on blocks is a step, by the shape of its row.
use Rattle.std.proofs.Common.{◌≡◌, ◌≢◌, ◌∙◌, ◌<◌, ◌^◌, ◌-◌, ◌==◌, ◌++◌, not, ℕ, List, [], ◌∷◌, true, false, true≢false, inl, inr, Option, None, Some, refl, sym, ap, subst, arith, append-nil}
use Rattle.std.specs.Prelude.{All, filter}
use Rattle.std.proofs.lemmas.List.Elements.{All-cons, All-nil}
use Rattle.step_things.proofs.KindLemmas.{missed, none_of}
use Rattle.step_things.specs.Answering.{Aim, Answered, IsRefused}
use Rattle.sdr_stands.proofs.ChangeLemmas.{changes, comes, goes}
use Rattle.sdr_stands.specs.Standing.{HeapStandsFor, thing_entries, with_taken_marked}
use Rattle.sdr_stands.specs.Ties.{IsUntied, ties_of}
use Rattle.sdr_base.specs.Blocks.{IsKind}
use Rattle.sdr_base.specs.Entries.{Changes}
use Rattle.sdr_base.specs.Making.{Made, MakesThing, besides, with_moves}
use Rattle.sdr_base.specs.Objects.{Heap, Misses, OnlyShort, OnlyUnmoved}
use Rattle.sdr_base.specs.declared.kind.Kind.{Kind}
use Rattle.sdr_base.specs.declared.moves.Move.{Move}
use Rattle.sdr_base.specs.declared.moves.Move.TheVariants.{Short, Took}
use Rattle.sdr_base.specs.declared.refusal.Refusal.{Refusal}
use Rattle.sdr_base.specs.declared.refusal.Refusal.TheVariants as refusals
use Rattle.sdr_base.specs.declared.stop.Stop.TheVariants as stops
use Rattle.law_steps.specs.Fresh.{AreFresh}
use Rattle.sdr_machine.proofs.WorkLemmas.{on_none, on_some}
use Rattle.sdr_model.specs.Blocks.{addresses_of, blocks_of}
use Rattle.sdr_model.specs.Fields.{IsWord}
use Rattle.sdr_model.specs.Reading.{is_reading}
use Rattle.sdr_model.specs.Rows.{ByRow}
use Rattle.sdr_model.specs.Step.{is_answer}
use Rattle.sdr_model.specs.Steps.{On, Outcome, ReadsBytes, gave, taken_addresses, with_thing, without_thing}
use Rattle.sdr_model.specs.Valid.{IsValid}
use Rattle.sdr_model.specs.World.{World, thing_at}
use Rattle.sdr_model.specs.declared.answer.Reply.{Reply}
use Rattle.sdr_model.specs.declared.answer.Reply.TheVariants as replies
use Rattle.sdr_model.specs.declared.call.Call.{Call}
use Rattle.sdr_model.specs.declared.things.Thing.{Thing}

-- the heap still stands where the world shows other bytes
pub shows : (old new : Heap) (w : World) (bytes : List ℕ) → new ≡ old → HeapStandsFor old w
    → HeapStandsFor new (record w { shown = bytes })
shows old new w bytes same s =
    subst (λ (h : Heap). HeapStandsFor h (record w { shown = bytes })) (sym same)
    (record { blocks = s.blocks; roots = s.roots; marks = s.marks })

-- a call without moves that was answered
pub unmoved_answered : (w after : World) (call : Call) (new : Heap) (shown : List ℕ) (reply : Reply) → new.moves ≡ []
    → ByRow w (record { moves = []; after = after; reply = reply }) call → is_answer reply ≡ true → HeapStandsFor new after
    → after.shown ≡ shown → after.taken ≡ w.taken
    → Answered w call new shown reply
unmoved_answered w after call new shown reply none row answered stands gave taken = record {
  after = after;
  row = subst (λ (ms : List Move). ByRow w (record { moves = ms; after = after; reply = reply }) call) (sym none) row;
  answered = answered;
  fresh = subst (λ (ms : List Move). AreFresh (addresses_of (blocks_of w)) ms) (sym none) tt;
  stands = stands;
  gave = gave;
  words = subst (λ (ms : List Move). All IsWord (taken_addresses ms)) (sym none) (All-nil IsWord);
  taken = taken;
}

-- a call that reads what it names was answered
pub looked : {X : Type 0} (w : World) (call : Call) (addr : ℕ) (named : Option X) (bytes : X → List ℕ) (say : X
    → Reply) (x : X) (old new : Heap) (reply : Reply)
    → ((o : Outcome) → On w o addr named (λ y. ReadsBytes w o (bytes y) (say y)) → ByRow w o call) → named ≡ Some x → reply ≡ say x
    → is_answer reply ≡ true → old.moves ≡ [] → new ≡ old → HeapStandsFor old w → Answered w call new (bytes x) reply
looked w call addr named bytes say x old new reply row is told answered unmoved same s =
    unmoved_answered w (record w { shown = bytes x }) call new (bytes x) reply (ap (λ (h : Heap). h.moves) same ∙ unmoved)
    (row _ (on_some _ _ named x is (refl, refl, told))) answered (shows old new w (bytes x) same s) refl refl

-- what a row gives that refuses a call without moves
pub row_refused : (w : World) (call : Call) (new : Heap) (refusal : Refusal) → new.moves ≡ []
    → ByRow w (record { moves = []; after = w; reply = replies.Refused refusal }) call
    → ByRow w (record { moves = new.moves; after = w; reply = replies.Refused refusal }) call
row_refused w call new refusal none row =
    subst (λ (ms : List Move). ByRow w (record { moves = ms; after = w; reply = replies.Refused refusal }) call) (sym none) row

-- a call's address isn't that of what it takes
module _ {X : Type 0} (w : World) (call : Call) (addr : ℕ) (kind : Kind) (named : Option X) (goes_on : Outcome → X → Type 0)
    (old new : Heap) (was : List ℕ)
    (row : (o : Outcome) → On w o addr named (goes_on o) → ByRow w o call) (none : ¬ IsKind (old.blocks addr) kind → named ≡ None)
    (unmoved : old.moves ≡ []) (same : new ≡ old) (s : HeapStandsFor old w) (valid : IsValid w) where
  by_row : (refusal : Refusal) → Misses (old.blocks addr) addr kind (stops.Refused refusal)
      → ByRow w (record { moves = new.moves; after = w; reply = replies.Refused refusal }) call
  by_row refusal m =
      let miss = missed old w addr kind refusal s valid m in
      row_refused w call new refusal (ap (λ (h : Heap). h.moves) same ∙ unmoved)
      (row _ (on_none _ _ named (none miss.0) (refl, refl, ap (λ r. replies.Refused r) miss.1)))

  -- so the row refuses it
  pub misnamed_refused : (refusal : Refusal) → Misses (old.blocks addr) addr kind (stops.Refused refusal)
      → IsRefused w call old new was was refusal
  misnamed_refused (refusals.BadAddress bad) m =
      record { step = inl (by_row (refusals.BadAddress bad) m); left = λ reads. same; gave = refl }
  misnamed_refused (refusals.WrongKind bad number) m =
      record { step = inl (by_row (refusals.WrongKind bad number) m); left = λ reads. same; gave = refl }
  misnamed_refused refusal m = absurd m

-- a call without moves before has these
pub moves_made : (moves : List Move) (old new : Heap) → old.moves ≡ [] → Made moves old new → new.moves ≡ moves
moves_made moves old new unmoved made = ap (λ (h : Heap). h.moves) made.all ∙ ap (λ (ms : List Move). ms ++ moves) unmoved

-- a call has had these moves: each block that they take begins where none was, and its address fits a word
pub record HasMoves (w : World) (moves : List Move) (new : Heap) : Type 0 where
  pub is : new.moves ≡ moves
  pub fresh : AreFresh (addresses_of (blocks_of w)) moves
  pub words : All IsWord (taken_addresses moves)

-- and they are all that it did beside the blocks
pub record Moved (w : World) (moves : List Move) (old new : Heap) : Type 0 where
  pub made : Made moves old new
  pub has : HasMoves w moves new

-- a call with moves was answered
pub moved_answered : (w w' : World) (call : Call) (moves : List Move) (new : Heap) (reply : Reply) → HasMoves w moves new
    → HeapStandsFor new (with_taken_marked w' moves) → w'.taken ≡ w.taken
    → ByRow w (record { moves = moves; after = with_taken_marked w' moves; reply = reply }) call → is_answer reply ≡ true
    → Answered w call new [] reply
moved_answered w w' call moves new reply m stands taken row answered = record {
  after = with_taken_marked w' moves;
  row = subst (λ (ms : List Move). ByRow w (record { moves = ms; after = with_taken_marked w' moves; reply = reply }) call)
      (sym m.is) row;
  answered = answered;
  fresh = subst (λ (ms : List Move). AreFresh (addresses_of (blocks_of w)) ms) (sym m.is) m.fresh;
  stands = stands;
  gave = refl;
  words = subst (λ (ms : List Move). All IsWord (taken_addresses ms)) (sym m.is) m.words;
  taken = taken;
}

-- no move was made
pub unmade : (old : Heap) → besides old ≡ besides (with_moves old [])
unmade old =
    let spare : old.spare ≡ old.spare - 0 = omega arith in
    λ i. record {
      size = old.size;
      blocks = λ addr. None;
      roots = old.roots;
      marks = old.marks;
      moves = sym (append-nil old.moves) i;
      spare = spare i;
    }

pub moved_nothing : (w : World) (old new : Heap) → old.moves ≡ [] → besides new ≡ besides old → Moved w [] old new
moved_nothing w old new unmoved same =
    let made : Made [] old new = record { all = same ∙ unmade old } in
    record { made = made; has = record { is = moves_made [] old new unmoved made; fresh = tt; words = All-nil IsWord } }

-- a block was taken where none was
pub took_has : (w : World) (need addr : ℕ) (old new : Heap) → HeapStandsFor old w → IsValid w → old.blocks addr ≡ None → addr ≢ 0
    → addr < 2 ^ 32 → new.moves ≡ Took need addr ∷ [] → HasMoves w (Took need addr ∷ []) new
took_has w need addr old new s valid free nonzero small is = record {
  is = is;
  fresh = (nonzero, none_of old w addr s valid free, tt);
  words = All-cons IsWord addr [] (omega (arith, small)) (All-nil IsWord);
}

pub took_one : (w : World) (need addr : ℕ) (old new : Heap) → HeapStandsFor old w → IsValid w → old.moves ≡ []
    → old.blocks addr ≡ None
    → addr ≢ 0 → addr < 2 ^ 32 → Made (Took need addr ∷ []) old new → Moved w (Took need addr ∷ []) old new
took_one w need addr old new s valid unmoved free nonzero small made =
    record {
      made =
          made;
      has = took_has w need addr old new s valid free nonzero small
          (moves_made (Took need addr ∷ []) old new unmoved made);
    }

-- blocks were given back
pub gave_fresh : (used addrs : List ℕ) → AreFresh used (gave addrs)
gave_fresh used [] = tt
gave_fresh used (addr ∷ addrs) = gave_fresh (filter (λ a. not (a == addr)) used) addrs

pub gave_takes : (addrs : List ℕ) → taken_addresses (gave addrs) ≡ []
gave_takes [] = refl
gave_takes (addr ∷ addrs) = gave_takes addrs

pub gave_has : (w : World) (addrs : List ℕ) (new : Heap) → new.moves ≡ gave addrs → HasMoves w (gave addrs) new
gave_has w addrs new is = record {
  is = is;
  fresh = gave_fresh (addresses_of (blocks_of w)) addrs;
  words = subst (λ (taken : List ℕ). All IsWord taken) (sym (gave_takes addrs)) (All-nil IsWord);
}

pub gave_back : (w : World) (addrs : List ℕ) (old new : Heap) → old.moves ≡ [] → Made (gave addrs) old new
    → Moved w (gave addrs) old new
gave_back w addrs old new unmoved made =
    record { made = made; has = gave_has w addrs new (moves_made (gave addrs) old new unmoved made) }

-- moves that take nothing mark nothing
pub marks_none : (w : World) (moves : List Move) → taken_addresses moves ≡ []
    → with_taken_marked w moves ≡ record w { shown = [] }
marks_none w moves none =
    ap (λ (taken : List ℕ). record w { marks = w.marks ++ taken; shown = [] }) none
    ∙ ap (λ (marks : List ℕ). record w { marks = marks; shown = [] }) (append-nil w.marks)

-- a thing of its own was made
pub thing_made : (w : World) (call : Call) (need addr : ℕ) (thing : Thing) (old new : Heap) → old.moves ≡ [] → HeapStandsFor old w
    → IsValid w
    → IsUntied thing → MakesThing need addr (thing_entries (ties_of w) addr thing) old new
    → ByRow w (record {
      moves = Took need addr ∷ [];
      after = with_taken_marked (with_thing w addr thing) (Took need addr ∷ []);
      reply = replies.At addr;
    }) call
    → Answered w call new [] (replies.At addr)
thing_made w call need addr thing old new unmoved s valid untied makes row =
    moved_answered w (with_thing w addr thing) call (Took need addr ∷ []) new (replies.At addr)
    (took_one w need addr old new s valid unmoved makes.adds.fresh makes.adds.nonzero makes.adds.small makes.made).has
    (comes need addr old new w thing untied s makes)
    refl row refl

-- a thing became another
pub thing_changed : (w : World) (call : Call) (addr : ℕ) (thing other : Thing) (moves : List Move) (reply : Reply)
    (old new : Heap)
    → thing_at w addr ≡ Some thing → IsUntied thing → IsUntied other → HeapStandsFor old w → Moved w moves old new
    → Changes old.blocks new.blocks (thing_entries (ties_of w) addr thing) (thing_entries (ties_of w) addr other)
    → ByRow w (record { moves = moves; after = with_taken_marked (with_thing w addr other) moves; reply = reply }) call
    → is_answer reply ≡ true
    → Answered w call new [] reply
thing_changed w call addr thing other moves reply old new there was is s m change row answered =
    moved_answered w (with_thing w addr other) call moves new reply m.has
    (changes addr old new w thing other moves there was is s change m.made)
    refl row answered

-- a thing went
pub thing_went : (w : World) (call : Call) (addr : ℕ) (thing : Thing) (moves : List Move) (reply : Reply) (old new : Heap)
    → thing_at w addr ≡ Some thing → IsUntied thing → HeapStandsFor old w → Moved w moves old new
    → Changes old.blocks new.blocks (thing_entries (ties_of w) addr thing) []
    → ByRow w (record { moves = moves; after = with_taken_marked (without_thing w addr) moves; reply = reply }) call
    → is_answer reply ≡ true
    → Answered w call new [] reply
thing_went w call addr thing moves reply old new there was s m change row answered =
    moved_answered w (without_thing w addr) call moves new reply m.has
    (goes addr old new w thing moves there was s change m.made)
    refl row answered

-- the row of a call would answer it with the one move that takes a block of this need
pub record TakesAim (w : World) (call : Call) (need : ℕ) : Type 0 where
  pub after : World
  pub reply : Reply
  pub row : ByRow w (record { moves = Took need 0 ∷ []; after = after; reply = reply }) call
  pub answered : is_answer reply ≡ true

-- no block was left for such a call, or no log room
pub short_refused : (w : World) (call : Call) (need : ℕ) (old new : Heap) (was : List ℕ) (refusal : Refusal)
    → is_reading call ≡ false
    → TakesAim w call need → old.moves ≡ [] → OnlyShort need old new (stops.Refused refusal)
    → IsRefused w call old new was was refusal
short_refused w call need old new was (refusals.NoBlock missing) changing aim unmoved s = record {
  step = inr (record {
    aim = _;
    row = aim.row;
    answered = aim.answered;
    stopped = record {
      done = [];
      addr = 0;
      rest = [];
      whole = sym (ap (λ (n : ℕ). Took n 0 ∷ []) s.0);
      short = ap (λ (h : Heap). h.moves) s.1 ∙ ap (λ (ms : List Move). ms ++ Short need ∷ []) unmoved ∙ sym
          (ap (λ (n : ℕ). Short n ∷ []) s.0);
    };
    same = refl;
  });
  left = λ reads. absurd (true≢false (sym reads ∙ changing));
  gave = refl;
}
short_refused w call need old new was (refusals.LogFull lines room) changing aim unmoved s = record {
  step = (record { to = _; row = aim.row; answered = aim.answered }, changing);
  left = λ reads. absurd (true≢false (sym reads ∙ changing));
  gave = refl;
}
short_refused w call need old new was refusal changing aim unmoved s = absurd s

-- no log room was left for a call that makes no move first
pub full_refused : (w : World) (call : Call) (old new : Heap) (was : List ℕ) (refusal : Refusal) → is_reading call ≡ false
    → Aim w call → OnlyUnmoved old new (stops.Refused refusal) → IsRefused w call old new was was refusal
full_refused w call old new was (refusals.LogFull lines room) changing aim s = record {
  step = (aim, changing);
  left = λ reads. absurd (true≢false (sym reads ∙ changing));
  gave = refl;
}
full_refused w call old new was refusal changing aim s = absurd s
