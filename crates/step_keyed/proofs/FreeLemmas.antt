-- A raw object or a string that is given back, as a step.
use Rattle.std.proofs.Common.{◌≡◌, ◌∙◌, ℕ, List, [], ◌∷◌, inl, inr, Option, Some, None, refl, sym, ap, subst}
use Rattle.sdr_stands.specs.Shape.{shape_of}
use Rattle.sdr_stands.specs.Standing.{HeapStandsFor, thing_entries, with_taken_marked}
use Rattle.sdr_stands.specs.Ties.{IsUntied, ties_of}
use Rattle.sdr_base.proofs.StandingLemmas.{went}
use Rattle.sdr_base.specs.Blocks as base
use Rattle.sdr_base.specs.Blocks.{IsKind, IsOther, kind_length}
use Rattle.sdr_base.specs.Entries.{Changes, BlocksAre}
use Rattle.sdr_base.specs.Kinds.{kind_number}
use Rattle.sdr_base.specs.Making.{besides}
use Rattle.sdr_base.specs.Objects.{Heap, with_given}
use Rattle.sdr_base.specs.declared.kind.Kind.{Kind}
use Rattle.sdr_base.specs.declared.kind.Kind.TheVariants as kinds
use Rattle.sdr_base.specs.declared.moves.Move.TheVariants.{Gave}
use Rattle.sdr_base.specs.declared.refusal.Refusal.{Refusal}
use Rattle.sdr_base.specs.declared.refusal.Refusal.TheVariants as refusals
use Rattle.sdr_base.specs.declared.stop.Stop.TheVariants as stops
use Rattle.sdr_heap.specs.Raw.{FreeStops, Frees, HasNoSource, IsNeither, IsRawOrText}
use Rattle.sdr_machine.proofs.WorkLemmas.{on_none, on_some}
use Rattle.sdr_model.specs.RawSteps.{FreesThing}
use Rattle.sdr_model.specs.Rows.{ByRow}
use Rattle.sdr_model.specs.Steps.{Outcome, without_thing}
use Rattle.sdr_model.specs.Valid.{IsValid}
use Rattle.sdr_model.specs.Whole.{IsWhole}
use Rattle.sdr_model.specs.World.{World, as_raw, as_text, block_at, misnamed, refusal_for, thing_at}
use Rattle.sdr_model.specs.Zco.{source_naming}
use Rattle.sdr_model.specs.declared.answer.Reply.TheVariants as replies
use Rattle.sdr_model.specs.declared.call.Call.TheVariants as calls
use Rattle.sdr_model.specs.declared.things.UsedBlock.{UsedBlock}
use Rattle.sdr_model.specs.declared.things.Thing.{Thing}
use Rattle.sdr_model.specs.declared.things.Thing.TheVariants as things
use Rattle.step_things.proofs.KindLemmas.{block_told, no_block}
use Rattle.step_things.proofs.RawLemmas.{no_raw, raw_is_at}
use Rattle.step_things.proofs.RowLemmas.{full_refused, gave_back, marks_none, row_refused, thing_went}
use Rattle.step_things.proofs.TextLemmas.{no_text, text_is_at}
use Rattle.step_things.specs.Answering.{Answered, IsRefused, IsReady}
use Rattle.step_things.proofs.ListLemmas.{IsSmall}
use Rattle.sdr_stands.specs.Ties.{or_null}
use Rattle.zco_ref.specs.Naming.{IsUnnamed}
use Rattle.step_zco.proofs.NamingCalls.{unnamed_at, used_as}
use Rattle.step_zco.proofs.SourceLemmas.{named_is_at}

-- the thing at an address was given back
abbrev pub free_outcome : World → ℕ → Outcome
free_outcome w addr =
    record { moves = Gave addr ∷ []; after = with_taken_marked (without_thing w addr) (Gave addr ∷ []); reply = replies.Done }

-- a thing that may be given back by its address alone: a raw object, or a string
pub record IsFreeable (heap : Heap) (w : World) (addr : ℕ) : Type 0 where
  pub thing : Thing
  pub there : thing_at w addr ≡ Some thing
  pub untied : IsUntied thing
  pub row : ByRow w (free_outcome w addr) (calls.Free addr)
  pub goes : (new : Heap) → new ≡ with_given heap addr → Changes heap.blocks new.blocks (thing_entries (ties_of w) addr thing) []

one_goes : (heap new : Heap) (addr : ℕ) (x : base.Block) → new ≡ with_given heap addr
    → Changes heap.blocks new.blocks ((addr, x) ∷ []) []
one_goes heap new addr x is = record {
  kept = λ rest s.
      subst (λ (b : base.Blocks). BlocksAre b rest) (sym (ap (λ (h : Heap). h.blocks) is)) (went heap.blocks addr x [] rest s);
}

-- no source of the world names a raw object whose block names none
unnamed_in : (heap : Heap) (w : World) (addr : ℕ) → heap.moves ≡ [] → HeapStandsFor heap w → IsReady w
    → IsUnnamed (heap.blocks addr) → source_naming w addr ≡ None
unnamed_in heap w addr unmoved s served u =
    let r = named_is_at heap w addr s served u.kind in
    unnamed_at heap heap w unmoved s served addr (u.none (or_null (source_naming w addr)) r.bytes r.keeps)

-- a raw object is
raw_freeable : (heap : Heap) (w : World) (addr : ℕ) → heap.moves ≡ [] → HeapStandsFor heap w → IsReady w
    → HasNoSource (heap.blocks addr) → IsKind (heap.blocks addr) kinds.Raw → IsFreeable heap w addr
raw_freeable heap w addr unmoved s served free kind =
    let r = raw_is_at heap w addr s served.whole.valid kind in
    record {
      thing = things.Raw r.bytes;
      there = r.there;
      untied = tt;
      row = subst (λ (t : Option Thing). FreesThing w (free_outcome w addr) addr (as_raw t) (as_text t)) (sym r.there)
          (on_none _ _ (source_naming w addr) (unnamed_in heap w addr unmoved s served (free kind))
          (refl, marks_none (without_thing w addr) (Gave addr ∷ []) refl, refl));
      goes = λ new is. one_goes heap new addr _ is;
    }

-- and a string
text_freeable : (heap : Heap) (w : World) (addr : ℕ) → HeapStandsFor heap w → IsWhole w → IsKind (heap.blocks addr) kinds.Text
    → IsFreeable heap w addr
text_freeable heap w addr s whole kind =
    let r = text_is_at heap w addr s whole.valid kind in
    record {
      thing = things.Text r.text;
      there = r.there;
      untied = tt;
      row = subst (λ (t : Option Thing). FreesThing w (free_outcome w addr) addr (as_raw t) (as_text t)) (sym r.there)
          (refl, marks_none (without_thing w addr) (Gave addr ∷ []) refl, refl);
      goes = λ new is. one_goes heap new addr _ is;
    }

freeable : (heap : Heap) (w : World) (addr : ℕ) → heap.moves ≡ [] → HeapStandsFor heap w → IsReady w
    → HasNoSource (heap.blocks addr) → IsRawOrText (heap.blocks addr) → IsFreeable heap w addr
freeable heap w addr unmoved s served free (inl raw) = raw_freeable heap w addr unmoved s served free raw
freeable heap w addr unmoved s served free (inr text) = text_freeable heap w addr s served.whole text

-- what goes is given back
pub free_answered : (addr : ℕ) (old new : Heap) (w : World) → old.moves ≡ [] → Frees addr old new → HeapStandsFor old w → IsReady w
    → Answered w (calls.Free addr) new [] replies.Done
free_answered addr old new w unmoved frees s served =
    let f = freeable old w addr unmoved s served frees.unnamed frees.found in
    thing_went w (calls.Free addr) addr f.thing (Gave addr ∷ []) replies.Done old new f.there f.untied s
    (gave_back w (addr ∷ []) old new unmoved (record { all = ap besides frees.given })) (f.goes new frees.given) f.row refl

-- neither a raw object nor a string is where no such block is
neither_at : (heap : Heap) (w : World) (addr : ℕ) → HeapStandsFor heap w → IsValid w → ¬ IsKind (heap.blocks addr) kinds.Raw
    → ¬ IsKind (heap.blocks addr) kinds.Text
    → (as_raw (thing_at w addr) ≡ None) × (as_text (thing_at w addr) ≡ None)
neither_at heap w addr s valid raw text = (no_raw heap w addr s valid raw, no_text heap w addr s valid text)

-- the address of neither is refused
neither_row : (w : World) (addr : ℕ) (refusal : Refusal) → (as_raw (thing_at w addr) ≡ None) × (as_text (thing_at w addr) ≡ None)
    → refusal ≡ misnamed w addr
    → ByRow w (record { moves = []; after = w; reply = replies.Refused refusal }) (calls.Free addr)
neither_row w addr refusal none is =
    let o : Outcome = record { moves = []; after = w; reply = replies.Refused refusal } in
    subst (λ (raw : Option (List ℕ)). FreesThing w o addr raw (as_text (thing_at w addr))) (sym none.0)
    (subst (λ (text : Option (List ℕ)). FreesThing w o addr None text) (sym none.1) (refl, refl, ap (λ r. replies.Refused r) is))

-- why nothing was given back
pub free_refused : (addr : ℕ) (old new : Heap) (w : World) (was : List ℕ) (refusal : Refusal) → old.moves ≡ []
    → IsSmall old → HeapStandsFor old w → IsReady w → FreeStops addr old new (stops.Refused refusal)
    → IsRefused w (calls.Free addr) old new was was refusal
free_refused addr old new w was (refusals.BadAddress bad) unmoved small s served m = record {
  step =
      let none = no_block old w addr s served.whole.valid m.1 in
      let no : (kind : Kind) → ¬ IsKind (old.blocks addr) kind = λ kind is. subst (λ f. IsKind f kind) m.1 is in
      inl (row_refused w (calls.Free addr) new (refusals.BadAddress bad) (ap (λ (h : Heap). h.moves) m.2 ∙ unmoved)
      (neither_row w addr (refusals.BadAddress bad) (neither_at old w addr s served.whole.valid (no kinds.Raw) (no kinds.Text))
      (ap (λ a. refusals.BadAddress a) m.0 ∙ sym (ap (refusal_for addr) none))));
  left = λ reads. m.2;
  gave = refl;
}
free_refused addr old new w was (refusals.WrongKind bad number) unmoved small s served m = record {
  step =
      let n = other (old.blocks addr) (block_at w addr) refl (block_told old w addr s served.whole.valid) m.1 in
      inl (row_refused w (calls.Free addr) new (refusals.WrongKind bad number) (ap (λ (h : Heap). h.moves) m.2 ∙ unmoved)
      (neither_row w addr (refusals.WrongKind bad number) (neither_at old w addr s served.whole.valid n.0 n.1) n.2));
  left = λ reads. m.2;
  gave = refl;
}
  where
    kind_in : Option (Kind × ℕ) → Kind
    kind_in None = kinds.Raw
    kind_in (Some told) = told.0

    other : (f : Option base.Block) (b : Option UsedBlock) → old.blocks addr ≡ f → kind_length f ≡ shape_of b → IsNeither f number
        → (¬ IsKind (old.blocks addr) kinds.Raw) × (¬ IsKind (old.blocks addr) kinds.Text) ×
        (refusals.WrongKind bad number ≡ refusal_for addr b)
    other None b here same n = absurd n
    other (Some block) None here same n = absurd cc
    other (Some block) (Some b) here same n = (
      λ is. n.1 (subst (λ f. IsKind f kinds.Raw) here is),
      λ is. n.2 (subst (λ f. IsKind f kinds.Text) here is),
      λ i. refusals.WrongKind (m.0 i) ((n.0 ∙ ap kind_number (ap kind_in same)) i),
    )
-- a source names the raw object, and it stays
free_refused addr old new w was (refusals.InUse bad count) unmoved small s served m =
    let r = named_is_at old w addr s served m.1.kind in
    let u = used_as old old w unmoved s served addr count small m.1 in
    let o : Outcome = record { moves = []; after = w; reply = replies.Refused (refusals.InUse bad count) } in
    record {
      step =
          inl (row_refused w (calls.Free addr) new (refusals.InUse bad count) (ap (λ (h : Heap). h.moves) m.2 ∙ unmoved)
          (subst (λ (t : Option Thing). FreesThing w o addr (as_raw t) (as_text t)) (sym r.there)
          (on_some _ _ (source_naming w addr) u.0 u.1
          (refl, refl, λ i. replies.Refused (refusals.InUse (m.0 i) (u.2 i))))));
      left = λ reads. m.2;
      gave = refl;
    }
free_refused addr old new w was (refusals.LogFull lines room) unmoved small s served m =
    let f = freeable old w addr unmoved s served m.1 m.0 in
    full_refused w (calls.Free addr) old new was (refusals.LogFull lines room) refl (record {
      to =
          _;
      row = f.row;
      answered = refl;
    }) m.2
free_refused addr old new w was refusal unmoved small s served m = absurd m.2
