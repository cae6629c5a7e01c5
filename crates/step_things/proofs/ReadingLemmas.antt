-- Calls that read raw objects, as steps.
use Rattle.std.proofs.Common.{◌≡◌, ◌∙◌, ◌≤◌, ◌<◌, ◌+◌, ◌==◌, ◌||◌, cond, ℕ, List, [], ◌∷◌, ◌++◌, Bool, true, false, inl, Option, Some, None, refl, sym, ap, subst, arith, length, MatchOption, nat_lt}
use Rattle.std.proofs.lemmas.Bool.Decides.{nat_tests}
use Rattle.std.proofs.lemmas.List.Folds.{list_any-append}
use Rattle.std.specs.List.{list_any}
use Rattle.sdr_stands.specs.Shape.{shape_of}
use Rattle.sdr_stands.specs.Standing.{HeapStandsFor}
use Rattle.sdr_stands.specs.Ties.{ties_of}
use Rattle.sdr_base.specs.Blocks as base
use Rattle.sdr_base.specs.Blocks.{HasBytes, IsKind, kind_length, with_at}
use Rattle.sdr_base.specs.Objects.{Heap, Misses, with_mark}
use Rattle.sdr_base.specs.Parts.{part}
use Rattle.sdr_base.specs.Raws.{raw_block}
use Rattle.sdr_base.specs.declared.kind.Kind.{Kind}
use Rattle.sdr_base.specs.declared.kind.Kind.TheVariants as kinds
use Rattle.sdr_base.specs.declared.refusal.Refusal.{Refusal}
use Rattle.sdr_base.specs.declared.refusal.Refusal.TheVariants as refusals
use Rattle.sdr_base.specs.declared.stop.Stop.TheVariants as stops
use Rattle.sdr_heap.specs.Raw.{Exceeds, HasRoom, HasTold, IsMissing, MissesRaw, ReadStops, ReadsRaw, told_length}
use Rattle.sdr_machine.proofs.WorkLemmas.{on_false, on_none, on_some, on_true}
use Rattle.sdr_model.specs.Limits.{longest_read}
use Rattle.sdr_model.specs.RawSteps.{length_as}
use Rattle.sdr_model.specs.Steps.{On, Outcome, ReadsBytes, Refuses}
use Rattle.sdr_model.specs.Whole.{IsWhole}
use Rattle.sdr_model.specs.World.{World, as_raw, block_at, misnamed, refusal_for, thing_at}
use Rattle.sdr_model.specs.declared.answer.Reply.TheVariants as replies
use Rattle.sdr_model.specs.declared.call.Call.TheVariants as calls
use Rattle.sdr_model.specs.declared.things.UsedBlock.{UsedBlock}
use Rattle.sdr_model.specs.declared.things.Thing.TheVariants as things
use Rattle.step_things.proofs.KindLemmas.{block_told, missed, no_block}
use Rattle.step_things.proofs.RawLemmas.{IsRawAt, length_of_raw, no_raw, part_of_raw, raw_is_at}
use Rattle.step_things.proofs.RowLemmas.{row_refused, shows, unmoved_answered}
use Rattle.step_things.specs.Answering.{Answered, IsRefused}

-- the address of what isn't a raw object is refused
as_misses : (found : Option base.Block) (addr : ℕ) (refusal : Refusal) → MissesRaw found addr (stops.Refused refusal) ⊥
    → Misses found addr kinds.Raw (stops.Refused refusal)
as_misses found addr (refusals.BadAddress bad) m = m
as_misses None addr (refusals.WrongKind bad number) m = absurd m
as_misses (Some block) addr (refusals.WrongKind bad number) m = (m.0, (m.1, m.2))
as_misses None addr refusal m = absurd m
as_misses (Some block) addr refusal m = absurd m

pub misses : (heap : Heap) (w : World) (addr : ℕ) (refusal : Refusal) → HeapStandsFor heap w → IsWhole w
    → MissesRaw (heap.blocks addr) addr (stops.Refused refusal) ⊥
    → (as_raw (thing_at w addr) ≡ None) × (refusal ≡ misnamed w addr)
misses heap w addr refusal s whole m =
    let miss = missed heap w addr kinds.Raw refusal s whole.valid (as_misses (heap.blocks addr) addr refusal m) in
    (no_raw heap w addr s whole.valid miss.0, miss.1)

-- what is told of a length is the model's
same_length : (kind : Kind) (bytes : ℕ) → told_length kind bytes ≡ length_as kind bytes
same_length kinds.Raw bytes = refl
same_length kind bytes = refl

abbrev pub told_of_length : World → ℕ → Outcome
told_of_length w value = record { moves = []; after = record w { shown = [] }; reply = replies.Value value }

-- a length was told
pub length_answered : (addr value : ℕ) (old new : Heap) (w : World) → old.moves ≡ [] → new ≡ old → HasTold (old.blocks addr) value
    → HeapStandsFor old w → IsWhole w → Answered w (calls.Length addr) new [] (replies.Value value)
length_answered addr value old new w unmoved same told s whole =
    unmoved_answered w (record w {
      shown =
          [];
    }) (calls.Length addr) new [] (replies.Value value) (ap (λ (h : Heap). h.moves) same ∙ unmoved)
    (by (old.blocks addr) (block_at w addr) (block_told old w addr s whole.valid) told) refl (shows old new w [] same s) refl refl
  where
    kind_in : Option (Kind × ℕ) → Kind
    kind_in None = kinds.Raw
    kind_in (Some told) = told.0

    count_in : Option (Kind × ℕ) → ℕ
    count_in None = 0
    count_in (Some told) = told.1

    by : (found : Option base.Block) (b : Option UsedBlock) → kind_length found ≡ shape_of b → HasTold found value
        → MatchOption b (Refuses w (told_of_length w value) (misnamed w addr))
        (λ b. ReadsBytes w (told_of_length w value) [] (replies.Value (length_as b.kind b.bytes)))
    by None b same is = absurd is
    by (Some block) None same is = absurd cc
    by (Some block) (Some b) same is = (
      refl,
      refl,
      ap (λ n. replies.Value n)
          (is ∙ same_length block.kind (length block.bytes) ∙ (λ i. length_as (ap kind_in same i) (ap count_in same i))),
    )

-- a length wasn't told
pub length_refused : (addr : ℕ) (old new : Heap) (w : World) (was : List ℕ) (refusal : Refusal) → old.moves ≡ [] → new ≡ old
    → HeapStandsFor old w → IsWhole w → IsMissing (old.blocks addr) addr (stops.Refused refusal)
    → IsRefused w (calls.Length addr) old new was was refusal
length_refused addr old new w was (refusals.BadAddress bad) unmoved same s whole m = record {
  step =
      let none = no_block old w addr s whole.valid m.1 in
      inl (row_refused w (calls.Length addr) new (refusals.BadAddress bad) (ap (λ (h : Heap). h.moves) same ∙ unmoved)
      (on_none _ _ (block_at w addr) none
      (refl, refl, ap (λ r. replies.Refused r) (ap (λ a. refusals.BadAddress a) m.0 ∙ sym (ap (refusal_for addr) none)))));
  left = λ reads. same;
  gave = refl;
}
length_refused addr old new w was refusal unmoved same s whole m = absurd m

-- the outcome of a read of so many bytes
abbrev pub read_outcome : World → List ℕ → ℕ → Outcome
read_outcome w bytes count = record { moves = []; after = record w { shown = bytes }; reply = replies.Bytes count }

-- the bytes of a raw object that were read are the world's
read_bytes : (heap : Heap) (w : World) (addr place count : ℕ) (into : List ℕ) (r : IsRawAt heap w addr)
    → HasBytes (heap.blocks addr) (8 + place) count into → into ≡ part place count r.bytes
read_bytes heap w addr place count into r has =
    let here : HasBytes (Some (raw_block ((ties_of w).named_by addr) r.bytes)) (8 + place) count into =
    subst (λ found. HasBytes found (8 + place) count into) r.block has in
    here ∙ part_of_raw ((ties_of w).named_by addr) place count r.bytes

-- so many bytes of a raw object are the world's
pub room_in : (heap : Heap) (w : World) (addr end : ℕ) (r : IsRawAt heap w addr) → HasRoom (heap.blocks addr) end
    → end ≤ length r.bytes
room_in heap w addr end r has =
    let here : 8 + end ≤ length (raw_block ((ties_of w).named_by addr) r.bytes).bytes = subst (λ found. HasRoom found end) r.block
    has in
    omega (arith, here, length_of_raw ((ties_of w).named_by addr) r.bytes)

-- and no more
pub no_room_in : (heap : Heap) (w : World) (addr end : ℕ) (r : IsRawAt heap w addr) → Exceeds (heap.blocks addr) end
    → length r.bytes < end
no_room_in heap w addr end r has =
    let here : length (raw_block ((ties_of w).named_by addr) r.bytes).bytes < 8 + end = subst (λ found. Exceeds found end) r.block
    has in
    omega (arith, here, length_of_raw ((ties_of w).named_by addr) r.bytes)

-- the row of a read goes on where the thing is a raw object
pub on_raw : (w : World) (o : Outcome) (addr : ℕ) (bytes : List ℕ) (goes : List ℕ → Type 0)
    → thing_at w addr ≡ Some (things.Raw bytes) → goes bytes
    → On w o addr (as_raw (thing_at w addr)) goes
on_raw w o addr bytes goes there holds = on_some _ goes (as_raw (thing_at w addr)) bytes (ap as_raw there) holds

-- and refuses the address of what isn't one
pub raw_missed : (w : World) (addr : ℕ) (refusal : Refusal) (goes : List ℕ → Type 0)
    → (as_raw (thing_at w addr) ≡ None) × (refusal ≡ misnamed w addr)
    → On w (record { moves = []; after = w; reply = replies.Refused refusal }) addr (as_raw (thing_at w addr)) goes
raw_missed w addr refusal goes m = on_none _ goes (as_raw (thing_at w addr)) m.0 (refl, refl, ap (λ r. replies.Refused r) m.1)

same_test : (a q : ℕ) (o : Bool) → cond (q == a) true o ≡ (o || ((a == q) || false))
same_test a q o = by (q == a) refl o
  where
    by : (b : Bool) → (q == a) ≡ b → (v : Bool) → cond b true v ≡ (v || ((a == q) || false))
    by true is true = refl
    by true is false = let here : (a == q) ≡ true = grind (arith, nat_tests, is) in sym (ap (λ b. b || false) here)
    by false is true = refl
    by false is false = let apart : (a == q) ≡ false = grind (arith, nat_tests, is) in sym (ap (λ b. b || false) apart)

-- an address more is marked
pub marked_one : (marks : ℕ → Bool) (addrs : List ℕ) (addr : ℕ) → ((q : ℕ) → marks q ≡ list_any (λ m. m == q) addrs) → (q : ℕ)
    → with_at marks addr true q ≡ list_any (λ m. m == q) (addrs ++ addr ∷ [])
unfolding with_at
marked_one marks addrs addr same q =
    ap (λ b. cond (q == addr) true b) (same q) ∙ same_test addr q (list_any (λ m. m == q) addrs)
    ∙ sym (list_any-append (λ m. m == q) addrs (addr ∷ []))

-- bytes were read
pub read_answered : (addr place count : ℕ) (into : List ℕ) (old new : Heap) (w : World) → old.moves ≡ [] → new ≡ old
    → ReadsRaw (old.blocks addr) place count into → HeapStandsFor old w → IsWhole w
    → Answered w (calls.Read addr place count) new into (replies.Bytes count)
read_answered addr place count into old new w unmoved same reads s whole =
    let r = raw_is_at old w addr s whole.valid reads.raw in
    let few : nat_lt longest_read count ≡ false = grind (arith, nat_tests, reads.few) in
    let fits = room_in old w addr (place + count) r reads.inside in
    let inside : nat_lt (length r.bytes) (place + count) ≡ false = grind (arith, nat_tests, fits) in
    let bytes = read_bytes old w addr place count into r reads.bytes in
    unmoved_answered w (record w {
      shown =
          into;
    }) (calls.Read addr place count) new into (replies.Bytes count) (ap (λ (h : Heap). h.moves) same ∙ unmoved)
    (on_raw w (read_outcome w into count) addr r.bytes _ r.there
    (on_false _ _ _ few (on_false _ _ _ inside (refl, ap (λ (b : List ℕ). record w { shown = b }) bytes, refl))))
    refl (shows old new w into same s) refl refl

-- the first bytes were given, and the object is marked
pub stage_answered : (addr count : ℕ) (into : List ℕ) (old new : Heap) (w : World) → old.moves ≡ [] → new ≡ with_mark old addr
    → ReadsRaw (old.blocks addr) 0 count into → HeapStandsFor old w → IsWhole w
    → Answered w (calls.Stage addr count) new into (replies.Bytes count)
stage_answered addr count into old new w unmoved marked reads s whole =
    let r = raw_is_at old w addr s whole.valid reads.raw in
    let few : nat_lt longest_read count ≡ false = grind (arith, nat_tests, reads.few) in
    let fits = room_in old w addr (0 + count) r reads.inside in
    let inside : nat_lt (length r.bytes) count ≡ false = grind (arith, nat_tests, fits) in
    let bytes = read_bytes old w addr 0 count into r reads.bytes in
    let after : World = record w { marks = w.marks ++ addr ∷ []; shown = into } in
    unmoved_answered w after (calls.Stage addr count) new into (replies.Bytes count) (ap (λ (h : Heap). h.moves) marked ∙ unmoved)
    (on_raw w (record { moves = []; after = after; reply = replies.Bytes count }) addr r.bytes _ r.there
    (on_false _ _ _ few (on_false _ _ _ inside
    (refl, ap (λ (b : List ℕ). record w { marks = w.marks ++ addr ∷ []; shown = b }) bytes, refl))))
    refl
    (subst (λ (h : Heap). HeapStandsFor h after) (sym marked)
    (record { blocks = s.blocks; roots = s.roots; marks = marked_one old.marks w.marks addr s.marks }))
    refl refl

-- why bytes weren't read
pub read_refused : (addr place count : ℕ) (old new : Heap) (w : World) (was : List ℕ) (refusal : Refusal) → old.moves ≡ []
    → new ≡ old
    → HeapStandsFor old w → IsWhole w → ReadStops (old.blocks addr) addr place count (stops.Refused refusal)
    → IsRefused w (calls.Read addr place count) old new was was refusal
read_refused addr place count old new w was (refusals.BadLength length most) unmoved same s whole m = record {
  step =
      let r = raw_is_at old w addr s whole.valid m.3 in
      let many : nat_lt longest_read count ≡ true = grind (arith, nat_tests, m.2) in
      let row = on_raw w (record { moves = []; after = w; reply = replies.Refused (refusals.BadLength length most) }) addr r.bytes
      _ r.there
      (on_true _ _ _ many (refl, refl, λ i. replies.Refused (refusals.BadLength (m.0 i) (m.1 i)))) in
      inl (row_refused w (calls.Read addr place count) new (refusals.BadLength length most)
      (ap (λ (h : Heap). h.moves) same ∙ unmoved) row);
  left = λ reads. same;
  gave = refl;
}
read_refused addr place count old new w was (refusals.OutOfBounds bad at asked) unmoved same s whole m = record {
  step =
      let r = raw_is_at old w addr s whole.valid m.5 in
      let few : nat_lt longest_read count ≡ false = grind (arith, nat_tests, m.3) in
      let above = no_room_in old w addr (place + count) r m.4 in
      let outside : nat_lt (length r.bytes) (place + count) ≡ true = grind (arith, nat_tests, above) in
      let row = on_raw w (record { moves = []; after = w; reply = replies.Refused (refusals.OutOfBounds bad at asked) }) addr
      r.bytes _ r.there
      (on_false _ _ _ few (on_true _ _ _ outside (
        refl,
        refl,
        λ i. replies.Refused
            (refusals.OutOfBounds (m.0 i) (m.1 i) (m.2 i)),
      ))) in
      inl (row_refused w (calls.Read addr place count) new (refusals.OutOfBounds bad at asked)
      (ap (λ (h : Heap). h.moves) same ∙ unmoved) row);
  left = λ reads. same;
  gave = refl;
}
read_refused addr place count old new w was (refusals.BadAddress bad) unmoved same s whole m = record {
  step =
      inl (row_refused w (calls.Read addr place count) new (refusals.BadAddress bad) (ap (λ (h : Heap). h.moves) same ∙ unmoved)
      (raw_missed w addr (refusals.BadAddress bad) _ (misses old w addr (refusals.BadAddress bad) s whole m)));
  left = λ reads. same;
  gave = refl;
}
read_refused addr place count old new w was (refusals.WrongKind bad number) unmoved same s whole m = record {
  step =
      inl (row_refused w (calls.Read addr place count) new (refusals.WrongKind bad number)
      (ap (λ (h : Heap). h.moves) same ∙ unmoved)
      (raw_missed w addr (refusals.WrongKind bad number) _ (misses old w addr (refusals.WrongKind bad number) s whole
      (other_of (old.blocks addr) m))));
  left = λ reads. same;
  gave = refl;
}
  where
    other_of : (found : Option base.Block) → ReadStops found addr place count (stops.Refused (refusals.WrongKind bad number))
        → MissesRaw found addr (stops.Refused (refusals.WrongKind bad number)) ⊥
    other_of None h = h
    other_of (Some block) h = h
read_refused addr place count old new w was refusal unmoved same s whole m = absurd m

-- why the first bytes weren't given
pub stage_refused : (addr count : ℕ) (old new : Heap) (w : World) (was : List ℕ) (refusal : Refusal) → old.moves ≡ [] → new ≡ old
    → HeapStandsFor old w → IsWhole w → ReadStops (old.blocks addr) addr 0 count (stops.Refused refusal)
    → IsRefused w (calls.Stage addr count) old new was was refusal
stage_refused addr count old new w was (refusals.BadLength length most) unmoved same s whole m = record {
  step =
      let r = raw_is_at old w addr s whole.valid m.3 in
      let many : nat_lt longest_read count ≡ true = grind (arith, nat_tests, m.2) in
      let row = on_raw w (record { moves = []; after = w; reply = replies.Refused (refusals.BadLength length most) }) addr r.bytes
      _ r.there
      (on_true _ _ _ many (refl, refl, λ i. replies.Refused (refusals.BadLength (m.0 i) (m.1 i)))) in
      inl (row_refused w (calls.Stage addr count) new (refusals.BadLength length most) (ap (λ (h : Heap). h.moves) same ∙ unmoved)
      row);
  left = λ reads. same;
  gave = refl;
}
stage_refused addr count old new w was (refusals.OutOfBounds bad at asked) unmoved same s whole m = record {
  step =
      let r = raw_is_at old w addr s whole.valid m.5 in
      let few : nat_lt longest_read count ≡ false = grind (arith, nat_tests, m.3) in
      let above = no_room_in old w addr (0 + count) r m.4 in
      let outside : nat_lt (length r.bytes) count ≡ true = grind (arith, nat_tests, above) in
      let row = on_raw w (record { moves = []; after = w; reply = replies.Refused (refusals.OutOfBounds bad at asked) }) addr
      r.bytes _ r.there
      (on_false _ _ _ few (on_true _ _ _ outside (
        refl,
        refl,
        λ i. replies.Refused
            (refusals.OutOfBounds (m.0 i) (m.1 i) (m.2 i)),
      ))) in
      inl (row_refused w (calls.Stage addr count) new (refusals.OutOfBounds bad at asked)
      (ap (λ (h : Heap). h.moves) same ∙ unmoved) row);
  left = λ reads. same;
  gave = refl;
}
stage_refused addr count old new w was (refusals.BadAddress bad) unmoved same s whole m = record {
  step = inl (row_refused w (calls.Stage addr count) new (refusals.BadAddress bad) (ap (λ (h : Heap). h.moves) same ∙ unmoved)
      (raw_missed w addr (refusals.BadAddress bad) _ (misses old w addr (refusals.BadAddress bad) s whole m)));
  left = λ reads. same;
  gave = refl;
}
stage_refused addr count old new w was (refusals.WrongKind bad number) unmoved same s whole m = record {
  step =
      inl (row_refused w (calls.Stage addr count) new (refusals.WrongKind bad number) (ap (λ (h : Heap). h.moves) same ∙ unmoved)
      (raw_missed w addr (refusals.WrongKind bad number) _ (misses old w addr (refusals.WrongKind bad number) s whole
      (other_of (old.blocks addr) m))));
  left = λ reads. same;
  gave = refl;
}
  where
    other_of : (found : Option base.Block) → ReadStops found addr 0 count (stops.Refused (refusals.WrongKind bad number))
        → MissesRaw found addr (stops.Refused (refusals.WrongKind bad number)) ⊥
    other_of None h = h
    other_of (Some block) h = h
stage_refused addr count old new w was refusal unmoved same s whole m = absurd m
