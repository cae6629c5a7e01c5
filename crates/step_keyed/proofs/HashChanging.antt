-- Calls that change hashes, as steps.
use Rattle.std.proofs.Common.{◌≡◌, ◌∙◌, ◌++◌, ℕ, List, [], ◌∷◌, false, true≢false, inl, length, map, position, set, refl, sym, ap, subst}
use Rattle.std.specs.Prelude.{remove}
use Rattle.step_keyed.proofs.BucketChanges.{inserted_is, removed_is, revised_is}
use Rattle.step_keyed.proofs.HashLemmas.{IsHashAt, addrs_are, hash_is_at}
use Rattle.step_things.proofs.RowLemmas.{full_refused, gave_back, gave_takes, marks_none, moved_nothing, row_refused, short_refused, thing_changed, thing_went, took_one}
use Rattle.step_things.specs.Answering.{Aim, Answered, IsRefused, IsReady}
use Rattle.sdr_stands.specs.Rows.{hash_row}
use Rattle.sdr_stands.specs.Standing.{HeapStandsFor, with_taken_marked}
use Rattle.sdr_base.specs.Entries.{Changes}
use Rattle.sdr_base.specs.Hashes.{hash_entries}
use Rattle.sdr_base.specs.Making.{Made}
use Rattle.sdr_base.specs.Objects.{Heap}
use Rattle.sdr_base.specs.declared.moves.Move.TheVariants.{Took}
use Rattle.sdr_base.specs.declared.refusal.Refusal.{Refusal}
use Rattle.sdr_base.specs.declared.refusal.Refusal.TheVariants as refusals
use Rattle.sdr_base.specs.declared.stop.Stop.TheVariants as stops
use Rattle.sdr_hash.specs.Buckets.{with_value}
use Rattle.sdr_hash.specs.Calls.{ChangeStops, InsertStops, InsertsKey, LacksKey, RemovesKey, RevisesKey}
use Rattle.sdr_hash.specs.Destroying.{DestroyStops, DestroysHash}
use Rattle.sdr_machine.proofs.WorkLemmas.{on_none, on_some}
use Rattle.sdr_model.specs.HashChanges.{with_entry}
use Rattle.sdr_model.specs.HashSteps.{OnKey, entry_addr_or_zero, as_hash, entry_addr, has_key, value_at, value_of}
use Rattle.sdr_model.specs.Hashes.{Hash}
use Rattle.sdr_model.specs.Reading.{is_reading}
use Rattle.sdr_model.specs.Rows.{ByRow}
use Rattle.sdr_model.specs.Steps.{Outcome, gave, with_thing, without_thing}
use Rattle.sdr_model.specs.Things.{entry_need}
use Rattle.sdr_model.specs.World.{World, thing_at}
use Rattle.sdr_model.specs.declared.answer.Reply.TheVariants as replies
use Rattle.sdr_model.specs.declared.call.Call.{Call}
use Rattle.sdr_model.specs.declared.call.Call.TheVariants as calls
use Rattle.sdr_model.specs.declared.things.HashEntry.{HashEntry}
use Rattle.sdr_model.specs.declared.things.Thing.TheVariants as things
use Rattle.step_keyed.proofs.HashReading.{IsKeyAt, bucket_missed, hash_missed, key_at, key_missed, lacks_at, on_hash, on_key}

-- an entry came into a hash
abbrev insert_outcome : World → ℕ → Hash → List ℕ → ℕ → ℕ → Outcome
insert_outcome w addr hash key value block = record {
  moves = Took (entry_need (length key)) block ∷ [];
  after =
      with_taken_marked
      (with_thing w addr (things.Hash (with_entry hash (record { block = block; key = key; value = value }))))
      (Took (entry_need (length key)) block ∷ []);
  reply = replies.Done;
}

-- a call on a heap that stands for a world in which it is served
module _ (old new : Heap) (w : World) (unmoved : old.moves ≡ []) (s : HeapStandsFor old w) (served : IsReady w) where
  -- a key came
  insert_row : (addr : ℕ) (key : List ℕ) (value block : ℕ) (h : IsHashAt old w addr) → LacksKey old.blocks addr key
      → ByRow w (insert_outcome w addr h.hash key value block) (calls.HashInsert addr key value)
  insert_row addr key value block h lacks =
      on_hash old w addr key _ _ h lacks.is
      (on_none _ _ (position (has_key key) h.hash.entries)
      (lacks_at h.hash key h.valid.buckets.0 (lacks.lacks (hash_row h.hash) h.keeps)) (refl, (refl, refl)))

  pub inserted : (addr : ℕ) (key : List ℕ) (value : ℕ) → InsertsKey addr key value old new
      → Answered w (calls.HashInsert addr key value) new [] replies.Done
  inserted addr key value inserts =
      let h = hash_is_at old w addr s served inserts.lacks.is.kind in
      let adds = inserts.adds (hash_row h.hash) h.keeps in
      let entry : HashEntry = record { block = inserts.addr; key = key; value = value } in
      thing_changed w (calls.HashInsert addr key value) addr (things.Hash h.hash) (things.Hash (with_entry h.hash entry))
      (Took (entry_need (length key)) inserts.addr ∷ []) replies.Done old new h.there tt tt s
      (took_one w (entry_need (length key)) inserts.addr old new s served.whole.valid unmoved adds.fresh adds.nonzero adds.small
      inserts.made)
      (subst (λ row. Changes old.blocks new.blocks (hash_entries addr (hash_row h.hash)) (hash_entries addr row))
      (sym (inserted_is h.hash key h.valid.buckets.0 entry refl)) adds.changes)
      (insert_row addr key value inserts.addr h inserts.lacks) refl

  pub uninserted : (addr : ℕ) (key : List ℕ) (value : ℕ) (was : List ℕ) (refusal : Refusal)
      → InsertStops addr key old new (stops.Refused refusal)
      → IsRefused w (calls.HashInsert addr key value) old new was was refusal
  uninserted addr key value was (refusals.BadAddress bad) m =
      bucket_missed old new w unmoved s served (calls.HashInsert addr key value) addr key _ was (refusals.BadAddress bad) m.1 (λ o h. h) m.0
  uninserted addr key value was (refusals.WrongKind bad number) m =
      bucket_missed old new w unmoved s served (calls.HashInsert addr key value) addr key _ was (refusals.WrongKind bad number) m.1 (λ o h. h) m.0
  uninserted addr key value was (refusals.BadKeyLength bytes want) m =
      bucket_missed old new w unmoved s served (calls.HashInsert addr key value) addr key _ was (refusals.BadKeyLength bytes want) m.1 (λ o h. h) m.0
  uninserted addr key value was (refusals.KeyTaken taken) m = record {
    step =
        let k = key_at old w addr key (λ item. item.value) taken s served m.0.is m.0.finds in
        let told : taken ≡ value_at k.at.hash.entries k.told.place = sym (ap value_of k.told.keyed.there ∙ k.told.told) in
        inl (row_refused w (calls.HashInsert addr key value) new (refusals.KeyTaken taken) (ap (λ (h : Heap). h.moves) m.1 ∙ unmoved)
        (on_hash old w addr key _ _ k.at k.is
        (on_some _ _ (position (has_key key) k.at.hash.entries) k.told.place k.told.keyed.at
        (refl, refl, ap (λ n. replies.Refused (refusals.KeyTaken n)) told))));
    left = λ reads. m.1;
    gave = refl;
  }
  uninserted addr key value was refusal m =
      let h = hash_is_at old w addr s served m.0.is.kind in
      short_refused w (calls.HashInsert addr key value) (entry_need (length key)) old new was refusal refl
      (record { after = _; reply = _; row = insert_row addr key value 0 h m.0; answered = refl }) unmoved m.1

  -- why a key isn't changed or taken out
  pub change_refused : (call : Call) (addr : ℕ) (key : List ℕ) (goes : Outcome → Hash → ℕ → Type 0) (was : List ℕ)
      (refusal : Refusal) → ((o : Outcome) → OnKey w o addr key (goes o) → ByRow w o call) → is_reading call ≡ false
      → ((n : ℕ) → IsKeyAt old w addr key (λ item. item.addr) n → Aim w call) → ChangeStops addr key old new (stops.Refused refusal)
      → IsRefused w call old new was was refusal
  change_refused call addr key goes was (refusals.BadAddress bad) row changing aim m =
      bucket_missed old new w unmoved s served call addr key _ was (refusals.BadAddress bad) m.1 row m.0
  change_refused call addr key goes was (refusals.WrongKind bad number) row changing aim m =
      bucket_missed old new w unmoved s served call addr key _ was (refusals.WrongKind bad number) m.1 row m.0
  change_refused call addr key goes was (refusals.BadKeyLength bytes want) row changing aim m =
      bucket_missed old new w unmoved s served call addr key _ was (refusals.BadKeyLength bytes want) m.1 row m.0
  change_refused call addr key goes was refusals.NotFound row changing aim m = key_missed old new w unmoved s served call addr key goes was m.1 row m.0
  change_refused call addr key goes was refusal row changing aim m =
      full_refused w call old new was refusal changing
      (aim m.0.addr (key_at old w addr key (λ item. item.addr) m.0.addr s served m.0.is m.0.here)) m.1

  -- a key got another value
  abbrev revised_hash : Hash → List ℕ → ℕ → ℕ → Hash
  revised_hash hash key value place = record hash {
    entries = set hash.entries place (record { block = entry_addr hash.entries place; key = key; value = value });
  }

  pub revised : (addr : ℕ) (key : List ℕ) (value : ℕ) → RevisesKey addr key value old new
      → Answered w (calls.HashRevise addr key value) new [] replies.Done
  revised addr key value revises =
      let k = key_at old w addr key (λ item. item.addr) revises.has.addr s served revises.has.is revises.has.here in
      let hash = k.at.hash in
      let place = k.told.place in
      let same : hash_row (revised_hash hash key value place) ≡ with_value (hash_row hash) key value =
      ap (λ (b : ℕ). hash_row (record hash {
        entries = set hash.entries place (record { block = b; key = key; value = value });
      })) (ap entry_addr_or_zero k.told.keyed.there)
      ∙ revised_is hash key k.at.valid.buckets.0 place k.told.keyed value in
      thing_changed w (calls.HashRevise addr key value) addr (things.Hash hash)
      (things.Hash (revised_hash hash key value place)) [] replies.Done old new k.at.there tt tt s
      (moved_nothing w old new unmoved revises.same)
      (subst (λ row. Changes old.blocks new.blocks (hash_entries addr (hash_row hash)) (hash_entries addr row)) (sym same)
      (revises.changes (hash_row hash) k.at.keeps))
      (on_key old w addr key _ _ _ _ k
      (refl, marks_none (with_thing w addr (things.Hash (revised_hash hash key value place))) [] refl, refl)) refl

  pub unrevised : (addr : ℕ) (key : List ℕ) (value : ℕ) (was : List ℕ) (refusal : Refusal)
      → ChangeStops addr key old new (stops.Refused refusal)
      → IsRefused w (calls.HashRevise addr key value) old new was was refusal
  unrevised addr key value was refusal m =
      change_refused (calls.HashRevise addr key value) addr key _ was refusal (λ o h. h) refl
      (λ n k. record {
        to = record {
          moves = [];
          after = record (with_thing w addr (things.Hash (revised_hash k.at.hash key value k.told.place))) { shown = [] };
          reply = replies.Done;
        };
        row = on_key old w addr key _ _ _ _ k (refl, refl, refl);
        answered = refl;
      }) m

  -- a key was taken out
  abbrev shorter_hash : Hash → ℕ → Hash
  shorter_hash hash place = record hash { entries = remove hash.entries place }

  pub removed : (addr : ℕ) (key : List ℕ) → RemovesKey addr key old new
      → Answered w (calls.HashRemove addr key) new [] replies.Done
  removed addr key removes =
      let k = key_at old w addr key (λ item. item.addr) removes.has.addr s served removes.has.is removes.has.here in
      let hash = k.at.hash in
      let place = k.told.place in
      let block = entry_addr hash.entries place in
      let same : removes.has.addr ≡ block = sym (ap entry_addr_or_zero k.told.keyed.there ∙ k.told.told) in
      let made : Made (gave (block ∷ [])) old new = subst (λ (b : ℕ). Made (gave (b ∷ [])) old new) same removes.made in
      thing_changed w (calls.HashRemove addr key) addr (things.Hash hash) (things.Hash (shorter_hash hash place))
      (gave (block ∷ [])) replies.Done old new k.at.there tt tt s (gave_back w (block ∷ []) old new unmoved made)
      (subst (λ row. Changes old.blocks new.blocks (hash_entries addr (hash_row hash)) (hash_entries addr row))
      (sym (removed_is hash key k.at.valid.buckets.0 place k.told.keyed)) (removes.changes (hash_row hash) k.at.keeps))
      (on_key old w addr key _ _ _ _ k
      (refl, marks_none (with_thing w addr (things.Hash (shorter_hash hash place))) (gave (block ∷ [])) refl, refl)) refl

  pub unremoved : (addr : ℕ) (key was : List ℕ) (refusal : Refusal) → ChangeStops addr key old new (stops.Refused refusal)
      → IsRefused w (calls.HashRemove addr key) old new was was refusal
  unremoved addr key was refusal m =
      change_refused (calls.HashRemove addr key) addr key _ was refusal (λ o h. h) refl
      (λ n k. record {
        to = record {
          moves = gave (entry_addr k.at.hash.entries k.told.place ∷ []);
          after = record (with_thing w addr (things.Hash (shorter_hash k.at.hash k.told.place))) { shown = [] };
          reply = replies.Done;
        };
        row = on_key old w addr key _ _ _ _ k (refl, refl, refl);
        answered = refl;
      }) m

  -- a hash went with its entries
  abbrev blocks_in : ℕ → Hash → List ℕ
  blocks_in addr hash = map (λ (e : HashEntry). e.block) hash.entries ++ addr ∷ []

  pub destroyed : (addr : ℕ) → DestroysHash addr old new → Answered w (calls.HashDestroy addr) new [] replies.Done
  destroyed addr destroys =
      let h = hash_is_at old w addr s served destroys.kind in
      let made : Made (gave (blocks_in addr h.hash)) old new =
      subst (λ (addrs : List ℕ). Made (gave (addrs ++ addr ∷ [])) old new) (addrs_are h.hash h.valid)
      (destroys.made (hash_row h.hash) h.keeps) in
      thing_went w (calls.HashDestroy addr) addr (things.Hash h.hash) (gave (blocks_in addr h.hash)) replies.Done old new
      h.there tt s
      (gave_back w (blocks_in addr h.hash) old new unmoved made) (destroys.changes (hash_row h.hash) h.keeps)
      (on_some _ _ (as_hash (thing_at w addr)) h.hash (ap as_hash h.there)
      (refl, marks_none (without_thing w addr) (gave (blocks_in addr h.hash)) (gave_takes (blocks_in addr h.hash)), refl)) refl

  pub undestroyed : (addr : ℕ) (was : List ℕ) (refusal : Refusal) → DestroyStops addr old new (stops.Refused refusal)
      → IsRefused w (calls.HashDestroy addr) old new was was refusal
  undestroyed addr was (refusals.BadAddress bad) m =
      hash_missed old new w unmoved s served (calls.HashDestroy addr) addr _ was (refusals.BadAddress bad) m.1 (λ o h. h) m.0
  undestroyed addr was (refusals.WrongKind bad number) m =
      hash_missed old new w unmoved s served (calls.HashDestroy addr) addr _ was (refusals.WrongKind bad number) m.1 (λ o h. h) m.0
  undestroyed addr was (refusals.LogFull lines room) m = record {
    step =
        let h = hash_is_at old w addr s served m.kind in (
          record {
            to = record {
              moves = gave (blocks_in addr h.hash);
              after = record (without_thing w addr) { shown = [] };
              reply =
                  replies.Done;
            };
            row = on_some _ _ (as_hash (thing_at w addr)) h.hash (ap as_hash h.there) (refl, refl, refl);
            answered = refl;
          },
          refl,
        );
    left = λ reads. absurd (true≢false (sym reads));
    gave = refl;
  }
  undestroyed addr was refusal m = absurd m
