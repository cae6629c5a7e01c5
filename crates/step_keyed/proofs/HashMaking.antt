-- New hashes, as steps.
use Rattle.std.proofs.Common.{◌≡◌, ◌∙◌, ◌<◌, ◌⊎◌, ℕ, List, [], ◌∷◌, true, false, inl, inr, refl, ap, subst, arith}
use Rattle.std.proofs.lemmas.Bool.Decides.{nat_tests}
use Rattle.step_keyed.proofs.BucketChanges.{empty_is}
use Rattle.step_things.proofs.RowLemmas.{row_refused, short_refused, thing_made}
use Rattle.step_things.specs.Answering.{Answered, IsRefused, IsReady}
use Rattle.sdr_stands.specs.Standing.{HeapStandsFor, with_taken_marked}
use Rattle.sdr_base.specs.Hashes.{hash_entries}
use Rattle.sdr_base.specs.Making.{MakesThing}
use Rattle.sdr_base.specs.Objects.{Heap}
use Rattle.sdr_base.specs.declared.moves.Move.TheVariants.{Took}
use Rattle.sdr_base.specs.declared.refusal.Refusal.{Refusal}
use Rattle.sdr_base.specs.declared.refusal.Refusal.TheVariants as refusals
use Rattle.sdr_base.specs.declared.stop.Stop.TheVariants as stops
use Rattle.sdr_hash.specs.Calls.{CreateStops, MakesHash}
use Rattle.sdr_hash.specs.Kept.{IsCount, IsKeyLength, IsShape}
use Rattle.sdr_machine.proofs.WorkLemmas.{on_false, on_true}
use Rattle.sdr_model.specs.HashSteps.{is_no_count, is_no_key_length}
use Rattle.sdr_model.specs.Hashes.{Hash}
use Rattle.sdr_model.specs.Limits.{longest_key, most_buckets}
use Rattle.sdr_model.specs.Rows.{ByRow}
use Rattle.sdr_model.specs.Steps.{Outcome, with_thing}
use Rattle.sdr_model.specs.Things.{hash_need}
use Rattle.sdr_model.specs.World.{World}
use Rattle.sdr_model.specs.declared.answer.Reply.TheVariants as replies
use Rattle.sdr_model.specs.declared.call.Call.TheVariants as calls
use Rattle.sdr_model.specs.declared.things.Thing.TheVariants as things

-- whether the shape of a new hash is allowed
key_fits : (key_length : ℕ) → IsKeyLength key_length → is_no_key_length key_length ≡ false
key_fits n is = grind (arith, nat_tests, is.some, is.short)

no_key : (key_length : ℕ) → (key_length ≡ 0) ⊎ (longest_key < key_length) → is_no_key_length key_length ≡ true
no_key n (inl none) = grind (arith, nat_tests, none)
no_key n (inr long) = grind (arith, nat_tests, long)

count_fits : (buckets : ℕ) → IsCount buckets → is_no_count buckets ≡ false
count_fits n is = grind (arith, nat_tests, is.some, is.few)

no_count : (buckets : ℕ) → (buckets ≡ 0) ⊎ (most_buckets < buckets) → is_no_count buckets ≡ true
no_count n (inl none) = grind (arith, nat_tests, none)
no_count n (inr many) = grind (arith, nat_tests, many)

-- a hash without entries
abbrev new_hash : ℕ → ℕ → Hash
new_hash key_length buckets = record { key_length = key_length; buckets = buckets; entries = [] }

-- a hash was made
abbrev hash_outcome : World → ℕ → ℕ → ℕ → Outcome
hash_outcome w key_length buckets addr = record {
  moves = Took (hash_need buckets) addr ∷ [];
  after = with_taken_marked (with_thing w addr (things.Hash (new_hash key_length buckets)))
      (Took (hash_need buckets) addr ∷ []);
  reply = replies.At addr;
}

hash_made_row : (w : World) (key_length buckets addr : ℕ) → IsShape key_length buckets
    → ByRow w (hash_outcome w key_length buckets addr) (calls.Hash key_length buckets)
hash_made_row w key_length buckets addr shape =
    on_false _ _ _ (key_fits key_length shape.key) (on_false _ _ _ (count_fits buckets shape.count) (refl, (refl, refl)))

-- a call on a heap that stands for a world in which it is served
module _ (old new : Heap) (w : World) (unmoved : old.moves ≡ []) (s : HeapStandsFor old w) (served : IsReady w) where
  -- a hash was made
  pub hash_made : (key_length buckets addr : ℕ) → MakesHash key_length buckets addr old new
      → Answered w (calls.Hash key_length buckets) new [] (replies.At addr)
  hash_made key_length buckets addr made =
      thing_made w (calls.Hash key_length buckets) (hash_need buckets) addr (things.Hash (new_hash key_length buckets)) old new
      unmoved s served.whole.valid tt
      (subst (λ row. MakesThing (hash_need buckets) addr (hash_entries addr row) old new) (empty_is key_length buckets) made.makes)
      (hash_made_row w key_length buckets addr made.shape)

  pub hash_unmade : (key_length buckets : ℕ) (was : List ℕ) (refusal : Refusal)
      → CreateStops key_length buckets old new (stops.Refused refusal)
      → IsRefused w (calls.Hash key_length buckets) old new was was refusal
  hash_unmade key_length buckets was (refusals.BadKeyLength bytes want) m = record {
    step =
        inl (row_refused w (calls.Hash key_length buckets) new (refusals.BadKeyLength bytes want) (ap (λ (h : Heap). h.moves) m.1 ∙ unmoved)
        (on_true _ _ _ (no_key key_length m.0.2)
        (refl, refl, λ i. replies.Refused (refusals.BadKeyLength (m.0.0 i) (m.0.1 i)))));
    left = λ reads. m.1;
    gave = refl;
  }
  hash_unmade key_length buckets was (refusals.BadRow row rows) m = record {
    step =
        inl (row_refused w (calls.Hash key_length buckets) new (refusals.BadRow row rows) (ap (λ (h : Heap). h.moves) m.1 ∙ unmoved)
        (on_false _ _ _ (key_fits key_length m.0.2) (on_true _ _ _ (no_count buckets m.0.3)
        (refl, refl, λ i. replies.Refused (refusals.BadRow (m.0.0 i) (m.0.1 i))))));
    left = λ reads. m.1;
    gave = refl;
  }
  hash_unmade key_length buckets was refusal m =
      short_refused w (calls.Hash key_length buckets) (hash_need buckets) old new was refusal refl
      (record { after = _; reply = _; row = hash_made_row w key_length buckets 0 m.0; answered = refl }) unmoved m.1
