-- The shapes of the rows of sources.
use Rattle.std.proofs.Common.{◌≡◌, ◌≤◌, ◌==◌, ℕ, List, [], ◌∷◌, Bool, true, false, cond, Some, is_some, length, nat_lt, refl, sym, ap, ◌∙◌, arith, true≢false, MatchBool}
use Rattle.std.proofs.lemmas.Bool.{ltb-false}
use Rattle.law_steps.proofs.Alike.{itself}
use Rattle.law_steps.proofs.Changes.{thing_limits}
use Rattle.law_steps.proofs.HashShapes.{between}
use Rattle.law_steps.proofs.Shapes.{Shape, does, on_addr, on_failed, on_none, reads_named, takes_one}
use Rattle.law_steps.proofs.ThingChanges.{goes, makes, stays}
use Rattle.law_steps.proofs.ThingLemmas.{raw_is, source_is}
use Rattle.sdr_model.specs.Limits.{is_no_path, longest_path, longest_raw, longest_source}
use Rattle.sdr_model.specs.SourceSteps as source
use Rattle.sdr_model.specs.Steps.{Does, Outcome, gave, with_thing, without_thing}
use Rattle.sdr_model.specs.Things.{source_need}
use Rattle.sdr_model.specs.Valid.{IsValidSource}
use Rattle.sdr_model.specs.World.{World, as_raw, thing_at}
use Rattle.sdr_model.specs.Zco.{owned_raw, source_at, source_naming, uses_of}
use Rattle.sdr_model.specs.declared.answer.Reply.TheVariants as replies
use Rattle.sdr_model.specs.declared.call.Call.TheVariants as calls
use Rattle.sdr_model.specs.declared.things.Thing.TheVariants as things
use Rattle.sdr_model.specs.declared.zco.Subject.TheVariants as subjects
use Rattle.sdr_model.specs.declared.zco.ZcoSource.{ZcoSource}

-- a source of a raw object keeps its limits, whether it takes it over or not
pub valid_taken_over : (raw bytes : ℕ) → bytes ≤ longest_raw → IsValidSource (source.new_source (subjects.Heap raw) bytes)
valid_taken_over raw bytes short = record { subject = tt; length = omega (arith, short); unflagged = λ _. refl }

pub valid_on_raw : (raw bytes : ℕ) → bytes ≤ longest_raw → IsValidSource (source.new_source (subjects.Obj raw) bytes)
valid_on_raw raw bytes short = record { subject = tt; length = omega (arith, short); unflagged = λ _. refl }

module _ {w : World} {o : Outcome} where
  pub file_ref : (path : List ℕ) (bytes : ℕ) → source.FileRef w o path bytes → Shape w (calls.FileRef path bytes) o
  file_ref path bytes h =
      on_failed (is_no_path (length path)) _ h refl (λ named h.
      on_failed (nat_lt longest_source bytes) _ h refl (λ short made.
      takes_one (source_need (length path)) _ made refl (λ at. refl)
      (makes (source_need (length path)) (things.Source (source.new_source (subjects.File path) bytes)) _ refl
      (λ a. refl) (λ a. refl)
      (λ limits. record {
        subject = between 1 longest_path (length path) named;
        length = ltb-false _ _ short;
        unflagged = λ _. refl;
      }) (λ a. itself) made)))

  pub bulk_ref : (item bytes : ℕ) → source.BulkRef w o item bytes → Shape w (calls.BulkRef item bytes) o
  bulk_ref item bytes h =
      on_failed (nat_lt longest_source bytes) _ h refl (λ short made.
      takes_one (source_need 0) _ made refl (λ at. refl)
      (makes (source_need 0) (things.Source (source.new_source (subjects.Bulk item) bytes)) _ refl
      (λ a. refl) (λ a. refl)
      (λ limits. record { subject = tt; length = ltb-false _ _ short; unflagged = λ _. refl }) (λ a. itself) made))

  pub obj_ref : (raw : ℕ) → source.ObjRef w o raw → Shape w (calls.ObjRef raw) o
  obj_ref raw h =
      on_addr raw (as_raw (thing_at w raw)) h (λ bytes is h.
      on_none (source_naming w raw) _ h (λ s. refl) (λ unnamed made.
      takes_one (source_need 0) _ made refl (λ at. refl)
      (makes (source_need 0) (things.Source (source.new_source (subjects.Obj raw) (length bytes))) _ refl
      (λ a. refl) (λ a. refl)
      (λ limits. valid_on_raw raw (length bytes) (thing_limits w raw (things.Raw bytes) (raw_is _ _ is) limits))
      (λ a. itself) made)))

  pub destroy_ref : (addr : ℕ) → source.DestroyRef w o addr → Shape w (calls.DestroyRef addr) o
  destroy_ref addr h =
      on_addr addr (source_at w addr) h (λ s is h.
      on_failed (is_some (owned_raw s)) _ h refl (λ free h.
      on_failed s.flagged _ h refl (λ fresh h.
      used s (source_is _ _ is) free (uses_of w addr == 0) refl h)))
    where
      used : (s : ZcoSource) → thing_at w addr ≡ Some (things.Source s) → is_some (owned_raw s) ≡ false → (b : Bool)
          → (uses_of w addr == 0) ≡ b
          → MatchBool b (Does o (gave (addr ∷ [])) (without_thing w addr) replies.Done)
          (Does o [] (with_thing w addr (things.Source (source.flagged s))) replies.Done)
          → Shape w (calls.DestroyRef addr) o
      used s is free true unused d =
          does d refl (λ at. ap (λ b. gave (cond b (addr ∷ []) [])) unused)
          (goes addr (things.Source s) [] is refl itself d)
      used s is free false unused d =
          does d refl (λ at. ap (λ b. gave (cond b (addr ∷ []) [])) unused)
          (stays addr (things.Source s) (things.Source (source.flagged s)) is itself d (λ valid. refl)
          (λ valid. record {
            subject = valid.subject;
            length = valid.length;
            unflagged = λ owned. absurd (true≢false (sym owned ∙ free));
          }))

  pub count : (addr : ℕ) → source.Count w o addr → Shape w (calls.Count addr) o
  count addr h = reads_named addr (source_at w addr) _ _ h refl (λ s. refl) (λ at. refl) (λ b. refl)
