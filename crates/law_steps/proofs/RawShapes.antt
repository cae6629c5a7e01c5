-- The shapes of the rows of raw objects and strings.
use Rattle.std.proofs.Common.{◌≡◌, ℕ, ◌+◌, List, [], ◌∷◌, Option, Some, length, nat_lt, replicate, refl, ap, arith}
use Rattle.std.proofs.lemmas.Bool.{ltb-false}
use Rattle.std.proofs.lemmas.List.{length-replicate}
use Rattle.sdr_base.proofs.PartsLemmas.{length-overwrite}
use Rattle.sdr_base.specs.Parts.{overwrite}
use Rattle.sdr_base.specs.declared.kind.Kind.TheVariants as kinds
use Rattle.law_steps.proofs.Alike.{itself}
use Rattle.law_steps.proofs.Changes.{thing_limits}
use Rattle.law_steps.proofs.Shapes.{Shape, misnamed-IsOfRow, on_failed, on_passed, on_none, on_addr, reads, takes_one, does}
use Rattle.law_steps.proofs.ThingChanges.{goes, stays, makes}
use Rattle.law_steps.proofs.ThingLemmas.{raw_is, text_is}
use Rattle.sdr_model.specs.Limits.{longest_raw, longest_string, longest_read}
use Rattle.sdr_model.specs.RawSteps as raw
use Rattle.sdr_model.specs.RowMoves.{text_length, takes}
use Rattle.sdr_model.specs.Steps.{Outcome}
use Rattle.sdr_model.specs.Things.{raw_need, text_need}
use Rattle.sdr_model.specs.World.{World, thing_at, block_at, as_raw, as_text, is_marked, misnamed}
use Rattle.sdr_model.specs.Zco.{source_naming}
use Rattle.sdr_model.specs.declared.call.Call.TheVariants as calls
use Rattle.sdr_model.specs.declared.things.UsedBlock.{UsedBlock}
use Rattle.sdr_model.specs.declared.things.Thing.{Thing}
use Rattle.sdr_model.specs.declared.things.Thing.TheVariants as things

module _ {w : World} {o : Outcome} where
  pub malloc : (bytes : ℕ) → raw.Malloc w o bytes → Shape w (calls.Malloc bytes) o
  malloc bytes h =
      on_failed (nat_lt longest_raw bytes) _ h refl (λ fits made.
      takes_one (raw_need bytes) _ made refl (λ at. refl)
      (makes (raw_need bytes) (things.Raw (replicate bytes 0)) _ refl
      (λ a. ap raw_need (length-replicate {A = ℕ} bytes 0))
      (λ a. refl) (λ limits. omega (arith, length-replicate {A = ℕ} bytes 0, ltb-false longest_raw bytes fits))
      (λ a. itself) made))

  freed : (addr : ℕ) (t : Option Thing) → thing_at w addr ≡ t → raw.FreesThing w o addr (as_raw t) (as_text t)
      → Shape w (calls.Free addr) o
  freed addr (Some (things.Raw bytes)) is h =
      on_none (source_naming w addr) _ h (λ s. refl) (λ unnamed d.
      does d refl (λ at. refl) (goes addr (things.Raw bytes) [] is refl itself d))
  freed addr (Some (things.Text text)) is h =
      does h refl (λ at. refl) (goes addr (things.Text text) [] is refl itself h)
  freed addr t is h = Shape.refuses (misnamed w addr) (misnamed-IsOfRow w addr) h

  pub free : (addr : ℕ) → raw.Free w o addr → Shape w (calls.Free addr) o
  free addr h = freed addr (thing_at w addr) refl h

  pub length_of : (addr : ℕ) → raw.Length w o addr → Shape w (calls.Length addr) o
  length_of addr h = on_addr addr (block_at w addr) h (λ b is r. reads r refl refl (λ at. refl) refl)

  pub read : (addr place count : ℕ) → raw.Read w o addr place count → Shape w (calls.Read addr place count) o
  read addr place count h =
      on_addr addr (as_raw (thing_at w addr)) h (λ bytes is h.
      on_failed (nat_lt longest_read count) _ h refl (λ short h.
      on_failed (nat_lt (length bytes) (place + count)) _ h refl (λ within r.
      reads r refl refl (λ at. refl) refl)))

  pub write : (addr place : ℕ) (from : List ℕ) → raw.Write w o addr place from → Shape w (calls.Write addr place from) o
  write addr place from h =
      on_addr addr (as_raw (thing_at w addr)) h (λ bytes is h.
      on_failed (nat_lt (length bytes) (place + length from)) _ h refl (λ within h.
      on_passed (is_marked w addr) _ h refl (λ marked d.
      let same : length (overwrite place from bytes) ≡ length bytes =
      length-overwrite place from bytes (ltb-false _ _ within) in
      let block : ℕ → List UsedBlock = λ n. record { addr = addr; kind = kinds.Raw; bytes = raw_need n } ∷ [] in
      does d refl (λ at. refl)
      (stays addr (things.Raw bytes) (things.Raw (overwrite place from bytes)) (raw_is _ _ is) itself d
      (λ valid. ap block same) (λ valid. omega (arith, same, valid))))))

  pub stage : (addr count : ℕ) → raw.Stage w o addr count → Shape w (calls.Stage addr count) o
  stage addr count h =
      on_addr addr (as_raw (thing_at w addr)) h (λ bytes is h.
      on_failed (nat_lt longest_read count) _ h refl (λ short h.
      on_failed (nat_lt (length bytes) count) _ h refl (λ within r.
      reads r refl refl (λ at. refl) refl)))

  pub make_text : (text : List ℕ) → raw.Text w o text → Shape w (calls.String text) o
  make_text text h =
      on_failed (nat_lt longest_string (length text)) _ h refl (λ fits made.
      takes_one (text_need (length text)) _ made refl (λ at. refl)
      (makes (text_need (length text)) (things.Text text) _ refl (λ a. refl) (λ a. refl) (λ limits. ltb-false _ _ fits)
      (λ a. itself) made))

  pub text_length_of : (addr : ℕ) → raw.TextLength w o addr → Shape w (calls.StringLength addr) o
  text_length_of addr h = on_addr addr (as_text (thing_at w addr)) h (λ text is r. reads r refl refl (λ at. refl) refl)

  pub text_read : (addr : ℕ) → raw.TextRead w o addr → Shape w (calls.StringRead addr) o
  text_read addr h = on_addr addr (as_text (thing_at w addr)) h (λ text is r. reads r refl refl (λ at. refl) refl)

  pub text_dup : (addr : ℕ) → raw.TextDup w o addr → Shape w (calls.StringDup addr) o
  text_dup addr h = on_addr addr (as_text (thing_at w addr)) h (λ text is made.
      takes_one (text_need (length text)) _ made refl (λ at. ap (λ t. takes at (text_need (text_length t))) is)
      (makes (text_need (length text)) (things.Text text) _ refl (λ a. refl) (λ a. refl)
      (λ limits. thing_limits w addr (things.Text text) (text_is _ _ is) limits) (λ a. itself) made))
