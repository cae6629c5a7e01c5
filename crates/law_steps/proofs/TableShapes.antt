-- The shapes of the rows of tables.
use Rattle.std.proofs.Common.{◌≡◌, ℕ, ◌+◌, ◌*◌, ◌==◌, false, List, [], ◌∷◌, Some, length, nat_le, nat_lt, replicate, refl, ap, ◌∙◌, arith}
use Rattle.std.proofs.lemmas.Bool.{eqb-true, leb-false, ltb-false}
use Rattle.std.proofs.lemmas.List.{length-replicate}
use Rattle.sdr_base.proofs.PartsLemmas.{length-overwrite}
use Rattle.sdr_base.specs.Parts.{overwrite}
use Rattle.sdr_base.specs.declared.kind.Kind.TheVariants as kinds
use Rattle.law_steps.proofs.Alike.{itself}
use Rattle.law_steps.proofs.Shapes.{Shape, on_failed, on_passed, on_addr, reads, reads_named, takes_one, does}
use Rattle.law_steps.proofs.ThingChanges.{goes, stays, makes}
use Rattle.law_steps.proofs.ThingLemmas.{table_is}
use Rattle.sdr_model.proofs.TableLemmas.{row-within}
use Rattle.sdr_model.specs.Limits.{longest_raw, longest_read}
use Rattle.sdr_model.specs.Steps.{Outcome}
use Rattle.sdr_model.specs.TableSteps as table
use Rattle.sdr_model.specs.Tables.{Table}
use Rattle.sdr_model.specs.Things.{table_need}
use Rattle.sdr_model.specs.Valid.{IsValidTable}
use Rattle.sdr_model.specs.World.{World, thing_at}
use Rattle.sdr_model.specs.declared.call.Call.{Call}
use Rattle.sdr_model.specs.declared.call.Call.TheVariants as calls
use Rattle.sdr_model.specs.declared.things.UsedBlock.{UsedBlock}
use Rattle.sdr_model.specs.declared.things.Thing.TheVariants as things

-- the bytes of a table after a row is set are as many as before
row_set : (t : Table) (row : ℕ) (from : List ℕ) → IsValidTable t → nat_le t.rows row ≡ false → length from ≡ t.size
    → length (overwrite (t.size * row) from t.bytes) ≡ length t.bytes
row_set t row from valid inside whole =
    length-overwrite (t.size * row) from t.bytes
    (omega (arith, whole, row-within t.rows t.size row (length t.bytes) (leb-false _ _ inside) valid.bytes))

module _ {w : World} {o : Outcome} where
  pub make_table : (rows size user : ℕ) → table.MakeTable w o rows size user → Shape w (calls.Table rows size user) o
  make_table rows size user h =
      on_failed (nat_lt longest_raw rows) _ h refl (λ few h.
      on_failed (nat_lt longest_raw size) _ h refl (λ short h.
      on_failed (nat_lt longest_raw (rows * size)) _ h refl (λ fits made.
      takes_one (table_need rows size) _ made refl (λ at. refl)
      (makes (table_need rows size)
      (things.Table (record { user = user; rows = rows; size = size; bytes = replicate (rows * size) 0 })) _ refl
      (λ a. omega (arith, length-replicate {A = ℕ} (rows * size) 0)) (λ a. refl)
      (λ limits. record {
        rows = ltb-false _ _ few;
        size = ltb-false _ _ short;
        all_rows = ltb-false _ _ fits;
        bytes =
            length-replicate {A = ℕ} (rows * size) 0;
      })
      (λ a. itself) made))))

  -- a call on a row of a table
  on_row : {call : Call} (addr row : ℕ) (Q : Table → Type 0) → table.OnRow w o addr row Q
      → ((t : Table) → table.as_table (thing_at w addr) ≡ Some t → nat_le t.rows row ≡ false → Q t → Shape w call o)
      → Shape w call o
  on_row addr row Q h goes =
      on_addr addr (table.as_table (thing_at w addr)) h (λ t is h.
      on_failed (nat_le t.rows row) _ h refl (goes t is))

  pub row : (addr at : ℕ) → table.Row w o addr at → Shape w (calls.Row addr at) o
  row addr at h =
      on_row addr at _ h (λ t is inside h.
      on_failed (nat_lt longest_read t.size) _ h refl (λ short r.
      reads r refl refl (λ _. refl) refl))

  pub set_row : (addr at : ℕ) (from : List ℕ) → table.SetRow w o addr at from → Shape w (calls.SetRow addr at from) o
  set_row addr at from h =
      on_row addr at _ h (λ t is inside h.
      on_passed (length from == t.size) _ h refl (λ whole d.
      let block : ℕ → List UsedBlock = λ n. record { addr = addr; kind = kinds.Table; bytes = 24 + n } ∷ [] in
      does d refl (λ _. refl)
      (stays addr (things.Table t) (things.Table (record t { bytes = overwrite (t.size * at) from t.bytes }))
      (table_is _ _ is) itself d
      (λ valid. ap block (row_set t at from valid inside (eqb-true _ _ whole)))
      (λ valid. record {
        rows = valid.rows;
        size = valid.size;
        all_rows = valid.all_rows;
        bytes =
            row_set t at from valid inside (eqb-true _ _ whole) ∙ valid.bytes;
      }))))

  pub dimensions : (addr : ℕ) → table.Dimensions w o addr → Shape w (calls.Dimensions addr) o
  dimensions addr h = reads_named addr (table.as_table (thing_at w addr)) _ _ h refl (λ t. refl) (λ at. refl)
      (λ b. refl)

  pub table_user : (addr : ℕ) → table.TableUser w o addr → Shape w (calls.TableUser addr) o
  table_user addr h = reads_named addr (table.as_table (thing_at w addr)) _ _ h refl (λ t. refl) (λ at. refl)
      (λ b. refl)

  pub table_destroy : (addr : ℕ) → table.TableDestroy w o addr → Shape w (calls.TableDestroy addr) o
  table_destroy addr h =
      on_addr addr (table.as_table (thing_at w addr)) h (λ t is d.
      does d refl (λ at. refl) (goes addr (things.Table t) [] (table_is _ _ is) refl itself d))
