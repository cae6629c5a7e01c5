-- Tables in blocks.
use Rattle.std.proofs.Common.{◌≡◌, ◌∙◌, ◌≤◌, ◌*◌, ℕ, [], ◌∷◌, false, Option, None, Some, cond, find, nat_lt, refl, ap, subst, arith}
use Rattle.std.specs.Prelude.{IfSome}
use Rattle.std.proofs.lemmas.Bool.Decides.{nat_tests}
use Rattle.step_things.proofs.KindLemmas.{own_in_use, thing_is_at}
use Rattle.step_things.specs.Answering.{IsReady}
use Rattle.sdr_stands.proofs.ChangeLemmas.{apart}
use Rattle.sdr_stands.specs.Rows.{table_row}
use Rattle.sdr_stands.specs.Standing.{HeapStandsFor}
use Rattle.sdr_base.proofs.StandingLemmas.{found}
use Rattle.sdr_base.specs.Blocks.{IsKind}
use Rattle.sdr_base.specs.Objects.{Heap}
use Rattle.sdr_base.specs.Tables.{table_block}
use Rattle.sdr_base.specs.declared.kind.Kind.TheVariants as kinds
use Rattle.sdr_model.specs.Fields.{FitsThing, IsWord}
use Rattle.sdr_model.specs.Limits.{longest_raw}
use Rattle.sdr_model.specs.TableSteps.{as_table}
use Rattle.sdr_model.specs.Tables.{Table}
use Rattle.sdr_model.specs.Things.{own_block}
use Rattle.sdr_model.specs.Valid.{IsValid, IsValidThing}
use Rattle.sdr_model.specs.World.{World, thing_at}
use Rattle.sdr_model.specs.declared.things.Thing.{Thing}
use Rattle.sdr_model.specs.declared.things.Thing.TheVariants as things
use Rattle.sdr_table.specs.Kept.{KeepsTable, first_above}

-- a table, and its block
pub record IsTableAt (heap : Heap) (w : World) (addr : ℕ) : Type 0 where
  pub table : Table
  pub there : thing_at w addr ≡ Some (things.Table table)
  pub keeps : KeepsTable (heap.blocks addr) (table_row table)

-- the counts of a table that aren't too many
none_above : (rows size : ℕ) → rows ≤ longest_raw → size ≤ longest_raw → rows * size ≤ longest_raw → first_above rows size ≡ None
none_above rows size a b c =
    let first : nat_lt longest_raw rows ≡ false = grind (arith, nat_tests, a) in
    let second : nat_lt longest_raw size ≡ false = grind (arith, nat_tests, b) in
    let third : nat_lt longest_raw (rows * size) ≡ false = grind (arith, nat_tests, c) in
    ap (λ t. cond t (Some rows) (find (nat_lt longest_raw) (size ∷ rows * size ∷ []))) first
    ∙ ap (λ t. cond t (Some size) (find (nat_lt longest_raw) (rows * size ∷ []))) second
    ∙ ap (λ t. cond t (Some (rows * size)) None) third

own_table : (addr : ℕ) (thing : Thing) → (own_block addr thing).kind ≡ kinds.Table
    → (table : Table) × (thing ≡ things.Table table)
own_table addr (things.Table table) is = (table, refl)
own_table addr thing is = absurd cc

-- a block in use of the kind of tables is a table's
pub table_is_at : (heap : Heap) (w : World) (addr : ℕ) → HeapStandsFor heap w → IsReady w → IsKind (heap.blocks addr) kinds.Table
    → IsTableAt heap w addr
table_is_at heap w addr s served kind =
    let t = thing_is_at heap w addr kinds.Table s served.whole.valid refl kind in
    let table = own_table addr t.thing t.kind_is in
    let there = t.there ∙ ap Some table.1 in
    let a = apart addr (things.Table table.0) s there in
    let valid = subst (λ (o : Option Thing). IfSome o IsValidThing) there (served.whole.valid.things addr) in
    let fits = subst (λ (o : Option Thing). IfSome o (λ thing. IsWord addr × FitsThing thing)) there (served.fits.things addr) in
    record {
      table = table.0;
      there = there;
      keeps = record {
        block = found heap.blocks addr (table_block (table_row table.0)) [] a.rest a.stands;
        filled = valid.bytes;
        fits = none_above table.0.rows table.0.size valid.rows valid.size valid.all_rows;
        user = fits.1.0;
      };
    }

-- and where there is none, no table is
pub no_table : (heap : Heap) (w : World) (addr : ℕ) → HeapStandsFor heap w → IsValid w → ¬ IsKind (heap.blocks addr) kinds.Table
    → as_table (thing_at w addr) ≡ None
no_table heap w addr s valid other = by (thing_at w addr) refl
  where
    by : (o : Option Thing) → thing_at w addr ≡ o → as_table o ≡ None
    by (Some (things.Table table)) at = absurd (other (own_in_use heap w addr (things.Table table) s valid at))
    by None at = refl
    by (Some thing) at = refl
