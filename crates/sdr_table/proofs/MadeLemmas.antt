-- A table that was made or given back.
use Rattle.std.proofs.Common.{◌≡◌, ℕ, ◌+◌, ◌-◌, ◌*◌, List, [], ◌∷◌, ◌++◌, length, Some, refl, sym, ap, ◌∙◌, arith, subst, append_assoc, length-append}
use Rattle.byteorder.specs.Endian.{big_bytes}
use Rattle.std.specs.Prelude.{None, Option, replicate, true}
use Rattle.std.proofs.lemmas.List.{length-replicate, drop-replicate}
use Rattle.sdr_base.specs.Blocks.{Block, Blocks, IsKind, overwritten, with_at, with_block}
use Rattle.sdr_base.specs.Entries.{BlocksAre}
use Rattle.sdr_base.specs.Making.{MakesThing, besides}
use Rattle.sdr_base.specs.Objects.{Heap, TakesZeros, with_bytes, with_given, with_move}
use Rattle.sdr_base.specs.Parts.{overwrite}
use Rattle.sdr_base.specs.Tables.{table_block, table_entries}
use Rattle.sdr_base.specs.Words.{TakesBytes, layout}
use Rattle.sdr_base.specs.declared.kind.Kind.{Kind}
use Rattle.sdr_base.specs.declared.kind.Kind.TheVariants as kinds
use Rattle.sdr_base.specs.declared.moves.Move.TheVariants.{Took}
use Rattle.sdr_base.proofs.HeapLemmas.{given_blocks}
use Rattle.sdr_base.proofs.LayoutLemmas.{layout-append, length-layout}
use Rattle.sdr_base.proofs.MakingLemmas.{taken_front, taken_makes}
use Rattle.sdr_base.proofs.ObjectsLemmas.{with_block-again, with_block-here}
use Rattle.sdr_base.proofs.StandingLemmas.{went}
use Rattle.sdr_table.specs.Calls.{DestroysTable, MakesTable, zero_table}
use Rattle.sdr_table.specs.Kept.{first_above}

-- the table was made
pub made : {addr : ℕ} {old mid new : Heap} (rows size user bytes : ℕ) (from : List ℕ) →
    first_above rows size ≡ None → bytes ≡ rows * size → from ≡ layout (user ∷ size ∷ rows ∷ []) [] →
    TakesZeros kinds.Table (24 + bytes) addr old mid → new ≡ with_bytes mid addr 0 from →
    MakesTable rows size user addr old new
made {addr} {old} {mid} {new} rows size user bytes from fits counted is t w = record {
  fits = fits;
  makes =
      let long = ap length is ∙ length-layout (user ∷ size ∷ rows ∷ []) [] in
      let need : 24 + bytes ≡ length from + rows * size = omega (arith, long, counted) in
      let taken = taken_front from (rows * size) need t w in
      let whole : from ++ replicate (rows * size) 0 ≡ (table_block (zero_table rows size user)).bytes =
      ap (λ (l : List ℕ). l ++ replicate (rows * size) 0) is ∙ layout-append (user ∷ size ∷ rows ∷ []) (replicate (rows * size) 0) in
      let room : length (from ++ replicate {A = ℕ} (rows * size) 0) ≡ 24 + rows * size =
      ap length whole ∙ length-layout (user ∷ size ∷ rows ∷ []) (replicate (rows * size) 0)
      ∙ (let z = length-replicate {A = ℕ} (rows * size) 0 in omega (arith, z)) in
      subst (λ (n : ℕ). MakesThing n addr (table_entries addr (zero_table rows size user)) old new) room
      (subst (λ (l : List ℕ). MakesThing (length (from ++ replicate {A = ℕ} (rows * size) 0)) addr ((addr, record { kind = kinds.Table; bytes = l }) ∷ []) old new)
      whole (taken_makes taken));
}

-- the table was given back
pub destroyed : {addr : ℕ} {old new : Heap} → IsKind (old.blocks addr) kinds.Table → new ≡ with_given old addr →
    DestroysTable addr old new
destroyed {addr} {old} {new} kind is = record {
  kind = kind;
  changes = λ table k. record {
    kept = λ rest s.
        subst (λ (b : Blocks). BlocksAre b rest) (sym (given_blocks addr old new is))
        (went old.blocks addr (table_block table) [] rest s);
  };
  made = record { all = ap besides is };
}
