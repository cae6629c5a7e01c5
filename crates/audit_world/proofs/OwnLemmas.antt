-- The own block of each thing is that of what is read of it.
use Rattle.std.proofs.Common.{◌≡◌, ◌≢◌, ◌≤◌, ◌+◌, ◌==◌, ◌&&◌, ℕ, List, [], ◌∷◌, true, length, get_or, take, drop, arith, ap, ◌∙◌, sym, subst}
use Rattle.std.specs.Prelude.{Option, None, Some, nat_le}
use Rattle.std.proofs.lemmas.Bool.{and_parts, eqb-true, leb-true}
use Rattle.std.proofs.lemmas.List.{get_or-take}
use Rattle.std.proofs.lemmas.Option.{none-some}
use Rattle.sdr_base.specs.Blocks.{Block}
use Rattle.sdr_base.specs.Raws.{raw_block}
use Rattle.sdr_base.specs.Strings.{string_block}
use Rattle.sdr_base.specs.Tables.{table_block}
use Rattle.sdr_base.specs.declared.kind.Kind.{Kind}
use Rattle.sdr_base.specs.declared.kind.Kind.TheVariants as kinds
use Rattle.sdr_stands.specs.Rows.{table_row}
use Rattle.audit_owners.proofs.ReadingLemmas.{IsOf, block_is, laid}
use Rattle.audit_owners.specs.Owned.{AreBytes, IsOwned}
use Rattle.audit_owners.specs.Reading.{IsReadable, bytes_of}
use Rattle.audit_owners.specs.View.{View, is_kind, word_of}
use Rattle.audit_world.proofs.ChainLemmas.{IsPlace}
use Rattle.audit_world.proofs.LayoutLemmas.{HasLayout, form_of}
use Rattle.audit_world.specs.Told.{table_told}

-- A heap of so many words passes the steps behind that of blocks: the blocks have bytes, and what their kinds' layouts ask, each stands at
-- a place, none at 0, and each has its owner.
pub record IsAudited (heap : View) (words : ℕ) : Type 0 where
  pub bytes : (addr : ℕ) (block : Block) → heap.blocks addr ≡ Some block → AreBytes block.bytes
  pub layout : (addr : ℕ) (block : Block) → heap.blocks addr ≡ Some block → HasLayout block.kind block.bytes
  pub placed : (addr : ℕ) (block : Block) → heap.blocks addr ≡ Some block → IsPlace words addr
  pub null : heap.blocks 0 ≡ None
  pub owned : IsOwned heap words

module _ (heap : View) (words : ℕ) (a : IsAudited heap words) where
  pub readable : IsReadable heap
  readable = record { bytes = a.bytes; form = λ addr block is. form_of block.kind block.bytes (a.layout addr block is) }

  -- a block of a kind
  pub own_of : (kind : Kind) (addr : ℕ) → is_kind kind (heap.blocks addr) ≡ true → IsOf (heap.blocks addr) kind
  own_of kind addr is = block_is heap readable kind addr is

  -- has what its layout asks
  pub layout_of : (kind : Kind) (addr : ℕ) (b : IsOf (heap.blocks addr) kind) → HasLayout kind b.own.bytes
  layout_of kind addr b = subst (λ (k : Kind). HasLayout k b.own.bytes) b.kind_is (a.layout addr b.own b.is)

  pub raw_own : (addr : ℕ) → is_kind kinds.Raw (heap.blocks addr) ≡ true →
      heap.blocks addr ≡ Some (raw_block (word_of (heap.blocks addr) 0) (drop 8 (bytes_of (heap.blocks addr))))
  raw_own addr is =
      let b = own_of kinds.Raw addr is in
      let l = leb-true 8 (length b.own.bytes) (and_parts _ _ (layout_of kinds.Raw addr b)).0 in
      laid heap readable kinds.Raw addr b 1 l

  pub text_own : (addr : ℕ) → is_kind kinds.Text (heap.blocks addr) ≡ true →
      heap.blocks addr ≡ Some (string_block (drop 1 (bytes_of (heap.blocks addr))))
  text_own addr is =
      let b = own_of kinds.Text addr is in
      let l = layout_of kinds.Text addr b in
      let p = and_parts (nat_le 1 (length b.own.bytes) && length b.own.bytes == 1 + get_or (take 96 b.own.bytes) 0 0) _ l in
      let q = and_parts (nat_le 1 (length b.own.bytes)) _ p.0 in
      let count = eqb-true (length b.own.bytes) _ q.1 in
      b.is ∙ (λ i. Some (record { kind = b.kind_is i; bytes = text_bytes b.own.bytes (count ∙ ap (λ (n : ℕ). 1 + n) (get_or-take 96 b.own.bytes 0 0 (omega arith))) i }))
      ∙ ap (λ (o : Option Block). Some (string_block (drop 1 (bytes_of o)))) (sym b.is)
    where
      text_bytes : (bytes : List ℕ) → length bytes ≡ 1 + get_or bytes 0 0 → bytes ≡ length (drop 1 bytes) ∷ drop 1 bytes
      text_bytes [] count = let e : 0 ≡ 1 + get_or [] 0 0 = count in absurd (omega (arith, e))
      text_bytes (n ∷ text) count =
          let e : n ≡ length text = omega (arith, count) in
          ap (λ (k : ℕ). k ∷ text) e

  pub table_own : (addr : ℕ) → is_kind kinds.Table (heap.blocks addr) ≡ true →
      heap.blocks addr ≡ Some (table_block (table_row (table_told (heap.blocks addr))))
  table_own addr is =
      let b = own_of kinds.Table addr is in
      laid heap readable kinds.Table addr b 3 (table_long b.own.bytes (layout_of kinds.Table addr b))
    where
      table_long : (bytes : List ℕ) → HasLayout kinds.Table bytes → 24 ≤ length bytes
      table_long bytes l =
          let p = and_parts _ _ l in
          let q = and_parts _ _ p.0 in
          let r = and_parts _ _ q.0 in
          let s = and_parts _ _ r.0 in
          leb-true 24 (length bytes) s.0

  -- a block that is there isn't at 0
  pub nonzero : (addr : ℕ) (block : Block) → heap.blocks addr ≡ Some block → addr ≢ 0
  nonzero addr block is null = none-some block (sym a.null ∙ ap heap.blocks (sym null) ∙ is)
