-- What is reached in a block is reached still, after another block is taken or bytes are put into one.
use Rattle.std.proofs.Common.{◌≡◌, ℕ, ◌≤◌, ◌==◌, List, length, Bool, true, false, cond, Option, None, Some, refl, sym, ap, ◌∙◌, subst, arith, length-append, length-take, length-drop}
use Rattle.std.proofs.lemmas.Bool.{eqb-true}
use Rattle.sdr_base.specs.Blocks.{Block, Blocks, Reaches, overwritten, with_block}
use Rattle.sdr_base.specs.Objects.{Heap, with_bytes}
use Rattle.sdr_base.specs.Parts.{overwrite}
use Rattle.sdr_base.specs.Words.{TakesBytes}
use Rattle.sdr_base.specs.declared.kind.Kind.{Kind}
use Rattle.sdr_base.proofs.HeapLemmas.{heap_blocks}

-- bytes that are overwritten are no fewer
no_shorter : (place : ℕ) (from bytes : List ℕ) → length bytes ≤ length (overwrite place from bytes)
no_shorter place from bytes = simp (length-append, length-take, length-drop) (omega arith)

overwritten_reaches : (found : Option Block) (place end : ℕ) (from : List ℕ) → Reaches found end →
    Reaches (overwritten found place from) end
overwritten_reaches None place end from r = r
overwritten_reaches (Some block) place end from r = omega (arith, r, no_shorter place from block.bytes)

-- where another block is put at an address, what is reached there has to be reached in that
put_reaches : (blocks : Blocks) (addr other end : ℕ) (put : Option Block) → (other ≡ addr → Reaches put end) →
    Reaches (blocks other) end → Reaches (with_block blocks addr put other) end
unfolding with_block
put_reaches blocks addr other end put at r = step (other == addr) refl
  where
    step : (b : Bool) → (other == addr) ≡ b → Reaches (cond b put (blocks other)) end
    step true is = at (eqb-true other addr is)
    step false is = r

-- bytes were put into a block
pub put_into : (old new : Heap) (addr place : ℕ) (from : List ℕ) (other end : ℕ) → new ≡ with_bytes old addr place from →
    Reaches (old.blocks other) end → Reaches (new.blocks other) end
put_into old new addr place from other end is r =
    subst (λ (b : Blocks). Reaches (b other) end) (sym (heap_blocks is))
    (put_reaches old.blocks addr other end (overwritten (old.blocks addr) place from)
    (λ same. overwritten_reaches (old.blocks addr) place end from (subst (λ a. Reaches (old.blocks a) end) same r)) r)

-- a block was taken
pub taken_reaches : {kind : Kind} {bytes : List ℕ} {addr : ℕ} {old new : Heap} (other end : ℕ) →
    TakesBytes kind bytes addr old new → Reaches (old.blocks other) end → Reaches (new.blocks other) end
taken_reaches {kind} {bytes} {addr} {old} {new} other end t r =
    let put : Option Block = Some (record { kind = kind; bytes = bytes }) in
    subst (λ (b : Blocks). Reaches (b other) end) (sym (heap_blocks t.taken))
    (put_reaches old.blocks addr other end put
    (λ same. absurd (subst (λ o. Reaches o end) (ap old.blocks same ∙ t.fresh) r)) r)
