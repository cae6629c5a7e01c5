-- Another number in a word of a source.
use Rattle.std.proofs.Common.{◌≡◌, ℕ, ◌+◌, ◌-◌, ◌<◌, ◌^◌, List, [], ◌∷◌, set, refl, ap, arith, subst}
use Rattle.std.specs.Prelude.{Option}
use Rattle.sdr_base.specs.Blocks.{Block}
use Rattle.sdr_base.specs.Entries.{BlocksAre}
use Rattle.sdr_base.specs.Making.{besides}
use Rattle.sdr_base.specs.Objects.{Heap}
use Rattle.sdr_base.specs.Words.{HasWord, layout, with_word}
use Rattle.sdr_base.specs.declared.account.Acct.{Acct}
use Rattle.sdr_base.specs.declared.account.Acct.TheVariants as accts
use Rattle.sdr_base.specs.declared.kind.Kind.TheVariants as kinds
use Rattle.sdr_base.proofs.HeapLemmas.{heap_blocks}
use Rattle.sdr_base.proofs.WritingLemmas.{block, word_set}
use Rattle.zco_ref.specs.Counting.{Attaches, Becomes, TellsUses, count_field, detached, with_count}
use Rattle.zco_ref.specs.Dropping.{flagged}
use Rattle.zco_ref.specs.Kept.{CountedSource, KeepsSource, SomeBelow, SomeFew}
use Rattle.zco_ref.proofs.KeptLemmas.{count_is, inbound_is, outbound_is, source_words}

-- the counts of both accounts, added
pub uses_told : {found : Option Block} (i o : ℕ) → HasWord found 2 i → HasWord found 3 o → TellsUses found (i + o)
uses_told i o h g = record {
  tells = λ s k. let a = inbound_is k h in let b = outbound_is k g in omega (arith, a, b);
}

-- they are small enough
pub uses_fit : {found : Option Block} (i o : ℕ) → SomeFew found → HasWord found 2 i → HasWord found 3 o → i + o < 2 ^ 64
uses_fit i o s h g =
    let a = inbound_is s.keeps h in let b = outbound_is s.keeps g in
    let x = s.inbound in let y = s.outbound in omega (arith, a, b, x, y)

-- an account's count has its field among the words
pub field_below : (acct : Acct) → count_field acct < 6
field_below accts.Inbound = omega arith
field_below accts.Outbound = omega arith

-- a word of a source's block was set
source_set : {addr : ℕ} {old new : Heap} (s t : CountedSource) (field value : ℕ) → field < 6 →
    set (source_words s) field value ≡ source_words t → s.row.path ≡ t.row.path →
    new ≡ with_word old addr field value → Becomes addr s t old new
source_set {addr} {old} {new} s t field value below words path w = record {
  changes = record {
    kept = λ rest st.
        subst (λ (ws : List ℕ). BlocksAre new.blocks ((addr, block kinds.Source (layout ws t.row.path)) ∷ rest)) words
        (subst (λ (l : List ℕ). BlocksAre new.blocks ((addr, block kinds.Source (layout (set (source_words s) field value) l)) ∷ rest)) path
        (word_set old.blocks new.blocks addr kinds.Source (source_words s) s.row.path field value [] rest (heap_blocks w) below st));
  };
  same = ap besides w;
}

-- the count of an account was
count_set : {addr : ℕ} {old new : Heap} (acct : Acct) (s : CountedSource) (value : ℕ) →
    new ≡ with_word old addr (count_field acct) value → Becomes addr s (with_count acct value s) old new
count_set accts.Inbound s value w = source_set s (record s { inbound = value }) 2 value (omega arith) refl refl w
count_set accts.Outbound s value w = source_set s (record s { outbound = value }) 3 value (omega arith) refl refl w

-- an extent more was counted
pub attaches : {addr : ℕ} {old new : Heap} (acct : Acct) (count : ℕ) → HasWord (old.blocks addr) (count_field acct) count →
    new ≡ with_word old addr (count_field acct) (count + 1) → Attaches addr acct old new
attaches {addr} {old} {new} acct count h w = record {
  becomes = λ s k.
      subst (λ (n : ℕ). Becomes addr s (with_count acct (n + 1) s) old new) (count_is k acct h) (count_set acct s (count + 1) w);
}

-- there is room for it
pub more_fits : {found : Option Block} (acct : Acct) (count : ℕ) → SomeBelow acct found → HasWord found (count_field acct) count →
    count < 2 ^ 62
more_fits acct count s h = let e = count_is s.keeps acct h in let b = s.below in omega (arith, e, b)

-- an extent less was counted
pub detaches_one : {addr : ℕ} {old new : Heap} (acct : Acct) (count : ℕ) (s : CountedSource) → KeepsSource (old.blocks addr) s →
    HasWord (old.blocks addr) (count_field acct) count → new ≡ with_word old addr (count_field acct) (count - 1) →
    Becomes addr s (detached acct s) old new
detaches_one {addr} {old} {new} acct count s k h w =
    subst (λ (n : ℕ). Becomes addr s (with_count acct (n - 1) s) old new) (count_is k acct h) (count_set acct s (count - 1) w)

-- the flag was set
pub flag_set : {addr : ℕ} {old new : Heap} (s : CountedSource) → new ≡ with_word old addr 1 1 → Becomes addr s (flagged s) old new
flag_set s w = source_set s (flagged s) 1 1 (omega arith) refl refl w
