-- What an entry's block says.
use Rattle.std.proofs.Common.{◌≡◌, ℕ, ◌+◌, ◌<◌, ◌^◌, ◌≤◌, List, [], ◌∷◌, ◌++◌, length, take, drop, Bool, Option, Some, refl, sym, ap, ◌∙◌, arith, subst}
use Rattle.std.specs.Bool.{Decides}
use Rattle.std.specs.Cmp.{unsigned_Decides}
use Rattle.std.specs.Cmp.Lexicographic.{pointwise}
use Rattle.std.specs.Prelude.{nat_eq, true, false}
use Rattle.std.proofs.Math.ListN.{drop_of_length-le}
use Rattle.std.proofs.lemmas.List.{append-nil, take_all}
use Rattle.std.proofs.lemmas.Slice.Eq.{slice_eq-Decides}
use Rattle.sdr_base.specs.Blocks.{Block, HasBytes, Reaches}
use Rattle.sdr_base.specs.Hashes.{HashItem, item_block}
use Rattle.sdr_base.specs.Words.{HasWord, layout}
use Rattle.sdr_base.specs.declared.kind.Kind.TheVariants as kinds
use Rattle.sdr_base.proofs.LayoutLemmas.{length-layout}
use Rattle.sdr_base.proofs.WritingLemmas.{word_is}
use Rattle.sdr_hash.specs.Buckets.{item_has_key}
use Rattle.sdr_hash.specs.Kept.{ItemFits}
use Rattle.sdr_hash.specs.Walks.{Compares}

-- what stands there is the block of this entry, before the next one
pub record KeepsItem (found : Option Block) (key_length : ℕ) (item : HashItem) (next : ℕ) : Type 0 where
  pub block : found ≡ Some (item_block 0 next item)
  pub fits : ItemFits key_length item
  pub small : next < 2 ^ 64

-- the words of an entry
abbrev pub item_words : ℕ → HashItem → List ℕ
item_words next item = next ∷ item.value ∷ []

module _ {found : Option Block} {key_length next : ℕ} {item : HashItem} (k : KeepsItem found key_length item next) where
  -- the block has its words and its key
  pub item_reaches : (end : ℕ) → end ≤ 16 + key_length → Reaches found end
  item_reaches end le =
      let l = length-layout (item_words next item) item.key in
      let n = k.fits.key in rw k.block (omega (arith, l, n, le))

  -- the numbers in the words of the block
  pub next_is : {value : ℕ} → HasWord found 0 value → value ≡ next
  next_is {value} h =
      word_is found kinds.HashEntry (item_words next item) item.key 0 value k.block (omega arith) k.small h

  pub value_is : {value : ℕ} → HasWord found 1 value → value ≡ item.value
  value_is {value} h =
      word_is found kinds.HashEntry (item_words next item) item.key 1 value k.block (omega arith) k.fits.value h

  -- the bytes of the key
  pub key_is : {bytes : List ℕ} (count : ℕ) → count ≡ key_length → HasBytes found 16 count bytes → bytes ≡ item.key
  unfolding layout
  key_is {bytes} count e h =
      let at : HasBytes (Some (item_block 0 next item)) 16 count bytes = subst (λ o. HasBytes o 16 count bytes) k.block h in
      let n = k.fits.key in at ∙ take_all count item.key (omega (arith, e, n))

-- two tests of the same
alike : (r s : Bool) (P Q : Type 0) → Decides r P → Decides s Q → (P → Q) → (Q → P) → r ≡ s
alike true true P Q p q f g = refl
alike true false P Q p q f g = sym (q.1 (f (p.0 refl)))
alike false true P Q p q f g = p.1 (g (q.0 refl))
alike false false P Q p q f g = refl

turned : (a b : List ℕ) → pointwise nat_eq a b ≡ pointwise nat_eq b a
turned a b =
    alike _ _ (a ≡ b) (b ≡ a) (slice_eq-Decides unsigned_Decides a b _ refl) (slice_eq-Decides unsigned_Decides b a _ refl)
    (λ e. sym e) (λ e. sym e)

-- the answer of a comparison is that of the test of the entry
pub answered : {found : Option Block} {answer : Bool} (key : List ℕ) → Compares found key answer → (item : HashItem) (next : ℕ) →
    KeepsItem found (length key) item next → item_has_key key item ≡ answer
answered key c item next k =
    sym (c.is ∙ ap (λ (l : List ℕ). pointwise nat_eq l key) (key_is k (length key) refl c.has) ∙ turned item.key key)

-- the words of an entry in front, and its key behind them
pub entry_is : (next value : ℕ) (key front behind rest : List ℕ) (n : ℕ) → front ≡ layout (next ∷ value ∷ []) [] →
    behind ≡ key → length rest ≤ n →
    take 16 (front ++ rest) ++ (behind ++ drop n (drop 16 (front ++ rest))) ≡ layout (next ∷ value ∷ []) key
unfolding layout
entry_is next value key front behind rest n f b short =
    ap (λ (l : List ℕ). take 16 (l ++ rest) ++ (behind ++ drop n (drop 16 (l ++ rest)))) f
    ∙ ap (λ (l : List ℕ). layout (next ∷ value ∷ []) (behind ++ l)) (drop_of_length-le rest {i = n} short)
    ∙ ap (layout (next ∷ value ∷ [])) (append-nil behind ∙ b)
