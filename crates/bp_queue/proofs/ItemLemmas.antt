-- The block of an item: its words, and its bytes as a key.
use Rattle.std.proofs.Common.{◌≡◌, ℕ, ◌+◌, ◌-◌, ◌*◌, ◌<◌, not, List, [], ◌∷◌, ◌++◌, Some, refl, sym, ap, ◌∙◌, subst, arith, append_assoc, inl, inr}
use Rattle.std.specs.Prelude.{replicate}
use Rattle.std.specs.Int.{byte_at}
use Rattle.std.specs.declared.cmp.Ordering.{Ordering}
use Rattle.std.specs.Ordering.{is_gt, nat_cmp}
use Rattle.byteorder.specs.Endian.{big_bytes, big_number}
use Rattle.byteorder.specs.Numbers.{big_number-reads_back}
use Rattle.sdr_base.specs.Blocks.{Blocks}
use Rattle.sdr_base.specs.Entries.{BlocksAre, Entries}
use Rattle.sdr_base.specs.Raws.{raw_block}
use Rattle.sdr_base.specs.Words.{layout}
use Rattle.sdr_base.specs.declared.kind.Kind.TheVariants as kinds
use Rattle.sdr_base.proofs.StandingLemmas.{found}
use Rattle.sdr_base.proofs.WritingLemmas.{block}
use Rattle.sdr_list.specs.Orders.{key_in, sort_key}
use Rattle.sdr_list.proofs.KeyLemmas.{key-raw}
use Rattle.bp_queue.specs.Classes.{class_number}
use Rattle.bp_queue.specs.Kept.{Row, RowFits, item_bytes, item_entries, items_entries, rank_bytes}
use Rattle.bp_queue.specs.Keys.{ByDeadline, ByOrdinal}
use Rattle.bp_queue.specs.States.{Waiting, is_due_by, ranks_as}
use Rattle.bp_queue.specs.declared.class.Class.{Class}
use Rattle.bp_queue.specs.declared.class.Class.TheVariants as classes
use Rattle.bp_queue.proofs.PlaceLemmas.{not_gt, turned_le}
use Rattle.bp_queue.proofs.SortingLemmas.{Among}

-- the number that the rank's bytes are
abbrev pub rank_word : Waiting → ℕ
rank_word w = big_number 8 (rank_bytes w)

-- the words of an item's block
abbrev pub item_words : Row → List ℕ
item_words r =
    0 ∷ r.waiting.deadline ∷ rank_word r.waiting ∷ r.number ∷ r.waiting.object ∷ r.in_class ∷ r.in_line ∷ []

-- a byte, a small number and zeros are the bytes of their number
module _ (a c : ℕ) (low : a < 256) (small : c < 256) where
  abbrev number : ℕ
  number = big_number 8 (a ∷ c ∷ replicate 6 0)

  is : number ≡ a * 72057594037927936 + c * 281474976710656
  is = omega arith

  b7 : byte_at 7 number ≡ a
  b7 = omega (arith, is)

  b6 : byte_at 6 number ≡ c
  b6 = omega (arith, is)

  b5 : byte_at 5 number ≡ 0
  b5 = omega (arith, is)

  b4 : byte_at 4 number ≡ 0
  b4 = omega (arith, is)

  b3 : byte_at 3 number ≡ 0
  b3 = omega (arith, is)

  b2 : byte_at 2 number ≡ 0
  b2 = omega (arith, is)

  b1 : byte_at 1 number ≡ 0
  b1 = omega (arith, is)

  b0 : byte_at 0 number ≡ 0
  b0 = omega (arith, is)

  pub bytes_of_rank : big_bytes 8 number ≡ a ∷ c ∷ replicate 6 0
  bytes_of_rank = λ i. b7 i ∷ b6 i ∷ b5 i ∷ b4 i ∷ b3 i ∷ b2 i ∷ b1 i ∷ b0 i ∷ []

class_small : (c : Class) → class_number c < 256
class_small classes.Bulk = omega arith
class_small classes.Normal = omega arith
class_small classes.Urgent = omega arith

-- the block of an item is one of words
pub item_layout : (r : Row) → layout (0 ∷ []) (item_bytes r) ≡ layout (item_words r) []
unfolding layout
item_layout r =
    ap (λ (rank : List ℕ). big_bytes 8 0 ++ (big_bytes 8 r.waiting.deadline ++ (rank ++ (big_bytes 8 r.number
    ++ (big_bytes 8 r.waiting.object ++ (big_bytes 8 r.in_class ++ big_bytes 8 r.in_line))))))
    (sym (bytes_of_rank (255 - r.waiting.ordinal) (class_number r.waiting.class) (omega arith) (class_small r.waiting.class)))

pub item_block : (r : Row) → raw_block 0 (item_bytes r) ≡ block kinds.Raw (layout (item_words r) [])
item_block r = ap (block kinds.Raw) (item_layout r)

-- the item of each row stands
pub item_found : (b : Blocks) (r : Row) (xs : Entries) (rows : List Row) (ys : Entries) → Among r rows →
    BlocksAre b (xs ++ (items_entries rows ++ ys)) → b r.waiting.item ≡ Some (raw_block 0 (item_bytes r))
item_found b r xs [] ys a s = absurd a
item_found b r xs (y ∷ rows) ys (inl same) s =
    let P : Row → Type 0 = λ z. b z.waiting.item ≡ Some (raw_block 0 (item_bytes z)) in
    subst P same (found b y.waiting.item (raw_block 0 (item_bytes y)) xs (items_entries rows ++ ys) s)
item_found b r xs (y ∷ rows) ys (inr a) s =
    item_found b r (xs ++ item_entries y) rows ys a
    (subst (λ (es : Entries). BlocksAre b es) (sym (append_assoc xs (item_entries y) (items_entries rows ++ ys))) s)

-- its key is all its bytes
pub item_key : (b : Blocks) (r : Row) → b r.waiting.item ≡ Some (raw_block 0 (item_bytes r)) → sort_key b r.waiting.item ≡ item_bytes r
item_key b r e = ap key_in e ∙ key-raw 0 (item_bytes r)

-- what the two orders say of two items
pub due_test : (order : List ℕ → List ℕ → Ordering) → ByDeadline order → (a b : Row) → RowFits a → RowFits b →
    not (is_gt (order (item_bytes a) (item_bytes b))) ≡ is_due_by a.waiting b.waiting
due_test order rises a b f g =
    ap (λ (o : Ordering). not (is_gt o))
    (rises (item_bytes a) (item_bytes b) refl refl
    ∙ ap (λ n. nat_cmp n (big_number 8 (item_bytes b))) (big_number-reads_back 8 a.waiting.deadline (behind a) f.deadline)
    ∙ ap (nat_cmp a.waiting.deadline) (big_number-reads_back 8 b.waiting.deadline (behind b) g.deadline))
    ∙ not_gt a.waiting.deadline b.waiting.deadline
  where
    behind : Row → List ℕ
    behind r =
        rank_bytes r.waiting ++ (big_bytes 8 r.number ++ (big_bytes 8 r.waiting.object ++ (big_bytes 8 r.in_class ++ big_bytes 8 r.in_line)))

pub rank_test : (order : List ℕ → List ℕ → Ordering) → ByOrdinal order → (a b : Row) → RowFits a → RowFits b →
    not (is_gt (order (item_bytes a) (item_bytes b))) ≡ ranks_as a.waiting b.waiting
rank_test order falls a b f g =
    ap (λ (o : Ordering). not (is_gt o)) (falls (item_bytes a) (item_bytes b) refl refl)
    ∙ not_gt (255 - a.waiting.ordinal) (255 - b.waiting.ordinal)
    ∙ turned_le a.waiting.ordinal b.waiting.ordinal f.ordinal g.ordinal
