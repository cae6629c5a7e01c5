-- The block that is taken for an item.
use Rattle.std.proofs.Common.{◌≡◌, ◌≢◌, ℕ, ◌-◌, ◌<◌, ◌^◌, List, [], ◌∷◌, length, sym, subst, arith, w64}
use Rattle.std.specs.Prelude.{replicate}
use Rattle.std.specs.Int.{from_be_bytes}
use Rattle.byteorder.specs.Endian.{big_number}
use Rattle.sdr_base.specs.Blocks.{Block}
use Rattle.sdr_base.specs.Making.{MakesThing}
use Rattle.sdr_base.specs.Objects.{Heap}
use Rattle.sdr_base.specs.Words.{TakesBytes, layout}
use Rattle.sdr_base.specs.declared.kind.Kind.TheVariants as kinds
use Rattle.sdr_base.proofs.LayoutLemmas.{length-layout}
use Rattle.sdr_base.proofs.MakingLemmas.{taken_makes}
use Rattle.bp_queue.specs.Classes.{class_number}
use Rattle.bp_queue.specs.Kept.{RowFits, item_entries}
use Rattle.bp_queue.specs.Putting.{nowhere, row_of}
use Rattle.bp_queue.specs.declared.putting.Wanted.{Wanted}
use Rattle.bp_queue.proofs.ItemLemmas.{item_block, item_words}

-- the number of the rank's bytes
rank_is : (a c : ℕ) → from_be_bytes w64 (a ∷ c ∷ 0 ∷ 0 ∷ 0 ∷ 0 ∷ 0 ∷ 0 ∷ []) ≡ big_number 8 (a ∷ c ∷ replicate 6 0)
rank_is a c = omega arith

-- the words that were taken are those of the item
pub made_item : {item : ℕ} {old new : Heap} (w : Wanted) →
    TakesBytes kinds.Raw
    (layout
    (0 ∷ w.deadline ∷ from_be_bytes w64 ((255 - w.ordinal) ∷ class_number w.class ∷ 0 ∷ 0 ∷ 0 ∷ 0 ∷ 0 ∷ 0 ∷ []) ∷ w.number ∷ w.object ∷ 0 ∷ 0 ∷ [])
    []) item old new → MakesThing 56 item (item_entries (row_of w item nowhere)) old new
made_item {item} {old} {new} w t =
    let words : List ℕ → Block = λ ws. record { kind = kinds.Raw; bytes = layout ws [] } in
    let r = rank_is (255 - w.ordinal) (class_number w.class) in
    let made : MakesThing (length (layout (item_words (row_of w item nowhere)) [])) item
    ((item, words (item_words (row_of w item nowhere))) ∷ []) old new =
    taken_makes
    (subst (λ (rank : ℕ). TakesBytes kinds.Raw (layout (0 ∷ w.deadline ∷ rank ∷ w.number ∷ w.object ∷ 0 ∷ 0 ∷ []) []) item old new) r t) in
    subst (λ (n : ℕ). MakesThing n item (item_entries (row_of w item nowhere)) old new)
    (let l = length-layout (item_words (row_of w item nowhere)) [] in omega (arith, l))
    (subst (λ (x : Block). MakesThing (length (layout (item_words (row_of w item nowhere)) [])) item ((item, x) ∷ []) old new)
    (sym (item_block (row_of w item nowhere))) made)

-- its numbers fit, where those do that it was made of
pub wanted_fits : (w : Wanted) {item : ℕ} → w.ordinal < 2 ^ 8 → w.deadline < 2 ^ 64 → w.object < 2 ^ 64 → item < 2 ^ 32 → w.object ≢ 0 →
    RowFits (row_of w item nowhere)
wanted_fits w ordinal deadline object small some = record {
  ordinal = ordinal;
  deadline = deadline;
  item = omega (arith, small);
  object = object;
  some = some;
  in_class = omega arith;
  in_line = omega arith;
}
