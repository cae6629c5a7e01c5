-- An object of extents alone whose part is its whole gets an extent more.
use Rattle.std.proofs.Common.{◌≡◌, ◌≢◌, ◌+◌, ◌≤◌, ◌<◌, ◌^◌, ℕ, zero, suc, List, [], ◌∷◌, Option, Some, refl, sym, ap, ◌∙◌, arith, subst}
use Rattle.byteorder.specs.Endian.{big_bytes}
use Rattle.sdr_base.specs.Linked.{first_of, last_of}
use Rattle.sdr_base.specs.Objects.{Heap, with_bytes}
use Rattle.sdr_base.specs.Blocks.{Block, Blocks, Reaches, overwritten, with_block}
use Rattle.sdr_base.specs.Parts.{overwrite}
use Rattle.sdr_base.specs.Words.{HasWord, TakesBytes, layout, with_word}
use Rattle.sdr_base.specs.ZcoObjects.{ObjectRow, account_number, extent_addr, object_block}
use Rattle.sdr_base.specs.declared.kind.Kind.TheVariants as kinds
use Rattle.sdr_base.proofs.ObjectsLemmas.{with_block-again, with_block-here}
use Rattle.sdr_base.proofs.WritingLemmas.{reaches_less}
use Rattle.zco_obj.specs.Extents.{AddsExtent, LinksExtent, SetsPart, grown}
use Rattle.zco_obj.specs.Kept.{extents_length}
use Rattle.zco_obj.specs.declared.extent.ExtentPiece.{ExtentPiece}
use Rattle.zco_obj.proofs.ExtentLemmas.{adds_extent, extent_words, grown_reaches, kept_beside, last_reaches, links_first_extent, links_next_extent, part_grows, word_reaches}
use Rattle.zco_obj.proofs.KeptLemmas.{extents_most, object_found, object_word, object_words, words_fit}
use Rattle.zco_obj.proofs.PairLemmas.{pair_object}
use Rattle.zco_obj.proofs.PartsLemmas.{extents_at}
use Rattle.zco_part.specs.Naming.{FollowsLast, IsWholeRow, SomeWhole, SomeWholePair, with_end}
use Rattle.zco_part.proofs.LinkLemmas.{as_many_bytes, word_there}

-- the words from that for the last extent to that for the part's length, written at once, are those two written
ends_written : (account first last added was part : ℕ) →
    overwrite 16 (layout (added ∷ 0 ∷ 0 ∷ 0 ∷ 0 ∷ 0 ∷ part ∷ []) [])
    (layout (account ∷ first ∷ last ∷ 0 ∷ 0 ∷ 0 ∷ 0 ∷ 0 ∷ was ∷ []) [])
    ≡ overwrite 16 (big_bytes 8 added)
    (overwrite 64 (big_bytes 8 part) (layout (account ∷ first ∷ last ∷ 0 ∷ 0 ∷ 0 ∷ 0 ∷ 0 ∷ was ∷ []) []))
unfolding layout
ends_written account first last added was part = refl

block_ended : (o : Option Block) (row : ObjectRow) (added part : ℕ) → IsWholeRow row → o ≡ Some (object_block row) →
    overwritten o 16 (layout (added ∷ 0 ∷ 0 ∷ 0 ∷ 0 ∷ 0 ∷ part ∷ []) [])
    ≡ overwritten (overwritten o 64 (big_bytes 8 part)) 16 (big_bytes 8 added)
block_ended o row added part whole is =
    let es = row.extents in
    subst
    (λ (x : Option Block). overwritten x 16 (layout (added ∷ 0 ∷ 0 ∷ 0 ∷ 0 ∷ 0 ∷ part ∷ []) [])
    ≡ overwritten (overwritten x 64 (big_bytes 8 part)) 16 (big_bytes 8 added))
    (sym (is ∙ ap (λ (r : ObjectRow). Some (object_block r)) whole))
    (ap (λ bytes. Some (record { kind = kinds.Object; bytes = bytes }))
    (ends_written (account_number row.account) (first_of extent_addr 0 es) (last_of extent_addr 0 es) added (extents_length es) part))

ended_at_once : {object : ℕ} (added part : ℕ) (old : Heap) → SomeWhole old.blocks object →
    with_bytes old object 16 (layout (added ∷ 0 ∷ 0 ∷ 0 ∷ 0 ∷ 0 ∷ part ∷ []) []) ≡ with_end old object added part
ended_at_once {object} added part old q =
    let b = old.blocks in
    let first = overwritten (b object) 64 (big_bytes 8 part) in
    let both = overwritten first 16 (big_bytes 8 added) in
    let blocks : with_block b object (overwritten (b object) 16 (layout (added ∷ 0 ∷ 0 ∷ 0 ∷ 0 ∷ 0 ∷ part ∷ []) []))
    ≡ with_block (with_block b object first) object (overwritten (with_block b object first object) 16 (big_bytes 8 added)) =
    ap (with_block b object) (block_ended (b object) q.some.row added part q.whole (object_found q.some.keeps))
    ∙ sym (with_block-again b object first both)
    ∙ ap (λ (o : Option Block). with_block (with_block b object first) object (overwritten o 16 (big_bytes 8 added)))
    (sym (with_block-here b object first)) in
    ap (λ (bs : Blocks). record old { blocks = bs }) blocks

pub ended_by : {object : ℕ} (added part : ℕ) (old new : Heap) (bytes : List ℕ) → SomeWhole old.blocks object →
    bytes ≡ layout (added ∷ 0 ∷ 0 ∷ 0 ∷ 0 ∷ 0 ∷ part ∷ []) [] → new ≡ with_bytes old object 16 bytes → new ≡ with_end old object added part
ended_by {object} added part old new bytes q is w =
    w ∙ ap (λ (l : List ℕ). with_bytes old object 16 l) is ∙ ended_at_once added part old q

-- the one link is set, or the other
pub follows_first : {object last added : ℕ} {old new : Heap} → last ≡ 0 → new ≡ with_word old object 1 added →
    FollowsLast object last added old new
follows_first none w = record { first = λ zero. w; next = λ some. absurd (some none) }

pub follows_next : {object last added : ℕ} {old new : Heap} → last ≢ 0 → new ≡ with_word old last 3 added →
    FollowsLast object last added old new
follows_next some w = record { first = λ none. absurd (some none); next = λ nonzero. w }

-- its part is longer by what is to come
whole_grows : {object : ℕ} (part bytes : ℕ) (old new : Heap) → SomeWhole old.blocks object → HasWord (old.blocks object) 8 part →
    new ≡ with_word old object 8 (part + bytes) → SetsPart object (λ row. grown row bytes) old new
whole_grows {object} part bytes old new q p w =
    let row = q.some.row in
    let k = q.some.keeps in
    let first = first_of extent_addr 0 row.extents in
    let is = object_word k 8 part (omega arith) p in
    let from = ap (λ (r : ObjectRow). r.part_offset) q.whole in
    let long = ap (λ (r : ObjectRow). r.part_length) q.whole in
    part_grows row.part_offset part (extents_length row.extents) bytes old new
    (word_there (old.blocks object) kinds.Object (object_words row) [] 1 (object_found k) (omega arith) (words_fit row k.fits 1 (omega arith)))
    (word_there (old.blocks object) kinds.Object (object_words row) [] 7 (object_found k) (omega arith) (words_fit row k.fits 7 (omega arith)))
    p (as_many_bytes (extents_at k first refl)) (omega (arith, from, long, is)) w

-- which fits a word
pub longer_fits : {blocks : Blocks} {object : ℕ} (part bytes : ℕ) → SomeWhole blocks object → HasWord (blocks object) 8 part →
    bytes ≤ 2 ^ 40 → part + bytes < 2 ^ 64
longer_fits part bytes q p short =
    let k = q.some.keeps in
    let is = object_word k 8 part (omega arith) p in
    let i = k.fits.part in
    let m = extents_most q.some.row.extents k.fits.extents in
    let n = k.fits.few in omega (arith, is, i, m, n, short)

pub whole_of_pair : {blocks : Blocks} {object addr : ℕ} → SomeWholePair blocks object addr → SomeWhole blocks object
whole_of_pair q = record {
  some = record { row = q.pair.row; keeps = pair_object q.pair.keeps };
  whole = q.whole;
}

-- the block of an extent was taken
module _ {object addr : ℕ} {old mid : Heap} (piece : ExtentPiece) (t : TakesBytes kinds.Extent (layout (extent_words piece) []) addr old mid)
    (q : SomeWhole old.blocks object) where
  -- the object is there still
  pub whole_beside : SomeWhole mid.blocks object
  whole_beside = record {
    some = record { row = q.some.row; keeps = kept_beside piece t q.some.keeps };
    whole = q.whole;
  }

  -- and its part is as long
  part_beside : (part : ℕ) → HasWord (old.blocks object) 8 part → HasWord (mid.blocks object) 8 part
  part_beside part h =
      let row = q.some.row in
      subst (HasWord (mid.blocks object) 8) (sym (object_word q.some.keeps 8 part (omega arith) h))
      (word_there (mid.blocks object) kinds.Object (object_words row) [] 8 (object_found (kept_beside piece t q.some.keeps)) (omega arith)
      (words_fit row q.some.keeps.fits 8 (omega arith)))

  -- it ends at the extent
  module _ (part : ℕ) (h : HasWord (old.blocks object) 8 part) {ended : Heap}
      (e : ended ≡ with_end mid object addr (part + piece.bytes)) where
    abbrev grew : Heap
    grew = with_word mid object 8 (part + piece.bytes)

    grows : SetsPart object (λ row. grown row piece.bytes) mid grew
    grows = whole_grows part piece.bytes mid grew whole_beside (part_beside part h) refl

    -- so far do the object and its last extent reach
    pub ended_reaches : Reaches (ended.blocks object) 72
    ended_reaches =
        let r = grown_reaches piece t grows q.some in
        word_reaches grew ended object object 2 addr 72 e (reaches_less (grew.blocks object) 72 24 r (omega arith)) r

    pub ended_last : {last : ℕ} → HasWord (old.blocks object) 2 last → last ≢ 0 → Reaches (ended.blocks last) 32
    ended_last {last} l n =
        let r = grown_reaches piece t grows q.some in
        word_reaches grew ended object last 2 addr 32 e (reaches_less (grew.blocks object) 72 24 r (omega arith))
        (last_reaches piece t grows q.some l n)

    -- and the extent is linked
    pub adds_last : {last : ℕ} {new : Heap} → HasWord (old.blocks object) 2 last → FollowsLast object last addr ended
        new →
        AddsExtent object piece old new
    adds_last {last} {new} l f = by last refl
      where
        added : LinksExtent object last addr grew new → AddsExtent object piece old new
        added links = adds_extent piece t grows l links

        by : (n : ℕ) → n ≡ last → AddsExtent object piece old new
        by zero none = added (links_first_extent object last addr (sym none) e (f.first (sym none)))
        by (suc n) some =
            let nz : last ≢ 0 = λ z. absurd (omega (arith, some, z)) in
            added (links_next_extent object last addr nz e (f.next nz))
