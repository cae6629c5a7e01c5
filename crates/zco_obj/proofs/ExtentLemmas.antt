-- An extent comes, and the part grows with it.
use Rattle.std.proofs.Common.{◌≡◌, ◌≢◌, ◌+◌, ◌*◌, ◌≤◌, ◌<◌, ◌^◌, ℕ, List, [], ◌∷◌, ◌++◌, length, eqb, true, false, Option, None, Some, refl, sym, ap, ◌∙◌, arith, subst, append_assoc, eq-eqb}
use Rattle.std.specs.Prelude.{◌==◌, if◌then◌else◌}
use Rattle.std.proofs.lemmas.Bool.{eqb-true, false≢true, ne_eqb}
use Rattle.byteorder.specs.Endian.{big_bytes}
use Rattle.sdr_base.specs.Blocks.{Block, Blocks, Reaches, overwritten, with_block}
use Rattle.sdr_base.specs.Entries.{Entries, BlocksAre}
use Rattle.sdr_base.specs.Linked.{first_of, last_of, linked}
use Rattle.sdr_base.specs.Making.{Made, besides, with_moves}
use Rattle.sdr_base.specs.Objects.{Heap}
use Rattle.sdr_base.specs.Words.{HasWord, TakesBytes, layout, with_word}
use Rattle.sdr_base.specs.ZcoObjects.{ExtentRow, ObjectRow, capsule_entries, extent_addr, extent_block, extent_entries, object_block, object_entries}
use Rattle.sdr_base.specs.declared.kind.Kind.TheVariants as kinds
use Rattle.sdr_base.specs.declared.moves.Move.TheVariants.{Took}
use Rattle.sdr_base.proofs.ChainLemmas.{last_holds}
use Rattle.sdr_base.proofs.HeapLemmas.{heap_blocks}
use Rattle.sdr_base.proofs.LayoutLemmas.{length-layout, overwrite-layout}
use Rattle.sdr_base.proofs.LinkedLemmas.{first-append, last-append, last_nonzero, linked-append, relinked_next}
use Rattle.sdr_base.proofs.ObjectsLemmas.{with_block-apart, with_block-here}
use Rattle.sdr_base.proofs.PartsLemmas.{length-overwrite}
use Rattle.sdr_base.proofs.StandingLemmas.{came, found, moved, moved_back, rotated}
use Rattle.sdr_base.proofs.WritingLemmas.{reaches, word_set}
use Rattle.zco_obj.specs.Extents.{AddsExtent, LinksExtent, SetsPart, extent_ends, extent_of, extents_block, grown, spanned, with_extent}
use Rattle.zco_obj.specs.Kept.{KeepsObject, SomeObject, extents_length}
use Rattle.zco_obj.specs.Walks.{TellsExtents}
use Rattle.zco_obj.specs.declared.extent.ExtentPiece.{ExtentPiece}
use Rattle.zco_obj.proofs.KeptLemmas.{extents_most, object_word, object_words}
use Rattle.zco_obj.proofs.PartsLemmas.{extents_from}

-- an object is opened at its extents
pub opened_extents : {blocks : Blocks} (object : ℕ) (row : ObjectRow) (rest : Entries) → BlocksAre blocks (object_entries object row ++ rest) →
    BlocksAre blocks (spanned object row (first_of extent_addr 0 row.extents) (last_of extent_addr 0 row.extents) row.part_length 0 row.extents
    ++ (capsule_entries row.headers ++ (capsule_entries row.trailers ++ rest)))
opened_extents {blocks} object row rest s =
    let H = capsule_entries row.headers in
    let X = extent_entries row.extents in
    let T = capsule_entries row.trailers in
    rotated blocks (object, object_block row) H X (T ++ rest)
    (subst (λ (es : Entries). BlocksAre blocks ((object, object_block row) ∷ es))
    (append_assoc (H ++ X) T rest ∙ append_assoc H X (T ++ rest)) s)

-- and closed
pub closed_extents : {blocks : Blocks} (object : ℕ) (row : ObjectRow) (rest : Entries) →
    BlocksAre blocks (spanned object row (first_of extent_addr 0 row.extents) (last_of extent_addr 0 row.extents) row.part_length 0 row.extents
    ++ (capsule_entries row.headers ++ (capsule_entries row.trailers ++ rest))) → BlocksAre blocks (object_entries object row ++ rest)
closed_extents {blocks} object row rest s =
    let H = capsule_entries row.headers in
    let X = extent_entries row.extents in
    let T = capsule_entries row.trailers in
    subst (λ (es : Entries). BlocksAre blocks ((object, object_block row) ∷ es))
    (sym (append_assoc (H ++ X) T rest ∙ append_assoc H X (T ++ rest)))
    (rotated blocks (object, object_block row) X H (T ++ rest) s)

-- the part grows where it reached the end
module _ {object first : ℕ} (offset part end bytes : ℕ) (old new : Heap) (e : HasWord (old.blocks object) 1 first)
    (o : HasWord (old.blocks object) 7 offset) (p : HasWord (old.blocks object) 8 part) (t : TellsExtents old.blocks first end) where
  reach_is : {row : ObjectRow} → KeepsObject old.blocks object row → (row.part_offset + row.part_length == extents_length row.extents)
      ≡ (offset + part == end)
  reach_is {row} k =
      let a = object_word k 7 offset (omega arith) o in
      let b = object_word k 8 part (omega arith) p in
      let c = t.tells row.extents (extents_from k e) in
      ap (λ n. n + row.part_length == extents_length row.extents) (sym a)
      ∙ ap (λ n. offset + n == extents_length row.extents) (sym b)
      ∙ ap (λ n. offset + part == n) (sym c)

  pub part_grows : offset + part ≡ end → new ≡ with_word old object 8 (part + bytes) → SetsPart object (λ row. grown row bytes) old new
  part_grows reached w = record {
    sets = λ row k. record {
      kept = λ rest s.
          let b = object_word k 8 part (omega arith) p in
          let is : part + bytes ≡ grown row bytes =
          ap (λ n. n + bytes) b
          ∙ ap (λ v. if v then row.part_length + bytes else row.part_length) (sym (reach_is k ∙ eq-eqb (offset + part) end reached)) in
          subst (λ n. BlocksAre new.blocks (object_entries object (record row { part_length = n }) ++ rest)) is
          (word_set old.blocks new.blocks object kinds.Object (object_words row) [] 8 (part + bytes) [] _ (heap_blocks w) (omega arith) s);
    };
    same = ap besides w;
  }

  pub part_stays : offset + part ≢ end → new ≡ old → SetsPart object (λ row. grown row bytes) old new
  part_stays short w = record {
    sets = λ row k. record {
      kept = λ rest s.
          let is : row.part_length ≡ grown row bytes =
          ap (λ v. if v then row.part_length + bytes else row.part_length) (sym (reach_is k ∙ ne_eqb (offset + part) end short)) in
          subst (λ n. BlocksAre new.blocks (object_entries object (record row { part_length = n }) ++ rest)) is
          (subst (λ (b : Blocks). BlocksAre b (object_entries object row ++ rest)) (sym (heap_blocks w)) s);
    };
    same = ap besides w;
  }

-- neither sum is too great
pub part_fits : {blocks : Blocks} {object : ℕ} (offset part bytes : ℕ) → SomeObject blocks object → HasWord (blocks object) 7 offset →
    HasWord (blocks object) 8 part → bytes ≤ 2 ^ 40 → offset + part + bytes < 2 ^ 64
part_fits offset part bytes q o p short =
    let a = object_word q.keeps 7 offset (omega arith) o in
    let b = object_word q.keeps 8 part (omega arith) p in
    let f = q.keeps.fits in let i = f.part in let m = extents_most q.row.extents f.extents in let n = f.few in
    omega (arith, a, b, i, m, n, short)

-- a block is as long once bytes in one are written
pub written_reaches : (b b' : Blocks) (p q place end : ℕ) (from : List ℕ) → b' ≡ with_block b p (overwritten (b p) place from) →
    Reaches (b p) (place + length from) → Reaches (b q) end → Reaches (b' q) end
written_reaches b b' p q place end from w inside r =
    rw w (elim (eqb q p) as (λ v. eqb q p ≡ v → Reaches (with_block b p (overwritten (b p) place from) q) end) [
      | true ↦ λ e. subst (λ n. Reaches (with_block b p (overwritten (b p) place from) n) end) (sym (eqb-true q p e))
          (rw (with_block-here b p (overwritten (b p) place from)) (kept (b p) inside (subst (λ n. Reaches (b n) end) (eqb-true q p e) r)))
      | false ↦ λ e. rw (with_block-apart b p (overwritten (b p) place from) q (λ z. false≢true (sym e ∙ eq-eqb q p z))) r
    ] refl)
  where
    kept : (o : Option Block) → Reaches o (place + length from) → Reaches o end → Reaches (overwritten o place from) end
    kept None i r = r
    kept (Some x) i r = let l = length-overwrite place from x.bytes i in omega (arith, l, r)

pub word_reaches : (old new : Heap) (p q field value end : ℕ) → new ≡ with_word old p field value → Reaches (old.blocks p) (8 * field + 8) →
    Reaches (old.blocks q) end → Reaches (new.blocks q) end
word_reaches old new p q field value end w inside r =
    written_reaches old.blocks new.blocks p q (8 * field) end (big_bytes 8 value) (heap_blocks w) inside r

-- the last one's word is set, and then the link to it
last_set : {old new : Heap} (object added : ℕ) → new ≡ with_word old object 2 added → (row : ObjectRow) (first last part : ℕ) (rest : Entries) →
    BlocksAre old.blocks ((object, extents_block row first last part) ∷ rest) →
    BlocksAre new.blocks ((object, extents_block row first added part) ∷ rest)
last_set {old} {new} object added w row first last part rest s =
    word_set old.blocks new.blocks object kinds.Object (extent_ends row first last part) [] 2 added [] rest (heap_blocks w) (omega arith) s

first_linked : {old mid new : Heap} (object last added : ℕ) → last ≡ 0 → mid ≡ with_word old object 2 added →
    new ≡ with_word mid object 1 added → (row : ObjectRow) (part : ℕ) (rows : List ExtentRow) → last ≡ last_of extent_addr 0 rows →
    (rest : Entries) → BlocksAre old.blocks
    (spanned object row (first_of extent_addr 0 rows) last part 0 rows ++ rest) →
    BlocksAre new.blocks (spanned object row (first_of extent_addr added rows) added part added rows ++ rest)
unfolding linked
first_linked {old} {mid} {new} object last added z l w row part [] e rest s =
    word_set mid.blocks new.blocks object kinds.Object (extent_ends row 0 added part) [] 1 added [] rest (heap_blocks w) (omega arith)
    (last_set object added l row 0 last part rest s)
first_linked {old} object last added z l w row part (x ∷ xs) e rest s =
    absurd (last_nonzero extent_addr extent_block old.blocks ((object, extents_block row x.addr last part) ∷ []) rest 0 0 x xs s (sym e ∙ z))

next_linked : {old mid new : Heap} (object last added : ℕ) → last ≢ 0 → mid ≡ with_word old object 2 added →
    new ≡ with_word mid last 3 added → (row : ObjectRow) (part : ℕ) (rows : List ExtentRow) → last ≡ last_of extent_addr 0 rows →
    (rest : Entries) → BlocksAre old.blocks
    (spanned object row (first_of extent_addr 0 rows) last part 0 rows ++ rest) →
    BlocksAre new.blocks (spanned object row (first_of extent_addr added rows) added part added rows ++ rest)
next_linked object last added n l w row part [] e rest s = absurd (n e)
next_linked {old} {mid} {new} object last added n l w row part (x ∷ xs) e rest s =
    relinked_next extent_addr extent_block mid.blocks new.blocks ((object, extents_block row x.addr added part) ∷ []) rest 24 0 0 added
    (big_bytes 8 added) x xs
    (λ p y. ap (λ (bytes : List ℕ). Some (record { kind = kinds.Extent; bytes = bytes }))
    (overwrite-layout (y.source ∷ y.offset ∷ y.length ∷ 0 ∷ []) [] 3 added (omega arith)))
    (subst (λ p. new.blocks ≡ (with_word mid p 3 added).blocks) e (heap_blocks w))
    (last_set object added l row x.addr last part (linked extent_addr extent_block 0 0 (x ∷ xs) ++ rest) s)

pub links_first_extent : {old mid new : Heap} (object last added : ℕ) → last ≡ 0 → mid ≡ with_word old object 2 added →
    new ≡ with_word mid object 1 added → LinksExtent object last added old new
links_first_extent object last added z l w = record {
  links = λ row part rows e. record { kept = λ rest s. first_linked object last added z l w row part rows e rest s };
  same = ap besides w ∙ ap besides l;
}

pub links_next_extent : {old mid new : Heap} (object last added : ℕ) → last ≢ 0 → mid ≡ with_word old object 2 added →
    new ≡ with_word mid last 3 added → LinksExtent object last added old new
links_next_extent object last added n l w = record {
  links = λ row part rows e. record { kept = λ rest s. next_linked object last added n l w row part rows e rest s };
  same = ap besides w ∙ ap besides l;
}

-- the chain with it at the end
joined : (e : ExtentRow) (rows : List ExtentRow) →
    linked extent_addr extent_block 0 e.addr rows ++ ((e.addr, extent_block 0 0 e) ∷ [])
    ≡ linked extent_addr extent_block 0 0 (rows ++ (e ∷ []))
unfolding linked
joined e rows = sym (linked-append extent_addr extent_block 0 0 rows (e ∷ []))

-- the words of its block
abbrev pub extent_words : ExtentPiece → List ℕ
extent_words piece = piece.of ∷ piece.offset ∷ piece.bytes ∷ 0 ∷ []

-- its block was taken
pub took_extent : {addr : ℕ} {old mid : Heap} (piece : ExtentPiece) → TakesBytes kinds.Extent (layout (extent_words piece) []) addr old mid →
    Made (Took 32 addr ∷ []) old mid
took_extent {addr} {old} piece t = record {
  all =
      ap besides t.taken
      ∙ ap (λ n. besides (with_moves old (Took n addr ∷ [])))
      (let l = length-layout (extent_words piece) [] in let z : 32 + 0 ≡ 32 = omega arith in l ∙ z);
}

module _ {object addr : ℕ} {old mid : Heap} (piece : ExtentPiece)
    (t : TakesBytes kinds.Extent (layout (extent_words piece) []) addr old mid) where
  beside : (row : ObjectRow) (rest : Entries) → BlocksAre old.blocks (object_entries object row ++ rest) →
      BlocksAre mid.blocks (object_entries object row ++ ((addr, extent_block 0 0 (extent_of addr piece)) ∷ rest))
  beside row rest s =
      subst (λ (b : Blocks). BlocksAre b (object_entries object row ++ ((addr, extent_block 0 0 (extent_of addr piece)) ∷ rest)))
      (sym (ap (λ (h : Heap). h.blocks) t.taken))
      (came old.blocks addr (extent_block 0 0 (extent_of addr piece)) (object_entries object row) rest t.nonzero t.fresh s)

  -- the object is there still
  pub kept_beside : {row : ObjectRow} → KeepsObject old.blocks object row → KeepsObject mid.blocks object row
  kept_beside {row} k = record { rest = _; stands = beside row k.rest k.stands; fits = k.fits }

  module _ {grew : Heap} (g : SetsPart object (λ row. grown row piece.bytes) mid grew) where
    -- the part has grown, and the extent stands beside
    part_grown : {row : ObjectRow} → KeepsObject old.blocks object row → (rest : Entries) →
        BlocksAre old.blocks (object_entries object row ++ rest) →
        BlocksAre grew.blocks (object_entries object (record row { part_length = grown row piece.bytes })
        ++ ((addr, extent_block 0 0 (extent_of addr piece)) ∷ rest))
    part_grown {row} k rest s =
        (g.sets row (kept_beside k)).kept ((addr, extent_block 0 0 (extent_of addr piece)) ∷ rest) (beside row rest s)

    -- it is opened at its extents
    grown_opened : {row : ObjectRow} → KeepsObject old.blocks object row → (rest : Entries) →
        BlocksAre old.blocks (object_entries object row ++ rest) →
        BlocksAre grew.blocks (spanned object row (first_of extent_addr 0 row.extents) (last_of extent_addr 0 row.extents) (grown row piece.bytes) 0 row.extents
        ++ (capsule_entries row.headers ++ (capsule_entries row.trailers
        ++ ((addr, extent_block 0 0 (extent_of addr piece)) ∷ rest))))
    grown_opened {row} k rest s = opened_extents object (record row { part_length = grown row piece.bytes }) _ (part_grown k rest s)

    pub grown_reaches : SomeObject old.blocks object → Reaches (grew.blocks object) 72
    grown_reaches q =
        let row = q.row in
        reaches (grew.blocks object) kinds.Object
        (extent_ends row (first_of extent_addr 0 row.extents) (last_of extent_addr 0 row.extents) (grown row piece.bytes)) [] 72
        (found grew.blocks object _ [] _ (grown_opened q.keeps q.keeps.rest q.keeps.stands)) (omega arith)

    pub last_reaches : {last : ℕ} → SomeObject old.blocks object → HasWord (old.blocks object) 2 last → last ≢ 0 → Reaches (grew.blocks last) 32
    last_reaches {last} q h n = by q.row q.keeps q.row.extents refl
      where
        by : (row : ObjectRow) → KeepsObject old.blocks object row → (rows : List ExtentRow) → row.extents ≡ rows →
            Reaches (grew.blocks last) 32
        by row k [] e = absurd (n (object_word k 2 last (omega arith) h ∙ ap (last_of extent_addr 0) e))
        by row k (x ∷ xs) e =
            subst (λ p. Reaches (grew.blocks p) 32) (sym (object_word k 2 last (omega arith) h ∙ ap (last_of extent_addr 0) e))
            (last_holds extent_addr extent_block (λ o. Reaches o 32) grew.blocks
            ((object, extents_block row (first_of extent_addr 0 row.extents) (last_of extent_addr 0 row.extents) (grown row piece.bytes)) ∷ [])
            (capsule_entries row.headers ++ (capsule_entries row.trailers
            ++ ((addr, extent_block 0 0 (extent_of addr piece)) ∷ k.rest))) 0 0 x xs
            (λ p y. let l = length-layout (y.source ∷ y.offset ∷ y.length ∷ 0 ∷ []) [] in omega (arith, l))
            (subst (λ (rows : List ExtentRow). BlocksAre grew.blocks ((
              object,
              extents_block row (first_of extent_addr 0 row.extents)
                  (last_of extent_addr 0 row.extents) (grown row piece.bytes),
            ) ∷ (linked extent_addr extent_block 0 0 rows
            ++ (capsule_entries row.headers ++ (capsule_entries row.trailers
            ++ ((addr, extent_block 0 0 (extent_of addr piece)) ∷ k.rest)))))) e (grown_opened k k.rest k.stands)))

    module _ {last : ℕ} {new : Heap} (h : HasWord (old.blocks object) 2 last) (l : LinksExtent object last addr grew new) where
      -- the extent is moved to the end of the chain
      stands_of : {row : ObjectRow} → KeepsObject old.blocks object row → (rest : Entries) →
          BlocksAre old.blocks (object_entries object row ++ rest) →
          BlocksAre new.blocks (object_entries object (with_extent row (extent_of addr piece)) ++ rest)
      stands_of {row} k rest s =
          let e = extent_of addr piece in
          let rows = row.extents in
          let H = capsule_entries row.headers in
          let T = capsule_entries row.trailers in
          let one : Entries = (addr, extent_block 0 0 e) ∷ [] in
          let A = spanned object row (first_of extent_addr addr rows) addr (grown row piece.bytes) addr rows in
          let is = object_word k 2 last (omega arith) h in
          let before : BlocksAre grew.blocks (spanned object row (first_of extent_addr 0 rows) last (grown row piece.bytes) 0 rows
          ++ (H ++ (T ++ (one ++ rest)))) =
          subst (λ n. BlocksAre grew.blocks (spanned object row (first_of extent_addr 0 rows) n (grown row piece.bytes) 0 rows
          ++ (H ++ (T ++ (one ++ rest))))) (sym is) (grown_opened k rest s) in
          let after : BlocksAre new.blocks (A ++ (H ++ (T ++ (one ++ rest)))) =
          (l.links row (grown row piece.bytes) rows is).kept (H ++ (T ++ (one ++ rest))) before in
          let whole : (es : Entries) → A ++ (H ++ (T ++ es)) ≡ (A ++ (H ++ T)) ++ es =
          λ es. ap (λ (xs : Entries). A ++ xs) (sym (append_assoc H T es)) ∙ sym (append_assoc A (H ++ T) es) in
          let front : BlocksAre new.blocks (one ++ (A ++ (H ++ (T ++ rest)))) =
          subst (λ (es : Entries). BlocksAre new.blocks (one ++ es)) (sym (whole rest))
          (moved (A ++ (H ++ T)) one rest (subst (λ (es : Entries). BlocksAre new.blocks es) (whole (one ++ rest)) after)) in
          let placed : BlocksAre new.blocks (A ++ (one ++ (H ++ (T ++ rest)))) = moved_back A one (H ++ (T ++ rest)) front in
          let C = linked extent_addr extent_block 0 addr rows in
          let chain : C ++ (one ++ (H ++ (T ++ rest))) ≡ linked extent_addr extent_block 0 0 (rows ++ (e ∷ [])) ++ (H ++ (T ++ rest)) =
          sym (append_assoc C one (H ++ (T ++ rest)))
          ∙ ap (λ (es : Entries). es ++ (H ++ (T ++ rest))) (joined e rows) in
          closed_extents object (with_extent row e) rest
          (subst (λ n. BlocksAre new.blocks ((object, extents_block row n (last_of extent_addr 0 (rows ++ (e ∷ []))) (grown row piece.bytes))
          ∷ (linked extent_addr extent_block 0 0 (rows ++ (e ∷ [])) ++ (H ++ (T ++ rest)))))
          (sym (first-append extent_addr extent_block 0 rows (e ∷ [])))
          (subst (λ n. BlocksAre new.blocks ((object, extents_block row (first_of extent_addr addr rows) n (grown row piece.bytes))
          ∷ (linked extent_addr extent_block 0 0 (rows ++ (e ∷ [])) ++ (H ++ (T ++ rest)))))
          (sym (last-append extent_addr extent_block 0 rows (e ∷ [])))
          (subst (λ (es : Entries). BlocksAre new.blocks ((object, extents_block row (first_of extent_addr addr rows) addr (grown row piece.bytes)) ∷ es))
          chain placed)))

      pub adds_extent : AddsExtent object piece old new
      adds_extent = record {
        addr = addr;
        new_block = record { nonzero = t.nonzero; small = t.small; free = t.fresh };
        adds = λ row k. record { kept = λ rest s. stands_of k rest s };
        made = record { all = l.same ∙ g.same ∙ (took_extent piece t).all };
      }
