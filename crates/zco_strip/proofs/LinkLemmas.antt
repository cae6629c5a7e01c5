-- The words of extents and objects, set.
use Rattle.std.proofs.Common.{◌≡◌, ◌≢◌, ◌∙◌, ℕ, List, [], ◌∷◌, ◌++◌, Some, sym, ap, subst, arith}
use Rattle.byteorder.specs.Endian.{big_bytes}
use Rattle.sdr_base.proofs.HeapLemmas.{heap_blocks}
use Rattle.sdr_base.proofs.LayoutLemmas.{overwrite-layout}
use Rattle.sdr_base.proofs.LinkedLemmas.{last_nonzero, relinked_next}
use Rattle.sdr_base.proofs.WritingLemmas.{word_set}
use Rattle.sdr_base.specs.Blocks.{Blocks}
use Rattle.sdr_base.specs.Entries.{Entries, BlocksAre}
use Rattle.sdr_base.specs.Linked.{last_of, linked}
use Rattle.sdr_base.specs.Making.{besides}
use Rattle.sdr_base.specs.Objects.{Heap}
use Rattle.sdr_base.specs.Words.{with_word}
use Rattle.sdr_base.specs.ZcoObjects.{ExtentRow, extent_addr, extent_block}
use Rattle.sdr_base.specs.declared.kind.Kind.TheVariants as kinds
use Rattle.zco_strip.specs.Linking.{CutsExtent, LinksAfter, SetsEnds}
use Rattle.zco_obj.specs.Extents.{extent_ends}

-- an extent was cut
pub cuts_extent : {old mid new : Heap} (extent offset length : ℕ) → mid ≡ with_word old extent 1 offset →
    new ≡ with_word mid extent 2 length → CutsExtent extent offset length old new
cuts_extent {old} {mid} {new} extent offset length v w = record {
  cuts = λ next e. record {
    kept = λ rest s.
        word_set mid.blocks new.blocks extent kinds.Extent (e.source ∷ offset ∷ e.length ∷ next ∷ []) [] 2 length [] rest
        (heap_blocks w) (omega arith)
        (word_set old.blocks mid.blocks extent kinds.Extent (e.source ∷ e.offset ∷ e.length ∷ next ∷ []) [] 1 offset [] rest
        (heap_blocks v) (omega arith) s);
  };
  same = ap besides w ∙ ap besides v;
}

-- nothing follows where there is no chain
pub links_none : {old new : Heap} (last next : ℕ) → last ≡ 0 → new ≡ old → LinksAfter last next old new
unfolding linked
links_none {old} {new} last next z same = record {
  links = λ rows was e. record { kept = λ rest s. by rows was e rest s };
  same = ap besides same;
}
  where
    by : (rows : List ExtentRow) (was : ℕ) → last ≡ last_of extent_addr 0 rows → (rest : Entries) →
        BlocksAre old.blocks (linked extent_addr extent_block 0 was rows ++ rest) →
        BlocksAre new.blocks (linked extent_addr extent_block 0 next rows ++ rest)
    by [] was e rest s = subst (λ (b : Blocks). BlocksAre b rest) (sym (heap_blocks same)) s
    by (x ∷ xs) was e rest s =
        absurd (last_nonzero extent_addr extent_block old.blocks [] rest 0 was x xs s (sym e ∙ z))

-- or the last one's word was set
pub links_after : {old new : Heap} (last next : ℕ) → last ≢ 0 → new ≡ with_word old last 3 next → LinksAfter last next old new
links_after {old} {new} last next nz w = record {
  links = λ rows was e. record { kept = λ rest s. by rows was e rest s };
  same = ap besides w;
}
  where
    by : (rows : List ExtentRow) (was : ℕ) → last ≡ last_of extent_addr 0 rows → (rest : Entries) →
        BlocksAre old.blocks (linked extent_addr extent_block 0 was rows ++ rest) →
        BlocksAre new.blocks (linked extent_addr extent_block 0 next rows ++ rest)
    by [] was e rest s = absurd (nz e)
    by (x ∷ xs) was e rest s =
        relinked_next extent_addr extent_block old.blocks new.blocks [] rest 24 0 was next (big_bytes 8 next) x xs
        (λ p y. ap (λ (bytes : List ℕ). Some (record { kind = kinds.Extent; bytes = bytes }))
        (overwrite-layout (y.source ∷ y.offset ∷ y.length ∷ was ∷ []) [] 3 next (omega arith)))
        (subst (λ p. new.blocks ≡ (with_word old p 3 next).blocks) e (heap_blocks w)) s

-- the ends of an object's chain were set, and where its part begins
pub sets_ends : {old one two new : Heap} (object first last : ℕ) → one ≡ with_word old object 1 first →
    two ≡ with_word one object 2 last → new ≡ with_word two object 7 0 → SetsEnds object first last old new
sets_ends {old} {one} {two} {new} object first last u v w = record {
  sets = λ row f l part. record {
    kept = λ rest s.
        word_set two.blocks new.blocks object kinds.Object (extent_ends row first last part) [] 7 0 [] rest (heap_blocks w)
        (omega arith)
        (word_set one.blocks two.blocks object kinds.Object (extent_ends row first l part) [] 2 last [] rest (heap_blocks v)
        (omega arith)
        (word_set old.blocks one.blocks object kinds.Object (extent_ends row f l part) [] 1 first [] rest (heap_blocks u)
        (omega arith) s));
  };
  same = ap besides w ∙ ap besides v ∙ ap besides u;
}
