-- An object's block tells of another chain, which is all that it has.
use Rattle.std.proofs.Common.{◌≡◌, ◌+◌, ℕ, List, [], ◌∷◌, ◌++◌, length, Some, refl, sym, ap, ◌∙◌, arith, subst, append-nil}
use Rattle.std.specs.Prelude.{Option}
use Rattle.std.proofs.lemmas.List.{drop_all}
use Rattle.byteorder.specs.Endian.{big_bytes}
use Rattle.sdr_base.specs.Blocks.{Block, Blocks, overwritten, with_block}
use Rattle.sdr_base.specs.Entries.{BlocksAre}
use Rattle.sdr_base.specs.Making.{besides}
use Rattle.sdr_base.specs.Objects.{Heap, with_bytes}
use Rattle.sdr_base.specs.Parts.{overwrite}
use Rattle.sdr_base.specs.Words.{layout}
use Rattle.sdr_base.specs.ZcoObjects.{ObjectRow, account_number, capsule_addr, extent_addr, object_block}
use Rattle.sdr_base.specs.Linked.{first_of, last_of}
use Rattle.sdr_base.specs.declared.kind.Kind.TheVariants as kinds
use Rattle.sdr_base.proofs.HeapLemmas.{heap_blocks}
use Rattle.sdr_base.proofs.LayoutLemmas.{length-layout}
use Rattle.sdr_base.proofs.StandingLemmas.{found, written_at}
use Rattle.zco_bond.specs.Bonded.{whole_of}
use Rattle.zco_bond.specs.Bonding.{SetsWhole}
use Rattle.zco_bond.specs.declared.gap.Chain.{Chain}

-- all words but the first are others
overwrite-tail : (a : ℕ) (ws ns : List ℕ) → length ws ≡ length ns → overwrite 8 (layout ns []) (layout (a ∷ ws) []) ≡ layout (a ∷ ns) []
unfolding layout
overwrite-tail a ws ns e =
    let l = length-layout (a ∷ ws) [] in
    let n = length-layout ns [] in
    ap (λ (t : List ℕ). big_bytes 8 a ++ (layout ns [] ++ t))
    (drop_all (8 + length (layout ns [])) (layout (a ∷ ws) []) (omega (arith, l, n, e)))
    ∙ ap (λ (t : List ℕ). big_bytes 8 a ++ t) (append-nil (layout ns []))

-- the words of an object behind its account's
abbrev tail_words : ObjectRow → List ℕ
tail_words row =
    first_of extent_addr 0 row.extents ∷ last_of extent_addr 0 row.extents
    ∷ first_of capsule_addr 0 row.headers ∷ last_of capsule_addr 0 row.headers
    ∷ first_of capsule_addr 0 row.trailers ∷ last_of capsule_addr 0 row.trailers
    ∷ row.part_offset ∷ row.part_length ∷ []

-- the words that tell of a chain
abbrev pub chain_words : Chain → ℕ → List ℕ
chain_words chain bytes = chain.first ∷ chain.last ∷ 0 ∷ 0 ∷ 0 ∷ 0 ∷ 0 ∷ bytes ∷ []

pub sets_whole : {object : ℕ} (chain : Chain) (bytes : ℕ) {old new : Heap} (buffer : List ℕ) → buffer ≡ layout (chain_words chain bytes) [] →
    new ≡ with_bytes old object 8 buffer → SetsWhole object chain bytes old new
sets_whole {object} chain bytes {old} {new} buffer is w = record {
  sets = λ row extents ends e. record {
    kept = λ rest s.
        let here = found old.blocks object (object_block row) [] rest s in
        let words : chain_words chain bytes ≡ tail_words (whole_of row extents) =
        λ i. ends.first i ∷ ends.last i ∷ 0 ∷ 0 ∷ 0 ∷ 0 ∷ 0 ∷ e i ∷ [] in
        let block : overwritten (old.blocks object) 8 buffer ≡ Some (object_block (whole_of row extents)) =
        ap (λ (o : Option Block). overwritten o 8 buffer) here
        ∙ ap (λ (l : List ℕ). overwritten (Some (object_block row)) 8 l) (is ∙ ap (λ (ws : List ℕ). layout ws []) words)
        ∙ ap (λ (l : List ℕ). Some (record { kind = kinds.Object; bytes = l }))
        (overwrite-tail (account_number row.account) (tail_words row) (tail_words (whole_of row extents)) refl) in
        subst (λ (b : Blocks). BlocksAre b ((object, object_block (whole_of row extents)) ∷ rest))
        (sym (heap_blocks w ∙ ap (with_block old.blocks object) block))
        (written_at old.blocks object (object_block row) (object_block (whole_of row extents)) [] rest s);
  };
  same = ap besides w;
}
