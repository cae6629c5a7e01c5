-- The extents of an object are cut to its part.
use Rattle.std.proofs.Common.{◌≡◌, ◌∙◌, ◌+◌, ◌≤◌, ◌<◌, ◌^◌, ℕ, List, [], ◌∷◌, ◌++◌, refl, sym, ap, subst, arith, append_assoc}
use Rattle.sdr_base.proofs.StandingLemmas.{found}
use Rattle.sdr_base.proofs.WritingLemmas.{reaches}
use Rattle.sdr_base.specs.Blocks.{Block, Blocks, Reaches}
use Rattle.sdr_base.specs.Entries.{Changes, Entries, BlocksAre}
use Rattle.sdr_base.specs.Linked.{first_of, last_of}
use Rattle.sdr_base.specs.Making.{besides}
use Rattle.sdr_base.specs.Objects.{Heap, OnlyUnmoved}
use Rattle.sdr_base.specs.Words.{HasWord}
use Rattle.sdr_base.specs.ZcoObjects.{ObjectRow, capsule_entries, extent_addr, extent_entries, object_block, object_entries}
use Rattle.sdr_base.specs.declared.kind.Kind.TheVariants as kinds
use Rattle.sdr_base.specs.declared.refusal.Refusal.TheVariants.{LogFull}
use Rattle.sdr_base.specs.declared.stop.Stop.{Stop}
use Rattle.sdr_base.specs.declared.stop.Stop.TheVariants.{Refused, DiskFault, MediaFault, Failed}
use Rattle.zco_strip.proofs.ChainChanges.{changes_swapped, changes_then}
use Rattle.zco_strip.proofs.OutsideLaws.{part_stays}
use Rattle.zco_strip.specs.Chain.{ChainOf, ChainParted, PartsChain, SomeChain}
use Rattle.zco_strip.specs.Cuts.{inside, outside, part_end, stripped}
use Rattle.zco_strip.specs.Linking.{SetsEnds}
use Rattle.zco_strip.specs.Stripping.{CutsObject, KeepsToStrip, SomeToStrip, TellsSpan}
use Rattle.zco_strip.specs.declared.chain.Parted.{Parted}
use Rattle.zco_strip.specs.declared.stripping.Span.{Span}
use Rattle.zco_obj.proofs.KeptLemmas.{extents_most, object_reaches, object_word, object_words}
use Rattle.zco_obj.proofs.PairLemmas.{swapped}
use Rattle.zco_obj.proofs.PartsLemmas.{extents_at}
use Rattle.zco_obj.specs.Extents.{extents_block}
use Rattle.zco_obj.specs.Gone.{NamedSource, sources_entries}
use Rattle.zco_obj.specs.Kept.{KeepsObject, SomeObject}

-- an object that is kept so is kept
pub object_kept : {blocks : Blocks} {object : ℕ} {row : ObjectRow} {ss : List NamedSource} → KeepsToStrip blocks object row ss →
    KeepsObject blocks object row
object_kept {ss = ss} k =
    record { rest = sources_entries ss ++ k.keeps.rest; stands = k.keeps.stands; fits = k.keeps.fits }

pub some_kept : {heap : Heap} {object : ℕ} → SomeToStrip heap object → SomeObject heap.blocks object
some_kept q = record { row = q.row; keeps = object_kept q.keeps }

-- its words are there, and say where its part lies
pub some_reaches : {blocks : Blocks} {object : ℕ} → SomeObject blocks object → (end : ℕ) → end ≤ 72 → Reaches (blocks object) end
some_reaches q end le = object_reaches q.keeps end le

pub span_told : {blocks : Blocks} {object : ℕ} (first from bytes : ℕ) → HasWord (blocks object) 1 first → HasWord (blocks object) 7 from →
    HasWord (blocks object) 8 bytes → TellsSpan blocks object (record { first = first; from = from; to = from + bytes })
span_told first from bytes f o b = record {
  told = λ row k.
      let offset = object_word k 7 from (omega arith) o in
      let part = object_word k 8 bytes (omega arith) b in
      record { first = object_word k 1 first (omega arith) f; from = offset; to = λ i. offset i + part i };
}

pub span_short : {blocks : Blocks} {object : ℕ} (from bytes : ℕ) → SomeObject blocks object → HasWord (blocks object) 7 from →
    HasWord (blocks object) 8 bytes → from + bytes < 2 ^ 64
span_short from bytes q o b =
    let offset = object_word q.keeps 7 from (omega arith) o in
    let part = object_word q.keeps 8 bytes (omega arith) b in
    let f = q.keeps.fits in let i = f.part in let m = extents_most q.row.extents f.extents in let n = f.few in
    omega (arith, offset, part, i, m, n)

-- a call after one that changed the blocks alone
pub unmoved_after : (old mid new : Heap) (stop : Stop) → besides mid ≡ besides old → OnlyUnmoved mid new stop →
    OnlyUnmoved old new stop
unmoved_after old mid new (Refused (LogFull lines room)) e u =
    record { moves = u.moves ∙ ap (λ (h : Heap). h.moves) e; spare = u.spare ∙ ap (λ (h : Heap). h.spare) e }
unmoved_after old mid new (Refused refusal) e u = absurd u
unmoved_after old mid new DiskFault e u = u
unmoved_after old mid new MediaFault e u = absurd u
unmoved_after old mid new Failed e u = u

module _ {object : ℕ} (old : Heap) (span : Span) (f : TellsSpan old.blocks object span) where
  -- its extents are a chain
  chain_of : {row : ObjectRow} {ss : List NamedSource} → KeepsToStrip old.blocks object row ss → ChainOf old.blocks span.first row.extents
  chain_of k = record { chain = extents_at (object_kept k) span.first (f.told _ (object_kept k)).first; bytes = k.bytes }

  pub some_chain : SomeToStrip old object → SomeChain old.blocks span.first span.to
  some_chain q = record {
    rows = q.row.extents;
    is = chain_of q.keeps;
    long = let t = (f.told q.row (object_kept q.keeps)).to in let p = q.keeps.keeps.fits.part in omega (arith, t, p);
  }

  pub span_ordered : SomeToStrip old object → span.from ≤ span.to
  span_ordered q = let t = f.told q.row (object_kept q.keeps) in let a = t.from in let b = t.to in omega (arith, a, b)

  module _ {mid : Heap} {p : Parted} (parts : PartsChain span.first span.from span.to old mid p) where
    parted : {row : ObjectRow} {ss : List NamedSource} → KeepsToStrip old.blocks object row ss →
        ChainParted row.part_offset (part_end row) row.extents old mid p
    parted {row} {ss} k =
        let t = f.told row (object_kept k) in
        subst (λ n. ChainParted n (part_end row) row.extents old mid p) t.from
        (subst (λ n. ChainParted span.from n row.extents old mid p) t.to
        (parts.parts row.extents (chain_of k) (let e = t.to in let i = k.keeps.fits.part in omega (arith, e, i))))

    -- the object with two chains in place of one
    opened : {row : ObjectRow} {ss : List NamedSource} → KeepsToStrip old.blocks object row ss →
        Changes old.blocks mid.blocks (object_entries object row)
        ((object, object_block row)
        ∷ ((capsule_entries row.headers ++ (extent_entries (inside row) ++ extent_entries (outside row))) ++ capsule_entries row.trailers))
    opened {row} k =
        let H = capsule_entries row.headers in
        let X = extent_entries row.extents in
        let T = capsule_entries row.trailers in
        let both = extent_entries (inside row) ++ extent_entries (outside row) in
        let O : Entries = (object, object_block row) ∷ [] in
        changes_swapped
        (record {
          before = (object, object_block row) ∷ H;
          behind = T;
          was = ap (λ (es : Entries). O ++ es) (append_assoc H X T);
          is = ap (λ (es : Entries). O ++ es) (append_assoc H both T);
        }) (parted k).changes

    pub object_there : SomeToStrip old object → Reaches (mid.blocks object) 72
    object_there q =
        let s = (opened q.keeps).kept (sources_entries q.sources ++ q.keeps.keeps.rest) q.keeps.keeps.stands in
        reaches (mid.blocks object) kinds.Object (object_words q.row) [] 72 (found mid.blocks object (object_block q.row) [] _ s) (omega arith)

    pub cuts_object : {new : Heap} → SetsEnds object p.first p.last mid new → CutsObject object old new p
    cuts_object {new} ends = record {
      cuts = λ row ss k.
          let c = parted k in
          let H = capsule_entries row.headers in
          let I = extent_entries (inside row) in
          let U = extent_entries (outside row) in
          let T = capsule_entries row.trailers in
          let first = first_of extent_addr 0 row.extents in
          let last = last_of extent_addr 0 row.extents in
          let none : ObjectRow = record row { part_offset = 0 } in
          let block : extents_block none p.first p.last row.part_length ≡ object_block (stripped row) =
          λ i. extents_block none (c.at_first i) (c.at_last i) (sym (part_stays row k.keeps.fits) i) in
          let set : Changes mid.blocks new.blocks ((object, object_block row) ∷ []) ((object, object_block (stripped row)) ∷ []) =
          subst (λ (b : Block). Changes mid.blocks new.blocks ((object, object_block row) ∷ []) ((object, b) ∷ [])) block
          (ends.sets row first last row.part_length) in
          let all = (H ++ (I ++ U)) ++ T in
          let begun : Changes mid.blocks new.blocks ((object, object_block row) ∷ all) ((object, object_block (stripped row)) ∷ all) =
          changes_swapped (record { before = []; behind = all; was = refl; is = refl }) set in
          let apart : Changes new.blocks new.blocks ((object, object_block (stripped row)) ∷ all) (object_entries object (stripped row) ++ U) =
          record {
            kept = λ rest s.
                let O : Entries = (object, object_block (stripped row)) ∷ (H ++ I) in
                let line : all ++ rest ≡ (H ++ I) ++ (U ++ (T ++ rest)) = simp append_assoc in
                let line' : (H ++ I) ++ (T ++ (U ++ rest)) ≡ (((H ++ I) ++ T) ++ U) ++ rest = simp append_assoc in
                subst (λ (es : Entries). BlocksAre new.blocks ((object, object_block (stripped row)) ∷ es)) line'
                (swapped new.blocks O U T rest
                (subst (λ (es : Entries). BlocksAre new.blocks ((object, object_block (stripped row)) ∷ es)) line s));
          } in
          record {
            changes = changes_then (opened k) (changes_then begun apart);
            at_out = c.at_out;
          };
      same = ends.same ∙ parts.same;
    }
