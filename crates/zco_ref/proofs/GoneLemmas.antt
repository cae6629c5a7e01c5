-- Sources that are gone.
use Rattle.std.proofs.Common.{◌≡◌, ◌≢◌, ℕ, ◌-◌, List, [], ◌∷◌, ◌++◌, refl, sym, ap, ◌∙◌, arith, subst, append_assoc, inl, inr}
use Rattle.std.proofs.lemmas.List.{append-nil}
use Rattle.std.specs.Prelude.{Option, None, Some, ◌⊎◌}
use Rattle.sdr_base.specs.Blocks.{Block, Blocks, Reaches, with_block}
use Rattle.sdr_base.specs.Entries.{Changes, BlocksAre}
use Rattle.sdr_base.specs.Making.{GaveSome, Made, besides, gave, with_moves}
use Rattle.sdr_base.specs.Objects.{Heap, OnlyUnmoved, with_given}
use Rattle.sdr_base.specs.Raws.{raw_block}
use Rattle.sdr_base.specs.Words.{with_word}
use Rattle.sdr_base.specs.declared.kind.Kind.TheVariants as kinds
use Rattle.sdr_base.specs.declared.medium.Medium.{Medium}
use Rattle.sdr_base.specs.declared.medium.Medium.TheVariants as media
use Rattle.sdr_base.specs.declared.moves.Move.{Move}
use Rattle.sdr_base.specs.declared.moves.Move.TheVariants.{Gave}
use Rattle.sdr_base.specs.declared.refusal.Refusal.TheVariants.{LogFull}
use Rattle.sdr_base.specs.declared.stop.Stop.{Stop}
use Rattle.sdr_base.specs.declared.stop.Stop.TheVariants.{Refused, DiskFault, MediaFault, Failed}
use Rattle.sdr_base.proofs.HeapLemmas.{given_blocks, heap_blocks}
use Rattle.sdr_base.proofs.ObjectsLemmas.{with_block-apart}
use Rattle.sdr_base.proofs.StandingLemmas.{went}
use Rattle.sdr_base.proofs.WritingLemmas.{reaches, word_set}
use Rattle.zco_ref.specs.Going.{SourceGoes, OnlyGave, VanishStops, Vanishes, gone_with, blocks_left}
use Rattle.zco_ref.specs.Kept.{CountedSource, SomeTied, counted_block, counted_entries, raw_part}
use Rattle.zco_ref.specs.Seeing.{SeesSource}
use Rattle.zco_ref.specs.declared.seeing.Seen.{Seen}
use Rattle.zco_ref.proofs.KeptLemmas.{source_reaches, stand_apart, tied_heap, tied_obj}

-- two blocks given back, one after the other
gave_two : (raw addr : ℕ) (old : Heap) →
    besides (with_given (with_given old raw) addr) ≡ besides (with_moves old (Gave raw ∷ Gave addr ∷ []))
gave_two raw addr old =
    ap (λ (ms : List Move). record (besides old) { moves = ms; spare = (old.spare - 1) - 1 })
    (append_assoc old.moves (Gave raw ∷ []) (Gave addr ∷ []))
    ∙ ap (λ (n : ℕ). record (besides old) { moves = old.moves ++ (Gave raw ∷ Gave addr ∷ []); spare = n }) (omega arith)

-- a source of this medium is gone, by what becomes of its blocks and by its moves
gone_as : {addr : ℕ} {old new : Heap} (s : CountedSource) (bytes : List ℕ) (medium : Medium) → s.row.medium ≡ medium →
    Changes old.blocks new.blocks (counted_entries addr s ++ raw_part medium s.row.subject addr bytes)
    (blocks_left medium s.row.subject bytes) →
    Made (gave (gone_with medium s.row.subject addr)) old new → SourceGoes addr s bytes old new
gone_as {addr} {old} {new} s bytes medium e c m = record {
  changes =
      subst (λ (n : Medium). Changes old.blocks new.blocks (counted_entries addr s ++ raw_part n s.row.subject addr bytes)
      (blocks_left n s.row.subject bytes)) (sym e) c;
  made = subst (λ (n : Medium). Made (gave (gone_with n s.row.subject addr)) old new) (sym e) m;
}

-- one that has taken over a raw object is, which went first
pub gone_heap : {addr : ℕ} {old mid new : Heap} (seen : Seen) → seen.medium ≡ media.Heap → SeesSource (old.blocks addr) seen →
    mid ≡ with_given old seen.subject → new ≡ with_given mid addr → Vanishes addr old new
gone_heap {addr} {old} {mid} {new} seen is sees g h = record {
  goes = λ s bytes t.
      let said = sees.sees s t.keeps in
      let first : mid ≡ with_given old s.row.subject = g ∙ ap (with_given old) said.subject in
      gone_as s bytes media.Heap (sym said.medium ∙ is)
      (record {
        kept = λ rest st.
            subst (λ (b : Blocks). BlocksAre b rest) (sym (given_blocks addr mid new h))
            (went mid.blocks addr (counted_block s) [] rest
            (subst (λ (b : Blocks). BlocksAre b ((addr, counted_block s) ∷ rest)) (sym (given_blocks s.row.subject old mid first))
            (went old.blocks s.row.subject (raw_block addr bytes) ((addr, counted_block s) ∷ []) rest st)));
      })
      (record {
        all = ap besides (h ∙ ap (λ (m : Heap). with_given m addr) first) ∙ gave_two s.row.subject addr old;
      });
}

-- one whose raw object stays with its owner is, and no source names that
pub gone_obj : {addr : ℕ} {old mid new : Heap} (seen : Seen) → seen.medium ≡ media.Obj → SeesSource (old.blocks addr) seen →
    mid ≡ with_word old seen.subject 0 0 → new ≡ with_given mid addr → Vanishes addr old new
gone_obj {addr} {old} {mid} {new} seen is sees w h = record {
  goes = λ s bytes t.
      let said = sees.sees s t.keeps in
      let first : mid ≡ with_word old s.row.subject 0 0 = w ∙ ap (λ (raw : ℕ). with_word old raw 0 0) said.subject in
      gone_as s bytes media.Obj (sym said.medium ∙ is)
      (record {
        kept = λ rest st.
            subst (λ (b : Blocks). BlocksAre b ((s.row.subject, raw_block 0 bytes) ∷ rest)) (sym (given_blocks addr mid new h))
            (went mid.blocks addr (counted_block s) [] ((s.row.subject, raw_block 0 bytes) ∷ rest)
            (word_set old.blocks mid.blocks s.row.subject kinds.Raw (addr ∷ []) bytes 0 0 ((addr, counted_block s) ∷ []) rest
            (heap_blocks first) (omega arith) st));
      })
      (record { all = ap besides (h ∙ ap (λ (m : Heap). with_given m addr) first) });
}

-- one of a file or of an item is
pub gone_plain : {addr : ℕ} {old new : Heap} (seen : Seen) → (seen.medium ≡ media.File) ⊎ (seen.medium ≡ media.Bulk) →
    SeesSource (old.blocks addr) seen → new ≡ with_given old addr → Vanishes addr old new
gone_plain {addr} {old} {new} seen is sees h = record {
  goes = λ s bytes t. by s bytes is (sees.sees s t.keeps).medium;
}
  where
    given : (s : CountedSource) → Changes old.blocks new.blocks (counted_entries addr s) []
    given s = record {
      kept = λ rest st.
          subst (λ (b : Blocks). BlocksAre b rest) (sym (given_blocks addr old new h)) (went old.blocks addr (counted_block s) [] rest st);
    }

    by : (s : CountedSource) (bytes : List ℕ) → (seen.medium ≡ media.File) ⊎ (seen.medium ≡ media.Bulk) →
        seen.medium ≡ s.row.medium → SourceGoes addr s bytes old new
    by s bytes (inl e) m = gone_as s bytes media.File (sym m ∙ e) (given s) (record { all = ap besides h })
    by s bytes (inr e) m = gone_as s bytes media.Bulk (sym m ∙ e) (given s) (record { all = ap besides h })

-- a block that was there is there still, once another one is given back or written
stays : (old new : Heap) (other : ℕ) (put : Option Block) (addr end : ℕ) → new.blocks ≡ with_block old.blocks other put → addr ≢ other →
    Reaches (old.blocks addr) end → Reaches (new.blocks addr) end
stays old new other put addr end e apart r =
    subst (λ (o : Option Block). Reaches o end)
    (sym (ap (λ (b : Blocks). b addr) e ∙ with_block-apart old.blocks other put addr apart)) r

module _ (addr : ℕ) (old : Heap) (seen : Seen) (sees : SeesSource (old.blocks addr) seen) (t : SomeTied old.blocks addr) where
  -- the source is there
  pub source_used : Reaches (old.blocks addr) 0
  source_used = source_reaches t.tied.keeps 0 (omega arith)

  -- what is said of it
  medium_seen : (medium : Medium) → seen.medium ≡ medium → t.source.row.medium ≡ medium
  medium_seen medium is = sym (sees.sees t.source t.tied.keeps).medium ∙ is

  heap_there : seen.medium ≡ media.Heap → old.blocks seen.subject ≡ Some (raw_block addr t.bytes)
  heap_there is =
      ap old.blocks (sees.sees t.source t.tied.keeps).subject
      ∙ tied_heap t.source.row.medium (old.blocks t.source.row.subject) addr t.bytes (medium_seen media.Heap is) t.tied.raw

  obj_there : seen.medium ≡ media.Obj → old.blocks seen.subject ≡ Some (raw_block addr t.bytes)
  obj_there is =
      ap old.blocks (sees.sees t.source t.tied.keeps).subject
      ∙ tied_obj t.source.row.medium (old.blocks t.source.row.subject) addr t.bytes (medium_seen media.Obj is) t.tied.raw

  -- the raw object that it has taken over is there
  pub heap_used : seen.medium ≡ media.Heap → Reaches (old.blocks seen.subject) 0
  heap_used is = rw (heap_there is) (omega arith)

  -- so is one that stays with its owner
  pub obj_used : seen.medium ≡ media.Obj → Reaches (old.blocks seen.subject) 8
  obj_used is = reaches _ kinds.Raw (addr ∷ []) t.bytes 8 (obj_there is) (omega arith)

  -- and the source still, after either
  pub used_after_give : {mid : Heap} → seen.medium ≡ media.Heap → mid ≡ with_given old seen.subject → Reaches (mid.blocks addr) 0
  used_after_give {mid} is g =
      stays old mid seen.subject None addr 0 (given_blocks seen.subject old mid g)
      (stand_apart old.blocks addr seen.subject addr t.source t.bytes t.tied.keeps.block (heap_there is)) source_used

  pub used_after_word : (mid : Heap) (put : Option Block) → seen.medium ≡ media.Obj →
      mid.blocks ≡ with_block old.blocks seen.subject put → Reaches (mid.blocks addr) 0
  used_after_word mid put is w =
      stays old mid seen.subject put addr 0 w
      (stand_apart old.blocks addr seen.subject addr t.source t.bytes t.tied.keeps.block (obj_there is)) source_used

-- why a source doesn't go, by its medium
pub stops_as : (medium : Medium) (raw : ℕ) (old new : Heap) (stop : Stop) (of : Medium) → medium ≡ of → VanishStops of raw old new stop →
    VanishStops medium raw old new stop
stops_as medium raw old new stop of e v = subst (λ (m : Medium). VanishStops m raw old new stop) (sym e) v

-- no move was made
pub unmoved : {old new : Heap} (addrs : List ℕ) → new.moves ≡ old.moves → new.spare ≡ old.spare → GaveSome addrs old new
unmoved {old} {new} addrs m s = record {
  made = [];
  first = record { rest = gave addrs; whole = refl };
  moves = m ∙ sym (append-nil old.moves);
  spare = omega (arith, s);
}

-- nor is the raw object that it had taken over given back
pub first_stops : (raw : ℕ) (old new : Heap) (stop : Stop) → OnlyUnmoved old new stop → OnlyGave raw old new stop
first_stops raw old new (Refused (LogFull lines room)) u = unmoved (raw ∷ []) u.moves u.spare
first_stops raw old new (Refused refusal) u = absurd u
first_stops raw old new DiskFault u = tt
first_stops raw old new MediaFault u = absurd u
first_stops raw old new Failed u = tt

-- or that was all
pub second_stops : {mid : Heap} (raw : ℕ) (old new : Heap) (stop : Stop) → mid ≡ with_given old raw → OnlyUnmoved mid new stop →
    OnlyGave raw old new stop
second_stops {mid} raw old new (Refused (LogFull lines room)) g u = record {
  made = Gave raw ∷ [];
  first = record { rest = []; whole = refl };
  moves = u.moves ∙ ap (λ (h : Heap). h.moves) g;
  spare = u.spare ∙ ap (λ (h : Heap). h.spare) g;
}
second_stops raw old new (Refused refusal) g u = absurd u
second_stops raw old new DiskFault g u = tt
second_stops raw old new MediaFault g u = absurd u
second_stops raw old new Failed g u = tt
