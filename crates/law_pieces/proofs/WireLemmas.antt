-- The bytes of an object that stands beside a text may be read.
use Rattle.std.proofs.Common.{◌≡◌, ◌+◌, ℕ, List, [], ◌∷◌, ◌++◌, length, Option, Some, None, refl, sym, ap, ◌∙◌, subst, arith, append_assoc}
use Rattle.std.specs.Prelude.{All}
use Rattle.std.proofs.lemmas.List.Concat.{flat_map-append}
use Rattle.std.proofs.lemmas.List.Elements.{All-head, All-tail, All-weaker}
use Rattle.sdr_base.specs.Blocks.{Blocks}
use Rattle.sdr_base.specs.Entries.{BlocksAre, Entries}
use Rattle.sdr_base.specs.Objects.{Heap}
use Rattle.sdr_base.specs.Raws.{raw_block}
use Rattle.sdr_base.specs.ZcoObjects.{ExtentRow}
use Rattle.sdr_base.specs.declared.medium.Medium.{Medium}
use Rattle.sdr_base.specs.declared.medium.Medium.TheVariants as media
use Rattle.sdr_base.proofs.StandingLemmas.{found}
use Rattle.sdr_model.specs.declared.piece.Piece.{Piece}
use Rattle.zco_obj.specs.Gone.{NamedSource, source_at, sources_entries}
use Rattle.zco_obj.specs.Kept.{ExtentFits}
use Rattle.zco_obj.specs.Links.{piece_of}
use Rattle.zco_obj.specs.Uses.{CountsUses, IsThere}
use Rattle.zco_obj.specs.declared.extent.ExtentPiece.{ExtentPiece}
use Rattle.zco_obj.proofs.SpotLemmas.{find_spot}
use Rattle.zco_ref.specs.Kept.{IsTiedRaw, KeepsTied, SourceFits, counted_block, raw_part, tied_entries}
use Rattle.zco_join.specs.Stocks.{objects_entries, queues_entries}
use Rattle.zco_join.specs.declared.filled.Filled.{Filled}
use Rattle.zco_join.proofs.AppendLemmas.{all_one}
use Rattle.zco_pieces.proofs.CutLemmas.{kept_object}
use Rattle.zco_wire.specs.Naming.{AreNamed, HasUntil, IsNamed, IsWire, source_piece}
use Rattle.law_pieces.specs.Texts.{HasAllBytes, HasBytes, SomeText}
use Rattle.law_pieces.proofs.HoldLemmas.{before_other}
use Rattle.law_pieces.proofs.TextLemmas.{focused, may_clone, spot}

is_there : (p : ExtentPiece) (o : Option NamedSource) → HasBytes p o → IsThere o
is_there p None h = absurd h
is_there p (Some s) h = tt

-- sources stand behind other blocks
module _ {b : Blocks} (before : Entries) (ss : List NamedSource) (rest : Entries) (stands : BlocksAre b (before ++ (sources_entries ss ++ rest))) where
  tied_at : (front : List NamedSource) (s : NamedSource) (back : List NamedSource) → ss ≡ front ++ (s ∷ back) → SourceFits s.source →
      s.source.row.medium ≡ media.Heap → KeepsTied b s.addr s.source s.bytes
  tied_at front s back whole fits heap =
      let f : NamedSource → Entries = λ x. tied_entries x.addr x.source x.bytes in
      let S1 = sources_entries front in
      let S2 = sources_entries back in
      let T = tied_entries s.addr s.source s.bytes in
      let Y = S2 ++ rest in
      let C = counted_block s.source in
      let one : BlocksAre b ((before ++ S1) ++ (T ++ Y)) =
      subst (BlocksAre b)
      (ap (λ (es : Entries). before ++ (es ++ rest)) (ap sources_entries whole ∙ flat_map-append f front (s ∷ back))
      ∙ ap (λ (es : Entries). before ++ es) (append_assoc S1 (T ++ S2) rest ∙ ap (λ (es : Entries). S1 ++ es) (append_assoc T S2 rest))
      ∙ sym (append_assoc before S1 (T ++ Y))) stands in
      let two : BlocksAre b ((before ++ S1) ++ ((s.addr, C) ∷ ((s.source.row.subject, raw_block s.addr s.bytes) ∷ Y))) =
      subst (λ (m : Medium). BlocksAre b ((before ++ S1) ++ ((s.addr, C) ∷ (raw_part m s.source.row.subject s.addr s.bytes ++ Y)))) heap one in
      record {
        keeps = record {
          block = found b s.addr C (before ++ S1) (raw_part s.source.row.medium s.source.row.subject s.addr s.bytes ++ Y) one;
          fits = fits;
        };
        raw =
            subst (λ (m : Medium). IsTiedRaw m (b s.source.row.subject) s.addr s.bytes) (sym heap)
            (found b s.source.row.subject (raw_block s.addr s.bytes) ((before ++ S1) ++ ((s.addr, C) ∷ [])) Y
            (subst (BlocksAre b) (sym (append_assoc (before ++ S1) ((s.addr, C) ∷ []) ((s.source.row.subject, raw_block s.addr s.bytes) ∷ Y))) two));
      }

  module _ (fit : All (λ s. SourceFits s.source) ss) where
    named_one : (e : ExtentRow) → ExtentFits e → HasBytes (piece_of e) (source_at e.source ss) → (p : Piece) × IsNamed b (piece_of e) p
    named_one e f h =
        let spot = find_spot e.source ss (is_there (piece_of e) (source_at e.source ss) h) in
        let s = spot.here in
        let has : HasBytes (piece_of e) (Some s) = subst (HasBytes (piece_of e)) spot.is_found h in
        let fits = all_one (λ (y : NamedSource). SourceFits y.source) spot.before s spot.behind (subst (All (λ (y : NamedSource). SourceFits y.source)) spot.whole fit) in (
          source_piece s.source.row s.bytes e.offset e.length,
          record {
            source = s.source;
            bytes = s.bytes;
            tied = subst (λ a. KeepsTied b a s.source s.bytes) spot.at (tied_at spot.before s spot.behind spot.whole fits has.0);
            path = let n = ap (length {A = ℕ}) has.1 in omega (arith, n);
            ends = f.inside;
            inside = subst (λ (m : Medium). HasUntil m s.bytes (e.offset + e.length)) (sym has.0) has.2;
            is = refl;
          },
        )

    named_all : (es : List ExtentRow) → All ExtentFits es → All (λ e. HasBytes (piece_of e) (source_at e.source ss)) es →
        (ps : List Piece) × AreNamed b es ps
    named_all [] f h = ([], tt)
    named_all (e ∷ es) f h =
        let one = named_one e (All-head ExtentFits e es f) (All-head (λ (x : ExtentRow). HasBytes (piece_of x) (source_at x.source ss)) e es h) in
        let more = named_all es (All-tail ExtentFits e es f) (All-tail (λ (x : ExtentRow). HasBytes (piece_of x) (source_at x.source ss)) e es h) in
        (one.0 ∷ more.0, (one.1, more.1))

-- so it is with an object beside a text
pub is_wire : {heap : Heap} {parts : List Filled} (object : ℕ) (before behind : List ℕ) {most room : ℕ} →
    SomeText heap parts (before ++ (object ∷ behind)) most room → IsWire heap.blocks object
is_wire {heap} object before behind t = λ kind.
    let x = t.beside in
    let f = focused object before behind t in
    let s = spot object before behind t in
    let z = s.here in
    let os = z ∷ (x.clones ++ (s.front ++ s.back)) in
    let O = objects_entries os in
    let Q = queues_entries (before_other z.row.account x.tickets) in
    let kept = kept_object (may_clone object before behind t) in
    let fit : All (λ y. SourceFits y.source) x.sources =
    All-weaker (CountsUses z.row.account _) (λ (y : NamedSource). SourceFits y.source) (λ y u. u.fits) x.sources (f.keeps.named z.row.account).counted in
    let named =
    named_all (O ++ Q) x.sources x.rest (subst (BlocksAre heap.blocks) (sym (append_assoc O Q (sources_entries x.sources ++ x.rest))) f.keeps.stands) fit
    z.row.extents kept.fits.extents (All-head (HasAllBytes x.sources) z (x.clones ++ (s.front ++ s.back)) f.bytes) in
    record { row = z.row; named = named.0; keeps = record { keeps = kept; are = named.1 } }
