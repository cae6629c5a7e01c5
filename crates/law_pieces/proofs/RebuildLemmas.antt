-- What the calls on a text do to blocks is what the law of rebuilding speaks of.
use Rattle.std.proofs.Common.{◌≡◌, ◌≢◌, ◌+◌, ◌-◌, ◌*◌, ◌≤◌, ℕ, Bool, true, false, List, [], ◌∷◌, ◌++◌, length, refl, sym, ap, ◌∙◌, subst, arith}
use Rattle.std.specs.Prelude.{◌==◌, All, MatchBool, map}
use Rattle.std.proofs.lemmas.List.{map-append}
use Rattle.std.proofs.lemmas.List.Elements.{All-head, All-tail}
use Rattle.sdr_base.specs.Objects.{Heap}
use Rattle.sdr_base.specs.ZcoObjects.{ObjectRow}
use Rattle.zco_obj.specs.Gone.{sources_entries}
use Rattle.zco_obj.specs.Kept.{ObjectFits}
use Rattle.zco_part.specs.Cloning.{ClonesPart}
use Rattle.zco_part.specs.Pieces.{asked, extents_at, whole_row}
use Rattle.zco_part.specs.Sources.{all_counted}
use Rattle.zco_join.specs.Joining.{AreClones}
use Rattle.zco_join.specs.Stocks.{Standing, queues_entries}
use Rattle.zco_join.specs.declared.filled.Filled.{Filled}
use Rattle.zco_join.proofs.CountedLemmas.{all_front}
use Rattle.zco_pieces.specs.Adding.{AddsPiece, IsPieceOf}
use Rattle.zco_pieces.specs.Bytes.{FitsText, part_bytes}
use Rattle.zco_pieces.specs.Cutting.{CutsPiece, HasLength, HasPiece}
use Rattle.zco_pieces.specs.Places.{Rebuilt, cut_length, opened, Range, missing_of, uncovered}
use Rattle.zco_pieces.specs.Runs.{AddStep, Added, GapFilled, GapsFilled, IsCloneOf, Rebuilds, range_of}
use Rattle.zco_pieces.specs.declared.piece.Piece.{Piece}
use Rattle.zco_pieces.proofs.CutLawLemmas.{clone_length, cut_fits, piece_begins}
use Rattle.zco_pieces.proofs.FillLemmas.{is_cloned, tickets_then}
use Rattle.zco_pieces.proofs.RunLemmas.{run_missing}
use Rattle.law_pieces.specs.Rebuilding.{AreAt, HoldsRebuilt, PieceRow, by_held, covers}
use Rattle.law_pieces.specs.Texts.{Holds, both, other, room_to_add, SomeText}
use Rattle.law_pieces.proofs.AddedLemmas.{added_holds, kept_there, standing_nonzero}
use Rattle.law_pieces.proofs.CloneLemmas.{holds_clone, to_clone}
use Rattle.law_pieces.proofs.GapLemmas.{GapClone, GapClones}
use Rattle.law_pieces.proofs.HoldLemmas.{before_other, holds_moved}
use Rattle.law_pieces.proofs.TextLemmas.{focus_holds, told_both}
use Rattle.law_pieces.proofs.RowLemmas.{row_at, rows_there}

-- beside a text of which no byte is filled stand some objects
pub none_rebuilt : {heap : Heap} {loose : List ℕ} {most room : ℕ} (total : ℕ) → SomeText heap [] loose most room →
    (others : List Standing) × (map (λ (z : Standing). z.addr) others ≡ loose) × HoldsRebuilt heap total [] (record { total = total; parts = [] }) others most room
none_rebuilt total t = (
  t.beside.others,
  t.keeps.at,
  record {
    beside = t.beside;
    holds = t.keeps.holds;
    clones = t.keeps.clones;
    stand = refl;
    rebuilt = record { rebuilds = λ clone_at held at. refl };
  },
)

-- the calls need no more than what stands there
pub rebuilt_text : {heap : Heap} {total : ℕ} {added : List PieceRow} {r : Rebuilt} {others : List Standing} {most room : ℕ} →
    HoldsRebuilt heap total added r others most room → SomeText heap r.parts (map (λ (z : Standing). z.addr) others) most room
rebuilt_text h = record {
  beside = h.beside;
  keeps = record { holds = h.holds; clones = h.clones; at = ap (map (λ (z : Standing). z.addr)) h.stand };
}

-- as many bytes are missing as places that no piece covers
ranges_held : (held : ℕ → ℕ → ℕ) (ps : List PieceRow) → map range_of (map (by_held held) ps) ≡ map covers ps
ranges_held held [] = refl
ranges_held held (p ∷ ps) = ap (λ (rs : List Range). covers p ∷ rs) (ranges_held held ps)

pub rebuilt_missing : {heap : Heap} {total : ℕ} {added : List PieceRow} {r : Rebuilt} {others : List Standing} {most room : ℕ} →
    HoldsRebuilt heap total added r others most room → missing_of r ≡ uncovered total (map covers added)
rebuilt_missing {total = total} {added = added} {r = r} h =
    let none : ℕ → ℕ → ℕ = λ source place. 0 in
    let at = row_at h.beside.clones in
    run_missing at none total (map (by_held none) added) r (h.rebuilt.rebuilds at none (rows_there h.beside h.holds))
    ∙ ap (uncovered total) (ranges_held none added)

-- one piece more was added
rebuilds_more : (clone_at : ℕ → ObjectRow) (held : ℕ → ℕ → ℕ) (as' : List Added) (a : Added) (r mid r' : Rebuilt) → Rebuilds clone_at held r as' mid →
    AddStep clone_at held mid a r' → Rebuilds clone_at held r (as' ++ (a ∷ [])) r'
rebuilds_more clone_at held [] a r mid r' e s = (r', subst (λ (x : Rebuilt). AddStep clone_at held x a r') e s, refl)
rebuilds_more clone_at held (b ∷ as') a r mid r' e s = (e.0, e.1, rebuilds_more clone_at held as' a e.0 mid r' e.2 s)

module _ (clone_at : ℕ → ObjectRow) (held : ℕ → ℕ → ℕ) (part : PieceRow) where
  abbrev a : Added
  a = by_held held part

  -- gaps that have clones are filled, where the clones have these rows
  gaps_filled : (ps qs : List Filled) (es : List Standing) → GapClones part.row part.piece.offset ps qs es → AreClones qs es →
      All (λ e. e.addr ≢ 0) es → AreAt clone_at es → GapsFilled clone_at held a ps qs
  gaps_filled [] [] [] g are n t = tt
  gaps_filled (p ∷ ps) (q ∷ qs) (e ∷ es) g are n t =
      let N : Standing → Type 0 = λ x. x.addr ≢ 0 in
      let P : Standing → Type 0 = λ x. clone_at x.addr ≡ x.row in
      (one (p.object == 0) (All-head N e es n) (All-head P e es t) g.0, gaps_filled ps qs es g.1 are.2 (All-tail N e es n) (All-tail P e es t))
    where
      one : (b : Bool) → e.addr ≢ 0 → clone_at e.addr ≡ e.row → MatchBool b (GapClone part.row part.piece.offset p q e) (q ≡ p) →
          MatchBool b (GapFilled clone_at held a p q) (q ≡ p)
      one true nonzero told gap = record {
        place = gap.place;
        some = λ z. nonzero (are.0 ∙ z);
        clone =
            subst (λ (row : ObjectRow). IsCloneOf part.row (p.offset - part.piece.offset) p.length row) (sym (ap clone_at (sym are.0) ∙ told)) gap.clone;
        stays = refl;
      }
      one false nonzero told same = same
  gaps_filled ps qs es g are n t = absurd g

-- a piece of an object beside a text was added to it
pub rebuilt_added : {old new : Heap} {total : ℕ} {added : List PieceRow} {r r' : Rebuilt} (before : List Standing) (z : Standing) (behind : List Standing)
    {most room number : ℕ} (n : ℕ) (piece : Piece) → HoldsRebuilt old total added r (before ++ (z ∷ behind)) most (room + room_to_add most n) →
    piece.object ≡ z.addr → length r.parts ≤ n → AddsPiece number piece r r' old new →
    HoldsRebuilt new total (added ++ (record { piece = piece; row = z.row } ∷ [])) r' (z ∷ (before ++ behind)) most room
rebuilt_added {old} {new} {total} {added} {r} {r'} before z behind {most} {room} {number} n piece h at few a =
    let x = h.beside in
    let all = opened 0 r.total r.parts piece.offset z.row.part_length in
    let w = added_holds x before z behind h.stand n piece h.holds h.clones at few a in
    let long : a.length ≡ z.row.part_length =
    (subst (λ b. HasLength b a.length old) at a.has).told.tells z.row (kept_there x before z behind h.stand h.holds) in
    let moved = holds_moved (z ∷ []) w.clones (before ++ behind) w.holds in
    let told = told_both (w.clones ++ (z ∷ (before ++ behind))) z.row.account w.tickets (x.tickets (other z.row.account)) w.sources x.rest moved in
    let part : PieceRow = record { piece = piece; row = z.row } in
    let nonzero : All (λ (e : Standing). e.addr ≢ 0) w.clones =
    all_front (λ (e : Standing). e.addr ≢ 0) w.clones (z ∷ (before ++ behind))
    (standing_nonzero [] (w.clones ++ (z ∷ (before ++ behind))) (queues_entries (both told.0) ++ (sources_entries w.sources ++ x.rest)) told.1.keeps.stands) in
    record {
      beside = record { clones = w.clones; others = z ∷ (before ++ behind); tickets = told.0; sources = w.sources; rest = x.rest };
      holds = told.1;
      clones = w.are;
      stand = refl;
      rebuilt = record {
        rebuilds = λ clone_at held at_rows.
            let P : Standing → Type 0 = λ y. clone_at y.addr ≡ y.row in
            let step : AddStep clone_at held r (by_held held part) r' =
            record {
              fits = subst (IsPieceOf r.total piece) long a.fits;
              total = a.total;
              filled = gaps_filled clone_at held part all r'.parts w.clones w.gaps w.are nonzero at_rows;
            } in
            subst (λ (as' : List Added). Rebuilds clone_at held (record { total = total; parts = [] }) as' r') (sym (map-append (by_held held) added (part ∷ [])))
            (rebuilds_more clone_at held (map (by_held held) added) (by_held held part) (record { total = total; parts = [] }) r r'
            (h.rebuilt.rebuilds clone_at held (w.still clone_at at_rows)) step);
      };
    }

-- A piece of an object beside a text was cut.
module _ {old new : Heap} {total : ℕ} {added : List PieceRow} {r : Rebuilt} (before : List Standing) (z : Standing) (behind : List Standing)
    {most number n k : ℕ} (room : ℕ) (piece : Piece) (h : HoldsRebuilt old total added r (before ++ (z ∷ behind)) most (room + (1 + most)))
    (cuts : CutsPiece z.addr number n k old new piece) where
  cut_focus : Holds old most (room + (1 + most)) (record {
    objects = z ∷ (h.beside.clones ++ (before ++ behind));
    queues = before_other z.row.account h.beside.tickets;
    sources = h.beside.sources;
    rest = h.beside.rest;
  })
  cut_focus = focus_holds h.beside before z behind h.stand h.holds

  cut_total : piece.total ≡ z.row.part_length
  cut_total = cuts.total.told.tells z.row (kept_there h.beside before z behind h.stand h.holds)

  pub cut_clones : ClonesPart z.addr number (k * n) (cut_length z.row.part_length n k) old new piece.object
  cut_clones = subst (λ m. ClonesPart z.addr number (k * n) (cut_length m n k) old new piece.object) cut_total cuts.clones

  abbrev pub cut_row : ObjectRow
  cut_row = whole_row z.row.account (extents_at cut_clones.addrs (asked (k * n) (cut_length z.row.part_length n k) z.row))

  cut_kept : ObjectFits z.row
  cut_kept = All-head (λ (y : Standing). ObjectFits y.row) z (h.beside.clones ++ (before ++ behind)) cut_focus.keeps.fits

  cut_has : HasPiece z.row.part_length n k
  cut_has = subst (λ m. HasPiece m n k) cut_total cuts.has

  cut_clone : IsCloneOf z.row (k * n) (cut_length z.row.part_length n k) cut_row
  cut_clone =
      record { addrs = cut_clones.addrs; each = (is_cloned cut_clones (to_clone cut_focus.keeps cut_focus.counts)).each; is = refl }

  -- it has as many bytes as its number says, and fits the object's bytes
  pub cut_long : cut_row.part_length ≡ cut_length z.row.part_length n k
  cut_long =
      let b = piece_begins z.row.part_length n k cut_has in
      clone_length (λ source place. 0) z.row cut_row (k * n) (cut_length z.row.part_length n k) cut_kept (omega (arith, b)) cut_clone

  pub cut_text : (held : ℕ → ℕ → ℕ) → FitsText held (part_bytes held z.row) piece cut_row
  cut_text held = cut_fits held z.row cut_row n k piece cut_kept cut_has cut_clone cuts.offset cut_total

  -- and it stands beside the text
  pub rebuilt_cut : HoldsRebuilt new total added r (record { addr = piece.object; row = cut_row } ∷ (z ∷ (before ++ behind))) most room
  rebuilt_cut =
      let x = h.beside in
      let f = cut_focus in
      let os = before ++ behind in
      let made : Standing = record { addr = piece.object; row = cut_row } in
      let told =
      told_both (x.clones ++ (made ∷ (z ∷ os))) z.row.account (tickets_then cut_clones (to_clone f.keeps f.counts)) (x.tickets (other z.row.account))
      (all_counted z.row.account (asked (k * n) (cut_length z.row.part_length n k) z.row) x.sources) x.rest
      (holds_moved (made ∷ (z ∷ [])) x.clones os (holds_clone f cut_clones)) in
      record {
        beside = record {
          clones = x.clones;
          others = made ∷ (z ∷ os);
          tickets = told.0;
          sources = all_counted z.row.account (asked (k * n) (cut_length z.row.part_length n k) z.row) x.sources;
          rest = x.rest;
        };
        holds = told.1;
        clones = h.clones;
        stand = refl;
        rebuilt = h.rebuilt;
      }
