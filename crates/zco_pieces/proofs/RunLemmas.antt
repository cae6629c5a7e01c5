-- What is filled once pieces of a text were added, and which bytes are there.
use Rattle.std.proofs.Common.{◌≡◌, ◌≢◌, ◌+◌, ◌-◌, ◌≤◌, ◌<◌, ℕ, Bool, true, false, List, [], ◌∷◌, ◌++◌, length, take, drop, max, min, refl, sym, ap, ◌∙◌, subst, arith, drop-drop, take-take}
use Rattle.std.specs.Prelude.{◌==◌, ◌||◌, not, nat_lt, All, MatchBool, count_by, flat_map, map, if◌then◌else◌}
use Rattle.std.specs.List.{range_with_len}
use Rattle.std.proofs.lemmas.Bool.{ne_eqb}
use Rattle.std.proofs.lemmas.List.{drop-take}
use Rattle.std.proofs.lemmas.List.Concat.{flat_map-append}
use Rattle.std.proofs.lemmas.List.Elements.{All-cons, All-head, All-nil, All-tail}
use Rattle.sdr_base.specs.ZcoObjects.{ObjectRow}
use Rattle.zco_obj.specs.Links.{piece_of}
use Rattle.zco_obj.specs.declared.extent.ExtentPiece.{ExtentPiece}
use Rattle.zco_part.specs.Pieces.{asked}
use Rattle.zco_pieces.specs.Bytes.{FitsText, bytes_named}
use Rattle.zco_pieces.specs.Places.{AreInOrder, Rebuilt, gap, is_covered, is_filled, lies_in, missing_of, opened, uncovered}
use Rattle.zco_pieces.specs.Runs.{AddStep, Added, GapFilled, GapsFilled, Rebuilds, clone_bytes, range_of}
use Rattle.zco_join.specs.declared.filled.Filled.{Filled}
use Rattle.zco_pieces.proofs.BytesLemmas.{asked_bytes, pieces_placed}
use Rattle.zco_pieces.proofs.PlaceLemmas.{HasText, count_same, filled_most, opened_fills, opened_order, places_left, text_whole}

-- what holds of some and of others holds of all
all_joined : {X : Type 0} (P : X → Type 0) (xs ys : List X) → All P xs → All P ys → All P (xs ++ ys)
all_joined P [] ys a b = b
all_joined P (x ∷ xs) ys a b = All-cons P x (xs ++ ys) (All-head P x xs a) (all_joined P xs ys (All-tail P x xs a) b)

-- the gaps that a piece meets lie within it
pub record LiesWithin (offset length : ℕ) (p : Filled) : Type 0 where
  pub begins : offset ≤ p.offset
  pub ends : p.offset + p.length ≤ offset + length

gap_within : (P : Filled → Type 0) (from to offset length : ℕ) →
    ((p : Filled) → p.object ≡ 0 → LiesWithin offset length p → P p) → All P (gap from to offset length)
gap_within P from to offset length on = by (nat_lt (max from offset) (min to (offset + length))) refl
  where
    by : (b : Bool) → nat_lt (max from offset) (min to (offset + length)) ≡ b → All P
        (if b then record { offset = max from offset; length = min to (offset + length) - max from offset; object = 0 } ∷ [] else [])
    by false e = All-nil P
    by true e =
        All-cons P (record { offset = max from offset; length = min to (offset + length) - max from offset; object = 0 }) []
        (on _ refl (record { begins = omega arith; ends = grind (arith, e) })) (All-nil P)

-- what holds of the parts and of such gaps holds of all
pub opened_all : (P : Filled → Type 0) (from total : ℕ) (parts : List Filled) (offset length : ℕ) →
    ((p : Filled) → p.object ≡ 0 → LiesWithin offset length p → P p) → All P parts → All P (opened from total parts offset length)
opened_all P from total [] offset length on all = gap_within P from total offset length on
opened_all P from total (p ∷ ps) offset length on all =
    all_joined P (gap from p.offset offset length) (p ∷ opened (p.offset + p.length) total ps offset length)
    (gap_within P from p.offset offset length on)
    (All-cons P p (opened (p.offset + p.length) total ps offset length) (All-head P p ps all)
    (opened_all P (p.offset + p.length) total ps offset length on (All-tail P p ps all)))

module _ (clone_at : ℕ → ObjectRow) (held : ℕ → ℕ → ℕ) where
  abbrev Filling : Added → Filled → Filled → Type 0
  Filling a p q = MatchBool (p.object == 0) (GapFilled clone_at held a p q) (q ≡ p)

  -- a part stays in its place
  same_offset : (a : Added) (p q : Filled) → Filling a p q → q.offset ≡ p.offset
  same_offset a p q f = by (p.object == 0) f
    where
      by : (b : Bool) → MatchBool b (GapFilled clone_at held a p q) (q ≡ p) → q.offset ≡ p.offset
      by true g = ap (λ (x : Filled). x.offset) g.place
      by false g = ap (λ (x : Filled). x.offset) g

  same_length : (a : Added) (p q : Filled) → Filling a p q → q.length ≡ p.length
  same_length a p q f = by (p.object == 0) f
    where
      by : (b : Bool) → MatchBool b (GapFilled clone_at held a p q) (q ≡ p) → q.length ≡ p.length
      by true g = ap (λ (x : Filled). x.length) g.place
      by false g = ap (λ (x : Filled). x.length) g

  -- it has a clone then
  has_clone_then : (a : Added) (p q : Filled) → Filling a p q → q.object ≢ 0
  has_clone_then a p q f = by (p.object == 0) refl f
    where
      by : (b : Bool) → (p.object == 0) ≡ b → MatchBool b (GapFilled clone_at held a p q) (q ≡ p) → q.object ≢ 0
      by true e g = g.some
      by false e g = λ z. (let n : (p.object == 0) ≡ true = grind (arith, z, g) in let c : true ≡ false = sym n ∙ e in cc)

  filled_same : (a : Added) (ps qs : List Filled) → GapsFilled clone_at held a ps qs → (place : ℕ) → is_filled qs place ≡ is_filled ps place
  filled_same a [] [] g place = refl
  filled_same a [] (q ∷ qs) g place = absurd g
  filled_same a (p ∷ ps) [] g place = absurd g
  filled_same a (p ∷ ps) (q ∷ qs) g place =
      let o = same_offset a p q g.0 in
      let l = same_length a p q g.0 in
      ap (λ n. lies_in n q.length place || is_filled qs place) o ∙ ap (λ n. lies_in p.offset n place || is_filled qs place) l
      ∙ ap (λ v. lies_in p.offset p.length place || v) (filled_same a ps qs g.1 place)

  order_same : (a : Added) (from total : ℕ) (ps qs : List Filled) → GapsFilled clone_at held a ps qs → AreInOrder from total ps → AreInOrder from total qs
  order_same a from total [] [] g order = order
  order_same a from total [] (q ∷ qs) g order = absurd g
  order_same a from total (p ∷ ps) [] g order = absurd g
  order_same a from total (p ∷ ps) (q ∷ qs) g order =
      let o = same_offset a p q g.0 in
      let l = same_length a p q g.0 in
      let x = order.0 in
      let y = order.1 in (
        omega (arith, o, x),
        omega (arith, l, y),
        subst (λ n. AreInOrder n total qs) (let e : p.offset + p.length ≡ q.offset + q.length = omega (arith, o, l) in e)
            (order_same a (p.offset + p.length) total ps qs g.1 order.2),
      )

  clones_then : (a : Added) (ps qs : List Filled) → GapsFilled clone_at held a ps qs → All (λ q. q.object ≢ 0) qs
  clones_then a [] [] g = All-nil (λ (q : Filled). q.object ≢ 0)
  clones_then a [] (q ∷ qs) g = absurd g
  clones_then a (p ∷ ps) [] g = absurd g
  clones_then a (p ∷ ps) (q ∷ qs) g =
      All-cons (λ (x : Filled). x.object ≢ 0) q qs (has_clone_then a p q g.0) (clones_then a ps qs g.1)

  -- what is kept of a text that is rebuilt
  record Good (r : Rebuilt) : Type 0 where
    order : AreInOrder 0 r.total r.parts
    clones : All (λ q. q.object ≢ 0) r.parts

  good_then : (r r' : Rebuilt) (a : Added) → Good r → AddStep clone_at held r a r' → Good r'
  good_then r r' a g s = record {
    order =
        subst (λ n. AreInOrder 0 n r'.parts) (sym s.total)
        (order_same a 0 r.total (opened 0 r.total r.parts a.piece.offset a.row.part_length) r'.parts s.filled
        (opened_order 0 r.total r.parts a.piece.offset a.row.part_length g.order));
    clones = clones_then a (opened 0 r.total r.parts a.piece.offset a.row.part_length) r'.parts s.filled;
  }

  -- the places that are filled are those that pieces cover
  fills_then : (r r' : Rebuilt) (a : Added) → Good r → AddStep clone_at held r a r' → (place : ℕ) → place < r.total →
      is_filled r'.parts place ≡ (is_filled r.parts place || lies_in a.piece.offset a.row.part_length place)
  fills_then r r' a g s place below =
      filled_same a (opened 0 r.total r.parts a.piece.offset a.row.part_length) r'.parts s.filled place
      ∙ opened_fills 0 r.total r.parts a.piece.offset a.row.part_length place g.order (omega arith) below

  or_assoc : (x y z : Bool) → ((x || y) || z) ≡ (x || (y || z))
  or_assoc true y z = refl
  or_assoc false y z = refl

  or_none : (x : Bool) → x ≡ (x || false)
  or_none true = refl
  or_none false = refl

  record Run (r : Rebuilt) (as' : List Added) (r' : Rebuilt) : Type 0 where
    good : Good r'
    total : r'.total ≡ r.total
    fills : (place : ℕ) → place < r.total → is_filled r'.parts place ≡ (is_filled r.parts place || is_covered (map range_of as') place)

  run_fills : (as' : List Added) (r r' : Rebuilt) → Good r → Rebuilds clone_at held r as' r' → Run r as' r'
  run_fills [] r r' g e = subst (Run r []) (sym e) (record { good = g; total = refl; fills = λ place below. or_none (is_filled r.parts place) })
  run_fills (a ∷ as') r r' g e =
      let one = e.1 in
      let rest = run_fills as' e.0 r' (good_then r e.0 a g one) e.2 in
      record {
        good = rest.good;
        total = rest.total ∙ one.total;
        fills = λ place below.
            rest.fills place (subst (λ n. place < n) (sym one.total) below)
            ∙ ap (λ v. v || is_covered (map range_of as') place) (fills_then r e.0 a g one place below)
            ∙ or_assoc (is_filled r.parts place) (lies_in a.piece.offset a.row.part_length place) (is_covered (map range_of as') place);
      }

  begun_good : (total : ℕ) → Good (record { total = total; parts = [] })
  begun_good total = record { order = omega arith; clones = All-nil (λ (q : Filled). q.object ≢ 0) }

  -- as many bytes are missing as places that no piece covers
  pub run_missing : (total : ℕ) (as' : List Added) (r : Rebuilt) → Rebuilds clone_at held (record { total = total; parts = [] }) as' r →
      missing_of r ≡ uncovered total (map range_of as')
  run_missing total as' r e =
      let run = run_fills as' (record { total = total; parts = [] }) r (begun_good total) e in
      let left = places_left 0 r.total r.parts run.good.order r.total (omega arith) in
      sym left
      ∙ ap (λ n. count_by (λ place. not (is_filled r.parts place)) (range_with_len 0 n)) run.total
      ∙ count_same (λ place. not (is_filled r.parts place)) (λ place. not (is_covered (map range_of as') place)) 0 total
      (λ place l below. ap not (run.fills place (omega (arith, below))))

  abbrev bytes_at : ℕ → List ℕ
  bytes_at = clone_bytes clone_at held held

  -- Pieces of a text.
  module _ (text : List ℕ) where
    abbrev Has : Filled → Type 0
    Has = HasText bytes_at text

    -- a gap's clone has the text's bytes in its place
    gap_text : (a : Added) → FitsText a.held text a.piece a.row → (p q : Filled) → LiesWithin a.piece.offset a.row.part_length p →
        GapFilled clone_at held a p q → Has q
    gap_text a f p q w g =
        let off = p.offset - a.piece.offset in
        let c = g.clone in
        let b = w.begins in
        let e = w.ends in
        let at : a.piece.offset + off ≡ p.offset = omega (arith, b) in
        let inside : off + p.length ≤ a.row.part_length = omega (arith, b, e) in
        let long : a.row.part_length ≡ off + (a.row.part_length - off) = omega (arith, inside) in
        g.stays
        ∙ ap (λ (row : ObjectRow). bytes_named a.held (map piece_of row.extents)) c.is
        ∙ ap (bytes_named a.held) (pieces_placed c.addrs (asked off p.length a.row) c.each)
        ∙ asked_bytes a.held off p.length a.row inside
        ∙ ap (λ xs. take p.length (drop off xs)) f.bytes
        ∙ ap (λ n. take p.length (drop off (take n (drop a.piece.offset text)))) long
        ∙ ap (take p.length) (drop-take off (a.row.part_length - off) (drop a.piece.offset text))
        ∙ take-take p.length (a.row.part_length - off) (drop off (drop a.piece.offset text)) (omega (arith, inside))
        ∙ ap (take p.length) (drop-drop off a.piece.offset text)
        ∙ ap (λ n. take p.length (drop n text)) at
        ∙ ap (λ n. take p.length (drop n text)) (sym (ap (λ (x : Filled). x.offset) g.place))
        ∙ ap (λ n. take n (drop q.offset text)) (sym (ap (λ (x : Filled). x.length) g.place))

    -- a part is a gap within the piece, or has the text's bytes
    abbrev GapOrText : Added → Filled → Type 0
    GapOrText a p = MatchBool (p.object == 0) (LiesWithin a.piece.offset a.row.part_length p) (Has p)

    texts_then : (a : Added) → FitsText a.held text a.piece a.row → (ps qs : List Filled) → All (GapOrText a) ps → GapsFilled clone_at held a ps qs → All Has qs
    texts_then a f [] [] all g = All-nil Has
    texts_then a f [] (q ∷ qs) all g = absurd g
    texts_then a f (p ∷ ps) [] all g = absurd g
    texts_then a f (p ∷ ps) (q ∷ qs) all g =
        All-cons Has q qs (by (p.object == 0) (All-head (GapOrText a) p ps all) g.0) (texts_then a f ps qs (All-tail (GapOrText a) p ps all) g.1)
      where
        by : (b : Bool) → MatchBool b (LiesWithin a.piece.offset a.row.part_length p) (Has p) →
            MatchBool b (GapFilled clone_at held a p q) (q ≡ p) → Has q
        by true w h = gap_text a f p q w h
        by false w h = subst Has (sym h) w

    gap_or_text : (a : Added) (p : Filled) → p.object ≢ 0 → Has p → GapOrText a p
    gap_or_text a p nz h = subst (λ b. MatchBool b (LiesWithin a.piece.offset a.row.part_length p) (Has p)) (sym (ne_eqb p.object 0 nz)) h

    gap_is : (a : Added) (p : Filled) → p.object ≡ 0 → LiesWithin a.piece.offset a.row.part_length p → GapOrText a p
    gap_is a p z w = subst (λ b. MatchBool b (LiesWithin a.piece.offset a.row.part_length p) (Has p)) (sym (let e : (p.object == 0) ≡ true = grind (arith, z) in e)) w

    both : (a : Added) (ps : List Filled) → All (λ q. q.object ≢ 0) ps → All Has ps → All (GapOrText a) ps
    both a [] n h = All-nil (GapOrText a)
    both a (p ∷ ps) n h =
        All-cons (GapOrText a) p ps (gap_or_text a p (All-head (λ (q : Filled). q.object ≢ 0) p ps n) (All-head Has p ps h))
        (both a ps (All-tail (λ (q : Filled). q.object ≢ 0) p ps n) (All-tail Has p ps h))

    run_texts : (as' : List Added) (r r' : Rebuilt) → Good r → All Has r.parts → All (λ a. FitsText a.held text a.piece a.row) as' →
        Rebuilds clone_at held r as' r' → All Has r'.parts
    run_texts [] r r' g h fit e = subst (λ (x : Rebuilt). All Has x.parts) (sym e) h
    run_texts (a ∷ as') r r' g h fit e =
        let F : Added → Type 0 = λ x. FitsText x.held text x.piece x.row in
        let all = opened_all (GapOrText a) 0 r.total r.parts a.piece.offset a.row.part_length (gap_is a) (both a r.parts g.clones h) in
        run_texts as' e.0 r' (good_then r e.0 a g e.1)
        (texts_then a (All-head F a as' fit) (opened 0 r.total r.parts a.piece.offset a.row.part_length) e.0.parts all e.1.filled)
        (All-tail F a as' fit) e.2

    joined : (parts : List Filled) → bytes_named held (flat_map (λ p. map piece_of (clone_at p.object).extents) parts) ≡ flat_map (λ p. bytes_at p.object) parts
    joined [] = refl
    joined (p ∷ ps) =
        flat_map-append (λ (x : ExtentPiece). map (held x.of) (range_with_len x.offset x.bytes)) (map piece_of (clone_at p.object).extents)
        (flat_map (λ (q : Filled). map piece_of (clone_at q.object).extents) ps)
        ∙ ap (λ xs. bytes_at p.object ++ xs) (joined ps)

    -- where none is missing, what the clones name in order is the text
    pub run_text : (as' : List Added) (r : Rebuilt) → All (λ a. FitsText a.held text a.piece a.row) as' →
        Rebuilds clone_at held (record { total = length text; parts = [] }) as' r → missing_of r ≡ 0 →
        bytes_named held (flat_map (λ p. map piece_of (clone_at p.object).extents) r.parts) ≡ text
    run_text as' r fit e none =
        let run = run_fills as' (record { total = length text; parts = [] }) r (begun_good (length text)) e in
        let all = run_texts as' (record { total = length text; parts = [] }) r (begun_good (length text)) (All-nil Has) fit e in
        let t = run.total in
        let m = filled_most 0 r.total r.parts run.good.order in
        joined r.parts
        ∙ text_whole bytes_at text 0 r.parts (subst (λ n. AreInOrder 0 n r.parts) t run.good.order) (omega (arith, none, t, m)) all
