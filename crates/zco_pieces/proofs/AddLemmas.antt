-- The parts of a text once a piece was added.
use Rattle.std.proofs.Common.{◌≡◌, ◌≢◌, ◌+◌, ◌-◌, ◌*◌, ◌≤◌, ◌^◌, ℕ, Bool, true, false, cond, List, [], ◌∷◌, ◌++◌, refl, sym, ap, ◌∙◌, subst, arith}
use Rattle.std.specs.Prelude.{◌==◌, All, MatchBool, filter, max, min, nat_lt, not, if◌then◌else◌}
use Rattle.std.proofs.lemmas.Bool.{ne_eqb}
use Rattle.std.proofs.lemmas.List.Elements.{All-append, All-cons, All-head, All-nil, All-tail}
use Rattle.sdr_base.specs.Objects.{Heap}
use Rattle.sdr_base.specs.ZcoObjects.{ObjectRow}
use Rattle.sdr_base.specs.declared.stop.Stop.{Stop}
use Rattle.sdr_model.specs.declared.accounts.Ticket.{Ticket}
use Rattle.zco_obj.specs.Gone.{NamedSource}
use Rattle.zco_pieces.proofs.CutLemmas.{kept_object}
use Rattle.zco_pieces.specs.Adding.{BeginAt, FillsGap, FillsPart, FillsParts, KeepsFilled, KeepsToFill, SomeToAdd, SomeToFill, has_clone, moves_to_fill}
use Rattle.zco_pieces.specs.Cutting.{HasLength}
use Rattle.zco_pieces.specs.Places.{AreInOrder, IsRebuilt, Rebuilt, gap, opened}
use Rattle.zco_join.specs.declared.filled.Filled.{Filled}
use Rattle.zco_pieces.specs.declared.piece.Piece.{Piece}

-- parts that are left out leave the others in order
further : (from to total : ℕ) (parts : List Filled) → from ≤ to → AreInOrder to total parts → AreInOrder from total parts
further from to total [] le order = omega (arith, le, order)
further from to total (p ∷ ps) le order = let a = order.0 in (omega (arith, a, le), order.1, order.2)

pub order_filtered : (from total : ℕ) (parts : List Filled) → AreInOrder from total parts → AreInOrder from total (filter has_clone parts)
order_filtered from total [] order = order
order_filtered from total (p ∷ ps) order =
    by (has_clone p) (order_filtered (p.offset + p.length) total ps order.2)
  where
    by : (b : Bool) → AreInOrder (p.offset + p.length) total (filter has_clone ps) →
        AreInOrder from total (cond b (p ∷ filter has_clone ps) (filter has_clone ps))
    by true rest = (order.0, order.1, rest)
    by false rest = let a = order.0 in further from (p.offset + p.length) total (filter has_clone ps) (omega (arith, a)) rest

-- those that stay have clones
pub clones_filtered : (parts : List Filled) → All (λ p. p.object ≢ 0) (filter has_clone parts)
clones_filtered [] = All-nil (λ (p : Filled). p.object ≢ 0)
clones_filtered (p ∷ ps) = by (p.object == 0) refl (clones_filtered ps)
  where
    by : (b : Bool) → (p.object == 0) ≡ b → All (λ q. q.object ≢ 0) (filter has_clone ps) →
        All (λ q. q.object ≢ 0) (cond (not b) (p ∷ filter has_clone ps) (filter has_clone ps))
    by true e rest = rest
    by false e rest =
        All-cons (λ (q : Filled). q.object ≢ 0) p (filter has_clone ps)
        (λ z. (let n : (p.object == 0) ≡ true = grind (arith, z) in let c : true ≡ false = sym n ∙ e in cc)) rest

-- A part that is filled stays in its place, and has a clone.
module _ (object number offset : ℕ) where
  part_order : (p q : Filled) (old new : Heap) → FillsPart object number offset p q old new → (q.offset ≡ p.offset) × (q.length ≡ p.length)
  part_order p q old new f = by (p.object == 0) f
    where
      by : (b : Bool) → MatchBool b (FillsGap object number offset p q old new) ((q ≡ p) × (new ≡ old)) → (q.offset ≡ p.offset) × (q.length ≡ p.length)
      by true g = (ap (λ (x : Filled). x.offset) g.place, ap (λ (x : Filled). x.length) g.place)
      by false g = (ap (λ (x : Filled). x.offset) g.0, ap (λ (x : Filled). x.length) g.0)

  part_clone : (p q : Filled) (old new : Heap) → FillsPart object number offset p q old new → has_clone q ≡ true
  part_clone p q old new f = by (p.object == 0) refl f
    where
      by : (b : Bool) → (p.object == 0) ≡ b → MatchBool b (FillsGap object number offset p q old new) ((q ≡ p) × (new ≡ old)) → has_clone q ≡ true
      by true e g = ap not (ne_eqb q.object 0 g.clones.new_block.nonzero)
      by false e g = ap (λ (x : Filled). not (x.object == 0)) g.0 ∙ ap not e

  pub fills_order : (ps qs : List Filled) (old new : Heap) (from total : ℕ) → FillsParts object number offset ps qs old new →
      AreInOrder from total ps → AreInOrder from total qs
  fills_order [] [] old new from total f order = order
  fills_order [] (q ∷ qs) old new from total f order = absurd f
  fills_order (p ∷ ps) [] old new from total f order = absurd f
  fills_order (p ∷ ps) (q ∷ qs) old new from total f order =
      let o = part_order p q old f.0 f.1 in
      let a = o.0 in
      let b = o.1 in
      let x = order.0 in
      let y = order.1 in (
        omega (arith, a, x),
        omega (arith, b, y),
        subst (λ n. AreInOrder n total qs) (let e : p.offset + p.length ≡ q.offset + q.length = omega (arith, a, b) in e)
            (fills_order ps qs f.0 new (p.offset + p.length) total f.2 order.2),
      )

  -- so none of them is left out
  pub fills_kept : (ps qs : List Filled) (old new : Heap) → FillsParts object number offset ps qs old new → filter has_clone qs ≡ qs
  fills_kept [] [] old new f = refl
  fills_kept [] (q ∷ qs) old new f = absurd f
  fills_kept (p ∷ ps) [] old new f = absurd f
  fills_kept (p ∷ ps) (q ∷ qs) old new f =
      ap (λ v. cond v (q ∷ filter has_clone qs) (filter has_clone qs)) (part_clone p q old f.0 f.1)
      ∙ ap (λ (xs : List Filled). q ∷ xs) (fills_kept ps qs f.0 new f.2)

  -- where some are filled, all are in order
  pub some_order : (ps qs left : List Filled) (old new : Heap) (from total : ℕ) → FillsParts object number offset ps qs old new →
      AreInOrder from total (ps ++ left) → AreInOrder from total (qs ++ left)
  some_order [] [] left old new from total f order = order
  some_order [] (q ∷ qs) left old new from total f order = absurd f
  some_order (p ∷ ps) [] left old new from total f order = absurd f
  some_order (p ∷ ps) (q ∷ qs) left old new from total f order =
      let o = part_order p q old f.0 f.1 in
      let a = o.0 in
      let b = o.1 in
      let x = order.0 in
      let y = order.1 in (
        omega (arith, a, x),
        omega (arith, b, y),
        subst (λ n. AreInOrder n total (qs ++ left)) (let e : p.offset + p.length ≡ q.offset + q.length = omega (arith, a, b) in e)
            (some_order ps qs left f.0 new (p.offset + p.length) total f.2 order.2),
      )

  -- so the parts are those of a text that is rebuilt, once all gaps are filled
  pub all_rebuilt : (ps qs : List Filled) (old new : Heap) (total : ℕ) → FillsParts object number offset ps qs old new →
      total ≤ 2 ^ 40 → AreInOrder 0 total ps → IsRebuilt (record { total = total; parts = qs })
  all_rebuilt ps qs old new total f long order = record {
    long = long;
    order = fills_order ps qs old new 0 total f order;
    clones = subst (All (λ (p : Filled). p.object ≢ 0)) (fills_kept ps qs old new f) (clones_filtered qs);
  }

  -- and once those are left out that aren't
  pub some_rebuilt : (ps qs : List Filled) (old new : Heap) (total : ℕ) (stop : Stop) → KeepsFilled object number offset ps qs old new stop →
      total ≤ 2 ^ 40 → AreInOrder 0 total ps → IsRebuilt (record { total = total; parts = qs })
  some_rebuilt ps qs old new total stop k long order =
      let s = k.some in
      let o : AreInOrder 0 total k.parts =
      subst (AreInOrder 0 total) (sym s.kept)
      (some_order s.done s.filled s.left old s.mid 0 total s.fills (subst (AreInOrder 0 total) s.whole order)) in
      record {
        long = long;
        order = subst (AreInOrder 0 total) (sym k.kept) (order_filtered 0 total k.parts o);
        clones = subst (All (λ (p : Filled). p.object ≢ 0)) (sym k.kept) (clones_filtered k.parts);
      }

-- the gaps that a piece meets begin where it does or behind that
gap_begins : (from to offset length : ℕ) → BeginAt offset (gap from to offset length)
gap_begins from to offset length = by (nat_lt (max from offset) (min to (offset + length)))
  where
    P : Filled → Type 0
    P p = p.object ≡ 0 → offset ≤ p.offset

    by : (b : Bool) → All P (if b then record { offset = max from offset; length = min to (offset + length) - max from offset; object = 0 } ∷ [] else [])
    by true = All-cons P _ [] (λ e. omega arith) (All-nil P)
    by false = All-nil P

pub opened_begins : (from total : ℕ) (parts : List Filled) (offset length : ℕ) → All (λ p. p.object ≢ 0) parts →
    BeginAt offset (opened from total parts offset length)
opened_begins from total [] offset length clones = gap_begins from total offset length
opened_begins from total (p ∷ ps) offset length clones =
    let P : Filled → Type 0 = λ q. q.object ≡ 0 → offset ≤ q.offset in
    let Q : Filled → Type 0 = λ q. q.object ≢ 0 in
    let rest = opened (p.offset + p.length) total ps offset length in
    All-append P (gap from p.offset offset length) (p ∷ rest) (gap_begins from p.offset offset length)
    (All-cons P p rest (λ e. absurd (All-head Q p ps clones e)) (opened_begins (p.offset + p.length) total ps offset length (All-tail Q p ps clones)))

-- An object's length was told, and the gaps are those that a piece of so many bytes meets.
module _ {old mid : Heap} {object length : ℕ} (same : mid ≡ old) (has : HasLength object length old) (r : Rebuilt) (offset : ℕ) {items : List Filled}
    (all : items ≡ opened 0 r.total r.parts offset length) where
  -- they are those that all of its bytes meet
  pub all_opened : {row : ObjectRow} {tickets : List Ticket} {sources : List NamedSource} →
      KeepsToFill old object offset (opened 0 r.total r.parts offset row.part_length) row tickets sources →
      opened 0 r.total r.parts offset row.part_length ≡ items
  all_opened {row} k = ap (λ n. opened 0 r.total r.parts offset n) (sym (has.told.tells row (kept_object k.keeps))) ∙ sym all

  -- so they may be filled
  pub to_fill : {row : ObjectRow} {tickets : List Ticket} {sources : List NamedSource} →
      KeepsToFill old object offset (opened 0 r.total r.parts offset row.part_length) row tickets sources →
      KeepsToFill mid object offset items row tickets sources
  to_fill {row} {tickets} {sources} k =
      subst (λ (h : Heap). KeepsToFill h object offset items row tickets sources) (sym same)
      (subst (λ (xs : List Filled). KeepsToFill old object offset xs row tickets sources) (all_opened k) k)

  pub fill_lines : {row : ObjectRow} {tickets : List Ticket} {sources : List NamedSource} →
      KeepsToFill old object offset (opened 0 r.total r.parts offset row.part_length) row tickets sources →
      34 * moves_to_fill offset row items ≤ 34 * moves_to_fill offset row (opened 0 r.total r.parts offset row.part_length)
  fill_lines {row} k = let e = ap (moves_to_fill offset row) (all_opened k) in omega (arith, e)

pub some_to_fill : {old mid : Heap} (piece : Piece) {length : ℕ} {r : Rebuilt} {items : List Filled} → mid ≡ old → HasLength piece.object length old →
    items ≡ opened 0 r.total r.parts piece.offset length → SomeToAdd old r piece → SomeToFill mid piece.object piece.offset items
some_to_fill piece {r = r} same has all s = record {
  row = s.row;
  tickets = s.tickets;
  sources = s.sources;
  keeps = to_fill same has r piece.offset all s.keeps;
}
