-- A chain of extents is walked, cut to a part of its bytes.
use Rattle.std.proofs.Common.{◌≡◌, ◌≢◌, ◌+◌, ◌-◌, ◌≤◌, ◌<◌, ◌^◌, ℕ, List, [], ◌∷◌, ◌++◌, length, true, false, refl, sym, ap, ◌∙◌, arith, append_assoc, append-nil, length-append}
use Rattle.std.specs.Prelude.{◌==◌, if◌then◌else◌}
use Rattle.sdr_base.specs.Linked.{first_of}
use Rattle.sdr_base.specs.ZcoObjects.{ExtentRow, extent_addr}
use Rattle.zco_obj.specs.declared.extent.ExtentPiece.{ExtentPiece}
use Rattle.zco_obj.proofs.WalkLemmas.{HasFirst, has_first}
use Rattle.zco_obj.specs.Links.{piece_of}
use Rattle.zco_part.specs.Pieces.{cut, filled, pieces}
use Rattle.zco_part.specs.Walking.{Walked}
use Rattle.zco_part.specs.declared.span.Span.{Span}

-- a piece is one at most
pub filled_most : (p : ExtentPiece) → length (filled p) ≤ 1
filled_most p =
    elim (p.bytes == 0) as (λ v. length (if v then [] else p ∷ []) ≤ 1) [
      | true ↦ omega arith
      | false ↦ omega arith
    ]

abbrev pub walk_begun : (span : Span) (xs : List ExtentRow) (first : ℕ) → first ≡ first_of extent_addr 0 xs → Walked span xs first 0 span
walk_begun span xs first e = record {
  passed = [];
  left = xs;
  done = [];
  whole = refl;
  counted = refl;
  at_cursor = e;
  parts = refl;
  few = omega arith;
}

module _ {span now : Span} {xs : List ExtentRow} {cursor i : ℕ} (w : Walked span xs cursor i now) where
  pub walk_first : cursor ≢ 0 → HasFirst w.left
  walk_first nz = has_first extent_addr w.left (λ z. nz (w.at_cursor ∙ z))

  module _ (h : HasFirst w.left) where
    abbrev pub here : ExtentPiece
    here = cut now.from now.to (piece_of h.one)

    pub walk_whole : xs ≡ w.passed ++ (h.one ∷ h.behind)
    walk_whole = w.whole ∙ ap (λ (l : List ExtentRow). w.passed ++ l) h.is

    pub walk_at : cursor ≡ h.one.addr
    walk_at = w.at_cursor ∙ ap (first_of extent_addr 0) h.is

    pub walk_parts : pieces span.from span.to xs
        ≡ (w.done ++ filled here) ++ pieces (now.from - h.one.length) (now.to - h.one.length) h.behind
    walk_parts =
        w.parts ∙ ap (λ (l : List ExtentRow). w.done ++ pieces now.from now.to l) h.is
        ∙ sym (append_assoc w.done (filled here) (pieces (now.from - h.one.length) (now.to - h.one.length) h.behind))

    abbrev pub walk_on : (next : ℕ) (after : Span) → next ≡ first_of extent_addr 0 h.behind → after.from ≡ now.from - h.one.length →
        after.to ≡ now.to - h.one.length → Walked span xs next (i + 1) after
    walk_on next after e from to = record {
      passed = w.passed ++ (h.one ∷ []);
      left = h.behind;
      done = w.done ++ filled here;
      whole = walk_whole ∙ sym (append_assoc w.passed (h.one ∷ []) h.behind);
      counted = let l = length-append w.passed (h.one ∷ []) in let k = w.counted in omega (arith, l, k);
      at_cursor = e;
      parts =
          walk_parts ∙ ap (λ n. (w.done ++ filled here) ++ pieces n (now.to - h.one.length) h.behind) (sym from)
          ∙ ap (λ n. (w.done ++ filled here) ++ pieces after.from n h.behind) (sym to);
      few =
          let l = length-append w.done (filled here) in let m = filled_most here in let k = w.few in omega (arith, l, m, k);
    }

    pub walk_below : i < length xs
    walk_below =
        let l = length-append w.passed (h.one ∷ h.behind) in
        let e = ap (length {A = ExtentRow}) walk_whole in
        let k = w.counted in omega (arith, l, e, k)

    -- so many pieces are there with it at least
    pub walk_count : length w.done + length (filled here) ≤ length (pieces span.from span.to xs)
    walk_count =
        let e = ap (length {A = ExtentPiece}) walk_parts in
        let l = length-append w.done (filled here) in
        let m = length-append (w.done ++ filled here) (pieces (now.from - h.one.length) (now.to - h.one.length) h.behind) in
        omega (arith, e, l, m)

  -- where none is left all are done
  pub walk_over : w.left ≡ [] → pieces span.from span.to xs ≡ w.done
  walk_over none = w.parts ∙ ap (λ (l : List ExtentRow). w.done ++ pieces now.from now.to l) none ∙ append-nil w.done

  -- none is left where so many were passed
  pub walk_many : i ≡ 4194304 → length xs < 2 ^ 22 → w.left ≡ []
  walk_many all few =
      let l = length-append w.passed w.left in let e = ap (length {A = ExtentRow}) w.whole in let k = w.counted in
      absurd (omega (arith, l, e, k, few, all))

  -- so many pieces are done at most
  pub done_most : length w.done ≤ length (pieces span.from span.to xs)
  done_most =
      let e = ap (length {A = ExtentPiece}) w.parts in
      let l = length-append w.done (pieces now.from now.to w.left) in omega (arith, e, l)

  pub passed_most : i ≤ length xs
  passed_most =
      let e = ap (length {A = ExtentRow}) w.whole in let l = length-append w.passed w.left in let k = w.counted in
      omega (arith, e, l, k)
