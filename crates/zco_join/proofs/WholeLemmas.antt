-- Objects of extents alone whose part is their whole.
use Rattle.std.proofs.Common.{◌≡◌, ◌+◌, ◌≤◌, ◌<◌, ◌^◌, ℕ, List, [], ◌∷◌, ◌++◌, length, refl, sym, ap, ◌∙◌, arith, eq-eqb}
use Rattle.std.specs.Prelude.{◌==◌, All, true, false, if◌then◌else◌}
use Rattle.std.proofs.lemmas.List.Elements.{All-nil}
use Rattle.std.proofs.lemmas.List.Sums.{sum_by_push}
use Rattle.sdr_base.specs.ZcoObjects.{ExtentRow}
use Rattle.sdr_base.specs.declared.account.Acct.{Acct}
use Rattle.zco_obj.specs.Extents.{extent_of, grown, with_extent}
use Rattle.zco_obj.specs.Kept.{CapsuleFits, ExtentFits, ObjectFits, extents_length}
use Rattle.zco_obj.specs.declared.extent.ExtentPiece.{ExtentPiece}
use Rattle.zco_part.specs.Pieces.{extents_at, filled, whole_row}

pub filled_most : (p : ExtentPiece) → length (filled p) ≤ 1
filled_most p = elim (p.bytes == 0) as (λ v. length (if v then [] else p ∷ []) ≤ 1) [
  | true ↦ omega arith
  | false ↦ omega arith
]

-- extents of pieces, and one more
pub placed_more : (addrs : List ℕ) (ps : List ExtentPiece) (addr : ℕ) (p : ExtentPiece) → length addrs ≡ length ps →
    extents_at (addrs ++ (addr ∷ [])) (ps ++ (p ∷ [])) ≡ extents_at addrs ps ++ (extent_of addr p ∷ [])
placed_more [] [] addr p e = refl
placed_more [] (q ∷ qs) addr p e = absurd (omega (arith, e))
placed_more (a ∷ as') [] addr p e = absurd (omega (arith, e))
placed_more (a ∷ as') (q ∷ qs) addr p e = ap (λ (l : List ExtentRow). extent_of a q ∷ l) (placed_more as' qs addr p (omega (arith, e)))

pub length-extents_at : (addrs : List ℕ) (ps : List ExtentPiece) → length addrs ≡ length ps → length (extents_at addrs ps) ≡ length ps
length-extents_at [] [] e = refl
length-extents_at [] (q ∷ qs) e = absurd (omega (arith, e))
length-extents_at (a ∷ as') [] e = absurd (omega (arith, e))
length-extents_at (a ∷ as') (q ∷ qs) e = let n = length-extents_at as' qs (omega (arith, e)) in omega (arith, n)

-- a whole object with one extent more is whole
pub whole_longer : (acct : Acct) (es : List ExtentRow) (e : ExtentRow) → with_extent (whole_row acct es) e ≡ whole_row acct (es ++ (e ∷ []))
whole_longer acct es e =
    let L = extents_length es in
    let part : grown (whole_row acct es) e.length ≡ extents_length (es ++ (e ∷ [])) =
    ap (λ v. if v then L + e.length else L) (eq-eqb (0 + L) L (omega arith))
    ∙ sym (sum_by_push (λ (x : ExtentRow). x.length) es e) in
    λ i. record (whole_row acct (es ++ (e ∷ []))) { part_length = part i }

pub whole_fits : (acct : Acct) (es : List ExtentRow) → All ExtentFits es → length es < 2 ^ 22 → ObjectFits (whole_row acct es)
whole_fits acct es fits few = record {
  headers = All-nil CapsuleFits;
  extents = fits;
  trailers = All-nil CapsuleFits;
  few = omega (arith, few);
  part = omega arith;
}
