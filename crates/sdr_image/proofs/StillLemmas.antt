-- Writes to a heap region in which nothing is changed.
use Rattle.std.proofs.Common.{◌≡◌, ◌<◌, ℕ, ◌+◌, ◌-◌, ◌/◌, ◌==◌, Bool, false, cond, not, List, [], ◌∷◌, length, Ok, Err, refl, ap, sym, subst, ◌∙◌, arith}
use Rattle.std.specs.Prelude.{filter}
use Rattle.std.proofs.lemmas.Bool.Decides.{nat_tests}
use Rattle.std.proofs.lemmas.List.FromFn.{length-range_with_len}
use Rattle.std.proofs.lemmas.List.Sorted.{IsPermutation-refl}
use Rattle.sdr_base.specs.Cells.{TouchesLines, is_among, lines_of, with_lines}
use Rattle.sdr_base.specs.declared.refusal.Refusal.TheVariants.{LogFull}
use Rattle.sdr_base.specs.declared.stop.Stop.TheVariants.{Refused}
use Rattle.sdr_image.specs.Still.{untouched}

-- a condition that doesn't hold
otherwise : (b : Bool) (xs ys : List ℕ) → b ≡ false → cond b xs ys ≡ ys
otherwise b xs ys is = ap (λ (v : Bool). cond v xs ys) is

-- how many lines hold a byte of some from a place on
pub length-lines_covered : (place count : ℕ) → 0 < count → length (lines_of place count) ≡ (place + count - 1) / 64 + 1 - place / 64
unfolding lines_of
length-lines_covered place count some =
    let n = (place + count - 1) / 64 + 1 - place / 64 in
    ap (λ (l : List ℕ). length l) (otherwise (count == 0) [] _ (grind (arith, nat_tests))) ∙ length-range_with_len (place / 64) n

-- no line is among none, so all are new
all_new : (own : List ℕ) → with_lines [] own ≡ own
unfolding with_lines
all_new own = kept own
  where
    kept : (lines : List ℕ) → filter (λ line. not (is_among [] line)) lines ≡ lines
    kept [] = refl
    kept (line ∷ lines) = ap (λ (rest : List ℕ). line ∷ rest) (kept lines)

-- a write of no bytes touches none
none_touched : (place : ℕ) → TouchesLines {T = Unit {0}} (lines_of place 0) untouched untouched (Ok tt)
unfolding with_lines lines_of
none_touched place = record {
  room = refl;
  touched = IsPermutation-refl [];
  fits = omega arith;
  same = tt;
  some = tt;
  full = tt;
}

pub touches_none : (place count : ℕ) → count ≡ 0 → TouchesLines {T = Unit {0}} (lines_of place count) untouched untouched (Ok tt)
touches_none place count is =
    subst (λ (n : ℕ). TouchesLines {T = Unit {0}} (lines_of place n) untouched untouched (Ok tt)) (sym is) (none_touched place)

-- a write of a byte or more has no room
pub is_refused : (place count lines : ℕ) → 0 < count → lines ≡ length (lines_of place count)
    → TouchesLines {T = Unit {0}} (lines_of place count) untouched untouched (Err (Refused (LogFull lines 0)))
is_refused place count lines some is =
    let all = ap (λ (l : List ℕ). length l) (all_new (lines_of place count)) in
    record {
      room = refl;
      touched = tt;
      fits = tt;
      same = refl;
      some = record { kept = omega arith; few = omega arith };
      full = record {
        numbers = ap (λ (n : ℕ). LogFull n 0) (is ∙ sym all);
        over = omega (arith, some, all, length-lines_covered place count some);
      };
    }
