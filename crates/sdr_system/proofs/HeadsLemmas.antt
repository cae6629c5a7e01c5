-- How the first bytes of a disk are looked at.
use Rattle.std.proofs.Common.{◌≡◌, ◌<◌, ◌≤◌, ◌+◌, ◌-◌, ◌==◌, ◌&&◌, ◌++◌, ℕ, List, Bool, true, false, refl, sym, ◌∙◌, ap, subst, inr, arith, take, drop, length, take-append-drop, Some, None, codes, nat_eq}
use Rattle.std.specs.List.{list_all, starts_with}
use Rattle.std.proofs.lemmas.List.{drop-take, take-take, take_all}
use Rattle.std.proofs.lemmas.List.Folds.{list_all-append}
use Rattle.std.proofs.lemmas.Slice.{overwrites}
use Rattle.sdr_base.specs.Parts.{part}
use Rattle.sdr_disk.proofs.MomentsLemmas.{Reads-refl, Reads-trans}
use Rattle.sdr_log.specs.Frame.{frame_of}
use Rattle.sdr_system.specs.Heads.{Tells, TellsIn}
use Rattle.sdr_system.specs.declared.heads.Head.{Head}
use Rattle.sdr_system.specs.declared.heads.Head.TheVariants as heads

-- whether all bytes are zero
abbrev zeros : List ℕ → Bool
zeros = list_all (λ b. b == 0)

-- the first bytes are some first ones and those behind them
take_plus : (p n : ℕ) (x : List ℕ) → take (p + n) x ≡ take p x ++ part p n x
take_plus p n x =
    sym (take-append-drop p (take (p + n) x))
    ∙ ap (λ (l : List ℕ). l ++ drop p (take (p + n) x)) (grind (arith, take-take))
    ∙ ap (λ (l : List ℕ). take p x ++ l) (drop-take p n x)

-- zeros behind zeros
pub zeros_more : (x : List ℕ) (p n q : ℕ) → q ≡ p + n → list_all (λ b. b == 0) (take p x) ≡ true
    → list_all (λ b. b == 0) (part p n x) ≡ true → list_all (λ b. b == 0) (take q x) ≡ true
zeros_more x p n q is front behind =
    rw (is, take_plus p n x, list_all-append (λ b. b == 0) (take p x) (part p n x), front, behind) refl

-- other bytes among the first
pub zeros_not : (x : List ℕ) (p n q : ℕ) → p + n ≤ q → list_all (λ b. b == 0) (take p x) ≡ true
    → list_all (λ b. b == 0) (part p n x) ≡ false → list_all (λ b. b == 0) (take q x) ≡ false
zeros_not x p n q inside front other =
    let whole : q ≡ p + n + (q - (p + n)) = omega arith in
    rw (
      whole,
      take_plus (p + n) (q - (p + n)) x,
      list_all-append (λ b. b == 0) (take (p + n) x) (part (p + n) (q - (p + n)) x),
      take_plus p n x,
      list_all-append (λ b. b == 0) (take p x) (part p n x),
      front,
      other,
    ) refl

-- what was read of a disk from its begin on, so many bytes, are its first ones
pub first_read : (x read : List ℕ) (n : ℕ) → read ≡ part 0 n x → read ≡ take n x
first_read x read n is = is

-- what was read of a disk that is shorter than 64 bytes, all of it, is what its first 64 bytes are
pub short_line : (x read : List ℕ) → read ≡ part 0 (length read) x → length read ≡ length x → length x ≤ 63 → read ≡ take 64 x
short_line x read is long short =
    first_read x read (length read) is ∙ take_all (length read) x (omega arith) ∙ sym (take_all 64 x (omega arith))

-- what its first line is as a head is what a disk has as its head
pub tells_in : (x line : List ℕ) (head : Head) → line ≡ take 64 x → 64 ≤ length x → TellsIn line head → Tells x head
tells_in x line heads.None is long tells =
    subst (λ (l : List ℕ). starts_with nat_eq l (codes "SDRHEAP1") ≡ false) is tells
tells_in x line heads.Wrong is long tells = (
  subst (λ (l : List ℕ). starts_with nat_eq l (codes "SDRHEAP1") ≡ true) is tells.0,
  inr (subst (λ (l : List ℕ). frame_of l ≡ None) is tells.1),
)
tells_in x line (heads.Whole frame) is long tells = (long, subst (λ (l : List ℕ). frame_of l ≡ Some frame) is tells)

pub ruleset looking = (Reads-refl, Reads-trans, zeros_more, zeros_not, overwrites)
