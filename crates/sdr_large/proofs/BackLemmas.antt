-- The word that links back to a block, written.
use Rattle.std.proofs.Common.{◌≡◌, ◌≢◌, ◌≤◌, ◌<◌, inl, inr, ℕ, ◌+◌, ◌-◌, ◌*◌, ◌^◌, Bool, cond}
use Rattle.std.proofs.Common.{List, length, get_or, ap, ◌∙◌, arith}
use Rattle.std.proofs.lemmas.Bool.{cases_eq, eq-eqb, ne_eqb}
use Rattle.sdr_base.specs.KeptPools.{IsOutside}
use Rattle.sdr_base.specs.KeptLarge.{large_place}
use Rattle.sdr_base.specs.Stored.{number_at, with_number, leader_words}
use Rattle.sdr_base.proofs.StoredLemmas.{number_at-with_number, get_or-with_number, length-with_number}
use Rattle.sdr_large.specs.Steps.{link_place, with_before, ReachesBack}
use Rattle.sdr_large.proofs.PlacesLemmas.{IsApart}

-- the bytes of a word that lies apart from another
pub outside_of : (p q i : ℕ) → IsApart p q → p ≤ i → i < p + 8 → IsOutside q (q + 8) i
outside_of p q i (inl before) ge lt = inl (omega (arith, before, lt))
outside_of p q i (inr behind) ge lt = inr (omega (arith, behind, ge))

-- where the link to the first of a list stands, and to any other
pub link_place-first : (order before : ℕ) → before ≡ 0 → link_place order before ≡ large_place order
link_place-first order before none =
    ap (λ (v : Bool). cond v (large_place order) (before - 8)) (eq-eqb before 0 none)

pub link_place-other : (order before : ℕ) → before ≢ 0 → link_place order before ≡ before - 8
link_place-other order before some =
    ap (λ (v : Bool). cond v (large_place order) (before - 8)) (ne_eqb before 0 some)

module _ (x : List ℕ) (next before : ℕ) (reach : next ≢ 0 → ReachesBack next x) where
  -- the place of the word
  abbrev pub back_place : ℕ
  back_place = next + 8 * leader_words (next - 16) x

  none_written : next ≡ 0 → with_before next before x ≡ x
  none_written none = ap (λ (v : Bool). cond v x (with_number back_place before x)) (eq-eqb next 0 none)

  written : next ≢ 0 → with_before next before x ≡ with_number back_place before x
  written some = ap (λ (v : Bool). cond v x (with_number back_place before x)) (ne_eqb next 0 some)

  pub length-with_before : length (with_before next before x) ≡ length x
  length-with_before = elim (cases_eq next 0) [
    | inl none ↦ ap length (none_written none)
    | inr some ↦ ap length (written some) ∙ length-with_number back_place before x (reach some).inside
  ]

  pub get_or-with_before : (i : ℕ) → (next ≢ 0 → IsOutside back_place (back_place + 8) i) →
      get_or (with_before next before x) i 0 ≡ get_or x i 0
  get_or-with_before i out = elim (cases_eq next 0) [
    | inl none ↦ ap (λ (l : List ℕ). get_or l i 0) (none_written none)
    | inr some ↦ ap (λ (l : List ℕ). get_or l i 0) (written some)
        ∙ get_or-with_number back_place before x i (reach some).inside (out some)
  ]

  pub number_at-with_before : next ≢ 0 → before < 2 ^ 64 → number_at back_place (with_before next before x) ≡ before
  number_at-with_before some fits =
      ap (λ (l : List ℕ). number_at back_place l) (written some)
      ∙ number_at-with_number back_place before x (reach some).inside fits
