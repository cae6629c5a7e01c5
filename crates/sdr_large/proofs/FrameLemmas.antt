-- The four words of a block's frame, as they are written.
use Rattle.std.proofs.Common.{◌≡◌, ◌≤◌, ◌<◌, ◌⊎◌, inl, inr, ℕ, ◌+◌, ◌-◌, ◌*◌, ◌^◌, Bool, true, false}
use Rattle.std.proofs.Common.{List, length, get_or, ap, ◌∙◌, arith}
use Rattle.sdr_base.specs.KeptPools.{IsOutside}
use Rattle.sdr_base.specs.KeptLarge.{last_word}
use Rattle.sdr_base.specs.Stored.{number_at, with_number, leader_kind, leader_words, leader_length, with_bare_leader}
use Rattle.sdr_base.proofs.StoredLemmas.{number_at-with_number, get_or-with_number, length-with_number, number_at-same}
use Rattle.sdr_base.proofs.StoredLemmas.{leader_words-same, leader_kind-same, leader_length-same}
use Rattle.sdr_base.proofs.StoredLemmas.{leader_words-with_bare_leader, leader_kind-with_bare_leader}
use Rattle.sdr_base.proofs.StoredLemmas.{leader_length-with_bare_leader, get_or-with_bare_leader, length-with_bare_leader}
use Rattle.sdr_large.specs.Frame.{HasFrame}

last_small : (used : Bool) (words : ℕ) → words < 2 ^ 24 → last_word used words < 2 ^ 64
last_small true words few = omega (arith, few)
last_small false words few = omega (arith, few)

pub has_frame : (used : Bool) (words addr next : ℕ) (x a b c y : List ℕ) → 16 ≤ addr → words < 2 ^ 24 →
    next < 2 ^ 64 → addr + 8 * words + 16 ≤ length x → a ≡ with_bare_leader (addr - 16) words x →
    b ≡ with_number (addr - 8) next a → c ≡ with_number (addr + 8 * words) 0 b →
    y ≡ with_number (addr + 8 * words + 8) (last_word used words) c → HasFrame used words addr next x y
has_frame used words addr next x a b c y least few fits inside a_is b_is c_is y_is = record {
  size = size_y;
  kind = leader_kind-same (addr - 16) a y (leader_byte) ∙ ap (λ (l : List ℕ). leader_kind (addr - 16) l) a_is
      ∙ leader_kind-with_bare_leader (addr - 16) words x (omega (arith, inside, least));
  named = leader_words-same (addr - 16) a y (leader_byte) ∙ ap (λ (l : List ℕ). leader_words (addr - 16) l) a_is
      ∙ leader_words-with_bare_leader (addr - 16) words x (omega (arith, inside, least)) few;
  bare = leader_length-same (addr - 16) a y (leader_byte) ∙ ap (λ (l : List ℕ). leader_length (addr - 16) l) a_is
      ∙ leader_length-with_bare_leader (addr - 16) words x (omega (arith, inside, least));
  link = number_at-same (addr - 8) b y (λ i ge lt. from_b i (inl (omega (arith, lt, least))))
      ∙ ap (λ (l : List ℕ). number_at (addr - 8) l) b_is
      ∙ number_at-with_number (addr - 8) next a (omega (arith, inside, least, size_a)) fits;
  before = number_at-same (addr + 8 * words) c y (λ i ge lt. from_c i (inl lt))
      ∙ ap (λ (l : List ℕ). number_at (addr + 8 * words) l) c_is
      ∙ number_at-with_number (addr + 8 * words) 0 b (omega (arith, inside, size_b)) (omega arith);
  last = ap (λ (l : List ℕ). number_at (addr + 8 * words + 8) l) y_is
      ∙ number_at-with_number (addr + 8 * words + 8) (last_word used words) c (omega (arith, inside, size_c))
      (last_small used words few);
  others = λ i front back.
      from_b i (behind i back)
      ∙ ap (λ (l : List ℕ). get_or l i 0) b_is
      ∙ get_or-with_number (addr - 8) next a i (omega (arith, inside, least, size_a)) (second i front)
      ∙ ap (λ (l : List ℕ). get_or l i 0) a_is
      ∙ get_or-with_bare_leader (addr - 16) words x i (omega (arith, inside, least)) (first i front);
}
  where
    size_a : length a ≡ length x
    size_a = ap length a_is ∙ length-with_bare_leader (addr - 16) words x (omega (arith, inside, least))

    size_b : length b ≡ length x
    size_b = ap length b_is ∙ length-with_number (addr - 8) next a (omega (arith, inside, least, size_a)) ∙ size_a

    size_c : length c ≡ length x
    size_c = ap length c_is ∙ length-with_number (addr + 8 * words) 0 b (omega (arith, inside, size_b)) ∙ size_b

    size_y : length y ≡ length x
    size_y = ap length y_is
        ∙ length-with_number (addr + 8 * words + 8) (last_word used words) c (omega (arith, inside, size_c)) ∙ size_c

    from_c : (i : ℕ) → (i < addr + 8 * words + 8) ⊎ (addr + 8 * words + 8 + 8 ≤ i) → get_or y i 0 ≡ get_or c i 0
    from_c i out = ap (λ (l : List ℕ). get_or l i 0) y_is
        ∙ get_or-with_number (addr + 8 * words + 8) (last_word used words) c i (omega (arith, inside, size_c)) out

    from_b : (i : ℕ) → (i < addr + 8 * words) ⊎ (addr + 8 * words + 16 ≤ i) → get_or y i 0 ≡ get_or b i 0
    from_b i (inl lt) = from_c i (inl (omega (arith, lt))) ∙ ap (λ (l : List ℕ). get_or l i 0) c_is
        ∙ get_or-with_number (addr + 8 * words) 0 b i (omega (arith, inside, size_b)) (inl lt)
    from_b i (inr ge) = from_c i (inr (omega (arith, ge))) ∙ ap (λ (l : List ℕ). get_or l i 0) c_is
        ∙ get_or-with_number (addr + 8 * words) 0 b i (omega (arith, inside, size_b)) (inr (omega (arith, ge)))

    leader_byte : (i : ℕ) → addr - 16 ≤ i → i < addr - 16 + 8 → get_or y i 0 ≡ get_or a i 0
    leader_byte i ge lt = from_b i (inl (omega (arith, lt, least))) ∙ ap (λ (l : List ℕ). get_or l i 0) b_is
        ∙ get_or-with_number (addr - 8) next a i (omega (arith, inside, least, size_a)) (inl (omega (arith, lt, least)))

    behind : (i : ℕ) → IsOutside (addr + 8 * words) (addr + 8 * words + 16) i →
        (i < addr + 8 * words) ⊎ (addr + 8 * words + 16 ≤ i)
    behind i out = out

    second : (i : ℕ) → IsOutside (addr - 16) addr i → (i < addr - 8) ⊎ (addr - 8 + 8 ≤ i)
    second i (inl lt) = inl (omega (arith, lt))
    second i (inr ge) = inr (omega (arith, ge, least))

    first : (i : ℕ) → IsOutside (addr - 16) addr i → (i < addr - 16) ⊎ (addr - 16 + 8 ≤ i)
    first i (inl lt) = inl lt
    first i (inr ge) = inr (omega (arith, ge, least))
