-- The leader of a block in use that was put.
use Rattle.std.proofs.Common.{◌≡◌, ◌≤◌, ◌<◌, ◌⊎◌, ℕ, suc, ◌+◌, ◌^◌}
use Rattle.std.proofs.Common.{List, [], ◌++◌, length, get_or, refl, sym, ap, ◌∙◌, arith}
use Rattle.std.proofs.lemmas.List.{append-nil}
use Rattle.byteorder.specs.Endian.{big_bytes}
use Rattle.byteorder.specs.Numbers.{big_number-reads_back}
use Rattle.sdr_base.specs.Kinds.{kind_number}
use Rattle.sdr_base.specs.Stored.{leader_kind, leader_words, leader_length, leader_of, with_leader}
use Rattle.sdr_base.specs.declared.kind.Kind.{Kind}
use Rattle.sdr_base.proofs.PartsLemmas.{get_or-overwrite_inside, get_or-overwrite_outside, length-overwrite}
use Rattle.sdr_base.proofs.StoredLemmas.{big_number-same}

module _ (p : ℕ) (kind : Kind) (words count : ℕ) (x : List ℕ) (le : p + 8 ≤ length x) where
  long : length (leader_of kind words count) ≡ 8
  long = refl

  byte : (i : ℕ) → i < 8 → get_or (with_leader p kind words count x) (p + i) 0 ≡ get_or (leader_of kind words count) i 0
  unfolding with_leader
  byte i lt =
      get_or-overwrite_inside p (leader_of kind words count) x (p + i) (omega (arith, long)) (omega arith)
      (omega (arith, lt, long))
      ∙ ap (λ (k : ℕ). get_or (leader_of kind words count) k 0) (omega arith)

  pub leader_kind-with_leader : leader_kind p (with_leader p kind words count x) ≡ kind_number kind
  unfolding leader_kind
  leader_kind-with_leader =
      ap (λ (k : ℕ). get_or (with_leader p kind words count x) k 0) (omega arith) ∙ byte 0 (omega arith)

  pub leader_words-with_leader : words < 2 ^ 24 → leader_words p (with_leader p kind words count x) ≡ words
  unfolding leader_words
  leader_words-with_leader fits =
      sym (big_number-same (p + 1) 3 (with_leader p kind words count x) (big_bytes 3 words ++ big_bytes 4 count)
      (λ i lt.
      sym (ap (λ (k : ℕ). get_or (with_leader p kind words count x) k 0) (omega arith)
      ∙ byte (suc i) (omega (arith, lt)))))
      ∙ big_number-reads_back 3 words (big_bytes 4 count) fits

  pub leader_length-with_leader : count < 2 ^ 32 → leader_length p (with_leader p kind words count x) ≡ count
  unfolding leader_length
  leader_length-with_leader fits =
      sym (big_number-same (p + 4) 4 (with_leader p kind words count x) (big_bytes 4 count ++ []) (λ i lt.
      sym (ap (λ (k : ℕ). get_or (with_leader p kind words count x) k 0) (omega arith)
      ∙ byte (suc (suc (suc (suc i)))) (omega (arith, lt))
      ∙ ap (λ (l : List ℕ). get_or l i 0) (sym (append-nil (big_bytes 4 count))))))
      ∙ big_number-reads_back 4 count [] fits

  -- the bytes outside of it
  pub get_or-with_leader : (i : ℕ) → (i < p) ⊎ (p + 8 ≤ i) →
      get_or (with_leader p kind words count x) i 0 ≡ get_or x i 0
  unfolding with_leader
  get_or-with_leader i out = get_or-overwrite_outside p (leader_of kind words count) x i (omega (arith, long, le)) out

  pub length-with_leader : length (with_leader p kind words count x) ≡ length x
  unfolding with_leader
  length-with_leader = length-overwrite p (leader_of kind words count) x (omega (arith, long, le))
