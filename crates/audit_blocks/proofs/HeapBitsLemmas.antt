-- The start bits of a heap that bytes keep are right.
use Rattle.std.proofs.Common.{◌≡◌, ◌≤◌, ◌<◌, ◌+◌, ◌-◌, ◌*◌, ◌/◌, ◌%◌, ◌^◌, ℕ, Bool, List, Option, cond, true, false, length, get_or, arith, ap, ◌∙◌, refl, sym, inl, inr}
use Rattle.std.specs.Int.{bit_at}
use Rattle.std.specs.List.{All}
use Rattle.std.specs.Option.{option_map_or, option_or}
use Rattle.std.proofs.lemmas.Bool.{cases_lt, eq-eqb}
use Rattle.std.proofs.lemmas.List.{get_or_past}
use Rattle.std.proofs.lemmas.List.Elements.{All-get_or}
use Rattle.sdr_base.specs.KeptHeap.{KeepsHeap}
use Rattle.sdr_base.specs.Pools.{PoolBlock, Pools}
use Rattle.sdr_base.specs.Stored.{start_bit}
use Rattle.sdr_base.specs.declared.control.TheConstants.{HIGH, LOW, START}
use Rattle.audit_blocks.proofs.BegunLemmas.{spaced_large, spaced_small}
use Rattle.audit_blocks.proofs.FollowLemmas.{large_begins, small_ends}
use Rattle.audit_blocks.proofs.HeapLemmas.{blocks_are}
use Rattle.audit_blocks.proofs.SoundLemmas.{bit_of_byte, spaced_counts}
use Rattle.audit_blocks.proofs.WalkLemmas.{option_or-none}
use Rattle.audit_blocks.specs.Bits.{BitsAreRight, begins_with, bits_byte, byte_of_bits}
use Rattle.audit_blocks.specs.Control.{ControlIsRight, control_word}
use Rattle.audit_blocks.specs.Spots.{begun_in}

-- bytes with the same bits are the same
bits_same : (x y : ℕ) → x < 256 → y < 256 → ((k : ℕ) → k < 8 → bit_at x (7 - k) ≡ bit_at y (7 - k)) → x ≡ y
bits_same x y small small' same =
    let a = same 0 (omega arith) in
    let b = same 1 (omega arith) in
    let c = same 2 (omega arith) in
    let d = same 3 (omega arith) in
    let e = same 4 (omega arith) in
    let f = same 5 (omega arith) in
    let g = same 6 (omega arith) in
    let h = same 7 (omega arith) in
    omega (arith, a, b, c, d, e, f, g, h, small, small')

most : (t : Bool) (n : ℕ) → cond t n 0 ≤ n
most true n = omega arith
most false n = omega arith

byte_few : (begins : ℕ → Bool) (byte : ℕ) → byte_of_bits begins byte < 256
byte_few begins byte =
    let a = most (begins (8 * byte + 0)) 128 in
    let b = most (begins (8 * byte + 1)) 64 in
    let c = most (begins (8 * byte + 2)) 32 in
    let d = most (begins (8 * byte + 3)) 16 in
    let e = most (begins (8 * byte + 4)) 8 in
    let f = most (begins (8 * byte + 5)) 4 in
    let g = most (begins (8 * byte + 6)) 2 in
    let h = most (begins (8 * byte + 7)) 1 in
    omega (arith, a, b, c, d, e, f, g, h)

module _ (bytes : List ℕ) (P : Pools) (keeps : KeepsHeap bytes P) (right : ControlIsRight bytes) where
  begins : ℕ → Bool
  begins word = begins_with P.small P.large word

  -- a start bit tells whether a block in use begins with its word
  bit_is : (word : ℕ) → word < 8 * (P.start - 1024) → start_bit word bytes ≡ cond (begins_with P.small P.large word) 1 0
  bit_is word less = elim (cases_lt (8 * word) P.high) [
    | inl below ↦
        keeps.small.bits word less below
        ∙ spaced_counts 8 (8 * word) (8 * word + 8) (λ (block : PoolBlock). block.used) refl P.small (control_word bytes START) (control_word bytes LOW)
        (spaced_small bytes P.small P.large right (blocks_are bytes P keeps))
        ∙ sym (ap (λ (o : Option PoolBlock). cond {A = ℕ} (option_map_or (λ (block : PoolBlock). block.used) o false) 1 0)
        (ap (option_or (begun_in 8 P.small (8 * word)))
        (large_begins bytes P.large (control_word bytes HIGH) (length bytes) (8 * word) (blocks_are bytes P keeps).follow.above (high below))
        ∙ option_or-none (begun_in 8 P.small (8 * word))))
    | inr above ↦
        keeps.large.holds.bits word less (low above)
        ∙ spaced_counts 16 (8 * word) (8 * word + 16) (λ (block : PoolBlock). block.used) refl P.large (control_word bytes HIGH) (length bytes)
        (spaced_large bytes P.small P.large right (blocks_are bytes P keeps))
        ∙ sym (ap (λ (o : Option PoolBlock). cond {A = ℕ} (option_map_or (λ (block : PoolBlock). block.used) (option_or o (begun_in 16 P.large (8 * word))) false) 1 0)
        (small_ends bytes P.small (control_word bytes START) (control_word bytes LOW) (8 * word) (blocks_are bytes P keeps).follow.below (at_low above)))
  ]
    where
      high : 8 * word < P.high → 8 * word < control_word bytes HIGH
      high below = let e = keeps.small.high in omega (arith, e, below)

      low : P.high ≤ 8 * word → P.low ≤ 8 * word
      low above = let order = keeps.small.tiles.bounds.order in omega (arith, order, above)

      at_low : P.high ≤ 8 * word → control_word bytes LOW ≤ 8 * word
      at_low above = let e = keeps.small.low in let l = low above in omega (arith, e, l)

  pub bits_right : All (λ byte. byte < 2 ^ 8) bytes → BitsAreRight bytes P.small P.large
  unfolding start_bit
  bits_right are place inside =
      eq-eqb (get_or bytes place 0) (bits_byte P.small P.large (place - 1024))
      (bits_same (get_or bytes place 0) (bits_byte P.small P.large (place - 1024)) byte (byte_few (begins_with P.small P.large) (place - 1024)) each)
    where
      from : 1024 ≤ place
      from = inside.from

      to : place < P.start
      to = let t = inside.to in let e = keeps.small.start in omega (arith, t, e)

      byte : get_or bytes place 0 < 256
      byte = elim (cases_lt place (length bytes)) [
        | inl within ↦ All-get_or (λ byte. byte < 2 ^ 8) bytes place 0 within are
        | inr past ↦ let e = get_or_past bytes place 0 past in omega (arith, e)
      ]

      each : (k : ℕ) → k < 8 → bit_at (get_or bytes place 0) (7 - k) ≡ bit_at (bits_byte P.small P.large (place - 1024)) (7 - k)
      each k less =
          let word : ℕ = 8 * (place - 1024) + k in
          let quotient : (8 * (place - 1024) + k) / 8 ≡ place - 1024 = omega (arith, less) in
          let rest : (8 * (place - 1024) + k) % 8 ≡ k = omega (arith, less) in
          let at : 1024 + (8 * (place - 1024) + k) / 8 ≡ place = omega (arith, quotient, from) in
          sym (λ i. bit_at (get_or bytes (at i) 0) (7 - rest i))
          ∙ bit_is (8 * (place - 1024) + k) (omega (arith, to, from, less))
          ∙ sym (bit_of_byte (begins_with P.small P.large) (8 * (place - 1024) + k))
          ∙ (λ i. bit_at (byte_of_bits (begins_with P.small P.large) (quotient i)) (7 - rest i))
