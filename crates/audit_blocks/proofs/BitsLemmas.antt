-- The bytes of the start bits by what is told of each word.
use Rattle.std.proofs.Common.{◌≡◌, ◌≢◌, ◌≤◌, ◌<◌, ◌+◌, ◌-◌, ◌*◌, ℕ, Bool, List, [], ◌∷◌, Option, None, Some, cond, true, false, length, get_or, take, drop, get_or-take, get_or-drop, arith, ap, ◌∙◌, refl, sym, subst, inl, inr}
use Rattle.std.specs.Option.{option_map_or, option_or}
use Rattle.std.proofs.lemmas.Bool.{cases_lt, eq-eqb, ne_eqb}
use Rattle.std.proofs.lemmas.List.{get_or_past}
use Rattle.sdr_base.specs.Pools.{PoolBlock}
use Rattle.sdr_base.specs.declared.control.TheConstants.{LOW, START}
use Rattle.audit_blocks.proofs.EdgeLemmas.{in_order}
use Rattle.audit_blocks.proofs.FollowLemmas.{large_ends, large_rises, small_ends, small_rises}
use Rattle.audit_blocks.specs.Bits.{BitsBefore, IsWrongBits, begins_with, bits_byte, byte_of_bits, is_bits_byte}
use Rattle.audit_blocks.specs.Control.{ControlIsRight, control_word}
use Rattle.audit_blocks.specs.Spots.{AreSpots, begun_at, is_told_used, is_used_spot, spot_of}
use Rattle.audit_blocks.specs.Walk.{AreBlocks, LargeFollow, SmallFollow}
use Rattle.audit_blocks.specs.Walked.{AllFound}
use Rattle.audit_blocks.specs.declared.spot.Spot.{Spot}
use Rattle.audit_blocks.specs.declared.spot.Spot.TheVariants as spots

-- blocks that follow one another between two places are those
pub small_same : (bytes : List ℕ) (xs ys : List PoolBlock) (from to : ℕ) → SmallFollow bytes from xs to → SmallFollow bytes from ys to → xs ≡ ys
small_same bytes [] [] from to a b = refl
small_same bytes [] (y ∷ ys) from to a (here, is, more) = let later = small_rises bytes ys _ to more in absurd (omega (arith, a, later))
small_same bytes (x ∷ xs) [] from to (here, is, more) b = let later = small_rises bytes xs _ to more in absurd (omega (arith, b, later))
small_same bytes (x ∷ xs) (y ∷ ys) from to (here, is, more) (here', is', more') =
    let same : x ≡ y = is ∙ sym is' in
    (λ i. same i ∷ small_same bytes xs ys (from + 8 * (1 + x.words)) to more
    (subst (λ (b : PoolBlock). SmallFollow bytes (from + 8 * (1 + b.words)) ys to) (sym same) more') i)

pub large_same : (bytes : List ℕ) (xs ys : List PoolBlock) (from to : ℕ) → LargeFollow bytes from xs to → LargeFollow bytes from ys to → xs ≡ ys
large_same bytes [] [] from to a b = refl
large_same bytes [] (y ∷ ys) from to a (here, is, more) = let later = large_rises bytes ys _ to more in absurd (omega (arith, a, later))
large_same bytes (x ∷ xs) [] from to (here, is, more) b = let later = large_rises bytes xs _ to more in absurd (omega (arith, b, later))
large_same bytes (x ∷ xs) (y ∷ ys) from to (here, is, more) (here', is', more') =
    let same : x ≡ y = is ∙ sym is' in
    (λ i. same i ∷ large_same bytes xs ys (from + 8 * (4 + x.words)) to more
    (subst (λ (b : PoolBlock). LargeFollow bytes (from + 8 * (4 + b.words)) ys to) (sym same) more') i)

-- what is told of each word is told of whatever blocks there are
pub spots_of : (bytes : List ℕ) (told : List Spot) → AllFound bytes told → (small large : List PoolBlock) → AreBlocks bytes small large → AreSpots small large told
spots_of bytes told f small large are =
    let s = small_same bytes f.small small _ _ f.blocks.follow.below are.follow.below in
    let l = large_same bytes f.large large _ _ f.blocks.follow.above are.follow.above in
    subst (λ (x : List PoolBlock). AreSpots x large told) s (subst (λ (x : List PoolBlock). AreSpots f.small x told) l f.spots)

told_used : (o : Option PoolBlock) → is_used_spot (spot_of o) ≡ option_map_or (λ (block : PoolBlock). block.used) o false
told_used None = refl
told_used (Some block) = by_use block.used
  where
    by_use : (used : Bool) → is_used_spot (cond used spots.Used spots.Free) ≡ used
    by_use true = refl
    by_use false = refl

module _ (bytes : List ℕ) (told : List Spot) (small large : List PoolBlock) (right : ControlIsRight bytes) (long : length told * 8 ≡ length bytes)
    (are : AreBlocks bytes small large) (spots_are : AreSpots small large told) where
  -- a block in use begins with just the words of which that is told
  pub begins_told : (word : ℕ) → is_told_used told word ≡ begins_with small large word
  begins_told word = elim (cases_lt word (length told)) [
    | inl inside ↦ ap is_used_spot (spots_are word inside) ∙ told_used (begun_at small large (8 * word))
    | inr behind ↦
        let o = in_order bytes right in
        let high = o.high in
        let end = o.end in
        let none_small = small_ends bytes small _ (control_word bytes LOW) (8 * word) are.follow.below (omega (arith, behind, long, high, end)) in
        let none = large_ends bytes large _ (length bytes) (8 * word) are.follow.above (omega (arith, behind, long)) in
        ap is_used_spot (get_or_past told word spots.Nothing behind)
        ∙ sym ((λ i. option_map_or (λ (block : PoolBlock). block.used) (option_or (none_small i) (none i)) false))
  ]

  pub byte_told : (byte : ℕ) → byte_of_bits (is_told_used told) byte ≡ bits_byte small large byte
  byte_told byte = (λ i. byte_of_bits (λ word. begins_told word i) byte)

-- a byte of bits is that of the same eight answers
same_byte : (f g : ℕ → Bool) (a b : ℕ) → ((k : ℕ) → k < 8 → f (8 * a + k) ≡ g (8 * b + k)) → byte_of_bits f a ≡ byte_of_bits g b
same_byte f g a b e =
    (λ i. 0 + cond (e 0 (omega arith) i) 128 0 + cond (e 1 (omega arith) i) 64 0 + cond (e 2 (omega arith) i) 32 0 + cond (e 3 (omega arith) i) 16 0
    + cond (e 4 (omega arith) i) 8 0 + cond (e 5 (omega arith) i) 4 0 + cond (e 6 (omega arith) i) 2 0 + cond (e 7 (omega arith) i) 1 0)

-- the byte of eight words of those that are told of
pub byte_of_part : (told : List Spot) (byte n : ℕ) → n ≡ 8 → byte_of_bits (is_told_used (take n (drop (8 * byte) told))) 0 ≡ byte_of_bits (is_told_used told) byte
byte_of_part told byte n eight =
    same_byte (is_told_used (take n (drop (8 * byte) told))) (is_told_used told) 0 byte
    (λ k less.
    let at : 8 * byte + (8 * 0 + k) ≡ 8 * byte + k = omega arith in
    ap is_used_spot
    (get_or-take n (drop (8 * byte) told) (8 * 0 + k) spots.Nothing (omega (arith, less, eight)) ∙ get_or-drop (8 * byte) told (8 * 0 + k) spots.Nothing
    ∙ ap (λ (n : ℕ). get_or told n spots.Nothing) at))

module _ (bytes : List ℕ) (told : List Spot) (right : ControlIsRight bytes) (long : length told * 8 ≡ length bytes) (found : AllFound bytes told)
    (place : ℕ) (before : BitsBefore bytes place) where
  told_byte : (small large : List PoolBlock) → AreBlocks bytes small large → byte_of_bits (is_told_used told) (place - 1024) ≡ bits_byte small large (place - 1024)
  told_byte small large are = byte_told bytes told small large right long are (spots_of bytes told found small large are) (place - 1024)

  -- a byte that is right is one more
  pub bits_then : get_or bytes place 0 ≡ byte_of_bits (is_told_used told) (place - 1024) → BitsBefore bytes (place + 1)
  bits_then same small large are other at below = elim (cases_lt other place) [
    | inl less ↦ before small large are other at less
    | inr more ↦
        let e : place ≡ other = omega (arith, more, below) in
        subst (λ (n : ℕ). is_bits_byte bytes small large n ≡ true) e (eq-eqb _ _ (same ∙ told_byte small large are))
  ]

  -- one that is wrong is the first
  pub bits_wrong : get_or bytes place 0 ≢ byte_of_bits (is_told_used told) (place - 1024) → 1024 ≤ place → place < control_word bytes START →
      (small large : List PoolBlock) → AreBlocks bytes small large → IsWrongBits bytes small large place
  bits_wrong wrong from to small large are = record {
    inside = record { from = from; to = to };
    before = before small large are;
    wrong = ne_eqb _ _ (λ equal. wrong (equal ∙ sym (told_byte small large are)));
  }
