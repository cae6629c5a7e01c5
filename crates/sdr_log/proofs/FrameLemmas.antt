-- What a head tells.
use Rattle.std.proofs.Common.{◌≡◌, ◌<◌, length, ℕ, Bool, true, false, cond, ◌&&◌, List, ap, ◌∙◌, subst}
use Rattle.std.proofs.Common.{refl, arith, Some, None}
use Rattle.std.specs.Prelude.{bytes_eq}
use Rattle.std.proofs.lemmas.Slice.Eq.{bytes_eq-Decides}
use Rattle.std.proofs.lemmas.Bool.Decides.{nat_tests}
use Rattle.sdr_log.specs.Frame.{IsInLimits, is_in_limits, frame_in, four, head_of, frame_of}
use Rattle.sdr_log.specs.declared.frame.Frame.{Frame}

-- the test is true of lengths within the limits
pub is_in_limits_true : (f : Frame) → IsInLimits f → is_in_limits f ≡ true
is_in_limits_true f w = grind (arith, nat_tests, w.least_log, w.most_log, w.least_heap, w.most_heap)

-- and of no others
is_in_limits_tells : (f : Frame) → is_in_limits f ≡ true → IsInLimits f
is_in_limits_tells f is = record {
  least_log = grind (arith, nat_tests, is);
  most_log = grind (arith, nat_tests, is);
  least_heap = grind (arith, nat_tests, is);
  most_heap = grind (arith, nat_tests, is);
}

pub is_in_limits_false : (f : Frame) → (IsInLimits f → ⊥) → is_in_limits f ≡ false
is_in_limits_false f out = refuted (is_in_limits f) (λ is. out (is_in_limits_tells f is))
  where
    refuted : (b : Bool) → (b ≡ true → ⊥) → b ≡ false
    refuted true never = absurd (never refl)
    refuted false never = refl

-- a head within the limits
pub frame_of_head : (head : List ℕ) → IsInLimits (frame_in head) → bytes_eq (head_of (frame_in head)) head ≡ true →
    frame_of head ≡ Some (frame_in head)
unfolding frame_of
frame_of_head head w same = rw (is_in_limits_true (frame_in head) w, same) refl

-- lengths out of the limits
pub frame_of_out : (head : List ℕ) → (IsInLimits (frame_in head) → ⊥) → frame_of head ≡ None
unfolding frame_of
frame_of_out head out = rw (is_in_limits_false (frame_in head) out) refl

-- other bytes than those of a head
pub frame_of_other : (head : List ℕ) → IsInLimits (frame_in head) → bytes_eq
    (head_of (frame_in head)) head ≡ false → frame_of head ≡ None
unfolding frame_of
frame_of_other head w other = rw (is_in_limits_true (frame_in head) w, other) refl

pub ruleset heads = (frame_of_head, frame_of_out, frame_of_other)

-- a head tells of lengths within the limits alone
pub IsInLimits-frame_of : (head : List ℕ) (f : Frame) → frame_of head ≡ Some f → IsInLimits f
unfolding frame_of
IsInLimits-frame_of head f is =
    let p = passed (is_in_limits (frame_in head)) (bytes_eq (head_of (frame_in head)) head) (frame_in head) is in
    subst IsInLimits p.1 (is_in_limits_tells (frame_in head) p.0)
  where
    passed : (a b : Bool) (x : Frame) → cond (a && b) (Some x) None ≡ Some f → (a ≡ true) × (x ≡ f)
    passed true true x e = (refl, cc)
    passed true false x e = absurd cc
    passed false b x e = absurd cc

pub length-head_of : (f : Frame) → length (head_of f) ≡ 64
unfolding head_of four
length-head_of f = refl

-- fewer bytes than a head has are none
pub frame_of-short : (head : List ℕ) → length head < 64 → frame_of head ≡ None
unfolding frame_of
frame_of-short head short =
    ap (λ (b : Bool). cond (is_in_limits f && b) (Some f) None) (differs (bytes_eq (head_of f) head) refl)
    ∙ passes_none (is_in_limits f)
  where
    f : Frame
    f = frame_in head

    differs : (b : Bool) → bytes_eq (head_of f) head ≡ b → b ≡ false
    differs true is =
        let same = (bytes_eq-Decides (head_of f) head).0 is in
        absurd (omega (arith, ap length same, length-head_of f, short))
    differs false is = refl

    passes_none : (a : Bool) → cond (a && false) (Some f) None ≡ None
    passes_none true = refl
    passes_none false = refl
