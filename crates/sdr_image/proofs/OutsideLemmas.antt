-- What changes of a disk's other bytes, by its head.
use Rattle.std.proofs.Common.{◌≡◌, ℕ, List, sym, ◌∙◌, subst, Some}
use Rattle.std.proofs.lemmas.Option.{none-some, same_Some}
use Rattle.sdr_base.specs.Parts.{part}
use Rattle.sdr_base.specs.declared.line.TheConstants.{LINE}
use Rattle.sdr_disk.proofs.RangesLemmas.{Agrees-refl}
use Rattle.sdr_log.specs.Calls.{KeepsOutside, KeepsRest}
use Rattle.sdr_log.specs.Frame.{frame_of}
use Rattle.sdr_log.specs.declared.frame.Frame.{Frame}
use Rattle.sdr_image.specs.Opening.{UnlessFault}
use Rattle.sdr_image.specs.declared.error.ImageError.{ImageError}
use Rattle.sdr_image.specs.declared.error.ImageError.TheVariants as errors

-- where a disk has the same bytes, the rest stays
pub rest_same : (x y : List ℕ) → y ≡ x → KeepsRest x y
rest_same x y is = record {
  outside = λ f head. subst (λ (z : List ℕ). KeepsOutside f x z) (sym is) (Agrees-refl _ x);
  headless = λ none. is;
}

-- where the head tells of these regions, and no byte outside them changes, it does too
pub rest_outside : (f : Frame) (x y : List ℕ) → frame_of (part 0 LINE x) ≡ Some f → KeepsOutside f x y → KeepsRest x y
rest_outside f x y head outside = record {
  outside = λ k is. subst (λ (h : Frame). KeepsOutside h x y) (same_Some f k (sym head ∙ is)) outside;
  headless = λ none. absurd (none-some f (sym none ∙ head));
}

-- the same, where the head was read before
pub rest_read : (f : Frame) (x y z : List ℕ) → y ≡ x → frame_of (part 0 LINE x) ≡ Some f → KeepsOutside f y z → KeepsRest x z
rest_read f x y z same head outside =
    rest_outside f x z head (subst (λ (o : List ℕ). KeepsOutside f o z) same outside)

-- and where the disk is read behind it
pub rest_before : (x y z : List ℕ) → z ≡ y → KeepsRest x y → KeepsRest x z
rest_before x y z same rest = subst (KeepsRest x) (sym same) rest

-- what follows where the disk didn't fail
pub UnlessFault-then : {P Q : Type 0} (why : ImageError) → (P → Q) → UnlessFault why P → UnlessFault why Q
UnlessFault-then errors.DiskFault then holds = tt
UnlessFault-then errors.NotFormatted then holds = then holds
UnlessFault-then errors.NoMemory then holds = then holds
