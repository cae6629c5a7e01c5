-- What the block of a source says, read word by word.
use Rattle.std.proofs.Common.{◌≡◌, ℕ, Bool, true, false, Option, refl, ap, ◌∙◌}
use Rattle.std.specs.Prelude.{◌==◌}
use Rattle.sdr_base.specs.Blocks.{Block}
use Rattle.sdr_base.specs.Sources.{flag_word}
use Rattle.sdr_base.specs.Words.{HasWord}
use Rattle.sdr_base.specs.declared.medium.Medium.{Medium}
use Rattle.zco_ref.specs.Seeing.{IsMediumOf, SeesSource}
use Rattle.zco_ref.proofs.KeptLemmas.{flag_is, inbound_is, medium_is, outbound_is, subject_is}

-- the word of a yes or no
flag_told : (b : Bool) → (flag_word b == 1) ≡ b
flag_told true = refl
flag_told false = refl

-- what was read is what is said of the source
pub sees : {found : Option Block} {m i o s : ℕ} (f : ℕ) (medium : Medium) → HasWord found 0 m → HasWord found 1 f →
    HasWord found 2 i → HasWord found 3 o → HasWord found 4 s → IsMediumOf m medium →
    SeesSource found (record { medium = medium; flagged = f == 1; inbound = i; outbound = o; subject = s })
sees {found} {m} {i} {o} {s} f medium hm hf hi ho hs of = record {
  sees = λ source k. record {
    medium = of source.row.medium (medium_is k hm);
    flagged = ap (λ n. n == 1) (flag_is k hf) ∙ flag_told source.row.flagged;
    inbound = inbound_is k hi;
    outbound = outbound_is k ho;
    subject = subject_is k hs;
  };
}
