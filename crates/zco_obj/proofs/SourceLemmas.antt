-- What the block of a source says to an extent that is to name it.
use Rattle.std.proofs.Common.{◌≡◌, ℕ, Bool, true, false, None, Some, refl, sym, ap, ◌∙◌, arith, subst}
use Rattle.std.specs.Prelude.{◌==◌, Option, if◌then◌else◌}
use Rattle.sdr_base.specs.Blocks.{Block, IsOther}
use Rattle.sdr_base.specs.Objects.{Misses, OnlyFault}
use Rattle.sdr_base.specs.Sources.{flag_word}
use Rattle.sdr_base.specs.Words.{HasWord}
use Rattle.sdr_base.specs.declared.kind.Kind.TheVariants as kinds
use Rattle.sdr_base.specs.declared.kind.Space.{Space}
use Rattle.sdr_base.specs.declared.refusal.Refusal.TheVariants as refusals
use Rattle.sdr_base.specs.declared.stop.Stop.{Stop}
use Rattle.sdr_base.specs.declared.stop.Stop.TheVariants.{Refused, DiskFault, MediaFault, Failed}
use Rattle.sdr_base.proofs.WritingLemmas.{word_is}
use Rattle.zco_obj.specs.Amounts.{extent_amounts, heap_amounts, naming_amounts, source_space}
use Rattle.zco_obj.specs.Sources.{IsSeen, IsSpaceOf, SeesSource}
use Rattle.zco_obj.specs.declared.seeing.SeenSource.{SeenSource}
use Rattle.zco_ref.specs.Kept.{CountedSource, KeepsSource, SomeSource}
use Rattle.zco_ref.proofs.KeptLemmas.{flag_is, medium_is, source_words}

-- the word of a yes or no
flag_told : (b : Bool) → (flag_word b == 1) ≡ b
flag_told true = refl
flag_told false = refl

length_is : {found : Option Block} {s : CountedSource} {value : ℕ} → KeepsSource found s → HasWord found 5 value → value ≡ s.row.length
length_is {found} {s} {value} k h =
    word_is found kinds.Source (source_words s) s.row.path 5 value k.block (omega arith) k.fits.length h

-- what was read is what is said of the source
pub sees_source : {found : Option Block} (medium flag bytes : ℕ) (space : Space) → HasWord found 0 medium → HasWord found 1 flag →
    HasWord found 5 bytes → IsSpaceOf medium space → SeesSource found (record { space = space; flagged = flag == 1; bytes = bytes })
sees_source medium flag bytes space m f b of = record {
  sees = λ s k. record {
    space = of s.row.medium (medium_is k m);
    flagged = ap (λ n. n == 1) (flag_is k f) ∙ flag_told s.row.flagged;
    bytes = length_is k b;
  };
}

-- what an extent charges that names the source, by what was read of it
pub naming_read : (only : Bool) (s : CountedSource) (seen : SeenSource) → IsSeen s seen →
    (if only then extent_amounts seen.space seen.bytes else heap_amounts 32) ≡ naming_amounts only s
naming_read only s seen v =
    ap (λ (space : Space). if only then extent_amounts space seen.bytes else heap_amounts 32) v.space
    ∙ ap (λ n. if only then extent_amounts (source_space s) n else heap_amounts 32) v.bytes

-- a source that is there isn't missed, so it is a fault
pub source_misses : {found : Option Block} (addr : ℕ) (stop : Stop) → SomeSource found → Misses found addr kinds.Source stop → OnlyFault stop
source_misses {found} addr (Refused (refusals.BadAddress bad)) q m = absurd (none (sym m.1 ∙ q.keeps.block))
  where
    none : {x : Block} → None ≡ Some x → ⊥
    none e = cc
source_misses {found} addr (Refused (refusals.WrongKind bad number)) q m =
    absurd ((subst (λ (p : Option Block). IsOther p kinds.Source number) q.keeps.block m.1).1 refl)
source_misses addr (Refused refusal) q m = m
source_misses addr DiskFault q m = m
source_misses addr MediaFault q m = m
source_misses addr Failed q m = m
