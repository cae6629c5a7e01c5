-- What an extent says to one who walks its chain.
use Rattle.std.proofs.Common.{◌≡◌, ◌+◌, ◌≤◌, ◌^◌, ℕ, [], ◌∷◌, Option, arith}
use Rattle.sdr_base.specs.Blocks.{Block}
use Rattle.sdr_base.specs.Words.{HasWord}
use Rattle.sdr_base.specs.ZcoObjects.{ExtentRow}
use Rattle.sdr_base.specs.declared.kind.Kind.TheVariants as kinds
use Rattle.sdr_base.proofs.WritingLemmas.{word_is}
use Rattle.zco_obj.specs.Links.{SeesLink}
use Rattle.zco_obj.specs.Walks.{KeepsExtent, SeesExtent, SomeExtent}
use Rattle.zco_obj.specs.declared.seeing.SeenExtent.{SeenExtent}

-- an extent's second word is where its bytes begin
offset_is : {found : Option Block} {next value : ℕ} {e : ExtentRow} → KeepsExtent found next e → HasWord found 1 value → value ≡ e.offset
offset_is {found} {next} {value} {e} k h =
    word_is found kinds.Extent (e.source ∷ e.offset ∷ e.length ∷ next ∷ []) [] 1 value k.block (omega arith)
    (let i = k.fits.inside in omega (arith, i)) h

-- what was read is what it names, and the next one
pub sees_link : {found : Option Block} (seen : SeenExtent) (offset : ℕ) → SeesExtent found seen → HasWord found 1 offset →
    SeesLink found (record { piece = record { of = seen.source; offset = offset; bytes = seen.length }; next = seen.next })
sees_link seen offset v h = record {
  piece = λ n e k i. record { of = v.source n e k i; offset = offset_is k h i; bytes = v.length n e k i };
  next = λ n e k. v.next n e k;
}

-- it ends within the longest source
pub link_ends : {found : Option Block} (seen : SeenExtent) (offset : ℕ) → SomeExtent found → SeesExtent found seen →
    HasWord found 1 offset → offset + seen.length ≤ 2 ^ 40
link_ends seen offset s v h =
    let a = offset_is s.keeps h in
    let b = v.length s.next s.extent s.keeps in
    let i = s.keeps.fits.inside in omega (arith, a, b, i)
