-- An extent is cut.
use Rattle.std.proofs.Common.{◌≡◌, ◌∙◌, ◌+◌, ◌-◌, ◌≤◌, ◌^◌, ℕ, [], ◌∷◌, min, ap, subst, arith}
use Rattle.sdr_base.proofs.WritingLemmas.{word_is}
use Rattle.sdr_base.specs.Blocks.{Block}
use Rattle.sdr_base.specs.Entries.{Changes}
use Rattle.sdr_base.specs.Objects.{Heap}
use Rattle.sdr_base.specs.Words.{HasWord}
use Rattle.sdr_base.specs.ZcoObjects.{ExtentRow, extent_block}
use Rattle.sdr_base.specs.declared.kind.Kind.TheVariants as kinds
use Rattle.std.specs.Prelude.{Option}
use Rattle.zco_strip.specs.Linking.{CutsExtent}
use Rattle.zco_strip.specs.Parting.{CutsTo}
use Rattle.zco_obj.specs.Walks.{KeepsExtent, SeesExtent, SomeExtent}
use Rattle.zco_obj.specs.declared.seeing.SeenExtent.{SeenExtent}

-- where it begins in its source
pub offset_is : {found : Option Block} {next : ℕ} {e : ExtentRow} (k : KeepsExtent found next e) {value : ℕ} → HasWord found 1 value →
    value ≡ e.offset
offset_is {found} {next} {e} k {value} h =
    word_is found kinds.Extent (e.source ∷ e.offset ∷ e.length ∷ next ∷ []) [] 1 value k.block (omega arith)
    (let i = k.fits.inside in omega (arith, i)) h

-- its end is no more than a source is long
pub ends_short : {found : Option Block} (offset : ℕ) (seen : SeenExtent) → SeesExtent found seen → SomeExtent found → HasWord found 1 offset →
    offset + seen.length ≤ 2 ^ 40
ends_short {found} offset seen v some h =
    let o = offset_is some.keeps h in
    let l = v.length some.next some.extent some.keeps in
    let i = some.keeps.fits.inside in omega (arith, o, l, i)

-- it was cut
pub cuts_to : {old new : Heap} (extent offset : ℕ) (seen : SeenExtent) (from to first all : ℕ) → SeesExtent (old.blocks extent) seen →
    HasWord (old.blocks extent) 1 offset → first ≡ min from seen.length → all ≡ min to seen.length →
    CutsExtent extent (offset + first) (all - first) old new → CutsTo extent from to old new
cuts_to {old} {new} extent offset seen from to first all v h f t c = record {
  cuts = λ next e k.
      let o = offset_is k h in
      let l = v.length next e k in
      let first_is : first ≡ min from e.length = f ∙ ap (min from) l in
      let all_is : all ≡ min to e.length = t ∙ ap (min to) l in
      subst (λ (x : ExtentRow). Changes old.blocks new.blocks ((extent, extent_block 0 next e) ∷ []) ((extent, extent_block 0 next x) ∷ []))
      (λ i. record {
        addr = e.addr;
        source = e.source;
        offset = o i + first_is i;
        length = all_is i - first_is i;
      }) (c.cuts next e);
  same = c.same;
}
