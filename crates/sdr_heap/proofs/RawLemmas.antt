-- Raw objects that were made, and that are given back.
use Rattle.std.proofs.Common.{◌≡◌, ℕ, ◌+◌, Option, None, sym, ap, ◌∙◌, arith, subst}
use Rattle.std.specs.Prelude.{Some, replicate}
use Rattle.std.proofs.lemmas.List.{length-replicate}
use Rattle.sdr_base.specs.Blocks.{Block, IsKind, IsOther}
use Rattle.sdr_base.specs.Objects.{Heap, OnlyUnmoved, TakesZeros}
use Rattle.sdr_base.specs.declared.kind.Kind.TheVariants as kinds
use Rattle.sdr_base.specs.declared.refusal.Refusal.TheVariants as refusals
use Rattle.sdr_base.specs.declared.stop.Stop.{Stop}
use Rattle.sdr_base.specs.declared.stop.Stop.TheVariants as stops
use Rattle.sdr_base.proofs.ObjectsLemmas.{with_block-here}
use Rattle.sdr_heap.specs.Raw.{FreeStops, HasNoSource, HasSourceWord, IsRawOrText}
use Rattle.zco_ref.specs.Naming.{RawStops}

-- a block that was taken stands at its address
taken_here : (bytes addr : ℕ) (old new : Heap) → TakesZeros kinds.Raw (8 + bytes) addr old new →
    new.blocks addr ≡ Some (record { kind = kinds.Raw; bytes = replicate (8 + bytes) 0 })
taken_here bytes addr old new t =
    ap (λ (h : Heap). h.blocks addr) t.taken ∙ with_block-here old.blocks addr _

-- it has its source word
pub taken_whole : (bytes addr : ℕ) (old new : Heap) → TakesZeros kinds.Raw (8 + bytes) addr old new →
    HasSourceWord (new.blocks addr)
taken_whole bytes addr old new t =
    subst HasSourceWord (sym (taken_here bytes addr old new t))
    (λ _. omega (arith, length-replicate {A = ℕ} (8 + bytes) 0))

-- a string is no raw object
pub text_unnamed : (found : Option Block) → IsKind found kinds.Text → HasNoSource found
text_unnamed None text raw = absurd raw
text_unnamed (Some block) text raw = cc

-- a raw object or a string that no source names stays for want of log room alone, or by a fault
pub free_unmoved : (addr : ℕ) (old new : Heap) (stop : Stop) → IsRawOrText (old.blocks addr) → HasNoSource (old.blocks addr) →
    OnlyUnmoved old new stop → FreeStops addr old new stop
free_unmoved addr old new (stops.Refused (refusals.LogFull lines room)) found none m = (found, none, m)
free_unmoved addr old new (stops.Refused refusal) found none m = absurd m
free_unmoved addr old new stops.MediaFault found none m = m
free_unmoved addr old new stops.DiskFault found none m = m
free_unmoved addr old new stops.Failed found none m = m

pub ruleset freeing = (text_unnamed, free_unmoved)

-- why a raw object that is there is refused: a source names it
pub free_named : (addr : ℕ) (old new : Heap) (stop : Stop) → new ≡ old → IsKind (old.blocks addr) kinds.Raw → RawStops old.blocks addr stop →
    FreeStops addr old new stop
free_named addr old new (stops.Refused (refusals.BadAddress bad)) same kind m =
    absurd (subst (λ (f : Option Block). IsKind f kinds.Raw) m.1 kind)
free_named addr old new (stops.Refused (refusals.WrongKind bad number)) same kind m = absurd (other (old.blocks addr) kind m.1)
  where
    other : (f : Option Block) → IsKind f kinds.Raw → IsOther f kinds.Raw number → ⊥
    other None kind o = kind
    other (Some block) kind o = o.1 kind
free_named addr old new (stops.Refused (refusals.InUse bad count)) same kind m = (m.0, m.1, same)
free_named addr old new (stops.Refused refusal) same kind m = absurd m
free_named addr old new stops.MediaFault same kind m = m
free_named addr old new stops.DiskFault same kind m = m
free_named addr old new stops.Failed same kind m = m
