-- A source is destroyed.
use Rattle.std.proofs.Common.{◌≡◌, ◌≢◌, ℕ, ◌+◌, ◌-◌, ◌^◌, min, Bool, true, false, refl, sym, ap, ◌∙◌, arith, subst, eq-eqb}
use Rattle.std.specs.Prelude.{Option, MatchBool}
use Rattle.std.proofs.lemmas.Bool.{ne_eqb}
use Rattle.sdr_base.specs.Blocks.{Block, IsKind}
use Rattle.sdr_base.specs.Objects.{Heap, OnlyUnmoved}
use Rattle.sdr_base.specs.Words.{with_word}
use Rattle.sdr_base.specs.declared.kind.Kind.TheVariants as kinds
use Rattle.sdr_base.specs.declared.medium.Medium.{Medium}
use Rattle.sdr_base.specs.declared.medium.Medium.TheVariants as media
use Rattle.sdr_base.specs.declared.refusal.Refusal.TheVariants as refusals
use Rattle.sdr_base.specs.declared.stop.Stop.{Stop}
use Rattle.sdr_base.specs.declared.stop.Stop.TheVariants.{Refused, DiskFault, MediaFault, Failed}
use Rattle.zco_ref.specs.Counting.{Becomes}
use Rattle.zco_ref.specs.Dropping.{DestroysSource, DestroyStops, IsFlagged, IsOwner, MayGo, flagged}
use Rattle.zco_ref.specs.Going.{SourceGoes, VanishStops, Vanishes, blocks_with, is_owner}
use Rattle.zco_ref.specs.Kept.{uses_of}
use Rattle.zco_ref.specs.Seeing.{SeesSource}
use Rattle.zco_ref.specs.declared.seeing.Seen.{Seen}
use Rattle.zco_ref.proofs.CountedLemmas.{flag_set}

-- one that has taken over no raw object goes alone
pub alone : (m : Medium) → is_owner m ≡ false → blocks_with m ≡ 1
alone media.Heap e = cc
alone media.File e = refl
alone media.Bulk e = refl
alone media.Obj e = refl

module _ {found : Option Block} {seen : Seen} (kind : IsKind found kinds.Source) (sees : SeesSource found seen) where
  -- it has taken over a raw object
  pub owner : is_owner seen.medium ≡ true → IsOwner found
  owner e = record { kind = kind; owns = λ s k. ap is_owner (sym (sees.sees s k).medium) ∙ e }

  -- or not, and is flagged
  pub is_flagged : is_owner seen.medium ≡ false → seen.flagged ≡ true → IsFlagged found
  is_flagged e f = record {
    kind = kind;
    free = λ s k. ap is_owner (sym (sees.sees s k).medium) ∙ e;
    flagged = λ s k. sym (sees.sees s k).flagged ∙ f;
  }

  -- or isn't
  pub may_go : is_owner seen.medium ≡ false → seen.flagged ≡ false → MayGo found
  may_go e f = record {
    kind = kind;
    free = λ s k. ap is_owner (sym (sees.sees s k).medium) ∙ e;
    unflagged = λ s k. sym (sees.sees s k).flagged ∙ f;
  }

module _ {addr : ℕ} {old new : Heap} (seen : Seen) (sees : SeesSource (old.blocks addr) seen) (may : MayGo (old.blocks addr)) where
  -- no extent names it
  pub destroyed_unused : min (seen.inbound + seen.outbound) (2 ^ 64 - 1) ≡ 0 → Vanishes addr old new → DestroysSource addr old new
  destroyed_unused none v = record {
    may = may;
    does = λ s bytes t.
        let i = (sees.sees s t.keeps).inbound in
        let o = (sees.sees s t.keeps).outbound in
        let z : uses_of s ≡ 0 = omega (arith, none, i, o) in
        subst (λ (b : Bool). MatchBool b (SourceGoes addr s bytes old new) (Becomes addr s (flagged s) old new)) (sym (eq-eqb (uses_of s) 0 z))
        (v.goes s bytes t);
  }

  -- some do
  pub destroyed_used : min (seen.inbound + seen.outbound) (2 ^ 64 - 1) ≢ 0 → new ≡ with_word old addr 1 1 → DestroysSource addr old new
  destroyed_used some w = record {
    may = may;
    does = λ s bytes t.
        let i = (sees.sees s t.keeps).inbound in
        let o = (sees.sees s t.keeps).outbound in
        let nz : uses_of s ≢ 0 = λ z. some (omega (arith, z, i, o)) in
        subst (λ (b : Bool). MatchBool b (SourceGoes addr s bytes old new) (Becomes addr s (flagged s) old new)) (sym (ne_eqb (uses_of s) 0 nz))
        (flag_set s w);
  }

-- why it isn't destroyed: no move was made
pub destroy_stops : (addr : ℕ) (old new : Heap) (stop : Stop) → MayGo (old.blocks addr) → OnlyUnmoved old new stop →
    DestroyStops addr old new stop
destroy_stops addr old new (Refused (refusals.BadAddress bad)) may u = absurd u
destroy_stops addr old new (Refused (refusals.WrongKind bad number)) may u = absurd u
destroy_stops addr old new (Refused refusals.NotFound) may u = absurd u
destroy_stops addr old new (Refused refusal) may u = (may, u)
destroy_stops addr old new DiskFault may u = u
destroy_stops addr old new MediaFault may u = u
destroy_stops addr old new Failed may u = u

-- also where it doesn't go
pub unowned_stops : (medium : Medium) (raw : ℕ) (old new : Heap) (stop : Stop) → is_owner medium ≡ false →
    VanishStops medium raw old new stop → OnlyUnmoved old new stop
unowned_stops media.Heap raw old new stop e v = cc
unowned_stops media.File raw old new stop e v = v
unowned_stops media.Bulk raw old new stop e v = v
unowned_stops media.Obj raw old new stop e v = v
