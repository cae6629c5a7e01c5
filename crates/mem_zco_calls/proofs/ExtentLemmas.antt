-- Objects that get an extent of a source.
use Rattle.std.proofs.Common.{◌≡◌, ◌+◌, ◌==◌, ℕ, Some, false, ◌||◌, sym, subst}
use Rattle.std.specs.Prelude.{MatchBool, MatchOption, nat_lt}
use Rattle.sdr_base.specs.declared.refusal.Refusal.TheVariants as refusals
use Rattle.sdr_model.specs.Charges.{use_charge}
use Rattle.sdr_model.specs.Charging.{Charges}
use Rattle.sdr_model.specs.ObjectSteps.{AppendsRaw, AppendsSource, InRange, with_extent, with_object}
use Rattle.sdr_model.specs.Rows.{ByRow}
use Rattle.sdr_model.specs.Steps.{On, Outcome, Refuses, Takes}
use Rattle.sdr_model.specs.Things.{extent_need}
use Rattle.sdr_model.specs.World.{World, as_raw, thing_at}
use Rattle.sdr_model.specs.Zco.{object_at, source_at}
use Rattle.sdr_model.specs.declared.answer.Reply.TheVariants as replies
use Rattle.sdr_model.specs.declared.call.Call.TheVariants as calls
use Rattle.sdr_model.specs.declared.zco.ZcoObject.{ZcoObject}
use Rattle.sdr_model.specs.declared.zco.ZcoSource.{ZcoSource}
use Rattle.mem_parts.specs.declared.component.Component.{Component}
use Rattle.mem_parts.specs.declared.component.Component.TheVariants as components
use Rattle.mem_zco_calls.proofs.ObjectCallLemmas.{ChargesComponent}

module _ (w : World) (k number named offset bytes : ℕ) where
  -- an extent of what is named, in a block
  abbrev pub extent_in : ℕ → Component
  extent_in block = components.Extent (record { block = block; source = named; offset = offset; length = bytes })

  -- the row of an append of a part of a source that isn't flagged, where the range is within it
  pub append-row : (z : ZcoObject) (s : ZcoSource) → object_at w k ≡ Some z → source_at w named ≡ Some s → s.flagged ≡ false
      → (bytes == 0 || nat_lt s.length (offset + bytes)) ≡ false → (o : Outcome)
      → ChargesComponent w k number extent_need (use_charge w z.account named s) z extent_in o
      → ByRow w o (calls.AppendExtent k number named offset bytes)
  append-row z s there source kept inside o charges =
      subst (λ t. On w o k t (λ z. MatchOption (source_at w named)
      (On w o named (as_raw (thing_at w named)) (λ text. AppendsRaw w o k z number named text offset bytes))
      (λ s. AppendsSource w o k z number named s offset bytes))) (sym there)
      (subst (λ t. MatchOption t (On w o named (as_raw (thing_at w named)) (λ text. AppendsRaw w o k z number named text offset bytes))
      (λ s. AppendsSource w o k z number named s offset bytes)) (sym source)
      (subst (λ b. MatchBool b (Refuses w o refusals.NotFound) (InRange w o offset bytes s.length goes)) (sym kept)
      (subst (λ b. MatchBool b (Refuses w o (refusals.BadRange offset bytes s.length)) goes) (sym inside)
      charges)))
    where
      goes : Type 0
      goes =
          Charges w o z.account number (use_charge w z.account named s) (λ used.
          Takes w o extent_need
          (λ block. with_object used k (with_extent z (record { block = block; source = named; offset = offset; length = bytes })))
          (λ block. replies.Done))
