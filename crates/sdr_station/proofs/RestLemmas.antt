-- A world as a transaction leaves it.
use Rattle.std.proofs.Common.{◌≡◌, ◌∙◌, ℕ, refl, sym, ap}
use Rattle.law_steps.proofs.WholeLaws.{whole_same}
use Rattle.sdr_machine.specs.Ground.{State, rolled_back}
use Rattle.sdr_model.specs.Fields.{FitsFields}
use Rattle.sdr_model.specs.Whole.{IsWhole}
use Rattle.sdr_model.specs.World.{World, at_rest}

-- a whole world is whole at rest
pub whole_rest : (w : World) → IsWhole w → IsWhole (at_rest w)
whole_rest w whole = whole_same w (at_rest w) refl refl (record {
  things = whole.valid.things;
  names = whole.valid.names;
  distinct_names = whole.valid.distinct_names;
  nonzero = whole.valid.nonzero;
  distinct_addresses = whole.valid.distinct_addresses;
}) whole

-- its numbers fit the fields still
pub fits_rest : (w : World) → FitsFields w → FitsFields (at_rest w)
fits_rest w fits = record { things = fits.things; names = fits.names; inbound = fits.inbound; outbound = fits.outbound }

-- where no block is counted as taken, what is put back is what was before
pub put_back_is : (before now : State) → before.world.taken ≡ 0 → now.world.taken ≡ 0 → before ≡ rolled_back before now
put_back_is before now none zero =
    ap (λ (t : ℕ). record before { world = record before.world { taken = t } }) (none ∙ sym zero)
