-- What sources, extents and charges come to where an object goes, with what goes with its extents.
use Rattle.std.proofs.Common.{◌≡◌, ◌∙◌, ℕ, List, [], Some, None, refl, sym, ap, subst, arith}
use Rattle.std.specs.FinMap.{remove as lose}
use Rattle.step_things.proofs.RowLemmas.{gave_fresh}
use Rattle.law_steps.proofs.ChargeLemmas.{things_charge}
use Rattle.law_steps.proofs.ChargeMoves.{MovesCharge, SameCharge, before_same, object_moves}
use Rattle.law_steps.proofs.GoneLaws.{AllGone}
use Rattle.law_steps.proofs.ObjectFields as fields
use Rattle.law_steps.proofs.OutcomeFits.{charged_by, drops_gone}
use Rattle.law_steps.proofs.OutcomeLemmas.{gone_accounts, object_owes, owes_release}
use Rattle.law_steps.proofs.SourceViews.{Fits, NoSpare, fits_from, fits_to}
use Rattle.law_steps.proofs.SourceMoves.{nothing, sources_gone}
use Rattle.law_steps.proofs.ZcoOutcomes.{AccountChange, Drops, Queued, drop_release}
use Rattle.law_steps.specs.Fresh.{AreFresh}
use Rattle.sdr_model.specs.Blocks.{addresses_of, blocks_of}
use Rattle.sdr_model.specs.Fields.{FitsFields}
use Rattle.sdr_model.specs.Gone.{gone_things, without_things}
use Rattle.sdr_model.specs.ObjectSteps.{destroy_blocks}
use Rattle.sdr_model.specs.Queue.{with_served}
use Rattle.sdr_model.specs.Steps.{Outcome, gave, without_thing}
use Rattle.sdr_model.specs.Things.{Things}
use Rattle.sdr_model.specs.Valid.{FitTogether}
use Rattle.sdr_model.specs.World.{World, thing_at}
use Rattle.sdr_model.specs.Zco.{as_object}
use Rattle.sdr_model.specs.declared.answer.Reply.TheVariants as replies
use Rattle.sdr_model.specs.declared.call.Call.TheVariants as calls
use Rattle.sdr_model.specs.declared.things.Thing.TheVariants as things
use Rattle.sdr_model.specs.declared.zco.ZcoObject.{ZcoObject}
use Rattle.step_zco.proofs.GoneTies.{left_things, lost_is, lost_world}

-- an object of a world
module _ (w : World) (addr : ℕ) (z : ZcoObject) (there : thing_at w addr ≡ Some (things.Object z)) where
  abbrev gone : List ℕ
  gone = gone_things w z.extents z.extents

  -- what its row gives
  abbrev outcome : Outcome
  outcome = record {
    moves = gave (destroy_blocks w addr z);
    after = record (with_served (without_thing (without_things w gone) addr) z.account) { shown = [] };
    reply = replies.Done;
  }

  drops : Drops w (calls.Destroy addr) outcome
  drops = record {
    addr = addr;
    old = z;
    out = z.extents;
    new = None;
    was = ap as_object there;
    account = tt;
    owes = owes_release (λ b space. refl)
        (λ b space. object_owes w addr z (λ z. drop_release w z None z.extents) (ap as_object there) b space) (λ b space. refl);
    less = λ space. omega arith;
    parts = λ source. omega arith;
    inside = λ all. tt;
    things = refl;
    accounts = AccountChange.served (without_thing (without_things w gone) addr) refl
        (Queued.same refl (gone_accounts w gone)) refl refl;
  }

  things_are : outcome.after.things ≡ left_things w addr z.extents None
  things_are = ap (λ (v : World). v.things) (lost_is w addr z.extents)

  -- numbers fit their fields still
  pub lost_fields : FitsFields w → FitsFields (lost_world w addr z.extents None)
  lost_fields fit =
      subst FitsFields (lost_is w addr z.extents) (fields.lost_fits (without_things w gone) addr (fields.gone_fits w gone fit))

  module _ (fits : FitTogether w) where
    fresh : AreFresh (addresses_of (blocks_of w)) outcome.moves
    fresh = gave_fresh (addresses_of (blocks_of w)) (destroy_blocks w addr z)

    all_went : AllGone w z.extents (charged_by (fits_from w fits) fresh drops) outcome.after.things
    unfolding drops
    all_went = drops_gone (fits_from w fits) fresh drops

    -- sources and extents fit each other still
    pub lost_fits : FitTogether (lost_world w addr z.extents None)
    lost_fits = fits_to (lost_world w addr z.extents None) (subst (λ (m : Things). Fits m NoSpare) things_are all_went.fits)

    -- and its account is charged less by what it charged, and by the sources that no other object of it names
    pub lost_charge : MovesCharge w.things (left_things w addr z.extents None) z.account nothing
        (drop_release w z None z.extents)
    unfolding drops
    lost_charge =
        let one : MovesCharge w.things (lose w.things addr) z.account nothing (drop_release w z None z.extents) =
        object_moves w.things addr z.account (Some z) None nothing (drop_release w z None z.extents) there refl tt
        (sources_gone w.things z.account (Some z) None z.extents (λ q. omega arith)) (λ space. omega arith) in
        let same : SameCharge (lose w.things addr) (left_things w addr z.extents None) =
        λ acct space. ap (λ (m : Things). things_charge m acct space) (sym things_are) ∙ all_went.charges acct space in
        before_same one same
