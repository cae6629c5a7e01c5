-- What sources, extents and charges come to where an object is cut to its part, and what goes with the extents outside.
use Rattle.std.proofs.Common.{◌≡◌, ◌∙◌, ℕ, List, [], Option, Some, refl, sym, ap, subst, arith}
use Rattle.std.specs.Prelude.{IfSome}
use Rattle.step_things.proofs.RowLemmas.{gave_fresh}
use Rattle.sdr_base.specs.declared.kind.Space.{Space}
use Rattle.law_steps.proofs.ChargeLemmas.{things_charge}
use Rattle.law_steps.proofs.ChargeMoves.{MovesCharge, SameCharge, before_same, object_moves}
use Rattle.law_steps.proofs.ExtentLemmas.{cut_charge, cut_inside, cut_names}
use Rattle.law_steps.proofs.GoneLaws.{AllGone}
use Rattle.law_steps.proofs.ObjectFields as fields
use Rattle.law_steps.proofs.OutcomeFits.{charged_by, drops_gone}
use Rattle.law_steps.proofs.OutcomeLemmas.{gone_accounts, object_owes, owes_release}
use Rattle.law_steps.proofs.SourceViews.{Fits, NoSpare, fits_from, fits_to}
use Rattle.law_steps.proofs.SourceMoves.{nothing, sources_gone}
use Rattle.law_steps.proofs.ZcoOutcomes.{AccountChange, Drops, Queued, drop_release}
use Rattle.law_steps.specs.Fresh.{AreFresh}
use Rattle.sdr_model.specs.Blocks.{addresses_of, blocks_of}
use Rattle.sdr_model.specs.Fields.{FitsFields, FitsThing, IsWord}
use Rattle.sdr_model.specs.Gone.{gone_blocks, gone_things, without_things}
use Rattle.sdr_model.specs.ObjectSteps.{with_object}
use Rattle.sdr_model.specs.PartSteps.{outside_part, part_end, stripped}
use Rattle.sdr_model.specs.Queue.{with_served}
use Rattle.sdr_model.specs.Steps.{Outcome, gave}
use Rattle.sdr_model.specs.Things.{Things, with_at}
use Rattle.sdr_model.specs.Valid.{FitTogether, IsValid}
use Rattle.sdr_model.specs.World.{World, thing_at}
use Rattle.sdr_model.specs.Zco.{as_object}
use Rattle.sdr_model.specs.declared.answer.Reply.TheVariants as replies
use Rattle.sdr_model.specs.declared.call.Call.TheVariants as calls
use Rattle.sdr_model.specs.declared.things.Thing.{Thing}
use Rattle.sdr_model.specs.declared.things.Thing.TheVariants as things
use Rattle.sdr_model.specs.declared.zco.Extent.{Extent}
use Rattle.sdr_model.specs.declared.zco.ZcoObject.{ZcoObject}
use Rattle.step_zco.proofs.GoneTies.{Leaves, left_things, lost_world, world_without}

-- the world in which an object is cut to its part, and what goes with the extents outside is gone
abbrev pub cut_world : World → ℕ → ZcoObject → World
cut_world w addr z = lost_world w addr (outside_part z) (Some (stripped z))

abbrev cut_things : World → ℕ → ZcoObject → Things
cut_things w addr z = left_things w addr (outside_part z) (Some (stripped z))

-- is what the row leaves before the queue is served
pub cut_is : (w : World) (addr : ℕ) (z : ZcoObject) →
    with_object (without_things w (gone_things w (outside_part z) (outside_part z))) addr (stripped z) ≡ cut_world w addr z
cut_is w addr z =
    ap (λ (v : World). with_object v addr (stripped z)) (world_without w (gone_things w (outside_part z) (outside_part z)))

-- the extents outside go, and the object that is cut is left
pub leaves_cut : (z : ZcoObject) → Leaves z (outside_part z) (Some (stripped z))
leaves_cut z = record { account = refl; parts = λ q. cut_names q z.part.offset (part_end z) z.extents }

-- an object of a world
module _ (w : World) (addr : ℕ) (z : ZcoObject) (there : thing_at w addr ≡ Some (things.Object z)) where
  abbrev out : List Extent
  out = outside_part z

  abbrev gone : List ℕ
  gone = gone_things w out out

  -- what its row gives
  abbrev outcome : Outcome
  outcome = record {
    moves = gave (gone_blocks w out out);
    after = record (with_served (with_object (without_things w gone) addr (stripped z)) z.account) { shown = [] };
    reply = replies.Done;
  }

  drops : Drops w (calls.Strip addr) outcome
  drops = record {
    addr = addr;
    old = z;
    out = out;
    new = Some (stripped z);
    was = ap as_object there;
    account = refl;
    owes = owes_release (λ b space. refl)
        (λ b space. object_owes w addr z (λ z. drop_release w z (Some (stripped z)) (outside_part z)) (ap as_object there) b space)
        (λ b space. refl);
    less = λ space. cut_charge space z;
    parts = λ source. cut_names source z.part.offset (part_end z) z.extents;
    inside = λ all. cut_inside w z.part.offset (part_end z) z.extents all;
    things = refl;
    accounts = AccountChange.served (with_object (without_things w gone) addr (stripped z)) refl
        (Queued.same refl (gone_accounts w gone)) refl refl;
  }

  things_are : outcome.after.things ≡ cut_things w addr z
  things_are = ap (λ (v : World). v.things) (cut_is w addr z)

  -- numbers fit their fields still
  pub cut_fields : IsValid w → FitTogether w → FitsFields w → FitsFields (cut_world w addr z)
  cut_fields valid together fit =
      let was = subst (λ (o : Option Thing). IfSome o (λ thing. IsWord addr × FitsThing thing)) there (fit.things addr) in
      let ends = fields.extents_end w valid together fit addr z (ap as_object there) in
      subst FitsFields (cut_is w addr z)
      (fields.put_fits (without_things w gone) addr (things.Object (stripped z)) was.0
      (record {
        headers = was.1.headers;
        extents = fields.cut_fits z.part.offset (part_end z) z.extents ends;
        trailers = was.1.trailers;
      }) (fields.gone_fits w gone fit))

  module _ (fits : FitTogether w) where
    fresh : AreFresh (addresses_of (blocks_of w)) outcome.moves
    fresh = gave_fresh (addresses_of (blocks_of w)) (gone_blocks w out out)

    all_went : AllGone w out (charged_by (fits_from w fits) fresh drops) outcome.after.things
    unfolding drops
    all_went = drops_gone (fits_from w fits) fresh drops

    -- sources and extents fit each other still
    pub cut_fits : FitTogether (cut_world w addr z)
    cut_fits = fits_to (cut_world w addr z) (subst (λ (m : Things). Fits m NoSpare) things_are all_went.fits)

    -- and its account is charged less by what it charges less, and by the sources that no other extent of it names
    pub cut_charges : MovesCharge w.things (cut_things w addr z) z.account nothing
        (drop_release w z (Some (stripped z)) out)
    unfolding drops
    cut_charges =
        let frees : Space → ℕ = drop_release w z (Some (stripped z)) out in
        let one : MovesCharge w.things (with_at w.things addr (Some (things.Object (stripped z)))) z.account nothing frees =
        object_moves w.things addr z.account (Some z) (Some (stripped z)) nothing frees there refl refl
        (sources_gone w.things z.account (Some z) (Some (stripped z)) out (λ q. cut_names q z.part.offset (part_end z) z.extents))
        (λ space. let less = cut_charge space z in omega (arith, less)) in
        let same : SameCharge (with_at w.things addr (Some (things.Object (stripped z)))) (cut_things w addr z) =
        λ acct space. ap (λ (m : Things). things_charge m acct space) (sym things_are) ∙ all_went.charges acct space in
        before_same one same
