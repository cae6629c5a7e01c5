-- What things charge moves by what a call charges and releases.
use Rattle.std.proofs.Common.{◌≡◌, ℕ, ◌==◌, true, true≢false, Option, Some, None, length, refl, sym, ap, ◌∙◌, subst, arith, if◌then◌else◌}
use Rattle.sdr_base.specs.declared.account.Acct.{Acct}
use Rattle.sdr_base.specs.declared.account.Acct.TheVariants as accts
use Rattle.sdr_base.specs.declared.kind.Space.{Space}
use Rattle.sdr_base.specs.declared.kind.Space.TheVariants as spaces
use Rattle.law_steps.proofs.BondCharges.{bonded_names, bonded_object}
use Rattle.law_steps.proofs.BondLaws.{with_all_is}
use Rattle.law_steps.proofs.ChargeLemmas.{charge_dropped, charge_flagged, charge_plain, charge_source, count_new, things_charge}
use Rattle.law_steps.proofs.Effects.{IsFresh, IsNoZco, Plain}
use Rattle.law_steps.proofs.PlainRows.{IsZcoCall, row_change}
use Rattle.law_steps.proofs.OutcomeFits.{bonded_things, bonds_done, drops_gone, over_here, over_none, over_source, over_there, over_things}
use Rattle.law_steps.proofs.SourceViews.{Fits, NoSpare, fits_from, of}
use Rattle.law_steps.proofs.SourceCharges.{bytes_in, counts}
use Rattle.law_steps.proofs.SourceMoves.{sources_firsts, sources_gone, sources_use}
use Rattle.law_steps.proofs.ZcoOutcomes.{AccountChange, Bonds, Drops, TakesOver, Owes, ZcoOutcome, drop_release, nothing}
use Rattle.law_steps.proofs.ObjectRows.{extent_charge_more}
use Rattle.law_steps.proofs.OutcomeLemmas.{owes_none}
use Rattle.law_steps.proofs.ThingLemmas.{object_is, source_is}
use Rattle.law_steps.proofs.ZcoRows.{zco_row}
use Rattle.law_steps.specs.Charged.{ticket_of}
use Rattle.sdr_model.specs.Step.{is_answer}
use Rattle.sdr_model.specs.declared.call.Call.TheVariants as calls
use Rattle.sdr_model.specs.BondSteps.{bond_charge, bonded, bonded_extents, capsules_of}
use Rattle.sdr_model.specs.Charges.{bytes_charge}
use Rattle.sdr_model.specs.Zco.{source_at}
use Rattle.sdr_model.specs.ObjectSteps.{with_extent}
use Rattle.sdr_model.specs.Rows.{ByRow}
use Rattle.sdr_model.specs.Steps.{Outcome, taken_at}
use Rattle.sdr_model.specs.Things.{with_at}
use Rattle.sdr_model.specs.Valid.{FitTogether, IsValid}
use Rattle.sdr_model.specs.World.{World, thing_at}
use Rattle.sdr_model.specs.declared.call.Call.{Call}
use Rattle.sdr_model.specs.declared.things.Thing.TheVariants as things
use Rattle.sdr_model.specs.declared.zco.ZcoObject.{ZcoObject}
use Rattle.law_steps.proofs.ChargeMoves.{MovesCharge, SameCharge, after_same, at_object, before_same, object_moves, same_moves, same_things_charge}

-- what a call charges or releases: one account's things, and how the accounts are changed
pub record Moves (w : World) (call : Call) (o : Outcome) : Type 0 where
  pub acct : Acct
  pub adds : Space → ℕ
  pub frees : Space → ℕ
  pub lost : Space → ℕ
  pub accounts : AccountChange w o.after acct (ticket_of call) adds frees lost
  pub owes : is_answer o.reply ≡ true → Owes w call acct adds frees lost
  pub charge : MovesCharge w.things o.after.things acct adds frees

module _ {w : World} {o : Outcome} (valid : IsValid w) (fits : Fits w.things NoSpare) (fresh : IsFresh w o) where
  -- nothing is charged
  unmoved : {call : Call} → (is_answer o.reply ≡ true → Owes w call accts.Inbound nothing nothing nothing)
      → o.after.accounts ≡ w.accounts
      → SameCharge w.things o.after.things → Moves w call o
  unmoved owes accounts same = record {
    acct = accts.Inbound;
    adds = nothing;
    frees = nothing;
    lost = nothing;
    owes = owes;
    accounts = AccountChange.stays refl refl refl accounts;
    charge = same_moves accts.Inbound same;
  }

  pub plain_moves : {call : Call} → (is_answer o.reply ≡ true → Owes w call accts.Inbound nothing nothing nothing)
      → Plain w o → Moves w call o
  plain_moves owes (Plain.leaves things accounts) = unmoved owes accounts (same_things_charge things)
  plain_moves owes (Plain.swaps addr before after was a b bytes things accounts) =
      unmoved owes accounts (λ acct space. ap (λ m. things_charge m acct space) things
      ∙ charge_plain w.things addr acct space after (subst IsNoZco (sym (was fresh)) a) b)
  plain_moves owes (Plain.frees addr bytes is none things accounts) =
      unmoved owes accounts (λ acct space. ap (λ m. things_charge m acct space) things
      ∙ charge_plain w.things addr acct space None (subst IsNoZco (sym is) tt) tt)

  over_moves : {call : Call} (n : TakesOver w call o) → MovesCharge w.things o.after.things n.old.account
      (bytes_charge spaces.Heap (length n.text)) nothing
  over_moves n =
      let mid = over_things n in
      let old : Option ZcoObject = Some n.old in
      at_object n.things (after_same
      (λ acct space. charge_source w.things (taken_at o.moves 0) acct space NoSpare fits (over_source n)
      (over_none n fresh))
      (object_moves mid n.addr n.old.account (Some n.old) (Some (with_extent n.old n.extent))
      (bytes_charge spaces.Heap (length n.text)) nothing (over_there n fresh) refl refl
      (sources_use mid n.old.account n.old n.extent)
      (λ space. omega (
        arith,
        extent_charge_more n.old n.extent space,
        ap (λ k. if k == 0 then bytes_in space (source_at (of mid) n.extent.source) else 0)
            (ap (counts mid n.old.account) n.source
            ∙ count_new NoSpare w.things fits n.old.account (taken_at o.moves 0) (over_source n) (over_none n fresh)),
        ap (bytes_in space) (over_here n),
      ))))

  bonds_moves : {call : Call} (n : Bonds w call o)
      → MovesCharge w.things o.after.things n.old.account (bond_charge (capsules_of n.old)) nothing
  bonds_moves n =
      let at = taken_at o.moves in
      let mid = bonded_things fits fresh n in
      let done = bonds_done fits fresh valid n in
      let was = object_is (thing_at w n.addr) n.old n.was in
      at_object (n.things ∙ ap (λ m. with_at m n.addr (Some (things.Object (bonded at n.old))))
      (with_all_is w at 0 (capsules_of n.old))) (after_same done.charges
      (object_moves mid n.addr n.old.account (Some n.old) (Some (bonded at n.old)) (bond_charge (capsules_of n.old))
      nothing (done.keeps n.addr (things.Object n.old) was) refl refl
      (sources_firsts mid n.old.account (Some n.old) (Some (bonded at n.old)) (bonded_extents at 0 (capsules_of n.old))
      (bonded_names at n.old) (done.firsts n.old.account))
      (λ space. omega (arith, bonded_object at n.old space))))

  drops_moves : {call : Call} (n : Drops w call o) → MovesCharge w.things o.after.things n.old.account nothing
      (drop_release w n.old n.new n.out)
  drops_moves n =
      let was = object_is (thing_at w n.addr) n.old n.was in
      before_same
      (object_moves w.things n.addr n.old.account (Some n.old) n.new nothing
      (drop_release w n.old n.new n.out) was refl n.account
      (sources_gone w.things n.old.account (Some n.old) n.new n.out n.parts)
      (λ space. omega (arith, n.less space)))
      (drops_gone fits fresh n).charges

  pub zco_moves : {call : Call} → ZcoOutcome w call o → Moves w call o
  zco_moves (ZcoOutcome.refuses no_answer is) =
      unmoved (λ answered. absurd (true≢false (sym answered ∙ no_answer))) (ap (λ (v : World). v.accounts) is)
      (same_things_charge (ap (λ (v : World). v.things) is))
  zco_moves (ZcoOutcome.makes_source owes n accounts) =
      unmoved (λ answered. owes) accounts (λ acct space. ap (λ m. things_charge m acct space) n.things
      ∙ charge_source w.things n.addr acct space NoSpare fits n.source (n.fresh fresh))
  zco_moves (ZcoOutcome.drops_source owes addr s was unused things accounts) =
      unmoved (λ answered. owes) accounts (λ acct space. ap (λ m. things_charge m acct space) things
      ∙ charge_dropped w.things addr acct space s (source_is (thing_at w addr) s was) unused)
  zco_moves (ZcoOutcome.flags_source owes addr s was used things accounts) =
      unmoved (λ answered. owes) accounts (λ acct space. ap (λ m. things_charge m acct space) things
      ∙ charge_flagged w.things addr acct space s (source_is (thing_at w addr) s was))
  zco_moves (ZcoOutcome.serves_queue acct lost owes things change) = record {
    acct = acct;
    adds = nothing;
    frees = nothing;
    lost = lost;
    owes = λ answered. owes;
    accounts = change;
    charge = same_moves acct (same_things_charge things);
  }
  zco_moves (ZcoOutcome.makes_object n) = record {
    acct = n.object.account;
    adds = n.adds;
    frees = nothing;
    lost = nothing;
    accounts = n.accounts;
    owes = λ answered. n.owes;
    charge = at_object n.things (object_moves w.things n.addr n.object.account None (Some n.object) n.adds nothing
        (n.fresh fresh) tt refl n.sources (λ space. omega (arith, n.charge space)));
  }
  zco_moves (ZcoOutcome.reshapes n) = record {
    acct = n.old.account;
    adds = n.adds;
    frees = n.frees;
    lost = nothing;
    accounts = n.accounts;
    owes = λ answered. n.owes;
    charge = at_object n.things (object_moves w.things n.addr n.old.account (Some n.old) (Some n.new) n.adds n.frees
        (object_is (thing_at w n.addr) n.old n.was) refl n.account n.sources
        (λ space. omega (arith, n.charge space)));
  }
  zco_moves (ZcoOutcome.takes_over n) = record {
    acct = n.old.account;
    adds = bytes_charge spaces.Heap (length n.text);
    frees = nothing;
    lost = nothing;
    accounts = n.accounts;
    owes = λ answered. n.owes;
    charge = over_moves n;
  }
  zco_moves (ZcoOutcome.bonds n) = record {
    acct = n.old.account;
    adds = bond_charge (capsules_of n.old);
    frees = nothing;
    lost = nothing;
    accounts = n.accounts;
    owes = λ answered. n.owes;
    charge = bonds_moves n;
  }
  zco_moves (ZcoOutcome.drops n) = record {
    acct = n.old.account;
    adds = nothing;
    frees = drop_release w n.old n.new n.out;
    lost = nothing;
    accounts = n.accounts;
    owes = λ answered. n.owes;
    charge = drops_moves n;
  }

-- a call that touches no source, object or account owes nothing
plain_owes : (w : World) (call : Call) → (IsZcoCall call → ⊥) → Owes w call accts.Inbound nothing nothing nothing
plain_owes w (calls.FileRef path bytes) other = absurd (other tt)
plain_owes w (calls.BulkRef item bytes) other = absurd (other tt)
plain_owes w (calls.ObjRef raw) other = absurd (other tt)
plain_owes w (calls.DestroyRef addr) other = absurd (other tt)
plain_owes w (calls.SetMaximum acct space value) other = absurd (other tt)
plain_owes w (calls.Create acct ticket) other = absurd (other tt)
plain_owes w (calls.AppendExtent addr ticket named offset bytes) other = absurd (other tt)
plain_owes w (calls.PrependHeader addr ticket text) other = absurd (other tt)
plain_owes w (calls.AppendTrailer addr ticket text) other = absurd (other tt)
plain_owes w (calls.DiscardFirstHeader addr) other = absurd (other tt)
plain_owes w (calls.DiscardLastTrailer addr) other = absurd (other tt)
plain_owes w (calls.Bond addr ticket) other = absurd (other tt)
plain_owes w (calls.ClonePart addr ticket offset bytes) other = absurd (other tt)
plain_owes w (calls.Delimit addr offset bytes) other = absurd (other tt)
plain_owes w (calls.Strip addr) other = absurd (other tt)
plain_owes w (calls.Destroy addr) other = absurd (other tt)
plain_owes w (calls.Request acct file bulk heap coarse fine) other = absurd (other tt)
plain_owes w (calls.Shred ticket) other = absurd (other tt)
plain_owes w call other = owes_none (λ b space. refl) (λ b space. refl) (λ b space. refl)

-- what each row charges or releases
pub row_moves_charge : (w : World) (call : Call) (o : Outcome) → IsValid w → FitTogether w → IsFresh w o
    → ByRow w o call
    → Moves w call o
row_moves_charge w call o valid fit fresh row =
    row_change w call o row
    (λ other plain. plain_moves valid (fits_from w fit) fresh (λ answered. plain_owes w call other) plain)
    (λ is. zco_moves valid (fits_from w fit) fresh (zco_row w call is o row))
