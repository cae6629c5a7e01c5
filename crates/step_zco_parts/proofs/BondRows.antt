-- The row of a bond, by what the headers and trailers of its object became.
use Rattle.std.proofs.Common.{◌≡◌, ◌∙◌, ◌++◌, ℕ, List, [], refl, sym, ap, arith, Some}
use Rattle.std.specs.FinMap as finite
use Rattle.sdr_stands.specs.Rows.{object_row}
use Rattle.sdr_stands.specs.Standing.{with_taken_marked}
use Rattle.sdr_base.specs.ZcoObjects.{ObjectRow}
use Rattle.sdr_base.specs.declared.account.Acct.{Acct}
use Rattle.sdr_base.specs.declared.kind.Space.{Space}
use Rattle.law_steps.proofs.BondLaws.{with_all}
use Rattle.sdr_machine.proofs.WorkLemmas.{on_some}
use Rattle.sdr_model.specs.Accounts.{tickets_of}
use Rattle.sdr_model.specs.Amounts.{amounts_by}
use Rattle.sdr_model.specs.BondSteps as bonds
use Rattle.sdr_model.specs.BondSteps.{bond_charge, bond_moves, bonded, with_bonded}
use Rattle.sdr_model.specs.Charging.{Charges}
use Rattle.sdr_model.specs.ObjectSteps.{with_object}
use Rattle.sdr_model.specs.Rows.{ByRow}
use Rattle.sdr_model.specs.Steps.{DoesWith, Outcome, taken_addresses, taken_at}
use Rattle.sdr_model.specs.Things.{Things}
use Rattle.sdr_model.specs.World.{World, thing_at}
use Rattle.sdr_model.specs.Zco.{as_object, object_at}
use Rattle.sdr_model.specs.declared.accounts.Ticket.{Ticket}
use Rattle.sdr_model.specs.declared.answer.Reply.TheVariants as replies
use Rattle.sdr_model.specs.declared.call.Call.{Call}
use Rattle.sdr_model.specs.declared.call.Call.TheVariants as calls
use Rattle.sdr_model.specs.declared.things.Thing.TheVariants as things
use Rattle.sdr_model.specs.declared.zco.Capsule.{Capsule}
use Rattle.sdr_model.specs.declared.zco.ZcoObject.{ZcoObject}
use Rattle.zco_acct.specs.Charges.{charged}
use Rattle.step_zco.proofs.ChargeLemmas.{IsPaid}
use Rattle.step_zco.proofs.MovingLemmas.{moved}
use Rattle.step_zco.proofs.PayingLemmas.{paid_world}
use Rattle.zco_bond.specs.Bonded.{BondedCapsule, bonding_moves, capsules_of}
use Rattle.zco_bond.specs.Charging.{ends_of}
use Rattle.step_zco_parts.proofs.ChargeLemmas.{ends_are}
use Rattle.step_zco_parts.proofs.RowLemmas.{bonded_by, moves_by, told_by}
use Rattle.step_zco_parts.proofs.WorldLemmas.{bonded_world}

-- an object of a world
module _ (w : World) (addr number : ℕ) (z : ZcoObject) (there : thing_at w addr ≡ Some (things.Object z)) where
  abbrev call : Call
  call = calls.Bond addr number

  abbrev cs : List Capsule
  cs = bonds.capsules_of z

  abbrev acct : Acct
  acct = z.account

  abbrev row : ObjectRow
  row = object_row z

  abbrev tickets : List Ticket
  tickets = tickets_of w.accounts acct

  abbrev charge : Space → ℕ
  charge = bond_charge cs

  -- what its headers and trailers became tells the addresses that are taken
  abbrev pub taken : List BondedCapsule → ℕ → ℕ
  taken bs = taken_at (bonding_moves bs)

  abbrev pub after_things : List BondedCapsule → Things
  after_things bs = finite.insert (with_all w.things (taken bs) 0 cs) addr (things.Object (bonded (taken bs) z))

  abbrev pub after : List BondedCapsule → World
  after bs = paid_world w (after_things bs) acct number charge

  abbrev pub outcome : List BondedCapsule → Outcome
  outcome bs = record {
    moves = bonding_moves bs;
    after = with_taken_marked (after bs) (bonding_moves bs);
    reply = replies.Done;
  }

  pub told : (bs : List BondedCapsule) → capsules_of bs ≡ ends_of row → bs ≡ bonded_by (taken bs) 0 cs
  told bs whole = told_by bs cs (whole ∙ ends_are z) (taken bs) 0 (λ i. ap (taken bs) (omega arith))

  pub moves_are : (bs : List BondedCapsule) → capsules_of bs ≡ ends_of row → bonding_moves bs ≡ bond_moves (taken bs) 0 cs
  moves_are bs whole = ap bonding_moves (told bs whole) ∙ moves_by (taken bs) 0 cs

  -- what the row goes on with
  abbrev pub does : Outcome → World → Type 0
  does to used =
      DoesWith w to (λ at. bond_moves at 0 cs) (λ at. with_object (with_bonded used at 0 cs) addr (bonded at z)) (λ at. replies.Done)

  pub on_object : (to : Outcome) → Charges w to acct number charge (does to) → ByRow w to call
  on_object to goes =
      on_some _
      (λ (x : ZcoObject). Charges w to x.account number (bond_charge (bonds.capsules_of x)) (λ used.
      DoesWith w to (λ at. bond_moves at 0 (bonds.capsules_of x))
      (λ at. with_object (with_bonded used at 0 (bonds.capsules_of x)) addr (bonded at x)) (λ at. replies.Done)))
      (object_at w addr) z (ap as_object there) goes

  pub bond_row : (bs : List BondedCapsule) → capsules_of bs ≡ ends_of row → IsPaid w acct number charge → ByRow w (outcome bs) call
  bond_row bs whole p =
      let marks = w.marks ++ taken_addresses (bonding_moves bs) in
      on_object (outcome bs)
      (p.goes (outcome bs) (does (outcome bs)) (
        moves_are bs whole,
        sym (ap (λ (used : World). record (with_object (with_bonded used (taken bs) 0 cs) addr (bonded (taken bs) z)) {
          marks = marks;
          shown = [];
        }) p.used
            ∙ ap (λ (u : World). record u { marks = marks; shown = [] })
            (bonded_world (moved w w.things acct (charged tickets number (amounts_by charge))) addr z (taken bs))),
        refl,
      ))
