-- Calls that are charged, and put an object.
use Rattle.std.proofs.Common.{◌≡◌, ◌+◌, ◌++◌, ◌∷◌, [], ℕ, List, Option, Some, None, Ok, Err, ap, ◌∙◌, refl, sym, subst, arith}
use Rattle.std.specs.Prelude.{IfErr, IfOk, IfSome, OnErr, Result}
use Rattle.sdr_base.specs.declared.account.Acct.{Acct}
use Rattle.sdr_base.specs.declared.account.Amounts.{Amounts}
use Rattle.sdr_base.specs.declared.kind.Space.{Space}
use Rattle.sdr_base.specs.declared.moves.Move.{Move}
use Rattle.sdr_base.specs.declared.moves.Move.TheVariants.{Took}
use Rattle.sdr_base.specs.declared.refusal.Refusal.{Refusal}
use Rattle.mem_world.proofs.ComponentLemmas.{allowed_at, grown_at, refused_at}
use Rattle.mem_world.proofs.ChargeLemmas.{charge_allowed, charge_refused}
use Rattle.mem_world.specs.Allowed.{MayCharge, RefusesCharge}
use Rattle.sdr_model.specs.Amounts.{amounts_by}
use Rattle.sdr_model.specs.Charging.{Charges, with_covered}
use Rattle.sdr_model.specs.Dry.{AreInOrder, StepsDry, blocks_taken, next_addr, with_blocks}
use Rattle.sdr_model.specs.ObjectSteps.{with_object}
use Rattle.sdr_model.specs.Rows.{ByRow}
use Rattle.sdr_model.specs.Steps.{Outcome, Takes}
use Rattle.sdr_model.specs.World.{World, thing_at}
use Rattle.sdr_model.specs.Zco.{object_at}
use Rattle.sdr_model.specs.declared.accounts.Pending.{Pending}
use Rattle.sdr_model.specs.declared.answer.Reply.{Reply}
use Rattle.sdr_model.specs.declared.answer.Reply.TheVariants as replies
use Rattle.sdr_model.specs.declared.call.Call.{Call}
use Rattle.sdr_model.specs.declared.zco.ZcoObject.{ZcoObject}
use Rattle.mem_parts.specs.Components.{Grows, with_component}
use Rattle.mem_parts.specs.declared.component.Component.{Component}

-- a charge and blocks leave the things
pub thing_at-blocks : (w : World) (p : Option Pending) (amounts : Amounts) (count k : ℕ)
    → thing_at (with_blocks (with_covered w p amounts) count) k ≡ thing_at w k
thing_at-blocks w None amounts count k = refl
thing_at-blocks w (Some p) amounts count k = refl

-- the one block that is taken after a charge
put_one : (w : World) (p : Option Pending) (amounts : Amounts) (k : ℕ) (z : ZcoObject)
    → record (with_object (with_blocks (with_covered w p amounts) 1) k z) { taken = w.taken }
    ≡ record (with_object (with_covered w p amounts) k z) { marks = w.marks ++ next_addr w.taken ∷ []; shown = [] }
put_one w None amounts k z = refl
put_one w (Some p) amounts k z = refl

-- it is counted
taken_one : (w w' : World) (p : Option Pending) (amounts : Amounts) (k : ℕ) (z : ZcoObject)
    → w' ≡ with_object (with_blocks (with_covered w p amounts) 1) k z → w'.taken ≡ w.taken + 1
taken_one w w' None amounts k z is = ap (λ (v : World). v.taken) is
taken_one w w' (Some p) amounts k z is = ap (λ (v : World). v.taken) is

-- a call whose row charges an account, and then goes on
module _ (w w' : World) (call : Call) (acct : Acct) (number : ℕ) (charge : Space → ℕ) (amounts : Amounts)
    (goes : Outcome → World → Type 0) (row : (o : Outcome) → Charges w o acct number charge (goes o) → ByRow w o call)
    (is : amounts ≡ amounts_by charge) where
  -- the account refuses it
  pub charged-refused : (refusal : Refusal) → RefusesCharge w acct number amounts refusal → w' ≡ w
      → StepsDry w call [] w' (replies.Refused refusal)
  charged-refused refusal refuses same =
      let o : Outcome = record { moves = []; after = w; reply = replies.Refused refusal } in
      subst (λ v. StepsDry w call [] v (replies.Refused refusal)) (sym same)
      (record {
        step = row o (charge_refused w o acct number charge amounts refusal (goes o) is refuses (refl, refl, refl));
        in_order = tt;
        counted = omega arith;
      })

  -- it is charged, and goes on
  pub charged-step : (p : Option Pending) (moves : List Move) (reply : Reply) → MayCharge w acct number amounts p
      → AreInOrder w.taken moves → w'.taken ≡ w.taken + blocks_taken moves
      → goes (record { moves = moves; after = record w' { taken = w.taken }; reply = reply }) (with_covered w p amounts)
      → StepsDry w call moves w' reply
  charged-step p moves reply may in_order counted on =
      let o : Outcome = record { moves = moves; after = record w' { taken = w.taken }; reply = reply } in
      record { step = row o (charge_allowed w o acct number charge amounts p (goes o) is may on); in_order = in_order; counted = counted }

-- it takes one block, and puts an object
pub one-step : (w w' : World) (call : Call) (acct : Acct) (number need : ℕ) (charge : Space → ℕ) (amounts : Amounts)
    (at : ℕ → ℕ) (object : ℕ → ZcoObject) (reply : ℕ → Reply)
    → ((o : Outcome) → Charges w o acct number charge (λ used. Takes w o need (λ addr. with_object used (at addr) (object addr)) reply)
    → ByRow w o call)
    → amounts ≡ amounts_by charge → (p : Option Pending) → MayCharge w acct number amounts p → let addr = next_addr w.taken in
    w' ≡ with_object (with_blocks (with_covered w p amounts) 1) (at addr) (object addr)
    → StepsDry w call (Took need addr ∷ []) w' (reply addr)
one-step w w' call acct number need charge amounts at object reply row is p may put =
    let addr = next_addr w.taken in
    charged-step w w' call acct number charge amounts
    (λ o used. Takes w o need (λ addr. with_object used (at addr) (object addr)) reply) row is p (Took need addr ∷ []) (reply addr) may
    (refl, tt) (taken_one w w' p amounts (at addr) (object addr) put)
    (refl, (ap (λ (v : World). record v { taken = w.taken }) put ∙ put_one w p amounts (at addr) (object addr), refl))

-- what a call charges that puts one more component in an object, which has a block of its own
abbrev pub ChargesComponent : World → ℕ → ℕ → ℕ → (Space → ℕ) → ZcoObject → (ℕ → Component) → Outcome → Type 0
ChargesComponent w k number need charge z made o =
    Charges w o z.account number charge (λ used.
    Takes w o need (λ block. with_object used k (with_component z (made block))) (λ block. replies.Done))

-- such a call
module _ (w w' : World) (call : Call) (k number need : ℕ) (charge : Space → ℕ) (amounts : Amounts) (z : ZcoObject)
    (made : ℕ → Component) (component : Component)
    (row : (o : Outcome) → ChargesComponent w k number need charge z made o → ByRow w o call) (sum : amounts ≡ amounts_by charge)
    (there : object_at w k ≡ Some z) (is : component ≡ made (next_addr w.taken)) where
  -- the account refuses it
  pub component-refused : (r : Result (Option Pending) Refusal) (refusal : Refusal) → r ≡ Err refusal
      → IfErr r (λ refusal. IfSome (object_at w k) (λ z. RefusesCharge w z.account number amounts refusal))
      → OnErr r (w' ≡ w) → StepsDry w call [] w' (replies.Refused refusal)
  component-refused r refusal err refuses same =
      charged-refused w w' call z.account number charge amounts
      (λ o used. Takes w o need (λ block. with_object used k (with_component z (made block))) (λ block. replies.Done)) row sum refusal
      (refused_at w w k number 1 z component (made (next_addr w.taken)) amounts refl there is r refusal err refuses)
      (subst (λ r. OnErr r (w' ≡ w)) err same)

  -- it is charged
  pub component-step : (r : Result (Option Pending) Refusal) (p : Option Pending) → r ≡ Ok p
      → IfOk r (λ p. IfSome (object_at w k) (λ z. MayCharge w z.account number amounts p))
      → IfOk r (λ p. Grows (object_at w k) k component (with_blocks (with_covered w p amounts) 1) w')
      → StepsDry w call (Took need (next_addr w.taken) ∷ []) w' replies.Done
  component-step r p ok may added =
      one-step w w' call z.account number need charge amounts
      (λ block. k) (λ block. with_component z (made block)) (λ block. replies.Done) row sum p
      (allowed_at w w k number 1 z component (made (next_addr w.taken)) amounts refl there is r p ok may)
      (grown_at w w k number 1 z component (made (next_addr w.taken)) amounts refl there is w' r p ok added)
