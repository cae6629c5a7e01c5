-- Calls that are charged and take several blocks.
use Rattle.std.proofs.Common.{◌≡◌, ◌<◌, ◌+◌, ◌++◌, [], ℕ, List, Option, None, Some, Ok, Err, ap, sym, ◌∙◌, refl, subst, arith}
use Rattle.std.specs.FinMap.{get}
use Rattle.std.specs.Prelude.{Result, IfErr, IfOk, OnErr, OnOk}
use Rattle.sdr_base.specs.declared.account.Acct.{Acct}
use Rattle.sdr_base.specs.declared.account.Amounts.{Amounts}
use Rattle.sdr_base.specs.declared.kind.Space.{Space}
use Rattle.sdr_base.specs.declared.moves.Move.{Move}
use Rattle.sdr_base.specs.declared.refusal.Refusal.{Refusal}
use Rattle.mem_world.specs.Allowed.{MayCharge, RefusesCharge}
use Rattle.sdr_model.specs.Amounts.{amounts_by}
use Rattle.sdr_model.specs.Charging.{Charges, with_covered}
use Rattle.sdr_model.specs.Dry.{AreInOrder, StepsDry, addr_after, blocks_taken, next_addrs, with_blocks}
use Rattle.sdr_model.specs.Rows.{ByRow}
use Rattle.sdr_model.specs.Steps.{DoesWith, Outcome, taken_addresses}
use Rattle.sdr_model.specs.Things.{Owners}
use Rattle.sdr_model.specs.World.{World}
use Rattle.sdr_model.specs.declared.accounts.Pending.{Pending}
use Rattle.sdr_model.specs.declared.answer.Reply.{Reply}
use Rattle.sdr_model.specs.declared.call.Call.{Call}
use Rattle.mem_store.proofs.TakenLemmas.{Agree, does-with, run, run-next}
use Rattle.mem_zco_calls.proofs.ObjectCallLemmas.{charged-step}

-- the blocks that are taken after a charge are marked behind the marks before it
pub blocks-used : (w : World) (p : Option Pending) (amounts : Amounts) (n : ℕ) →
    with_blocks (with_covered w p amounts) n
    ≡ record (with_covered w p amounts) { marks = w.marks ++ next_addrs w.taken n; shown = []; taken = w.taken + n }
blocks-used w None amounts n = refl
blocks-used w (Some p) amounts n = refl

-- a charge takes none
pub taken-used : (w : World) (p : Option Pending) (amounts : Amounts) → (with_covered w p amounts).taken ≡ w.taken
taken-used w None amounts = refl
taken-used w (Some p) amounts = refl

-- what a charge for blocks came to in a world that is still the same, and what it left
module _ (w wn wb : World) (acct : Acct) (number n : ℕ) (amounts : Amounts) (r : Result (Option Pending) Refusal)
    (same : wn ≡ w) where
  abbrev pub IsAllowed : Type 0
  IsAllowed = IfOk r (MayCharge wn acct number amounts)

  abbrev pub IsTaken : Type 0
  IsTaken = IfOk r (λ p. wb ≡ with_blocks (with_covered wn p amounts) n)

  abbrev pub IsRefused : Type 0
  IsRefused = IfErr r (RefusesCharge wn acct number amounts)

  pub allowed-at : {p : Option Pending} → r ≡ Ok p → IsAllowed → MayCharge w acct number amounts p
  allowed-at {p} is allowed =
      subst (λ v. MayCharge v acct number amounts p) same (subst (λ r. IfOk r (MayCharge wn acct number amounts)) is allowed)

  pub taken-at : {p : Option Pending} → r ≡ Ok p → IsTaken → wb ≡ with_blocks (with_covered w p amounts) n
  taken-at {p} is taken =
      subst (λ r. IfOk r (λ p. wb ≡ with_blocks (with_covered wn p amounts) n)) is taken
      ∙ ap (λ v. with_blocks (with_covered v p amounts) n) same

  pub counted-at : {p : Option Pending} → r ≡ Ok p → IsTaken → wb.taken ≡ w.taken + n
  counted-at {p} is taken = ap (λ (v : World). v.taken) (taken-at is taken ∙ blocks-used w p amounts n)

  pub owned-at : (owners : Owners) (owner : ℕ) {p : Option Pending} → r ≡ Ok p
      → OnOk r ((k : ℕ) → k < n → get owners (addr_after wn.taken k) ≡ Some owner)
      → (k : ℕ) → k < n → get owners (addr_after w.taken k) ≡ Some owner
  owned-at owners owner is owned =
      subst (λ (v : World). (k : ℕ) → k < n → get owners (addr_after v.taken k) ≡ Some owner) same
      (subst (λ r. OnOk r ((k : ℕ) → k < n → get owners (addr_after wn.taken k) ≡ Some owner)) is owned)

  pub refused-at : {refusal : Refusal} → r ≡ Err refusal → IsRefused → RefusesCharge w acct number amounts refusal
  refused-at {refusal} is refused =
      subst (λ v. RefusesCharge v acct number amounts refusal) same
      (subst (λ r. IfErr r (RefusesCharge wn acct number amounts)) is refused)

  pub same-at : {refusal : Refusal} → r ≡ Err refusal → OnErr r (wb ≡ wn) → wb ≡ w
  same-at is left = subst (λ r. OnErr r (wb ≡ wn)) is left ∙ same

module _ (w w' : World) (call : Call) (acct : Acct) (number n : ℕ) (charge : Space → ℕ) (amounts : Amounts)
    (moves : (ℕ → ℕ) → List Move) (next : World → (ℕ → ℕ) → World) (reply : (ℕ → ℕ) → Reply)
    (row : (o : Outcome) → Charges w o acct number charge (λ used. DoesWith w o moves (next used) reply) → ByRow w o call)
    (is : amounts ≡ amounts_by charge) where
  abbrev at : ℕ → ℕ
  at = addr_after w.taken

  -- the call is charged, where its moves, what it leaves and its reply depend on the addresses of the blocks alone
  pub blocks-step : (p : Option Pending) → MayCharge w acct number amounts p → let used = with_covered w p amounts in
      taken_addresses (moves at) ≡ run at 0 n → AreInOrder w.taken (moves at) → blocks_taken (moves at) ≡ n
      → ((to : ℕ → ℕ) → Agree 0 n at to → moves at ≡ moves to)
      → ((to : ℕ → ℕ) → Agree 0 n at to → next used at ≡ next used to)
      → ((to : ℕ → ℕ) → Agree 0 n at to → reply at ≡ reply to)
      → (next used at).taken ≡ w.taken
      → w' ≡ record (next used at) { marks = w.marks ++ next_addrs w.taken n; shown = []; taken = w.taken + n }
      → StepsDry w call (moves at) w' (reply at)
  blocks-step p may taken in_order count moves_agree next_agree reply_agree kept put =
      let used : World = with_covered w p amounts in
      let after : World = record w' { taken = w.taken } in
      let left : after ≡ record (next used at) { marks = w.marks ++ run at 0 n; shown = [] } =
      ap (λ (v : World). record v { taken = w.taken }) put
      ∙ ap (λ (t : ℕ). let v : World = record (next used at) { marks = w.marks ++ next_addrs w.taken n; shown = []; taken = t } in v)
      (sym kept)
      ∙ ap (λ (l : List ℕ). record (next used at) { marks = w.marks ++ l; shown = [] })
      (sym (run-next w.taken 0 w.taken n (omega arith))) in
      charged-step w w' call acct number charge amounts (λ o used. DoesWith w o moves (next used) reply) row is p (moves at)
      (reply at) may in_order (ap (λ (v : World). v.taken) put ∙ ap (λ m. w.taken + m) (sym count))
      (does-with w after n at moves (next used) reply taken moves_agree next_agree reply_agree left)
