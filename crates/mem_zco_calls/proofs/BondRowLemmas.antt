-- The row of the call that bonds an object.
use Rattle.std.proofs.Common.{◌≡◌, ◌≤◌, ◌<◌, ◌+◌, ◌*◌, ◌++◌, ◌∷◌, [], ℕ, List, Option, Some, Ok, Err, ap, ap₂, sym, ◌∙◌, refl, subst, arith, length, length-append}
use Rattle.std.specs.FinMap.{get}
use Rattle.std.specs.Prelude.{Result, OnErr, OnOk}
use Rattle.sdr_base.specs.declared.account.Amounts.{Amounts}
use Rattle.sdr_base.specs.declared.refusal.Refusal.{Refusal}
use Rattle.sdr_model.specs.declared.accounts.Pending.{Pending}
use Rattle.sdr_model.specs.Amounts.{amounts_by}
use Rattle.sdr_model.specs.BondSteps.{bond_charge, bond_moves, bonded, capsules_of, with_bonded}
use Rattle.sdr_model.specs.Charging.{Charges, with_covered}
use Rattle.sdr_model.specs.Dry.{StepsDry, addr_after, dry_moves, next_addr, next_addrs, with_blocks}
use Rattle.sdr_model.specs.ObjectSteps.{with_object}
use Rattle.sdr_model.specs.RowMoves.{bond_moves_of}
use Rattle.sdr_model.specs.Rows.{ByRow}
use Rattle.sdr_model.specs.SourceSteps.{new_source}
use Rattle.sdr_model.specs.Steps.{DoesWith, On, Outcome, with_thing}
use Rattle.sdr_model.specs.Things.{Owners}
use Rattle.sdr_model.specs.World.{World}
use Rattle.sdr_model.specs.Zco.{object_at, whole_of}
use Rattle.sdr_model.specs.declared.answer.Reply.TheVariants as replies
use Rattle.sdr_model.specs.declared.call.Call.{Call}
use Rattle.sdr_model.specs.declared.call.Call.TheVariants as calls
use Rattle.sdr_model.specs.declared.things.Thing.TheVariants as things
use Rattle.sdr_model.specs.declared.zco.Capsule.{Capsule}
use Rattle.sdr_model.specs.declared.zco.Extent.{Extent}
use Rattle.sdr_model.specs.declared.zco.Subject.TheVariants as subjects
use Rattle.sdr_model.specs.declared.zco.ZcoObject.{ZcoObject}
use Rattle.mem_store.proofs.TakenLemmas.{Agree, addr_after-next, bond-agree, bond-blocks, bond-in_order, bond-taken, bonded-agree, run}
use Rattle.mem_store.specs.Owners.{OwnsInside}
use Rattle.mem_zco_calls.proofs.BondCallLemmas.{owned-bonded}
use Rattle.mem_zco_calls.proofs.BlockCallLemmas.{IsAllowed, IsRefused, IsTaken, allowed-at, blocks-step, blocks-used, counted-at, owned-at, refused-at, same-at, taken-at, taken-used}
use Rattle.mem_zco_calls.proofs.ObjectCallLemmas.{charged-refused}

-- the world with the raw object of the first of these texts and its source
abbrev with_first : World → (ℕ → ℕ) → ℕ → Capsule → World
with_first w at k c =
    with_thing (with_thing w (at k) (things.Raw c.text)) (at (k + 1)) (things.Source (new_source (subjects.Heap (at k)) (length c.text)))

-- other fields of a world than its things stay
bonded-fields : (at : ℕ → ℕ) (cs : List Capsule) (marks shown : List ℕ) (taken : ℕ) (w : World) (k : ℕ)
    → with_bonded (record w { marks = marks; shown = shown; taken = taken }) at k cs
    ≡ record (with_bonded w at k cs) { marks = marks; shown = shown; taken = taken }
bonded-fields at [] marks shown taken w k = refl
bonded-fields at (c ∷ cs) marks shown taken w k = bonded-fields at cs marks shown taken (with_first w at k c) (k + 3)

pub bonded-taken : (at : ℕ → ℕ) (cs : List Capsule) (w : World) (k : ℕ) → (with_bonded w at k cs).taken ≡ w.taken
bonded-taken at [] w k = refl
bonded-taken at (c ∷ cs) w k = bonded-taken at cs (with_first w at k c) (k + 3)

-- the raw objects and sources that are put depend on the addresses alone
with_bonded-agree : (at to : ℕ → ℕ) (k end : ℕ) (cs : List Capsule) (w : World) → k + 3 * length cs ≤ end → Agree k end at to
    → with_bonded w at k cs ≡ with_bonded w to k cs
with_bonded-agree at to k end [] w most agree = refl
with_bonded-agree at to k end (c ∷ cs) w most agree =
    with_bonded-agree at to (k + 3) end cs (with_first w at k c) (omega (arith, most)) (λ i from. agree i (omega (arith, from)))
    ∙ ap₂ (λ raw source. with_bonded (with_thing (with_thing w raw (things.Raw c.text)) source
    (things.Source (new_source (subjects.Heap raw) (length c.text)))) to (k + 3) cs)
    (agree k (omega arith) (omega (arith, most))) (agree (k + 1) (omega arith) (omega (arith, most)))

-- so does the bonded object
bonded_object-agree : (at to : ℕ → ℕ) (z : ZcoObject) → Agree 0 (3 * length (capsules_of z)) at to → bonded at z ≡ bonded to z
bonded_object-agree at to z agree =
    let end : ℕ = 3 * length (capsules_of z) in
    let size = length-append z.headers z.trailers in
    ap₂ (λ (front back : List Extent).
    let all = front ++ z.extents ++ back in
    let made : ZcoObject = record z { headers = []; extents = all; trailers = []; part = whole_of all } in made)
    (bonded-agree at to 0 end z.headers (omega (arith, size)) (λ i from. agree i (omega arith)))
    (bonded-agree at to (3 * length z.headers) end z.trailers (omega (arith, size)) (λ i from. agree i (omega arith)))

-- The call that bonds an object that is there. The first block that it takes is the next.
module _ (w wn wb : World) (r : Result (Option Pending) Refusal) (same : wn ≡ w) (k number first n : ℕ)
    (z after : ZcoObject) (capsules : List Capsule) (amounts : Amounts)
    (there : Some z ≡ object_at w k)
    (here : first ≡ next_addr w.taken)
    (copies : capsules ≡ capsules_of z)
    (made_so : after ≡ bonded (λ i. first + 8 * i) z)
    (size : n ≡ 3 * length capsules)
    (charged : amounts ≡ amounts_by (bond_charge capsules)) where
  abbrev call : Call
  call = calls.Bond k number

  abbrev cs : List Capsule
  cs = capsules_of z

  abbrev at : ℕ → ℕ
  at = addr_after w.taken

  abbrev with_texts : World → (ℕ → ℕ) → World
  with_texts used at = with_object (with_bonded used at 0 cs) k (bonded at z)

  count : n ≡ 3 * length cs
  count = size ∙ ap (λ l. 3 * length l) copies

  behind : Agree 0 n (λ i. first + 8 * i) at
  behind i from inside =
      (let same : first + 8 * i ≡ next_addr (w.taken + i) = omega (arith, here) in same) ∙ sym (addr_after-next w.taken i)

  is : amounts ≡ amounts_by (bond_charge cs)
  is = charged ∙ ap (λ l. amounts_by (bond_charge l)) copies

  abbrev ChargesBond : Outcome → ZcoObject → Type 0
  ChargesBond o z =
      Charges w o z.account number (bond_charge (capsules_of z)) (λ used.
      DoesWith w o (λ at. bond_moves at 0 (capsules_of z))
      (λ at. with_object (with_bonded used at 0 (capsules_of z)) k (bonded at z))
      (λ at. replies.Done))

  row : (o : Outcome) → ChargesBond o z → ByRow w o call
  row o charges = subst (λ t. On w o k t (ChargesBond o)) there charges

  object : after ≡ bonded at z
  object =
      made_so ∙ bonded_object-agree (λ i. first + 8 * i) at z (λ i from below. behind i from (omega (arith, below, count)))

  -- it owns its blocks, where all that was noted before still is
  pub bond-owned : (owners now : Owners) (next : ℕ) (p : Option Pending) → r ≡ Ok p → IsTaken w wn wb z.account number n amounts r same → next ≡ next_addr wb.taken
      → ((other of : ℕ) → other < next_addr wn.taken → get owners other ≡ Some of → get now other ≡ Some of)
      → OwnsInside owners (next_addr w.taken) k (things.Object z)
      → OnOk r ((i : ℕ) → i < n → get now (addr_after wn.taken i) ≡ Some k)
      → OwnsInside now next k (things.Object after)
  bond-owned owners now next p ok taken here stay owns given =
      let more : wb.taken ≡ w.taken + n = counted-at w wn wb z.account number n amounts r same ok taken in
      let lower = ap (λ (v : World). v.taken) same in
      subst (λ y. OwnsInside now next k (things.Object y)) (sym object)
      (owned-bonded owners now (next_addr w.taken) next k at z (omega (arith, here, more))
      (λ other of below. stay other of (omega (arith, below, lower))) owns
      (λ i below. record {
        noted = owned-at w wn wb z.account number n amounts r same now k ok given i (omega (arith, below, count));
        below = omega (arith, addr_after-next w.taken i, below, count, here, more);
      }))

  pub bond-refused : (refusal : Refusal) → r ≡ Err refusal → IsRefused w wn wb z.account number n amounts r same → OnErr r (wb ≡ wn)
      → StepsDry w call [] wb (replies.Refused refusal)
  bond-refused refusal err refused left =
      charged-refused w wb call z.account number (bond_charge cs) amounts
      (λ o used. DoesWith w o (λ at. bond_moves at 0 cs) (with_texts used) (λ at. replies.Done)) row is refusal (refused-at w wn wb z.account number n amounts r same err refused) (same-at w wn wb z.account number n amounts r same err left)

  texts-agree : (used : World) (from to : ℕ → ℕ) → Agree 0 n from to → with_bonded used from 0 cs ≡ with_bonded used to 0 cs
  texts-agree used from to = with_bonded-agree from to 0 n cs used (omega (arith, count))

  next-agree : (used : World) (from to : ℕ → ℕ) → Agree 0 n from to → with_texts used from ≡ with_texts used to
  next-agree used from to agree =
      ap₂ (λ v y. with_object v k y) (texts-agree used from to agree)
      (bonded_object-agree from to z (λ i least below. agree i least (omega (arith, below, count))))

  pub bond-step : (w' : World) (p : Option Pending) → r ≡ Ok p → IsAllowed w wn wb z.account number n amounts r same → IsTaken w wn wb z.account number n amounts r same
      → w' ≡ with_object (with_bonded wb (λ i. first + 8 * i) 0 capsules) k after
      → StepsDry w call (dry_moves w call replies.Done) w' replies.Done
  bond-step w' p ok allowed taken put =
      let used : World = with_covered w p amounts in
      let texts : List Capsule → World = with_bonded (with_blocks used n) (λ i. first + 8 * i) 0 in
      subst (λ o. StepsDry w call (bond_moves_of o at) w' replies.Done) there
      (blocks-step w w' call z.account number n (bond_charge cs) amounts (λ at. bond_moves at 0 cs) with_texts
      (λ at. replies.Done) row is p (allowed-at w wn wb z.account number n amounts r same ok allowed)
      (bond-taken at 0 cs ∙ ap (run at 0) (sym count)) (bond-in_order w.taken 0 w.taken cs (omega arith))
      (bond-blocks at 0 cs ∙ sym count) (λ to. bond-agree at to 0 n cs (omega (arith, count))) (next-agree used at)
      (λ to agree. refl) (bonded-taken at cs used 0 ∙ taken-used w p amounts)
      (put ∙ ap (λ v. with_object (with_bonded v (λ i. first + 8 * i) 0 capsules) k after) (taken-at w wn wb z.account number n amounts r same ok taken)
      ∙ ap₂ (λ v y. with_object v k y) (ap texts copies ∙ texts-agree (with_blocks used n) (λ i. first + 8 * i) at behind) object
      ∙ ap (λ v. with_texts v at) (blocks-used w p amounts n)
      ∙ ap (λ v. with_object v k (bonded at z)) (bonded-fields at cs (w.marks ++ next_addrs w.taken n) [] (w.taken + n) used 0)))
