-- A part of an object, as another object.
use Rattle.std.proofs.Common.{◌≡◌, ◌≤◌, ◌<◌, ◌+◌, ◌*◌, ◌==◌, ◌||◌, ◌∷◌, [], ℕ, suc, List, Option, Some, Ok, Err, false, ap, sym, ◌∙◌, ap₂, subst, arith, length, map}
use Rattle.std.proofs.lemmas.List.Elements.{All-cons, All-nil}
use Rattle.std.specs.FinMap.{get}
use Rattle.std.specs.List.{All}
use Rattle.std.specs.Prelude.{Result, OnErr, OnOk, nat_lt}
use Rattle.sdr_base.specs.declared.account.Acct.{Acct}
use Rattle.sdr_base.specs.declared.account.Amounts.{Amounts}
use Rattle.sdr_base.specs.declared.kind.Space.{Space}
use Rattle.sdr_base.specs.declared.kind.Space.TheVariants as spaces
use Rattle.sdr_base.specs.declared.refusal.Refusal.{Refusal}
use Rattle.sdr_model.specs.Accounts.{most_amount}
use Rattle.sdr_model.specs.declared.accounts.Pending.{Pending}
use Rattle.sdr_model.specs.Amounts.{amounts_by, in_space}
use Rattle.sdr_model.specs.Charges.{extent_bytes, object_bytes, object_charge}
use Rattle.sdr_model.specs.Charging.{Charges, with_covered}
use Rattle.sdr_model.specs.Cuts.{cut_all, placed}
use Rattle.sdr_model.specs.Dry.{StepsDry, addr_after, dry_moves, next_addr, with_blocks}
use Rattle.sdr_model.specs.ObjectSteps.{InRange, with_object}
use Rattle.mem_store.specs.Owners.{IsOwned, Owns, OwnsInside}
use Rattle.sdr_model.specs.PartSteps.{asked_extents, clone_moves, object_of}
use Rattle.sdr_model.specs.RowMoves.{clone_moves_of}
use Rattle.sdr_model.specs.Rows.{ByRow}
use Rattle.sdr_model.specs.Steps.{DoesWith, On, Outcome}
use Rattle.sdr_model.specs.Things.{Owners, block_for_extent}
use Rattle.sdr_model.specs.World.{World, thing_at}
use Rattle.sdr_model.specs.Zco.{object_at}
use Rattle.sdr_model.specs.declared.answer.Reply.TheVariants as replies
use Rattle.sdr_model.specs.declared.call.Call.{Call}
use Rattle.sdr_model.specs.declared.call.Call.TheVariants as calls
use Rattle.sdr_model.specs.declared.things.Thing.TheVariants as things
use Rattle.sdr_model.specs.declared.zco.Extent.{Extent}
use Rattle.sdr_model.specs.declared.zco.ZcoObject.{ZcoObject}
use Rattle.mem_world.proofs.SumBounds.{object_charge-small}
use Rattle.mem_world.specs.Calling.{IsBound}
use Rattle.sdr_model.proofs.Cases.{on_false}
use Rattle.sdr_model.proofs.FewLemmas.{length-cut_all, length-placed, object_is}
use Rattle.mem_parts.proofs.CappedLemmas.{capped-small}
use Rattle.mem_parts.specs.Capped.{capped_by}
use Rattle.mem_store.proofs.TakenLemmas.{Agree, addr_after-next, clone-agree, clone-blocks, clone-in_order, clone-taken, placed-agree, run}
use Rattle.mem_zco_calls.proofs.BlockCallLemmas.{IsAllowed, IsRefused, IsTaken, allowed-at, blocks-step, blocks-used, counted-at, owned-at, refused-at, same-at, taken-at, taken-used}
use Rattle.mem_zco_calls.proofs.ObjectCallLemmas.{charged-refused}
use Rattle.mem_zco_calls.proofs.InsideLemmas.{all_blocks}

-- extents behind an address lie at the next ones
placed-next : (taken next : ℕ) (es : List Extent) → next ≡ next_addr taken
    → placed (λ i. next + 8 * i) 1 es ≡ placed (addr_after taken) 1 es
placed-next taken next es is =
    placed-agree (λ i. next + 8 * i) (addr_after taken) 1 (1 + length es) es (omega arith)
    (λ i from inside.
    (let same : next + 8 * i ≡ next_addr (taken + i) = omega (arith, is) in same) ∙ sym (addr_after-next taken i))

-- a clone charges what its extents do, wherever their blocks are, which is no more than what it is a part of charges
clone-charge : (acct : Acct) (at : ℕ → ℕ) (from to : ℕ) (z : ZcoObject) → ((space : Space) → object_charge space z ≤ most_amount)
    → capped_by (λ space. object_charge space (object_of acct (placed at 1 (cut_all from to z.extents))))
    ≡ amounts_by (λ space. object_charge space (object_of acct (cut_all from to z.extents)))
clone-charge acct at from to z small =
    let es = cut_all from to z.extents in
    capped-small (λ space. object_charge space (object_of acct (placed at 1 es))) most
    ∙ ap (λ n. amounts_by (λ space. in_space spaces.Heap object_bytes space + in_space spaces.Heap (extent_bytes * n) space + 0 + 0))
    (length-placed at 1 es)
  where
    most : (space : Space) → object_charge space (object_of acct (placed at 1 (cut_all from to z.extents))) ≤ 9223372036854775808
    most spaces.File = omega arith
    most spaces.Bulk = omega arith
    most spaces.Heap =
        omega (arith, small spaces.Heap, length-placed at 1 (cut_all from to z.extents), length-cut_all from to z.extents)

-- extents whose blocks are owned
owns-placed : (owners : Owners) (next owner k end : ℕ) (at : ℕ → ℕ) (es : List Extent) → k + length es ≤ end
    → ((i : ℕ) → i < end → IsOwned owners next owner (at i))
    → All (Owns owners next owner) (map block_for_extent (placed at k es))
owns-placed owners next owner k end at [] most owned = All-nil (Owns owners next owner)
owns-placed owners next owner k end at (e ∷ es) most owned =
    All-cons (Owns owners next owner) (block_for_extent (record e { block = at k })) (map block_for_extent (placed at (suc k) es))
    (owned k (omega (arith, most))) (owns-placed owners next owner (suc k) end at es (omega (arith, most)) owned)

-- The call that clones a part of an object that is there, which lies inside its part. The clone's first block is the next.
module _ (w wn wb : World) (r : Result (Option Pending) Refusal) (same : wn ≡ w) (k number offset bytes made n : ℕ)
    (z clone : ZcoObject) (amounts : Amounts) (bound : IsBound w)
    (there : Some z ≡ object_at w k)
    (inside : (bytes == 0 || nat_lt z.part.length (offset + bytes)) ≡ false)
    (here : made ≡ next_addr w.taken)
    (made_so : clone ≡ object_of z.account (placed (λ i. made + 8 * i) 1 (asked_extents z offset bytes)))
    (size : n ≡ 1 + length clone.extents)
    (charged : amounts ≡ capped_by (λ space. object_charge space clone)) where
  abbrev call : Call
  call = calls.ClonePart k number offset bytes

  abbrev extents : List Extent
  extents = asked_extents z offset bytes

  abbrev charge : Space → ℕ
  charge space = object_charge space (object_of z.account extents)

  abbrev with_clone : World → (ℕ → ℕ) → World
  with_clone used at = with_object used (at 0) (object_of z.account (placed at 1 extents))

  object : clone ≡ object_of z.account (placed (addr_after w.taken) 1 extents)
  object = made_so ∙ ap (object_of z.account) (placed-next w.taken made extents here)

  count : n ≡ suc (length extents)
  count = omega (arith, size, ap (λ (y : ZcoObject). length y.extents) object, length-placed (addr_after w.taken) 1 extents)

  is : amounts ≡ amounts_by charge
  is =
      charged ∙ ap (λ y. capped_by (λ space. object_charge space y)) object
      ∙ clone-charge z.account (addr_after w.taken) (z.part.offset + offset) (z.part.offset + offset + bytes) z
      (object_charge-small w bound k z (object_is (thing_at w k) z (sym there)))

  row : (o : Outcome)
      → Charges w o z.account number charge (λ used. DoesWith w o (λ at. clone_moves at extents) (with_clone used) (λ at. replies.At (at 0)))
      → ByRow w o call
  row o charges =
      subst (λ t. On w o k t (λ z. InRange w o offset bytes z.part.length
      (let extents = asked_extents z offset bytes in
      Charges w o z.account number (λ space. object_charge space (object_of z.account extents)) (λ used.
      DoesWith w o (λ at. clone_moves at extents)
      (λ at. with_object used (at 0) (object_of z.account (placed at 1 extents)))
      (λ at. replies.At (at 0)))))) there
      (on_false _ _ (bytes == 0 || nat_lt z.part.length (offset + bytes)) inside charges)

  -- it owns the blocks behind its own
  pub clone-owned : (owners : Owners) (p : Option Pending) → r ≡ Ok p → IsTaken w wn wb z.account number n amounts r same
      → OnOk r ((i : ℕ) → i < n → get owners (addr_after wn.taken i) ≡ Some made)
      → OwnsInside owners (next_addr wb.taken) made (things.Object clone)
  clone-owned owners p ok taken given =
      let next : ℕ = next_addr wb.taken in
      let more : wb.taken ≡ w.taken + n = counted-at w wn wb z.account number n amounts r same ok taken in
      let owned = owned-at w wn wb z.account number n amounts r same owners made ok given in
      subst (λ y. OwnsInside owners next made (things.Object y)) (sym object) (record {
        below = omega (arith, here, count, more);
        inside = all_blocks (Owns owners next made) (object_of z.account (placed (addr_after w.taken) 1 extents))
            (All-nil (Owns owners next made))
            (owns-placed owners next made 1 n (addr_after w.taken) extents (omega (arith, count))
            (λ i below. record { noted = owned i below; below = omega (arith, addr_after-next w.taken i, more, below) }))
            (All-nil (Owns owners next made));
      })

  pub clone-refused : (refusal : Refusal) → r ≡ Err refusal → IsRefused w wn wb z.account number n amounts r same → OnErr r (wb ≡ wn)
      → StepsDry w call [] wb (replies.Refused refusal)
  clone-refused refusal err refused left =
      charged-refused w wb call z.account number charge amounts
      (λ o used. DoesWith w o (λ at. clone_moves at extents) (with_clone used) (λ at. replies.At (at 0))) row is refusal (refused-at w wn wb z.account number n amounts r same err refused) (same-at w wn wb z.account number n amounts r same err left)

  next-agree : (used : World) (at to : ℕ → ℕ) → Agree 0 n at to → with_clone used at ≡ with_clone used to
  next-agree used at to agree =
      ap₂ (λ k es. with_object used k (object_of z.account es)) (agree 0 (omega arith) (omega (arith, count)))
      (placed-agree at to 1 n extents (omega (arith, count)) (λ i from. agree i (omega arith)))

  pub clone-step : (w' : World) (p : Option Pending) → r ≡ Ok p → IsAllowed w wn wb z.account number n amounts r same
      → IsTaken w wn wb z.account number n amounts r same → w' ≡ with_object wb made clone
      → StepsDry w call (dry_moves w call (replies.At made)) w' (replies.At made)
  clone-step w' p ok allowed taken put =
      let at : ℕ → ℕ = addr_after w.taken in
      subst (λ a. StepsDry w call (dry_moves w call (replies.At a)) w' (replies.At a)) (sym here)
      (subst (λ o. StepsDry w call (clone_moves_of o offset bytes at) w' (replies.At (at 0))) there
      (blocks-step w w' call z.account number n charge amounts (λ at. clone_moves at extents) with_clone
      (λ at. replies.At (at 0)) row is p (allowed-at w wn wb z.account number n amounts r same ok allowed)
      (clone-taken at extents ∙ ap (run at 0) (sym count)) (clone-in_order w.taken extents) (clone-blocks at extents ∙ sym count)
      (λ to agree. clone-agree at to extents (λ i from below. agree i from (omega (arith, below, count))))
      (next-agree (with_covered w p amounts) at)
      (λ to agree. ap (λ a. replies.At a) (agree 0 (omega arith) (omega (arith, count))))
      (taken-used w p amounts)
      (put ∙ ap (λ v. with_object v made clone) (taken-at w wn wb z.account number n amounts r same ok taken)
      ∙ ap₂ (λ k y. with_object (with_blocks (with_covered w p amounts) n) k y) here object
      ∙ ap (λ v. with_object v (next_addr w.taken) (object_of z.account (placed at 1 extents))) (blocks-used w p amounts n))))
