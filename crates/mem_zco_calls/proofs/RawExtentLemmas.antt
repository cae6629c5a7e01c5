-- Objects that get an extent of a raw object, which a new source takes over.
use Rattle.std.proofs.Common.{◌≡◌, ◌+◌, ◌==◌, ◌++◌, [], ℕ, List, Option, None, Some, Bool, true, false, ◌||◌, ap, sym, ◌∙◌, refl, subst, cond, length}
use Rattle.std.specs.BTreeMap.{is_at}
use Rattle.std.specs.FinMap.{get}
use Rattle.std.specs.Ordering.{nat_cmp}
use Rattle.std.specs.Prelude.{MatchBool, MatchOption, nat_lt}
use Rattle.sdr_base.specs.declared.account.Amounts.{Amounts}
use Rattle.sdr_base.specs.declared.kind.Space.TheVariants as spaces
use Rattle.sdr_base.specs.declared.refusal.Refusal.TheVariants as refusals
use Rattle.mem_world.specs.Allowed.{MayCharge}
use Rattle.sdr_model.proofs.ThingsLemmas.{get-with_at, same_address, same_things}
use Rattle.sdr_model.specs.Amounts.{amounts_by}
use Rattle.sdr_model.specs.Charges.{bytes_charge}
use Rattle.sdr_model.specs.Charging.{Charges, with_covered}
use Rattle.sdr_model.specs.Dry.{StepsDry, addr_after, dry_moves, next_addr, next_addrs, with_blocks}
use Rattle.sdr_model.specs.ObjectSteps.{AppendsRaw, AppendsSource, InRange, raw_append_moves, with_extent, with_object}
use Rattle.sdr_model.specs.RowMoves.{append_moves}
use Rattle.sdr_model.specs.Rows.{ByRow}
use Rattle.sdr_model.specs.SourceSteps.{new_source}
use Rattle.sdr_model.specs.Steps.{DoesWith, On, Outcome, Refuses, with_thing}
use Rattle.sdr_model.specs.Things.{with_at}
use Rattle.sdr_model.specs.World.{World, as_raw, thing_at}
use Rattle.sdr_model.specs.Zco.{as_object, object_at, source_at, source_naming, uses_of}
use Rattle.sdr_model.specs.declared.accounts.Pending.{Pending}
use Rattle.sdr_model.specs.declared.answer.Reply.TheVariants as replies
use Rattle.sdr_model.specs.declared.call.Call.{Call}
use Rattle.sdr_model.specs.declared.call.Call.TheVariants as calls
use Rattle.sdr_model.specs.declared.things.Thing.{Thing}
use Rattle.sdr_model.specs.declared.things.Thing.TheVariants as things
use Rattle.sdr_model.specs.declared.zco.Subject.TheVariants as subjects
use Rattle.sdr_model.specs.declared.zco.ZcoObject.{ZcoObject}
use Rattle.mem_zco_calls.proofs.ObjectCallLemmas.{charged-step, thing_at-blocks}

-- a thing is made where nothing is, before or after an object was put at its address
made_behind : (w : World) (k src : ℕ) (z : ZcoObject) (object thing : Thing) → object_at w k ≡ Some z → get w.things src ≡ None
    → with_thing (with_thing w k object) src thing ≡ with_thing (with_thing w src thing) k object
made_behind w k src z object thing there none =
    ap (λ m. record w { things = m }) (same_things _ _ (λ q.
    get-with_at (with_at w.things k (Some object)) src (Some thing) q
    ∙ ap (cond (is_at (nat_cmp q) src) (Some thing)) (get-with_at w.things k (Some object) q)
    ∙ by q (is_at (nat_cmp q) src) (is_at (nat_cmp q) k) refl refl
    ∙ sym (get-with_at (with_at w.things src (Some thing)) k (Some object) q
    ∙ ap (cond (is_at (nat_cmp q) k) (Some object)) (get-with_at w.things src (Some thing) q))))
  where
    by : (q : ℕ) (a b : Bool) → is_at (nat_cmp q) src ≡ a → is_at (nat_cmp q) k ≡ b
        → cond a (Some thing) (cond b (Some object) (get w.things q)) ≡ cond b (Some object) (cond a (Some thing) (get w.things q))
    by q true true at_src at_k =
        let gone : None ≡ Some z =
        ap as_object (sym none) ∙ ap (λ a. as_object (get w.things a)) (sym (same_address q src at_src) ∙ same_address q k at_k) ∙ there in
        absurd cc
    by q true false at_src at_k = refl
    by q false true at_src at_k = refl
    by q false false at_src at_k = refl

-- the two blocks that are taken after a charge, where things change too
put_two : (w : World) (p : Option Pending) (amounts : Amounts) (k src : ℕ) (object thing : Thing)
    → record (with_thing (with_thing (with_blocks (with_covered w p amounts) 2) src thing) k object) { taken = w.taken }
    ≡ record (with_thing (with_thing (with_covered w p amounts) src thing) k object) { marks = w.marks ++ next_addrs w.taken 2; shown = [] }
put_two w None amounts k src object thing = refl
put_two w (Some p) amounts k src object thing = refl

-- they are counted
taken_two : (w : World) (p : Option Pending) (amounts : Amounts) (k src : ℕ) (object thing : Thing)
    → (with_thing (with_thing (with_blocks (with_covered w p amounts) 2) src thing) k object).taken ≡ w.taken + 2
taken_two w None amounts k src object thing = refl
taken_two w (Some p) amounts k src object thing = refl

-- an append of a part of a raw object that no source names, where the range is within it
module _ (w : World) (k number named offset bytes : ℕ) (z : ZcoObject) (text : List ℕ) where
  -- the source that takes the raw object over
  abbrev pub taking : Thing
  taking = things.Source (new_source (subjects.Heap named) (length text))

  -- the object with an extent of such a source
  abbrev pub extended : ℕ → ℕ → ZcoObject
  extended src block = with_extent z (record { block = block; source = src; offset = offset; length = bytes })

  -- what it does where it is charged
  abbrev pub AppendsAt : Outcome → World → Type 0
  AppendsAt o used =
      DoesWith w o raw_append_moves (λ at. with_object (with_thing used (at 0) taking) k (extended (at 0) (at 1))) (λ at. replies.Done)

  module _ (there : object_at w k ≡ Some z) (none : source_at w named ≡ None) (raw : as_raw (thing_at w named) ≡ Some text)
      (unnamed : source_naming w named ≡ None) (inside : (bytes == 0 || nat_lt (length text) (offset + bytes)) ≡ false) where
    -- its row
    pub raw-row : (o : Outcome) → Charges w o z.account number (bytes_charge spaces.Heap (length text)) (AppendsAt o)
        → ByRow w o (calls.AppendExtent k number named offset bytes)
    raw-row o charges =
        let goes : Type 0 = Charges w o z.account number (bytes_charge spaces.Heap (length text)) (AppendsAt o) in
        subst (λ t. On w o k t (λ z. MatchOption (source_at w named)
        (On w o named (as_raw (thing_at w named)) (λ text. AppendsRaw w o k z number named text offset bytes))
        (λ s. AppendsSource w o k z number named s offset bytes))) (sym there)
        (subst (λ t. MatchOption t (On w o named (as_raw (thing_at w named)) (λ text. AppendsRaw w o k z number named text offset bytes))
        (λ s. AppendsSource w o k z number named s offset bytes)) (sym none)
        (subst (λ t. On w o named t (λ text. AppendsRaw w o k z number named text offset bytes)) (sym raw)
        (subst (λ t. MatchOption t (InRange w o offset bytes (length text) goes)
        (λ source. Refuses w o (refusals.InUse named (uses_of w source)))) (sym unnamed)
        (subst (λ b. MatchBool b (Refuses w o (refusals.BadRange offset bytes (length text))) goes) (sym inside) charges))))

    -- it is charged, and the source is put behind the object
    pub raw-step : (w' : World) (p : Option Pending) (amounts : Amounts) → amounts ≡ amounts_by (bytes_charge spaces.Heap (length text))
        → MayCharge w z.account number amounts p
        → let src = next_addr w.taken in get w.things src ≡ None
        → w' ≡ with_thing (with_object (with_blocks (with_covered w p amounts) 2) k (extended src (next_addr (w.taken + 1)))) src taking
        → let call : Call = calls.AppendExtent k number named offset bytes in
        StepsDry w call (dry_moves w call replies.Done) w' replies.Done
    raw-step w' p amounts is may fresh put =
        let call : Call = calls.AppendExtent k number named offset bytes in
        let src : ℕ = next_addr w.taken in
        let object : Thing = things.Object (extended src (next_addr (w.taken + 1))) in
        let charged : World = with_blocks (with_covered w p amounts) 2 in
        let after : w' ≡ with_thing (with_thing charged src taking) k object =
        put
        ∙ made_behind charged k src z object taking (ap as_object (thing_at-blocks w p amounts 2 k) ∙ there)
        (thing_at-blocks w p amounts 2 src ∙ fresh) in
        subst (λ moves. StepsDry w call moves w' replies.Done) (sym (ap (λ t. append_moves t (addr_after w.taken)) none))
        (charged-step w w' call z.account number (bytes_charge spaces.Heap (length text)) amounts AppendsAt raw-row is p
        (raw_append_moves (addr_after w.taken)) replies.Done may (refl, (refl, tt))
        (ap (λ (v : World). v.taken) after ∙ taken_two w p amounts k src object taking)
        (refl, ap (λ (v : World). record v { taken = w.taken }) after ∙ put_two w p amounts k src object taking, refl))
