-- A small world with sources, an object and tickets meets what the laws ask for.
use Rattle.std.proofs.Common.{lit<, lit≤, ◌<◌, ◌≤◌, ◌≡◌, ◌⊎◌, ⊎_elim, ◌+◌, ◌-◌, ◌==◌, ℕ, List, [], ◌∷◌, ◌++◌, Bool, true, false, true≢false, cond, Option, Some, None, inl, inr, nat_eq, refl, sym, ap, ◌∙◌, subst, arith, rules}
use Rattle.std.specs.FinMap.{entries, entries-from_sorted, get-from_sorted}
use Rattle.std.specs.List.{IsDistinct, flat_map, sum_by}
use Rattle.std.specs.Ordering.{eq_by_cmp, nat_cmp}
use Rattle.std.specs.Prelude.{Contains, IfSome, MatchOption, if◌then◌else◌, unwrap_or}
use Rattle.std.proofs.lemmas.Bool.Decides.{nat_tests}
use Rattle.std.proofs.lemmas.List.Elements.{All-from_recursion, All-nil}
use Rattle.sdr_base.specs.declared.account.Acct.{Acct}
use Rattle.sdr_base.specs.declared.account.Acct.TheVariants as accts
use Rattle.sdr_base.specs.declared.account.Amounts.{Amounts}
use Rattle.sdr_base.specs.declared.moves.Move.TheVariants.{Took}
use Rattle.law_steps.proofs.DistinctLemmas.{not_contained}
use Rattle.law_steps.proofs.QueueOrder.{pairs}
use Rattle.law_steps.proofs.SourceViews.{AllLie, fits_to}
use Rattle.law_steps.specs.Fresh.{AreFresh}
use Rattle.law_steps.specs.ZcoExample.{file_source, first_ticket, grown_world, raw_source, second_ticket, small_object, small_things, small_world}
use Rattle.sdr_model.proofs.ThingsLemmas.{same_address}
use Rattle.sdr_model.specs.Accounts.{ticket_blocks}
use Rattle.sdr_model.specs.Amounts.{amounts_by, are_within, first_above, in_space, no_amounts}
use Rattle.sdr_model.specs.Blocks.{addresses_of, blocks_of, thing_blocks}
use Rattle.sdr_model.specs.Charges.{bytes_charge, extent_bytes, rooms, thing_charge}
use Rattle.sdr_base.specs.declared.kind.Space.{Space}
use Rattle.sdr_base.specs.declared.kind.Space.TheVariants as spaces
use Rattle.sdr_model.specs.Charging.{Charges, no_space, with_covered}
use Rattle.sdr_model.specs.Gone.{is_passing}
use Rattle.sdr_model.specs.ObjectSteps.{AppendsRaw, AppendsSource, with_extent, with_object}
use Rattle.sdr_model.specs.Rows.{ByRow}
use Rattle.sdr_model.specs.Step.{Step}
use Rattle.sdr_model.specs.Steps.{On, Outcome, Refuses, Takes}
use Rattle.sdr_model.specs.Valid.{FitTogether, HasBytes, HasSubject, IsBarred, IsValid, IsValidCapsule, IsValidThing, IsValidTicket, KeepQueues, LiesInside}
use Rattle.sdr_model.specs.World.{as_raw, thing_at}
use Rattle.sdr_model.specs.Zco.{as_object, as_source, count_of, is_of_raw, object_at, source_at, uses_in, uses_of}
use Rattle.sdr_model.specs.declared.answer.Reply.TheVariants as replies
use Rattle.sdr_model.specs.declared.call.Call.TheVariants as calls
use Rattle.sdr_model.specs.declared.things.Thing.{Thing}
use Rattle.sdr_model.specs.declared.things.Thing.TheVariants as things
use Rattle.sdr_model.specs.declared.zco.Extent.{Extent}
use Rattle.sdr_model.specs.declared.zco.ZcoObject.{ZcoObject}
use Rattle.sdr_model.specs.declared.zco.ZcoSource.{ZcoSource}

-- the addresses of the world's blocks
small_addresses : addresses_of (blocks_of small_world)
    ≡ 8 ∷ 16 ∷ 24 ∷ 32 ∷ 40 ∷ 48 ∷ 56 ∷ 64 ∷ 72 ∷ []
small_addresses = ap
    (λ (es : List (ℕ × Thing)). addresses_of
    (flat_map (λ e. thing_blocks e.0 e.1) es ++ [] ++ ticket_blocks small_world.accounts))
    (entries-from_sorted nat_cmp small_things tt)

small_distinct : IsDistinct nat_eq (8 ∷ 16 ∷ 24 ∷ 32 ∷ 40 ∷ 48 ∷ 56 ∷ 64 ∷ 72 ∷ [])
unfolding IsDistinct
small_distinct = search rules

-- what follows at each address, and elsewhere
at_each : (P : ℕ → Option Thing → Type 0) → P 8 (Some (things.Source file_source))
    → P 16 (Some (things.Raw (1 ∷ 2 ∷ 3 ∷ []))) → P 24 (Some (things.Source raw_source))
    → P 32 (Some (things.Object small_object)) → ((q : ℕ) → P q None) → (q : ℕ) → P q (thing_at small_world q)
at_each P a b c d none q =
    subst (P q) (sym (get-from_sorted nat_cmp small_things q tt)) (by _ _ _ _ refl refl refl refl)
  where
    here : (addr : ℕ) (t : Option Thing) → eq_by_cmp nat_cmp q addr ≡ true → P addr t → P q t
    here addr t is p = subst (λ i. P i t) (sym (same_address q addr is)) p

    by : (w x y z : Bool) → eq_by_cmp nat_cmp q 8 ≡ w → eq_by_cmp nat_cmp q 16 ≡ x → eq_by_cmp nat_cmp q 24 ≡ y
        → eq_by_cmp nat_cmp q 32 ≡ z
        → P q (cond w (Some (things.Source file_source)) (cond x (Some (things.Raw (1 ∷ 2 ∷ 3 ∷ [])))
        (cond y (Some (things.Source raw_source)) (cond z (Some (things.Object small_object)) None))))
    by true x y z i j k l = here 8 _ i a
    by false true y z i j k l = here 16 _ j b
    by false false true z i j k l = here 24 _ k c
    by false false false true i j k l = here 32 _ l d
    by false false false false i j k l = none q

each_valid : (q : ℕ) → IfSome (thing_at small_world q) IsValidThing
each_valid = at_each (λ q t. IfSome t IsValidThing)
    (record { subject = (lit≤ tt, lit≤ tt); length = lit≤ tt; unflagged = λ is. refl })
    (lit≤ tt)
    (record { subject = tt; length = lit≤ tt; unflagged = λ is. refl })
    (record {
      headers = All-from_recursion IsValidCapsule small_object.headers ((lit≤ tt, lit≤ tt), tt);
      trailers = All-nil _;
      extents = All-from_recursion (λ (e : Extent). 1 ≤ e.length) small_object.extents (lit≤ tt, (lit≤ tt, tt));
      part = lit≤ tt;
    })
    (λ q. tt)

none_distinct : {K : Type 0} (eq : K → K → Bool) → IsDistinct eq []
unfolding IsDistinct
none_distinct eq = tt

pub small_valid : IsValid small_world
small_valid = record {
  things = each_valid;
  names = All-nil _;
  distinct_names = none_distinct _;
  nonzero = subst (λ addrs. ¬ Contains addrs 0) (sym small_addresses)
      (not_contained 0 (8 ∷ 16 ∷ 24 ∷ 32 ∷ 40 ∷ 48 ∷ 56 ∷ 64 ∷ 72 ∷ []) refl);
  distinct_addresses = subst (IsDistinct nat_eq) (sym small_addresses) small_distinct;
}

pub small_fresh : AreFresh (addresses_of (blocks_of small_world)) (Took 32 80 ∷ [])
small_fresh = (
  (λ zero. omega (arith, zero)),
  subst (λ addrs. ¬ Contains addrs 80) (sym small_addresses)
      (not_contained 80 (8 ∷ 16 ∷ 24 ∷ 32 ∷ 40 ∷ 48 ∷ 56 ∷ 64 ∷ 72 ∷ []) refl),
  tt,
)

-- the sources and the object
file_there : source_at small_world 8 ≡ Some file_source
file_there = ap as_source (get-from_sorted nat_cmp small_things 8 tt)

raw_there : source_at small_world 24 ≡ Some raw_source
raw_there = ap as_source (get-from_sorted nat_cmp small_things 24 tt)

object_there : object_at small_world 32 ≡ Some small_object
object_there = ap as_object (get-from_sorted nat_cmp small_things 32 tt)

-- the world's sources are these two
abbrev SourceIs : ℕ → ZcoSource → Type 0
SourceIs q s = ((q ≡ 8) × (s ≡ file_source)) ⊎ ((q ≡ 24) × (s ≡ raw_source))

sources : (q : ℕ) (s : ZcoSource) → source_at small_world q ≡ Some s → SourceIs q s
sources q = at_each (λ q t. (s : ZcoSource) → as_source t ≡ Some s → SourceIs q s)
    (λ s is. inl (refl, ap (λ o. unwrap_or o s) (sym is)))
    (λ s is. let none : None ≡ Some s = is in absurd (no_some s none))
    (λ s is. inr (refl, ap (λ o. unwrap_or o s) (sym is)))
    (λ s is. let none : None ≡ Some s = is in absurd (no_some s none))
    (λ q s is. let none : None ≡ Some s = is in absurd (no_some s none)) q
  where
    no_some : (s : ZcoSource) → None ≡ Some s → ⊥
    no_some s none = cc

-- and its object is this one
objects : (q : ℕ) (z : ZcoObject) → object_at small_world q ≡ Some z → z ≡ small_object
objects q = at_each (λ q t. (z : ZcoObject) → as_object t ≡ Some z → z ≡ small_object)
    (λ z is. let none : None ≡ Some z = is in cc)
    (λ z is. let none : None ≡ Some z = is in cc)
    (λ z is. let none : None ≡ Some z = is in cc)
    (λ z is. ap (λ o. unwrap_or o z) (sym is))
    (λ q z is. let none : None ≡ Some z = is in cc) q

small_lie : AllLie small_world.things small_object.extents
small_lie = (
  subst (LiesInside (record { block = 48; source = 8; offset = 2; length = 5 })) (sym file_there) (lit≤ tt),
  (subst (LiesInside (record { block = 56; source = 24; offset = 0; length = 3 })) (sym raw_there) (lit≤ tt), tt),
)

raw_bytes : HasBytes 3 (as_raw (thing_at small_world 16))
raw_bytes = subst (λ t. HasBytes 3 (as_raw t)) (sym (get-from_sorted nat_cmp small_things 16 tt)) refl

-- one extent names the raw object's source
raw_used : uses_of small_world 24 ≡ 1
raw_used = ap
    (λ (es : List (ℕ × Thing)).
    sum_by (λ e. uses_in 24 accts.Inbound e.1) es + sum_by (λ e. uses_in 24 accts.Outbound e.1) es)
    (entries-from_sorted nat_cmp small_things tt)

-- so does one the file's
file_used : count_of small_world 8 accts.Inbound ≡ 1
file_used = ap (λ (es : List (ℕ × Thing)). sum_by (λ e. uses_in 8 accts.Inbound e.1) es)
    (entries-from_sorted nat_cmp small_things tt)

pub small_fits : FitTogether small_world
small_fits = fits_to small_world (record {
  inside = λ q z is. subst (λ (z : ZcoObject). AllLie small_world.things z.extents) (sym (objects q z is)) small_lie;
  subjects = λ q s is. ⊎_elim
      (λ file. subst (λ (s : ZcoSource). HasSubject small_world s.length s.subject) (sym file.1) tt)
      (λ raw. subst (λ (s : ZcoSource). HasSubject small_world s.length s.subject) (sym raw.1) raw_bytes)
      (sources q s is);
  alone = λ raw a b s t here there named named'. ⊎_elim
      (λ file. absurd (true≢false (sym named ∙ ap (λ (s : ZcoSource). is_of_raw raw s.subject) file.1)))
      (λ first. ⊎_elim
      (λ file. absurd (true≢false (sym named' ∙ ap (λ (s : ZcoSource). is_of_raw raw s.subject) file.1)))
      (λ second. first.0 ∙ sym second.0) (sources b t there)) (sources a s here);
  used = λ q s is passing. ⊎_elim (λ file. absurd (true≢false (sym passing ∙ ap is_passing file.1)))
      (λ raw. inl (omega (arith, ap (uses_of small_world) raw.0, raw_used))) (sources q s is);
})

numbers_distinct : IsDistinct nat_eq (1 ∷ 2 ∷ [])
unfolding IsDistinct
numbers_distinct = search rules

pub small_queues : KeepQueues small_world.accounts
small_queues = record {
  inbound = record {
    tickets = All-from_recursion IsValidTicket (first_ticket ∷ second_ticket ∷ []) (
      record { asked = refl; left = refl; waiting = λ waits. absurd (true≢false waits) },
      (record { asked = refl; left = refl; waiting = λ waits. refl }, tt),
    );
    order = pairs (first_ticket ∷ second_ticket ∷ []) ((refl, tt), (tt, tt));
    maxima = refl;
  };
  outbound = record { tickets = All-nil _; order = pairs [] tt; maxima = refl };
  distinct = numbers_distinct;
  below = All-from_recursion (λ n. n < 3) (1 ∷ 2 ∷ []) (lit< tt, (lit< tt, tt));
  next = lit≤ tt;
}

-- all of heap space isn't within the room where something is left of a grant
all_above : (file bulk charged : ℕ)
    → are_within (record { file = 0; bulk = 0; heap = 32768 })
    (record { file = file; bulk = bulk; heap = 32768 - (charged + 50) }) ≡ false
all_above file bulk charged = grind (arith, nat_tests)

pub small_barred : (acct : Acct) → IsBarred small_world acct
small_barred accts.Outbound = tt
small_barred accts.Inbound =
    all_above (rooms small_world accts.Inbound).file (rooms small_world accts.Inbound).bulk
    (sum_by (λ e. thing_charge small_world accts.Inbound spaces.Heap e.0 e.1) (entries small_world.things))

-- nothing is above any room
none_above : (room : Amounts) → first_above no_amounts room ≡ None
none_above room = grind (arith, nat_tests)

row_grows : ByRow small_world (record { moves = Took 32 80 ∷ []; after = grown_world; reply = replies.Done })
    (calls.AppendExtent 32 1 8 0 4)
row_grows =
    let o : Outcome = record { moves = Took 32 80 ∷ []; after = grown_world; reply = replies.Done } in
    subst (λ t. On small_world o 32 t (λ z. MatchOption (source_at small_world 8)
    (On small_world o 8 (as_raw (thing_at small_world 8)) (λ text. AppendsRaw small_world o 32 z 1 8 text 0 4))
    (λ s. AppendsSource small_world o 32 z 1 8 s 0 4))) (sym object_there)
    (subst (λ t. MatchOption t
    (On small_world o 8 (as_raw (thing_at small_world 8))
    (λ text. AppendsRaw small_world o 32 small_object 1 8 text 0 4))
    (λ s. AppendsSource small_world o 32 small_object 1 8 s 0 4)) (sym file_there)
    (subst (λ (n : ℕ). Charges small_world o accts.Inbound 1
    (λ space. if n == 0 then bytes_charge spaces.File 10 space else in_space spaces.Heap extent_bytes space)
    (λ used. Takes small_world o 32 (λ block. with_object used 32
    (with_extent small_object (record { block = block; source = 8; offset = 0; length = 4 })))
    (λ block. replies.Done))) (sym file_used)
    (subst (λ (t : Option Space). MatchOption t
    (Takes small_world o 32 (λ block. with_object
    (with_covered small_world (Some (record { acct = accts.Inbound; place = 0; ticket = first_ticket }))
    (amounts_by (in_space spaces.Heap extent_bytes))) 32
    (with_extent small_object (record { block = block; source = 8; offset = 0; length = 4 }))) (λ block. replies.Done))
    (λ space. Refuses small_world o (no_space small_world accts.Inbound no_amounts space))) (sym (none_above (rooms small_world accts.Inbound)))
    (refl, (refl, refl)))))

pub small_grows : Step small_world (calls.AppendExtent 32 1 8 0 4) (Took 32 80 ∷ []) grown_world replies.Done
small_grows = inl row_grows
