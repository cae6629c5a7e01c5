-- The block at an address is found among those of a valid world.
use Rattle.std.proofs.Common.{◌≡◌, ℕ, ◌+◌, ◌≤◌, ◌==◌, List, [], ◌∷◌, ◌++◌, Bool, true, false, cond, Option, Some, None, map, find, nat_eq, refl, sym, ap, ◌∙◌, arith}
use Rattle.std.specs.Cmp.{eq_by_cmp_equiv, nat_cmp_total, nat_eq_equiv}
use Rattle.std.specs.FinMap as finite
use Rattle.std.specs.List.{count_by, flat_map}
use Rattle.std.specs.Option.{option_map, option_or}
use Rattle.std.specs.Ordering.{eq_by_cmp, nat_cmp}
use Rattle.std.proofs.lemmas.Bool.{eqb-true}
use Rattle.std.proofs.lemmas.List.Sums.{sum_by-append}
use Rattle.law_steps.proofs.DistinctLemmas.{count_by-cons, on_test, once, weight, weight_of}
use Rattle.law_steps.proofs.EditLemmas.{count_by-map}
use Rattle.law_steps.proofs.ThingChanges.{own_addr}
use Rattle.sdr_model.proofs.ThingsLemmas.{same_address}
use Rattle.sdr_model.specs.Accounts.{ticket_blocks}
use Rattle.sdr_model.specs.Blocks.{addresses_of, blocks_of, thing_blocks}
use Rattle.sdr_model.specs.Things.{block_among, inner_among, inner_blocks, block_for_name, own_block}
use Rattle.sdr_model.specs.Valid.{IsValid}
use Rattle.sdr_model.specs.World.{World, block_at}
use Rattle.sdr_model.specs.declared.things.UsedBlock.{UsedBlock}
use Rattle.sdr_model.specs.declared.things.Thing.{Thing}

-- the first that passes in joined lists
find-append : {X : Type 0} (p : X → Bool) (xs ys : List X) → find p (xs ++ ys) ≡ option_or (find p xs) (find p ys)
find-append p [] ys = refl
find-append p (x ∷ xs) ys =
    let rest = find-append p xs ys in
    on_test (p x)
    (λ e. ap (λ b. cond b (Some x) (find p (xs ++ ys))) e
    ∙ sym (ap (λ b. option_or (cond b (Some x) (find p xs)) (find p ys)) e))
    (λ e. ap (λ b. cond b (Some x) (find p (xs ++ ys))) e ∙ rest
    ∙ sym (ap (λ b. option_or (cond b (Some x) (find p xs)) (find p ys)) e))

-- one that is found counts
counts_found : {X : Type 0} (p : X → Bool) (xs : List X) (x : X) → find p xs ≡ Some x → 1 ≤ count_by p xs
counts_found p [] x is = let none : None ≡ Some x = is in cc
counts_found p (y ∷ ys) x is =
    let rest = counts_found p ys x in
    on_test (p y)
    (λ e. omega (arith, count_by-cons p y ys, weight_of e))
    (λ e. omega (arith, count_by-cons p y ys, weight_of e, rest (sym (ap (λ b. cond b (Some y) (find p ys)) e) ∙ is)))

-- none is found where none counts
none_found : {X : Type 0} (p : X → Bool) (xs : List X) → count_by p xs ≡ 0 → find p xs ≡ None
none_found {X} p xs none = by (find p xs) refl
  where
    by : (o : Option X) → find p xs ≡ o → find p xs ≡ None
    by None is = is
    by (Some x) is = absurd (omega (arith, none, counts_found p xs x is))

-- the first of three, of which the first two aren't both there
other_order : {X : Type 0} (a b c : Option X) → ((x : X) → b ≡ Some x → option_or a c ≡ None)
    → option_or a (option_or b c) ≡ option_or b (option_or a c)
other_order None b c apart = refl
other_order (Some x) None c apart = refl
other_order (Some x) (Some y) c apart = let none : Some x ≡ None = apart y refl in cc

first_of_three : {X : Type 0} (a b c : Option X) → option_or a (option_or b c) ≡ option_or (option_or a b) c
first_of_three None b c = refl
first_of_three (Some x) b c = refl

-- another address is another key
other_key : (q k : ℕ) → nat_eq q k ≡ false → eq_by_cmp nat_cmp q k ≡ false
other_key q k apart =
    on_test (eq_by_cmp nat_cmp q k)
    (λ e. let same : nat_eq q k ≡ true = ap (nat_eq q) (sym (same_address q k e)) ∙ nat_eq_equiv.refl q in cc)
    (λ e. e)

module _ (addr : ℕ) where
  abbrev begins_there : UsedBlock → Bool
  begins_there b = b.addr == addr

  -- a thing's own block, or one inside a thing
  abbrev among_things : List (ℕ × Thing) → Option UsedBlock
  among_things es = option_or (option_map (own_block addr) (finite.find nat_cmp addr es)) (inner_among addr es)

  abbrev all_blocks : List (ℕ × Thing) → List UsedBlock
  all_blocks es = flat_map (λ e. thing_blocks e.0 e.1) es

  -- is the one of the things' blocks there, where there is one at most
  found_among : (es : List (ℕ × Thing)) → count_by begins_there (all_blocks es) ≤ 1
      → among_things es ≡ block_among addr (all_blocks es)
  found_among [] few = refl
  found_among (e ∷ es) few =
      let own = own_block e.0 e.1 in
      let inner = option_or (block_among addr (inner_blocks e.1)) (inner_among addr es) in
      let rest = find begins_there (inner_blocks e.1 ++ all_blocks es) in
      let counts : weight (begins_there own) +
      (count_by begins_there (inner_blocks e.1) + count_by begins_there (all_blocks es)) ≤ 1 =
      omega (
        arith,
        few,
        count_by-cons begins_there own (inner_blocks e.1 ++ all_blocks es),
        sum_by-append (λ b. weight (begins_there b)) (inner_blocks e.1) (all_blocks es),
      ) in
      let tail = found_among es (omega (arith, counts)) in
      on_test (nat_eq addr e.0)
      (λ here. let same : addr ≡ e.0 = eqb-true addr e.0 here in
      ap (λ b. option_or (option_map (own_block addr) (cond b (Some e.1) (finite.find nat_cmp addr es))) inner)
      (ap (eq_by_cmp nat_cmp addr) (sym same) ∙ (eq_by_cmp_equiv nat_cmp_total).refl addr)
      ∙ ap (λ a. Some (own_block a e.1)) same
      ∙ sym (ap (λ b. cond b (Some own) rest)
      (ap (λ a. a == addr) (own_addr e.0 e.1 ∙ sym same) ∙ nat_eq_equiv.refl addr)))
      (λ apart.
      ap (λ b. option_or (option_map (own_block addr) (cond b (Some e.1) (finite.find nat_cmp addr es))) inner)
      (other_key addr e.0 apart)
      ∙ other_order (option_map (own_block addr) (finite.find nat_cmp addr es))
      (block_among addr (inner_blocks e.1)) (inner_among addr es)
      (λ b is. tail ∙ none_found begins_there (all_blocks es)
      (omega (arith, counts, counts_found begins_there (inner_blocks e.1) b is)))
      ∙ ap (option_or (block_among addr (inner_blocks e.1))) tail
      ∙ sym (find-append begins_there (inner_blocks e.1) (all_blocks es))
      ∙ sym (ap (λ b. cond b (Some own) rest)
      (ap (λ a. a == addr) (own_addr e.0 e.1) ∙ nat_eq_equiv.symm e.0 addr ∙ apart)))

-- The block that begins at an address of a valid world is the one of its blocks there.
pub blocks_are_found : (w : World) (addr : ℕ) → IsValid w → block_at w addr ≡ block_among addr (blocks_of w)
blocks_are_found w addr valid =
    ap (λ o. option_or (option_map (own_block addr) o) (option_or (inner_among addr es) (option_or names tickets)))
    (finite.get-entries w.things addr)
    ∙ first_of_three (option_map (own_block addr) (finite.find nat_cmp addr es)) (inner_among addr es)
    (option_or names tickets)
    ∙ ap (λ o. option_or o (option_or names tickets)) (found_among addr es few)
    ∙ first_of_three (block_among addr (all_blocks addr es)) names tickets
    ∙ ap (λ o. option_or o tickets) (sym (find-append (begins_there addr) (all_blocks addr es) (map block_for_name w.names)))
    ∙ sym (find-append (begins_there addr) (all_blocks addr es ++ map block_for_name w.names)
    (ticket_blocks w.accounts))
  where
    es : List (ℕ × Thing)
    es = finite.entries w.things

    names : Option UsedBlock
    names = block_among addr (map block_for_name w.names)

    tickets : Option UsedBlock
    tickets = block_among addr (ticket_blocks w.accounts)

    other_way : (λ (b : UsedBlock). nat_eq addr b.addr) ≡ begins_there addr
    other_way i b = nat_eq_equiv.symm addr b.addr i

    few : count_by (begins_there addr) (all_blocks addr es) ≤ 1
    few =
        omega (
          arith,
          once nat_eq_equiv (addresses_of (blocks_of w)) valid.distinct_addresses addr,
          count_by-map (λ (b : UsedBlock). b.addr) (nat_eq addr) (blocks_of w),
          ap (λ p. count_by p (blocks_of w)) other_way,
          sum_by-append (λ b. weight (begins_there addr b)) (all_blocks addr es ++ map block_for_name w.names)
              (ticket_blocks w.accounts),
          sum_by-append (λ b. weight (begins_there addr b)) (all_blocks addr es) (map block_for_name w.names),
        )
