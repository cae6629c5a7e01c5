-- What is inside a thing is found in its owner.
use Rattle.std.proofs.Common.{◌≡◌, ◌==◌, arith, ℕ, Bool, true, false, List, [], ◌∷◌, ◌&&◌, T, map, get_or, Option, Some, None, ap, sym, ◌∙◌, refl, subst, is_lt, unwrap_or, position}
use Rattle.std.proofs.lemmas.Bool.{eqb-true}
use Rattle.std.proofs.lemmas.List.Elements.{All-get_or, All-head, All-tail}
use Rattle.std.proofs.lemmas.List.Quantifiers.{position-Some}
use Rattle.std.specs.FinMap.{get, entries, entries_sorted, find, is_sorted, get-entries}
use Rattle.std.specs.FinMap.Entries.{below_all}
use Rattle.std.specs.List.{All}
use Rattle.std.specs.Option.{option_and_then, option_map, option_or}
use Rattle.std.specs.Ordering.{nat_cmp}
use Rattle.std.specs.Prelude.{IfSome}
use Rattle.mem_store.specs.Owners.{IsOwned, Owns, OwnInside, OwnsInside}
use Rattle.sdr_model.specs.Things.{Owners, Spot, SpotIs, Things, block_among, block_for_element, inner_among, inner_blocks, spot_among, spot_in_thing}
use Rattle.sdr_model.specs.declared.things.UsedBlock.{UsedBlock}
use Rattle.sdr_model.specs.declared.things.Element.{Element}
use Rattle.sdr_model.specs.declared.things.SdrList.{SdrList}
use Rattle.sdr_model.specs.declared.things.Spot.{Spot as Found}
use Rattle.sdr_model.specs.declared.things.Thing.{Thing}
use Rattle.sdr_model.specs.declared.things.Thing.TheVariants as things
use Rattle.mem_store.proofs.OwnersLemmas.{All-from_map}
use Rattle.sdr_model.proofs.ThingsLemmas.{at_itself, same_address}

pub left_of : (a b : Bool) → T (a && b) → T a
left_of true b h = tt
left_of false b h = absurd h

pub right_of : (a b : Bool) → T (a && b) → T b
right_of true b h = h
right_of false b h = absurd h

-- an address below the others isn't among them
pub missing : {X : Type 0} (k : ℕ) (es : List (ℕ × X)) → T (below_all nat_cmp k es) → find nat_cmp k es ≡ None
missing k [] below = refl
missing k (e ∷ es) below =
    let here : T (is_lt (nat_cmp k e.0)) = left_of _ _ below in
    grind (arith, missing k es (right_of (is_lt (nat_cmp k e.0)) (below_all nat_cmp k es) below))

-- the first of some things is at its address
pub first_there : (e : ℕ × Thing) (es : List (ℕ × Thing)) → find nat_cmp e.0 (e ∷ es) ≡ Some e.1
first_there e es = grind (arith, at_itself e.0)

-- and so are the others
pub rest_there : (e : ℕ × Thing) (es : List (ℕ × Thing)) (k : ℕ) (thing : Thing) → T (is_sorted nat_cmp (e ∷ es))
    → find nat_cmp k es ≡ Some thing → find nat_cmp k (e ∷ es) ≡ Some thing
rest_there e es k thing sorted is =
    let below : T (below_all nat_cmp e.0 es) = left_of _ _ sorted in
    grind (arith, missing e.0 es below, same_address k e.0)

or_none : {X : Type 0} (o : Option X) → option_or o None ≡ o
or_none o = grind arith

-- what is looked for in things, each at an address
module _ {X : Type 0} (at : ℕ → Thing → Option X) where
  -- the first that is found
  abbrev first_at : List (ℕ × Thing) → Option X
  first_at [] = None
  first_at (e ∷ es) = option_or (at e.0 e.1) (first_at es)

  -- where no thing has it, it isn't found
  first_at-none : (es : List (ℕ × Thing)) → T (is_sorted nat_cmp es)
      → ((k : ℕ) (thing : Thing) → find nat_cmp k es ≡ Some thing → at k thing ≡ None) → first_at es ≡ None
  first_at-none [] sorted none = refl
  first_at-none (e ∷ es) sorted none =
      let rest = first_at-none es (right_of (below_all nat_cmp e.0 es) (is_sorted nat_cmp es) sorted)
      (λ k thing is. none k thing (rest_there e es k thing sorted is)) in
      grind (arith, none e.0 e.1 (first_there e es))

  -- where only the thing at one address can have it, it is looked for there
  first_at-only : (owner : ℕ) (es : List (ℕ × Thing)) → T (is_sorted nat_cmp es)
      → ((k : ℕ) (thing : Thing) → find nat_cmp k es ≡ Some thing → (owner ≡ k → ⊥) → at k thing ≡ None)
      → first_at es ≡ option_and_then (at owner) (find nat_cmp owner es)
  first_at-only owner [] sorted others = refl
  first_at-only owner (e ∷ es) sorted others =
      let later = λ (k : ℕ) (thing : Thing) (is : find nat_cmp k es ≡ Some thing). rest_there e es k thing sorted is in
      let below : T (below_all nat_cmp e.0 es) = left_of _ _ sorted in
      let rise : T (is_sorted nat_cmp es) = right_of (below_all nat_cmp e.0 es) (is_sorted nat_cmp es) sorted in
      let alone = λ (here : owner ≡ e.0). first_at-none es rise (λ k thing is.
      others k thing (later k thing is) (λ it. absurd (grind (arith, missing e.0 es below)))) in
      let rest = first_at-only owner es rise (λ k thing is. others k thing (later k thing is)) in
      grind (arith, rest, alone, others e.0 e.1 (first_there e es), missing e.0 es below, same_address owner e.0, at_itself e.0, or_none (at e.0 e.1))

  -- where only the noted owner can have it, it is looked for in that
  first_at-noted : (owner : Option ℕ) (m : Things)
      → ((k : ℕ) (thing : Thing) → get m k ≡ Some thing → (owner ≡ Some k → ⊥) → at k thing ≡ None)
      → first_at (entries m) ≡ option_and_then (λ k. option_and_then (at k) (get m k)) owner
  first_at-noted None m others =
      first_at-none (entries m) (entries_sorted m) (λ k thing is.
      others k thing (get-entries m k ∙ is) (λ it. let none : None ≡ Some k = it in cc))
  first_at-noted (Some owner) m others =
      first_at-only owner (entries m) (entries_sorted m) (λ k thing is away.
      others k thing (get-entries m k ∙ is) (λ it. away (ap (λ o. unwrap_or o owner) it)))
      ∙ ap (option_and_then (at owner)) (sym (get-entries m owner))

-- the blocks inside the thing at an address, and a block at another
module _ (owners : Owners) (next owner addr : ℕ) where
  -- an element that is found is owned
  place_owned : (elements : List Element) (place : ℕ) → All (Owns owners next owner) (map block_for_element elements)
      → position (λ e. e.block == addr) elements ≡ Some place → IsOwned owners next owner addr
  place_owned elements place all is =
      let none : Element = record { block = 0; datum = 0 } in
      let there = position-Some (λ e. e.block == addr) elements place none is in
      let each = All-from_map (Owns owners next owner) block_for_element elements all in
      subst (IsOwned owners next owner) (eqb-true (get_or elements place none).block addr there.1)
      (All-get_or (λ e. IsOwned owners next owner e.block) elements place none there.0 each)

  -- the spot of an element in a list
  abbrev spot_at : SdrList → Option ℕ → Option Spot
  spot_at row = option_map (λ place. record { list = owner; row = row; place = place })

  spot_owned : (thing : Thing) (s : Spot) → OwnsInside owners next owner thing
      → spot_in_thing addr owner (Some thing) ≡ Some s → (s.list ≡ owner) × IsOwned owners next owner addr
  spot_owned (things.List row) s owns is = by (position (λ e. e.block == addr) row.elements) refl is
    where
      by : (o : Option ℕ) → position (λ e. e.block == addr) row.elements ≡ o → spot_at row o ≡ Some s
          → (s.list ≡ owner) × IsOwned owners next owner addr
      by None at e = let none : None ≡ Some s = e in absurd cc
      by (Some place) at e = (
        ap (λ (o : Option Spot). (unwrap_or o s).list) (sym e),
        place_owned row.elements place owns.inside at,
      )
  spot_owned thing s owns is = let none : None ≡ Some s = is in absurd cc

  -- a block that isn't noted as the thing's isn't among its blocks
  module _ (not_noted : get owners addr ≡ Some owner → ⊥) where
    block_among-not_noted : (blocks : List UsedBlock) → All (Owns owners next owner) blocks → block_among addr blocks
        ≡ None
    block_among-not_noted [] all = refl
    block_among-not_noted (b ∷ bs) all =
        let here = All-head (Owns owners next owner) b bs all in
        let rest = block_among-not_noted bs (All-tail (Owns owners next owner) b bs all) in
        grind (arith, eqb-true b.addr addr, here.noted)

    place_among-not_noted : (elements : List Element) → All (Owns owners next owner) (map block_for_element elements)
        → position (λ e. e.block == addr) elements ≡ None
    place_among-not_noted elements all = by (position (λ e. e.block == addr) elements) refl
      where
        by : (o : Option ℕ) → position (λ e. e.block == addr) elements ≡ o → o ≡ None
        by None is = refl
        by (Some place) is = absurd (not_noted (place_owned elements place all is).noted)

    spot_in_thing-not_noted : (thing : Thing) → OwnsInside owners next owner thing
        → spot_in_thing addr owner (Some thing) ≡ None
    spot_in_thing-not_noted (things.List row) owns = ap (spot_at row) (place_among-not_noted row.elements owns.inside)
    spot_in_thing-not_noted thing owns = refl

-- the block at an address inside a thing, if there is one
abbrev pub inner_at : ℕ → Option Thing → Option UsedBlock
inner_at addr = option_and_then (λ thing. block_among addr (inner_blocks thing))

inner_among-first_at : (addr : ℕ) (es : List (ℕ × Thing))
    → inner_among addr es ≡ first_at (λ k thing. block_among addr (inner_blocks thing)) es
inner_among-first_at addr [] = refl
inner_among-first_at addr (e ∷ es) = grind (arith, inner_among-first_at addr es)

-- the spot of an element in the thing at an address, if there is one
abbrev pub spot_in : ℕ → ℕ → Option Thing → Option Spot
spot_in element owner = option_and_then (λ thing. spot_in_thing element owner (Some thing))

spot_among-first_at : (element : ℕ) (es : List (ℕ × Thing))
    → spot_among element es ≡ first_at (λ k thing. spot_in_thing element k (Some thing)) es
spot_among-first_at element [] = refl
spot_among-first_at element (e ∷ es) = grind (arith, spot_among-first_at element es)

-- where the things own what is inside them
module _ (owners : Owners) (next addr : ℕ) (m : Things) (own : OwnInside owners next m) where
  -- the block at an address is in its owner
  pub inner_among-owner : inner_among addr (entries m)
      ≡ option_and_then (λ owner. inner_at addr (get m owner)) (get owners addr)
  inner_among-owner =
      inner_among-first_at addr (entries m)
      ∙ first_at-noted (λ k thing. block_among addr (inner_blocks thing)) (get owners addr) m
      (λ k thing is away.
      block_among-not_noted owners next k addr away (inner_blocks thing) (own.each k thing is).inside)

  -- so is the spot of an element
  pub spot_among-owner : spot_among addr (entries m)
      ≡ option_and_then (λ owner. spot_in addr owner (get m owner)) (get owners addr)
  spot_among-owner =
      spot_among-first_at addr (entries m)
      ∙ first_at-noted (λ k thing. spot_in_thing addr k (Some thing)) (get owners addr) m
      (λ k thing is away. spot_in_thing-not_noted owners next k addr away thing (own.each k thing is))

-- the spot that is found in a thing is one of its own elements
pub spot_found : (owners : Owners) (next owner element : ℕ) (thing : Thing) (r : Option Found)
    → OwnsInside owners next owner thing → SpotIs r (spot_in_thing element owner (Some thing))
    → IfSome r (λ s. IsOwned owners next s.list element)
spot_found owners next owner element thing None owns is = tt
spot_found owners next owner element thing (Some f) owns is =
    let s : Spot = record { list = f.list; row = f.row.now; place = f.place } in
    let found = spot_owned owners next owner element thing s owns is in
    subst (λ list. IsOwned owners next list element) (sym found.0) found.1
