-- The things of a world in the making.
use Rattle.sdr_model.specs.Things.{with_at, Things}
use Rattle.sdr_model.specs.contracts.things.Thing as thing
use Rattle.mem_parts.specs.Components.{with_component}
use Rattle.mem_parts.specs.declared.component.Component.{Component}
use Rattle.mem_store.specs.Tallies.{AreTallied}
use Rattle.mem_store.specs.declared.place.Place.{Place}
use Rattle.mem_store.specs.declared.place.Stays.{Stays}
use Rattle.mem_store.specs.declared.place.Stays.TheVariants as stays
use Rattle.mem_store.specs.declared.tallied.Tallied.{Tallied}
use Rattle.sdr_model.specs.declared.things.Thing.{Thing}
use Rattle.sdr_model.specs.declared.things.Thing.TheVariants as things
use Rattle.std.specs.BTreeMap.{is_at}
use Rattle.std.specs.Coded.{Coded, code_by, coded×, coded_ℕ, coded_list}
use Rattle.std.specs.FinMap as finite
use Rattle.std.specs.Map.{lookup}
use Rattle.std.specs.Option.{option_and_then, option_map, option_to_list}
use Rattle.std.specs.List.{flat_map}
use Rattle.std.specs.Ordering.{nat_cmp}
use Rattle.std.specs.Prelude.{◌≡◌, ◌↔◌, ℕ, Bool, true, List, [], ◌∷◌, cond, Option, None, Some, Contains, is_some, unwrap_or, refl}

-- the things at the begin of the open transaction, the things now, and the addresses that were touched since
pub record Store : Type 0 where
  pub begun : Things
  pub now : Things
  pub touched : List ℕ

-- a store as its parts
abbrev pub coded_store : Coded Store
coded_store = code_by (Things × (Things × List ℕ))
    (coded× (finite.code coded_ℕ thing.the_row.coded) (coded× (finite.code coded_ℕ thing.the_row.coded) (coded_list coded_ℕ)))
    (λ s. (s.begun, (s.now, s.touched)))
    (λ p. record { begun = p.0; now = p.1.0; touched = p.1.1 })
    (λ _. refl)

-- what was at a place at the begin
abbrev pub begun_at : Place → Option Thing
begun_at place = unwrap_or place.begun place.thing

-- what is at it now
abbrev pub now_at : Place → Option Thing
now_at place = place.thing

-- what stays at it
abbrev pub staying : Stays → Place → Option Thing
staying stays.Now = now_at
staying stays.Begun = begun_at

-- the place at an address
abbrev pub place_at : List (ℕ × Place) → ℕ → Option Place
place_at places addr = lookup (is_at (nat_cmp addr)) places

-- the places differ at one address, where the place, or none, is changed by this
abbrev pub ChangesAt : List (ℕ × Place) → List (ℕ × Place) → ℕ → (Option Place → Option Place) → Type 0
ChangesAt old new addr change = (q : ℕ) → place_at new q ≡ cond (is_at (nat_cmp addr) q) (change (place_at old q)) (place_at old q)

-- a place with another thing, or nothing
abbrev pub with_thing : Option Thing → Place → Place
with_thing thing place = record place { thing = thing }

-- a place that keeps what is there as what was there at the begin
abbrev pub saving : Option Place → Option Place
saving place = Some (record { begun = Some (option_and_then now_at place); thing = option_and_then now_at place })

-- a place that keeps nothing of the begin, with what stays
abbrev pub cleared : Stays → Place → Place
cleared s place = record { begun = None; thing = staying s place }

-- a place when the transaction is over: there is none where nothing stays
abbrev pub settled : Stays → Place → Option Place
settled s place = option_map (λ thing. record { begun = None; thing = Some thing }) (staying s place)

-- a thing with one more component, where it is an object
abbrev pub with_more : Component → Option Thing → Option Thing
with_more component (Some (things.Object z)) = Some (things.Object (with_component z component))
with_more component thing = thing

-- a place whose thing has one more component
abbrev pub growing : Component → Place → Place
growing component place = record place { thing = with_more component place.thing }

-- the things that stay
abbrev pub things_of : Stays → Store → Things
things_of stays.Now s = s.now
things_of stays.Begun s = s.begun

-- the things that are at these places
abbrev pub things_at : (Place → Option Thing) → List (ℕ × Place) → Things
things_at of [] = finite.empty
things_at of ((addr, place) ∷ places) = with_at (things_at of places) addr (of place)

-- the thing at a place, with its address, where there is one
abbrev pub thing_in : ℕ × Place → List (ℕ × Thing)
thing_in e = option_to_list (option_map (λ thing. (e.0, thing)) e.1.thing)

-- the things at these places, with their addresses
abbrev pub things_in : List (ℕ × Place) → List (ℕ × Thing)
things_in = flat_map thing_in

-- whether a place keeps what was there at the begin
abbrev pub is_saved : Option Place → Bool
is_saved place = is_some (option_and_then (λ p. p.begun) place)

-- whether the place at an address does
abbrev pub saved_at : List (ℕ × Place) → ℕ → Bool
saved_at places addr = is_saved (place_at places addr)

-- an address was touched just where what was there at the begin is kept
abbrev pub AreTouched : List (ℕ × Place) → List ℕ → Type 0
AreTouched places touched = (addr : ℕ) → (saved_at places addr ≡ true) ↔ Contains touched addr

-- a store's addresses that were touched are noted, and its tallies are of the things now
pub record IsKept (places : List (ℕ × Place)) (addrs : List ℕ) (tallies : Tallied) : Type 0 where
  pub touched : AreTouched places addrs
  pub tallied : AreTallied (things_at now_at places) tallies
