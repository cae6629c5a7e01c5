-- What owns the blocks inside it keeps owning them.
use Rattle.std.proofs.Common.{◌≡◌, ◌≤◌, ◌<◌, ◌+◌, ℕ, zero, suc, arith, Bool, true, false, List, [], ◌∷◌, cond, map, length, take, drop, set as set_at, Some, None, ap, sym, ◌∙◌, refl, subst, subst₂, unwrap_or, Result, Ok, Err}
use Rattle.std.proofs.lemmas.List.Elements.{All-append, All-cons, All-drop, All-head, All-map, All-nil, All-set, All-tail, All-take, All-weaker}
use Rattle.std.specs.BTreeMap.{is_at}
use Rattle.std.specs.Cmp.{nat_cmp_total}
use Rattle.std.specs.FinMap.{empty, get, insert, remove, get-empty, get-insert, get-remove}
use Rattle.std.specs.List.{All, insert as insert_at, remove as remove_at}
use Rattle.std.specs.Ordering.{nat_cmp}
use Rattle.std.specs.Prelude.{OnErr, OnOk}
use Rattle.mem_store.specs.Draft.{Draft}
use Rattle.sdr_model.specs.Dry.{next_addr}
use Rattle.sdr_model.specs.HashSteps.{entry_addr}
use Rattle.mem_store.specs.Owners.{AllOwnInside, IsOwned, MayPut, Owns, OwnInside, OwnsInside}
use Rattle.sdr_model.specs.Things.{Owners, Things, entry_block, inner_blocks}
use Rattle.sdr_model.specs.declared.things.UsedBlock.{UsedBlock}
use Rattle.sdr_model.specs.declared.things.HashEntry.{HashEntry}
use Rattle.sdr_model.specs.declared.things.Thing.{Thing}
use Rattle.sdr_model.proofs.ThingsLemmas.{same_address}

module _ {X Y : Type 0} (P : Y → Type 0) (f : X → Y) where
  abbrev Of : X → Type 0
  Of x = P (f x)

  -- what holds of what a function makes of each item
  pub All-from_map : (xs : List X) → All P (map f xs) → All (λ x. P (f x)) xs
  All-from_map [] all = All-nil Of
  All-from_map (x ∷ xs) all =
      All-cons Of x xs (All-head P (f x) (map f xs) all) (All-from_map xs (All-tail P (f x) (map f xs) all))

  -- it still does where an item is taken out, put in or put in another's place
  module _ (xs : List X) (place : ℕ) (all : All P (map f xs)) where
    each : All Of xs
    each = All-from_map xs all

    before : All Of (take place xs)
    before = All-take Of place xs each

    All-map-remove : All P (map f (remove_at xs place))
    All-map-remove =
        All-map P f (remove_at xs place)
        (All-append Of (take place xs) (drop (suc place) xs) before (All-drop Of (suc place) xs each))

    All-map-insert : (x : X) → P (f x) → All P (map f (insert_at xs place x))
    All-map-insert x here =
        All-map P f (insert_at xs place x)
        (All-append Of (take place xs) (x ∷ drop place xs) before
        (All-cons Of x (drop place xs) here (All-drop Of place xs each)))

    All-map-set : (x : X) → P (f x) → All P (map f (set_at xs place x))
    All-map-set x here = All-map P f (set_at xs place x) (All-set Of xs place x here each)

module _ (owners : Owners) (next owner : ℕ) where
  -- a thing with nothing inside owns all of it
  pub owns_nothing : (thing : Thing) → owner < next → inner_blocks thing ≡ [] → OwnsInside owners next owner thing
  owns_nothing thing below bare = record {
    below = below;
    inside = subst (All (Owns owners next owner)) (sym bare) (All-nil (Owns owners next owner));
  }

  -- a thing still owns what is inside it where an item is taken out, put in or put in another's place
  module _ {X : Type 0} (f : X → UsedBlock) (xs : List X) (place : ℕ) (old new : Thing)
      (was : inner_blocks old ≡ map f xs) (owns : OwnsInside owners next owner old) where
    all_owned : All (Owns owners next owner) (map f xs)
    all_owned = subst (All (Owns owners next owner)) was owns.inside

    owned_by : (blocks : List UsedBlock) → inner_blocks new ≡ blocks → All (Owns owners next owner) blocks
        → OwnsInside owners next owner new
    owned_by blocks is all = record { below = owns.below; inside = subst (All (Owns owners next owner)) (sym is) all }

    pub OwnsInside-removed : inner_blocks new ≡ map f (remove_at xs place) → OwnsInside owners next owner new
    OwnsInside-removed is = owned_by _ is (All-map-remove (Owns owners next owner) f xs place all_owned)

    pub OwnsInside-inserted : (x : X) → Owns owners next owner (f x) → inner_blocks new ≡ map f (insert_at xs place x)
        → OwnsInside owners next owner new
    OwnsInside-inserted x here is = owned_by _ is (All-map-insert (Owns owners next owner) f xs place all_owned x here)

    pub OwnsInside-set : (x : X) → Owns owners next owner (f x) → inner_blocks new ≡ map f (set_at xs place x)
        → OwnsInside owners next owner new
    OwnsInside-set x here is = owned_by _ is (All-map-set (Owns owners next owner) f xs place all_owned x here)

  -- the entry at a place of a hash is owned
  pub entry_owned : (entries : List HashEntry) (place : ℕ) → All (Owns owners next owner) (map entry_block entries)
      → place < length entries → IsOwned owners next owner (entry_addr entries place)
  entry_owned [] place all inside = absurd (omega arith)
  entry_owned (e ∷ es) zero all inside = All-head (Owns owners next owner) (entry_block e) (map entry_block es) all
  entry_owned (e ∷ es) (suc place) all inside =
      entry_owned es place (All-tail (Owns owners next owner) (entry_block e) (map entry_block es) all) (omega arith)

-- with a higher next address all is owned as before
module _ (owners : Owners) (next more : ℕ) (higher : next ≤ more) where
  IsOwned-raised : (owner addr : ℕ) → IsOwned owners next owner addr → IsOwned owners more owner addr
  IsOwned-raised owner addr is = record { noted = is.noted; below = omega (arith, is.below) }

  pub OwnsInside-raised : (owner : ℕ) (thing : Thing) → OwnsInside owners next owner thing
      → OwnsInside owners more owner thing
  OwnsInside-raised owner thing owns = record {
    below = omega (arith, owns.below);
    inside = All-weaker _ _ (λ b is. IsOwned-raised owner b.addr is) (inner_blocks thing) owns.inside;
  }

  pub OwnInside-raised : (things : Things) → OwnInside owners next things → OwnInside owners more things
  OwnInside-raised things own = record { each = λ addr thing is. OwnsInside-raised addr thing (own.each addr thing is) }

-- an owner that is noted at an address that isn't below the next leaves the others
module _ (owners : Owners) (next block by : ℕ) (new : next ≤ block) where
  IsOwned-noted : (owner addr : ℕ) → IsOwned owners next owner addr → IsOwned (insert owners block by) next owner addr
  IsOwned-noted owner addr is = record {
    noted = grind (arith, get-insert nat_cmp_total owners block by addr, same_address addr block, is.noted, is.below);
    below = is.below;
  }

  OwnInside-noted : (things : Things) → OwnInside owners next things → OwnInside (insert owners block by) next things
  OwnInside-noted things own = record {
    each = λ addr thing is. record {
      below = (own.each addr thing is).below;
      inside =
          All-weaker _ _ (λ b has. IsOwned-noted addr b.addr has) (inner_blocks thing) (own.each addr thing is).inside;
    };
  }

  pub AllOwnInside-noted : (noted : Owners) (begun now : Things) → noted ≡ insert owners block by
      → AllOwnInside owners next begun now → AllOwnInside noted next begun now
  AllOwnInside-noted noted begun now is own =
      subst (λ o. AllOwnInside o next begun now) (sym is)
      (record { begun = OwnInside-noted begun own.begun; now = OwnInside-noted now own.now })

-- no thing owns nothing
pub OwnInside-empty : (owners : Owners) (next : ℕ) → OwnInside owners next empty
OwnInside-empty owners next = record {
  each = λ addr thing is. let none : None ≡ Some thing = sym (get-empty nat_cmp addr) ∙ is in cc;
}

-- the things still own what is inside them where one goes, and where one comes that does
module _ (owners : Owners) (next : ℕ) (things : Things) (k : ℕ) (own : OwnInside owners next things) where
  pub OwnInside-remove : OwnInside owners next (remove things k)
  OwnInside-remove = record {
    each = λ addr thing is. own.each addr thing (grind (arith, get-remove nat_cmp_total things k addr));
  }

  pub OwnInside-insert : (new : Thing) → OwnsInside owners next k new → OwnInside owners next (insert things k new)
  OwnInside-insert new owns = record {
    each = λ addr thing is.
        by addr thing (is_at (nat_cmp addr) k) refl (sym (get-insert nat_cmp_total things k new addr) ∙ is);
  }
    where
      by : (addr : ℕ) (thing : Thing) (b : Bool) → is_at (nat_cmp addr) k ≡ b
          → cond b (Some new) (get things addr) ≡ Some thing → OwnsInside owners next addr thing
      by addr thing true at is =
          subst₂ (OwnsInside owners next) (sym (same_address addr k at)) (ap (λ o. unwrap_or o new) is) owns
      by addr thing false at is = own.each addr thing is

-- so they do where one was taken out, or could not be
pub AllOwnInside-taken : {E : Type 0} (owners : Owners) (next k : ℕ) (old new old' new' : Things) (r : Result Thing E)
    → old' ≡ old → OnOk r (new' ≡ remove new k) → OnErr r (new' ≡ new)
    → AllOwnInside owners next old new → AllOwnInside owners next old' new'
AllOwnInside-taken owners next k old new old' new' (Ok thing) stays without same own =
    subst₂ (AllOwnInside owners next) (sym stays) (sym without)
    (record { begun = own.begun; now = OwnInside-remove owners next new k own.now })
AllOwnInside-taken owners next k old new old' new' (Err e) stays without same own =
    subst₂ (AllOwnInside owners next) (sym stays) (sym same) own

-- a thing may be put again with a new item, whose block was the next, was noted as the thing's, and is counted
module _ {X : Type 0} (f : X → UsedBlock) (xs : List X) (place : ℕ) (x : X) (before counted : Draft) (owner : ℕ) where
  pub MayPut-inserted : (old new : Thing) → inner_blocks old ≡ map f xs → MayPut before owner old
      → counted.now.taken ≡ before.now.taken + 1 → counted.owners ≡ before.owners
      → (f x).addr ≡ next_addr before.now.taken → get before.owners (f x).addr ≡ Some owner
      → inner_blocks new ≡ map f (insert_at xs place x) → MayPut counted owner new
  MayPut-inserted old new was may one_more same_owners next noted is =
      let more = next_addr counted.now.taken in
      let higher : next_addr before.now.taken ≤ more = omega arith in
      let below : (f x).addr < more = omega arith in
      subst (λ owners. OwnsInside owners more owner new) (sym same_owners)
      (OwnsInside-inserted before.owners more owner f xs place old new was
      (OwnsInside-raised before.owners _ more higher owner old may) x (record { noted = noted; below = below }) is)
