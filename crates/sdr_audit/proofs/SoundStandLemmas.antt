-- Each block of a world stands at its address.
use Rattle.std.proofs.Common.{◌≡◌, ℕ, List, [], ◌∷◌, ◌++◌, Some, append_assoc, sym, subst}
use Rattle.std.specs.List.{All, flat_map}
use Rattle.std.proofs.lemmas.List.Elements.{All-append, All-cons, All-head, All-nil, All-tail}
use Rattle.sdr_base.proofs.SectionLemmas.{section-change}
use Rattle.sdr_base.proofs.StandingLemmas.{found, nonzero}
use Rattle.sdr_base.specs.Blocks.{Block}
use Rattle.sdr_base.specs.Entries.{Entries, BlocksAre}
use Rattle.sdr_base.specs.Linked.{first_of, linked}
use Rattle.sdr_base.specs.Section.{section}
use Rattle.sdr_model.specs.World.{World, thing_at}
use Rattle.sdr_model.specs.declared.things.Thing.{Thing}
use Rattle.sdr_stands.specs.Standing.{entries_of, other_entries, thing_entries}
use Rattle.sdr_stands.specs.Ties.{ties_of}
use Rattle.audit_owners.specs.Linking.{AllStandAt, StandsAt}
use Rattle.audit_owners.specs.View.{View}

-- what holds of each of a list holds of each of a part of it
pub All-left : {X : Type 0} (P : X → Type 0) (xs ys : List X) → All P (xs ++ ys) → All P xs
All-left P [] ys all = All-nil P
All-left P (x ∷ xs) ys all = All-cons P x xs (All-head P x (xs ++ ys) all) (All-left P xs ys (All-tail P x (xs ++ ys) all))

pub All-right : {X : Type 0} (P : X → Type 0) (xs ys : List X) → All P (xs ++ ys) → All P ys
All-right P [] ys all = all
All-right P (x ∷ xs) ys all = All-right P xs ys (All-tail P x (xs ++ ys) all)

-- and of each of those that a function makes of one
pub All-part : {X Y : Type 0} (P : X → Type 0) (f : Y → List X) (ys : List Y) → All P (flat_map f ys) → All (λ y. All P (f y)) ys
All-part P f [] all = All-nil (λ y. All P (f y))
All-part P f (y ∷ ys) all =
    All-cons (λ y. All P (f y)) y ys (All-left P (f y) (flat_map f ys) all) (All-part P f ys (All-right P (f y) (flat_map f ys) all))

pub All-whole : {X Y : Type 0} (P : X → Type 0) (f : Y → List X) (ys : List Y) → All (λ y. All P (f y)) ys → All P (flat_map f ys)
All-whole P f [] all = All-nil P
All-whole P f (y ∷ ys) all = All-append P (f y) (flat_map f ys) (All-head (λ y. All P (f y)) y ys all) (All-whole P f ys (All-tail (λ y. All P (f y)) y ys all))

pub All-every : {X : Type 0} (P : X → Type 0) → ((x : X) → P x) → (xs : List X) → All P xs
All-every P each [] = All-nil P
All-every P each (x ∷ xs) = All-cons P x xs (each x) (All-every P each xs)

-- and of the blocks of a chain where it holds of each row's
pub All-linked : {X : Type 0} (P : ℕ × Block → Type 0) (addr : X → ℕ) (block : ℕ → ℕ → X → Block) (R : X → Type 0) →
    ((before next : ℕ) (x : X) → R x → P (addr x, block before next x)) → (before next : ℕ) (xs : List X) → All R xs → All P (linked addr block before next xs)
unfolding linked
All-linked P addr block R each before next [] all = All-nil P
All-linked P addr block R each before next (x ∷ xs) all =
    All-cons P (addr x, block before (first_of addr next xs) x) (linked addr block (addr x) next xs) (each before (first_of addr next xs) x (All-head R x xs all))
    (All-linked P addr block R each (addr x) next xs (All-tail R x xs all))

-- all that are listed stand
pub stands_all : (heap : View) (before entries : Entries) → BlocksAre heap.blocks (before ++ entries) → AllStandAt heap entries
stands_all heap before [] stands = All-nil (StandsAt heap)
stands_all heap before (e ∷ es) stands =
    All-cons (StandsAt heap) e es
    (record { some = nonzero heap.blocks e.0 e.1 before es stands; is = found heap.blocks e.0 e.1 before es stands })
    (stands_all heap (before ++ (e ∷ [])) es (subst (BlocksAre heap.blocks) (sym (append_assoc before (e ∷ []) es)) stands))

module _ (heap : View) (w : World) (stands : BlocksAre heap.blocks (entries_of w)) where
  all_stand : AllStandAt heap (entries_of w)
  all_stand = stands_all heap [] (entries_of w) stands

  -- the blocks of a thing stand
  pub thing_stands : (addr : ℕ) (thing : Thing) → thing_at w addr ≡ Some thing → AllStandAt heap (thing_entries (ties_of w) addr thing)
  thing_stands addr thing is =
      let r = section-change (thing_entries (ties_of w)) w.things addr thing thing is in
      let all = subst (AllStandAt heap) r.was (All-left (StandsAt heap) (section (thing_entries (ties_of w)) w.things) (other_entries w) all_stand) in
      All-left (StandsAt heap) (thing_entries (ties_of w) addr thing) r.behind
      (All-right (StandsAt heap) r.before (thing_entries (ties_of w) addr thing ++ r.behind) all)

  -- and those of the catalogue and of the tickets
  pub others_stand : AllStandAt heap (other_entries w)
  others_stand = All-right (StandsAt heap) (section (thing_entries (ties_of w)) w.things) (other_entries w) all_stand
