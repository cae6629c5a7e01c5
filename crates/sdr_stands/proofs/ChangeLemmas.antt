-- A thing that comes, changes or goes in a heap that stands for a world.
use Rattle.std.proofs.Common.{◌≡◌, ◌≢◌, ℕ, ◌==◌, List, [], ◌∷◌, ◌++◌, Bool, true, false, cond, ◌||◌, Option, Some, None, refl, sym, ap, ◌∙◌, subst, append_assoc, append-nil}
use Rattle.std.specs.List.{list_any}
use Rattle.std.proofs.lemmas.Bool.{eq-eqb, eqb-true, ne_eqb}
use Rattle.std.proofs.lemmas.List.Folds.{list_any-append}
use Rattle.sdr_base.specs.Blocks.{Block, with_at}
use Rattle.sdr_base.specs.Entries.{Among, Entries, BlocksAre, Changes, Swaps}
use Rattle.sdr_base.specs.Making.{MakesThing, Made, marked_by}
use Rattle.sdr_base.specs.Objects.{Heap}
use Rattle.sdr_base.specs.declared.moves.Move.{Move}
use Rattle.sdr_base.specs.declared.moves.Move.TheVariants.{Took, Gave, Short}
use Rattle.sdr_base.proofs.StandingLemmas.{focused, found, stands_swapped}
use Rattle.sdr_model.specs.Steps.{taken_addresses, with_thing, without_thing}
use Rattle.sdr_model.specs.World.{World, thing_at}
use Rattle.sdr_model.specs.declared.things.Thing.{Thing}
use Rattle.sdr_model.specs.declared.things.Thing.TheVariants as things
use Rattle.sdr_stands.specs.Standing.{HeapStandsFor, entries_of, roots_of, thing_entries, with_taken_marked}
use Rattle.sdr_stands.specs.Ties.{IsUntied, NoneIsTied, Ties, ties_of}
use Rattle.sdr_stands.proofs.RootsLemmas.{same_roots}
use Rattle.sdr_stands.proofs.PartLemmas.{among, thing_changed, thing_gone, thing_new}
use Rattle.sdr_stands.proofs.TiesLemmas.{untied_alike}

-- the entries are those of something whose first block stands at an address
record Heads (addr : ℕ) (es : Entries) : Type 0 where
  block : Block
  rest : Entries
  is : es ≡ (addr, block) ∷ rest

heads : (ties : Ties) (addr : ℕ) (thing : Thing) → Heads addr (thing_entries ties addr thing)
heads ties addr (things.Raw bytes) = record { block = _; rest = []; is = refl }
heads ties addr (things.Text text) = record { block = _; rest = []; is = refl }
heads ties addr (things.List list) = record { block = _; rest = _; is = refl }
heads ties addr (things.Table table) = record { block = _; rest = []; is = refl }
heads ties addr (things.Hash hash) = record { block = _; rest = _; is = refl }
heads ties addr (things.Source source) = record { block = _; rest = []; is = refl }
heads ties addr (things.Object object) = record { block = _; rest = _; is = refl }

-- the blocks of a thing stand, and others beside them
pub apart : {heap : Heap} {w : World} (addr : ℕ) (thing : Thing) → HeapStandsFor heap w → thing_at w addr ≡ Some thing →
    Among heap.blocks (thing_entries (ties_of w) addr thing)
apart {heap} {w} addr thing s is =
    let swap = among w addr thing is in
    record { rest = swap.before ++ swap.behind; stands = focused swap s.blocks }

-- its own block is in use
pub in_use : {heap : Heap} {w : World} (addr : ℕ) (thing : Thing) → HeapStandsFor heap w → thing_at w addr ≡ Some thing →
    heap.blocks addr ≢ None
in_use {heap} {w} addr thing s is free =
    let a = apart addr thing s is in
    let h = heads (ties_of w) addr thing in
    let here : heap.blocks addr ≡ Some h.block =
    found heap.blocks addr h.block [] (h.rest ++ a.rest)
    (subst (λ es. BlocksAre heap.blocks (es ++ a.rest)) h.is a.stands) in
    let d : None ≡ Some h.block = sym free ∙ here in cc

-- so nothing is where no block is
pub nothing_at : {heap : Heap} {w : World} (addr : ℕ) → HeapStandsFor heap w → heap.blocks addr ≡ None →
    thing_at w addr ≡ None
nothing_at {heap} {w} addr s free = by (thing_at w addr) refl
  where
    by : (o : Option Thing) → thing_at w addr ≡ o → thing_at w addr ≡ None
    by None is = is
    by (Some thing) is = absurd (in_use addr thing s is free)

same_test : (a q : ℕ) (o : Bool) → cond (q == a) true o ≡ (o || ((a == q) || false))
same_test a q o = elim (q == a) as (λ b. q == a ≡ b → cond b true o ≡ (o || ((a == q) || false))) [
  | true ↦ λ e. by_true o (eq-eqb a q (sym (eqb-true q a e)))
  | false ↦ λ e. by_false o (ne_eqb a q (λ s. let d : true ≡ false = sym (eq-eqb q a (sym s)) ∙ e in cc))
] refl
  where
    by_true : (o : Bool) → (a == q) ≡ true → true ≡ (o || ((a == q) || false))
    by_true true e = refl
    by_true false e = sym (ap (λ b. b || false) e)

    by_false : (o : Bool) → (a == q) ≡ false → o ≡ (o || ((a == q) || false))
    by_false true e = refl
    by_false false e = sym (ap (λ b. b || false) e)

-- whether an address is one of these
abbrev is_one : ℕ → List ℕ → Bool
is_one q addrs = list_any (λ m. m == q) addrs

-- what the moves take is marked, in the heap and in the world
marked : (marks : ℕ → Bool) (addrs : List ℕ) (moves : List Move) → ((q : ℕ) → marks q ≡ is_one q addrs) → (q : ℕ) →
    marked_by marks moves q ≡ is_one q (addrs ++ taken_addresses moves)
unfolding with_at
marked marks addrs [] same q = same q ∙ ap (is_one q) (sym (append-nil addrs))
marked marks addrs (Took need addr ∷ moves) same q =
    marked (with_at marks addr true) (addrs ++ addr ∷ []) moves
    (λ r. ap (λ b. cond (r == addr) true b) (same r) ∙ same_test addr r (is_one r addrs)
    ∙ sym (list_any-append (λ m. m == r) addrs (addr ∷ []))) q
    ∙ ap (is_one q) (append_assoc addrs (addr ∷ []) (taken_addresses moves))
marked marks addrs (Gave addr ∷ moves) same q = marked marks addrs moves same q
marked marks addrs (Short need ∷ moves) same q = marked marks addrs moves same q

-- a part of the world's blocks becomes another, with moves, and the control words are the other world's
pub part_becomes : (old new : Heap) (w w' : World) (part part' : Entries) (moves : List Move) → HeapStandsFor old w →
    Swaps (entries_of w) (entries_of w') part part' → Changes old.blocks new.blocks part part' →
    new.marks ≡ marked_by old.marks moves → new.roots ≡ roots_of w' → w'.marks ≡ w.marks →
    HeapStandsFor new (with_taken_marked w' moves)
part_becomes old new w w' part part' moves s swaps changes marks roots same = record {
  blocks = stands_swapped s.blocks swaps changes;
  roots = roots;
  marks = λ q.
      ap (λ (m : ℕ → Bool). m q) marks ∙ marked old.marks w.marks moves s.marks q
      ∙ ap (λ addrs. is_one q (addrs ++ taken_addresses moves)) (sym same);
}

-- so where the control words stay
pub part_changed : {old new : Heap} {w : World} (w' : World) {part part' : Entries} (moves : List Move) →
    HeapStandsFor old w → Swaps (entries_of w) (entries_of w') part part' → Changes old.blocks new.blocks part part' →
    Made moves old new → roots_of w' ≡ roots_of w → w'.marks ≡ w.marks →
    HeapStandsFor new (with_taken_marked w' moves)
part_changed {old} {new} {w} w' {part} {part'} moves s swaps changes made roots marks =
    part_becomes old new w w' part part' moves s swaps changes (ap (λ (h : Heap). h.marks) made.all)
    (ap (λ (h : Heap). h.roots) made.all ∙ s.roots ∙ sym roots) marks

-- a thing that was made is one more of the world's
pub comes : (need addr : ℕ) (old new : Heap) (w : World) (thing : Thing) → IsUntied thing → HeapStandsFor old w →
    MakesThing need addr (thing_entries (ties_of w) addr thing) old new →
    HeapStandsFor new (with_taken_marked (with_thing w addr thing) (Took need addr ∷ []))
comes need addr old new w thing untied s m =
    let none = nothing_at addr s m.adds.fresh in
    part_changed (with_thing w addr thing) (Took need addr ∷ []) s (thing_new w addr thing none (untied_alike None (Some thing) tt untied)) m.adds.changes
    m.made (same_roots w addr (Some thing) (subst NoneIsTied (sym none) tt) untied) refl

-- one becomes another
pub changes : (addr : ℕ) (old new : Heap) (w : World) (thing other : Thing) (moves : List Move) →
    thing_at w addr ≡ Some thing → IsUntied thing → IsUntied other → HeapStandsFor old w →
    Changes old.blocks new.blocks (thing_entries (ties_of w) addr thing) (thing_entries (ties_of w) addr other) →
    Made moves old new → HeapStandsFor new (with_taken_marked (with_thing w addr other) moves)
changes addr old new w thing other moves is was becomes s c m =
    part_changed (with_thing w addr other) moves s (thing_changed w addr thing other is (untied_alike (Some thing) (Some other) was becomes)) c m
    (same_roots w addr (Some other) (subst NoneIsTied (sym is) was) becomes) refl

-- one goes
pub goes : (addr : ℕ) (old new : Heap) (w : World) (thing : Thing) (moves : List Move) →
    thing_at w addr ≡ Some thing → IsUntied thing → HeapStandsFor old w →
    Changes old.blocks new.blocks (thing_entries (ties_of w) addr thing) [] →
    Made moves old new → HeapStandsFor new (with_taken_marked (without_thing w addr) moves)
goes addr old new w thing moves is was s c m =
    part_changed (without_thing w addr) moves s (thing_gone w addr thing is (untied_alike (Some thing) None was tt)) c m
    (same_roots w addr None (subst NoneIsTied (sym is) was) tt) refl
