-- The entries of an index map as the catalogue's list.
use Rattle.std.proofs.Common.{◌≡◌, arith, ◌==◌, ◌++◌, ℕ, List, [], ◌∷◌, Bool, cond, Some, None, Vec, nat_eq, ap, sym, ◌∙◌, refl, map}
use Rattle.std.proofs.lemmas.Bool.{eqb-true}
use Rattle.std.proofs.lemmas.List.{map-append}
use Rattle.indexmap.specs.IndexMap.{IndexMap, insert_entry, shift_remove_entry}
use Rattle.indexmap.proofs.CallerLemmas.{insert_entry-new}
use Rattle.std.specs.Option.{option_map}
use Rattle.std.specs.Cmp.Lexicographic.{pointwise}
use Rattle.std.specs.List.{AllZip, list_any}
use Rattle.std.specs.Map.{lookup}
use Rattle.std.specs.declared.alloc.Global.{Global}
use Rattle.sdr_model.specs.Names.{name_of, without_name}
use Rattle.mem_store.specs.Entries.{named_of, names_in}
use Rattle.sdr_base.specs.declared.kind.Kind.TheVariants as kinds
use Rattle.sdr_model.specs.Things.{block_among, block_for_name, name_need}
use Rattle.sdr_model.specs.declared.name.Name.{Name}
use Rattle.mem_store.specs.declared.names.Named.{Named}

-- the catalogue has under a name what the map has under it
pub named-lookup : (name : List ℕ) (es : List (Vec ℕ Global × Named))
    → option_map named_of (name_of (names_in es) name) ≡ lookup (λ k. pointwise nat_eq name k.items) es
named-lookup name [] = refl
named-lookup name (e ∷ es) = grind (arith, named-lookup name es)

-- a block of the catalogue is one of the map's values
pub any_block : (addr : ℕ) (es : List (Vec ℕ Global × Named)) → list_any (λ n. n.block == addr) (names_in es) ≡ list_any (λ e. e.block == addr) (map (λ e. e.1) es)
any_block addr [] = refl
any_block addr (e ∷ es) = grind (arith, any_block addr es)

-- a new name goes last
pub names_in-insert : {S : Type 0} (m : IndexMap (Vec ℕ Global) Named S) (key : Vec ℕ Global) (entry : Named) → name_of (names_in m.entries) key.items ≡ None
    → names_in (insert_entry (λ a b. pointwise nat_eq a.items b.items) m.entries key entry)
    ≡ names_in m.entries ++ record { block = entry.block; name = key.items; kind = entry.kind; object = entry.object } ∷ []
names_in-insert m key entry absent =
    let none = sym (named-lookup key.items m.entries) ∙ ap (option_map named_of) absent in
    ap names_in (insert_entry-new (λ a b. pointwise nat_eq a.items b.items) m key entry none) ∙ map-append _ m.entries ((key, entry) ∷ [])

-- a name that goes from the map goes from the catalogue
pub names_in-remove : (name : List ℕ) (es : List (Vec ℕ Global × Named))
    → names_in (shift_remove_entry (λ k. pointwise nat_eq name k.items) es) ≡ without_name (names_in es) name
names_in-remove name [] = refl
names_in-remove name (e ∷ es) = grind (arith, names_in-remove name es)

-- what is a clone of each item is the same list, where a clone of an item is the same
pub clones_same : {X : Type 0} (R : X → X → Type 0) → ((x y : X) → R x y → y ≡ x) → (xs ys : List X) → AllZip R xs ys → ys ≡ xs
clones_same R same [] [] z = refl
clones_same R same [] (y ∷ ys) z = absurd z
clones_same R same (x ∷ xs) [] z = absurd z
clones_same R same (x ∷ xs) (y ∷ ys) z = grind (arith, same x y z.0, clones_same R same xs ys z.1)

-- a clone of the map has the same catalogue
pub names_in-clone : (C : Vec ℕ Global → Vec ℕ Global → Type 0) (D : Named → Named → Type 0)
    → ((v w : Vec ℕ Global) → C v w → w.items ≡ v.items) → ((x y : Named) → D x y → y ≡ x)
    → (es fs : List (Vec ℕ Global × Named)) → AllZip (λ p q. C p.0 q.0 × D p.1 q.1) es fs → names_in fs ≡ names_in es
names_in-clone C D key entry [] [] z = refl
names_in-clone C D key entry [] (f ∷ fs) z = absurd z
names_in-clone C D key entry (e ∷ es) [] z = absurd z
names_in-clone C D key entry (e ∷ es) (f ∷ fs) z = grind (arith, key e.0 f.0 z.0.0, entry e.1 f.1 z.0.1, names_in-clone C D key entry es fs z.1)

-- the block of the catalogue at an address is an entry's, where one has it
pub block_among-names : (addr : ℕ) (names : List Name)
    → block_among addr (map block_for_name names)
    ≡ cond (list_any (λ n. n.block == addr) names) (Some (record { addr = addr; kind = kinds.Name; bytes = name_need })) None
block_among-names addr [] = refl
block_among-names addr (n ∷ names) = grind (arith, eqb-true n.block addr, block_among-names addr names)

-- the block of the map's catalogue at an address, where the test for it says so
pub block_tested : (addr : ℕ) (es : List (Vec ℕ Global × Named)) (names : List Name) (b : Bool) → names_in es ≡ names
    → b ≡ list_any (λ e. e.block == addr) (map (λ e. e.1) es)
    → block_among addr (map block_for_name names) ≡ cond b (Some (record { addr = addr; kind = kinds.Name; bytes = name_need })) None
block_tested addr es names b is tests = grind (arith, is, tests, block_among-names addr (names_in es), any_block addr es)
