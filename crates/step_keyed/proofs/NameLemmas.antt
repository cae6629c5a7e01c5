-- The catalogue in blocks.
use Rattle.std.proofs.Common.{◌≡◌, ◌∙◌, ◌-◌, ◌==◌, ◌++◌, ℕ, suc, List, [], ◌∷◌, Bool, true, false, cond, if◌then◌else◌, find, map, length, get_or, nat_lt, Some, refl, sym, ap, subst, arith}
use Rattle.std.specs.Cmp.Lexicographic.{pointwise}
use Rattle.std.specs.Option.{option_map}
use Rattle.std.specs.Prelude.{All, nat_eq, replicate}
use Rattle.std.specs.List.{AllByRecursion}
use Rattle.std.proofs.lemmas.Bool.Decides.{nat_tests}
use Rattle.std.proofs.lemmas.List.Elements.{All-cons, All-head, All-nil, All-tail}
use Rattle.step_things.specs.Answering.{IsReady}
use Rattle.sdr_stands.proofs.GroupLemmas.{each_of}
use Rattle.sdr_stands.proofs.PartLemmas.{names_part}
use Rattle.sdr_stands.specs.Rows.{name_row}
use Rattle.sdr_stands.specs.Standing.{HeapStandsFor, account_roots, roots_of}
use Rattle.sdr_base.proofs.StandingLemmas.{focused}
use Rattle.sdr_base.specs.Blocks.{with_at}
use Rattle.sdr_base.specs.Catalogue.{NameRow, name_addr}
use Rattle.sdr_base.specs.Linked.{first_of, last_of}
use Rattle.sdr_base.specs.Objects.{Heap}
use Rattle.sdr_base.specs.Roots.{roots_by}
use Rattle.sdr_base.specs.declared.account.Acct.TheVariants as accts
use Rattle.sdr_base.specs.declared.control.TheConstants.{FIRST_NAME, HEAP_VERSION, LAST_NAME}
use Rattle.sdr_cat.specs.Changes.{with_names}
use Rattle.sdr_cat.specs.Kept.{KeepsNames, NameFits}
use Rattle.sdr_cat.specs.Names as blocks
use Rattle.sdr_cat.specs.Names.{is_named}
use Rattle.sdr_model.specs.Fields.{FitsName}
use Rattle.sdr_model.specs.Limits.{longest_name}
use Rattle.sdr_model.specs.Names.{name_of, without_name}
use Rattle.sdr_model.specs.Valid.{IsBetween}
use Rattle.sdr_model.specs.World.{World}
use Rattle.sdr_model.specs.declared.name.Name.{Name}

-- the control words of the catalogue are the world's
first_root : (w : World) → roots_of w FIRST_NAME ≡ first_of name_addr 0 (map name_row w.names)
unfolding roots_by
first_root w = refl

last_root : (w : World) → roots_of w LAST_NAME ≡ last_of name_addr 0 (map name_row w.names)
unfolding roots_by
last_root w = refl

fit_names : (ns : List Name) → All FitsName ns → AllByRecursion (λ (n : Name). IsBetween 1 longest_name (length n.name)) ns
    → All NameFits (map name_row ns)
fit_names [] fits short = All-nil NameFits
fit_names (n ∷ ns) fits short =
    let f = All-head FitsName n ns fits in
    All-cons NameFits (name_row n) (map name_row ns)
    (record { addr = f.block; type_number = f.kind; object = f.object; short = short.0.1 })
    (fit_names ns (All-tail FitsName n ns fits) short.1)

-- the heap keeps the world's catalogue
pub names_kept : (heap : Heap) (w : World) → HeapStandsFor heap w → IsReady w → KeepsNames heap (map name_row w.names)
names_kept heap w s served =
    let swap = names_part w w.names in
    record {
      rest = swap.before ++ swap.behind;
      stands = focused swap s.blocks;
      first = ap (λ (r : ℕ → ℕ). r FIRST_NAME) s.roots ∙ first_root w;
      last = ap (λ (r : ℕ → ℕ). r LAST_NAME) s.roots ∙ last_root w;
      fits = fit_names w.names served.fits.names
          (each_of (λ (n : Name). n.name) (λ name. IsBetween 1 longest_name (length name)) w.names served.whole.valid.names);
    }

-- the words of other names
names_words : (first last first' last' : ℕ) (rest : List ℕ) (word : ℕ)
    → with_at (with_at (roots_by (first ∷ last ∷ rest)) FIRST_NAME first') LAST_NAME last' word ≡ roots_by (first' ∷ last' ∷ rest)
    word
unfolding with_at roots_by
names_words first last first' last' rest word =
    by (word == LAST_NAME) (word == FIRST_NAME) (nat_lt word FIRST_NAME) refl refl refl
  where
    by : (a b c : Bool) → (word == LAST_NAME) ≡ a → (word == FIRST_NAME) ≡ b → nat_lt word FIRST_NAME ≡ c
        → cond (word == LAST_NAME) last' (cond (word == FIRST_NAME) first'
        (cond (nat_lt word FIRST_NAME) 0 (get_or (first ∷ last ∷ rest) (word - FIRST_NAME) 0)))
        ≡ cond (nat_lt word FIRST_NAME) 0 (get_or (first' ∷ last' ∷ rest) (word - FIRST_NAME) 0)
    by true b c one two three =
        let is : word ≡ LAST_NAME = grind (arith, nat_tests, one) in
        subst (λ (n : ℕ). cond (n == LAST_NAME) last' (cond (n == FIRST_NAME) first'
        (cond (nat_lt n FIRST_NAME) 0 (get_or (first ∷ last ∷ rest) (n - FIRST_NAME) 0)))
        ≡ cond (nat_lt n FIRST_NAME) 0 (get_or (first' ∷ last' ∷ rest) (n - FIRST_NAME) 0)) (sym is) refl
    by false true c one two three =
        let is : word ≡ FIRST_NAME = grind (arith, nat_tests, two) in
        subst (λ (n : ℕ). cond (n == LAST_NAME) last' (cond (n == FIRST_NAME) first'
        (cond (nat_lt n FIRST_NAME) 0 (get_or (first ∷ last ∷ rest) (n - FIRST_NAME) 0)))
        ≡ cond (nat_lt n FIRST_NAME) 0 (get_or (first' ∷ last' ∷ rest) (n - FIRST_NAME) 0)) (sym is) refl
    by false false true one two three =
        (λ i. cond (one i) last' (cond (two i) first' (cond (three i) 0 (get_or (first ∷ last ∷ rest) (word - FIRST_NAME) 0))))
        ∙ sym (ap (λ t. cond t 0 (get_or (first' ∷ last' ∷ rest) (word - FIRST_NAME) 0)) three)
    by false false false one two three =
        let above : word - FIRST_NAME ≡ suc (suc (word - 91)) = grind (arith, nat_tests, one, two, three) in
        (λ i. cond (one i) last' (cond (two i) first' (cond (three i) 0 (get_or (first ∷ last ∷ rest) (above i) 0))))
        ∙ sym (λ i. cond (three i) 0 (get_or (first' ∷ last' ∷ rest) (above i) 0))

pub names_roots : (w : World) (names : List Name)
    → with_names (roots_of w) (map name_row names) ≡ roots_of (record w { names = names })
names_roots w names = λ i word.
    names_words (first_of name_addr 0 (map name_row w.names)) (last_of name_addr 0 (map name_row w.names))
    (first_of name_addr 0 (map name_row names)) (last_of name_addr 0 (map name_row names))
    (HEAP_VERSION ∷ (account_roots w accts.Inbound ++ account_roots w accts.Outbound ++ w.accounts.next ∷ replicate 19 0)) word i

-- the entry of a name
pub find_is : (ns : List Name) (name : List ℕ) → find (is_named name) (map name_row ns) ≡ option_map name_row (name_of ns name)
find_is [] name = refl
find_is (n ∷ ns) name = step (pointwise nat_eq name n.name) (find_is ns name)
  where
    step : (b : Bool) → find (is_named name) (map name_row ns) ≡ option_map name_row (name_of ns name)
        → cond b (Some (name_row n)) (find (is_named name) (map name_row ns)) ≡ option_map name_row
        (if b then Some n else name_of ns name)
    step true rest = refl
    step false rest = rest

-- the entries without that of a name
pub without_is : (ns : List Name) (name : List ℕ)
    → blocks.without_name name (map name_row ns) ≡ map name_row (without_name ns name)
unfolding blocks.without_name
without_is [] name = refl
without_is (n ∷ ns) name = step (pointwise nat_eq name n.name) (without_is ns name)
  where
    step : (b : Bool) → blocks.without_name name (map name_row ns) ≡ map name_row (without_name ns name)
        → (if b then map name_row ns else name_row n ∷ blocks.without_name name (map name_row ns))
        ≡ map name_row (if b then ns else n ∷ without_name ns name)
    step true rest = refl
    step false rest = ap (λ (rows : List NameRow). name_row n ∷ rows) rest
