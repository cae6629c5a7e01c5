-- The chains of owners one after another.
use Rattle.std.proofs.Common.{◌≡◌, ◌≤◌, ◌<◌, ◌+◌, ◌-◌, ◌*◌, ℕ, zero, suc, Bool, true, false, List, [], ◌∷◌, ◌++◌, take, drop, append-nil, length, get_or, arith, ap, ◌∙◌, refl, sym, subst}
use Rattle.std.specs.Prelude.{map, Option, None, Some}
use Rattle.std.specs.Option.{option_map_or}
use Rattle.std.specs.List.{flat_map, range_with_len}
use Rattle.std.proofs.lemmas.List.{append_assoc, flat_map_more, map-id, take-append-drop, take_more}
use Rattle.std.proofs.lemmas.List.FromFn.{map-range_with_len_more, take-map-range_with_len}
use Rattle.sdr_base.specs.Blocks.{Block, kind_length}
use Rattle.sdr_base.specs.KeptHeap.{block_in}
use Rattle.sdr_base.specs.Kinds.{kind_number}
use Rattle.sdr_base.specs.declared.kind.Kind.{Kind}
use Rattle.sdr_base.specs.declared.kind.Kind.TheVariants as kinds
use Rattle.audit_owners.proofs.ScanLemmas.{passed_over}
use Rattle.audit_owners.specs.Chains.{IsWrongChain}
use Rattle.audit_owners.specs.Owners.{owned_at, owned_by, owners_of, owning_kinds, root_owners}
use Rattle.audit_owners.specs.Scan.{HasNoneOf, HaveNoneOf}
use Rattle.audit_owners.specs.View.{View, have_number, is_one_of, view_in}
use Rattle.audit_owners.specs.Walking.{HasWalked}
use Rattle.audit_owners.specs.declared.owner.Owner.{Owner}

-- what is wrong first among some chains is so among these and more
pub wrong_longer : (heap : View) (owners more : List Owner) (place : ℕ) → IsWrongChain heap owners place → IsWrongChain heap (owners ++ more) place
wrong_longer heap owners more place w = record {
  earlier = w.earlier;
  owner = w.owner;
  later = w.later ++ more;
  whole = ap (λ (l : List Owner). l ++ more) w.whole ∙ append_assoc w.earlier (w.owner ∷ w.later) more;
  reached = w.reached;
  addrs = w.addrs;
  before = w.before;
  link = w.link;
  comes = w.comes;
  wrong = w.wrong;
}

-- some owners behind others, and one more
pub one_more : (earlier owners : List Owner) (i : ℕ) (d : Owner) → i < length owners →
    (earlier ++ take i owners) ++ (get_or owners i d ∷ []) ≡ earlier ++ take (i + 1) owners
one_more earlier owners i d less =
    append_assoc earlier (take i owners) (get_or owners i d ∷ []) ∙ ap (λ (l : List Owner). earlier ++ l) (sym (take_more owners i d less))

-- what is wrong first among the first of some owners, behind others, is so among all
pub wrong_among : (heap : View) (earlier owners : List Owner) (i place : ℕ) → IsWrongChain heap (earlier ++ take i owners) place →
    IsWrongChain heap (earlier ++ owners) place
wrong_among heap earlier owners i place w =
    subst (λ (l : List Owner). IsWrongChain heap l place)
    (append_assoc earlier (take i owners) (drop i owners) ∙ ap (λ (l : List Owner). earlier ++ l) (take-append-drop i owners))
    (wrong_longer heap (earlier ++ take i owners) (drop i owners) place w)

-- a row of owners and one more
pub row_more : (f : ℕ → Owner) (earlier : List Owner) (n : ℕ) →
    (earlier ++ map f (range_with_len 0 n)) ++ (f n ∷ []) ≡ earlier ++ map f (range_with_len 0 (n + 1))
row_more f earlier n =
    append_assoc earlier (map f (range_with_len 0 n)) (f n ∷ [])
    ∙ ap (λ (l : List Owner). earlier ++ l) (sym (map-range_with_len_more f 0 n n (omega arith)))

-- what is wrong first among the first of a row is so among all of it
pub wrong_in_row : (heap : View) (f : ℕ → Owner) (earlier : List Owner) (n all place : ℕ) → n < all →
    IsWrongChain heap ((earlier ++ map f (range_with_len 0 n)) ++ (f n ∷ [])) place → IsWrongChain heap (earlier ++ map f (range_with_len 0 all)) place
wrong_in_row heap f earlier n all place less w =
    let few : n + 1 ≤ all = omega (arith, less) in
    let front = take-map-range_with_len f 0 all (n + 1) few in
    wrong_among heap earlier (map f (range_with_len 0 all)) (n + 1) place
    (subst (λ (l : List Owner). IsWrongChain heap l place)
    (row_more f earlier n ∙ ap (λ (l : List Owner). earlier ++ l) (sym front)) w)

range_more : (n : ℕ) → range_with_len 0 (n + 1) ≡ range_with_len 0 n ++ (n ∷ [])
range_more n =
    let id : ℕ → ℕ = λ (k : ℕ). k in
    sym (map-id (range_with_len 0 (n + 1)))
    ∙ map-range_with_len_more id 0 n n (omega arith)
    ∙ ap (λ (l : List ℕ). l ++ (n ∷ [])) (map-id (range_with_len 0 n))

-- the chains of the blocks in some words, and those of the next word's
pub owners_more : (heap : View) (n : ℕ) → owners_of heap n ++ owned_at heap (8 * n) ≡ owners_of heap (n + 1)
owners_more heap n =
    flat_map_more (λ (word : ℕ). owned_at heap (8 * word)) root_owners (range_with_len 0 n) n
    ∙ ap (λ (l : List ℕ). root_owners ++ flat_map (λ (word : ℕ). owned_at heap (8 * word)) l) (sym (range_more n))

-- a block of a kind that owns no chains has none
unowned : (addr : ℕ) (b : Option Block) → is_one_of owning_kinds b ≡ false →
    option_map_or (λ (told : Kind × ℕ). owned_by addr told.0 told.1) (kind_length b) [] ≡ []
unowned addr None off = refl
unowned addr (Some block) off = by_kind block.kind off
  where
    by_kind : (kind : Kind) → have_number owning_kinds (kind_number kind) ≡ false → owned_by addr kind (length block.bytes) ≡ []
    by_kind kinds.List owns = let d : true ≡ false = owns in cc
    by_kind kinds.Hash owns = let d : true ≡ false = owns in cc
    by_kind kinds.Object owns = let d : true ≡ false = owns in cc
    by_kind kind owns = refl

-- and behind words without blocks that own chains are no more
owners_over : (bytes : List ℕ) (from to : ℕ) → from ≤ to → HaveNoneOf owning_kinds bytes from to →
    owners_of (view_in bytes) from ≡ owners_of (view_in bytes) to
owners_over bytes from to onward none =
    let heap = view_in bytes in
    passed_over (HasNoneOf owning_kinds bytes) (λ n. owners_of heap from ≡ owners_of heap n) from to (λ n here before.
    before ∙ sym (append-nil (owners_of heap n)) ∙ ap (λ (l : List Owner). owners_of heap n ++ l) (sym (unowned (8 * n) (block_in bytes (8 * n)) here)) ∙ owners_more heap n)
    onward none refl

-- so the same blocks are marked there
pub walked_over : (bytes : List ℕ) (marks : List Bool) (from to : ℕ) → from ≤ to → HaveNoneOf owning_kinds bytes from to →
    HasWalked (view_in bytes) (owners_of (view_in bytes) from) marks → HasWalked (view_in bytes) (owners_of (view_in bytes) to) marks
walked_over bytes marks from to onward none =
    subst (λ (l : List Owner). HasWalked (view_in bytes) l marks) (owners_over bytes from to onward none)

-- what is wrong first among the chains of some words is so among those of more
pub wrong_later : (heap : View) (n m place : ℕ) → IsWrongChain heap (owners_of heap n) place → IsWrongChain heap (owners_of heap (n + m)) place
wrong_later heap n zero place w = let e : n ≡ n + 0 = omega arith in subst (λ (k : ℕ). IsWrongChain heap (owners_of heap k) place) e w
wrong_later heap n (suc m) place w =
    let e : n + m + 1 ≡ n + suc m = omega arith in
    subst (λ (k : ℕ). IsWrongChain heap (owners_of heap k) place) e
    (subst (λ (l : List Owner). IsWrongChain heap l place) (owners_more heap (n + m))
    (wrong_longer heap (owners_of heap (n + m)) (owned_at heap (8 * (n + m))) place (wrong_later heap n m place w)))

pub wrong_by : (heap : View) (n words place : ℕ) → n ≤ words → IsWrongChain heap (owners_of heap n) place → IsWrongChain heap (owners_of heap words) place
wrong_by heap n words place le w =
    let e : n + (words - n) ≡ words = omega (arith, le) in
    subst (λ (k : ℕ). IsWrongChain heap (owners_of heap k) place) e (wrong_later heap n (words - n) place w)
