-- Rules that each block keeps.
use Rattle.std.proofs.Common.{◌≡◌, ◌≤◌, ◌<◌, ◌+◌, ◌*◌, ◌/◌, ◌==◌, ◌||◌, ℕ, Bool, List, [], ◌∷◌, not, true, false, length, get_or, arith, ap, ◌∙◌, refl, subst, sym, inl, inr}
use Rattle.std.specs.Prelude.{Option, None, Some}
use Rattle.std.proofs.lemmas.Bool.{and_left, both_ways, cases_eq, cases_lt, or_parts}
use Rattle.sdr_base.specs.Blocks.{Block}
use Rattle.sdr_base.specs.KeptHeap.{block_in}
use Rattle.sdr_base.specs.declared.kind.Kind.TheVariants as kinds
use Rattle.audit_owners.proofs.MarksLemmas.{mark_tells}
use Rattle.audit_owners.proofs.OneOfLemmas.{one_of-none}
use Rattle.audit_owners.proofs.RegionLemmas.{is_part, none_between, none_past}
use Rattle.audit_owners.proofs.ScanLemmas.{passed_over}
use Rattle.audit_owners.specs.Scan.{HasNoneOf, HaveNoneOf}
use Rattle.audit_owners.specs.Chains.{is_among}
use Rattle.audit_owners.specs.Marks.{AreMarked}
use Rattle.audit_owners.specs.Rules.{AreKept, IsBroken, IsKept, is_chained, owner_kinds, is_source_of, keeps_owner_rule, is_source_of_raw}
use Rattle.audit_owners.specs.View.{View, is_kind, is_one_of, view_in, word_of}
use Rattle.audit_owners.specs.declared.rules.OwnerRule.{OwnerRule}
use Rattle.audit_owners.specs.declared.rules.OwnerRule.TheVariants as which

-- what isn't a source isn't one of a raw object
pub no_source_of_raw : (b : Option Block) → is_kind kinds.Source b ≡ false → is_source_of_raw b ≡ false
no_source_of_raw b off = and_left _ _ off

-- six tests, in the order in which `||` groups
one_of_six : (a b c d e f : Bool) → (a || (b || (c || (d || (e || (f || false)))))) ≡ (a || b || c || d || e || f)
one_of_six true b c d e f = refl
one_of_six false true c d e f = refl
one_of_six false false true d e f = refl
one_of_six false false false true e f = refl
one_of_six false false false false true f = refl
one_of_six false false false false false true = refl
one_of_six false false false false false false = refl

-- what is of a kind that only stands in chains is chained
pub chained_so : (b : Option Block) → is_one_of (owner_kinds which.IsReached) b ≡ is_chained b
chained_so b =
    one_of_six (is_kind kinds.Element b) (is_kind kinds.HashEntry b) (is_kind kinds.Name b) (is_kind kinds.Extent b) (is_kind kinds.Capsule b)
    (is_kind kinds.Ticket b)

-- a block of no kind of which a rule speaks keeps it
pub others_keep : (heap : View) (reached : List ℕ) (rule : OwnerRule) (addr : ℕ) → is_one_of (owner_kinds rule) (heap.blocks addr) ≡ false →
    keeps_owner_rule heap reached rule addr ≡ true
others_keep heap reached which.SourceIsThere addr off =
    ap (λ (t : Bool). not t || is_kind kinds.Source (heap.blocks (word_of (heap.blocks addr) 0))) (or_parts (is_kind kinds.Extent (heap.blocks addr)) false off).0
others_keep heap reached which.RawIsThere addr off =
    ap (λ (t : Bool). not t || is_kind kinds.Raw (heap.blocks (word_of (heap.blocks addr) 4))) (no_source_of_raw (heap.blocks addr) (or_parts (is_kind kinds.Source (heap.blocks addr)) false off).0)
others_keep heap reached which.SourceNamesRaw addr off =
    ap (λ (t : Bool). not t || is_source_of heap addr (word_of (heap.blocks addr) 0)) (and_left (is_kind kinds.Raw (heap.blocks addr)) (not (word_of (heap.blocks addr) 0 == 0)) (or_parts (is_kind kinds.Raw (heap.blocks addr)) false off).0)
others_keep heap reached which.RawNamesSource addr off =
    ap (λ (t : Bool). not t || word_of (heap.blocks (word_of (heap.blocks addr) 4)) 0 == addr) (no_source_of_raw (heap.blocks addr) (or_parts (is_kind kinds.Source (heap.blocks addr)) false off).0)
others_keep heap reached which.IsReached addr off = ap (λ (t : Bool). not t || is_among reached addr) (sym (chained_so (heap.blocks addr)) ∙ off)

-- where no block is, each rule is kept
pub none_keeps : (heap : View) (reached : List ℕ) (rule : OwnerRule) (addr : ℕ) → heap.blocks addr ≡ None → keeps_owner_rule heap reached rule addr ≡ true
none_keeps heap reached rule addr none =
    others_keep heap reached rule addr (ap (is_one_of (owner_kinds rule)) none ∙ one_of-none (owner_kinds rule))

-- whether a block that only stands in chains was reached is told by its mark
pub reached_told : (bytes reached : List ℕ) (marks : List Bool) (addr : ℕ) → AreMarked reached marks →
    (not (is_chained (block_in bytes addr)) || get_or marks (addr / 8) false) ≡ (not (is_chained (block_in bytes addr)) || is_among reached addr)
reached_told bytes reached marks addr marked = by_block (block_in bytes addr) refl
  where
    by_block : (b : Option Block) → block_in bytes addr ≡ b → (not (is_chained b) || get_or marks (addr / 8) false) ≡ (not (is_chained b) || is_among reached addr)
    by_block None is = refl
    by_block (Some block) is =
        let p = is_part bytes addr block is in
        ap (λ (t : Bool). not (is_chained (Some block)) || t) (mark_tells reached marks addr marked p.whole)

-- a rule that is kept before a word, and by the block that begins with it, is kept before the next
pub kept_more : (bytes reached : List ℕ) (rule : OwnerRule) (number : ℕ) →
    ((other : ℕ) → other < 8 * number → keeps_owner_rule (view_in bytes) reached rule other ≡ true) →
    keeps_owner_rule (view_in bytes) reached rule (8 * number) ≡ true → (other : ℕ) → other < 8 * (number + 1) → keeps_owner_rule (view_in bytes) reached rule other ≡ true
kept_more bytes reached rule number before here other less = elim (cases_lt other (8 * number)) [
  | inl below ↦ before other below
  | inr above ↦ elim (cases_eq (8 * number) other) [
    | inl same ↦ subst (λ (n : ℕ). keeps_owner_rule (view_in bytes) reached rule n ≡ true) same here
    | inr off ↦ none_keeps (view_in bytes) reached rule other (none_between bytes other (λ whole. off (omega (arith, whole, above, less))))
  ]
]

-- and behind words without blocks of the kinds that it speaks of
pub kept_over : (bytes reached : List ℕ) (rule : OwnerRule) (from to : ℕ) → from ≤ to → HaveNoneOf (owner_kinds rule) bytes from to →
    ((other : ℕ) → other < 8 * from → keeps_owner_rule (view_in bytes) reached rule other ≡ true) →
    (other : ℕ) → other < 8 * to → keeps_owner_rule (view_in bytes) reached rule other ≡ true
kept_over bytes reached rule from to =
    passed_over (HasNoneOf (owner_kinds rule) bytes) (λ n. (other : ℕ) → other < 8 * n → keeps_owner_rule (view_in bytes) reached rule other ≡ true) from to
    (λ n none before. kept_more bytes reached rule n before (others_keep (view_in bytes) reached rule (8 * n) none))

-- one that is kept in the whole region is kept everywhere
pub kept_all : (bytes reached : List ℕ) (rule : OwnerRule) (number : ℕ) → length bytes ≤ 8 * number →
    ((other : ℕ) → other < 8 * number → keeps_owner_rule (view_in bytes) reached rule other ≡ true) → IsKept (view_in bytes) reached rule
kept_all bytes reached rule number all before other = elim (cases_lt other (8 * number)) [
  | inl below ↦ before other below
  | inr past ↦ none_keeps (view_in bytes) reached rule other (none_past bytes other (omega (arith, past, all)))
]

-- rules that are kept aren't broken
pub kept_unbroken : (heap : View) (reached : List ℕ) (rules : List OwnerRule) (addr : ℕ) → AreKept heap reached rules → IsBroken heap reached rules addr → ⊥
kept_unbroken heap reached [] addr kept broken = broken
kept_unbroken heap reached (rule ∷ rules) addr (k, ks) (inl b) = both_ways (keeps_owner_rule heap reached rule addr) b.wrong (k addr)
kept_unbroken heap reached (rule ∷ rules) addr (k, ks) (inr (k', b)) = kept_unbroken heap reached rules addr ks b
