-- Blocks in use of a region in memory.
use Rattle.std.proofs.Common.{◌≡◌, ◌≤◌, ◌<◌, ◌+◌, ◌-◌, ◌*◌, ◌/◌, ◌%◌, ◌==◌, ◌&&◌, ◌||◌, ◌⊎◌, ℕ, Bool, true, false, cond, min, List, length, drop, get_or, arith, ap, sym, ◌∙◌, refl, inl, inr, length-drop, length-take}
use Rattle.std.specs.Prelude.{Option, None, Some, is_some, nat_le, nat_lt}
use Rattle.std.proofs.lemmas.Bool.{and_parts, cases_Bool, cond-true, cond-false, eqb-true, lt-ltb, ltb-true, or_parts}
use Rattle.byteorder.specs.Endian.{big_from}
use Rattle.sdr_base.specs.Blocks.{Block, kind_length}
use Rattle.sdr_base.specs.KeptHeap.{block_in, block_led, block_of, leader_place, led_block, may_begin, pool_place}
use Rattle.sdr_base.specs.Kinds.{kind_of}
use Rattle.sdr_base.specs.Parts.{part}
use Rattle.sdr_base.specs.Stored.{leader_kind, leader_length, number_at, start_bit}
use Rattle.sdr_base.specs.declared.kind.Kind.{Kind}
use Rattle.sdr_base.proofs.PartsLemmas.{get_or-part}
use Rattle.sdr_base.proofs.StoredLemmas.{big_from-same}
use Rattle.audit_owners.specs.View.{is_kind, length_of, word_of}

some_of : {a b : ℕ} → Some a ≡ Some b → a ≡ b
some_of same = cc

-- a block's leader stands before its address, which is that of a whole word of the region
pub record IsLed (x : List ℕ) (addr place : ℕ) : Type 0 where
  pub whole : addr % 8 ≡ 0
  pub inside : addr < length x
  pub before : place + 8 ≤ addr

led_before : (s t : Bool) (addr place : ℕ) → 8 ≤ addr → cond s (Some (addr - 8)) (cond t (Some (addr - 16)) None) ≡ Some place → place + 8 ≤ addr
led_before true t addr place least is = let e : addr - 8 ≡ place = some_of is in omega (arith, e, least)
led_before false true addr place least is = let e : addr - 16 ≡ place = some_of is in omega (arith, e, least)
led_before false false addr place least is = let d : None ≡ Some place = is in cc

pub led_at : (x : List ℕ) (addr place : ℕ) → leader_place x addr ≡ Some place → IsLed x addr place
led_at x addr place is = elim (cases_Bool (may_begin x addr)) [
  | inl may ↦
      let outer = and_parts (addr % 8 == 0 && nat_lt (number_at 8 x) addr) (nat_lt addr (length x)) may in
      let inner = and_parts (addr % 8 == 0) (nat_lt (number_at 8 x) addr) outer.0 in
      let whole : addr % 8 ≡ 0 = eqb-true _ _ inner.0 in
      let least : number_at 8 x < addr = ltb-true _ _ inner.1 in
      let pool : pool_place x addr ≡ Some place = sym (cond-true (may_begin x addr) (pool_place x addr) None may) ∙ is in
      record {
        whole = whole;
        inside = ltb-true _ _ outer.1;
        before = led_before (nat_lt (addr - 8) (number_at 16 x)) (nat_le (number_at 24 x) (addr - 16)) addr place (omega (arith, whole, least)) pool;
      }
  | inr never ↦ let d : None ≡ Some place = sym (cond-false (may_begin x addr) (pool_place x addr) None never) ∙ is in cc
]

-- no block begins where no leader may stand
pub found_nowhere : (x : List ℕ) (addr : ℕ) → leader_place x addr ≡ None → kind_length (block_in x addr) ≡ None
unfolding block_in
found_nowhere x addr is = ap (λ (o : Option ℕ). kind_length (block_led x addr o)) is

pub found_at : (x : List ℕ) (addr place : ℕ) → leader_place x addr ≡ Some place → block_in x addr ≡ led_block x place addr
unfolding block_in
found_at x addr place is = ap (block_led x addr) is

-- nor where the start bit is clear
pub found_clear : (x : List ℕ) (addr place : ℕ) → leader_place x addr ≡ Some place → (start_bit (place / 8) x == 1) ≡ false →
    kind_length (block_in x addr) ≡ None
found_clear x addr place at clear =
    ap kind_length (found_at x addr place at)
    ∙ ap (λ (b : Bool). kind_length (cond b (block_of (kind_of (leader_kind place x)) (part addr (leader_length place x) x)) None)) clear

-- its leader begins with one of the two words before it
led_two : (s t : Bool) (addr place : ℕ) → cond s (Some (addr - 8)) (cond t (Some (addr - 16)) None) ≡ Some place → (addr - 8 ≡ place) ⊎ (addr - 16 ≡ place)
led_two true t addr place is = inl (some_of is)
led_two false true addr place is = inr (some_of is)
led_two false false addr place is = let d : None ≡ Some place = is in cc

pub led_where : (x : List ℕ) (addr place : ℕ) → leader_place x addr ≡ Some place → (addr - 8 ≡ place) ⊎ (addr - 16 ≡ place)
led_where x addr place is = elim (cases_Bool (may_begin x addr)) [
  | inl may ↦
      led_two (nat_lt (addr - 8) (number_at 16 x)) (nat_le (number_at 24 x) (addr - 16)) addr place
      (sym (cond-true (may_begin x addr) (pool_place x addr) None may) ∙ is)
  | inr never ↦ let d : None ≡ Some place = sym (cond-false (may_begin x addr) (pool_place x addr) None never) ∙ is in cc
]

-- nor where the start bits of both are clear
pub found_unset : (x : List ℕ) (addr : ℕ) → (start_bit (addr / 8 - 1) x == 1 || start_bit (addr / 8 - 2) x == 1) ≡ false → kind_length (block_in x addr) ≡ None
found_unset x addr clear = by_place (leader_place x addr) refl
  where
    clear_at : (word place : ℕ) → leader_place x addr ≡ Some place → word ≡ place / 8 → (start_bit word x == 1) ≡ false → kind_length (block_in x addr) ≡ None
    clear_at word place at same off = found_clear x addr place at (ap (λ (n : ℕ). start_bit n x == 1) (sym same) ∙ off)

    by_place : (o : Option ℕ) → leader_place x addr ≡ o → kind_length (block_in x addr) ≡ None
    by_place None at = found_nowhere x addr at
    by_place (Some place) at =
        let both = or_parts _ _ clear in
        let whole = (led_at x addr place at).whole in
        elim (led_where x addr place at) [
          | inl near ↦ clear_at (addr / 8 - 1) place at (omega (arith, near, whole)) both.0
          | inr far ↦ clear_at (addr / 8 - 2) place at (omega (arith, far, whole)) both.1
        ]

-- else it is what its leader says
pub found_set : (x : List ℕ) (addr place : ℕ) → leader_place x addr ≡ Some place → (start_bit (place / 8) x == 1) ≡ true →
    block_in x addr ≡ block_of (kind_of (leader_kind place x)) (part addr (leader_length place x) x)
found_set x addr place at set =
    found_at x addr place at
    ∙ ap (λ (b : Bool). cond b (block_of (kind_of (leader_kind place x)) (part addr (leader_length place x) x)) None) set

length_part : (x : List ℕ) (addr count : ℕ) → length (part addr count x) ≡ min count (length x - addr)
length_part x addr count = length-take count (drop addr x) ∙ ap (min count) (length-drop addr x)

-- a free block is none
pub found_free : (x : List ℕ) (addr place : ℕ) → leader_place x addr ≡ Some place → (start_bit (place / 8) x == 1) ≡ true →
    kind_of (leader_kind place x) ≡ None → kind_length (block_in x addr) ≡ None
found_free x addr place at set free =
    ap kind_length (found_set x addr place at set ∙ ap (λ (k : Option Kind). block_of k (part addr (leader_length place x) x)) free)

-- one of a kind has that kind, and the bytes that its leader tells, as far as they are there
pub found_used : (x : List ℕ) (addr place : ℕ) (kind : Kind) → leader_place x addr ≡ Some place → (start_bit (place / 8) x == 1) ≡ true →
    kind_of (leader_kind place x) ≡ Some kind → kind_length (block_in x addr) ≡ Some (kind, min (leader_length place x) (length x - addr))
found_used x addr place kind at set used =
    ap kind_length (found_set x addr place at set ∙ ap (λ (k : Option Kind). block_of k (part addr (leader_length place x) x)) used)
    ∙ ap (λ (n : ℕ). Some (kind, n)) (length_part x addr (leader_length place x))

-- where no kind is found, there is no block
pub no_kind : (b : Option Block) → is_some (kind_length b) ≡ false → b ≡ None
no_kind None is = refl
no_kind (Some block) is = let d : true ≡ false = is in cc

-- the bytes of a block are a part of the region, behind its leader
pub record IsPart (x : List ℕ) (addr : ℕ) (block : Block) : Type 0 where
  pub count : ℕ
  pub bytes : block.bytes ≡ part addr count x
  pub whole : addr % 8 ≡ 0
  pub inside : addr < length x

module _ (x : List ℕ) (addr : ℕ) where
  part_of : (block : Block) (k : Option Kind) (count : ℕ) → addr % 8 ≡ 0 → addr < length x → block_of k (part addr count x) ≡ Some block → IsPart x addr block
  part_of block None count whole inside is = let d : None ≡ Some block = is in cc
  part_of block (Some kind) count whole inside is =
      let same : record { kind = kind; bytes = part addr count x } ≡ block = cc in
      record { count = count; bytes = sym (ap (λ (b : Block). b.bytes) same); whole = whole; inside = inside }

  pub is_part : (block : Block) → block_in x addr ≡ Some block → IsPart x addr block
  is_part block is = by_place (leader_place x addr) refl
    where
      by_place : (o : Option ℕ) → leader_place x addr ≡ o → IsPart x addr block
      by_place None at = let d = found_nowhere x addr at in let e : kind_length (Some block) ≡ None = sym (ap kind_length is) ∙ d in cc
      by_place (Some place) at = elim (cases_Bool (start_bit (place / 8) x == 1)) [
        | inl set ↦
            let l = led_at x addr place at in
            part_of block (kind_of (leader_kind place x)) (leader_length place x) l.whole l.inside (sym (found_set x addr place at set) ∙ is)
        | inr clear ↦
            let d = found_clear x addr place at clear in
            let e : kind_length (Some block) ≡ None = sym (ap kind_length is) ∙ d in cc
      ]

  number_in : (block : Block) (field : ℕ) → IsPart x addr block → field < length block.bytes / 8 → number_at (8 * field) block.bytes ≡ number_at (addr + 8 * field) x
  unfolding number_at
  number_in block field p less =
      ap (λ (l : List ℕ). big_from (8 * field) 8 l) p.bytes
      ∙ big_from-same (addr + 8 * field) (8 * field) 8 x (part addr p.count x)
      (λ i lt. get_or-part addr p.count x (8 * field + i) (few i lt) ∙ ap (λ (n : ℕ). get_or x n 0) (omega arith))
    where
      few : (i : ℕ) → i < 8 → 8 * field + i < p.count
      few i lt =
          let e = ap (λ (l : List ℕ). length l) p.bytes ∙ length_part x addr p.count in
          let le : min p.count (length x - addr) ≤ p.count = omega arith in
          omega (arith, e, le, less, lt)

  -- a word of a block stands in the region
  pub record HasWord (field : ℕ) (b : Option Block) : Type 0 where
    pub is : word_of b field ≡ number_at (addr + 8 * field) x
    pub inside : addr + 8 * field + 8 ≤ length x

  word_there : (field : ℕ) (b : Option Block) → block_in x addr ≡ b → field < length_of b / 8 → HasWord field b
  word_there field None is less = absurd (omega (arith, less))
  word_there field (Some block) is less =
      let p = is_part block is in
      let e = ap (λ (l : List ℕ). length l) p.bytes ∙ length_part x addr p.count in
      let le : min p.count (length x - addr) ≤ length x - addr = omega arith in
      let least = p.inside in
      record {
        is =
            ap (λ (t : Bool). cond t (number_at (8 * field) block.bytes) 0) (lt-ltb field (length block.bytes / 8) less)
            ∙ number_in block field p less;
        inside = omega (arith, e, le, less, least);
      }

  pub has_word : (field : ℕ) → field < length_of (block_in x addr) / 8 → HasWord field (block_in x addr)
  has_word field less = word_there field (block_in x addr) refl less

  -- where there is a block of a kind, the address is that of a whole word
  pub record IsWhole (kind : Kind) : Type 0 where
    pub whole : addr % 8 ≡ 0
    pub inside : addr < length x

  whole_there : (kind : Kind) (b : Option Block) → block_in x addr ≡ b → is_kind kind b ≡ true → IsWhole kind
  whole_there kind None is holds = let d : false ≡ true = holds in cc
  whole_there kind (Some block) is holds = let p = is_part block is in record { whole = p.whole; inside = p.inside }

  pub is_whole : (kind : Kind) → is_kind kind (block_in x addr) ≡ true → IsWhole kind
  is_whole kind holds = whole_there kind (block_in x addr) refl holds

  none_there : (b : Option Block) → block_in x addr ≡ b → ((block : Block) → block_in x addr ≡ Some block → ⊥) → b ≡ None
  none_there None is never = refl
  none_there (Some block) is never = absurd (never block is)

  -- no block begins elsewhere
  pub none_between : (addr % 8 ≡ 0 → ⊥) → block_in x addr ≡ None
  none_between off = none_there (block_in x addr) refl (λ block is. off (is_part block is).whole)

  pub none_past : length x ≤ addr → block_in x addr ≡ None
  none_past past = none_there (block_in x addr) refl (λ block is. let p = is_part block is in let i = p.inside in omega (arith, i, past))
