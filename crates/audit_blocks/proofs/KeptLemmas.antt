-- A region that passes each check keeps a heap, and each block in use has its layout.
use Rattle.std.proofs.Common.{◌≡◌, ◌≤◌, ◌<◌, ◌+◌, ◌-◌, ◌*◌, ◌/◌, ◌%◌, ◌==◌, ◌||◌, ℕ, Bool, List, Option, None, Some, cond, min, not, true, false, length, length-take, take, drop, arith, ap, ◌∙◌, refl, sym, subst, inl, inr}
use Rattle.std.specs.Prelude.{count_by, is_some, nat_le, nat_lt}
use Rattle.std.specs.Option.{option_map_or}
use Rattle.std.proofs.lemmas.Bool.{and_parts, cases_Bool, cases_lt, eqb-true, leb-true, ltb-true}
use Rattle.std.proofs.lemmas.List.{take-take, take_all}
use Rattle.std.proofs.lemmas.Option.{same_Some}
use Rattle.sdr_base.proofs.PartsLemmas.{length-part}
use Rattle.sdr_base.proofs.PoolsLemmas.{is_of-true}
use Rattle.sdr_base.specs.Blocks.{Block}
use Rattle.sdr_base.specs.Cells.{IsRegionSize}
use Rattle.sdr_base.specs.KeptHeap.{HasLabel, HasLargeLabel, block_in, block_led, block_of, led_block, may_begin, pool_place}
use Rattle.sdr_base.specs.KeptLarge.{is_used_of}
use Rattle.sdr_base.specs.Kinds.{kind_of}
use Rattle.sdr_base.specs.Parts.{part}
use Rattle.sdr_base.specs.Pools.{PoolBlock, Pools, is_of}
use Rattle.sdr_base.specs.Rules.{words_for}
use Rattle.sdr_base.specs.Stored.{leader_kind, leader_length, start_bit}
use Rattle.sdr_base.specs.declared.control.TheConstants.{HIGH, LOW, START}
use Rattle.sdr_base.specs.declared.kind.Kind.{Kind}
use Rattle.audit_blocks.proofs.BegunLemmas.{begun_above, begun_addr, begun_below, begun_right, large_inside, small_inside}
use Rattle.audit_blocks.proofs.EdgeLemmas.{in_order}
use Rattle.audit_blocks.proofs.KeptLargeLemmas.{keeps_large, large_lists}
use Rattle.audit_blocks.proofs.KeptSmallLemmas.{begun_holds, keeps_small, small_lists}
use Rattle.audit_blocks.proofs.SoundLemmas.{bit_is, large_block, large_fits, small_block, small_fits}
use Rattle.audit_blocks.proofs.SpacedLemmas.{none_some}
use Rattle.audit_blocks.specs.Bits.{begins_with}
use Rattle.audit_blocks.specs.Content.{has_layout, is_filled, is_filled_at, may_have, told_bytes}
use Rattle.audit_blocks.specs.Control.{control_word}
use Rattle.audit_blocks.specs.Region.{HasLayouts, IsSound, KeepsBlocks}
use Rattle.audit_blocks.specs.Spots.{begun_at, begun_in}
use Rattle.audit_blocks.specs.Walk.{large_holds}

-- a kind that may have such a block is one
may_have_some : (kind : Option Kind) (count : ℕ) (first : List ℕ) → may_have kind count first ≡ true → is_some kind ≡ true
may_have_some None count first holds = holds
may_have_some (Some kind) count first holds = refl

-- a block in use has what its kind's layout asks
filled_used : (bytes : List ℕ) (frame : ℕ) (block : PoolBlock) → is_filled bytes frame block ≡ true → block.used ≡ true → is_filled_at bytes (block.addr - frame) block.addr ≡ true
filled_used bytes frame block filled used = sym (ap (λ (u : Bool). not u || is_filled_at bytes (block.addr - frame) block.addr) used) ∙ filled

module _ (bytes : List ℕ) (small large : List PoolBlock) (region : IsRegionSize (length bytes)) (s : IsSound bytes small large) where
  small_filled : (place : ℕ) (block : PoolBlock) → begun_in 8 small place ≡ Some block → block.used ≡ true → is_filled_at bytes place (place + 8) ≡ true
  small_filled place block begun used =
      let at = begun_addr 8 small place block begun in
      let back : block.addr - 8 ≡ place = omega (arith, at) in
      (λ i. is_filled_at bytes (sym back i) (sym at i))
      ∙ filled_used bytes 8 block (begun_holds (λ (b : PoolBlock). is_filled bytes 8 b ≡ true) 8 small place block s.content.below begun) used

  large_filled : (place : ℕ) (block : PoolBlock) → begun_in 16 large place ≡ Some block → block.used ≡ true → is_filled_at bytes place (place + 16) ≡ true
  large_filled place block begun used =
      let at = begun_addr 16 large place block begun in
      let back : block.addr - 16 ≡ place = omega (arith, at) in
      (λ i. is_filled_at bytes (sym back i) (sym at i))
      ∙ filled_used bytes 16 block (begun_holds (λ (b : PoolBlock). is_filled bytes 16 b ≡ true) 16 large place block s.content.above begun) used

  label_small : (words addr : ℕ) → 0 < count_by (is_used_of words addr) small → HasLabel (addr - 8) words bytes
  label_small words addr some =
      let b = small_block bytes small large s (is_used_of words addr) some in
      let p = and_parts (is_of words addr b.block) b.block.used b.passes in
      let parts = is_of-true words addr b.block p.0 in
      let at = b.at in
      let same = parts.0 in
      let back : addr - 8 ≡ b.place = omega (arith, at, same) in
      let back' : b.block.addr - 8 ≡ b.place = omega (arith, at) in
      let fits = and_parts _ _ (small_fits bytes small large s b.place b.block b.begun) in
      let exact : (not true || words_for (leader_length (b.block.addr - 8) bytes) == b.block.words) ≡ true =
      sym (ap (λ (u : Bool). not u || words_for (leader_length (b.block.addr - 8) bytes) == b.block.words) p.1) ∙ fits.1 in
      record {
        kind =
            ap (λ (n : ℕ). is_some (kind_of (leader_kind n bytes))) back
            ∙ may_have_some (kind_of (leader_kind b.place bytes)) _ _ (small_filled b.place b.block b.begun p.1);
        length =
            ap (λ (n : ℕ). words_for (leader_length n bytes)) (back ∙ sym back') ∙ eqb-true _ _ exact ∙ parts.1;
      }

  label_large : (words addr : ℕ) → 0 < count_by (is_used_of words addr) large → HasLargeLabel (addr - 16) words bytes
  label_large words addr some =
      let b = large_block bytes small large s (is_used_of words addr) some in
      let p = and_parts (is_of words addr b.block) b.block.used b.passes in
      let parts = is_of-true words addr b.block p.0 in
      let at = b.at in
      let same = parts.0 in
      let back : addr - 16 ≡ b.place = omega (arith, at, same) in
      let back' : b.block.addr - 16 ≡ b.place = omega (arith, at) in
      let fits : words_for (leader_length (b.block.addr - 16) bytes) ≤ b.block.words =
      leb-true _ _ (begun_right (large_holds bytes) 16 large b.place b.block (large_fits bytes small large s) b.begun) in
      record {
        kind =
            ap (λ (n : ℕ). is_some (kind_of (leader_kind n bytes))) back
            ∙ may_have_some (kind_of (leader_kind b.place bytes)) _ _ (large_filled b.place b.block b.begun p.1);
        length =
            subst (λ (w : ℕ). words_for (leader_length (addr - 16) bytes) ≤ w) parts.1
            (subst (λ (n : ℕ). words_for (leader_length n bytes) ≤ b.block.words) (back' ∙ sym back) fits);
      }

  -- the block that its leader tells has what its kind's layout asks
  led_layout : (place addr : ℕ) (block : Block) → addr + leader_length place bytes ≤ length bytes → is_filled_at bytes place addr ≡ true →
      block_of (kind_of (leader_kind place bytes)) (part addr (leader_length place bytes) bytes) ≡ Some block →
      has_layout block.kind (length block.bytes) (take told_bytes block.bytes) ≡ true
  led_layout place addr block inside filled is = by_kind (kind_of (leader_kind place bytes)) filled is
    where
      count : ℕ
      count = leader_length place bytes

      cut : (m n : ℕ) (l : List ℕ) → take m (take n l) ≡ take (min m n) l
      cut m n l = elim (cases_lt n m) [
        | inl less ↦
            take_all m (take n l) (omega (arith, length-take_le n l, less))
            ∙ ap (λ (k : ℕ). take k l) (omega (arith, less))
        | inr ge ↦ take-take m n l ge ∙ ap (λ (k : ℕ). take k l) (omega (arith, ge))
      ]
        where
          length-take_le : (n : ℕ) (l : List ℕ) → length (take n l) ≤ n
          length-take_le n l = omega (arith, length-take n l)

      by_kind : (kind : Option Kind) → may_have kind (leader_length place bytes) (part addr (min told_bytes (leader_length place bytes)) bytes) ≡ true →
          block_of kind (part addr (leader_length place bytes) bytes) ≡ Some block → has_layout block.kind (length block.bytes) (take told_bytes block.bytes) ≡ true
      by_kind None holds e = absurd (none_some refl e)
      by_kind (Some kind) holds e =
          let is_block = same_Some (record { kind = kind; bytes = part addr (leader_length place bytes) bytes }) block e in
          subst (λ (b : Block). has_layout b.kind (length b.bytes) (take told_bytes b.bytes) ≡ true) is_block
          ((λ i. has_layout kind (length-part addr (leader_length place bytes) bytes inside i)
          (cut told_bytes (leader_length place bytes) (drop addr bytes) i)) ∙ holds)

  -- where a start bit is set a block in use begins
  record BeginsUsed (place : ℕ) : Type 0 where
    pub block : PoolBlock
    pub begun : begun_at small large place ≡ Some block
    pub used : block.used ≡ true

  begins_used : (place : ℕ) → place % 8 ≡ 0 → place < length bytes → (start_bit (place / 8) bytes == 1) ≡ true → BeginsUsed place
  begins_used place whole inside set =
      let o = in_order bytes s.control in
      let start = o.start in
      let lines = region.whole in
      let bit = bit_is bytes small large s (place / 8) (omega (arith, start, lines, inside)) in
      let at : 8 * (place / 8) ≡ place = omega (arith, whole) in
      by_block (begun_at small large place) refl
      (sym (ap (λ (n : ℕ). option_map_or (λ (b : PoolBlock). b.used) (begun_at small large n) false) at)
      ∙ one_set (begins_with small large (place / 8)) (sym bit ∙ eqb-true _ _ set))
    where
      one_set : (t : Bool) → cond {A = ℕ} t 1 0 ≡ 1 → t ≡ true
      one_set true is = refl
      one_set false is = absurd (omega (arith, is))

      by_block : (o : Option PoolBlock) → begun_at small large place ≡ o → option_map_or (λ (b : PoolBlock). b.used) o false ≡ true → BeginsUsed place
      by_block None is begins = let d : false ≡ true = begins in cc
      by_block (Some b) is begins = record { block = b; begun = is; used = begins }

  -- such a block has its layout
  led_used : (place addr : ℕ) (block : Block) → place % 8 ≡ 0 → place < length bytes → led_block bytes place addr ≡ Some block →
      (BeginsUsed place → (is_filled_at bytes place addr ≡ true) × (addr + leader_length place bytes ≤ length bytes)) →
      has_layout block.kind (length block.bytes) (take told_bytes block.bytes) ≡ true
  led_used place addr block whole inside is holds = elim (cases_Bool (start_bit (place / 8) bytes == 1)) [
    | inl set ↦
        let h = holds (begins_used place whole inside set) in
        led_layout place addr block h.1 h.0
        (sym (ap (λ (t : Bool). cond t (block_of (kind_of (leader_kind place bytes)) (part addr (leader_length place bytes) bytes)) None) set) ∙ is)
    | inr clear ↦
        absurd (none_some refl
        (sym (ap (λ (t : Bool). cond t (block_of (kind_of (leader_kind place bytes)) (part addr (leader_length place bytes) bytes)) None) clear) ∙ is))
  ]

  layouts : HasLayouts bytes
  unfolding block_in
  layouts addr block is = elim (cases_Bool (may_begin bytes addr)) [
    | inr never ↦ absurd (none_some refl (sym (ap (λ (t : Bool). block_led bytes addr (cond t (pool_place bytes addr) None)) never) ∙ is))
    | inl may ↦
        let m = and_parts _ _ may in
        let m' = and_parts _ _ m.0 in
        let whole : addr % 8 ≡ 0 = eqb-true _ _ m'.0 in
        let first : control_word bytes START < addr = ltb-true _ _ m'.1 in
        let last : addr < length bytes = ltb-true _ _ m.1 in
        let o = in_order bytes s.control in
        let start = o.start in
        let led : block_led bytes addr (pool_place bytes addr) ≡ Some block = sym (ap (λ (t : Bool). block_led bytes addr (cond t (pool_place bytes addr) None)) may) ∙ is in
        elim (cases_Bool (nat_lt (addr - 8) (control_word bytes LOW))) [
          | inl below ↦
              let at : addr - 8 + 8 ≡ addr = omega (arith, first, start) in
              led_used (addr - 8) addr block (omega (arith, whole)) (omega (arith, last))
              (sym (ap (λ (t : Bool). block_led bytes addr (cond t (Some (addr - 8)) (cond (nat_le (control_word bytes HIGH) (addr - 16)) (Some (addr - 16)) None))) below) ∙ led)
              (λ b.
              let begun = begun_below bytes small large s.control s.blocks (addr - 8) (ltb-true _ _ below) b.begun in (
                subst (λ (n : ℕ). is_filled_at bytes (addr - 8) n ≡ true) at (small_filled (addr - 8) b.block begun b.used),
                subst (λ (n : ℕ). n + leader_length (addr - 8) bytes ≤ length bytes) at (small_inside bytes small large s.control s.blocks (addr - 8) begun),
              ))
          | inr above ↦
              let led' =
              sym (ap (λ (t : Bool). block_led bytes addr (cond t (Some (addr - 8)) (cond (nat_le (control_word bytes HIGH) (addr - 16)) (Some (addr - 16)) None))) above) ∙ led in
              elim (cases_Bool (nat_le (control_word bytes HIGH) (addr - 16))) [
                | inl high ↦
                    let at : addr - 16 + 16 ≡ addr = omega (arith, first, start) in
                    let from : control_word bytes LOW ≤ addr - 16 = let h = o.high in let h' = leb-true _ _ high in omega (arith, h, h') in
                    led_used (addr - 16) addr block (omega (arith, whole)) (omega (arith, last))
                    (sym (ap (λ (t : Bool). block_led bytes addr (cond t (Some (addr - 16)) None)) high) ∙ led')
                    (λ b.
                    let begun = begun_above bytes small large s.control s.blocks (addr - 16) from b.begun in (
                      subst (λ (n : ℕ). is_filled_at bytes (addr - 16) n ≡ true) at (large_filled (addr - 16) b.block begun b.used),
                      subst (λ (n : ℕ). n + leader_length (addr - 16) bytes ≤ length bytes) at (large_inside bytes small large s.control s.blocks (addr - 16) begun),
                    ))
                | inr between ↦ absurd (none_some refl (sym (ap (λ (t : Bool). block_led bytes addr (cond t (Some (addr - 16)) None)) between) ∙ led'))
              ]
        ]
  ]

  -- the pools that the bytes keep
  abbrev pub pools : Pools
  pools = record {
    start = control_word bytes START;
    end = length bytes;
    low = control_word bytes LOW;
    high = control_word bytes HIGH;
    small = small;
    large = large;
    small_lists = small_lists bytes small large region s;
    large_lists = large_lists bytes small large region s;
  }

  pub keeps_blocks : KeepsBlocks bytes small large
  keeps_blocks = record {
    pools = pools;
    keeps = record {
      small = keeps_small bytes small large region s (large_lists bytes small large region s);
      large = keeps_large bytes small large region s (small_lists bytes small large region s);
      labels = record {
        small = λ words other apart some. label_small words other some;
        large = λ words other apart some. label_large words other some;
      };
    };
    small_are = refl;
    large_are = refl;
    layouts = layouts;
  }
