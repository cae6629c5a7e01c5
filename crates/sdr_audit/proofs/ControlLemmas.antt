-- The control words of a heap whose bytes stand for a world have values that they may have.
use Rattle.std.proofs.Common.{◌≡◌, ◌≤◌, ◌<◌, ◌+◌, ◌-◌, ◌*◌, ◌/◌, ◌%◌, ◌^◌, ◌==◌, ◌&&◌, ◌||◌, ℕ, suc, Bool, true, false, cond, List, [], ◌∷◌, map, length, get_or, arith, refl, sym, ap, ◌∙◌, subst}
use Rattle.std.specs.Prelude.{nat_le, nat_lt}
use Rattle.std.proofs.lemmas.Bool.{and_from, and_parts, eq-eqb, eqb-true, le-leb, le-ltb, leb-true, lt-ltb, ltb-true}
use Rattle.std.proofs.lemmas.List.{get_or-replicate}
use Rattle.sdr_base.proofs.PoolsLemmas.{Follows-le}
use Rattle.sdr_base.specs.Cells.{IsRegionSize}
use Rattle.sdr_base.specs.FreshHeap.{first_block}
use Rattle.sdr_base.specs.KeptHeap.{KeepsHeap, root_in}
use Rattle.sdr_base.specs.KeptLarge.{FollowsLarge}
use Rattle.sdr_base.specs.LargePool.{extent_of}
use Rattle.sdr_base.specs.Pools.{Follows, HasBounds, PoolBlock, Pools}
use Rattle.sdr_base.specs.Catalogue.{name_addr}
use Rattle.sdr_base.specs.Linked.{first_of, last_of}
use Rattle.sdr_base.specs.Roots.{root_words, roots_by}
use Rattle.sdr_base.specs.Stored.{number_at}
use Rattle.sdr_base.specs.declared.control.TheConstants.{HEAP_VERSION, INBOUND, OUTBOUND, VERSION}
use Rattle.sdr_model.specs.Accounts.{most_amount}
use Rattle.sdr_model.specs.Amounts.{amounts_by, are_within}
use Rattle.sdr_base.specs.declared.account.Acct.TheVariants as accts
use Rattle.sdr_base.specs.declared.account.Amounts.{Amounts}
use Rattle.sdr_model.specs.World.{World}
use Rattle.sdr_stands.specs.Rows.{name_row}
use Rattle.sdr_stands.specs.Standing.{StandsForWhole, account_roots, roots_of}
use Rattle.audit_blocks.specs.Control.{ControlIsRight, control_word, is_edge, is_low, is_maximum_of, is_spare}

-- a choice of two holds where that of each case does
either : (t a b : Bool) → (t ≡ true → a ≡ true) → (t ≡ false → b ≡ true) → cond t a b ≡ true
either true a b one other = one refl
either false a b one other = other refl

one_of : (a b : Bool) (P : Type 0) → (a || b) ≡ true → (a ≡ true → P) → (b ≡ true → P) → P
one_of true b P is one other = one refl
one_of false b P is one other = other is

-- the control words of a world from the catalogue's on
abbrev words_of : World → List ℕ
words_of w =
    root_words HEAP_VERSION (first_of name_addr 0 (map name_row w.names)) (last_of name_addr 0 (map name_row w.names)) (account_roots w accts.Inbound)
    (account_roots w accts.Outbound) w.accounts.next

-- large blocks end at whole words, so they begin at one
large_whole : (from to : ℕ) (blocks : List PoolBlock) → FollowsLarge from blocks to → to % 8 ≡ 0 → from % 8 ≡ 0
large_whole from to [] at whole = omega (arith, at, whole)
large_whole from to (x ∷ blocks) (at, least, more) whole = let w = large_whole (from + extent_of x.words) to blocks more whole in omega (arith, w)

small_whole : (from to : ℕ) (blocks : List PoolBlock) → Follows from blocks to → from % 8 ≡ 0 → to % 8 ≡ 0
small_whole from to [] at whole = omega (arith, at, whole)
small_whole from to (x ∷ blocks) (at, least, most, more) whole = small_whole (from + 8 * (1 + x.words)) to blocks more (omega (arith, whole))

module _ (bytes : List ℕ) (w : World) (P : Pools) (s : StandsForWhole bytes w P) where
  -- a control word of the world's
  root : (word : ℕ) → 89 ≤ word → word < 128 → control_word bytes word ≡ roots_of w word
  unfolding root_in
  root word least most =
      sym (ap (λ (t : Bool). cond t (number_at (8 * word) bytes) 0) (and_from _ _ (le-leb 89 word least) (lt-ltb word 128 most)))
      ∙ (λ i. s.stands.roots i word)

  pub region : IsRegionSize (length bytes)
  region = subst IsRegionSize (sym s.stands.heap.small.size) s.stands.heap.small.tiles.bounds.region

  record Whole : Type 0 where
    start : P.start % 8 ≡ 0
    low : P.low % 8 ≡ 0
    high : P.high % 8 ≡ 0
    least : P.start ≤ P.low

  whole : Whole
  whole =
      let bounds = s.stands.heap.small.tiles.bounds in
      let lines = bounds.region.whole in
      let end : P.end % 8 ≡ 0 = omega (arith, lines) in
      let start : P.start % 8 ≡ 0 = (let e = bounds.start in omega (arith, e)) in
      record {
        start = start;
        low = small_whole P.start P.low P.small s.stands.heap.small.tiles.follow start;
        high = large_whole P.high P.end P.large s.stands.heap.large.tiles.follow end;
        least = Follows-le P.start P.low P.small s.stands.heap.small.tiles.follow;
      }

  edge : (place : ℕ) → place % 8 ≡ 0 → place ≤ P.end → is_edge bytes place ≡ true
  edge place aligned inside = let size = s.stands.heap.small.size in and_from _ _ (eq-eqb (place % 8) 0 aligned) (le-leb place (length bytes) (omega (arith, size, inside)))

  within : (a : Amounts) → are_within a (amounts_by (λ space. most_amount)) ≡ true → (a.file ≤ 2 ^ 40) × (a.bulk ≤ 2 ^ 40) × (a.heap ≤ 2 ^ 40)
  within a is =
      let p = and_parts (nat_le a.file most_amount && nat_le a.bulk most_amount) (nat_le a.heap most_amount) is in
      let q = and_parts (nat_le a.file most_amount) (nat_le a.bulk most_amount) p.0 in
      (leb-true _ _ q.0, leb-true _ _ q.1, leb-true _ _ p.1)

  -- a maximum is at most the greatest amount
  maximum : (word : ℕ) → (is_maximum_of INBOUND word || is_maximum_of OUTBOUND word) ≡ true → nat_le (control_word bytes word) most_amount ≡ true
  unfolding roots_by
  maximum word is =
      let i = within w.accounts.inbound.maxima s.whole.queues.inbound.maxima in
      let o = within w.accounts.outbound.maxima s.whole.queues.outbound.maxima in
      one_of (is_maximum_of INBOUND word) (is_maximum_of OUTBOUND word) (nat_le (control_word bytes word) most_amount ≡ true) is
      (λ inbound.
      one_of (word == 95 || word == 96) (word == 97) (nat_le (control_word bytes word) most_amount ≡ true) inbound
      (λ two. one_of (word == 95) (word == 96) (nat_le (control_word bytes word) most_amount ≡ true) two
      (λ e. told word 95 (eqb-true word 95 e) (omega arith) (omega arith) w.accounts.inbound.maxima.file refl i.0)
      (λ e. told word 96 (eqb-true word 96 e) (omega arith) (omega arith) w.accounts.inbound.maxima.bulk refl i.1))
      (λ e. told word 97 (eqb-true word 97 e) (omega arith) (omega arith) w.accounts.inbound.maxima.heap refl i.2))
      (λ outbound.
      one_of (word == 103 || word == 104) (word == 105) (nat_le (control_word bytes word) most_amount ≡ true) outbound
      (λ two. one_of (word == 103) (word == 104) (nat_le (control_word bytes word) most_amount ≡ true) two
      (λ e. told word 103 (eqb-true word 103 e) (omega arith) (omega arith) w.accounts.outbound.maxima.file refl o.0)
      (λ e. told word 104 (eqb-true word 104 e) (omega arith) (omega arith) w.accounts.outbound.maxima.bulk refl o.1))
      (λ e. told word 105 (eqb-true word 105 e) (omega arith) (omega arith) w.accounts.outbound.maxima.heap refl o.2))
    where
      told : (word n : ℕ) → word ≡ n → 89 ≤ n → n < 128 → (value : ℕ) → roots_of w n ≡ value → value ≤ 2 ^ 40 → nat_le (control_word bytes word) most_amount ≡ true
      told word n same least most value is few =
          let r = ap (control_word bytes) same ∙ root n least most ∙ is in le-leb _ _ (omega (arith, r, few))

  -- the number of the next ticket
  next : (word : ℕ) → (word == 108) ≡ true → (nat_le 1 (control_word bytes word) && nat_le (control_word bytes word) most_amount) ≡ true
  unfolding roots_by
  next word is =
      let same = eqb-true word 108 is in
      let r : control_word bytes word ≡ w.accounts.next = ap (control_word bytes) same ∙ root 108 (omega arith) (omega arith) in
      let least = s.next in
      let most = s.whole.queues.next in
      and_from _ _ (le-leb 1 (control_word bytes word) (omega (arith, r, least))) (le-leb (control_word bytes word) most_amount (omega (arith, r, most)))

  -- the heap's version
  version : (word : ℕ) → (word == VERSION) ≡ true → (control_word bytes word == HEAP_VERSION) ≡ true
  unfolding roots_by
  version word is = eq-eqb _ _ (ap (control_word bytes) (eqb-true word VERSION is) ∙ root VERSION (omega arith) (omega arith))

  -- a spare word is 0
  spare : (word : ℕ) → word < 128 → is_spare word ≡ true → (control_word bytes word == 0) ≡ true
  unfolding roots_by
  spare word below is =
      let least = ltb-true 108 word is in
      let k : word - 89 ≡
      suc (suc (suc (suc (suc (suc (suc (suc (suc (suc (suc (suc (suc (suc (suc (suc (suc (suc (suc (suc (word - 109)))))))))))))))))))) = omega (arith, least) in
      let over : nat_lt word 89 ≡ false = le-ltb word 89 (omega (arith, least)) in
      eq-eqb _ _
      (root word (omega (arith, least)) below
      ∙ (λ i. cond (over i) 0 (get_or (words_of w) (k i) 0))
      ∙ get_or-replicate 19 (word - 109) 0 0 (omega (arith, least, below)))

  -- each control word has a value that it may have
  pub control_right : ControlIsRight bytes
  control_right word below =
      either (word == 0) (control_word bytes word == length bytes) _ (λ e. eq-eqb _ _ (ap (control_word bytes) (eqb-true word 0 e) ∙ keeps.small.region ∙ sym keeps.small.size))
      (λ no. either (word == 1) (control_word bytes word == first_block (length bytes / 64)) _
      (λ e. eq-eqb _ _ (ap (control_word bytes) (eqb-true word 1 e) ∙ keeps.small.start ∙ bounds.start ∙ ap (λ (n : ℕ). first_block (n / 64)) (sym keeps.small.size)))
      (λ no. either (word == 2) (is_low bytes (control_word bytes word)) _
      (λ e. subst (λ (n : ℕ). is_low bytes n ≡ true) (sym (ap (control_word bytes) (eqb-true word 2 e) ∙ keeps.small.low)) low_right)
      (λ no. either (word == 3) (is_edge bytes (control_word bytes word)) _
      (λ e. subst (λ (n : ℕ). is_edge bytes n ≡ true) (sym (ap (control_word bytes) (eqb-true word 3 e) ∙ keeps.small.high)) (edge P.high whole.high bounds.end))
      (λ no. either (word == VERSION) (control_word bytes word == HEAP_VERSION) _ (λ e. version word e)
      (λ no. either (is_maximum_of INBOUND word || is_maximum_of OUTBOUND word) (nat_le (control_word bytes word) most_amount) _ (λ e. maximum word e)
      (λ no. either (word == 108) (nat_le 1 (control_word bytes word) && nat_le (control_word bytes word) most_amount) _ (λ e. next word e)
      (λ no. either (is_spare word) (control_word bytes word == 0) true (λ e. spare word below e) (λ e. refl))))))))
    where
      keeps : KeepsHeap bytes P
      keeps = s.stands.heap

      bounds : HasBounds P
      bounds = keeps.small.tiles.bounds

      low_right : is_low bytes P.low ≡ true
      low_right =
          let order = bounds.order in
          let end = bounds.end in
          let high = keeps.small.high in
          let least = whole.least in
          let start = bounds.start ∙ ap (λ (n : ℕ). first_block (n / 64)) (sym keeps.small.size) in
          and_from _ _ (and_from _ _ (edge P.low whole.low (omega (arith, order, end))) (le-leb _ _ (omega (arith, start, least)))) (le-leb _ _ (omega (arith, order, high)))
