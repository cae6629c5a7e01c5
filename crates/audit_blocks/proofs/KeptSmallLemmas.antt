-- A region that passes each check keeps a small pool.
use Rattle.std.proofs.Common.{◌≡◌, ◌≢◌, ◌≤◌, ◌<◌, ◌⊎◌, ◌+◌, ◌-◌, ◌*◌, ◌==◌, ◌||◌, ℕ, Bool, List, [], ◌∷◌, Some, cond, true, false, length, arith, ap, ◌∙◌, refl, sym, subst, inl, inr}
use Rattle.std.specs.Prelude.{Contains, count_by}
use Rattle.std.specs.List.{All}
use Rattle.std.proofs.lemmas.Bool.{and_parts, cases_Bool, cases_lt, eqb-true, le-leb, leb-true, not-false}
use Rattle.std.proofs.lemmas.List.Elements.{All-contains, All-head, All-tail}
use Rattle.sdr_base.proofs.PoolsLemmas.{at-once, free-le-of, is_of-true, of-le-at}
use Rattle.sdr_base.specs.Cells.{IsRegionSize}
use Rattle.sdr_base.specs.KeptPools.{ChainFrom, KeepsSmall}
use Rattle.sdr_base.specs.Pools.{Follows, PoolBlock, is_free_of, is_of}
use Rattle.sdr_base.specs.Stored.{leader_kind, leader_length, leader_words}
use Rattle.sdr_base.specs.declared.control.TheConstants.{HIGH, LOW, START}
use Rattle.audit_blocks.proofs.EdgeLemmas.{in_order}
use Rattle.audit_blocks.proofs.ListedLemmas.{is_addr}
use Rattle.audit_blocks.proofs.ListsLemmas.{contained_counted, counted_contained}
use Rattle.audit_blocks.proofs.SoundLemmas.{small_bits, small_block, small_empty}
use Rattle.audit_blocks.proofs.SpacedLemmas.{none_some}
use Rattle.audit_blocks.proofs.CountedLemmas.{free_of_parts}
use Rattle.audit_blocks.specs.Control.{control_word}
use Rattle.audit_blocks.specs.Free.{IsLargeList, IsSmallList, SmallReached}
use Rattle.audit_blocks.specs.Region.{IsSound}
use Rattle.audit_blocks.specs.Spots.{begun_in}
use Rattle.audit_blocks.specs.Walk.{SmallFollow}

-- small blocks that follow one another as their leaders tell follow one another
small_follows : (bytes : List ℕ) (blocks : List PoolBlock) (from to : ℕ) → SmallFollow bytes from blocks to → Follows from blocks to
small_follows bytes [] from to at = at
small_follows bytes (block ∷ blocks) from to (here, is, more) =
    let a = and_parts _ _ (and_parts _ _ here).0 in
    let b = and_parts _ _ a.0 in
    let least : 1 ≤ leader_words from bytes = leb-true _ _ b.1 in
    let most : leader_words from bytes ≤ 64 = leb-true _ _ a.1 in
    let words : block.words ≡ leader_words from bytes = ap (λ (x : PoolBlock). x.words) is in (
      ap (λ (x : PoolBlock). x.addr) is,
      omega (arith, words, least),
      omega (arith, words, most),
      small_follows bytes blocks (from + 8 * (1 + block.words)) to more,
    )

-- what holds of each block of a pool holds of the one that begins at a place
pub begun_holds : (P : PoolBlock → Type 0) (frame : ℕ) (blocks : List PoolBlock) (place : ℕ) (block : PoolBlock) → All P blocks → begun_in frame blocks place ≡ Some block → P block
begun_holds P frame [] place block all is = absurd (none_some refl is)
begun_holds P frame (x ∷ blocks) place block all is = elim (cases_Bool (x.addr == place + frame)) [
  | inl here ↦
      let same : Some x ≡ Some block = sym (ap (λ (t : Bool). cond t (Some x) (begun_in frame blocks place)) here) ∙ is in
      let e : x ≡ block = cc in
      subst P e (All-head P x blocks all)
  | inr there ↦
      begun_holds P frame blocks place block (All-tail P x blocks all)
      (sym (ap (λ (t : Bool). cond t (Some x) (begun_in frame blocks place)) there) ∙ is)
]

-- two chains from one place over blocks are the same
chain_same : (bytes : List ℕ) (place : ℕ) (xs ys : List ℕ) → ChainFrom bytes place xs → ChainFrom bytes place ys → All (λ addr. addr ≢ 0) xs → All (λ addr. addr ≢ 0) ys → xs ≡ ys
unfolding ChainFrom
chain_same bytes place [] [] x y some some' = refl
chain_same bytes place [] (b ∷ ys) x (is, more) some some' = absurd (All-head (λ (addr : ℕ). addr ≢ 0) b ys some' (sym is ∙ x))
chain_same bytes place (a ∷ xs) [] (is, more) y some some' = absurd (All-head (λ (addr : ℕ). addr ≢ 0) a xs some (sym is ∙ y))
chain_same bytes place (a ∷ xs) (b ∷ ys) (is, more) (is', more') some some' =
    let same : a ≡ b = sym is ∙ is' in
    (λ i. same i ∷ chain_same bytes a xs ys more (subst (λ (n : ℕ). ChainFrom bytes n ys) (sym same) more') (All-tail (λ (addr : ℕ). addr ≢ 0) a xs some)
    (All-tail (λ (addr : ℕ). addr ≢ 0) b ys some') i)

-- whether small blocks may have so many words
pub record MayHave (words : ℕ) : Type 0 where
  pub least : 1 ≤ words
  pub most : words ≤ 64

pub may_have_or_not : (words : ℕ) → MayHave words ⊎ (MayHave words → ⊥)
may_have_or_not words = elim (cases_lt words 1) [
  | inl none ↦ inr (λ m. let least = m.least in omega (arith, none, least))
  | inr some ↦ elim (cases_lt 64 words) [
    | inl many ↦ inr (λ m. let most = m.most in omega (arith, many, most))
    | inr few ↦ inl (record { least = some; most = few })
  ]
]

module _ (bytes : List ℕ) (small large : List PoolBlock) (region : IsRegionSize (length bytes)) (s : IsSound bytes small large) where
  follows : Follows (control_word bytes START) small (control_word bytes LOW)
  follows = small_follows bytes small (control_word bytes START) (control_word bytes LOW) s.blocks.follow.below

  -- the list of free blocks of so many words
  pub list : (words : ℕ) → MayHave words → IsSmallList bytes small words
  list words m =
      let least = m.least in
      let most = m.most in
      let e : 3 + words - 3 ≡ words = omega arith in
      subst (λ (n : ℕ). IsSmallList bytes small n) e
      (subst (λ (t : Bool). cond t (IsSmallList bytes small (3 + words - 3)) (IsLargeList bytes large (3 + words - 68))) (le-leb (3 + words) 67 (omega (arith, most)))
      (s.free.lists (3 + words) (record { first = omega (arith, least); last = omega (arith, most) })))

  abbrev list_or : (words : ℕ) → MayHave words ⊎ (MayHave words → ⊥) → List ℕ
  list_or words (inl may) = (list words may).addrs
  list_or words (inr not_so) = []

  -- the addresses of the free blocks of so many words, as their list goes
  abbrev pub small_lists : ℕ → List ℕ
  small_lists words = list_or words (may_have_or_not words)

  free_some : (words addr : ℕ) → 0 < count_by (is_free_of words addr) small → addr ≢ 0
  free_some words addr some none =
      let b = small_block bytes small large s (is_free_of words addr) some in
      let parts = free_of_parts words addr b.block b.passes in
      let at = b.at in
      let same = parts.0 in
      omega (arith, at, same, none)

  nonzero : (words : ℕ) (l : IsSmallList bytes small words) → All (λ addr. addr ≢ 0) l.addrs
  nonzero words l = λ k d inside. free_some words _ (l.free k d inside)

  -- a free block is in the list of its words
  reached : (words addr : ℕ) → 0 < count_by (is_free_of words addr) small → (l : IsSmallList bytes small words) → Contains l.addrs addr
  reached words addr some l =
      let b = small_block bytes small large s (is_free_of words addr) some in
      let parts = free_of_parts words addr b.block b.passes in
      let r : SmallReached bytes small b.block =
      begun_holds (λ (x : PoolBlock). (x.used ≡ false) → SmallReached bytes small x) 8 small b.place b.block s.free.below b.begun parts.2 in
      let Q = λ (n a : ℕ). (k : IsSmallList bytes small n) × Contains k.addrs a in
      let other : Q words addr = subst (λ (n : ℕ). Q n addr) parts.1 (subst (λ (a : ℕ). Q b.block.words a) parts.0 (r.list, r.reached)) in
      subst (λ (xs : List ℕ). Contains xs addr)
      (chain_same bytes (8 * (3 + words)) other.0.addrs l.addrs other.0.chain l.chain (nonzero words other.0) (nonzero words l)) other.1

  -- in it is each free block of so many words, once, and no other
  listed_or : (words : ℕ) (may : MayHave words ⊎ (MayHave words → ⊥)) (addr : ℕ) → count_by (is_addr addr) (list_or words may) ≡ count_by (is_free_of words addr) small
  listed_or words (inl may) addr =
      let l = list words may in
      let once = l.once addr in
      let most : count_by (is_free_of words addr) small ≤ 1 =
      omega (arith, free-le-of words addr small, of-le-at words addr small, at-once (control_word bytes START) (control_word bytes LOW) addr small follows) in
      elim (cases_lt 0 (count_by (is_free_of words addr) small)) [
        | inl some ↦ let c = contained_counted addr l.addrs (reached words addr some l) in omega (arith, c, once, most, some)
        | inr none ↦ elim (cases_lt 0 (count_by (is_addr addr) l.addrs)) [
          | inl counted ↦
              let some = All-contains (λ (a : ℕ). 0 < count_by (is_free_of words a) small) l.addrs addr l.free (counted_contained addr l.addrs counted) in
              absurd (omega (arith, none, some))
          | inr not_counted ↦ omega (arith, none, not_counted)
        ]
      ]
  listed_or words (inr not_so) addr = elim (cases_lt 0 (count_by (is_free_of words addr) small)) [
    | inl some ↦
        let b = small_block bytes small large s (is_free_of words addr) some in
        let parts = free_of_parts words addr b.block b.passes in
        let a = and_parts _ _ (and_parts _ _ b.here).0 in
        let c = and_parts _ _ a.0 in
        let least : 1 ≤ leader_words b.place bytes = leb-true _ _ c.1 in
        let most : leader_words b.place bytes ≤ 64 = leb-true _ _ a.1 in
        let same : leader_words b.place bytes ≡ words = sym b.words ∙ parts.1 in
        absurd (not_so (record { least = omega (arith, same, least); most = omega (arith, same, most) }))
    | inr none ↦ omega (arith, none)
  ]

  -- the bytes keep this small pool, with the large one beside it
  pub keeps_small : (large_lists : ℕ → List (ℕ × ℕ)) → KeepsSmall bytes (record {
    start = control_word bytes START;
    end = length bytes;
    low = control_word bytes LOW;
    high = control_word bytes HIGH;
    small = small;
    large = large;
    small_lists = small_lists;
    large_lists = large_lists;
  })
  keeps_small large_lists =
      let o = in_order bytes s.control in
      record {
        tiles = record {
          bounds = record { region = region; start = o.start; order = o.high; end = o.end };
          follow = follows;
          listed = λ words addr. listed_or words (may_have_or_not words) addr;
        };
        size = refl;
        region = eqb-true _ _ (s.control 0 (omega arith));
        start = refl;
        low = refl;
        high = refl;
        lists = λ words least most. chained words (may_have_or_not words) (record { least = least; most = most });
        leaders = λ words addr some.
            let b = small_block bytes small large s (is_of words addr) some in
            let parts = is_of-true words addr b.block b.passes in
            ap (λ (n : ℕ). leader_words n bytes) (back addr b.block.addr b.place parts.0 b.at) ∙ sym b.words ∙ parts.1;
        kinds = λ words addr some.
            let b = small_block bytes small large s (is_free_of words addr) some in
            let parts = free_of_parts words addr b.block b.passes in
            ap (λ (n : ℕ). leader_kind n bytes) (back addr b.block.addr b.place parts.0 b.at) ∙ eqb-true _ _ (not-false _ (sym b.used ∙ parts.2));
        lengths = λ words addr some.
            let b = small_block bytes small large s (is_free_of words addr) some in
            let parts = free_of_parts words addr b.block b.passes in
            let empty : (false || leader_length (b.block.addr - 8) bytes == 0) ≡ true =
            sym (ap (λ (t : Bool). t || leader_length (b.block.addr - 8) bytes == 0) parts.2) ∙ small_empty bytes small large s b.place b.block b.begun in
            ap (λ (n : ℕ). leader_length (n - 8) bytes) (sym parts.0) ∙ eqb-true _ _ empty;
        bits = λ word less below. small_bits bytes small large s word less below;
      }
    where
      back : (addr addr' place : ℕ) → addr' ≡ addr → addr' ≡ place + 8 → addr - 8 ≡ place
      back addr addr' place same at = omega (arith, same, at)

      chained : (words : ℕ) (may : MayHave words ⊎ (MayHave words → ⊥)) → MayHave words → ChainFrom bytes (8 * (3 + words)) (list_or words may)
      chained words (inl may) m = (list words may).chain
      chained words (inr not_so) m = absurd (not_so m)
