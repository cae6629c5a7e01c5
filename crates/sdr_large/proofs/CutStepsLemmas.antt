-- The steps by which a free block is cut, one after another.
use Rattle.std.proofs.Common.{◌≡◌, ◌≤◌, ◌<◌, inl, ℕ, ◌+◌, ◌-◌, ◌*◌, Bool, true, false, cond, ◌&&◌, ◌==◌}
use Rattle.std.proofs.Common.{List, get_or, refl, sym, ap, ◌∙◌, arith, subst}
use Rattle.std.specs.Prelude.{Some}
use Rattle.std.specs.List.{count_by}
use Rattle.std.proofs.lemmas.Bool.{eq-eqb, lt-ltb, le-ltb}
use Rattle.sdr_base.specs.Pools.{PoolBlock, Pools, IsUsed, is_used_at}
use Rattle.sdr_base.specs.LargePool.{without, with_placed, with_unlinked, with_used_large, with_free_large}
use Rattle.sdr_base.specs.KeptLarge.{TilesLarge, KeepsLarge, is_used_of}
use Rattle.sdr_base.proofs.StoredLemmas.{leader_kind-same, leader_length-same}
use Rattle.sdr_large.specs.Calls.{TakesBlock, CanCut, Cuts}
use Rattle.sdr_large.specs.Gap.{IsFree, Steps, StaysBelow}
use Rattle.sdr_large.specs.Steps.{HoldsFree, HoldsGap, Unlinks, PutsUsed, PutsFree}
use Rattle.sdr_large.proofs.BlocksLemmas.{count_by-with_placed}
use Rattle.sdr_large.proofs.CutLemmas.{gap, begins, low_fits, low_tiles, whole_tiles, rest_fits, rest_begins}
use Rattle.sdr_large.proofs.CutLemmas.{split_tiles}
use Rattle.sdr_large.proofs.StaysLemmas.{below_trans, small_stays, all_used, used_without, used_placed}
use Rattle.sdr_large.proofs.WalkLemmas.{tiles_whole}

-- a block in use that was put is there
put_is : (P : Pools) (addr words : ℕ) (blocks : List PoolBlock) →
    IsUsed (with_placed (record { addr = addr; words = words; used = true }) blocks) addr
put_is P addr words blocks = record {
  used = omega (
    arith,
    count_by-with_placed (is_used_at addr) (record { addr = addr; words = words; used = true }) blocks,
    ap (λ (v : Bool). cond (v && true) 1 0 + count_by (is_used_at addr) blocks) (eq-eqb addr addr refl),
  );
}

put_is_of : (addr words : ℕ) (blocks : List PoolBlock) →
    0 < count_by (is_used_of words addr) (with_placed (record { addr = addr; words = words; used = true }) blocks)
put_is_of addr words blocks =
    omega (
      arith,
      count_by-with_placed (is_used_of words addr) (record { addr = addr; words = words; used = true }) blocks,
      ap (λ (v : Bool). cond (v && words == words && true) 1 0 + count_by (is_used_of words addr) blocks)
          (eq-eqb addr addr refl),
      ap (λ (v : Bool). cond (true && v && true) 1 0 + count_by (is_used_of words addr) blocks)
          (eq-eqb words words refl),
    )

-- what unlinking needs
pub cut_free : (x : List ℕ) (words has addr : ℕ) → CanCut words has addr x → HoldsFree has addr x
cut_free x words has addr k = record {
  pools = k.pools;
  from = k.pools.end;
  to = k.pools.end;
  tiles = tiles_whole k.pools k.keeps.tiles;
  holds = k.keeps.holds;
  free = k.free;
}

-- what putting a block of so many words needs then
pub cut_gap : (x y : List ℕ) (words has addr put : ℕ) → CanCut words has addr x → Unlinks has addr x y → 1 ≤ put →
    put ≤ has → HoldsGap put addr y
cut_gap x y words has addr put k unlinks some enough =
    let P = k.pools in
    record {
      pools = with_unlinked P addr has;
      from = addr - 16;
      to = addr + 8 * has + 16;
      tiles = gap P has addr k.keeps.tiles k.free;
      holds = (unlinks.rule P P.end P.end (tiles_whole P k.keeps.tiles) k.keeps.holds k.free).holds;
      at = sym (begins P has addr k.keeps.tiles k.free);
      fits = low_fits P has addr k.keeps.tiles k.free put some enough;
      some = some;
    }

module _ (x y z : List ℕ) (words has addr : ℕ) (unlinks : Unlinks has addr x y) (puts : PutsUsed words addr y z)
    (P : Pools) (keeps : KeepsLarge x P) (free : IsFree P has addr) (some : 1 ≤ words) (enough : words ≤ has) where
  first : Steps P (with_unlinked P addr has) 0 x y
  first = unlinks.rule P P.end P.end (tiles_whole P keeps.tiles) keeps.holds free

  second : Steps (with_unlinked P addr has) (with_used_large (with_unlinked P addr has) addr words) 0 y z
  second = puts.rule (with_unlinked P addr has) (addr - 16) (addr + 8 * has + 16) (gap P has addr keeps.tiles free)
      first.holds (sym (begins P has addr keeps.tiles free)) (low_fits P has addr keeps.tiles free words some enough) some

  below : StaysBelow P.start P.low P.high x z
  below = below_trans P.start P.low P.high x y z first.below second.below

  -- a block in use stays over both
  used : (w b : ℕ) → 0 < count_by (is_used_of w b) P.large → (i : ℕ) → b - 16 ≤ i → i < b + 8 * w + 16 →
      get_or z i 0 ≡ get_or x i 0
  used w b there i ge lt =
      all_used (with_unlinked P addr has) (addr - 16) (addr + 8 * has + 16) y z (gap P has addr keeps.tiles free)
      second.used w b (used_without P P.end P.end has addr w b (tiles_whole P keeps.tiles) free there) i ge lt
      ∙ all_used P P.end P.end x y (tiles_whole P keeps.tiles) first.used w b there i ge lt

  used_then : (w b : ℕ) → 0 < count_by (is_used_of w b) P.large →
      0 < count_by (is_used_of w b) (with_used_large (with_unlinked P addr has) addr words).large
  used_then w b there =
      used_placed (record { addr = addr; words = words; used = true }) (without addr P.large) w b
      (used_without P P.end P.end has addr w b (tiles_whole P keeps.tiles) free there)

  -- the block is in use as a whole
  pub cut_whole : TilesLarge (with_used_large (with_unlinked P addr has) addr words) →
      TakesBlock P (record { addr = addr; pools = with_used_large (with_unlinked P addr has) addr words }) (Some addr) x z
  cut_whole tiles = record {
    addr = refl;
    used = put_is P addr words (without addr P.large);
    becomes = record {
      keeps = record { tiles = tiles; holds = second.holds };
      still = λ w b there differ. used_then w b there;
      small = small_stays P (with_used_large (with_unlinked P addr has) addr words) P.high x z below (inl (omega arith))
          second.holds tiles.follow refl refl keeps.tiles.bounds.order;
      others = record { blocks = λ w b there differ i ge lt. used w b there i ge lt };
    };
    kind = puts.kind;
    length = puts.length;
  }

  -- what putting the rest needs
  pub cut_rest : words + 12 ≤ has → HoldsGap (has - words - 4) (addr + 8 * (4 + words)) z
  cut_rest split = record {
    pools = with_used_large (with_unlinked P addr has) addr words;
    from = addr - 16 + 8 * (4 + words);
    to = addr + 8 * has + 16;
    tiles = low_tiles P has addr keeps.tiles free words some enough;
    holds = second.holds;
    at = sym (rest_begins P has addr keeps.tiles free words some split);
    fits = rest_fits P has addr keeps.tiles free words some split;
    some = omega (arith, split);
  }

  -- and the rest is free
  module _ (v : List ℕ) (split : words + 12 ≤ has)
      (frees : PutsFree (has - words - 4) (addr + 8 * (4 + words)) z v) where
    abbrev low : Pools
    low = with_used_large (with_unlinked P addr has) addr words

    abbrev cut : Pools
    cut = with_free_large low (addr + 8 * (4 + words)) (has - words - 4)

    third : Steps low cut 0 z v
    third = frees.rule low (addr - 16 + 8 * (4 + words)) (addr + 8 * has + 16)
        (low_tiles P has addr keeps.tiles free words some enough) second.holds
        (sym (rest_begins P has addr keeps.tiles free words some split))
        (rest_fits P has addr keeps.tiles free words some split) (omega (arith, split))

    -- a block in use stays over the third step
    used_third : (w b : ℕ) → 0 < count_by (is_used_of w b) low.large → (i : ℕ) → b - 16 ≤ i → i < b + 8 * w + 16 →
        get_or v i 0 ≡ get_or z i 0
    used_third w b there i ge lt = all_used low (addr - 16 + 8 * (4 + words)) (addr + 8 * has + 16) z v
        (low_tiles P has addr keeps.tiles free words some enough) third.used w b there i ge lt

    own : (i : ℕ) → addr - 16 ≤ i → i < addr - 16 + 8 → get_or v i 0 ≡ get_or z i 0
    own i ge lt = used_third words addr (put_is_of addr words (without addr P.large)) i ge
        (omega (arith, lt, begins P has addr keeps.tiles free))

    pub cut_split : TakesBlock P (record { addr = addr; pools = cut }) (Some addr) x v
    cut_split =
        let tiles = split_tiles P has addr keeps.tiles free words some split in
        record {
          addr = refl;
          used = record {
            used = omega (
              arith,
              (put_is P addr words (without addr P.large)).used,
              count_by-with_placed (is_used_at addr)
                  (record { addr = addr + 8 * (4 + words); words = has - words - 4; used = false }) low.large,
            );
          };
          becomes = record {
            keeps = record { tiles = tiles; holds = third.holds };
            still = λ w b there differ.
                used_placed (record { addr = addr + 8 * (4 + words); words = has - words - 4; used = false }) low.large w b
                (used_then w b there);
            small = small_stays P cut P.high x v (below_trans P.start P.low P.high x z v below third.below)
                (inl (omega arith)) third.holds tiles.follow refl refl keeps.tiles.bounds.order;
            others = record {
              blocks = λ w b there differ i ge lt.
                  used_third w b (used_then w b there) i ge lt ∙ used w b there i ge lt;
            };
          };
          kind = leader_kind-same (addr - 16) z v own ∙ puts.kind;
          length = leader_length-same (addr - 16) z v own ∙ puts.length;
        }

-- the block was put in use as a whole
pub cuts_whole : (x y z : List ℕ) (words has addr : ℕ) → Unlinks has addr x y → PutsUsed has addr y z →
    has < words + 12 → Cuts words has addr x z
cuts_whole x y z words has addr unlinks puts short = record {
  rule = λ P keeps free some enough.
      subst (λ (Q : Pools). TakesBlock P (record { addr = addr; pools = Q }) (Some addr) x z)
      (sym (ap (λ (v : Bool). cond v (with_used_large (with_unlinked P addr has) addr has)
      (with_free_large (with_used_large (with_unlinked P addr has) addr words)
      (addr + 8 * (4 + words)) (has - words - 4))) (lt-ltb has (words + 12) short)))
      (cut_whole x y z has has addr unlinks puts P keeps free (omega (arith, some, enough)) (omega arith)
      (whole_tiles P has addr keeps.tiles free (omega (arith, some, enough))));
}

-- its low end was put in use, and the rest is free
pub cuts_low : (x y z v : List ℕ) (words has addr : ℕ) → Unlinks has addr x y → PutsUsed words addr y z →
    PutsFree (has - words - 4) (addr + 8 * (4 + words)) z v → words + 12 ≤ has → Cuts words has addr x v
cuts_low x y z v words has addr unlinks puts frees split = record {
  rule = λ P keeps free some enough.
      subst (λ (Q : Pools). TakesBlock P (record { addr = addr; pools = Q }) (Some addr) x v)
      (sym (ap (λ (v : Bool). cond v (with_used_large (with_unlinked P addr has) addr has)
      (with_free_large (with_used_large (with_unlinked P addr has) addr words)
      (addr + 8 * (4 + words)) (has - words - 4))) (le-ltb has (words + 12) split)))
      (cut_split x y z words has addr unlinks puts P keeps free some enough v split frees);
}
