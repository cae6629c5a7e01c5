-- So many words cut from a free block.
use Rattle.std.proofs.Common.{◌≡◌, ◌≢◌, ◌≤◌, inl, inr, ℕ, ◌+◌, ◌-◌, ◌*◌, Bool, true, false, ◌&&◌, ◌==◌}
use Rattle.std.proofs.Common.{refl, sym, ap, arith, subst}
use Rattle.std.specs.List.{count_by}
use Rattle.std.proofs.lemmas.Bool.{cases_eq, ne_eqb, and_parts}
use Rattle.sdr_base.specs.Pools.{PoolBlock, Pools, is_of, is_free_of}
use Rattle.sdr_base.specs.LargePool.{without, with_unlinked, with_used_large, with_free_large}
use Rattle.sdr_base.specs.LargeGiving.{is_free_at}
use Rattle.sdr_base.specs.KeptLarge.{TilesLarge}
use Rattle.sdr_base.proofs.PoolsLemmas.{is_of-true}
use Rattle.sdr_large.specs.Gap.{TilesAround, IsFree}
use Rattle.sdr_large.proofs.BlocksLemmas.{without-le, without-here, free_of_is}
use Rattle.sdr_large.proofs.GapLemmas.{put_or_was, not_put}
use Rattle.sdr_large.proofs.PartedLemmas.{IsBeside, closed}
use Rattle.sdr_large.proofs.PlacesLemmas.{at_block, free_of, one_or_apart}
use Rattle.sdr_large.proofs.TilesLemmas.{tiles_unlinked, tiles_used, tiles_free}
use Rattle.sdr_large.proofs.WalkLemmas.{tiles_whole}

module _ (P : Pools) (has addr : ℕ) (tiles : TilesLarge P) (free : IsFree P has addr) where
  abbrev pub beside : Pools
  beside = with_unlinked P addr has

  pub block : IsBeside P.high P.end P.end P.end has addr P.large
  block = at_block P P.end P.end (tiles_whole P tiles) has addr (free_of P P.end P.end (tiles_whole P tiles) has addr free)

  pub gap : TilesAround beside (addr - 16) (addr + 8 * has + 16)
  gap = tiles_unlinked P has addr tiles free

  pub begins : addr - 16 + 16 ≡ addr
  begins = omega (arith, block.first)

  -- a block in use at the low end
  module _ (words : ℕ) (some : 1 ≤ words) (enough : words ≤ has) where
    pub low_fits : addr - 16 + 8 * (4 + words) ≤ addr + 8 * has + 16
    low_fits = omega (arith, block.first, enough)

    pub low_tiles : TilesAround (with_used_large beside addr words) (addr - 16 + 8 * (4 + words)) (addr + 8 * has + 16)
    low_tiles = subst (λ (a : ℕ). TilesAround (with_used_large beside a words) (addr - 16 + 8 * (4 + words))
        (addr + 8 * has + 16)) begins (tiles_used beside (addr - 16) (addr + 8 * has + 16) words gap some low_fits)

    -- no free block comes with it
    low_free : (w b : ℕ) → IsFree (with_used_large beside addr words) w b → IsFree P w b
    low_free w b there = elim (put_or_was (is_free_of w b) (record { addr = addr; words = words; used = true })
        (without addr P.large) there) [
          | inl new ↦ absurd (never (is_of w b (record { addr = addr; words = words; used = true })) new)
          | inr was ↦ omega (arith, was, without-le (is_free_of w b) addr P.large)
        ]
      where
        never : (v : Bool) → (v && false) ≡ true → ⊥
        never true is = cc
        never false is = cc

    low_free_at : (b : ℕ) → count_by (is_free_at b) (with_used_large beside addr words).large
        ≤ count_by (is_free_at b) P.large
    low_free_at b = omega (
      arith,
      not_put (is_free_at b) (record { addr = addr; words = words; used = true }) (without addr P.large)
          (never (addr == b)),
      without-le (is_free_at b) addr P.large,
    )
      where
        never : (v : Bool) → (v && false) ≡ false
        never true = refl
        never false = refl

  -- the block is in use as a whole
  pub whole_tiles : 1 ≤ has → TilesLarge (with_used_large beside addr has)
  whole_tiles some =
      let t = low_tiles has some (omega arith) in
      record {
        bounds = t.bounds;
        least = t.least;
        follow = closed P.high P.end (addr - 16 + 8 * (4 + has)) (addr + 8 * has + 16)
            (with_used_large beside addr has).large t.parted (omega (arith, block.first));
        lists = t.lists;
        apart = λ w b there. omega (
          arith,
          tiles.apart w b (low_free has some (omega arith) w b there),
          low_free_at has some (omega arith) (b + 8 * (4 + w)),
        );
        edge = omega (arith, tiles.edge, low_free_at has some (omega arith) (P.high + 16));
      }

  -- its low end is in use, and the rest is a free block
  module _ (words : ℕ) (some : 1 ≤ words) (split : words + 12 ≤ has) where
    abbrev pub rest : ℕ
    rest = addr + 8 * (4 + words)

    abbrev pub left : ℕ
    left = has - words - 4

    abbrev pub low : Pools
    low = with_used_large beside addr words

    pub rest_fits : addr - 16 + 8 * (4 + words) + 8 * (4 + left) ≤ addr + 8 * has + 16
    rest_fits = omega (arith, block.first, split)

    pub rest_begins : addr - 16 + 8 * (4 + words) + 16 ≡ rest
    rest_begins = omega (arith, block.first)

    pub rest_tiles : TilesAround (with_free_large low rest left) (addr - 16 + 8 * (4 + words) + 8 * (4 + left))
        (addr + 8 * has + 16)
    rest_tiles = subst (λ (a : ℕ). TilesAround (with_free_large low a left)
        (addr - 16 + 8 * (4 + words) + 8 * (4 + left)) (addr + 8 * has + 16)) rest_begins
        (tiles_free low (addr - 16 + 8 * (4 + words)) (addr + 8 * has + 16) left
        (low_tiles words some (omega (arith, split))) (omega (arith, split)) rest_fits)

    rest_block : PoolBlock
    rest_block = record { addr = rest; words = left; used = false }

    split_free_at : (b : ℕ) → b ≢ rest →
        count_by (is_free_at b) (with_free_large low rest left).large ≤ count_by (is_free_at b) P.large
    split_free_at b differ = omega (
      arith,
      not_put (is_free_at b) (record { addr = rest; words = left; used = false }) low.large
          (ap (λ (v : Bool). v && true) (ne_eqb rest b (λ same. differ (sym same)))),
      low_free_at words some (omega (arith, split)) b,
    )

    -- no other free block ends where the rest begins
    not_below : (w b : ℕ) → IsFree low w b → b + 8 * (4 + w) ≢ rest
    not_below w b there ends = elim (cases_eq b addr) [
      | inl same ↦ omega (
        arith,
        there,
        ap (λ (a : ℕ). count_by (is_free_of w a) low.large) same,
        not_put (is_free_of w addr) (record { addr = addr; words = words; used = true }) (without addr P.large)
            (never (is_of w addr (record { addr = addr; words = words; used = true }))),
        without-here (is_free_of w addr) addr P.large (free_of_is w addr),
      )
      | inr differ ↦ elim (one_or_apart P P.end P.end (tiles_whole P tiles) has addr w b
          (free_of P P.end P.end (tiles_whole P tiles) has addr free)
          (free_of P P.end P.end (tiles_whole P tiles) w b (low_free words some (omega (arith, split)) w b there))) [
            | inl one ↦ differ one.0
            | inr sides ↦ elim sides [
              | inl below ↦ omega (arith, below, ends)
              | inr above ↦ omega (arith, above, ends, split)
            ]
          ]
    ]
      where
        never : (v : Bool) → (v && false) ≡ false
        never true = refl
        never false = refl

    pub split_tiles : TilesLarge (with_free_large low rest left)
    split_tiles =
        let t = rest_tiles in
        record {
          bounds = t.bounds;
          least = t.least;
          follow = closed P.high P.end (addr - 16 + 8 * (4 + words) + 8 * (4 + left)) (addr + 8 * has + 16)
              (with_free_large low rest left).large t.parted (omega (arith, block.first, split));
          lists = t.lists;
          apart = λ w b there. elim (put_or_was (is_free_of w b) (record { addr = rest; words = left; used = false })
              low.large there) [
                | inr was ↦ omega (
                  arith,
                  split_free_at (b + 8 * (4 + w)) (not_below w b was),
                  tiles.apart w b (low_free words some (omega (arith, split)) w b was),
                )
                | inl new ↦
                    let is = is_of-true w b (record { addr = rest; words = left; used = false })
                    (and_parts (is_of w b (record { addr = rest; words = left; used = false })) true new).0 in
                    omega (
                      arith,
                      split_free_at (b + 8 * (4 + w)) (λ ends. omega (arith, ends, is.0)),
                      tiles.apart has addr free,
                      ap (λ (a : ℕ). count_by (is_free_at a) P.large) (end_of w b is.0 is.1),
                    )
              ];
          edge = omega (arith, tiles.edge, split_free_at (P.high + 16) (λ same. omega (arith, same, block.first)));
        }
      where
        end_of : (w b : ℕ) → rest ≡ b → left ≡ w → b + 8 * (4 + w) ≡ addr + 8 * (4 + has)
        end_of w b at is = omega (arith, at, is, split)
