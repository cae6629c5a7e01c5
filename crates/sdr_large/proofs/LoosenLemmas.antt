-- A block that goes out of use, in the bytes.
use Rattle.std.proofs.Common.{◌≡◌, ◌≢◌, ◌≤◌, ◌<◌, inl, inr, ℕ, ◌+◌, ◌-◌, ◌*◌, ◌/◌}
use Rattle.std.proofs.Common.{List, length, get_or, refl, sym, ap, ◌∙◌, arith, subst}
use Rattle.std.specs.List.{count_by}
use Rattle.std.proofs.lemmas.Bool.{cases_eq}
use Rattle.sdr_base.specs.Pools.{Pools, IsUsed, is_of, is_free_of, is_used_at}
use Rattle.sdr_base.specs.SmallPool.{words_at}
use Rattle.sdr_base.specs.LargePool.{without}
use Rattle.sdr_base.specs.LargeGiving.{loosened}
use Rattle.sdr_base.specs.KeptPools.{IsOutside}
use Rattle.sdr_base.specs.KeptLarge.{Links, KeepsLarge, is_used_of, large_place}
use Rattle.sdr_base.specs.Stored.{leader_words, start_bit, SetsStartBit}
use Rattle.sdr_base.proofs.StoredLemmas.{number_at-same}
use Rattle.sdr_large.specs.Calls.{KeepsUsedLarge}
use Rattle.sdr_large.specs.Gap.{TilesAround, IsFree, Steps}
use Rattle.sdr_large.specs.Giving.{Loosens}
use Rattle.sdr_large.proofs.BlocksLemmas.{without-le, without-other, without-here, used_at_is}
use Rattle.sdr_large.proofs.ChangeLemmas.{ChangesOnly, leaders_kept, free_kept, used_kept, used_byte, control_kept, below_stays}
use Rattle.sdr_large.proofs.LinksLemmas.{Links-same}
use Rattle.sdr_large.proofs.LooseLemmas.{there, block}
use Rattle.sdr_large.proofs.PartedLemmas.{IsBeside}
use Rattle.sdr_large.proofs.PlacesLemmas.{InOrder, in_order, at_block, free_of, entered_free}
use Rattle.sdr_large.proofs.WalkLemmas.{tiles_whole}

module _ (P : Pools) (addr : ℕ) (x y : List ℕ) (keeps : KeepsLarge x P) (used : IsUsed P.large addr)
    (sets : SetsStartBit ((addr - 16) / 8) 0 x y) where
  t : TilesAround P P.end P.end
  t = tiles_whole P keeps.tiles

  order : InOrder P P.end P.end
  order = in_order P P.end P.end t

  own : IsBeside P.high P.end P.end P.end (words_at addr P.large) addr P.large
  own = block P addr keeps.tiles used

  bit_in : 1024 + (addr - 16) / 8 / 8 < P.start
  bit_in = order.bits (addr - 16) (omega (arith, own.last, own.some))

  out : (i : ℕ) → IsOutside 1024 P.start i → get_or y i 0 ≡ get_or x i 0
  out i (inl lt) = sets.others i (omega (arith, lt))
  out i (inr ge) = sets.others i (omega (arith, ge, bit_in))

  changes : ChangesOnly P P.end P.end x y
  changes = record { size = sets.size; bytes = λ i bits never. out i bits }

  place : (w b : ℕ) → IsFree P w b → IsBeside P.high P.end P.end P.end w b P.large
  place w b f = at_block P P.end P.end t w b (free_of P P.end P.end t w b f)

  lists : (o : ℕ) → o ≤ 20 → Links y (large_place o) 0 (P.large_lists o)
  lists o le =
      Links-same x y 8 (λ is. omega (arith, is)) (large_place o) 0 (P.large_lists o) (keeps.holds.lists o le)
      (λ differs. number_at-same (large_place o) x y (λ i ge lt. out i (inl (omega (arith, lt, le)))))
      (λ w b some differs. number_at-same (b - 8) x y (λ i ge lt. out i
      (inr (omega (arith, ge, (place w b (entered_free P P.end P.end t o w b some)).first, order.small, order.order)))))
      (λ w b some differs. number_at-same (b + 8 * w) x y (λ i ge lt. out i
      (inr (omega (arith, ge, (place w b (entered_free P P.end P.end t o w b some)).first, order.small, order.order)))))
      (λ is. omega (arith, is))
      (λ w b some is. omega (
        arith,
        is,
        (place w b (entered_free P P.end P.end t o w b some)).first,
        order.control,
        order.small,
        order.order,
      ))

  bit_same : (word : ℕ) → word ≢ (addr - 16) / 8 → start_bit word y ≡ start_bit word x
  bit_same word differ = sets.bits word differ

  pub loosened_steps : Steps P (loosened P addr).pools addr x y
  loosened_steps = record {
    holds = record {
      size = sets.size ∙ keeps.holds.size;
      low = control_kept P P.end P.end x y t keeps.holds changes 16 (omega arith) ∙ keeps.holds.low;
      high = control_kept P P.end P.end x y t keeps.holds changes 24 (omega arith) ∙ keeps.holds.high;
      lists = lists;
      leaders = λ w a some. leaders_kept P P.end P.end x y t keeps.holds changes w a
          (omega (arith, some, without-le (is_of w a) addr P.large));
      free = λ w a some. free_kept P P.end P.end x y t keeps.holds changes w a
          (omega (arith, some, without-le (is_free_of w a) addr P.large));
      used = λ w a some. used_kept P P.end P.end x y t keeps.holds changes w a
          (omega (arith, some, without-le (is_used_of w a) addr P.large));
      bits = λ word within ge. elim (cases_eq (8 * word + 16) addr) [
        | inl here ↦
            ap (λ (w : ℕ). start_bit w y) (omega (arith, here)) ∙ sets.set
            ∙ sym (ap (λ (n : ℕ). count_by (is_used_at n) (without addr P.large)) here
            ∙ without-here (is_used_at addr) addr P.large (used_at_is addr))
        | inr differ ↦
            bit_same word (λ same. differ (omega (
              arith,
              same,
              own.first,
              own.whole order.whole order.end,
            )))
            ∙ keeps.holds.bits word within ge
            ∙ sym (without-other (is_used_at (8 * word + 16)) (8 * word + 16) addr P.large
            (used_at_is (8 * word + 16)) differ)
      ];
    };
    below = below_stays P P.end P.end x y t keeps.holds changes (λ word within lt.
        bit_same word (omega (arith, lt, own.first, own.whole order.whole order.end, order.whole)));
    used = record {
      blocks = λ w b some other i ge lt. used_byte P P.end P.end x y t keeps.holds changes w b some i ge lt;
    };
  }

-- what taking it out of use needs
pub record CanLoosen (addr : ℕ) (x : List ℕ) : Type 0 where
  pub least : 16 ≤ addr
  pub inside : addr ≤ length x
  pub bit : 1024 + (addr - 16) / 8 / 8 < length x

pub can_loosen : (addr : ℕ) (x z : List ℕ) → KeepsUsedLarge addr x → z ≡ x → CanLoosen addr z
can_loosen addr x z k same =
    let P = k.pools in
    let o = in_order P P.end P.end (tiles_whole P k.keeps.tiles) in
    let b = block P addr k.keeps.tiles k.used in
    subst (CanLoosen addr) (sym same) (record {
      least = omega (arith, b.first, o.control, o.small, o.order);
      inside = omega (arith, b.last, k.keeps.holds.size);
      bit = omega (
        arith,
        o.bits (addr - 16) (omega (arith, b.last, b.some)),
        o.small,
        o.order,
        o.first,
        k.keeps.holds.size,
      );
    })

-- the start bit was cleared
pub loosens : (addr words : ℕ) (x z y : List ℕ) → words ≡ leader_words (addr - 16) x → z ≡ x →
    SetsStartBit ((addr - 16) / 8) 0 z y → Loosens addr (record { addr = addr; words = words }) x y
loosens addr words x z y read same sets = record {
  rule = λ P keeps used. (
    record {
      addr = refl;
      words = read ∙ keeps.holds.leaders (words_at addr P.large) addr (there P addr keeps.tiles used);
    },
    loosened_steps P addr x y keeps used
        (subst (λ (l : List ℕ). SetsStartBit ((addr - 16) / 8) 0 l y) same sets),
  );
}
