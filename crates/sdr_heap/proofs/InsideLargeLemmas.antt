-- Bytes that change inside of a large block in use.
use Rattle.std.proofs.Common.{◌≡◌, ◌≢◌, ◌≤◌, ◌<◌, inl, inr, ℕ, ◌+◌, ◌-◌, ◌*◌, ◌/◌}
use Rattle.std.proofs.Common.{List, get_or, refl, sym, ◌∙◌, arith, subst}
use Rattle.std.specs.List.{count_by}
use Rattle.std.proofs.lemmas.Bool.{cases_eq}
use Rattle.sdr_base.specs.KeptLarge.{KeepsLarge, IsUsedBlock, StaysSmall, is_used_of, is_entry, large_place}
use Rattle.sdr_base.specs.KeptPools.{KeepsSmall}
use Rattle.sdr_base.specs.Pools.{Pools, is_of}
use Rattle.sdr_base.specs.Stored.{leader_words}
use Rattle.sdr_base.proofs.StartBitsLemmas.{start_bit-same}
use Rattle.sdr_base.proofs.StoredLemmas.{number_at-same, leader_kind-same, leader_words-same, leader_length-same}
use Rattle.sdr_large.specs.Calls.{Becomes}
use Rattle.sdr_large.specs.Gap.{IsFree, TilesAround}
use Rattle.sdr_large.proofs.BothPoolsLemmas.{SameSmall}
use Rattle.sdr_large.proofs.LinksLemmas.{Links-same}
use Rattle.sdr_large.proofs.PartedLemmas.{IsBeside}
use Rattle.sdr_large.proofs.PlacesLemmas.{InOrder, in_order as large_order, at_block, entered_free, free_of}
use Rattle.sdr_large.proofs.PlacesLemmas.{never_both, one_or_apart, same_words, used_of}
use Rattle.sdr_large.proofs.WalkLemmas.{tiles_whole}
use Rattle.sdr_heap.proofs.UsedLemmas.{large_at}
use Rattle.sdr_heap.proofs.LargeChangeLemmas.{NoneCame, large_stay, large_small}
use Rattle.sdr_heap.proofs.InsideLemmas.{ChangesInside, StaysKept}

-- a large block
module _ (x y : List ℕ) (P : Pools) (words addr : ℕ) (small : KeepsSmall x P) (large : KeepsLarge x P)
    (used : 0 < count_by (is_used_of words addr) P.large) (change : ChangesInside (addr - 16) words addr x y) where
  t : TilesAround P P.end P.end
  t = tiles_whole P large.tiles

  q : InOrder P P.end P.end
  q = large_order P P.end P.end t

  c : IsBeside P.high P.end P.end P.end words addr P.large
  c = large_at x P large words addr used

  is : 0 < count_by (is_of words addr) P.large
  is = used_of P P.end P.end t words addr used

  below : (i : ℕ) → i < P.high → get_or y i 0 ≡ get_or x i 0
  below i lt = change.bytes i (inl (omega (arith, lt, c.first))) (inl (omega (arith, lt, c.first)))

  -- a byte of another block or its frame
  beside : (w a : ℕ) → 0 < count_by (is_of w a) P.large → a ≢ addr → (i : ℕ) → a - 16 ≤ i → i < a + 8 * w + 16 →
      get_or y i 0 ≡ get_or x i 0
  beside w a some differ i ge lt = elim (one_or_apart P P.end P.end t words addr w a is some) [
    | inl one ↦ absurd (differ one.0)
    | inr sides ↦ elim sides [
      | inl under ↦ change.bytes i (inl (omega (arith, under, lt))) (inl (omega (arith, under, lt)))
      | inr over ↦ change.bytes i (inr (omega (arith, over, ge, c.first))) (inr (omega (arith, over, ge)))
    ]
  ]

  -- a byte of a free block or its frame
  freed : (w a : ℕ) → IsFree P w a → (i : ℕ) → a - 16 ≤ i → i < a + 8 * w + 16 → get_or y i 0 ≡ get_or x i 0
  freed w a some i ge lt = beside w a (free_of P P.end P.end t w a some) (λ one.
      never_both P P.end P.end t w words addr (subst (λ (n : ℕ). IsFree P w n) one some) used) i ge lt

  at : (w a : ℕ) → 0 < count_by (is_of w a) P.large → IsBeside P.high P.end P.end P.end w a P.large
  at w a some = at_block P P.end P.end t w a some

  listed : (order w a : ℕ) → 0 < count_by (is_entry w a) (P.large_lists order) → IsFree P w a
  listed order w a there = entered_free P P.end P.end t order w a there

  -- the words of the links of a block in use are 0 still
  still_used : (w a : ℕ) → 0 < count_by (is_used_of w a) P.large → IsUsedBlock w a y
  still_used w a used' = elim (cases_eq a addr) [
    | inl one ↦
        let there : 0 < count_by (is_used_of w addr) P.large =
        subst (λ (n : ℕ). 0 < count_by (is_used_of w n) P.large) one used' in
        let alike : words ≡ w = same_words P P.end P.end t words w addr is (used_of P P.end P.end t w addr there) in
        subst (λ (n : ℕ). IsUsedBlock w n y) (sym one)
        (subst (λ (n : ℕ). IsUsedBlock n addr y) alike (own (large.holds.used words addr used)))
    | inr differ ↦
        let was = large.holds.used w a used' in
        let some = used_of P P.end P.end t w a used' in
        let b' = at w a some in
        record {
          next = number_at-same (a - 8) x y
              (λ i ge lt. beside w a some differ i (omega (arith, ge)) (omega (arith, lt, b'.first)))
              ∙ was.next;
          before = number_at-same (a + 8 * w) x y
              (λ i ge lt. beside w a some differ i (omega (arith, ge)) (omega (arith, lt)))
              ∙ was.before;
          last = number_at-same (a + 8 * w + 8) x y
              (λ i ge lt. beside w a some differ i (omega (arith, ge)) (omega (arith, lt)))
              ∙ was.last;
        }
  ]
    where
      own : IsUsedBlock words addr x → IsUsedBlock words addr y
      own was = record {
        next = number_at-same (addr - 8) x y (λ i ge lt. change.bytes i (inr (omega (arith, ge, c.first)))
            (inl (omega (arith, lt, c.first)))) ∙ was.next;
        before = number_at-same (addr + 8 * words) x y (λ i ge lt. change.bytes i
            (inr (omega (arith, ge, c.first))) (inr ge)) ∙ was.before;
        last = number_at-same (addr + 8 * words + 8) x y (λ i ge lt. change.bytes i
            (inr (omega (arith, ge, c.first))) (inr (omega (arith, ge)))) ∙ was.last;
      }

  large_inside : KeepsLarge y P
  large_inside = record {
    tiles = large.tiles;
    holds = record {
      size = change.size ∙ large.holds.size;
      low = number_at-same 16 x y (λ i ge lt. below i (omega (arith, lt, q.control, q.small, q.order)))
          ∙ large.holds.low;
      high = number_at-same 24 x y (λ i ge lt. below i (omega (arith, lt, q.control, q.small, q.order)))
          ∙ large.holds.high;
      lists = λ order le.
          Links-same x y 8 (λ one. omega (arith, one)) (large_place order) 0 (P.large_lists order)
          (large.holds.lists order le)
          (λ differs. number_at-same (large_place order) x y (λ i ge lt. below i
          (omega (arith, lt, le, q.control, q.small, q.order))))
          (λ w a there differs.
          let b' = at w a (free_of P P.end P.end t w a (listed order w a there)) in
          number_at-same (a - 8) x y (λ i ge lt. freed w a (listed order w a there) i (omega (arith, ge))
          (omega (arith, lt, b'.first))))
          (λ w a there differs. number_at-same (a + 8 * w) x y (λ i ge lt. freed w a (listed order w a there) i
          (omega (arith, ge)) (omega (arith, lt))))
          (λ one. omega (arith, one))
          (λ w a there one. omega (
            arith,
            one,
            (at w a (free_of P P.end P.end t w a (listed order w a there))).first,
            q.control,
            q.small,
            q.order,
          ));
      leaders = λ w a some. elim (cases_eq a addr) [
        | inl one ↦
            subst (λ (n : ℕ). leader_words (n - 16) y ≡ w) (sym one)
            (change.leader ∙ subst (λ (n : ℕ). leader_words (n - 16) x ≡ w) one (large.holds.leaders w a some))
        | inr differ ↦
            leader_words-same (a - 16) x y
            (λ i ge lt. beside w a some differ i ge (omega (arith, lt, (at w a some).first)))
            ∙ large.holds.leaders w a some
      ];
      free = λ w a some.
          let was = large.holds.free w a some in
          let b' = at w a (free_of P P.end P.end t w a some) in
          record {
            kind = leader_kind-same (a - 16) x y (λ i ge lt. freed w a some i ge (omega (arith, lt, b'.first)))
                ∙ was.kind;
            length = leader_length-same (a - 16) x y (λ i ge lt. freed w a some i ge (omega (arith, lt, b'.first)))
                ∙ was.length;
            last = number_at-same (a + 8 * w + 8) x y
                (λ i ge lt. freed w a some i (omega (arith, ge)) (omega (arith, lt)))
                ∙ was.last;
          };
      used = still_used;
      bits = λ word within ge.
          start_bit-same word x y (below (1024 + word / 8) (omega (arith, within, q.small, q.order)))
          ∙ large.holds.bits word within ge;
    };
  }

  stays_small : StaysSmall P P x y
  stays_small = record {
    size = change.size;
    front = λ i lt. below i (omega (arith, lt, q.control, q.small, q.order));
    lists = λ i ge lt. below i (omega (arith, lt, q.control, q.small, q.order));
    control = λ i ge lt. below i (omega (arith, lt, q.control, q.small, q.order));
    blocks = λ i ge lt. below i (omega (arith, lt, q.order));
    bits = λ word within lt _. start_bit-same word x y
        (below (1024 + word / 8) (omega (arith, within, q.small, q.order)));
    freed = λ word within ge lt. absurd (omega (arith, ge, lt));
  }

  becomes : Becomes P P addr x y
  becomes = record {
    keeps = large_inside;
    still = λ w a used' differ. used';
    small = stays_small;
    others = record {
      blocks = λ w a used' differ i ge lt. beside w a (used_of P P.end P.end t w a used') differ i ge lt;
    };
  }

  -- a change inside of a large block in use
  pub large_stays_kept : StaysKept P addr x y
  large_stays_kept =
      let same' : SameSmall P P = record { start = refl; end = refl; low = refl; small = refl; small_lists = refl } in
      let came : NoneCame addr P.large P.large = record { was = λ w a differ used'. used' } in
      record {
        small = large_small P P addr x y small large same' becomes came;
        large = large_inside;
        others = large_stay P P addr x y small large same' becomes came;
      }
