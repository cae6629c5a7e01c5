-- A block in use whose bytes or label have changed.
use Rattle.std.proofs.Common.{◌≡◌, ◌<◌, inl, inr, ℕ, ◌-◌}
use Rattle.std.proofs.Common.{List, sym, ◌∙◌, arith, subst}
use Rattle.std.specs.List.{count_by}
use Rattle.std.proofs.lemmas.Bool.{cases_eq}
use Rattle.sdr_base.specs.KeptLarge.{KeepsLarge, is_used_of}
use Rattle.sdr_base.specs.KeptPools.{KeepsSmall}
use Rattle.sdr_base.specs.Kinds.{kind_of}
use Rattle.sdr_base.specs.Parts.{part}
use Rattle.sdr_base.specs.Pools.{Pools}
use Rattle.sdr_base.specs.Stored.{leader_kind, leader_length}
use Rattle.sdr_large.proofs.PlacesLemmas.{used_of-le-at, used_of-le-of}
use Rattle.sdr_heap.specs.Calls.{KeepsBeside}
use Rattle.sdr_base.specs.KeptHeap.{HasLabel, HasLargeLabel, KeepsHeap, LabelledBut, block_in, block_of}
use Rattle.sdr_heap.proofs.BesideLemmas.{beside_kept, labels_beside}
use Rattle.sdr_heap.proofs.BlockInLemmas.{small_in, large_in}
use Rattle.sdr_heap.proofs.InsideLargeLemmas.{large_stays_kept}
use Rattle.sdr_heap.proofs.InsideLemmas.{ChangesInside, small_stays_kept}
use Rattle.sdr_heap.proofs.UsedLemmas.{small_at, large_at}

-- the heap is kept, the block is what its leader says now, and all else is as before
pub record Relabelled (P : Pools) (place addr : ℕ) (x y : List ℕ) : Type 0 where
  pub keeps : KeepsHeap y P
  pub here : block_in y addr ≡ block_of (kind_of (leader_kind place y)) (part addr (leader_length place y) y)
  pub beside : KeepsBeside addr x y

module _ (x y : List ℕ) (P : Pools) (words addr : ℕ) (small : KeepsSmall x P) (large : KeepsLarge x P)
    (labels : LabelledBut addr x P) where
  pub small_relabelled : 0 < count_by (is_used_of words addr) P.small → ChangesInside (addr - 8) words addr x y →
      HasLabel (addr - 8) words y → Relabelled P (addr - 8) addr x y
  small_relabelled used change label =
      let stays = small_stays_kept x y P words addr small large used change in
      let others = labels_beside P P addr x y small large labels stays.small stays.large stays.others in
      record {
        keeps = record {
          small = stays.small;
          large = stays.large;
          labels = record {
            small = λ w a apart used'. elim (cases_eq a addr) [
              | inr differ ↦ others.small w a differ used'
              | inl is ↦
                  let there = subst (λ (n : ℕ). 0 < count_by (is_used_of w n) P.small) is used' in
                  subst (λ (n : ℕ). HasLabel (n - 8) w y) (sym is)
                  (subst (λ (n : ℕ). HasLabel (addr - 8) n y) (one w there) label)
            ];
            large = λ w a apart used'. others.large w a (λ is. never w a is used') used';
          };
        };
        here = small_in y P stays.small stays.large addr
            (record { used = omega (arith, used, used_of-le-at words addr P.small) });
        beside = beside_kept P P addr x y small large labels stays.small stays.large stays.others;
      }
    where
      one : (w : ℕ) → 0 < count_by (is_used_of w addr) P.small → words ≡ w
      one w there =
          sym (small.leaders words addr (omega (arith, used, used_of-le-of words addr P.small)))
          ∙ small.leaders w addr (omega (arith, there, used_of-le-of w addr P.small))

      never : (w a : ℕ) → a ≡ addr → 0 < count_by (is_used_of w a) P.large → ⊥
      never w a is used' = omega (
        arith,
        is,
        (large_at x P large w a used').first,
        (small_at x P small words addr used).last,
        small.tiles.bounds.order,
      )

  pub large_relabelled : 0 < count_by (is_used_of words addr) P.large → ChangesInside (addr - 16) words addr x y →
      HasLargeLabel (addr - 16) words y → Relabelled P (addr - 16) addr x y
  large_relabelled used change label =
      let stays = large_stays_kept x y P words addr small large used change in
      let others = labels_beside P P addr x y small large labels stays.small stays.large stays.others in
      record {
        keeps = record {
          small = stays.small;
          large = stays.large;
          labels = record {
            small = λ w a apart used'. others.small w a (λ is. never w a is used') used';
            large = λ w a apart used'. elim (cases_eq a addr) [
              | inr differ ↦ others.large w a differ used'
              | inl is ↦
                  let there = subst (λ (n : ℕ). 0 < count_by (is_used_of w n) P.large) is used' in
                  subst (λ (n : ℕ). HasLargeLabel (n - 16) w y) (sym is)
                  (subst (λ (n : ℕ). HasLargeLabel (addr - 16) n y) (one w there) label)
            ];
          };
        };
        here = large_in y P stays.small stays.large addr
            (record { used = omega (arith, used, used_of-le-at words addr P.large) });
        beside = beside_kept P P addr x y small large labels stays.small stays.large stays.others;
      }
    where
      one : (w : ℕ) → 0 < count_by (is_used_of w addr) P.large → words ≡ w
      one w there =
          sym (large.holds.leaders words addr (omega (arith, used, used_of-le-of words addr P.large)))
          ∙ large.holds.leaders w addr (omega (arith, there, used_of-le-of w addr P.large))

      never : (w a : ℕ) → a ≡ addr → 0 < count_by (is_used_of w a) P.small → ⊥
      never w a is used' = omega (
        arith,
        is,
        (large_at x P large words addr used).first,
        (small_at x P small w a used').last,
        small.tiles.bounds.order,
      )
