-- Each pool's calls keep the other pool.
use Rattle.std.proofs.Common.{◌≡◌, ◌≤◌, ◌<◌, inl, inr, ℕ, ◌+◌, ◌-◌, ◌*◌, Bool, true, false, cond, ◌==◌}
use Rattle.std.proofs.Common.{List, get_or, refl, sym, ap, ◌∙◌, arith, subst}
use Rattle.std.specs.Prelude.{Option, Some, None, nat_lt}
use Rattle.std.specs.List.{count_by, find}
use Rattle.std.proofs.lemmas.Bool.{cases_lt}
use Rattle.sdr_base.specs.Pools.{PoolBlock, Pools, is_of}
use Rattle.sdr_base.specs.LargePool.{with_free_large}
use Rattle.sdr_base.specs.LargePool.{with_cut, with_new_large}
use Rattle.sdr_base.specs.LargeGiving.{Loose, loosened, with_below, with_above, joined_below, joined_above, large_freed}
use Rattle.sdr_base.specs.LargeGiving.{is_free_at, is_free_below, give_large}
use Rattle.sdr_base.specs.KeptPools.{KeepsSmall, StaysLarge, list_place}
use Rattle.sdr_base.specs.KeptLarge.{HoldsLarge, KeepsLarge, StaysSmall, large_place}
use Rattle.sdr_base.specs.Stored.{number_at}
use Rattle.sdr_base.proofs.KeptPoolsLemmas.{ChainFrom-moved, IsInOrder, in_order as small_order, IsBlock, is_block, free_is, listed_is}
use Rattle.sdr_base.proofs.PoolsLemmas.{at-last, used-le-at}
use Rattle.sdr_base.proofs.StoredLemmas.{number_at-same, leader_words-same, leader_kind-same, leader_length-same}
use Rattle.sdr_large.specs.Gap.{TilesAround, IsFree}
use Rattle.sdr_large.proofs.FollowsLemmas.{at_first}
use Rattle.sdr_large.proofs.LinksLemmas.{Links-same}
use Rattle.sdr_large.proofs.PartedLemmas.{IsBeside}
use Rattle.sdr_large.proofs.PlacesLemmas.{InOrder, in_order as large_order, at_block, free_of, used_of, entered_free}
use Rattle.sdr_large.proofs.WalkLemmas.{tiles_whole}

-- the small pool is the same
pub record SameSmall (P Q : Pools) : Type 0 where
  pub start : Q.start ≡ P.start
  pub end : Q.end ≡ P.end
  pub low : Q.low ≡ P.low
  pub small : Q.small ≡ P.small
  pub small_lists : Q.small_lists ≡ P.small_lists

-- the large pool is the same
pub record SameLarge (P Q : Pools) : Type 0 where
  pub start : Q.start ≡ P.start
  pub end : Q.end ≡ P.end
  pub high : Q.high ≡ P.high
  pub large : Q.large ≡ P.large
  pub large_lists : Q.large_lists ≡ P.large_lists

-- the pools with the large pool of others
abbrev with_large_of : Pools → Pools → Pools
with_large_of P Q = record P { high = Q.high; large = Q.large; large_lists = Q.large_lists }

-- the pools with the small pool of others
abbrev with_small_of : Pools → Pools → Pools
with_small_of P Q = record P { low = Q.low; small = Q.small; small_lists = Q.small_lists }

small_path : (P Q : Pools) → SameSmall P Q → with_large_of P Q ≡ Q
small_path P Q s =
    ap (λ (n : ℕ). record (with_large_of P Q) { start = n }) (sym s.start)
    ∙ ap (λ (n : ℕ). record (with_large_of P Q) { start = Q.start; end = n }) (sym s.end)
    ∙ ap (λ (n : ℕ). record (with_large_of P Q) { start = Q.start; end = Q.end; low = n }) (sym s.low)
    ∙ ap (λ (l : List PoolBlock). record (with_large_of P Q) {
      start = Q.start;
      end = Q.end;
      low = Q.low;
      small = l;
    }) (sym s.small)
    ∙ ap (λ (l : ℕ → List ℕ). record (with_large_of P Q) {
      start = Q.start;
      end = Q.end;
      low = Q.low;
      small = Q.small;
      small_lists = l;
    }) (sym s.small_lists)

large_path : (P Q : Pools) → SameLarge P Q → with_small_of P Q ≡ Q
large_path P Q s =
    ap (λ (n : ℕ). record (with_small_of P Q) { start = n }) (sym s.start)
    ∙ ap (λ (n : ℕ). record (with_small_of P Q) { start = Q.start; end = n }) (sym s.end)
    ∙ ap (λ (n : ℕ). record (with_small_of P Q) { start = Q.start; end = Q.end; high = n }) (sym s.high)
    ∙ ap (λ (l : List PoolBlock). record (with_small_of P Q) {
      start = Q.start;
      end = Q.end;
      high = Q.high;
      large = l;
    }) (sym s.large)
    ∙ ap (λ (l : ℕ → List (ℕ × ℕ)). record (with_small_of P Q) {
      start = Q.start;
      end = Q.end;
      high = Q.high;
      large = Q.large;
      large_lists = l;
    }) (sym s.large_lists)

-- what a call of the large pool leaves of the small pool
module _ (P Q : Pools) (x y : List ℕ) (keeps : KeepsSmall x P) (stays : StaysSmall P Q x y)
    (high : number_at 24 y ≡ Q.high) (order : P.low ≤ Q.high) (end : Q.high ≤ P.end) where
  o : IsInOrder x P
  o = small_order x P keeps

  at : (w a : ℕ) → 0 < count_by (is_of w a) P.small → IsBlock x P w a
  at w a some = is_block x P w a keeps some

  up : (i : ℕ) → P.start ≤ i → i < P.low → get_or y i 0 ≡ get_or x i 0
  up i ge lt = stays.blocks i ge lt

  leader : (w a : ℕ) → 0 < count_by (is_of w a) P.small → (i : ℕ) → a - 8 ≤ i → i < a - 8 + 8 →
      get_or y i 0 ≡ get_or x i 0
  leader w a some i ge lt =
      let b = at w a some in up i (omega (arith, ge, b.first)) (omega (arith, lt, b.first, b.last, b.some))

  small_keeps : KeepsSmall y (with_large_of P Q)
  small_keeps = record {
    tiles = record {
      bounds = record {
        region = keeps.tiles.bounds.region;
        start = keeps.tiles.bounds.start;
        order = order;
        end = end;
      };
      follow = keeps.tiles.follow;
      listed = keeps.tiles.listed;
    };
    size = stays.size ∙ keeps.size;
    region = number_at-same 0 x y (λ i ge lt. stays.front i (omega (arith, lt))) ∙ keeps.region;
    start = number_at-same 8 x y (λ i ge lt. stays.front i (omega (arith, lt))) ∙ keeps.start;
    low = number_at-same 16 x y (λ i ge lt. stays.front i (omega (arith, lt))) ∙ keeps.low;
    high = high;
    lists = λ words some few.
        ChainFrom-moved x y (list_place words) (list_place words) (P.small_lists words)
        (number_at-same (list_place words) x y (λ i ge lt. stays.lists i (omega (arith, ge, some)) (omega (arith, lt, few))))
        (λ a there.
        let b = at words a (free_is P words a (listed_is x P words a keeps there)) in
        number_at-same a x y (λ i ge lt. up i (omega (arith, ge, b.first)) (omega (arith, lt, b.last, b.some))))
        (keeps.lists words some few);
    leaders = λ w a some. leader_words-same (a - 8) x y (leader w a some) ∙ keeps.leaders w a some;
    kinds = λ w a some. leader_kind-same (a - 8) x y (leader w a (free_is P w a some)) ∙ keeps.kinds w a some;
    lengths = λ w a some. leader_length-same (a - 8) x y (leader w a (free_is P w a some)) ∙ keeps.lengths w a some;
    bits = λ word within below. elim (cases_lt (8 * word) P.high) [
      | inl under ↦ stays.bits word within under below ∙ keeps.bits word within under
      | inr over ↦
          stays.freed word within over below
          ∙ omega (
            arith,
            used-le-at (8 * word + 8) P.small,
            at-last P.start P.low (8 * word + 8) P.small keeps.tiles.follow
                (omega (arith, over, keeps.tiles.bounds.order)),
          )
    ];
  }

-- a call of the large pool keeps the small pool
pub small_kept : (P Q : Pools) (x y : List ℕ) → SameSmall P Q → KeepsSmall x P → StaysSmall P Q x y → KeepsLarge y Q →
    KeepsSmall y Q
small_kept P Q x y same keeps stays large =
    subst (KeepsSmall y) (small_path P Q same)
    (small_keeps P Q x y keeps stays large.holds.high
    (omega (arith, large.tiles.bounds.order, same.low)) (omega (arith, large.tiles.bounds.end, same.end)))

-- what a call of the small pool leaves of the large pool
module _ (P Q : Pools) (x y : List ℕ) (keeps : KeepsLarge x P) (stays : StaysLarge P x y) (same : SameLarge P Q)
    (small : KeepsSmall y Q) where
  t : TilesAround P P.end P.end
  t = tiles_whole P keeps.tiles

  q : InOrder P P.end P.end
  q = large_order P P.end P.end t

  place : (w a : ℕ) → 0 < count_by (is_of w a) P.large → IsBeside P.high P.end P.end P.end w a P.large
  place w a some = at_block P P.end P.end t w a some

  free_place : (w a : ℕ) → IsFree P w a → IsBeside P.high P.end P.end P.end w a P.large
  free_place w a f = place w a (free_of P P.end P.end t w a f)

  word_same : (p : ℕ) → P.high ≤ p → number_at p y ≡ number_at p x
  word_same p ge = number_at-same p x y (λ i le lt. stays.blocks i (omega (arith, ge, le)))

  small_order_is : IsInOrder y Q
  small_order_is = small_order y Q small

  large_holds : HoldsLarge y (with_small_of P Q)
  large_holds = record {
    size = stays.size ∙ keeps.holds.size;
    low = small.low;
    high = number_at-same 24 x y (λ i ge lt. stays.high i ge (omega (arith, lt))) ∙ keeps.holds.high;
    lists = λ order le.
        Links-same x y 8 (λ is. omega (arith, is)) (large_place order) 0 (P.large_lists order)
        (keeps.holds.lists order le)
        (λ differs. number_at-same (large_place order) x y (λ i ge lt. stays.control i (omega (arith, ge))
        (omega (arith, lt, le))))
        (λ w b there differs. word_same (b - 8)
        (omega (arith, (free_place w b (entered_free P P.end P.end t order w b there)).first)))
        (λ w b there differs. word_same (b + 8 * w)
        (omega (arith, (free_place w b (entered_free P P.end P.end t order w b there)).first)))
        (λ is. omega (arith, is))
        (λ w b there is. omega (
          arith,
          is,
          (free_place w b (entered_free P P.end P.end t order w b there)).first,
          q.control,
          q.small,
          q.order,
        ));
    leaders = λ w a some.
        leader_words-same (a - 16) x y (λ i ge lt. stays.blocks i (omega (arith, ge, (place w a some).first)))
        ∙ keeps.holds.leaders w a some;
    free = λ w a some.
        let was = keeps.holds.free w a some in
        let b = free_place w a some in
        record {
          kind = leader_kind-same (a - 16) x y (λ i ge lt. stays.blocks i (omega (arith, ge, b.first))) ∙ was.kind;
          length = leader_length-same (a - 16) x y (λ i ge lt. stays.blocks i (omega (arith, ge, b.first)))
              ∙ was.length;
          last = word_same (a + 8 * w + 8) (omega (arith, b.first)) ∙ was.last;
        };
    used = λ w a some.
        let was = keeps.holds.used w a some in
        let b = place w a (used_of P P.end P.end t w a some) in
        record {
          next = word_same (a - 8) (omega (arith, b.first)) ∙ was.next;
          before = word_same (a + 8 * w) (omega (arith, b.first)) ∙ was.before;
          last = word_same (a + 8 * w + 8) (omega (arith, b.first)) ∙ was.last;
        };
    bits = λ word within ge. elim (cases_lt (8 * word) P.high) [
      | inr over ↦ stays.bits word within over
          ∙ keeps.holds.bits word within (omega (arith, over, q.order))
      | inl under ↦
          small.bits word (omega (arith, within, same.start)) (omega (arith, under, same.high))
          ∙ omega (
            arith,
            used-le-at (8 * word + 8) Q.small,
            at-last Q.start Q.low (8 * word + 8) Q.small small.tiles.follow (omega (arith, ge)),
            used-le-at (8 * word + 16) P.large,
            at_first P.high P.end (8 * word + 16) P.large keeps.tiles.follow (omega (arith, under)),
          )
    ];
  }

  -- a call of the small pool keeps the large pool
  pub large_kept : KeepsLarge y Q
  large_kept = subst (KeepsLarge y) (large_path P Q same) (record {
    tiles = record {
      bounds = record {
        region = keeps.tiles.bounds.region;
        start = keeps.tiles.bounds.start;
        order = omega (arith, small.tiles.bounds.order, same.high);
        end = keeps.tiles.bounds.end;
      };
      least = omega (arith, small_order_is.small, same.start);
      follow = keeps.tiles.follow;
      lists = record { listed = keeps.tiles.lists.listed };
      apart = keeps.tiles.apart;
      edge = keeps.tiles.edge;
    };
    holds = large_holds;
  })

-- the rules of the large pool leave the small pool

same_small : (P : Pools) → SameSmall P P
same_small P = record { start = refl; end = refl; low = refl; small = refl; small_lists = refl }

same_of : (P : Pools) (high : ℕ) (large : List PoolBlock) (lists : ℕ → List (ℕ × ℕ)) →
    SameSmall P (record P { high = high; large = large; large_lists = lists })
same_of P high large lists = record { start = refl; end = refl; low = refl; small = refl; small_lists = refl }

same_either : (v : Bool) (P A B : Pools) → SameSmall P A → SameSmall P B → SameSmall P (cond v A B)
same_either true P A B a b = a
same_either false P A B a b = b

pub cut_same : (P : Pools) (words : ℕ) (block : ℕ × ℕ) → SameSmall P (with_cut P words block)
cut_same P words block = same_either (nat_lt block.1 (words + 12)) P _ _
    (same_of P _ _ _) (same_of P _ _ _)

pub new_same : (P : Pools) (words : ℕ) → SameSmall P (with_new_large P words)
new_same P words = same_of P _ _ _

-- so does giving back
give_same_from : (P : Pools) (loose : Loose) → SameSmall P loose.pools → SameSmall P (large_freed loose)
give_same_from P loose s =
    same_either (loose.addr == loose.pools.high + 16) P
    (record loose.pools { high = loose.addr - 16 + 8 * (4 + loose.words) })
    (with_free_large loose.pools loose.addr loose.words)
    (record { start = s.start; end = s.end; low = s.low; small = s.small; small_lists = s.small_lists })
    (record { start = s.start; end = s.end; low = s.low; small = s.small; small_lists = s.small_lists })

below_same : (P : Pools) (o : Option PoolBlock) (loose : Loose) → SameSmall P loose.pools →
    SameSmall P (with_below o loose).pools
below_same P None loose s = s
below_same P (Some d) loose s =
    record { start = s.start; end = s.end; low = s.low; small = s.small; small_lists = s.small_lists }

above_same : (P : Pools) (o : Option PoolBlock) (loose : Loose) → SameSmall P loose.pools →
    SameSmall P (with_above o loose).pools
above_same P None loose s = s
above_same P (Some d) loose s =
    record { start = s.start; end = s.end; low = s.low; small = s.small; small_lists = s.small_lists }

pub give_same : (P : Pools) (addr : ℕ) → SameSmall P (give_large P addr)
give_same P addr =
    let first : Loose = loosened P addr in
    let second : Loose = joined_below first in
    give_same_from P (joined_above second)
    (above_same P (find (is_free_at (second.addr + 8 * (4 + second.words))) second.pools.large) second
    (below_same P (find (is_free_below first.addr) first.pools.large) first
    (record { start = refl; end = refl; low = refl; small = refl; small_lists = refl })))
