-- A pool from which a free block leaves, where its list was relinked.
use Rattle.std.proofs.Common.{◌≡◌, ◌≢◌, ◌≤◌, ◌<◌, inl, inr, ℕ, ◌+◌, ◌*◌}
use Rattle.std.proofs.Common.{List, refl, sym, ap, ◌∙◌, arith, subst}
use Rattle.std.specs.List.{count_by}
use Rattle.std.proofs.lemmas.Bool.{cases_eq}
use Rattle.sdr_base.specs.Pools.{Pools, is_of, is_free_of, is_used_at}
use Rattle.sdr_base.specs.SmallPool.{with_list}
use Rattle.sdr_base.specs.LargePool.{order_of, without, unlisted, with_unlinked}
use Rattle.sdr_base.specs.KeptLarge.{Links, HoldsLarge, is_used_of, is_entry, large_place}
use Rattle.sdr_base.proofs.PoolsLemmas.{free-used-le-at}
use Rattle.sdr_base.proofs.SmallPoolLemmas.{with_list-here, with_list-other}
use Rattle.sdr_large.specs.Gap.{TilesAround, IsFree, Steps}
use Rattle.sdr_large.proofs.BlocksLemmas.{without-other, without-here, used_at_is, without-le}
use Rattle.sdr_large.proofs.ChangeLemmas.{leaders_kept, free_kept, used_kept, used_stays}
use Rattle.sdr_large.proofs.ChangeLemmas.{control_kept, below_stays}
use Rattle.sdr_large.proofs.LinksLemmas.{Links-same}
use Rattle.sdr_large.proofs.ListsLemmas.{order_of-le, entry_free}
use Rattle.sdr_large.proofs.PartedLemmas.{IsBeside}
use Rattle.sdr_large.proofs.PlacesLemmas.{at_block, free_of, unique, nonzero}
use Rattle.sdr_large.proofs.PlacesLemmas.{entered_once, entered_free}
use Rattle.sdr_large.proofs.RelinkLemmas.{links_without}
use Rattle.sdr_large.proofs.UnlinkLemmas.{IsRelinked}

module _ (P : Pools) (from to : ℕ) (x y : List ℕ) (tiles : TilesAround P from to) (holds : HoldsLarge x P)
    (words addr : ℕ) (free : IsFree P words addr) (r : IsRelinked P from to words addr x y) where
  block : IsBeside P.high P.end from to words addr P.large
  block = at_block P from to tiles words addr (free_of P from to tiles words addr free)

  positive : addr ≢ 0
  positive = nonzero P from to tiles words addr free

  lists : (o : ℕ) → o ≤ 20 →
      Links y (large_place o) 0 (with_list (order_of words) (unlisted addr (P.large_lists (order_of words))) P.large_lists o)
  lists o le = elim (cases_eq o (order_of words)) [
    | inl same ↦
        subst (λ (k : ℕ). Links y (large_place k) 0
        (with_list (order_of words) (unlisted addr (P.large_lists (order_of words))) P.large_lists k)) (sym same)
        (subst (λ (l : List (ℕ × ℕ)). Links y (large_place (order_of words)) 0 l)
        (sym (with_list-here (order_of words) (unlisted addr (P.large_lists (order_of words))) P.large_lists))
        (links_without x y P.large (order_of words) words addr positive (nonzero P from to tiles)
        (unique P from to tiles) free r.moved r.back r.next_same r.back_same (large_place (order_of words)) 0
        (P.large_lists (order_of words)) (holds.lists (order_of words) (order_of-le words)) refl
        (λ zero_is. positive (sym zero_is)) (r.front_same (order_of words) (order_of-le words))
        (λ w b there. entered_free P from to tiles (order_of words) w b there)
        (λ w b. entered_once P from to tiles (order_of words) w b)))
    | inr differ ↦
        subst (λ (l : List (ℕ × ℕ)). Links y (large_place o) 0 l)
        (sym (with_list-other (order_of words) o (unlisted addr (P.large_lists (order_of words))) P.large_lists differ))
        (Links-same x y addr positive (large_place o) 0 (P.large_lists o) (holds.lists o le) (r.front_same o le)
        (λ w b there. r.next_same w b (entered_free P from to tiles o w b there))
        (λ w b there. r.back_same w b (entered_free P from to tiles o w b there))
        (λ zero_is. positive (sym zero_is))
        (λ w b there is_addr. differ (elsewhere w b there is_addr)))
  ]
    where
      elsewhere : (w b : ℕ) → 0 < count_by (is_entry w b) (P.large_lists o) → b ≡ addr → o ≡ order_of words
      elsewhere w b there is_addr =
          let f = entry_free P tiles.lists o w b there in
          f.0 ∙ ap order_of (unique P from to tiles w words addr
          (subst (λ (a : ℕ). IsFree P w a) is_addr f.1) free)

  used_without : (at : ℕ) → count_by (is_used_at at) (without addr P.large) ≡ count_by (is_used_at at) P.large
  used_without at = elim (cases_eq at addr) [
    | inl same ↦
        ap (λ (a : ℕ). count_by (is_used_at a) (without addr P.large)) same
        ∙ without-here (is_used_at addr) addr P.large (used_at_is addr)
        ∙ sym (ap (λ (a : ℕ). count_by (is_used_at a) P.large) same
        ∙ omega (arith, free, block.once, free-used-le-at words addr P.large))
    | inr differ ↦ without-other (is_used_at at) at addr P.large (used_at_is at) differ
  ]

  pub unlinked : Steps P (with_unlinked P addr words) 0 x y
  unlinked = record {
    holds = record {
      size = r.changes.size ∙ holds.size;
      low = control_kept P from to x y tiles holds r.changes 16 (omega arith) ∙ holds.low;
      high = control_kept P from to x y tiles holds r.changes 24 (omega arith) ∙ holds.high;
      lists = lists;
      leaders = λ w a there. leaders_kept P from to x y tiles holds r.changes w a
          (omega (arith, there, without-le (is_of w a) addr P.large));
      free = λ w a there. free_kept P from to x y tiles holds r.changes w a
          (omega (arith, there, without-le (is_free_of w a) addr P.large));
      used = λ w a there. used_kept P from to x y tiles holds r.changes w a
          (omega (arith, there, without-le (is_used_of w a) addr P.large));
      bits = λ word within ge. r.bits word within ∙ holds.bits word within ge
          ∙ sym (used_without (8 * word + 16));
    };
    below = below_stays P from to x y tiles holds r.changes (λ word within lt. r.bits word within);
    used = used_stays P from to x y tiles holds r.changes;
  }
