-- A pool to which a free block comes, where its list was linked.
use Rattle.std.proofs.Common.{◌≡◌, ◌≢◌, ◌≤◌, ◌<◌, inl, inr, ℕ, ◌+◌, ◌-◌, ◌*◌, Bool, true, false, ◌&&◌, ◌==◌}
use Rattle.std.proofs.Common.{List, ◌∷◌, refl, sym, ap, ◌∙◌, arith, subst}
use Rattle.std.specs.List.{count_by}
use Rattle.std.proofs.lemmas.Bool.{cases_eq, and_parts}
use Rattle.sdr_base.specs.Pools.{PoolBlock, Pools, is_of, is_free_of, is_used_at}
use Rattle.sdr_base.specs.SmallPool.{with_list}
use Rattle.sdr_base.specs.LargePool.{order_of, with_free_large}
use Rattle.sdr_base.specs.KeptLarge.{Links, HoldsLarge, IsFreeBlock, is_used_of, is_entry, large_place}
use Rattle.sdr_base.specs.Stored.{number_at, leader_words}
use Rattle.sdr_base.proofs.PoolsLemmas.{is_of-true}
use Rattle.sdr_base.proofs.SmallPoolLemmas.{with_list-here, with_list-other}
use Rattle.sdr_large.specs.Frame.{HasFrame}
use Rattle.sdr_large.specs.Gap.{TilesAround, IsFree, Steps}
use Rattle.sdr_large.proofs.ChangeLemmas.{leaders_kept, free_kept, used_kept, used_stays}
use Rattle.sdr_large.proofs.ChangeLemmas.{control_kept, below_stays}
use Rattle.sdr_large.proofs.GapLemmas.{put_or_was, not_put, positive, other_addr, front_order}
use Rattle.sdr_large.proofs.LinksLemmas.{FreeAt, Links-same}
use Rattle.sdr_large.proofs.ListsLemmas.{order_of-le, entry_free}
use Rattle.sdr_large.proofs.PlacesLemmas.{unique, nonzero, entered_once}
use Rattle.sdr_large.proofs.PlacesLemmas.{entered_free}
use Rattle.sdr_large.proofs.RelinkLemmas.{links_pushed}
use Rattle.sdr_large.proofs.PutFreeLemmas.{IsPushed, first}

module _ (P : Pools) (from to : ℕ) (x y z : List ℕ) (tiles : TilesAround P from to) (holds : HoldsLarge x P)
    (words addr : ℕ) (at : addr ≡ from + 16) (fits : from + 8 * (4 + words) ≤ to) (some : 1 ≤ words)
    (frame : HasFrame false words addr (number_at (large_place (order_of words)) x) z y)
    (r : IsPushed P from to words addr x y) where
  abbrev list : ℕ
  list = order_of words

  abbrev front : ℕ
  front = number_at (large_place list) x

  first_at : front ≢ 0 → FreeAt P.large front
  first_at some_front = first P from to x tiles holds words addr at fits some some_front

  abbrev block : PoolBlock
  block = record { addr = addr; words = words; used = false }

  lists : (o : ℕ) → o ≤ 20 →
      Links y (large_place o) 0 (with_list list ((addr, words) ∷ P.large_lists list) P.large_lists o)
  lists o le = elim (cases_eq o list) [
    | inl same ↦
        subst (λ (k : ℕ). Links y (large_place k) 0
        (with_list list ((addr, words) ∷ P.large_lists list) P.large_lists k)) (sym same)
        (subst (λ (l : List (ℕ × ℕ)). Links y (large_place list) 0 l)
        (sym (with_list-here list ((addr, words) ∷ P.large_lists list) P.large_lists))
        (links_pushed x y P.large list words addr (positive P from to x tiles holds words addr at fits)
        (nonzero P from to tiles) (unique P from to tiles) (P.large_lists list)
        (holds.lists list (order_of-le words))
        (λ w b there. entered_free P from to tiles list w b there)
        (λ w b. entered_once P from to tiles list w b)
        (λ w b f. other_addr P from to x tiles holds words addr at fits w b f)
        r.front_is frame.before frame.link r.back_is r.next_same r.back_same))
    | inr differ ↦
        subst (λ (l : List (ℕ × ℕ)). Links y (large_place o) 0 l)
        (sym (with_list-other list o ((addr, words) ∷ P.large_lists list) P.large_lists differ))
        (Links-same x y addr (positive P from to x tiles holds words addr at fits) (large_place o) 0 (P.large_lists o)
        (holds.lists o le) (λ other. r.front_same o le differ)
        (λ w b there other. r.next_same w b (entered_free P from to tiles o w b there))
        (λ w b there other. r.back_same w b (entered_free P from to tiles o w b there) (elsewhere w b there differ))
        (λ zero_is. positive P from to x tiles holds words addr at fits (sym zero_is))
        (λ w b there. other_addr P from to x tiles holds words addr at fits w b (entered_free P from to tiles o w b there)))
  ]
    where
      -- the front of the block's list is in no other list
      elsewhere : (w b : ℕ) → 0 < count_by (is_entry w b) (P.large_lists o) → o ≢ list → b ≢ front
      elsewhere w b there differ is =
          let f = entry_free P tiles.lists o w b there in
          let s : front ≢ 0 = (λ none. nonzero P from to tiles w b f.1 (is ∙ none)) in
          differ (f.0 ∙ ap order_of (unique P from to tiles w (first_at s).words front
          (subst (λ (a : ℕ). IsFree P w a) is f.1) (first_at s).free)
          ∙ front_order P from to x tiles holds words addr at fits list (first_at s).words (order_of-le words) s
          (first_at s).free)

  of_new : (w a : ℕ) → is_of w a block ≡ true → (w ≡ words) × (a ≡ addr)
  of_new w a is = let b = is_of-true w a block is in (sym b.1, sym b.0)

  own_free : IsFreeBlock words addr y
  own_free = record { kind = frame.kind; length = frame.bare; last = frame.last }

  not_used : (n : ℕ) → is_used_at n block ≡ false
  not_used n = never (addr == n)
    where
      never : (v : Bool) → (v && false) ≡ false
      never true = refl
      never false = refl

  pub free_put : Steps P (with_free_large P addr words) 0 x y
  free_put = record {
    holds = record {
      size = r.changes.size ∙ holds.size;
      low = control_kept P from to x y tiles holds r.changes 16 (omega arith) ∙ holds.low;
      high = control_kept P from to x y tiles holds r.changes 24 (omega arith) ∙ holds.high;
      lists = lists;
      leaders = λ w a there. elim (put_or_was (is_of w a) block P.large there) [
        | inl new ↦ ap (λ (n : ℕ). leader_words (n - 16) y) (of_new w a new).1 ∙ frame.named ∙ sym (of_new w a new).0
        | inr was ↦ leaders_kept P from to x y tiles holds r.changes w a was
      ];
      free = λ w a there. elim (put_or_was (is_free_of w a) block P.large there) [
        | inl new ↦
            let is = of_new w a (and_parts (is_of w a block) true new).0 in
            subst (λ (n : ℕ). IsFreeBlock n a y) (sym is.0)
            (subst (λ (n : ℕ). IsFreeBlock words n y) (sym is.1) own_free)
        | inr was ↦ free_kept P from to x y tiles holds r.changes w a was
      ];
      used = λ w a there. elim (put_or_was (is_used_of w a) block P.large there) [
        | inl new ↦ absurd (false_not_true (never (is_of w a block)) new)
        | inr was ↦ used_kept P from to x y tiles holds r.changes w a was
      ];
      bits = λ word within ge. r.bits word within ∙ holds.bits word within ge
          ∙ sym (not_put (is_used_at (8 * word + 16)) block P.large (not_used (8 * word + 16)));
    };
    below = below_stays P from to x y tiles holds r.changes (λ word within lt. r.bits word within);
    used = used_stays P from to x y tiles holds r.changes;
  }
    where
      never : (v : Bool) → (v && false) ≡ false
      never true = refl
      never false = refl

      false_not_true : {v : Bool} → v ≡ false → v ≡ true → ⊥
      false_not_true no_it yes_it = cc
