-- A block chosen in the small pool.
use Rattle.std.proofs.Common.{◌≡◌, ◌≢◌, ◌≤◌, ◌<◌, inl, inr, ℕ, ◌+◌, ◌*◌, Bool, true, false, cond}
use Rattle.std.proofs.Common.{List, [], ◌∷◌, refl, sym, ◌∙◌, arith}
use Rattle.std.specs.Prelude.{Option, Some, None, nat_lt}
use Rattle.std.specs.Option.{option_or}
use Rattle.std.specs.List.{count_by}
use Rattle.std.proofs.lemmas.Bool.{ltb-false}
use Rattle.std.proofs.lemmas.Bool.Decides.{nat_tests}
use Rattle.sdr_base.specs.KeptLarge.{KeepsLarge}
use Rattle.sdr_base.specs.LargePool.{take_large}
use Rattle.sdr_base.specs.Pools.{PoolBlock, Pools, is_of, is_used_at}
use Rattle.sdr_base.specs.SmallPool.{take_from, with_front_taken, with_new_small}
use Rattle.sdr_base.proofs.KeptPoolsLemmas.{is_block, in_order, free_is, front_free}
use Rattle.sdr_base.proofs.PoolsLemmas.{free-used-le-at}
use Rattle.sdr_base.proofs.PoolsLemmas.{count_by-append, count_by-yes, count_by-no}
use Rattle.sdr_base.proofs.SmallPoolLemmas.{of-with_used}
use Rattle.sdr_small.specs.Calls.{TakesBlock, TakesBy, TakesSmall}
use Rattle.sdr_large.proofs.PlacesLemmas.{used_of-le-of}
use Rattle.sdr_heap.specs.Calls.{ChoosesBlock, ChoosesBy, Chooses}
use Rattle.sdr_base.specs.KeptHeap.{KeepsHeap, LabelledBut}
use Rattle.sdr_heap.proofs.BesideLemmas.{labels_beside, beside_kept}
use Rattle.sdr_heap.proofs.BlockInLemmas.{none_in}
use Rattle.sdr_heap.proofs.LabelsLemmas.{labelled_but}
use Rattle.sdr_heap.proofs.UsedLemmas.{small_at, large_at, none_small, none_large}
use Rattle.sdr_heap.proofs.SmallChangeLemmas.{ChangesSmall, used_change, small_stay, small_large}

-- a block of the small pool that wasn't in use was chosen
module _ (P Q : Pools) (words addr : ℕ) (found : Option ℕ) (x y : List ℕ) (keeps : KeepsHeap x P)
    (by : TakesBlock P words (record { addr = addr; pools = Q }) found x y) (change : ChangesSmall P Q words addr x y)
    (some : 1 ≤ words) (there : 0 < count_by (is_of words addr) Q.small)
    (fresh : count_by (is_used_at addr) P.small ≡ 0) where
  large' : KeepsLarge y Q
  large' = small_large P Q words addr x y keeps.small keeps.large change

  labels : LabelledBut addr x P
  labels = labelled_but x P addr keeps.small keeps.large keeps.labels

  small_chosen : ChoosesBlock words (record { addr = addr; pools = Q }) found x y
  small_chosen =
      let stay = small_stay P Q words addr x y keeps.small keeps.large change in
      record {
        addr = by.addr;
        bare = record {
          small = by.keeps;
          large = large';
          others = labels_beside P Q addr x y keeps.small keeps.large labels by.keeps large' stay;
          used = inl by.used;
          exact = λ has used.
              sym (by.keeps.leaders has addr (omega (arith, used, used_of-le-of has addr Q.small)))
              ∙ by.keeps.leaders words addr there;
          enough = λ has used. absurd (omega (
            arith,
            (large_at y Q large' has addr used).first,
            change.last,
            change.same.high,
            some,
          ));
        };
        fresh = none_in x P keeps.small keeps.large addr fresh
            (none_large x P addr keeps.large (omega (arith, change.last, some)));
        beside = beside_kept P Q addr x y keeps.small keeps.large labels by.keeps large' stay;
      }

-- a block that was taken from a list
listed_chosen : (P : Pools) (words addr : ℕ) (rest : List ℕ) (found : Option ℕ) (x y : List ℕ) → KeepsHeap x P →
    P.small_lists words ≡ addr ∷ rest →
    TakesBlock P words (record { addr = addr; pools = with_front_taken P words addr rest }) found x y →
    ChoosesBlock words (record { addr = addr; pools = with_front_taken P words addr rest }) found x y
listed_chosen P words addr rest found x y keeps is by =
    let free = front_free x P words addr rest keeps.small is in
    let of = free_is P words addr free in
    let b = is_block x P words addr keeps.small of in
    small_chosen P (with_front_taken P words addr rest) words addr found x y keeps by
    (used_change P (with_front_taken P words addr rest) words addr true x y keeps.small by.keeps
    (record { start = refl; end = refl; high = refl; large = refl; large_lists = refl }) refl of by.others) b.some
    (omega (arith, of, of-with_used addr true words addr P.small))
    (omega (arith, free, b.once, free-used-le-at words addr P.small))

-- the new block at `low`, in use
abbrev new : Pools → ℕ → PoolBlock
new P words = record { addr = P.low + 8; words = words; used = true }

-- only its own address has it
not_of : (P : Pools) (words w other : ℕ) → other ≢ P.low + 8 → is_of w other (new P words) ≡ false
not_of P words w other differ = grind (arith, nat_tests)

not_used : (P : Pools) (words other : ℕ) → other ≢ P.low + 8 → is_used_at other (new P words) ≡ false
not_used P words other differ = grind (arith, nat_tests)

own : (P : Pools) (words : ℕ) → is_of words (P.low + 8) (new P words) ≡ true
own P words = grind (arith, nat_tests)

-- it was chosen
new_chosen : (P : Pools) (words : ℕ) (found : Option ℕ) (x y : List ℕ) → KeepsHeap x P → 1 ≤ words →
    P.low + 8 * (1 + words) ≤ P.high →
    TakesBlock P words (record { addr = P.low + 8; pools = with_new_small P words }) found x y →
    ChoosesBlock words (record { addr = P.low + 8; pools = with_new_small P words }) found x y
new_chosen P words found x y keeps some fits by =
    small_chosen P (with_new_small P words) words (P.low + 8) found x y keeps by
    (record {
      keeps = by.keeps;
      same = record { start = refl; end = refl; high = refl; large = refl; large_lists = refl };
      first = omega (arith, (in_order x P keeps.small).small);
      last = omega (arith, fits);
      stays = by.others;
      others = record {
        of = λ w other differ. omega (
          arith,
          count_by-append (is_of w other) P.small (new P words ∷ []),
          count_by-no (is_of w other) (new P words) [] (not_of P words w other differ),
        );
        used = λ other differ. omega (
          arith,
          count_by-append (is_used_at other) P.small (new P words ∷ []),
          count_by-no (is_used_at other) (new P words) [] (not_used P words other differ),
        );
      };
      lies = record {
        apart = λ w other differ used. inr (omega (arith, (small_at x P keeps.small w other used).last));
      };
    })
    some
    (omega (
      arith,
      count_by-append (is_of words (P.low + 8)) P.small (new P words ∷ []),
      count_by-yes (is_of words (P.low + 8)) (new P words) [] (own P words),
    ))
    (none_small x P (P.low + 8) keeps.small (omega arith))

-- what the rule gives, by the state of the pool
module _ (P : Pools) (words addr : ℕ) (x y : List ℕ) (keeps : KeepsHeap x P) (some : 1 ≤ words) where
  cut : (full : Bool) → nat_lt P.high (P.low + 8 * (1 + words)) ≡ full →
      TakesBy P words (cond full None (Some (record { addr = P.low + 8; pools = with_new_small P words })))
      (Some addr) x y →
      ChoosesBy words (option_or
      (cond full None (Some (record { addr = P.low + 8; pools = with_new_small P words })))
      (take_large P words)) (Some addr) x y
  cut true is by = let none : Some addr ≡ None = by.0 in absurd cc
  cut false is by =
      new_chosen P words (Some addr) x y keeps some (ltb-false P.high (P.low + 8 * (1 + words)) is) by

  listed : (l : List ℕ) → P.small_lists words ≡ l → TakesBy P words (take_from P words l) (Some addr) x y →
      ChoosesBy words (option_or (take_from P words l) (take_large P words)) (Some addr) x y
  listed [] is by = cut (nat_lt P.high (P.low + 8 * (1 + words))) refl by
  listed (a ∷ rest) is by = listed_chosen P words a rest (Some addr) x y keeps is by

  few : (many : Bool) → TakesBy P words (cond many None (take_from P words (P.small_lists words))) (Some addr) x y →
      ChoosesBy words (option_or (cond many None (take_from P words (P.small_lists words))) (take_large P words))
      (Some addr) x y
  few true by = let none : Some addr ≡ None = by.0 in absurd cc
  few false by = listed (P.small_lists words) refl by

-- what the small pool answers is what the rule gives
pub small_chooses : (x y : List ℕ) (words addr : ℕ) → 1 ≤ words → TakesSmall words (Some addr) x y →
    Chooses words (Some addr) x y
small_chooses x y words addr some takes =
    record { rule = λ P keeps. few P words addr x y keeps some (nat_lt 64 words) (takes.rule P keeps.small) }
