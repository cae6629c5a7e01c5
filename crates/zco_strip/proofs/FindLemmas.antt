-- A chain of extents is walked to a place in it.
use Rattle.std.proofs.Common.{◌≡◌, ◌≢◌, ◌∙◌, ◌+◌, ◌-◌, ◌≤◌, ◌<◌, ℕ, List, [], ◌∷◌, ◌++◌, length, refl, sym, ap, arith, append_assoc, length-append}
use Rattle.std.proofs.lemmas.List.Elements.{All-head, All-tail}
use Rattle.std.proofs.lemmas.List.Sums.{sum_by_push}
use Rattle.sdr_base.proofs.LinkedLemmas.{last-append}
use Rattle.sdr_base.specs.Blocks.{Blocks}
use Rattle.sdr_base.specs.Linked.{first_of, last_of}
use Rattle.sdr_base.specs.ZcoObjects.{ExtentRow, extent_addr, extent_block}
use Rattle.zco_strip.specs.Finding.{FindsPlace}
use Rattle.zco_obj.proofs.KeptLemmas.{first_extent}
use Rattle.zco_obj.proofs.WalkLemmas.{HasFirst, fits_left, has_first, none_at_zero, one_found}
use Rattle.zco_obj.specs.Kept.{ExtentFits, extents_length}
use Rattle.zco_obj.specs.Walks.{ExtentsAt, KeepsExtent, SeesExtent, SomeExtent}
use Rattle.zco_obj.specs.declared.seeing.SeenExtent.{SeenExtent}

-- so many first ones were passed, whose bytes lie before the place
pub record Walked (rows : List ExtentRow) (place last cursor inside i : ℕ) : Type 0 where
  pub passed : List ExtentRow
  pub left : List ExtentRow
  pub whole : rows ≡ passed ++ left
  pub counted : length passed ≡ i
  pub at_last : last ≡ last_of extent_addr 0 passed
  pub at_cursor : cursor ≡ first_of extent_addr 0 left
  pub before : extents_length passed + inside ≡ place

-- so it is of whichever chain stands there
pub record WalksTo (blocks : Blocks) (first place last cursor inside i : ℕ) : Type 0 where
  pub walks : (rows : List ExtentRow) → ExtentsAt blocks first rows → Walked rows place last cursor inside i

pub walk_begun : (blocks : Blocks) (first place : ℕ) → WalksTo blocks first place 0 first place 0
walk_begun blocks first place = record {
  walks = λ rows c. record {
    passed = [];
    left = rows;
    whole = refl;
    counted = refl;
    at_last = refl;
    at_cursor = c.at_first;
    before = omega arith;
  };
}

module _ {blocks : Blocks} {first place last cursor inside i : ℕ} (w : WalksTo blocks first place last cursor inside i) where
  -- where the end isn't reached an extent is there
  module _ (nz : cursor ≢ 0) {rows : List ExtentRow} (c : ExtentsAt blocks first rows) where
    abbrev walk : Walked rows place last cursor inside i
    walk = w.walks rows c

    next_one : HasFirst walk.left
    next_one = has_first extent_addr walk.left (λ z. nz (walk.at_cursor ∙ z))

    whole : rows ≡ walk.passed ++ (next_one.one ∷ next_one.behind)
    whole = walk.whole ∙ ap (λ (l : List ExtentRow). walk.passed ++ l) next_one.is

    here : cursor ≡ next_one.one.addr
    here = walk.at_cursor ∙ ap (first_of extent_addr 0) next_one.is

    keeps : KeepsExtent (blocks cursor) (first_of extent_addr 0 next_one.behind) next_one.one
    keeps =
        let fits = fits_left ExtentFits extent_addr extent_block c walk.passed (next_one.one ∷ next_one.behind) whole in
        record {
          block = ap blocks here
              ∙ one_found ExtentFits extent_addr extent_block c walk.passed next_one.one next_one.behind whole;
          fits = All-head ExtentFits next_one.one next_one.behind fits;
          small = first_extent next_one.behind (All-tail ExtentFits next_one.one next_one.behind fits);
        }

    pub extent_there : SomeExtent (blocks cursor)
    extent_there = record { next = _; extent = _; keeps = keeps }

  -- its bytes lie before the place too
  pub walk_on : (seen : SeenExtent) → cursor ≢ 0 → SeesExtent (blocks cursor) seen → seen.length ≤ inside →
      WalksTo blocks first place cursor seen.next (inside - seen.length) (i + 1)
  walk_on seen nz s le = record {
    walks = λ rows c.
        let a = walk nz c in
        let h = next_one nz c in
        let k = keeps nz c in
        let bytes = s.length _ h.one k in
        record {
          passed = a.passed ++ (h.one ∷ []);
          left = h.behind;
          whole = whole nz c ∙ sym (append_assoc a.passed (h.one ∷ []) h.behind);
          counted = let l = length-append a.passed (h.one ∷ []) in let n = a.counted in omega (arith, l, n);
          at_last = here nz c ∙ sym (last-append extent_addr extent_block 0 a.passed (h.one ∷ []));
          at_cursor = s.next _ h.one k;
          before =
              let sum = sum_by_push (λ (e : ExtentRow). e.length) a.passed h.one in
              let was = a.before in omega (arith, sum, was, bytes, le);
        };
  }

  -- or the place lies in it
  pub walk_stops : (seen : SeenExtent) → cursor ≢ 0 → SeesExtent (blocks cursor) seen → inside < seen.length →
      FindsPlace blocks first place (record { last = last; extent = cursor; inside = inside })
  walk_stops seen nz s lt = record {
    finds = λ rows c.
        let a = walk nz c in
        let h = next_one nz c in
        let bytes = s.length _ h.one (keeps nz c) in
        record {
          passed = a.passed;
          left = a.left;
          whole = a.whole;
          at_last = a.at_last;
          at_extent = a.at_cursor;
          before = a.before;
          within = λ e es is.
              let same : h.one ≡ e = ap (head_or h.one) (sym h.is ∙ is) in
              let length = ap (λ (x : ExtentRow). x.length) same in omega (arith, lt, bytes, length);
        };
  }
    where
      head_or : ExtentRow → List ExtentRow → ExtentRow
      head_or d [] = d
      head_or d (x ∷ xs) = x

  -- or all lie before it
  pub walk_ends : cursor ≡ 0 → FindsPlace blocks first place (record { last = last; extent = cursor; inside = inside })
  walk_ends z = record {
    finds = λ rows c.
        let a = w.walks rows c in
        let none = none_at_zero ExtentFits extent_addr extent_block c a.passed a.left a.whole a.at_cursor z in
        record {
          passed = a.passed;
          left = a.left;
          whole = a.whole;
          at_last = a.at_last;
          at_extent = a.at_cursor;
          before = a.before;
          within = λ e es is. let no : [] ≡ e ∷ es = sym none ∙ is in cc;
        };
  }

  -- no more are there
  pub walk_most : i ≡ 4194304 → FindsPlace blocks first place (record { last = last; extent = cursor; inside = inside })
  walk_most all = record {
    finds = λ rows c.
        let a = w.walks rows c in
        let l = length-append a.passed a.left in
        let e = ap (length {A = ExtentRow}) a.whole in
        let k = a.counted in
        let few = c.few in absurd (omega (arith, l, e, k, few, all));
  }
