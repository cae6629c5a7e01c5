-- What fits queues fits them still where some rows are left out, or one comes last.
use Rattle.std.proofs.Common.{◌≡◌, ◌≢◌, ℕ, ◌+◌, ◌≤◌, ◌<◌, ◌^◌, Bool, true, false, not, cond, List, [], ◌∷◌, ◌++◌, length, refl, sym, ap, ◌∙◌, arith, eq-eqb, length-append}
use Rattle.std.specs.Prelude.{filter}
use Rattle.std.specs.List.{AllByRecursion as Each}
use Rattle.std.proofs.lemmas.Bool.{ne_eqb}
use Rattle.std.proofs.lemmas.List.Elements.{All-filter, All-get_or, All-push, All-weaker}
use Rattle.std.proofs.lemmas.List.Kept.{AllPairs-filter}
use Rattle.std.proofs.lemmas.List.Quantifiers.{all_pairs_push}
use Rattle.bp_queue.specs.Kept.{FitQueue, Row, RowFits, last_number, waiting_of}
use Rattle.bp_queue.specs.Putting.{IsUnnamed}
use Rattle.bp_queue.specs.States.{without}
use Rattle.bp_queue.specs.declared.queues.Queues.{Queues}
use Rattle.bp_queue.proofs.SortingLemmas.{Apart, among_between, apart_from_pairs, each_at, filter_all}
use Rattle.bp_queue.proofs.StateLemmas.{Differ, keeps_but}

length-filter_most : {X : Type 0} (p : X → Bool) (xs : List X) → length (filter p xs) ≤ length xs
length-filter_most p [] = omega arith
length-filter_most p (x ∷ xs) =
    let ih = length-filter_most p xs in
    elim (p x) as (λ v. length (cond v (x ∷ filter p xs) (filter p xs)) ≤ length (x ∷ xs)) [
      | true ↦ omega (arith, ih)
      | false ↦ omega (arith, ih)
    ]

-- where some rows are left out
pub fit_filter : {q : Queues} {next : ℕ} {rows : List Row} (p : Row → Bool) → FitQueue q next rows → FitQueue q next (filter p rows)
fit_filter {q} {next} {rows} p f = record {
  lists = f.lists;
  few = let m = length-filter_most p rows in let n = f.few in omega (arith, m, n);
  bound = f.bound;
  rise = AllPairs-filter (λ (a b : Row). a.number < b.number) p rows f.rise;
  below = All-filter p (λ (r : Row). r.number < next) rows f.below;
  apart = AllPairs-filter (λ (a b : Row). a.waiting.object ≢ b.waiting.object) p rows f.apart;
  fits = All-filter p RowFits rows f.fits;
}

-- where one comes last
pub fit_push : {q : Queues} {next : ℕ} {rows : List Row} (r : Row) → FitQueue q next rows → r.number ≡ next → next < last_number →
    length rows + 1 < 2 ^ 32 → IsUnnamed r.waiting.object rows → RowFits r → FitQueue q (next + 1) (rows ++ (r ∷ []))
fit_push {q} {next} {rows} r f is more few new fits = record {
  lists = f.lists;
  few = let l = length-append rows (r ∷ []) in omega (arith, l, few);
  bound = omega (arith, more);
  rise =
      all_pairs_push (λ (a b : Row). a.number < b.number) rows r f.rise
      (λ k d h. let l = All-get_or (λ (x : Row). x.number < next) rows k d h f.below in omega (arith, l, is));
  below =
      All-push (λ (x : Row). x.number < next + 1) rows r
      (All-weaker (λ (x : Row). x.number < next) (λ (x : Row). x.number < next + 1) (λ x l. omega (arith, l)) rows f.below)
      (omega (arith, is));
  apart =
      all_pairs_push (λ (a b : Row). a.waiting.object ≢ b.waiting.object) rows r f.apart
      (λ k d h. All-get_or (λ (x : Row). x.waiting.object ≢ r.waiting.object) rows k d h new);
  fits = All-push RowFits rows r f.fits fits;
}

-- no two rows name one object
pub rows_apart : {q : Queues} {next : ℕ} {rows : List Row} → FitQueue q next rows → Apart (Differ waiting_of) rows
rows_apart {rows = rows} f = apart_from_pairs (Differ waiting_of) rows f.apart

-- a list without the one between two parts of it
pub between : {X : Type 0} (R : X → X → Type 0) (p : X → Bool) (x : X) → ((y : X) → R y x → p y ≡ true) → ((y : X) → R x y → p y ≡ true) →
    p x ≡ false → (before behind : List X) → Apart R (before ++ (x ∷ behind)) → filter p (before ++ (x ∷ behind)) ≡ before ++ behind
between {X} R p x left right this [] behind a =
    ap (λ v. cond v (x ∷ filter p behind) (filter p behind)) this ∙ filter_all p behind (all behind a.0)
  where
    all : (ys : List X) → Each (R x) ys → Each (λ y. p y ≡ true) ys
    all [] e = tt
    all (y ∷ ys) e = (right y e.0, all ys e.1)
between {X} R p x left right this (y ∷ before) behind a =
    ap (λ v. cond v (y ∷ filter p (before ++ (x ∷ behind))) (filter p (before ++ (x ∷ behind))))
    (left y (each_at (R y) x (before ++ (x ∷ behind)) a.0 (among_between before behind x)))
    ∙ ap (λ ys. y ∷ ys) (between R p x left right this before behind a.1)

pub without_between : (before behind : List Row) (r : Row) → Apart (Differ waiting_of) (before ++ (r ∷ behind)) →
    without waiting_of r.waiting.object (before ++ (r ∷ behind)) ≡ before ++ behind
without_between before behind r a =
    between (Differ waiting_of) (keeps_but waiting_of r.waiting.object) r
    (λ y d. ap not (ne_eqb y.waiting.object r.waiting.object d))
    (λ y d. ap not (ne_eqb y.waiting.object r.waiting.object (λ e. d (sym e))))
    (ap not (eq-eqb r.waiting.object r.waiting.object refl)) before behind a
