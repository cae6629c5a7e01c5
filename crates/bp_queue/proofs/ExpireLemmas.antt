-- Those that are overdue go one after another.
use Rattle.std.proofs.Common.{◌≡◌, ℕ, ◌+◌, Bool, true, false, cond, List, [], ◌∷◌, ◌++◌, length, refl, sym, ap, ◌∙◌, subst, arith, append_assoc}
use Rattle.std.specs.Prelude.{filter, fold, nat_lt}
use Rattle.std.proofs.lemmas.List.{length-map}
use Rattle.std.proofs.lemmas.List.Filters.{length-filter_both}
use Rattle.sdr_base.specs.Entries.{Entries}
use Rattle.sdr_base.specs.Making.{besides, gave, with_moves}
use Rattle.sdr_base.specs.Objects.{Heap}
use Rattle.sdr_base.specs.ZcoObjects.{ExtentRow, ObjectRow}
use Rattle.sdr_base.specs.declared.account.Acct.{Acct}
use Rattle.sdr_model.specs.Accounts.{is_same_account}
use Rattle.zco_obj.specs.Gone.{NamedSource, sources_entries}
use Rattle.zco_obj.specs.Leaving.{together}
use Rattle.zco_obj.specs.Uses.{AreNamed}
use Rattle.bp_queue.specs.Expiring.{Expired, Expiry, KeepsOverdue, expire_one, expiry_of, extents_of, gone_with, object_for, objects_entries}
use Rattle.bp_queue.specs.Kept.{KeepsQueues, Row, waiting_of}
use Rattle.bp_queue.specs.States.{later_than, overdue}
use Rattle.bp_queue.specs.declared.queues.Queues.{Queues}
use Rattle.bp_queue.proofs.SortingLemmas.{filter-sorted, length-sorted, map-filter}
use Rattle.bp_queue.proofs.StateLemmas.{all_later, due, due_order, is_due, later-not}

-- what has gone before stands before what goes
pub gone_before : (object_at : ℕ → ObjectRow) (e : Expiry) (before : List ℕ) (rows : List Row) →
    (fold (expire_one object_at) (record e { gone = before ++ e.gone }) rows).gone
    ≡ before ++ (fold (expire_one object_at) e rows).gone
gone_before object_at e before [] = refl
gone_before object_at e before (r ∷ rows) =
    ap (λ (addrs : List ℕ). (fold (expire_one object_at) (record (expire_one object_at e r) { gone = addrs }) rows).gone)
    (append_assoc before e.gone (gone_with object_at e.sources r))
    ∙ gone_before object_at (expire_one object_at e r) before rows

-- which doesn't depend on what is occupied
pub gone_heap : (object_at : ℕ → ObjectRow) (e : Expiry) (h : Heap) (rows : List Row) →
    (fold (expire_one object_at) (record e { heap = h }) rows).gone ≡ (fold (expire_one object_at) e rows).gone
gone_heap object_at e h [] = refl
gone_heap object_at e h (r ∷ rows) =
    gone_heap object_at (expire_one object_at e r) (expire_one object_at (record e { heap = h }) r).heap rows

-- the extents of the first one, and of others before more
pub together_more : (object_at : ℕ → ObjectRow) (acct : Acct) (r : Row) (rows : List Row) (more : List ExtentRow) →
    extents_of object_at acct (r ∷ rows) ++ more
    ≡ together (object_for object_at r).account (object_for object_at r).extents acct (extents_of object_at acct rows ++ more)
together_more object_at acct r rows more =
    let z = object_for object_at r in by z.extents (extents_of object_at acct rows) (is_same_account z.account acct)
  where
    by : (xs ys : List ExtentRow) (same : Bool) → cond same (xs ++ ys) ys ++ more ≡ cond same (xs ++ (ys ++ more)) (ys ++ more)
    by xs ys true = append_assoc xs ys more
    by xs ys false = refl

-- How far an expiry has come: some rows and sources are left, with what else has come to stand beside them.
pub record Come (q : Queues) (now next : ℕ) (rows : List Row) (object_at : ℕ → ObjectRow) (sources : List NamedSource) (rest : Entries)
    (old new : Heap) (i : ℕ) : Type 0 where
  pub left : List Row
  pub so_far : Expiry
  pub keeps : KeepsOverdue new.blocks q now next left object_at so_far.sources so_far.rest
  pub named : (acct : Acct) (more : List ExtentRow) → AreNamed acct (extents_of object_at acct (overdue waiting_of now rows) ++ more) sources →
      AreNamed acct (extents_of object_at acct (overdue waiting_of now left) ++ more) so_far.sources
  pub others : besides new ≡ besides (with_moves so_far.heap (gave so_far.gone))
  pub moves : so_far.heap.moves ≡ old.moves
  pub spare : so_far.heap.spare ≡ old.spare
  pub comes_to : fold (expire_one object_at) so_far (overdue waiting_of now left) ≡ expiry_of now rows object_at sources rest old
  pub later : later_than waiting_of now left ≡ later_than waiting_of now rows
  pub counted : i + length (overdue waiting_of now left) ≡ length (overdue waiting_of now rows)

-- those that are overdue and those that aren't are all
pub counts : (now : ℕ) (rows : List Row) → length (overdue waiting_of now rows) + length (later_than waiting_of now rows) ≡ length rows
counts now rows =
    let a = all_due now rows in
    let b = length-filter_both (is_due waiting_of now) (λ (r : Row). nat_lt now r.waiting.deadline) (λ r. later-not now r.waiting.deadline) rows in
    omega (arith, a, b)
  where
    all_due : (now : ℕ) (rows : List Row) → length (overdue waiting_of now rows) ≡ length (filter (is_due waiting_of now) rows)
    all_due now rows =
        ap (length {A = Row}) (filter-sorted (due waiting_of) (due_order waiting_of) (is_due waiting_of now) rows)
        ∙ length-sorted (due waiting_of) (filter (is_due waiting_of now) rows)

-- where none is overdue any more, all have gone
pub done : {q : Queues} {now next i : ℕ} {rows : List Row} {object_at : ℕ → ObjectRow} {sources : List NamedSource} {rest : Entries}
    {old new : Heap} (c : Come q now next rows object_at sources rest old new i) → overdue waiting_of now c.left ≡ [] →
    Expired q now next rows object_at sources (expiry_of now rows object_at sources rest old) old new i
done {q} {now} {next} {i} {rows} {object_at} {sources} {rest} {old} {new} c none =
    let e : c.so_far ≡ expiry_of now rows object_at sources rest old =
    sym (ap (fold (expire_one object_at) c.so_far) none) ∙ c.comes_to in
    let all : c.left ≡ later_than waiting_of now rows = sym (all_later waiting_of now c.left none) ∙ c.later in
    let n : i ≡ length (overdue waiting_of now rows) =
    (let k = c.counted in let z = ap (length {A = Row}) none in omega (arith, k, z)) in
    record {
      keeps =
          subst (λ (x : Expiry). KeepsQueues new.blocks q next (later_than waiting_of now rows) (sources_entries x.sources ++ x.rest)) e
          (subst (λ (xs : List Row). KeepsQueues new.blocks q next xs (sources_entries c.so_far.sources ++ c.so_far.rest)) all
          (subst (λ (xs : List Row). KeepsQueues new.blocks q next c.left
          (objects_entries object_at xs ++ (sources_entries c.so_far.sources ++ c.so_far.rest))) none c.keeps.keeps));
      named = λ acct more n.
          subst (λ (x : Expiry). AreNamed acct more x.sources) e
          (subst (λ (xs : List Row). AreNamed acct (extents_of object_at acct xs ++ more) c.so_far.sources) none (c.named acct more n));
      others = c.others ∙ ap (λ (x : Expiry). besides (with_moves x.heap (gave x.gone))) e;
      counted = n;
      step = (
        map-filter waiting_of (λ w. nat_lt now w.deadline) rows,
        (let t = counts now rows in let m = length-map (later_than waiting_of now rows) waiting_of in
            let l = length-map rows waiting_of in omega (arith, n, t, m, l)),
      );
    }
