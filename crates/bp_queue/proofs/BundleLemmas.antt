-- Bundles that are kept, and those of them that are overdue.
use Rattle.std.proofs.Common.{◌≡◌, ℕ, ◌+◌, ◌-◌, ◌*◌, ◌≤◌, Bool, true, false, cond, List, [], ◌∷◌, ◌++◌, length, Option, Some, None, refl, sym, ap, ◌∙◌, subst, arith, append_assoc, append-nil, length-append}
use Rattle.std.specs.Prelude.{◌==◌, ◌&&◌, All, filter, flat_map, fold, map, nat_lt, sum_by}
use Rattle.std.proofs.lemmas.List.{length-map, map-append}
use Rattle.std.proofs.lemmas.List.Concat.{flat_map-append}
use Rattle.std.proofs.lemmas.List.Elements.{All-cons, All-head, All-nil, All-tail, All-weaker}
use Rattle.std.proofs.lemmas.List.Folds.{flat_map-map}
use Rattle.std.proofs.lemmas.List.Sums.{sum_by-append, sum_by-cons}
use Rattle.sdr_base.specs.Blocks.{Blocks}
use Rattle.sdr_base.specs.Entries.{BlocksAre, Entries}
use Rattle.sdr_base.specs.Objects.{Heap}
use Rattle.sdr_base.specs.ZcoObjects.{ExtentRow, ObjectRow, capsule_addr, object_entries}
use Rattle.sdr_base.specs.declared.account.Acct.{Acct}
use Rattle.sdr_base.specs.declared.account.Acct.TheVariants as accts
use Rattle.sdr_base.specs.declared.medium.Medium.{Medium}
use Rattle.sdr_base.specs.declared.medium.Medium.TheVariants as media
use Rattle.sdr_base.proofs.StandingLemmas.{moved}
use Rattle.sdr_model.specs.Accounts.{is_same_account}
use Rattle.sdr_model.specs.declared.accounts.Ticket.{Ticket}
use Rattle.zco_acct.specs.Kept.{KeepsQueue, SomeQueue, queue_entries as tickets_of}
use Rattle.zco_obj.specs.Destroying.{gone_object}
use Rattle.zco_obj.specs.Gone.{NamedSource, goes_with, going_before, gone_blocks, naming, source_at, sources_entries}
use Rattle.zco_obj.specs.Kept.{ObjectFits}
use Rattle.zco_obj.specs.Uses.{AreNamed, CountsUses, IsThere}
use Rattle.zco_obj.proofs.CountLemmas.{naming-append}
use Rattle.zco_ref.specs.Going.{gone_with as source_gone}
use Rattle.bp_queue.specs.Bundles.{Bundles, KeepsBundles, SomeBundles, bundle_entries, bundle_extents, bundle_moves, extents_for, moves_with, tickets_entries, with_loose}
use Rattle.bp_queue.specs.Expiring.{Expiry, KeepsOverdue, SomeOverdue, expire_one, expiry_of, extents_of, gone_with, object_for, objects_entries}
use Rattle.bp_queue.specs.Kept.{KeepsQueues, Row, SomeQueues, queue_entries, waiting_of}
use Rattle.bp_queue.specs.Removing.{item_blocks}
use Rattle.bp_queue.specs.States.{later_than, overdue}
use Rattle.bp_queue.specs.declared.queues.Queues.{Queues}
use Rattle.bp_queue.proofs.ReorderLemmas.{IsUnordered, Reorders, all_front, all_reordered, all_unordered, reorders_before, reorders_behind, reorders_map, reorders_part, reorders_same, reorders_sorted, reorders_split, reorders_then, sum_reordered, unordered_behind}
use Rattle.bp_queue.proofs.SortingLemmas.{filter-sorted}
use Rattle.bp_queue.proofs.StateLemmas.{due, due_order, is_due, later-not}

-- the object of a row
abbrev pub object_in : Row → ℕ
object_in r = r.waiting.object

-- in whatever order the blocks beside queues are listed
pub kept_unordered : (b : Blocks) (q : Queues) (next : ℕ) (rows : List Row) → IsUnordered (KeepsQueues b q next rows)
kept_unordered b q next rows xs part ys k = record {
  stands = unordered_behind (BlocksAre b) (λ us vs ws s. moved us vs ws s) (queue_entries q next rows) xs part ys k.stands;
  fits = k.fits;
}

-- in whatever order the extents are listed that name sources
pub named_unordered : (acct : Acct) (sources : List NamedSource) → IsUnordered (λ es. AreNamed acct es sources)
named_unordered acct sources xs part ys n = record {
  there = all_unordered (λ (e : ExtentRow). IsThere (source_at e.source sources)) xs part ys n.there;
  counted =
      All-weaker (CountsUses acct (xs ++ (part ++ ys))) (CountsUses acct (part ++ (xs ++ ys)))
      (λ s u. record {
        fits = u.fits;
        short = u.short;
        enough =
            let e = u.enough in
            let a = naming-append s.addr xs (part ++ ys) in let b = naming-append s.addr part ys in
            let c = naming-append s.addr part (xs ++ ys) in let d = naming-append s.addr xs ys in
            omega (arith, e, a, b, c, d);
      }) sources n.counted;
}

-- some first ones of them are named too
pub named_front : (acct : Acct) (sources : List NamedSource) (xs ys : List ExtentRow) → AreNamed acct (xs ++ ys) sources → AreNamed acct xs sources
named_front acct sources xs ys n = record {
  there = all_front (λ (e : ExtentRow). IsThere (source_at e.source sources)) xs ys n.there;
  counted =
      All-weaker (CountsUses acct (xs ++ ys)) (CountsUses acct xs)
      (λ s u. record {
        fits = u.fits;
        short = u.short;
        enough = let e = u.enough in let a = naming-append s.addr xs ys in omega (arith, e, a);
      }) sources n.counted;
}

-- those that are overdue first, by deadline
pub overdue_first : (now : ℕ) (rows : List Row) (loose : List ℕ) →
    Reorders (with_loose rows loose) (map object_in (overdue waiting_of now rows) ++ with_loose (later_than waiting_of now rows) loose)
overdue_first now rows loose =
    let late = filter (is_due waiting_of now) rows in
    let others = later_than waiting_of now rows in
    let one : Reorders rows (late ++ others) =
    reorders_split (is_due waiting_of now) (λ (r : Row). nat_lt now r.waiting.deadline) (λ r. later-not now r.waiting.deadline) rows in
    let same = filter-sorted (due waiting_of) (due_order waiting_of) (is_due waiting_of now) rows in
    let two : Reorders late (overdue waiting_of now rows) =
    reorders_then (reorders_sorted (due waiting_of) late) (reorders_same (sym same)) in
    let all : Reorders rows (overdue waiting_of now rows ++ others) = reorders_then one (reorders_before others two) in
    let mapped : Reorders (map object_in rows) (map object_in (overdue waiting_of now rows) ++ map object_in others) =
    reorders_then (reorders_map object_in all) (reorders_same (map-append object_in (overdue waiting_of now rows) others)) in
    reorders_then (reorders_behind loose mapped)
    (reorders_part loose (map object_in (overdue waiting_of now rows)) (map object_in others))

-- what holds of the objects of rows
pub all_from_map : (P : ℕ → Type 0) (rows : List Row) → All P (map object_in rows) → All (λ r. P r.waiting.object) rows
all_from_map P [] all = All-nil (λ (r : Row). P r.waiting.object)
all_from_map P (r ∷ rows) all =
    All-cons (λ (x : Row). P x.waiting.object) r rows (All-head P r.waiting.object (map object_in rows) all)
    (all_from_map P rows (All-tail P r.waiting.object (map object_in rows) all))

-- the tickets of an account stand behind other blocks, and before others
pub ticket_among : (acct : Acct) (Q B S : Entries) (tickets : Acct → List Ticket) (R : Entries) →
    (before : Entries) × (behind : Entries)
    × (Q ++ (B ++ (S ++ (tickets_entries tickets ++ R))) ≡ before ++ (tickets_of acct (tickets acct) ++ behind))
ticket_among accts.Inbound Q B S tickets R = (Q ++ (B ++ S), tickets_of accts.Outbound (tickets accts.Outbound) ++ R, simp append_assoc)
ticket_among accts.Outbound Q B S tickets R = (Q ++ (B ++ (S ++ tickets_of accts.Inbound (tickets accts.Inbound))), R, simp append_assoc)

ticket_first : {b : Blocks} (acct : Acct) (Q B S : Entries) (tickets : Acct → List Ticket) (R : Entries) →
    BlocksAre b (Q ++ (B ++ (S ++ (tickets_entries tickets ++ R)))) →
    (rest : Entries) × BlocksAre b (tickets_of acct (tickets acct) ++ rest)
ticket_first {b} acct Q B S tickets R s =
    let a = ticket_among acct Q B S tickets R in
    (a.0 ++ a.1, moved a.0 (tickets_of acct (tickets acct)) a.1 (subst (λ (es : Entries). BlocksAre b es) a.2 s))

-- Rows, and their objects by address.
module _ (object_at : ℕ → ObjectRow) where
  pub objects_by_address : (rows : List Row) → bundle_entries object_at (map object_in rows) ≡ objects_entries object_at rows
  objects_by_address rows = flat_map-map (λ addr. object_entries addr (object_at addr)) object_in rows

  pub extents_by_address : (acct : Acct) (rows : List Row) → bundle_extents object_at acct (map object_in rows) ≡ extents_of object_at acct rows
  extents_by_address acct [] = refl
  extents_by_address acct (r ∷ rows) =
      let z = object_for object_at r in
      ap (λ es. extents_for acct z ++ es) (extents_by_address acct rows) ∙ by z.extents (extents_of object_at acct rows) (is_same_account z.account acct)
    where
      by : (xs ys : List ExtentRow) (same : Bool) → cond same xs [] ++ ys ≡ cond same (xs ++ ys) ys
      by xs ys true = refl
      by xs ys false = refl

  -- the moves of these
  moves_by_row : (rows : List Row) → bundle_moves object_at (map object_in rows) ≡ sum_by (λ r. moves_with (object_for object_at r)) rows
  moves_by_row [] = refl
  moves_by_row (r ∷ rows) =
      let a = sum_by-cons (λ addr. moves_with (object_at addr)) r.waiting.object (map object_in rows) in
      let b = sum_by-cons (λ (x : Row). moves_with (object_for object_at x)) r rows in
      let ih = moves_by_row rows in
      omega (arith, a, b, ih)

  -- a source goes with its raw object at most
  source_few : (medium : Medium) (raw source : ℕ) → length (source_gone medium raw source) ≤ 2
  source_few media.Heap raw source = omega arith
  source_few medium raw source = omega arith

  before_few : (all later : List ExtentRow) (o : Option NamedSource) → length (going_before all later o) ≤ 2
  before_few all later None = omega arith
  before_few all later (Some s) =
      elim (goes_with all s && (naming s.addr later == 0)) as
      (λ v. length (cond v (source_gone s.source.row.medium s.source.row.subject s.addr) []) ≤ 2) [
        | true ↦ source_few s.source.row.medium s.source.row.subject s.addr
        | false ↦ omega arith
      ]

  extents_few : (sources : List NamedSource) (all es : List ExtentRow) → length (gone_blocks sources all es) ≤ 3 * length es
  extents_few sources all [] = omega arith
  extents_few sources all (e ∷ es) =
      let before = going_before all es (source_at e.source sources) in
      let ih = extents_few sources all es in
      let b = before_few all es (source_at e.source sources) in
      let l = length-append before (e.addr ∷ gone_blocks sources all es) in
      omega (arith, ih, b, l)

  row_few : (sources : List NamedSource) (r : Row) → length (gone_with object_at sources r) ≤ moves_with (object_for object_at r)
  row_few sources r =
      let z = object_for object_at r in
      let H = map capsule_addr z.headers in
      let G = gone_blocks sources z.extents z.extents in
      let T = map capsule_addr z.trailers in
      let e = extents_few sources z.extents z.extents in
      let a = length-append (item_blocks r) (gone_object r.waiting.object z sources) in
      let b = length-append ((H ++ G) ++ T) (r.waiting.object ∷ []) in
      let c = length-append (H ++ G) T in
      let d = length-append H G in
      let h = length-map z.headers capsule_addr in
      let t = length-map z.trailers capsule_addr in
      omega (arith, e, a, b, c, d, h, t)

  -- so no more moves are made than that
  pub gone_few : (e : Expiry) (rows : List Row) →
      length (fold (expire_one object_at) e rows).gone ≤ length e.gone + bundle_moves object_at (map object_in rows)
  gone_few e [] = omega arith
  gone_few e (r ∷ rows) =
      let one = expire_one object_at e r in
      let ih = gone_few one rows in
      let n = row_few e.sources r in
      let l = length-append e.gone (gone_with object_at e.sources r) in
      let s = sum_by-cons (λ addr. moves_with (object_at addr)) r.waiting.object (map object_in rows) in
      omega (arith, ih, n, l, s)

-- Bundles that are kept.
module _ {heap : Heap} {q : Queues} {loose : List ℕ} {room : ℕ} {b : Bundles} (k : KeepsBundles heap q loose room b) where
  abbrev beside : Entries
  beside = sources_entries b.sources ++ (tickets_entries b.tickets ++ b.rest)

  module _ (now : ℕ) where
    abbrev late : List Row
    late = overdue waiting_of now b.rows

    abbrev others : List ℕ
    others = with_loose (later_than waiting_of now b.rows) loose

    abbrev pub beside_late : Entries
    beside_late = bundle_entries b.object_at others ++ (tickets_entries b.tickets ++ b.rest)

    -- all extents, those of the overdue first
    pub named_late : (acct : Acct) →
        AreNamed acct (extents_of b.object_at acct late ++ bundle_extents b.object_at acct others) b.sources
    named_late acct =
        let P : List ExtentRow → Type 0 = λ es. AreNamed acct es b.sources in
        let own : ℕ → List ExtentRow = λ addr. extents_for acct (b.object_at addr) in
        let all : P (flat_map own (with_loose b.rows loose) ++ []) =
        subst P (sym (append-nil (flat_map own (with_loose b.rows loose)))) (k.named acct) in
        let turned : P (flat_map own (map object_in late ++ others) ++ []) =
        (overdue_first now b.rows loose).parts own P (named_unordered acct b.sources) [] all in
        subst P
        (append-nil (flat_map own (map object_in late ++ others)) ∙ flat_map-append own (map object_in late) others
        ∙ ap (λ es. es ++ bundle_extents b.object_at acct others) (extents_by_address b.object_at acct late))
        turned

    pub keeps_late : KeepsOverdue heap.blocks q now b.next b.rows b.object_at b.sources beside_late
    keeps_late = record {
      keeps =
          let P : Entries → Type 0 = KeepsQueues heap.blocks q b.next b.rows in
          let own : ℕ → Entries = λ addr. object_entries addr (b.object_at addr) in
          let S = sources_entries b.sources in
          let B = bundle_entries b.object_at others in
          let O = objects_entries b.object_at late in
          let turned : P (flat_map own (map object_in late ++ others) ++ beside) =
          (overdue_first now b.rows loose).parts own P (kept_unordered heap.blocks q b.next b.rows) beside k.queues in
          let apart : P (O ++ (B ++ beside)) =
          subst P
          (ap (λ es. es ++ beside) (flat_map-append own (map object_in late) others ∙ ap (λ es. es ++ B) (objects_by_address b.object_at late))
          ∙ append_assoc O B beside)
          turned in
          unordered_behind P (kept_unordered heap.blocks q b.next b.rows) O B S (tickets_entries b.tickets ++ b.rest) apart;
      fits =
          let P : ℕ → Type 0 = λ addr. ObjectFits (b.object_at addr) in
          all_from_map P late
          (all_front P (map object_in late) others (all_reordered P (overdue_first now b.rows loose) k.fits));
      named = λ acct. named_front acct b.sources (extents_of b.object_at acct late) (bundle_extents b.object_at acct others) (named_late acct);
    }

    -- the moves of all are those of the overdue and those of the others
    pub moves_late : bundle_moves b.object_at (map object_in late) + bundle_moves b.object_at others ≡ bundle_moves b.object_at (with_loose b.rows loose)
    moves_late =
        let n : ℕ → ℕ = λ addr. moves_with (b.object_at addr) in
        let s = sum_reordered n (overdue_first now b.rows loose) in
        let a = sum_by-append n (map object_in late) others in
        omega (arith, s, a)

    pub some_overdue : SomeOverdue heap q now
    some_overdue = record {
      next = b.next;
      rows = b.rows;
      object_at = b.object_at;
      sources = b.sources;
      rest = beside_late;
      keeps = keeps_late;
      room =
          let n = gone_few b.object_at (record { gone = []; sources = b.sources; rest = beside_late; heap = heap }) late in
          let m = moves_late in
          let r = k.spare in
          omega (arith, n, m, r);
    }

  pub some_queues : SomeQueues heap.blocks q
  some_queues = record { next = b.next; rows = b.rows; rest = _; keeps = k.queues }

  pub queue_kept : (acct : Acct) → KeepsQueue heap acct (b.tickets acct)
  queue_kept acct =
      let t = k.tickets acct in
      let s =
      ticket_first acct (queue_entries q b.next b.rows) (bundle_entries b.object_at (with_loose b.rows loose)) (sources_entries b.sources)
      b.tickets b.rest k.queues.stands in
      record { rest = s.0; stands = s.1; first = t.first; last = t.last; fits = t.fits }

  pub some_queue : (acct : Acct) → SomeQueue heap acct
  some_queue acct = record { tickets = b.tickets acct; keeps = queue_kept acct }
