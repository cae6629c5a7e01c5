-- The first one of the line expires where it is overdue.
use Rattle.std.proofs.Common.{◌≡◌, ℕ, ◌+◌, ◌≤◌, ◌<◌, true, false, List, [], ◌∷◌, ◌++◌, length, Some, None, refl, sym, ap, ◌∙◌, subst, arith, append-nil, length-append}
use Rattle.std.specs.Prelude.{fold}
use Rattle.std.proofs.lemmas.Bool.{le-leb, lt-leb}
use Rattle.sdr_base.specs.Entries.{Entries}
use Rattle.sdr_base.specs.Making.{GaveSome}
use Rattle.sdr_base.specs.Objects.{Heap, OnlyFault}
use Rattle.sdr_base.specs.Words.{HasWord, layout}
use Rattle.sdr_base.specs.ZcoObjects.{ObjectRow, object_block}
use Rattle.sdr_base.specs.declared.kind.Kind.TheVariants as kinds
use Rattle.sdr_base.specs.declared.refusal.Refusal.TheVariants as refusals
use Rattle.sdr_base.specs.declared.stop.Stop.{Stop}
use Rattle.sdr_base.specs.declared.stop.Stop.TheVariants.{Refused, DiskFault, MediaFault, Failed}
use Rattle.sdr_base.proofs.GaveLemmas.{gave_spare, some_of, some_then}
use Rattle.sdr_base.proofs.StandingLemmas.{found}
use Rattle.zco_obj.specs.Destroying.{DestroyStops, DestroysObject, KeepsSources, SomeWithSources, gone_object, parts_lines}
use Rattle.zco_obj.specs.Gone.{NamedSource}
use Rattle.zco_obj.proofs.KeptLemmas.{object_words}
use Rattle.bp_queue.specs.Calls.{TellsFirst}
use Rattle.bp_queue.specs.Expiring.{ExpireStops, ExpiresFirst, FirstExpires, FirstGives, FirstStops, KeepsOverdue, SomeOverdue, expire_all, expire_one, first_lines, gone_with, object_for}
use Rattle.bp_queue.specs.Kept.{KeepsQueues, Row, waiting_of}
use Rattle.bp_queue.specs.Removing.{RemoveStops, RemovesItem, SomeItem, item_blocks}
use Rattle.bp_queue.specs.States.{overdue}
use Rattle.bp_queue.specs.declared.queues.Queues.{Queues}
use Rattle.bp_queue.proofs.DueLemmas.{first_gone, its_item, object_kept}
use Rattle.bp_queue.proofs.ExpireLemmas.{gone_before}
use Rattle.bp_queue.proofs.FirstLemmas.{line_deadline, line_item, no_line, row_of_line}
use Rattle.bp_queue.proofs.QueueLemmas.{never_missed}
use Rattle.bp_queue.proofs.StateLemmas.{first_due, first_later, no_overdue}

-- the block of an object that is kept
object_there : {heap : Heap} {object : ℕ} (w : SomeWithSources heap object) → heap.blocks object ≡ Some (object_block w.row)
object_there {heap} {object} w = found heap.blocks object (object_block w.row) [] _ w.keeps.stands

-- what the first call on the line tells: none waits
module _ (q : Queues) (now : ℕ) (old : Heap) where
  pub first_none : TellsFirst q.line old.blocks None → ExpiresFirst q now old old false
  first_none t = record {
    expires = λ next rows object_at sources rest k.
        subst (λ (due : List Row). FirstExpires due q now next rows object_at sources rest old old false)
        (sym (no_overdue waiting_of now rows (no_line t k.keeps))) (refl, refl);
  }

  module _ (item deadline : ℕ) (t : TellsFirst q.line old.blocks (Some item)) (h : HasWord (old.blocks item) 1 deadline) where
    -- the first one is not due yet
    pub first_not_due : now < deadline → ExpiresFirst q now old old false
    first_not_due late = record {
      expires = λ next rows object_at sources rest k.
          let f = row_of_line t k.keeps in
          let d = line_deadline t h k.keeps in
          subst (λ (due : List Row). FirstExpires due q now next rows object_at sources rest old old false)
          (sym (first_later waiting_of now f.0 rows f.1 (lt-leb f.0.waiting.deadline now (omega (arith, d, late))))) (refl, refl);
    }

    -- it is
    module _ (is : deadline ≤ now) where
      abbrev row : {next : ℕ} {rows : List Row} {rest : Entries} → KeepsQueues old.blocks q next rows rest → Row
      row k = (row_of_line t k).0

      due_row : {next : ℕ} {rows : List Row} {rest : Entries} (k : KeepsQueues old.blocks q next rows rest) →
          (due : List Row) × (overdue waiting_of now rows ≡ row k ∷ due)
      due_row {next} {rows} k =
          let f = row_of_line t k in
          let d = line_deadline t h k in
          first_due waiting_of now f.0 rows f.1 (le-leb f.0.waiting.deadline now (omega (arith, d, is)))

      pub due_item : SomeOverdue old q now → SomeItem old.blocks item
      due_item s = line_item t (record { next = s.next; rows = s.rows; rest = _; keeps = s.keeps.keeps })

      -- the heap has room for its blocks and those of its object
      room_first : (object_at : ℕ → ObjectRow) (sources : List NamedSource) (rest : Entries) (r : Row) (due : List Row) (h : Heap) →
          length (gone_with object_at sources r) ≤ length (expire_all object_at sources rest h (r ∷ due)).gone
      room_first object_at sources rest r due h =
          let first = expire_one object_at (record { gone = []; sources = sources; rest = rest; heap = h }) r in
          let e : (expire_all object_at sources rest h (r ∷ due)).gone
          ≡ gone_with object_at sources r ++ (fold (expire_one object_at) (record first { gone = [] }) due).gone =
          ap (λ (addrs : List ℕ). (fold (expire_one object_at) (record first { gone = addrs }) due).gone)
          (sym (append-nil (gone_with object_at sources r)))
          ∙ gone_before object_at (record first { gone = [] }) (gone_with object_at sources r) due in
          let l = length-append (gone_with object_at sources r) (fold (expire_one object_at) (record first { gone = [] }) due).gone in
          let n = ap (length {A = ℕ}) e in
          omega (arith, l, n)

      pub due_room : (s : SomeOverdue old q now) → length (gone_with s.object_at s.sources (row s.keeps.keeps)) ≤ old.spare
      due_room s =
          let d = due_row s.keeps.keeps in
          let a = room_first s.object_at s.sources s.rest (row s.keeps.keeps) d.0 old in
          let r = subst (λ (due : List Row). length (expire_all s.object_at s.sources s.rest old due).gone ≤ old.spare) d.1 s.room in
          omega (arith, a, r)

      -- once the item is gone, its object is there, with its sources
      pub due_object : {mid : Heap} {object : ℕ} (s : SomeOverdue old q now) → RemovesItem item old mid object → SomeWithSources mid object
      due_object {mid} {object} s m =
          let k = s.keeps in
          let f = row_of_line t k.keeps in
          let d = due_row k.keeps in
          let i = m.removes _ _ _ _ _ _ (its_item k f.0 d.0 d.1 f.2) in
          let big = due_room s in
          let n = gave_spare (item_blocks f.0) i.made in
          let l = length-append (item_blocks f.0) (gone_object f.0.waiting.object (object_for s.object_at f.0) s.sources) in
          subst (SomeWithSources mid) (sym i.named)
          (record {
            row = object_for s.object_at f.0;
            sources = s.sources;
            keeps = object_kept k f.0 d.0 d.1 i.keeps;
            room = omega (arith, big, n, l);
          })

      pub first_goes : {mid new : Heap} {object : ℕ} → RemovesItem item old mid object → DestroysObject object mid new →
          ExpiresFirst q now old new true
      first_goes {mid} {new} m d = record {
        expires = λ next rows object_at sources rest k.
            let f = row_of_line t k.keeps in
            let o = due_row k.keeps in
            subst (λ (due : List Row). FirstExpires due q now next rows object_at sources rest old new true) (sym o.1)
            (refl, first_gone k f.0 o.0 o.1 refl f.2 m d);
      }

      -- why it doesn't go
      pub item_stays : (new : Heap) (stop : Stop) → RemoveStops item old new stop → FirstStops q now old new stop
      item_stays new (Refused (refusals.LogFull lines room)) u = record {
        gives = λ next rows object_at sources rest k.
            let f = row_of_line t k.keeps in
            let o = due_row k.keeps in
            subst (λ (due : List Row). FirstGives due object_at sources old new) (sym o.1)
            (some_of (gone_object f.0.waiting.object (object_for object_at f.0) sources)
            (u.gives _ _ _ _ _ _ (its_item k f.0 o.0 o.1 f.2)));
      }
      item_stays new (Refused refusal) u = absurd u
      item_stays new DiskFault u = u
      item_stays new MediaFault u = u
      item_stays new Failed u = u

      pub object_stays : {mid : Heap} {object : ℕ} → SomeOverdue old q now → RemovesItem item old mid object → (new : Heap) (stop : Stop) →
          DestroyStops object mid new stop → FirstStops q now old new stop
      object_stays {mid} {object} s m new (Refused (refusals.LogFull lines room)) u = record {
        gives = λ next rows object_at sources rest k.
            let f = row_of_line t k.keeps in
            let o = due_row k.keeps in
            let i = m.removes _ _ _ _ _ _ (its_item k f.0 o.0 o.1 f.2) in
            let z = object_for object_at f.0 in
            subst (λ (due : List Row). FirstGives due object_at sources old new) (sym o.1)
            (subst (λ (addrs : List ℕ). GaveSome addrs old new)
            (ap (λ (addrs : List ℕ). item_blocks f.0 ++ addrs) (append-nil (gone_object f.0.waiting.object z sources)))
            (some_then (item_blocks f.0) (gone_object f.0.waiting.object z sources) [] i.made
            (subst (λ (a : ℕ). GaveSome (gone_object a z sources) mid new) i.named
            (u.gave z sources (subst (λ (a : ℕ). KeepsSources mid.blocks a z sources) (sym i.named)
            (object_kept k f.0 o.0 o.1 i.keeps))))));
      }
      object_stays {mid} {object} s m new (Refused (refusals.BadAddress bad)) u =
          let w = due_object s m in
          absurd (never_missed (mid.blocks object) object kinds.Object (layout (object_words w.row) []) (object_there w) (Refused (refusals.BadAddress bad)) u.0)
      object_stays {mid} {object} s m new (Refused (refusals.WrongKind bad number)) u =
          let w = due_object s m in
          absurd (never_missed (mid.blocks object) object kinds.Object (layout (object_words w.row) []) (object_there w)
          (Refused (refusals.WrongKind bad number)) u.0)
      object_stays s m new (Refused refusal) u = absurd u
      object_stays s m new DiskFault u = u
      object_stays s m new MediaFault u = u
      object_stays s m new Failed u = u

      -- there is room for the item's blocks
      pub due_spare : SomeOverdue old q now → 3 ≤ old.spare
      due_spare s =
          let r = row s.keeps.keeps in
          let n = due_room s in
          let l = length-append (item_blocks r) (gone_object r.waiting.object (object_for s.object_at r) s.sources) in
          omega (arith, n, l)

      -- so many lines are touched
      pub due_lines : {next : ℕ} {rows : List Row} {object_at : ℕ → ObjectRow} {sources : List NamedSource} {rest : Entries} →
          (k : KeepsOverdue old.blocks q now next rows object_at sources rest) →
          first_lines (overdue waiting_of now rows) object_at sources
          ≡ 111 + parts_lines (object_for object_at (row k.keeps)) sources
      due_lines {next} {rows} {object_at} {sources} k =
          ap (λ (due : List Row). first_lines due object_at sources) (due_row k.keeps).1

      pub due_sources : {mid : Heap} {object : ℕ} → RemovesItem item old mid object → {next : ℕ} {rows : List Row} {object_at : ℕ → ObjectRow}
          {sources : List NamedSource} {rest : Entries} (k : KeepsOverdue old.blocks q now next rows object_at sources rest) →
          KeepsSources mid.blocks object (object_for object_at (row k.keeps)) sources
      due_sources {mid} {object} m {next} {rows} {object_at} {sources} {rest} k =
          let f = row_of_line t k.keeps in
          let o = due_row k.keeps in
          let i = m.removes _ _ _ _ _ _ (its_item k f.0 o.0 o.1 f.2) in
          subst (λ (a : ℕ). KeepsSources mid.blocks a (object_for object_at f.0) sources) (sym i.named) (object_kept k f.0 o.0 o.1 i.keeps)

pub first_fault : (q : Queues) (now : ℕ) (old new : Heap) (stop : Stop) → OnlyFault stop → FirstStops q now old new stop
first_fault q now old new (Refused refusal) u = absurd u
first_fault q now old new DiskFault u = u
first_fault q now old new MediaFault u = u
first_fault q now old new Failed u = u

pub expire_fault : (q : Queues) (now : ℕ) (old new : Heap) (stop : Stop) → OnlyFault stop → ExpireStops q now old new stop
expire_fault q now old new (Refused refusal) u = absurd u
expire_fault q now old new DiskFault u = u
expire_fault q now old new MediaFault u = u
expire_fault q now old new Failed u = u
