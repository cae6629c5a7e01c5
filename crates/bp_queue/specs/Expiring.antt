-- Those that are overdue go, one after another, and their objects with them.
use Rattle.std.specs.Prelude.{◌≡◌, ◌+◌, ◌≤◌, ℕ, Bool, false, true, List, [], ◌∷◌, ◌++◌, fold, length, All}
use Rattle.std.specs.List.{flat_map}
use Rattle.sdr_base.specs.Blocks.{Blocks}
use Rattle.sdr_base.specs.Entries.{Entries}
use Rattle.sdr_base.specs.Making.{GaveSome, besides, gave, with_moves}
use Rattle.sdr_base.specs.Objects.{Heap, OnlyFault}
use Rattle.sdr_base.specs.ZcoObjects.{ExtentRow, ObjectRow, object_entries}
use Rattle.sdr_base.specs.declared.account.Acct.{Acct}
use Rattle.sdr_base.specs.declared.refusal.Refusal.TheVariants as refusals
use Rattle.sdr_base.specs.declared.stop.Stop.{Stop}
use Rattle.sdr_base.specs.declared.stop.Stop.TheVariants.{Refused}
use Rattle.sdr_model.specs.Amounts.{minus}
use Rattle.zco_acct.specs.Words.{occupied_in, with_occupied}
use Rattle.zco_obj.specs.Destroying.{charges_of, gone_object, parts_lines}
use Rattle.zco_obj.specs.Gone.{NamedSource, sources_entries}
use Rattle.zco_obj.specs.Kept.{ObjectFits}
use Rattle.zco_obj.specs.Leaving.{raws_left, sources_staying, together}
use Rattle.zco_obj.specs.Uses.{AreNamed}
use Rattle.bp_queue.specs.Kept.{KeepsQueues, Row, state_of, waiting_of}
use Rattle.bp_queue.specs.Removing.{item_blocks}
use Rattle.bp_queue.specs.Runs.{QueueStep, Expires}
use Rattle.bp_queue.specs.States.{later_than, overdue, without}
use Rattle.bp_queue.specs.declared.queues.Queues.{Queues}

-- The objects of items, by their addresses.
module _ (object_at : ℕ → ObjectRow) where
  -- the object of a row
  abbrev pub object_for : Row → ObjectRow
  object_for r = object_at r.waiting.object

  -- the blocks of the objects of these rows
  abbrev pub objects_entries : List Row → Entries
  objects_entries = flat_map (λ r. object_entries r.waiting.object (object_for r))

  -- the extents of those of an account
  abbrev pub extents_of : Acct → List Row → List ExtentRow
  extents_of acct [] = []
  extents_of acct (r ∷ rows) = together (object_for r).account (object_for r).extents acct (extents_of acct rows)

-- queues are kept, and beside them the objects of those that are overdue, and the sources that these objects' extents name, each
-- of which counts them all
pub record KeepsOverdue (blocks : Blocks) (q : Queues) (now next : ℕ) (rows : List Row) (object_at : ℕ → ObjectRow)
    (sources : List NamedSource) (rest : Entries) : Type 0 where
  pub keeps : KeepsQueues blocks q next rows
      (objects_entries object_at (overdue waiting_of now rows) ++ (sources_entries sources ++ rest))
  pub fits : All (λ r. ObjectFits (object_for object_at r)) (overdue waiting_of now rows)
  pub named : (acct : Acct) → AreNamed acct (extents_of object_at acct (overdue waiting_of now rows)) sources

-- What an expiry has come to: the addresses that were given back, the sources that stay, what is left of the others beside the
-- rest, and the heap with what is occupied then.
pub record Expiry : Type 0 where
  pub gone : List ℕ
  pub sources : List NamedSource
  pub rest : Entries
  pub heap : Heap

-- the item of a row goes, and then its object
abbrev pub gone_with : (ℕ → ObjectRow) → List NamedSource → Row → List ℕ
gone_with object_at sources r = item_blocks r ++ gone_object r.waiting.object (object_for object_at r) sources

-- what an expiry has come to once the object of a row is gone
abbrev pub expire_one : (ℕ → ObjectRow) → Expiry → Row → Expiry
expire_one object_at e r =
    let z = object_for object_at r in
    record {
      gone = e.gone ++ gone_with object_at e.sources r;
      sources = sources_staying z.account z.extents e.sources;
      rest = raws_left z.extents e.sources ++ e.rest;
      heap = with_occupied e.heap z.account (minus (occupied_in e.heap z.account) (charges_of z e.sources));
    }

-- what it comes to where the objects of these rows go, in order
abbrev pub expire_all : (ℕ → ObjectRow) → List NamedSource → Entries → Heap → List Row → Expiry
expire_all object_at sources rest heap rows =
    fold (expire_one object_at) (record { gone = []; sources = sources; rest = rest; heap = heap }) rows

-- what an expiry comes to
abbrev pub expiry_of : ℕ → List Row → (ℕ → ObjectRow) → List NamedSource → Entries → Heap → Expiry
expiry_of now rows object_at sources rest heap = expire_all object_at sources rest heap (overdue waiting_of now rows)

-- some queues are kept so, and there is room for the moves
pub record SomeOverdue (heap : Heap) (q : Queues) (now : ℕ) : Type 0 where
  pub next : ℕ
  pub rows : List Row
  pub object_at : ℕ → ObjectRow
  pub sources : List NamedSource
  pub rest : Entries
  pub keeps : KeepsOverdue heap.blocks q now next rows object_at sources rest
  pub room : length (expiry_of now rows object_at sources rest heap).gone ≤ heap.spare

-- Those that were overdue are gone, with their items, and so are their objects; what is charged less was given back, and all else
-- stays. All other extents that named the sources name those that stay, which count them.
pub record Expired (q : Queues) (now next : ℕ) (rows : List Row) (object_at : ℕ → ObjectRow) (sources : List NamedSource) (e : Expiry)
    (old new : Heap) (count : ℕ) : Type 0 where
  pub keeps : KeepsQueues new.blocks q next (later_than waiting_of now rows) (sources_entries e.sources ++ e.rest)
  pub named : (acct : Acct) (more : List ExtentRow) →
      AreNamed acct (extents_of object_at acct (overdue waiting_of now rows) ++ more) sources → AreNamed acct more e.sources
  pub others : besides new ≡ besides (with_moves e.heap (gave e.gone))
  pub counted : count ≡ length (overdue waiting_of now rows)
  pub step : QueueStep (state_of rows) (Expires now count) (state_of (later_than waiting_of now rows))

-- so it is with whichever queues are kept
pub record ExpiresAll (q : Queues) (now : ℕ) (old new : Heap) (count : ℕ) : Type 0 where
  pub expires : (next : ℕ) (rows : List Row) (object_at : ℕ → ObjectRow) (sources : List NamedSource) (rest : Entries) →
      KeepsOverdue old.blocks q now next rows object_at sources rest →
      Expired q now next rows object_at sources (expiry_of now rows object_at sources rest old) old new count

-- some first ones of the blocks that go were given back
pub record ExpiresSome (q : Queues) (now : ℕ) (old new : Heap) : Type 0 where
  pub gives : (next : ℕ) (rows : List Row) (object_at : ℕ → ObjectRow) (sources : List NamedSource) (rest : Entries) →
      KeepsOverdue old.blocks q now next rows object_at sources rest →
      GaveSome (expiry_of now rows object_at sources rest old).gone old new

-- why they don't all go: there is no log room; or a fault
abbrev pub ExpireStops : Queues → ℕ → Heap → Heap → Stop → Type 0
ExpireStops q now old new (Refused (refusals.LogFull lines room)) = ExpiresSome q now old new
ExpireStops q now old new stop = OnlyFault stop

-- The first row that is overdue is gone with its item, and its object with its parts; what is charged less was given back. All other
-- extents that named the sources name those that stay, which count them.
pub record FirstGone (r : Row) (q : Queues) (now next : ℕ) (rows : List Row) (object_at : ℕ → ObjectRow) (sources : List NamedSource)
    (rest : Entries) (old new : Heap) : Type 0 where
  pub keeps : (let e = expire_one object_at (record { gone = []; sources = sources; rest = rest; heap = old }) r in
      KeepsOverdue new.blocks q now next (without waiting_of r.waiting.object rows) object_at e.sources e.rest)
  pub named : (acct : Acct) (more : List ExtentRow) → (let z = object_for object_at r in
      AreNamed acct (together z.account z.extents acct more) sources → AreNamed acct more (sources_staying z.account z.extents sources))
  pub others : (let e = expire_one object_at (record { gone = []; sources = sources; rest = rest; heap = old }) r in
      besides new ≡ besides (with_moves e.heap (gave e.gone)))

-- what becomes of queues of which these rows are overdue: none is, and all is as before; or the first one is gone with its item, and
-- its object with its parts
abbrev pub FirstExpires : List Row → Queues → ℕ → ℕ → List Row → (ℕ → ObjectRow) → List NamedSource → Entries → Heap → Heap → Bool →
    Type 0
FirstExpires [] q now next rows object_at sources rest old new went = (went ≡ false) × (new ≡ old)
FirstExpires (r ∷ due) q now next rows object_at sources rest old new went =
    (went ≡ true) × FirstGone r q now next rows object_at sources rest old new

-- so it is with whichever queues are kept
pub record ExpiresFirst (q : Queues) (now : ℕ) (old new : Heap) (went : Bool) : Type 0 where
  pub expires : (next : ℕ) (rows : List Row) (object_at : ℕ → ObjectRow) (sources : List NamedSource) (rest : Entries) →
      KeepsOverdue old.blocks q now next rows object_at sources rest →
      FirstExpires (overdue waiting_of now rows) q now next rows object_at sources rest old new went

-- where one is overdue, some first ones of the blocks that go with it were given back
abbrev pub FirstGives : List Row → (ℕ → ObjectRow) → List NamedSource → Heap → Heap → Type 0
FirstGives [] object_at sources old new = ⊥
FirstGives (r ∷ due) object_at sources old new = GaveSome (gone_with object_at sources r) old new

-- so it is with whichever queues are kept
pub record FirstGivesSome (q : Queues) (now : ℕ) (old new : Heap) : Type 0 where
  pub gives : (next : ℕ) (rows : List Row) (object_at : ℕ → ObjectRow) (sources : List NamedSource) (rest : Entries) →
      KeepsOverdue old.blocks q now next rows object_at sources rest →
      FirstGives (overdue waiting_of now rows) object_at sources old new

-- why the first one doesn't go: there is no log room; or a fault
abbrev pub FirstStops : Queues → ℕ → Heap → Heap → Stop → Type 0
FirstStops q now old new (Refused (refusals.LogFull lines room)) = FirstGivesSome q now old new
FirstStops q now old new stop = OnlyFault stop

-- so many lines are touched at most where the first of these goes
abbrev pub first_lines : List Row → (ℕ → ObjectRow) → List NamedSource → ℕ
first_lines [] object_at sources = 0
first_lines (r ∷ due) object_at sources = 111 + parts_lines (object_for object_at r) sources
