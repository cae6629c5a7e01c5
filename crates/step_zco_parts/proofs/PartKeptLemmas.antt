-- An object of a world, kept in its blocks so that a part of it can be cloned.
use Rattle.std.proofs.Common.{◌≡◌, ◌+◌, ◌*◌, ◌-◌, ◌/◌, ◌==◌, ◌≤◌, ℕ, List, [], ◌∷◌, ◌++◌, Bool, true, false, cond, map, Some, None, length, subst, arith, append_assoc, length-append, if◌then◌else◌}
use Rattle.std.proofs.lemmas.List.{length-map}
use Rattle.std.proofs.lemmas.List.Elements.{All-cons, All-nil}
use Rattle.std.proofs.lemmas.List.Sums.{sum_by-cons}
use Rattle.std.specs.FinMap as finite
use Rattle.std.specs.List.{flat_map, sum_by}
use Rattle.std.specs.Prelude.{All}
use Rattle.step_things.proofs.ListLemmas.{IsSmall}
use Rattle.step_things.specs.Answering.{IsReady}
use Rattle.sdr_stands.specs.Rows.{capsule_row, extent_row, object_row}
use Rattle.sdr_stands.specs.Standing.{HeapStandsFor, entries_of, other_entries, thing_entries}
use Rattle.sdr_stands.specs.Ties.{Ties, ties_of}
use Rattle.sdr_base.proofs.LinkedLemmas.{length-linked}
use Rattle.sdr_base.specs.Entries.{Entries, Few, BlocksAre}
use Rattle.sdr_base.specs.Objects.{Heap}
use Rattle.sdr_base.specs.Section.{section}
use Rattle.sdr_base.specs.ZcoObjects.{ExtentRow, ObjectRow, capsule_entries, extent_addr, extent_block, extent_entries, object_entries}
use Rattle.sdr_base.specs.declared.account.Acct.{Acct}
use Rattle.sdr_base.specs.declared.account.Acct.TheVariants as accts
use Rattle.sdr_model.specs.Accounts.{is_same_account, tickets_of}
use Rattle.sdr_model.specs.World.{World, thing_at}
use Rattle.sdr_model.specs.Zco.{count_of, naming, uses_in}
use Rattle.sdr_model.specs.declared.things.Thing.{Thing}
use Rattle.sdr_model.specs.declared.things.Thing.TheVariants as things
use Rattle.sdr_model.specs.declared.zco.Extent.{Extent}
use Rattle.sdr_model.specs.declared.zco.ZcoObject.{ZcoObject}
use Rattle.zco_acct.specs.Kept.{queue_entries}
use Rattle.step_zco.proofs.AlikeLemmas.{StandAlike}
use Rattle.step_zco.proofs.DestroyKept.{keeps_sources, sources, used}
use Rattle.step_zco.proofs.GoneTies.{leaves_none}
use Rattle.step_zco.proofs.GoneUses.{UsedBy, UsedSource, named_of}
use Rattle.step_zco.proofs.GoneWorlds.{beside, own_first}
use Rattle.step_zco.proofs.ObjectLemmas.{object_beside, object_is_at}
use Rattle.zco_obj.specs.Gone.{NamedSource, sources_entries}
use Rattle.zco_part.specs.Cloning.{IsToClone, KeepsToClone}
use Rattle.zco_obj.specs.Links.{piece_of}
use Rattle.zco_part.specs.Pieces.{asked, cut, filled, pieces}
use Rattle.zco_part.specs.Sources.{MayCount}
use Rattle.step_zco_parts.specs.PartAnswering.{IsCountable}
use Rattle.step_zco.proofs.SourceLemmas.{source_stands}

-- no more extents of a thing name a source than the thing has blocks
naming_most : (source : ℕ) (es : List Extent) → naming source es ≤ length es
naming_most source [] = omega arith
naming_most source (e ∷ es) =
    let ih = naming_most source es in
    let one = sum_by-cons (λ (x : Extent). cond (x.source == source) 1 0) e es in
    let most = at_most (e.source == source) in omega (arith, ih, one, most)
  where
    at_most : (b : Bool) → cond b 1 0 ≤ 1
    at_most true = omega arith
    at_most false = omega arith

uses_most : (source : ℕ) (acct : Acct) (ties : Ties) (addr : ℕ) (thing : Thing) →
    uses_in source acct thing ≤ length (thing_entries ties addr thing)
uses_most source acct ties addr (things.Object z) = by (is_same_account acct z.account)
  where
    by : (b : Bool) → cond b (naming source z.extents) 0 ≤ length (object_entries addr (object_row z))
    by false = omega arith
    by true =
        let hs = capsule_entries (map capsule_row z.headers) in
        let es = extent_entries (map extent_row z.extents) in
        omega (
          arith,
          naming_most source z.extents,
          length-linked extent_addr extent_block 0 0 (map extent_row z.extents),
          length-map z.extents extent_row,
          length-append (hs ++ es) (capsule_entries (map capsule_row z.trailers)),
          length-append hs es,
        )
uses_most source acct ties addr thing = omega arith

-- so they are few in a heap that stands for a world
pub counts_few : (heap : Heap) (w : World) (source : ℕ) (acct : Acct) → HeapStandsFor heap w → Few heap.size heap.blocks →
    16 * count_of w source acct ≤ heap.size
counts_few heap w source acct s few =
    omega (
      arith,
      all (finite.entries w.things),
      length-append (section (thing_entries (ties_of w)) w.things) (other_entries w),
      few.few (entries_of w) s.blocks,
    )
  where
    all : (es : List (ℕ × Thing)) →
        sum_by (λ e. uses_in source acct e.1) es ≤ length (flat_map (λ e. thing_entries (ties_of w) e.0 e.1) es)
    all [] = omega arith
    all (e ∷ es) =
        omega (
          arith,
          all es,
          sum_by-cons (λ (x : ℕ × Thing). uses_in source acct x.1) e es,
          length-append (thing_entries (ties_of w) e.0 e.1) (flat_map (λ e. thing_entries (ties_of w) e.0 e.1) es),
          uses_most source acct (ties_of w) e.0 e.1,
        )

-- in a heap that stands for a world in which calls are served
module _ (heap : Heap) (w : World) (s : HeapStandsFor heap w) (served : IsReady w) (small : IsSmall heap) (addr : ℕ) where
  -- an object's sources may count more
  module _ (z : ZcoObject) (there : thing_at w addr ≡ Some (things.Object z)) where
    may_count : (u : UsedSource w z.extents) → MayCount (named_of w z.extents u)
    may_count u =
        let inbound = counts_few heap w u.addr accts.Inbound s small.few in
        let outbound = counts_few heap w u.addr accts.Outbound s small.few in
        let most = small.small in
        record {
          fits = (source_stands heap w u.addr u.source s served small u.there).fits;
          inbound = omega (arith, inbound, most);
          outbound = omega (arith, outbound, most);
        }

    all_may : (us : List (UsedSource w z.extents)) → All MayCount (map (named_of w z.extents) us)
    all_may [] = All-nil MayCount
    all_may (u ∷ us) = All-cons MayCount (named_of w z.extents u) (map (named_of w z.extents) us) (may_count u) (all_may us)

    abbrev mine : UsedBy w z.extents z.extents
    mine = used w addr z served.whole.fits there

    abbrev pub rows : List NamedSource
    rows = sources heap w s served small addr z there

    -- so the object is kept with them, and with the queue of its account
    pub kept_to_clone : KeepsToClone heap addr (object_row z) (tickets_of w.accounts z.account) rows
    kept_to_clone =
        let own = object_entries addr (object_row z) in
        let rest = beside w addr z there served.whole.fits z.extents None (leaves_none z) mine.sources mine.are in
        record {
          beside = object_beside heap w addr z s served small there (sources_entries rows) rest
              (subst (λ (es : Entries). StandAlike (section (thing_entries (ties_of w)) w.things) es) (append_assoc own (sources_entries rows) rest)
              (own_first w addr z there served.whole.fits z.extents None (leaves_none z) mine.sources mine.are));
          may = record {
            there = (keeps_sources heap w s served small addr z there).named.there;
            counted = all_may mine.sources;
          };
        }

  pub countable : IsCountable heap addr
  countable kind =
      let at = object_is_at heap w addr s served kind in
      record {
        row = object_row at.object;
        tickets = tickets_of w.accounts at.object.account;
        sources = rows at.object at.there;
        keeps = kept_to_clone at.object at.there;
      }

-- a part of some extents is of no more pieces than they are
pieces_few : (from to : ℕ) (es : List ExtentRow) → length (pieces from to es) ≤ length es
pieces_few from to [] = omega arith
pieces_few from to (e ∷ es) =
    let rest = pieces_few (from - e.length) (to - e.length) es in
    let p = cut from to (piece_of e) in
    let both = length-append (filled p) (pieces (from - e.length) (to - e.length) es) in
    let one = most (p.bytes == 0) in omega (arith, rest, both, one)
  where
    most : (b : Bool) → length (if b then [] else cut from to (piece_of e) ∷ []) ≤ 1
    most true = omega arith
    most false = omega arith

-- so there is room for the moves
pub room_to_clone : {heap : Heap} {object : ℕ} (offset bytes : ℕ) → Few heap.size heap.blocks → IsCountable heap object →
    heap.size / 4 + 4 ≤ heap.spare → IsToClone heap object offset bytes
room_to_clone {heap} {object} offset bytes few is room kind =
    let q = is kind in
    record {
      row = q.row;
      tickets = q.tickets;
      sources = q.sources;
      keeps = q.keeps;
      room = enough q.row (queue_entries q.row.account q.tickets ++ q.keeps.beside.keeps.rest) q.keeps.beside.keeps.stands;
    }
  where
    enough : (row : ObjectRow) (rest : Entries) → BlocksAre heap.blocks (object_entries object row ++ rest) →
        1 + length (asked offset bytes row) ≤ heap.spare
    enough row rest s =
        let hs = capsule_entries row.headers in
        let es = extent_entries row.extents in
        omega (
          arith,
          room,
          few.few (object_entries object row ++ rest) s,
          pieces_few (row.part_offset + offset) (row.part_offset + offset + bytes) row.extents,
          length-append (object_entries object row) rest,
          length-append (hs ++ es) (capsule_entries row.trailers),
          length-append hs es,
          length-linked extent_addr extent_block 0 0 row.extents,
        )
