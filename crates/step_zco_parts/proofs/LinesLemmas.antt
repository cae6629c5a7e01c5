-- How many moves an object takes to be bonded, and how many lines.
use Rattle.std.proofs.Common.{◌≡◌, ◌∙◌, ◌+◌, ◌*◌, ◌/◌, ◌≤◌, ◌++◌, ℕ, List, [], ◌∷◌, None, Some, length, refl, sym, ap, arith}
use Rattle.std.proofs.lemmas.List.{length-append}
use Rattle.std.specs.Option.{option_map_or}
use Rattle.std.specs.Prelude.{Option, Result, sum_by}
use Rattle.step_things.proofs.ListLemmas.{IsSmall}
use Rattle.step_things.specs.Answering.{IsReady}
use Rattle.sdr_stands.specs.Rows.{capsule_row, object_row}
use Rattle.sdr_stands.specs.Standing.{HeapStandsFor}
use Rattle.sdr_base.proofs.LinkedLemmas.{length-linked}
use Rattle.sdr_base.proofs.WorksLemmas.{works_more}
use Rattle.sdr_base.specs.Blocks.{IsKind}
use Rattle.sdr_base.specs.Entries.{Few}
use Rattle.sdr_base.specs.Objects.{Heap}
use Rattle.sdr_base.specs.Works.{Spends}
use Rattle.sdr_base.specs.ZcoObjects.{CapsuleRow, ObjectRow, capsule_addr, capsule_block, capsule_entries, extent_entries, object_entries}
use Rattle.sdr_base.specs.declared.has_heap.HasHeap.{Ghosts}
use Rattle.sdr_base.specs.declared.kind.Kind.TheVariants as kinds
use Rattle.sdr_base.specs.declared.stop.Stop.{Stop}
use Rattle.law_steps.proofs.ThingLemmas.{object_is}
use Rattle.sdr_model.proofs.SumLemmas.{sum_by-map}
use Rattle.sdr_model.specs.Accounts.{tickets_of}
use Rattle.sdr_model.specs.BondSteps.{bond_moves, capsules_of}
use Rattle.sdr_model.specs.World.{World, thing_at}
use Rattle.sdr_model.specs.Zco.{as_object, object_at}
use Rattle.sdr_model.specs.declared.accounts.Ticket.{Ticket}
use Rattle.sdr_model.specs.declared.things.Thing.TheVariants as things
use Rattle.sdr_model.specs.declared.zco.Capsule.{Capsule}
use Rattle.sdr_model.specs.declared.zco.ZcoObject.{ZcoObject}
use Rattle.zco_acct.specs.Kept.{queue_entries}
use Rattle.step_zco.proofs.FewLemmas.{few_blocks}
use Rattle.step_zco.proofs.ObjectLemmas.{object_is_at, object_with_queue}
use Rattle.zco_bond.specs.Bonding.{IsToBond, ends_lines}
use Rattle.zco_bond.specs.Chaining as rows
use Rattle.zco_bond.specs.Charging.{ends_of}
use Rattle.step_zco_parts.proofs.ChargeLemmas.{ends_are}
use Rattle.step_zco_parts.specs.BondAnswering.{bond_lines, capsule_lines}
use Rattle.zco_obj.specs.Kept.{IsWithQueue, KeepsWithQueue}

-- an object that is kept has no more headers and trailers than blocks, of which each has 16 bytes of the heap
ends_few : (heap : Heap) (object : ℕ) (row : ObjectRow) (tickets : List Ticket) → KeepsWithQueue heap object row tickets →
    Few heap.size heap.blocks → 16 * length (ends_of row) ≤ heap.size
ends_few heap object row tickets k few =
    let own = object_entries object row in
    let rest = queue_entries row.account tickets ++ k.rest in
    let headers = capsule_entries row.headers in
    let extents = extent_entries row.extents in
    let trailers = capsule_entries row.trailers in
    omega (
      arith,
      few.few (own ++ rest) k.stands,
      length-append own rest,
      length-append (headers ++ extents) trailers,
      length-append headers extents,
      length-linked capsule_addr capsule_block 0 0 row.headers,
      length-linked capsule_addr capsule_block 0 0 row.trailers,
      length-append row.headers row.trailers,
    )

-- where an object is kept with its queue there is room for the moves in which it is bonded
pub kept_to_bond : (heap : Heap) (object : ℕ) → Few heap.size heap.blocks → heap.size / 4 + 4 ≤ heap.spare → IsWithQueue heap object →
    IsToBond heap object
kept_to_bond heap object few room with_queue kind =
    let q = with_queue kind in
    let most = ends_few heap object q.row q.tickets q.keeps few in
    record { row = q.row; tickets = q.tickets; keeps = q.keeps; room = omega (arith, most, room) }

-- each header and trailer that becomes an extent makes four moves
pub four_moves : (at : ℕ → ℕ) (k : ℕ) (cs : List Capsule) → length (bond_moves at k cs) ≡ 4 * length cs
four_moves at k [] = refl
four_moves at k (c ∷ cs) = let rest = four_moves at (k + 3) cs in omega (arith, rest)

-- the moves in which an object of a world in blocks is bonded are no more than a heap has room for
pub bonded_few : (heap : Heap) (w : World) (addr : ℕ) (z : ZcoObject) → HeapStandsFor heap w → Few heap.size heap.blocks →
    thing_at w addr ≡ Some (things.Object z) → (at : ℕ → ℕ) → 4 * length (bond_moves at 0 (capsules_of z)) ≤ heap.size
bonded_few heap w addr z s few there at =
    omega (
      arith,
      few_blocks heap w addr z s few there,
      four_moves at 0 (capsules_of z),
      length-append z.headers z.trailers,
    )

-- so many lines it touches at most, by the object that is there in the world
pub bond_works : {S T : Type 0} {m : Ghosts S} {a b : S} {r : Result T Stop} (old : Heap) (w : World) (addr : ℕ) →
    HeapStandsFor old w → IsReady w → IsSmall old →
    ((row : ObjectRow) (tickets : List Ticket) → KeepsWithQueue old addr row tickets → Spends m (8 + ends_lines row) a b r) →
    ((IsKind (old.blocks addr) kinds.Object → ⊥) → Spends m 0 a b r) → Spends m (bond_lines w addr) a b r
bond_works {S} {T} {m} {a} {b} {r} old w addr s served small there missed = by (object_at w addr) refl
  where
    lines : (z : ZcoObject) → ends_lines (object_row z) ≡ sum_by capsule_lines (capsules_of z)
    lines z =
        ap (λ (l : List CapsuleRow). sum_by rows.bond_lines l) (ends_are z) ∙ sum_by-map rows.bond_lines capsule_row (capsules_of z)

    by : (o : Option ZcoObject) → object_at w addr ≡ o →
        Spends m (option_map_or (λ (z : ZcoObject). 8 + sum_by capsule_lines (capsules_of z)) o 0) a b r
    by None is =
        missed (λ kind.
        let at = object_is_at old w addr s served kind in
        let no : None ≡ Some at.object = sym is ∙ ap as_object at.there in cc)
    by (Some z) is =
        let at = object_is (thing_at w addr) z is in
        let same = lines z in
        works_more
        (there (object_row z) (tickets_of w.accounts z.account) (object_with_queue old w addr z s served small at))
        (omega (arith, same))
