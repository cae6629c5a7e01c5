-- How many moves a call has.
use Rattle.std.proofs.Common.{◌≡◌, ◌==◌, ◌≤◌, ◌+◌, ◌*◌, ◌/◌, ◌++◌, ◌∷◌, ◌⊎◌, ℕ, List, [], Bool, cond, Option, None, Some, false, true, true≢false, inl, inr, refl, sym, ap, ◌∙◌, length, length-append, position, subst, arith}
use Rattle.std.proofs.lemmas.List.{length-map}
use Rattle.std.specs.Prelude.{slice_get, slice_index, ⊤}
use Rattle.sdr_base.specs.declared.moves.Move.{Move}
use Rattle.sdr_base.specs.declared.moves.Move.TheVariants.{Gave}
use Rattle.sdr_base.specs.declared.refusal.Refusal.TheVariants as refusals
use Rattle.law_steps.proofs.RowShapes.{row_shape}
use Rattle.law_steps.proofs.Shapes.{Shape}
use Rattle.sdr_machine.specs.Ground.{Ground, Replied, State, StepsOn}
use Rattle.sdr_model.specs.ListSteps.{as_list}
use Rattle.sdr_model.specs.Reading.{is_reading}
use Rattle.sdr_model.specs.HashSteps.{as_hash, has_key}
use Rattle.sdr_model.specs.Hashes.{Hash}
use Rattle.sdr_model.specs.AccountSteps.{pending_of}
use Rattle.sdr_model.specs.ObjectSteps.{last_capsule}
use Rattle.sdr_model.specs.RowMoves.{append_moves, block_of, block_of_capsule, block_of_ticket, bond_moves_of, destroyed_blocks, elements_in, entries_in, first_header, keyed_at, keyed_in, last_trailer, row_moves, stripped_blocks}
use Rattle.sdr_model.specs.Names.{name_of}
use Rattle.sdr_model.specs.Rows.{ByRow}
use Rattle.sdr_model.specs.Step.{StopsWith}
use Rattle.sdr_model.specs.Steps.{Outcome, gave, taken_addresses}
use Rattle.sdr_model.specs.World.{World, thing_at}
use Rattle.sdr_model.specs.Zco.{as_object, object_at, source_at, uses_of}
use Rattle.sdr_model.specs.declared.accounts.Pending.{Pending}
use Rattle.sdr_model.specs.declared.answer.Reply.{Reply}
use Rattle.sdr_model.specs.declared.answer.Reply.TheVariants as replies
use Rattle.sdr_model.specs.declared.call.Call.{Call}
use Rattle.sdr_model.specs.declared.call.Call.TheVariants as calls
use Rattle.sdr_model.specs.declared.name.Name.{Name}
use Rattle.sdr_model.specs.declared.things.Thing.{Thing}
use Rattle.sdr_model.specs.declared.things.Thing.TheVariants as things
use Rattle.sdr_model.specs.declared.zco.Capsule.{Capsule}
use Rattle.sdr_model.specs.declared.zco.ZcoObject.{ZcoObject}
use Rattle.sdr_model.specs.declared.zco.ZcoSource.{ZcoSource}
use Rattle.sdr_station.proofs.StoodLemmas.{clones_few, cut_few, elements_few, entries_few, gone_few}
use Rattle.sdr_station.specs.Grounded.{HasStood}
use Rattle.sdr_station.specs.Rooming.{MovesAtMost}
use Rattle.step_zco_parts.proofs.LinesLemmas.{bonded_few}

-- a call that stops on its way has no more moves than it would have had
stops_fewer : (reply : Reply) (call : Call) (all moves : List Move) → StopsWith reply call all moves → length moves ≤ length all
stops_fewer (replies.Refused (refusals.NoBlock need)) call all moves s =
    let whole = ap (λ (ms : List Move). length ms) s.whole in
    let short = ap (λ (ms : List Move). length ms) s.short in
    omega (arith, whole, short, length-append {A = Move})
stops_fewer (replies.Refused (refusals.LogFull lines room)) call all moves s =
    let whole = ap (λ (ms : List Move). length ms) s.0.whole in
    omega (arith, whole, length-append {A = Move})
stops_fewer (replies.Refused (refusals.SourceShort have want)) call all moves s =
    let none = ap (λ (ms : List Move). length ms) s.0 in
    omega (arith, none)
stops_fewer (replies.Refused refusal) call all moves s = absurd s
stops_fewer replies.MediaFault call all moves s =
    let none = ap (λ (ms : List Move). length ms) s.0 in
    omega (arith, none)
stops_fewer reply call all moves s = absurd s

-- what bounds the moves of each row of a changing call, with whatever addresses, bounds an outcome of its row
row_at_most : (call : Call) (most : ℕ) (w : World)
    → (is_reading call ≡ false → (at : ℕ → ℕ) → length (row_moves w call at) ≤ most)
    → (o : Outcome) → ByRow w o call → length o.moves ≤ most
row_at_most call most w bound o row = by (row_shape w call o row)
  where
    by : Shape w call o → length o.moves ≤ most
    by (Shape.refuses refusal of_row h) =
        let none = ap (λ (ms : List Move). length ms) h.0 in
        omega (arith, none)
    by (Shape.shows s) =
        let none = ap (λ (ms : List Move). length ms) s.moves in
        omega (arith, none)
    by (Shape.acts a) =
        let same = ap (λ (ms : List Move). length ms) a.row in
        let few = bound a.changing (slice_index (taken_addresses o.moves)) in
        omega (arith, same, few)

-- and the call's
moves_at_most : (size : ℕ) (call : Call) (most : ℕ)
    → ((w : World) → HasStood size w → is_reading call ≡ false → (at : ℕ → ℕ) → length (row_moves w call at) ≤ most)
    → MovesAtMost size call most
moves_at_most size call most bound w o stood (inl row) = row_at_most call most w (bound w stood) o row
moves_at_most size call most bound w o stood (inr s) =
    let aim = row_at_most call most w (bound w stood) s.aim s.row in
    let fewer = stops_fewer o.reply call s.aim.moves o.moves s.stopped in
    omega (arith, aim, fewer)

-- and those of each step on a ground
pub steps_at_most : (size : ℕ) (call : Call) (most : ℕ) → MovesAtMost size call most → (base : Ground) (s : State)
    → HasStood size s.world
    → (o : Replied) → StepsOn base s call o → length o.moves ≤ most
steps_at_most size call most few Ground.NoHeap s stood o h = elim h.step [
  | inl d ↦ few s.world _ stood (inl d.step)
  | inr r ↦ few s.world _ stood (inr r.stopped)
]
steps_at_most size call most few (Ground.OnHeap room P) s stood o h = few s.world _ stood h.step

-- a call that reads has no move
pub moves_none : (size : ℕ) (call : Call) → is_reading call ≡ true → MovesAtMost size call 0
moves_none size call reads = moves_at_most size call 0 (λ w stood changes at. absurd (true≢false (sym reads ∙ changes)))

-- blocks that are given back, and one more
one_more : (size addr : ℕ) (addrs : List ℕ) → 16 * length addrs ≤ size → length (gave (addrs ++ addr ∷ [])) ≤ size / 16 + 1
one_more size addr addrs few =
    let all = length-map (addrs ++ addr ∷ []) (λ (a : ℕ). Gave a) in
    let split = length-append addrs (addr ∷ []) in
    omega (arith, few, all, split)

-- a list that goes has a move for each element, and one for itself
moves_list : (size list : ℕ) → MovesAtMost size (calls.ListDestroy list) (size / 16 + 1)
moves_list size list = moves_at_most size (calls.ListDestroy list) (size / 16 + 1) (λ w stood changes at.
    one_more size list (elements_in (as_list (thing_at w list))) (elements_few size w list stood))

-- so has a hash for its entries
moves_hash : (size hash : ℕ) → MovesAtMost size (calls.HashDestroy hash) (size / 16 + 1)
moves_hash size hash = moves_at_most size (calls.HashDestroy hash) (size / 16 + 1) (λ w stood changes at.
    one_more size hash (entries_in (as_hash (thing_at w hash))) (entries_few size w hash stood))

-- and an object for each block that goes with it
moves_object : (size object : ℕ) → MovesAtMost size (calls.Destroy object) (size / 16 + 1)
moves_object size object = moves_at_most size (calls.Destroy object) (size / 16 + 1) (λ w stood changes at.
    let gone = destroyed_blocks w object (object_at w object) in
    let few = gone_few size w object stood in
    let all = length-map gone (λ (a : ℕ). Gave a) in
    omega (arith, few, all))

-- so has one that is cut for those that go, and one that is cloned for itself and its extents
moves_strip : (size object : ℕ) → MovesAtMost size (calls.Strip object) (size / 16 + 1)
moves_strip size object = moves_at_most size (calls.Strip object) (size / 16 + 1) (λ w stood changes at.
    let gone = stripped_blocks w (object_at w object) in
    let few = cut_few size w object stood in
    let all = length-map gone (λ (a : ℕ). Gave a) in
    omega (arith, few, all))

moves_clone : (size object ticket offset bytes : ℕ) → MovesAtMost size (calls.ClonePart object ticket offset bytes) (size / 16 + 1)
moves_clone size object ticket offset bytes =
    moves_at_most size (calls.ClonePart object ticket offset bytes) (size / 16 + 1) (λ w stood changes at.
    let few = clones_few size w object offset bytes stood at in
    omega (arith, few))

-- so whichever of these a call is has so many at most
pub moves_long : (size : ℕ) (call : Call)
    → ((list : ℕ) × (call ≡ calls.ListDestroy list)) ⊎ (((hash : ℕ) × (call ≡ calls.HashDestroy hash))
    ⊎ (((object : ℕ) × (call ≡ calls.Destroy object)) ⊎ (((object : ℕ) × (call ≡ calls.Strip object))
    ⊎ ((object : ℕ) × (ticket : ℕ) × (offset : ℕ) × (bytes : ℕ) × (call ≡ calls.ClonePart object ticket offset bytes)))))
    → MovesAtMost size call (size / 16 + 1)
moves_long size call long = by long
  where
    as_one : (other : Call) → call ≡ other → MovesAtMost size other (size / 16 + 1) → MovesAtMost size call (size / 16 + 1)
    as_one other is most = subst (λ (c : Call). MovesAtMost size c (size / 16 + 1)) (sym is) most

    by : ((list : ℕ) × (call ≡ calls.ListDestroy list)) ⊎ (((hash : ℕ) × (call ≡ calls.HashDestroy hash))
        ⊎ (((object : ℕ) × (call ≡ calls.Destroy object)) ⊎ (((object : ℕ) × (call ≡ calls.Strip object))
        ⊎ ((object : ℕ) × (ticket : ℕ) × (offset : ℕ) × (bytes : ℕ) × (call ≡ calls.ClonePart object ticket offset bytes)))))
        → MovesAtMost size call (size / 16 + 1)
    by (inl l) = as_one (calls.ListDestroy l.0) l.1 (moves_list size l.0)
    by (inr (inl h)) = as_one (calls.HashDestroy h.0) h.1 (moves_hash size h.0)
    by (inr (inr (inl z))) = as_one (calls.Destroy z.0) z.1 (moves_object size z.0)
    by (inr (inr (inr (inl z)))) = as_one (calls.Strip z.0) z.1 (moves_strip size z.0)
    by (inr (inr (inr (inr z)))) = as_one (calls.ClonePart z.0 z.1 z.2 z.3) z.4 (moves_clone size z.0 z.1 z.2 z.3)

-- a name that goes has one at most
one_name : (found : Option Name) → length (gave (block_of found)) ≤ 1
one_name None = omega arith
one_name (Some name) = omega arith

-- and so has a key that goes
one_keyed : (found : Option Hash) (key : List ℕ) → length (gave (keyed_in found key)) ≤ 1
one_keyed None key = omega arith
one_keyed (Some hash) key = by (position (has_key key) hash.entries)
  where
    by : (place : Option ℕ) → length (gave (keyed_at hash place)) ≤ 1
    by None = omega arith
    by (Some place) = omega arith

-- and so has a source that goes at once
one_source : (source : ℕ) (unused : Bool) → length (gave (cond unused (source ∷ []) [])) ≤ 1
one_source source true = omega arith
one_source source false = omega arith

-- and so has a ticket that goes
one_ticket : (found : Option Pending) → length (gave (block_of_ticket found)) ≤ 1
one_ticket None = omega arith
one_ticket (Some pending) = omega arith

-- and so has a header or trailer that goes
one_capsule : (found : Option Capsule) → length (gave (block_of_capsule found)) ≤ 1
one_capsule None = omega arith
one_capsule (Some capsule) = omega arith

one_header : (found : Option ZcoObject) → length (gave (first_header found)) ≤ 1
one_header None = omega arith
one_header (Some z) = one_capsule (slice_get z.headers 0)

one_trailer : (found : Option ZcoObject) → length (gave (last_trailer found)) ≤ 1
one_trailer None = omega arith
one_trailer (Some z) = one_capsule (last_capsule z.trailers)

-- an extent that is appended has one, and one more where a source takes a raw object over
pub moves_append : (size object ticket named offset bytes : ℕ) → MovesAtMost size (calls.AppendExtent object ticket named offset bytes) 2
moves_append size object ticket named offset bytes =
    moves_at_most size (calls.AppendExtent object ticket named offset bytes) 2 (λ w stood changes at. by at (source_at w named))
  where
    by : (at : ℕ → ℕ) (found : Option ZcoSource) → length (append_moves found at) ≤ 2
    by at None = omega arith
    by at (Some source) = omega arith

-- and an object that is bonded has at most one for 4 bytes of the heap
pub moves_bond : (size object ticket : ℕ) → MovesAtMost size (calls.Bond object ticket) (size / 4)
moves_bond size object ticket =
    moves_at_most size (calls.Bond object ticket) (size / 4) (λ w stood changes at. by w stood at (thing_at w object) refl)
  where
    by : (w : World) → HasStood size w → (at : ℕ → ℕ) (found : Option Thing) → thing_at w object ≡ found
        → length (bond_moves_of (as_object found) at) ≤ size / 4
    by w s at (Some (things.Object z)) is =
        let few = bonded_few s.heap w object z s.stands s.few is at in omega (arith, few, s.same)
    by w s at found is = omega arith

-- whether it is none of those that may have more
abbrev pub IsOther : Call → Type 0
IsOther (calls.ListDestroy list) = ⊥
IsOther (calls.HashDestroy hash) = ⊥
IsOther (calls.Destroy object) = ⊥
IsOther (calls.Strip object) = ⊥
IsOther (calls.ClonePart object ticket offset bytes) = ⊥
IsOther (calls.Bond object ticket) = ⊥
IsOther (calls.AppendExtent object ticket named offset bytes) = ⊥
IsOther call = ⊤

pub is_other : (call : Call) → ((list : ℕ) → call ≡ calls.ListDestroy list → ⊥) → ((hash : ℕ) → call ≡ calls.HashDestroy hash → ⊥)
    → ((object : ℕ) → call ≡ calls.Destroy object → ⊥) → ((object : ℕ) → call ≡ calls.Strip object → ⊥)
    → ((object ticket offset bytes : ℕ) → call ≡ calls.ClonePart object ticket offset bytes → ⊥)
    → ((object ticket : ℕ) → call ≡ calls.Bond object ticket → ⊥)
    → ((object ticket named offset bytes : ℕ) → call ≡ calls.AppendExtent object ticket named offset bytes → ⊥) → IsOther call
is_other (calls.ListDestroy list) no_list no_hash no_object no_cut no_clone no_bond no_extent = absurd (no_list list refl)
is_other (calls.HashDestroy hash) no_list no_hash no_object no_cut no_clone no_bond no_extent = absurd (no_hash hash refl)
is_other (calls.Destroy object) no_list no_hash no_object no_cut no_clone no_bond no_extent = absurd (no_object object refl)
is_other (calls.Strip object) no_list no_hash no_object no_cut no_clone no_bond no_extent = absurd (no_cut object refl)
is_other (calls.ClonePart object ticket offset bytes) no_list no_hash no_object no_cut no_clone no_bond no_extent =
    absurd (no_clone object ticket offset bytes refl)
is_other (calls.Bond object ticket) no_list no_hash no_object no_cut no_clone no_bond no_extent = absurd (no_bond object ticket refl)
is_other (calls.AppendExtent object ticket named offset bytes) no_list no_hash no_object no_cut no_clone no_bond no_extent =
    absurd (no_extent object ticket named offset bytes refl)
is_other call no_list no_hash no_object no_cut no_clone no_bond no_extent = tt

-- any other has one at most
pub moves_one : (size : ℕ) (call : Call) → IsOther call → MovesAtMost size call 1
moves_one size call other = moves_at_most size call 1 (λ w stood changes at. by w at call other)
  where
    by : (w : World) (at : ℕ → ℕ) (call : Call) → IsOther call → length (row_moves w call at) ≤ 1
    by w at (calls.ListDestroy list) other = absurd other
    by w at (calls.HashDestroy hash) other = absurd other
    by w at (calls.Destroy addr) other = absurd other
    by w at (calls.Strip addr) other = absurd other
    by w at (calls.ClonePart addr ticket offset bytes) other = absurd other
    by w at (calls.Bond addr ticket) other = absurd other
    by w at (calls.AppendExtent addr ticket named offset bytes) other = absurd other
    by w at (calls.HashRemove hash key) other = one_keyed (as_hash (thing_at w hash)) key
    by w at (calls.Uncatlg name) other = one_name (name_of w.names name)
    by w at (calls.DestroyRef source) other = one_source source (uses_of w source == 0)
    by w at (calls.Shred ticket) other = one_ticket (pending_of w ticket)
    by w at (calls.DiscardFirstHeader addr) other = one_header (object_at w addr)
    by w at (calls.DiscardLastTrailer addr) other = one_trailer (object_at w addr)
    by w at call other = omega arith
