-- An object whose bytes are read.
use Rattle.std.proofs.Common.{◌≡◌, ◌≢◌, ◌≤◌, ◌<◌, ◌+◌, ◌-◌, ◌^◌, ◌∙◌, ℕ, List, [], ◌++◌, Option, length, take, sym, ap, subst, arith, append-nil, length-append}
use Rattle.std.proofs.lemmas.List.{length-take, take-append-le}
use Rattle.sdr_base.specs.Blocks.{Blocks}
use Rattle.sdr_base.specs.Media.{Told}
use Rattle.sdr_base.specs.Objects.{OnlyFault}
use Rattle.sdr_base.specs.Words.{HasWord}
use Rattle.sdr_base.specs.ZcoObjects.{ObjectRow, extent_addr}
use Rattle.sdr_base.specs.Linked.{first_of}
use Rattle.sdr_base.specs.declared.media.Media.{Ghosts}
use Rattle.sdr_base.specs.declared.stop.Stop.{Stop}
use Rattle.sdr_machine.specs.Asked.{count_outside}
use Rattle.sdr_gather.specs.Gathering.{AreGathered, Gathering}
use Rattle.sdr_model.specs.Pieces.{cut_pieces}
use Rattle.sdr_model.specs.declared.piece.Piece.{Piece}
use Rattle.zco_obj.specs.Kept.{KeepsObject, SomeObject}
use Rattle.zco_obj.specs.Reading.{TellsFirsts}
use Rattle.zco_obj.specs.Walks.{CapsulesAt, SomeCapsules}
use Rattle.zco_obj.specs.declared.linking.Side.TheVariants as sides
use Rattle.zco_obj.specs.declared.object.Firsts.{Firsts}
use Rattle.zco_obj.proofs.KeptLemmas.{object_word}
use Rattle.zco_obj.proofs.PartsLemmas.{extents_at, side_at}
use Rattle.zco_wire.specs.Asking.{AsksAtNamed, AsksFor, AsksObject}
use Rattle.zco_wire.specs.Going.{GoesOverHeads, GoesOverNamed, ahead}
use Rattle.zco_wire.specs.Naming.{KeepsWire, NamesAt, SomeNames, SomeWire, head_pieces, wire_of}
use Rattle.zco_wire.specs.Reading.{FillsWith, asked_wire}
use Rattle.zco_wire.specs.Stopping.{StopsAtNamed, StopsObject, StopsPieces}
use Rattle.zco_wire.specs.declared.cursor.Cursor.{Cursor}
use Rattle.zco_wire.proofs.GoingLemmas.{count_more, goes_all, goes_trans}
use Rattle.zco_wire.proofs.PartLemmas.{extents_few, gathered_ends, wire_most}
use Rattle.zco_wire.proofs.StoppingLemmas.{only_fault, stops_later, told_same}

-- the cursor at the begin of a buffer
abbrev pub begin_at : ℕ → Cursor
begin_at place = record { skip = place; given = 0 }

-- an object that is kept with what its extents name is kept
pub some_object : {blocks : Blocks} {object : ℕ} → SomeWire blocks object → SomeObject blocks object
some_object s = record { row = s.row; keeps = s.keeps.keeps }

-- where the heap failed, nothing is said of the object
pub object_failed : {blocks : Blocks} {object : ℕ} {M : Type 0} (m : Ghosts M) (asked : ObjectRow → List Piece → List Piece) (old new : M)
    (stop : Stop) → OnlyFault stop → StopsObject m blocks object asked old new stop
object_failed m asked old new stop f = record { stops = λ row named k. only_fault m (asked row named) old new stop f }

-- the chains of an object
module _ {blocks : Blocks} {object : ℕ} {firsts : Firsts} (t : TellsFirsts blocks object firsts) where
  module _ {row : ObjectRow} {named : List Piece} (k : KeepsWire blocks object row named) where
    headers : CapsulesAt blocks firsts.header row.headers
    headers = side_at k.keeps sides.Headers firsts.header (t.told row k.keeps).header

    trailers : CapsulesAt blocks firsts.trailer row.trailers
    trailers = side_at k.keeps sides.Trailers firsts.trailer (t.told row k.keeps).trailer

    extents : NamesAt blocks firsts.extent row.extents named
    extents = record { chain = extents_at k.keeps firsts.extent (t.told row k.keeps).extent; are = k.are }

  pub some_headers : SomeWire blocks object → SomeCapsules blocks firsts.header
  some_headers s = record { rows = s.row.headers; is = headers s.keeps }

  pub some_trailers : SomeWire blocks object → SomeCapsules blocks firsts.trailer
  some_trailers s = record { rows = s.row.trailers; is = trailers s.keeps }

  pub some_extents : SomeWire blocks object → SomeNames blocks firsts.extent
  some_extents s = record { extents = s.row.extents; named = s.named; is = extents s.keeps }

  -- gone over one after another, they fill the buffer
  pub fills_wire : {told : Option Told} {a b c : Cursor} {x y z w : List ℕ} (place : ℕ) → GoesOverHeads blocks firsts.header (begin_at place) a x y →
      GoesOverNamed told blocks firsts.extent a b y z → GoesOverHeads blocks firsts.trailer b c z w → length y ≡ length x →
      length z ≡ length y → c.given ≤ length w → FillsWith told blocks object (asked_wire place (length x)) w c.given
  fills_wire {told} {a} {b} {c} {x} {y} {z} {w} place h e l first second few = record {
    few = few;
    gives = λ row named k.
        goes_all place
        (goes_trans (h.goes told row.headers (headers k))
        (goes_trans (e.goes row.extents named (extents k)) (l.goes told row.trailers (trailers k)) second) first);
  }

  -- what was asked for its extents was asked for the object
  pub wire_asks : {M : Type 0} (m : Ghosts M) {a : Cursor} {x y : List ℕ} (place : ℕ) (old new : M) → GoesOverHeads blocks firsts.header (begin_at place) a x y →
      length y ≡ length x → AsksAtNamed m blocks firsts.extent a (length y) old new → AsksObject m blocks object (asked_wire place (length x)) old new
  wire_asks m {a} {x} {y} place old new h same s = record {
    asks = λ row named k.
        let others = head_pieces row.trailers in
        let g = h.goes (m.told old) row.headers (headers k) in
        let z : length x - 0 ≡ length x = omega arith in
        let all : count_outside (cut_pieces place (length x) (wire_of row named))
        ≡ count_outside (ahead (begin_at place) (length x) (head_pieces row.headers)) + count_outside (ahead a (length x) (named ++ others)) =
        subst (λ n. count_outside (cut_pieces place n (wire_of row named))
        ≡ count_outside (ahead (begin_at place) (length x) (head_pieces row.headers)) + count_outside (ahead a (length x) (named ++ others))) z
        (g.counts (named ++ others)) in
        let more = count_more a.skip (length x - a.given) named others in
        let most = subst (λ n. AsksFor m (ahead a n named) old new) same (s.asks row.extents named (extents k)) in
        omega (arith, all, more, most);
  }

  -- where the extents' bytes weren't read, the object's weren't
  pub wire_stops : {M : Type 0} (m : Ghosts M) {a : Cursor} {x y : List ℕ} (place : ℕ) (old new : M) (stop : Stop) →
      GoesOverHeads blocks firsts.header (begin_at place) a x y → length y ≡ length x →
      StopsAtNamed m blocks firsts.extent a (length y) old new stop → StopsObject m blocks object (asked_wire place (length x)) old new stop
  wire_stops m {a} {x} {y} place old new stop h same s = record {
    stops = λ row named k.
        let others = head_pieces row.trailers in
        let g = h.goes (m.told old) row.headers (headers k) in
        let z : length x - 0 ≡ length x = omega arith in
        let gathers : Gathering (m.told old) (cut_pieces place (length x) (wire_of row named)) (ahead a (length x) (named ++ others)) g.bytes =
        subst (λ n. Gathering (m.told old) (cut_pieces place n (wire_of row named)) (ahead a (length x) (named ++ others)) g.bytes) z
        (g.gathers (named ++ others)) in
        stops_later m (cut_pieces place (length x) (wire_of row named)) (ahead a (length x) (named ++ others)) g.bytes old old new stop gathers
        (told_same m old)
        (subst (λ n. StopsPieces m (ahead a n (named ++ others)) old new stop) same (s.stops row.extents named (extents k) others));
  }

-- media weren't asked
pub object_unasked : {blocks : Blocks} {object : ℕ} {M : Type 0} (m : Ghosts M) (asked : ObjectRow → List Piece → List Piece) (old : M) →
    AsksObject m blocks object asked old old
object_unasked m asked old = record { asks = λ row named k. omega arith }

-- what was given of an object ends within it
given_long : (given : ℕ) (into : List ℕ) → given ≤ length into → length (take given into) ≡ given
given_long given into few = let t = length-take given into in omega (arith, t, few)

pub wire_ends : {told : Option Told} {blocks : Blocks} {object : ℕ} (place count given : ℕ) (into : List ℕ) → SomeWire blocks object →
    FillsWith told blocks object (asked_wire place count) into given → given ≢ 0 → place + given < 2 ^ 64
wire_ends place count given into s f nz =
    let e = gathered_ends (wire_of s.row s.named) place count given (take given into) (f.gives s.row s.named s.keeps) (given_long given into f.few) nz in
    let m = wire_most s.keeps in omega (arith, e, m)

-- the same of its extents alone
pub names_from : {blocks : Blocks} {object first : ℕ} {row : ObjectRow} {named : List Piece} → KeepsWire blocks object row named →
    first ≡ first_of extent_addr 0 row.extents → NamesAt blocks first row.extents named
names_from {first = first} k e = record { chain = extents_at k.keeps first e; are = k.are }

pub first_is : {blocks : Blocks} {object first : ℕ} → HasWord (blocks object) 1 first → (row : ObjectRow) → KeepsObject blocks object row →
    first ≡ first_of extent_addr 0 row.extents
first_is {first = first} h row k = object_word k 1 first (omega arith) h

module _ {blocks : Blocks} {object first : ℕ} (at : (row : ObjectRow) → KeepsObject blocks object row → first ≡ first_of extent_addr 0 row.extents) where
  pub fills_some : {told : Option Told} {c : Cursor} {x w : List ℕ} (place : ℕ) (rest : List ℕ) → GoesOverNamed told blocks first (begin_at place) c x w →
      c.given ≤ length w → FillsWith told blocks object (λ row named. cut_pieces place (length x) named) (w ++ rest) c.given
  fills_some {told} {c} {x} {w} place rest e few = record {
    few = let l = length-append w rest in omega (arith, l, few);
    gives = λ row named k.
        subst (AreGathered told (cut_pieces place (length x) named)) (sym (take-append-le c.given w rest few))
        (goes_all place (e.goes row.extents named (names_from k (at row k.keeps))));
  }

  pub some_stops : {M : Type 0} (m : Ghosts M) (place room : ℕ) (old new : M) (stop : Stop) → StopsAtNamed m blocks first (begin_at place) room old new stop →
      StopsObject m blocks object (λ row named. cut_pieces place room named) old new stop
  some_stops m place room old new stop s = record {
    stops = λ row named k.
        let z : room - 0 ≡ room = omega arith in
        subst (λ (ps : List Piece). StopsPieces m ps old new stop)
        (ap (λ n. cut_pieces place n (named ++ [])) z ∙ ap (cut_pieces place room) (append-nil named))
        (s.stops row.extents named (names_from k (at row k.keeps)) []);
  }

  pub some_asks : {M : Type 0} (m : Ghosts M) (place room : ℕ) (old new : M) → AsksAtNamed m blocks first (begin_at place) room old new →
      AsksObject m blocks object (λ row named. cut_pieces place room named) old new
  some_asks m place room old new s = record {
    asks = λ row named k.
        let z : room - 0 ≡ room = omega arith in
        subst (λ n. AsksFor m (cut_pieces place n named) old new) z (s.asks row.extents named (names_from k (at row k.keeps)));
  }

  pub some_names : SomeWire blocks object → SomeNames blocks first
  some_names s = record { extents = s.row.extents; named = s.named; is = names_from s.keeps (at s.row s.keeps.keeps) }

pub some_ends : {told : Option Told} {blocks : Blocks} {object : ℕ} (place count given : ℕ) (into : List ℕ) → SomeWire blocks object →
    FillsWith told blocks object (λ row named. cut_pieces place count named) into given → given ≢ 0 → place + given < 2 ^ 64
some_ends place count given into s f nz =
    let e = gathered_ends s.named place count given (take given into) (f.gives s.row s.named s.keeps) (given_long given into f.few) nz in
    let m = extents_few s.keeps in omega (arith, e, m)
