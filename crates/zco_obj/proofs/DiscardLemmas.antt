-- A header or trailer goes, and what it charged.
use Rattle.std.proofs.Common.{◌≡◌, ◌≢◌, ◌-◌, ℕ, List, [], ◌∷◌, ◌++◌, length, drop, take, refl, sym, ap, ◌∙◌, arith, subst, append-nil, length-append}
use Rattle.std.specs.Prelude.{Option, Some, slice_get}
use Rattle.std.proofs.lemmas.Option.{slice_get-get_or}
use Rattle.std.proofs.Math.Seq.{get_or-append_seam, take-append_seam}
use Rattle.sdr_base.specs.Blocks.{Blocks, IsKind}
use Rattle.sdr_base.specs.Entries.{BlocksAre}
use Rattle.sdr_base.specs.Linked.{first_of}
use Rattle.sdr_base.specs.Making.{GaveSome, besides, with_moves}
use Rattle.sdr_base.specs.Objects.{Heap, OnlyUnmoved}
use Rattle.sdr_base.specs.Words.{HasWord}
use Rattle.sdr_base.specs.ZcoObjects.{CapsuleRow, ObjectRow, capsule_addr, capsule_block, object_entries}
use Rattle.sdr_base.specs.declared.account.Acct.{Acct}
use Rattle.sdr_base.specs.declared.account.Amounts.{Amounts}
use Rattle.sdr_base.specs.declared.kind.Kind.TheVariants as kinds
use Rattle.sdr_base.specs.declared.moves.Move.TheVariants.{Gave}
use Rattle.sdr_base.specs.declared.refusal.Refusal.TheVariants as refusals
use Rattle.sdr_base.specs.declared.stop.Stop.{Stop}
use Rattle.sdr_base.specs.declared.stop.Stop.TheVariants.{Refused, DiskFault, MediaFault, Failed}
use Rattle.sdr_base.proofs.HeapLemmas.{heap_blocks}
use Rattle.sdr_model.specs.Amounts.{minus}
use Rattle.sdr_model.specs.Charges.{capsule_bytes}
use Rattle.zco_acct.specs.Words.{occupied_in, with_occupied}
use Rattle.zco_ref.proofs.GoneLemmas.{unmoved}
use Rattle.zco_obj.specs.Amounts.{heap_amounts}
use Rattle.zco_obj.specs.Chains.{IsSpot, RemovesCapsule, SomeSpot, capsules, with_capsules}
use Rattle.zco_obj.specs.Discards.{Discarded, DiscardsCapsule, DiscardsOne, DiscardsSpot, DiscardStops, GaveOne, LacksCapsule, SpotStops, first_header, last_trailer, without_header, without_trailer}
use Rattle.zco_obj.specs.Kept.{CapsuleFits, KeepsObject, SomeObject}
use Rattle.zco_obj.specs.Reading.{Tells}
use Rattle.zco_obj.specs.Walks.{FindsLast, KeepsCapsule, SeesCapsule, SomeCapsule, SomeCapsules}
use Rattle.zco_obj.specs.declared.linking.Side.{Side}
use Rattle.zco_obj.specs.declared.linking.Side.TheVariants as sides
use Rattle.zco_obj.specs.declared.seeing.Last.{Last}
use Rattle.zco_obj.specs.declared.seeing.SeenCapsule.{SeenCapsule}
use Rattle.zco_obj.proofs.PartsLemmas.{headers_from, side_at, trailers_from}
use Rattle.zco_obj.proofs.WalkLemmas.{capsule_spot, has_first, none_at_zero}

-- the one at a spot is there
pub spot_keeps : {blocks : Blocks} {object prev next : ℕ} {row : ObjectRow} {before behind : List CapsuleRow} {c : CapsuleRow}
    (side : Side) → KeepsObject blocks object row → IsSpot side row prev next before c behind →
    KeepsCapsule (blocks c.addr) (first_of capsule_addr 0 behind) c
spot_keeps {row = row} {before} {behind} {c} side k p =
    capsule_spot (side_at k side (first_of capsule_addr 0 (capsules side row)) refl) before c behind p.whole

-- it went, and what it charged was given back
pub discards_spot : {side : Side} {object prev gone : ℕ} {seen : SeenCapsule} {acct : Acct} {old mid new : Heap} →
    Tells old.blocks object (λ row. row.account) acct → SeesCapsule (old.blocks gone) seen →
    RemovesCapsule side object prev gone seen.next old mid →
    new ≡ with_occupied mid acct (minus (occupied_in mid acct) (heap_amounts (capsule_bytes seen.bytes))) →
    DiscardsSpot side object prev gone seen.next old new
discards_spot {side} {object} {prev} {gone} {seen} {acct} {old} {mid} {new} t v r w = record {
  discards = λ row before c behind k p g.
      let own : acct ≡ row.account = t.tells row k in
      let bytes : seen.bytes ≡ length c.text =
      v.bytes (first_of capsule_addr 0 behind) c
      (subst (λ a. KeepsCapsule (old.blocks a) (first_of capsule_addr 0 behind) c) (sym g) (spot_keeps side k p)) in
      let same : occupied_in mid acct ≡ occupied_in old acct = ap (λ (h : Heap). occupied_in h acct) r.made.all in
      record {
        changes = record {
          kept = λ rest s.
              subst (λ (b : Blocks). BlocksAre b (object_entries object (with_capsules side (before ++ behind) row) ++ rest))
              (sym (heap_blocks w)) ((r.changes row before c behind p g).kept rest s);
        };
        others =
            ap besides w
            ∙ ap (λ (h : Heap). with_occupied h acct (minus (occupied_in mid acct) (heap_amounts (capsule_bytes seen.bytes)))) r.made.all
            ∙ ap (λ (a : Amounts). besides (with_occupied (with_moves old (Gave gone ∷ [])) acct
            (minus a (heap_amounts (capsule_bytes seen.bytes))))) same
            ∙ ap (λ n. besides (with_occupied (with_moves old (Gave gone ∷ [])) acct
            (minus (occupied_in old acct) (heap_amounts (capsule_bytes n))))) bytes
            ∙ ap (λ a. besides (with_occupied (with_moves old (Gave a ∷ [])) acct
            (minus (occupied_in old acct) (heap_amounts (capsule_bytes (length c.text)))))) g
            ∙ ap (λ (a : Acct). besides (with_occupied (with_moves old (Gave c.addr ∷ [])) a
            (minus (occupied_in old a) (heap_amounts (capsule_bytes (length c.text)))))) own;
      };
}

-- why it isn't, before it went
pub stops_there : (gone : ℕ) (old new : Heap) (stop : Stop) → OnlyUnmoved old new stop → SpotStops gone old new stop
stops_there gone old new (Refused (refusals.LogFull lines room)) u = unmoved (gone ∷ []) u.moves u.spare
stops_there gone old new (Refused refusal) u = absurd u
stops_there gone old new DiskFault u = tt
stops_there gone old new MediaFault u = absurd u
stops_there gone old new Failed u = tt

-- or once it had gone
pub stops_then : {side : Side} {object prev next : ℕ} (gone : ℕ) (old mid new : Heap) (stop : Stop) →
    RemovesCapsule side object prev gone next old mid → OnlyUnmoved mid new stop → SpotStops gone old new stop
stops_then gone old mid new (Refused (refusals.LogFull lines room)) r u = record {
  made = Gave gone ∷ [];
  first = record { rest = []; whole = refl };
  moves = u.moves ∙ ap (λ (h : Heap). h.moves) r.made.all;
  spare = u.spare ∙ ap (λ (h : Heap). h.spare) r.made.all;
}
stops_then gone old mid new (Refused refusal) r u = absurd u
stops_then gone old mid new DiskFault r u = tt
stops_then gone old mid new MediaFault r u = absurd u
stops_then gone old mid new Failed r u = tt

-- the first of some headers
pub record FirstIs (row : ObjectRow) (first : ℕ) : Type 0 where
  pub one : CapsuleRow
  pub behind : List CapsuleRow
  pub whole : row.headers ≡ one ∷ behind
  pub at_first : first ≡ one.addr

pub first_is : {blocks : Blocks} {object first : ℕ} {row : ObjectRow} → KeepsObject blocks object row →
    HasWord (blocks object) 3 first → first ≢ 0 → FirstIs row first
first_is {row = row} k h nz =
    let c = headers_from k h in
    let f = has_first capsule_addr row.headers (λ z. nz (c.at_first ∙ z)) in
    record { one = f.one; behind = f.behind; whole = f.is; at_first = c.at_first ∙ ap (first_of capsule_addr 0) f.is }

first_spot : {row : ObjectRow} {first : ℕ} (f : FirstIs row first) → IsSpot sides.Headers row 0 (first_of capsule_addr 0 f.behind) [] f.one f.behind
first_spot f = record { whole = f.whole; at_previous = refl; at_next = refl }

-- a header is read at the first one's address
pub first_there : {blocks : Blocks} {object first : ℕ} → SomeObject blocks object → HasWord (blocks object) 3 first → first ≢ 0 →
    SomeCapsule (blocks first)
first_there {blocks} q h nz =
    let f = first_is q.keeps h nz in
    subst (λ a. SomeCapsule (blocks a)) (sym f.at_first)
    (record { next = _; capsule = f.one; keeps = spot_keeps sides.Headers q.keeps (first_spot f) })

-- its next one is as was read
next_is : (blocks : Blocks) {addr : ℕ} {seen : SeenCapsule} {c : CapsuleRow} {next : ℕ} → SeesCapsule (blocks addr) seen → addr ≡ c.addr →
    KeepsCapsule (blocks c.addr) next c → seen.next ≡ next
next_is blocks {c = c} {next} v e k = v.next next c (subst (λ a. KeepsCapsule (blocks a) next c) (sym e) k)

pub first_gone : {blocks : Blocks} {object first : ℕ} {seen : SeenCapsule} → SomeObject blocks object → HasWord (blocks object) 3 first →
    first ≢ 0 → SeesCapsule (blocks first) seen → SomeSpot sides.Headers blocks object 0 first seen.next
first_gone {blocks} {object} {first} {seen} q h nz v =
    let f = first_is q.keeps h nz in
    record {
      row = q.row;
      before = [];
      capsule = f.one;
      behind = f.behind;
      keeps = q.keeps;
      spot = record {
        whole = f.whole;
        at_previous = refl;
        at_next = next_is blocks v f.at_first (spot_keeps sides.Headers q.keeps (first_spot f));
      };
      at_gone = f.at_first;
    }

-- the first header went
pub discards_header : {object first : ℕ} {seen : SeenCapsule} {old new : Heap} → IsKind (old.blocks object) kinds.Object →
    HasWord (old.blocks object) 3 first → first ≢ 0 → SeesCapsule (old.blocks first) seen →
    DiscardsSpot sides.Headers object 0 first seen.next old new → DiscardsCapsule first_header without_header object old new
discards_header {object} {first} {seen} {old} {new} kind h nz v d = record {
  kind = kind;
  discards = λ row k.
      let f = first_is k h nz in
      let n = next_is old.blocks v f.at_first (spot_keeps sides.Headers k (first_spot f)) in
      let done = d.discards row [] f.one f.behind k (record { whole = f.whole; at_previous = refl; at_next = n }) f.at_first in
      subst (λ (rows : List CapsuleRow). DiscardsOne object row (slice_get rows 0) (record row { headers = drop 1 rows }) old new)
      (sym f.whole) done;
}

-- or there is none
pub no_header : {object first : ℕ} {heap : Heap} → IsKind (heap.blocks object) kinds.Object →
    HasWord (heap.blocks object) 3 first → first ≡ 0 → LacksCapsule first_header object heap
no_header {first = first} kind h z = record {
  kind = kind;
  none = λ row k.
      let c = headers_from k h in
      let none = none_at_zero CapsuleFits capsule_addr capsule_block c [] row.headers refl c.at_first z in
      ap (λ (rows : List CapsuleRow). slice_get rows 0) none;
}

-- the one that is picked, and its address
pub record Picked (picks : ObjectRow → Option CapsuleRow) (row : ObjectRow) (gone : ℕ) : Type 0 where
  pub capsule : CapsuleRow
  pub is : picks row ≡ Some capsule
  pub at_gone : gone ≡ capsule.addr

-- why it doesn't go
pub picked_stops : (picks : ObjectRow → Option CapsuleRow) (object gone : ℕ) (old new : Heap) (stop : Stop) →
    IsKind (old.blocks object) kinds.Object → ((row : ObjectRow) → KeepsObject old.blocks object row → Picked picks row gone) →
    SpotStops gone old new stop → DiscardStops picks object old new stop
picked_stops picks object gone old new (Refused (refusals.LogFull lines room)) kind pick s = record {
  kind = kind;
  gave = λ row k.
      let p = pick row k in
      subst (λ (o : Option CapsuleRow). GaveOne o old new) (sym p.is)
      (subst (λ a. GaveSome (a ∷ []) old new) p.at_gone s);
}
picked_stops picks object gone old new (Refused refusal) kind pick s = absurd s
picked_stops picks object gone old new DiskFault kind pick s = s
picked_stops picks object gone old new MediaFault kind pick s = s
picked_stops picks object gone old new Failed kind pick s = s

pub header_picked : {blocks : Blocks} {object first : ℕ} → HasWord (blocks object) 3 first → first ≢ 0 → (row : ObjectRow) →
    KeepsObject blocks object row → Picked first_header row first
header_picked h nz row k =
    let f = first_is k h nz in
    record { capsule = f.one; is = ap (λ (rows : List CapsuleRow). slice_get rows 0) f.whole; at_gone = f.at_first }

-- the last of some trailers
last_picked : (before : List CapsuleRow) (c : CapsuleRow) →
    slice_get (before ++ (c ∷ [])) (length (before ++ (c ∷ [])) - 1) ≡ Some c
last_picked before c =
    let l = length-append before (c ∷ []) in
    let i : length (before ++ (c ∷ [])) - 1 ≡ length before = omega (arith, l) in
    ap (slice_get (before ++ (c ∷ []))) i
    ∙ slice_get-get_or (before ++ (c ∷ [])) (length before) c (omega (arith, l))
    ∙ ap (λ (x : CapsuleRow). Some x) (get_or-append_seam before c [] c)

last_cut : (before : List CapsuleRow) (c : CapsuleRow) → take (length (before ++ (c ∷ [])) - 1) (before ++ (c ∷ [])) ≡ before
last_cut before c =
    let l = length-append before (c ∷ []) in
    let i : length (before ++ (c ∷ [])) - 1 ≡ length before = omega (arith, l) in
    ap (λ n. take n (before ++ (c ∷ []))) i ∙ take-append_seam before (c ∷ [])

pub trailer_picked : {blocks : Blocks} {object first : ℕ} (last : Last) → HasWord (blocks object) 5 first → FindsLast blocks first last →
    (row : ObjectRow) → KeepsObject blocks object row → Picked last_trailer row last.addr
trailer_picked last h f row k =
    let l = f.finds row.trailers (trailers_from k h) in
    record {
      capsule = l.capsule;
      is = ap (λ (rows : List CapsuleRow). slice_get rows (length rows - 1)) l.whole ∙ last_picked l.before l.capsule;
      at_gone = l.at_addr;
    }

pub last_there : {blocks : Blocks} {object first : ℕ} (last : Last) → SomeObject blocks object → HasWord (blocks object) 5 first →
    FindsLast blocks first last → SomeCapsule (blocks last.addr)
last_there {blocks} last q h f =
    let l = f.finds q.row.trailers (trailers_from q.keeps h) in
    subst (λ a. SomeCapsule (blocks a)) (sym l.at_addr)
    (record {
      next = 0;
      capsule = l.capsule;
      keeps = capsule_spot (trailers_from q.keeps h) l.before l.capsule [] l.whole;
    })

pub last_gone : {blocks : Blocks} {object first : ℕ} {seen : SeenCapsule} (last : Last) → SomeObject blocks object →
    HasWord (blocks object) 5 first → FindsLast blocks first last → SeesCapsule (blocks last.addr) seen →
    SomeSpot sides.Trailers blocks object last.previous last.addr seen.next
last_gone {blocks} last q h f v =
    let l = f.finds q.row.trailers (trailers_from q.keeps h) in
    record {
      row = q.row;
      before = l.before;
      capsule = l.capsule;
      behind = [];
      keeps = q.keeps;
      spot = record {
        whole = l.whole;
        at_previous = l.at_previous;
        at_next = next_is blocks v l.at_addr (capsule_spot (trailers_from q.keeps h) l.before l.capsule [] l.whole);
      };
      at_gone = l.at_addr;
    }

-- the last trailer went
pub discards_trailer : {object first : ℕ} {seen : SeenCapsule} {old new : Heap} (last : Last) → IsKind (old.blocks object) kinds.Object →
    HasWord (old.blocks object) 5 first → FindsLast old.blocks first last → SeesCapsule (old.blocks last.addr) seen →
    DiscardsSpot sides.Trailers object last.previous last.addr seen.next old new →
    DiscardsCapsule last_trailer without_trailer object old new
discards_trailer {object} {first} {seen} {old} {new} last kind h f v d = record {
  kind = kind;
  discards = λ row k.
      let l = f.finds row.trailers (trailers_from k h) in
      let n = next_is old.blocks v l.at_addr (capsule_spot (trailers_from k h) l.before l.capsule [] l.whole) in
      let picked : last_trailer row ≡ Some l.capsule =
      ap (λ (rows : List CapsuleRow). slice_get rows (length rows - 1)) l.whole ∙ last_picked l.before l.capsule in
      let done = d.discards row l.before l.capsule [] k (record { whole = l.whole; at_previous = l.at_previous; at_next = n }) l.at_addr in
      let cut : take (length row.trailers - 1) row.trailers ≡ l.before ++ [] =
      ap (λ (rows : List CapsuleRow). take (length rows - 1) rows) l.whole ∙ last_cut l.before l.capsule ∙ sym (append-nil l.before) in
      subst (λ (o : Option CapsuleRow). DiscardsOne object row o (without_trailer row) old new) (sym picked)
      (subst (λ (rows : List CapsuleRow). Discarded object row (record row { trailers = rows }) l.capsule old new) (sym cut) done);
}

-- or there is none
pub no_trailer : {object first : ℕ} {heap : Heap} → IsKind (heap.blocks object) kinds.Object → HasWord (heap.blocks object) 5 first →
    first ≡ 0 → LacksCapsule last_trailer object heap
no_trailer {first = first} kind h z = record {
  kind = kind;
  none = λ row k.
      let c = trailers_from k h in
      let none = none_at_zero CapsuleFits capsule_addr capsule_block c [] row.trailers refl c.at_first z in
      ap (λ (rows : List CapsuleRow). slice_get rows (length rows - 1)) none;
}

-- the chain of the trailers is there
pub trailers_there : {blocks : Blocks} {object first : ℕ} → SomeObject blocks object → HasWord (blocks object) 5 first → SomeCapsules blocks first
trailers_there q h = record { rows = _; is = trailers_from q.keeps h }
