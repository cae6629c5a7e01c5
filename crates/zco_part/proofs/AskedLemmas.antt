-- What of an object is asked for, and what it charges.
use Rattle.std.proofs.Common.{◌≡◌, ◌+◌, ◌*◌, ◌≤◌, ◌<◌, ◌^◌, ℕ, List, ◌∷◌, ◌++◌, sym, ap, ◌∙◌, arith, subst, append_assoc}
use Rattle.sdr_base.specs.Blocks.{Blocks, IsKind}
use Rattle.sdr_base.specs.Entries.{Entries, BlocksAre}
use Rattle.sdr_base.specs.Linked.{first_of}
use Rattle.sdr_base.specs.Objects.{Heap, Misses, OnlyFault}
use Rattle.sdr_base.specs.Words.{HasWord}
use Rattle.sdr_base.specs.ZcoObjects.{ExtentRow, ObjectRow, capsule_entries, extent_addr, extent_entries, object_block, object_entries}
use Rattle.sdr_base.specs.declared.account.Acct.{Acct}
use Rattle.sdr_base.specs.declared.account.Amounts.{Amounts}
use Rattle.sdr_base.specs.declared.kind.Kind.TheVariants as kinds
use Rattle.sdr_base.specs.declared.refusal.Refusal.TheVariants as refusals
use Rattle.sdr_base.specs.declared.stop.Stop.{Stop}
use Rattle.sdr_base.specs.declared.stop.Stop.TheVariants.{Refused, DiskFault, MediaFault, Failed}
use Rattle.sdr_base.proofs.StandingLemmas.{moved}
use Rattle.sdr_model.specs.declared.accounts.Ticket.{Ticket}
use Rattle.zco_acct.specs.Charges.{ChargesAccount, ChargeStops}
use Rattle.zco_obj.specs.Amounts.{heap_amounts}
use Rattle.zco_obj.specs.Gone.{NamedSource}
use Rattle.zco_obj.specs.Kept.{KeepsObject, SomeObject, SomeWithQueue}
use Rattle.zco_obj.specs.Walks.{ExtentsAt, SomeExtents}
use Rattle.zco_obj.proofs.ChargeLemmas.{object_of}
use Rattle.zco_obj.proofs.KeptLemmas.{extents_most, object_word}
use Rattle.zco_obj.proofs.PairLemmas.{swapped}
use Rattle.zco_obj.proofs.PartsLemmas.{extents_at}
use Rattle.zco_part.specs.Charging.{CountsPieces, clone_amounts}
use Rattle.zco_part.specs.Cloning.{ChargesClone, CloneStops, HasRange, IsBad, KeepsToClone, SeesAsked, SomeToClone, StopsClone}
use Rattle.zco_part.specs.Copying.{parts}
use Rattle.zco_part.specs.Delimiting.{OfObject}
use Rattle.zco_part.specs.Pieces.{asked, pieces}
use Rattle.zco_part.specs.declared.cloning.Asked.{Asked}

-- the object and its queue
pub kept_object : {heap : Heap} {object : ℕ} {row : ObjectRow} {tickets : List Ticket} {sources : List NamedSource} →
    KeepsToClone heap object row tickets sources → KeepsObject heap.blocks object row
kept_object k = object_of k.beside.keeps

pub some_kept : {heap : Heap} {object offset bytes : ℕ} → SomeToClone heap object offset bytes → SomeObject heap.blocks object
some_kept q = record { row = q.row; keeps = kept_object q.keeps }

pub with_queue : {heap : Heap} {object offset bytes : ℕ} → SomeToClone heap object offset bytes → SomeWithQueue heap object
with_queue q = record { row = q.row; tickets = q.tickets; keeps = q.keeps.beside.keeps }

-- the places that are asked for fit their words
pub asked_fits : {heap : Heap} {object : ℕ} (offset bytes start : ℕ) → SomeToClone heap object offset bytes →
    OfObject (HasRange offset bytes) object heap → HasWord (heap.blocks object) 7 start → start + offset + bytes < 2 ^ 64
asked_fits offset bytes start q r w =
    let k = kept_object q.keeps in
    let a = object_word k 7 start (omega arith) w in
    let i = (r.holds q.row k).within in
    let p = k.fits.part in
    let m = extents_most q.row.extents k.fits.extents in
    let n = k.fits.few in omega (arith, a, i, p, m, n)

-- what was read is asked for
pub sees_asked : {blocks : Blocks} {object : ℕ} (offset bytes first start : ℕ) → HasWord (blocks object) 1 first → HasWord (blocks object) 7 start →
    SeesAsked blocks object offset bytes (record { first = first; span = record { from = start + offset; to = start + offset + bytes } })
sees_asked offset bytes first start f s = record {
  first = λ row k. object_word k 1 first (omega arith) f;
  from = λ row k. ap (λ n. n + offset) (object_word k 7 start (omega arith) s);
  to = λ row k. ap (λ n. n + offset + bytes) (object_word k 7 start (omega arith) s);
}

-- the pieces that are asked for
pub same_parts : {blocks : Blocks} {object offset bytes : ℕ} (seen : Asked) → SeesAsked blocks object offset bytes seen → {row : ObjectRow} →
    KeepsObject blocks object row → parts seen.span row.extents ≡ asked offset bytes row
same_parts {offset = offset} {bytes = bytes} seen v {row} k =
    ap (λ n. pieces n seen.span.to row.extents) (v.from row k)
    ∙ ap (λ n. pieces (row.part_offset + offset) n row.extents) (v.to row k)

-- an object is opened at its extents, with what stands behind it in front, and closed
module _ (object : ℕ) (row : ObjectRow) where
  -- its own block and its headers
  abbrev pub head : Entries
  head = (object, object_block row) ∷ capsule_entries row.headers

  abbrev pub tail : Entries
  tail = capsule_entries row.trailers

  whole : (rest : Entries) → object_entries object row ++ rest ≡ head ++ (extent_entries row.extents ++ (tail ++ rest))
  whole rest =
      let H = capsule_entries row.headers in
      let X = extent_entries row.extents in
      ap (λ (es : Entries). (object, object_block row) ∷ es) (append_assoc (H ++ X) tail rest ∙ append_assoc H X (tail ++ rest))

  pub opened : (b : Blocks) (S rest : Entries) → BlocksAre b (object_entries object row ++ (S ++ rest)) →
      BlocksAre b (S ++ (extent_entries row.extents ++ (head ++ (tail ++ rest))))
  opened b S rest s =
      swapped b S head (extent_entries row.extents) (tail ++ rest)
      (subst (λ (es : Entries). BlocksAre b (S ++ es)) (whole rest) (moved (object_entries object row) S rest s))

  pub closed : (b : Blocks) (front S rest : Entries) → BlocksAre b (front ++ (S ++ (extent_entries row.extents ++ (head ++ (tail ++ rest))))) →
      BlocksAre b (front ++ (object_entries object row ++ (S ++ rest)))
  closed b front S rest s =
      let X = extent_entries row.extents in
      let O = object_entries object row in
      swapped b front S O rest
      (subst (λ (es : Entries). BlocksAre b es) (append_assoc front S (O ++ rest))
      (subst (λ (es : Entries). BlocksAre b ((front ++ S) ++ es)) (sym (whole rest))
      (swapped b (front ++ S) X head (tail ++ rest)
      (subst (λ (es : Entries). BlocksAre b es) (sym (append_assoc front S (X ++ (head ++ (tail ++ rest))))) s))))

-- its extents are a chain
pub extents_there : {heap : Heap} {object first : ℕ} {row : ObjectRow} {tickets : List Ticket} {sources : List NamedSource} →
    KeepsToClone heap object row tickets sources → first ≡ first_of extent_addr 0 row.extents → ExtentsAt heap.blocks first row.extents
extents_there {first = first} k e = extents_at (kept_object k) first e

pub some_extents : {heap : Heap} {object offset bytes : ℕ} (seen : Asked) → SomeToClone heap object offset bytes →
    SeesAsked heap.blocks object offset bytes seen → SomeExtents heap.blocks seen.first
some_extents seen q v = record { rows = q.row.extents; is = extents_there q.keeps (v.first q.row (kept_object q.keeps)) }

-- what is charged for so many extents
charge_is : {blocks : Blocks} (seen : Asked) {count : ℕ} → CountsPieces blocks seen.first seen.span.from seen.span.to count → (all : Amounts)
    (xs : List ExtentRow) → ExtentsAt blocks seen.first xs → all ≡ heap_amounts (72 + 32 * count) → all ≡ clone_amounts (parts seen.span xs)
charge_is seen t all xs c e = e ∙ ap (λ n. heap_amounts (72 + 32 * n)) (t.counts xs c)

module _ {acct : Acct} {number : ℕ} (seen : Asked) {old : Heap} {count : ℕ}
    (t : CountsPieces old.blocks seen.first seen.span.from seen.span.to count) where
  pub charges_clone : (all : Amounts) {new : Heap} → all ≡ heap_amounts (72 + 32 * count) → ChargesAccount acct number all old new →
      ChargesClone acct number seen old new
  charges_clone all {new} e c = record {
    charges = λ xs b. subst (λ a. ChargesAccount acct number a old new) (charge_is seen t all xs b e) c;
  }

  pub stops_clone : (all : Amounts) (new : Heap) (stop : Stop) → all ≡ heap_amounts (72 + 32 * count) →
      ChargeStops acct number all old new stop → StopsClone acct number seen old new stop
  stops_clone all new stop e c = record {
    stops = λ xs b. subst (λ a. ChargeStops acct number a old new stop) (charge_is seen t all xs b e) c;
  }

-- a fault is none of the account's causes
fault_stops : (acct : Acct) (number : ℕ) (amounts : Amounts) (old new : Heap) (stop : Stop) → OnlyFault stop →
    ChargeStops acct number amounts old new stop
fault_stops acct number amounts old new (Refused refusal) f = absurd f
fault_stops acct number amounts old new DiskFault f = f
fault_stops acct number amounts old new MediaFault f = f
fault_stops acct number amounts old new Failed f = f

pub fault_clone : (acct : Acct) (number : ℕ) (seen : Asked) (old new : Heap) (stop : Stop) → OnlyFault stop →
    StopsClone acct number seen old new stop
fault_clone acct number seen old new stop f = record {
  stops = λ xs b. fault_stops acct number (clone_amounts (parts seen.span xs)) old new stop f;
}

-- the object isn't there
pub missed : (object number offset bytes : ℕ) (old new : Heap) (stop : Stop) → Misses (old.blocks object) object kinds.Object stop → new ≡ old →
    CloneStops object number offset bytes old new stop
missed object number offset bytes old new (Refused (refusals.BadAddress bad)) m same = (m, same)
missed object number offset bytes old new (Refused (refusals.WrongKind bad kind)) m same = (m, same)
missed object number offset bytes old new (Refused refusal) m same = absurd m
missed object number offset bytes old new DiskFault m same = m
missed object number offset bytes old new MediaFault m same = m
missed object number offset bytes old new Failed m same = m

-- the length of its part
have_is : {blocks : Blocks} {object have : ℕ} {row : ObjectRow} → HasWord (blocks object) 8 have → KeepsObject blocks object row →
    have ≡ row.part_length
have_is {have = have} w k = object_word k 8 have (omega arith) w

-- or its part hasn't the bytes
module _ (object offset bytes have : ℕ) (old : Heap) (is : IsKind (old.blocks object) kinds.Object)
    (w : HasWord (old.blocks object) 8 have) where
  pub lacks_range : (number : ℕ) (new : Heap) (stop : Stop) → IsBad offset bytes have stop → new ≡ old →
      CloneStops object number offset bytes old new stop
  lacks_range number new (Refused (refusals.BadRange at count most)) b same = (
    record {
      kind = is;
      holds = λ row k. subst (λ n. IsBad offset bytes n (Refused (refusals.BadRange at count most))) (have_is w k) b;
    },
    same,
  )
  lacks_range number new (Refused refusal) b same = absurd b
  lacks_range number new DiskFault b same = absurd b
  lacks_range number new MediaFault b same = absurd b
  lacks_range number new Failed b same = absurd b

  pub has_range : 1 ≤ bytes → offset + bytes ≤ have → OfObject (HasRange offset bytes) object old
  has_range some within = record {
    kind = is;
    holds = λ row k. record { some = some; within = subst (λ n. offset + bytes ≤ n) (have_is w k) within };
  }
