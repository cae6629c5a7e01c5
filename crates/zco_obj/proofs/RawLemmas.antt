-- A raw object beside an object, and where it stands once a source names it.
use Rattle.std.proofs.Common.{◌≡◌, ◌≤◌, ℕ, List, ◌++◌, None, Some, refl, sym, ◌∙◌, arith, subst}
use Rattle.std.specs.Prelude.{Option}
use Rattle.sdr_base.specs.Blocks.{Block, Blocks, IsKind, IsOther}
use Rattle.sdr_base.specs.Entries.{Entries, BlocksAre, times}
use Rattle.sdr_base.specs.Objects.{Heap}
use Rattle.sdr_base.specs.Raws.{raw_block, raw_entries}
use Rattle.sdr_base.specs.ZcoObjects.{ObjectRow, object_entries}
use Rattle.sdr_base.specs.declared.account.Acct.{Acct}
use Rattle.sdr_base.specs.declared.account.Acct.TheVariants as accts
use Rattle.sdr_base.specs.declared.kind.Kind.TheVariants as kinds
use Rattle.sdr_base.specs.declared.refusal.Refusal.TheVariants as refusals
use Rattle.sdr_base.specs.declared.stop.Stop.{Stop}
use Rattle.sdr_base.specs.declared.stop.Stop.TheVariants.{Refused, DiskFault, MediaFault, Failed}
use Rattle.sdr_base.proofs.StandingLemmas.{at-nowhere, found, nowhere-at, times-append}
use Rattle.sdr_model.specs.declared.accounts.Ticket.{Ticket}
use Rattle.zco_acct.specs.Kept.{queue_entries}
use Rattle.zco_obj.specs.Appending.{taking_over}
use Rattle.zco_obj.specs.AppendStops.{RawPieceStops}
use Rattle.zco_obj.specs.Beside.{IsWithRaw, KeepsWithRaw}
use Rattle.zco_obj.specs.declared.extent.ExtentPiece.{ExtentPiece}
use Rattle.zco_obj.proofs.SourceStopLemmas.{beside_stands}
use Rattle.zco_ref.specs.Kept.{IsRaw, KeepsRaw, count_in}
use Rattle.zco_ref.specs.Naming.{RawStops}

-- the raw object that stands beside is kept
pub raw_beside : {heap : Heap} {object : ℕ} {row : ObjectRow} {tickets : List Ticket} {raw named_by : ℕ} {bytes : List ℕ} →
    KeepsWithRaw heap object row tickets raw named_by bytes → KeepsRaw (heap.blocks raw) named_by bytes
raw_beside {heap} {object} {row} {tickets} {raw} {named_by} {bytes} k = record {
  block = found heap.blocks raw (raw_block named_by bytes) (object_entries object row ++ queue_entries row.account tickets) _
      (beside_stands k.beside);
  small = k.small;
}

-- a raw object that is there is kept together with its source
pub is_raw : {heap : Heap} {object raw : ℕ} → IsKind (heap.blocks object) kinds.Object → IsWithRaw heap object raw → IsRaw heap.blocks raw
is_raw is w kind =
    let q = w is kind in
    record { named_by = q.named_by; bytes = q.bytes; keeps = raw_beside q.keeps; named = q.keeps.named }

-- why none is appended: for its address, or since a source names it
pub address_stops : (object number : ℕ) (piece : ExtentPiece) (old new : Heap) (stop : Stop) → IsKind (old.blocks object) kinds.Object →
    (IsKind (old.blocks piece.of) kinds.Source → ⊥) → RawStops old.blocks piece.of stop → new ≡ old →
    RawPieceStops object number piece old new stop
address_stops object number piece old new (Refused (refusals.BadAddress bad)) is other r same =
    (record { is_object = is; other = other; stops = r }, same)
address_stops object number piece old new (Refused (refusals.WrongKind bad kind)) is other r same =
    (record { is_object = is; other = other; stops = r }, same)
address_stops object number piece old new (Refused (refusals.InUse bad count)) is other r same =
    (record { is_object = is; other = other; stops = r }, same)
address_stops object number piece old new (Refused refusal) is other r same = absurd r
address_stops object number piece old new DiskFault is other r same = r
address_stops object number piece old new MediaFault is other r same = r
address_stops object number piece old new Failed is other r same = r

-- it is there, and it is a raw object
pub none_some : {x : Block} → None ≡ Some x → ⊥
none_some e = cc

pub other_kind : (o : Option Block) (bytes : List ℕ) (number : ℕ) → o ≡ Some (raw_block 0 bytes) → IsOther o kinds.Raw number → ⊥
other_kind o bytes number e i = (subst (λ (p : Option Block). IsOther p kinds.Raw number) e i).1 refl

-- no extent names a new source
pub count_none : (acct : Acct) (raw : ℕ) (bytes : List ℕ) → count_in acct (taking_over raw bytes) ≡ 0
count_none accts.Inbound raw bytes = refl
count_none accts.Outbound raw bytes = refl

-- where nothing stands now, nothing stood before, if no less stood
pub none_before : (b b' : Blocks) (es es' : Entries) (p : ℕ) → BlocksAre b es → BlocksAre b' es' → times p es ≤ times p es' → b' p ≡ None → b p ≡ None
none_before b b' es es' p s s' le e =
    let none = nowhere-at p es' (sym (s'.same p) ∙ e) in s.same p ∙ at-nowhere p es (omega (arith, none, le))

pub times-raw : (p raw source : ℕ) (bytes : List ℕ) → times p (raw_entries raw 0 bytes) ≡ times p (raw_entries raw source bytes)
unfolding times
times-raw p raw source bytes = refl

-- a raw object stands where it stood, once a source names it
pub more_stands : (p raw source : ℕ) (bytes : List ℕ) (xs ys rest : Entries) →
    times p (xs ++ (raw_entries raw 0 bytes ++ rest)) ≤ times p (xs ++ (ys ++ (raw_entries raw source bytes ++ rest)))
more_stands p raw source bytes xs ys rest =
    let a = times-append p xs (raw_entries raw 0 bytes ++ rest) in
    let b = times-append p xs (ys ++ (raw_entries raw source bytes ++ rest)) in
    let c = times-append p ys (raw_entries raw source bytes ++ rest) in
    let d = times-append p (raw_entries raw 0 bytes) rest in
    let e = times-append p (raw_entries raw source bytes) rest in
    let f = times-raw p raw source bytes in omega (arith, a, b, c, d, e, f)
