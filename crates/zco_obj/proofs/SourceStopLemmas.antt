-- A part of a source is appended after its charge, or it isn't.
use Rattle.std.proofs.Common.{◌≡◌, ◌≤◌, ◌^◌, ℕ, List, ◌++◌, false, true, Some, refl, sym, ap, ◌∙◌, arith, subst, append_assoc}
use Rattle.std.specs.Prelude.{◌==◌, Option, if◌then◌else◌}
use Rattle.sdr_base.specs.Blocks.{Block, IsKind}
use Rattle.sdr_base.specs.Entries.{Entries, BlocksAre}
use Rattle.sdr_base.specs.Objects.{Heap, OnlyShort}
use Rattle.sdr_base.specs.ZcoObjects.{ObjectRow, object_block, object_entries}
use Rattle.sdr_base.specs.declared.account.Acct.{Acct}
use Rattle.sdr_base.specs.declared.account.Amounts.{Amounts}
use Rattle.sdr_base.specs.declared.kind.Kind.TheVariants as kinds
use Rattle.sdr_base.specs.declared.refusal.Refusal.{Refusal}
use Rattle.sdr_base.specs.declared.refusal.Refusal.TheVariants as refusals
use Rattle.sdr_base.specs.declared.stop.Stop.{Stop}
use Rattle.sdr_base.specs.declared.stop.Stop.TheVariants.{Refused, DiskFault, MediaFault, Failed}
use Rattle.sdr_base.proofs.StandingLemmas.{found}
use Rattle.sdr_model.specs.declared.accounts.Ticket.{Ticket}
use Rattle.zco_acct.specs.Charges.{ChargesAccount, ChargeStops}
use Rattle.zco_acct.specs.Kept.{queue_entries}
use Rattle.zco_acct.specs.Refusals.{Refuses}
use Rattle.zco_obj.specs.Amounts.{extent_amounts, heap_amounts, naming_amounts, use_amounts}
use Rattle.zco_obj.specs.Appending.{AppendsSource, IsWithin, MayName, NamesSource, OfSource}
use Rattle.zco_obj.specs.AppendStops.{RangeRefused, SourceAllowed, SourceStops}
use Rattle.zco_obj.specs.Beside.{KeepsBeside, KeepsWithSource, SomePair, SomeWithSource}
use Rattle.zco_obj.specs.Charging.{ChargesObject, LacksRoom, ObjectChargeStops, refusal_in}
use Rattle.zco_obj.specs.Kept.{SomeWithQueue}
use Rattle.zco_obj.specs.Reading.{Tells}
use Rattle.zco_obj.specs.Sources.{SeesSource}
use Rattle.zco_obj.specs.declared.extent.ExtentPiece.{ExtentPiece}
use Rattle.zco_obj.specs.declared.seeing.SeenSource.{SeenSource}
use Rattle.zco_obj.proofs.CauseLemmas.{IsCause, queue_cause}
use Rattle.zco_obj.proofs.ChargeLemmas.{charge_stops, charged_moves, charged_spare, charges_object, free_before, lacks_after, none_took, object_of, pays, queue_of, some_queue}
use Rattle.zco_obj.proofs.KeptLemmas.{object_found}
use Rattle.zco_obj.proofs.PairLemmas.{pair_still}
use Rattle.zco_obj.proofs.SourceLemmas.{naming_read}
use Rattle.zco_ref.specs.Counting.{CountsIn}
use Rattle.zco_ref.specs.Kept.{CountedSource, KeepsSource, SomeSource, counted_block}

-- a block that is there is of its kind
pub of_kind : (o : Option Block) (x : Block) → o ≡ Some x → IsKind o x.kind
of_kind o x e = subst (λ (p : Option Block). IsKind p x.kind) (sym e) refl

-- what stands beside an object and its queue
pub beside_stands : {heap : Heap} {object : ℕ} {row : ObjectRow} {tickets : List Ticket} {es : Entries}
    (k : KeepsBeside heap object row tickets es) →
    BlocksAre heap.blocks ((object_entries object row ++ queue_entries row.account tickets) ++ (es ++ k.behind))
beside_stands {heap} {object} {row} {tickets} {es} k =
    let O = object_entries object row in
    let Q = queue_entries row.account tickets in
    subst (λ (xs : Entries). BlocksAre heap.blocks xs) (sym (append_assoc O Q (es ++ k.behind)))
    (subst (λ (rest : Entries). BlocksAre heap.blocks (O ++ (Q ++ rest))) k.whole k.keeps.stands)

-- the object's block is of its kind
pub object_kind : {heap : Heap} {object : ℕ} → SomeWithQueue heap object → IsKind (heap.blocks object) kinds.Object
object_kind {heap} {object} q = of_kind (heap.blocks object) (object_block q.row) (object_found (object_of q.keeps))

-- the source that stands beside is kept
pub source_beside : {heap : Heap} {object : ℕ} {row : ObjectRow} {tickets : List Ticket} {addr : ℕ} {source : CountedSource} →
    KeepsWithSource heap object row tickets addr source → KeepsSource (heap.blocks addr) source
source_beside {heap} {object} {row} {tickets} {addr} {source} k = record {
  block = found heap.blocks addr (counted_block source) (object_entries object row ++ queue_entries row.account tickets) _
      (beside_stands k.beside);
  fits = k.fits;
}

module _ {heap : Heap} {object addr : ℕ} (q : SomeWithSource heap object addr) where
  pub queue_there : SomeWithQueue heap object
  queue_there = record { row = q.row; tickets = q.tickets; keeps = q.keeps.beside.keeps }

  pub source_there : SomeSource (heap.blocks addr)
  source_there = record { source = q.source; keeps = source_beside q.keeps }

  -- what holds of whichever source is kept
  pub of_source : (P : CountedSource → Type 0) → ((source : CountedSource) → KeepsSource (heap.blocks addr) source → P source) →
      OfSource P object addr heap
  of_source P holds = record {
    is_object = object_kind queue_there;
    is_source = of_kind (heap.blocks addr) (counted_block q.source) (source_beside q.keeps).block;
    holds = holds;
  }

-- for as many moves there is room once an object's account was charged
pub object_spare : {object number : ℕ} {amounts : Acct → Amounts} {old mid : Heap} → SomeWithQueue old object →
    ChargesObject object number amounts old mid → mid.spare ≡ old.spare
object_spare q c = charged_spare (c.charges q.row q.tickets q.keeps) (queue_of q.keeps)

module _ {object : ℕ} (number : ℕ) {old : Heap} (piece : ExtentPiece) (seen : SeenSource) (q : SomeWithSource old object piece.of)
    (v : SeesSource (old.blocks piece.of) seen) where
  -- its bytes are few
  pub source_short : seen.bytes ≤ 2 ^ 40
  source_short = let e = (v.sees q.source (source_beside q.keeps)).bytes in let s = q.keeps.short in omega (arith, e, s)

  -- so are those of a piece of it
  pub piece_short : IsWithin piece seen.bytes → piece.bytes ≤ 2 ^ 40
  piece_short w = let s = source_short in let i = w.within in omega (arith, s, i)

  -- it is flagged
  pub flagged_stops : (new : Heap) → seen.flagged ≡ true → new ≡ old → SourceStops object number piece old new (Refused refusals.NotFound)
  flagged_stops new flagged same = (of_source q (λ s. s.row.flagged ≡ true) (λ s k. sym (v.sees s k).flagged ∙ flagged), same)

  module _ (free : seen.flagged ≡ false) where
    -- or has not the bytes
    pub range_stops : (new : Heap) (stop : Stop) → RangeRefused piece seen.bytes stop → new ≡ old →
        SourceStops object number piece old new stop
    range_stops new (Refused (refusals.BadRange offset bytes have)) r same = (
      of_source q _ (λ s k. (
        sym (v.sees s k).flagged ∙ free,
        subst (λ n. RangeRefused piece n (Refused (refusals.BadRange offset bytes have))) (v.sees s k).bytes r,
      )),
      same,
    )
    range_stops new (Refused refusal) r same = absurd r
    range_stops new DiskFault r same = absurd r
    range_stops new MediaFault r same = absurd r
    range_stops new Failed r same = absurd r

    -- the account and its count are read, and what is to be charged
    module _ (w : IsWithin piece seen.bytes) {acct : Acct} {count : ℕ} (t : Tells old.blocks object (λ row. row.account) acct)
        (n : CountsIn acct (old.blocks piece.of) count) (amounts : Amounts)
        (e : amounts ≡ (if count == 0 then extent_amounts seen.space seen.bytes else heap_amounts 32)) where
      may_name : (source : CountedSource) → KeepsSource (old.blocks piece.of) source → MayName piece source
      may_name s k = record {
        unflagged = sym (v.sees s k).flagged ∙ free;
        within = subst (IsWithin piece) (v.sees s k).bytes w;
      }

      amounts_are : (source : CountedSource) → KeepsSource (old.blocks piece.of) source → amounts ≡ use_amounts acct source
      amounts_are s k = e ∙ naming_read (count == 0) s seen (v.sees s k) ∙ ap (λ m. naming_amounts (m == 0) s) (n.tells s k)

      stops_for : (source : CountedSource) → KeepsSource (old.blocks piece.of) source → (new : Heap) (stop : Stop) →
          ChargeStops acct number amounts old new stop → ObjectChargeStops object number (λ a. use_amounts a source) old new stop
      stops_for s k new stop c =
          charge_stops object number acct (λ a. use_amounts a s) old new stop t
          (subst (λ (a : Amounts). ChargeStops acct number a old new stop) (amounts_are s k) c)

      cause : {refusal : Refusal} → Refuses old acct (refusal_in old acct number amounts) refusal → IsCause refusal
      cause = queue_cause number amounts (some_queue (queue_there q) t)

      -- or the object's account isn't charged
      pub charge_stopped : (new : Heap) (stop : Stop) → ChargeStops acct number amounts old new stop →
          SourceStops object number piece old new stop
      charge_stopped new (Refused refusals.NotFound) s = absurd (cause s.0)
      charge_stopped new (Refused (refusals.BadRange offset bytes have)) s = absurd (cause s.0)
      charge_stopped new (Refused (refusals.NoBlock missing)) s = absurd (cause s.0)
      charge_stopped new (Refused (refusals.LogFull lines room)) s = (
        of_source q _ (λ source k. record {
          may = may_name source k;
          allows = (stops_for source k new (Refused (refusals.LogFull lines room)) s).0;
        }),
        none_took 32 s.1,
      )
      charge_stopped new (Refused refusal) s = (
        of_source q _ (λ source k. record { may = may_name source k; refuses = (stops_for source k new (Refused refusal) s).0 }),
        s.1,
      )
      charge_stopped new DiskFault s = s
      charge_stopped new MediaFault s = s
      charge_stopped new Failed s = s

      module _ {mid : Heap} (c : ChargesAccount acct number amounts old mid) where
        charges_for : (source : CountedSource) → KeepsSource (old.blocks piece.of) source →
            ChargesObject object number (λ a. use_amounts a source) old mid
        charges_for s k =
            charges_object (λ a. use_amounts a s) t (subst (λ (a : Amounts). ChargesAccount acct number a old mid) (amounts_are s k) c)

        charges_here : ChargesObject object number (λ a. use_amounts a q.source) old mid
        charges_here = charges_for q.source (source_beside q.keeps)

        pub spare_same : mid.spare ≡ old.spare
        spare_same = object_spare (queue_there q) charges_here

        -- both are there once it is
        pub pair_there : SomePair mid.blocks object piece.of
        pair_there = record {
          row = q.row;
          source = q.source;
          keeps = pair_still charges_here q.keeps;
        }

        -- or there is no room for the extent then
        pub room_stops : (new : Heap) (stop : Stop) → OnlyShort 32 mid new stop → SourceStops object number piece old new stop
        room_stops new stop s =
            by stop (lacks_after 32 old mid new stop
            (charged_moves (charges_here.charges q.row q.tickets q.keeps.beside.keeps) (queue_of q.keeps.beside.keeps)) spare_same s)
          where
            may : OfSource (SourceAllowed object number piece old) object piece.of old
            may = of_source q _ (λ source k. record {
              may = may_name source k;
              allows = record {
                allows = λ row tickets kept. ((charges_for source k).charges row tickets kept).allows.none tickets (queue_of kept);
              };
            })

            by : (stop : Stop) → LacksRoom 32 old new stop → SourceStops object number piece old new stop
            by (Refused refusals.NotFound) l = absurd l
            by (Refused (refusals.BadRange offset bytes have)) l = absurd l
            by (Refused (refusals.NoBlock missing)) l = (may, l)
            by (Refused (refusals.LogFull lines room)) l = (may, l)
            by (Refused refusal) l = absurd l
            by DiskFault l = l
            by MediaFault l = l
            by Failed l = l

        -- it is appended
        pub appends_source : {new : Heap} → NamesSource object piece mid new → AppendsSource object number piece old new
        appends_source {new} m = record {
          may = of_source q (MayName piece) may_name;
          addr = m.addr;
          new_block =
              free_before (charges_here.charges q.row q.tickets q.keeps.beside.keeps) (queue_of q.keeps.beside.keeps) m.new_block.nonzero
              m.new_block.small m.new_block.free;
          pays = λ row tickets source k.
              let d = charges_for source (source_beside k) in
              pays (d.charges row tickets k.beside.keeps) (queue_of k.beside.keeps) (m.names row source (pair_still d k)) m.made;
        }
