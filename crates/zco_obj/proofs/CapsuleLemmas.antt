-- A header or trailer comes after its charge, or it doesn't.
use Rattle.std.proofs.Common.{◌≤◌, ◌+◌, ℕ, List, [], length, refl, sym, arith, append-nil}
use Rattle.sdr_base.specs.Blocks.{IsKind}
use Rattle.sdr_base.specs.Objects.{Heap, OnlyShort}
use Rattle.sdr_base.specs.Words.{HasWord}
use Rattle.sdr_base.specs.declared.kind.Kind.TheVariants as kinds
use Rattle.sdr_base.specs.declared.refusal.Refusal.TheVariants as refusals
use Rattle.sdr_base.specs.declared.stop.Stop.{Stop}
use Rattle.sdr_base.specs.declared.stop.Stop.TheVariants.{Refused, DiskFault, MediaFault, Failed}
use Rattle.zco_obj.specs.Amounts.{capsule_amounts}
use Rattle.zco_obj.specs.Capsules.{AddsCapsule, CapsuleAllowed, CapsuleStops, ChargesCapsule, IsCapsuleLength, with_header, with_trailer}
use Rattle.zco_obj.specs.Chains.{InsertsCapsule, SomeGap}
use Rattle.zco_obj.specs.Charging.{LacksRoom, ObjectChargeStops}
use Rattle.zco_obj.specs.Kept.{SomeWithQueue}
use Rattle.zco_obj.specs.declared.linking.Side.TheVariants as sides
use Rattle.zco_obj.proofs.CauseLemmas.{object_cause}
use Rattle.zco_obj.proofs.ChargeLemmas.{charged_moves, charged_spare, free_before, lacks_after, none_took, pays, queue_of, still_kept}
use Rattle.zco_obj.proofs.KeptLemmas.{object_word}

-- why none comes: its account isn't charged
pub uncharged_stops : (object number : ℕ) (text : List ℕ) (old new : Heap) (stop : Stop) → SomeWithQueue old object →
    IsKind (old.blocks object) kinds.Object → IsCapsuleLength (length text) →
    ObjectChargeStops object number (λ acct. capsule_amounts text) old new stop → CapsuleStops object number text old new stop
uncharged_stops object number text old new (Refused (refusals.BadAddress bad)) q k f s = absurd (object_cause number (λ acct. capsule_amounts text) q s.0)
uncharged_stops object number text old new (Refused (refusals.WrongKind bad kind)) q k f s = absurd (object_cause number (λ acct. capsule_amounts text) q s.0)
uncharged_stops object number text old new (Refused (refusals.BadLength bad most)) q k f s = absurd (object_cause number (λ acct. capsule_amounts text) q s.0)
uncharged_stops object number text old new (Refused (refusals.NoBlock missing)) q k f s = absurd (object_cause number (λ acct. capsule_amounts text) q s.0)
uncharged_stops object number text old new (Refused (refusals.LogFull lines room)) q k f s = (record { kind = k; fits = f; allows = s.0 }, none_took (8 + length text) s.1)
uncharged_stops object number text old new (Refused refusal) q k f s =
    (record { kind = k; fits = f; refuses = s.0 }, s.1)
uncharged_stops object number text old new DiskFault q k f s = s
uncharged_stops object number text old new MediaFault q k f s = s
uncharged_stops object number text old new Failed q k f s = s

-- or there is no room for it then
pub roomless_stops : (object number : ℕ) (text : List ℕ) (old mid new : Heap) (stop : Stop) → SomeWithQueue old object →
    ChargesCapsule object number text old mid → OnlyShort (8 + length text) mid new stop → CapsuleStops object number text old new stop
roomless_stops object number text old mid new stop q c s =
    by stop (lacks_after (8 + length text) old mid new stop (charged_moves (c.charged.charges q.row q.tickets q.keeps) (queue_of q.keeps))
    (charged_spare (c.charged.charges q.row q.tickets q.keeps) (queue_of q.keeps)) s)
  where
    allowed : CapsuleAllowed object number text old
    allowed = record {
      kind = c.kind;
      fits = c.fits;
      allows = record { allows = λ row tickets k. (c.charged.charges row tickets k).allows.none tickets (queue_of k) };
    }

    by : (stop : Stop) → LacksRoom (8 + length text) old new stop → CapsuleStops object number text old new stop
    by (Refused (refusals.BadAddress bad)) l = absurd l
    by (Refused (refusals.WrongKind bad kind)) l = absurd l
    by (Refused (refusals.BadLength bad most)) l = absurd l
    by (Refused (refusals.NoBlock missing)) l = (allowed, l)
    by (Refused (refusals.LogFull lines room)) l = (allowed, l)
    by (Refused refusal) l = absurd l
    by DiskFault l = l
    by MediaFault l = l
    by Failed l = l

-- what is read of an object that is there
pub spare_after : {object number : ℕ} {text : List ℕ} {old mid : Heap} → SomeWithQueue old object →
    ChargesCapsule object number text old mid → 1 ≤ old.spare → 1 ≤ mid.spare
spare_after q c le =
    let e = charged_spare (c.charged.charges q.row q.tickets q.keeps) (queue_of q.keeps) in omega (arith, e, le)

-- the place of a new first header
pub header_gap : {object number first : ℕ} {text : List ℕ} {old mid : Heap} → SomeWithQueue old object →
    ChargesCapsule object number text old mid → HasWord (mid.blocks object) 3 first → SomeGap sides.Headers mid.blocks object 0 first
header_gap {first = first} q c h =
    let k = still_kept c.charged q.keeps in
    record {
      row = q.row;
      before = [];
      behind = q.row.headers;
      keeps = k;
      gap = record { whole = refl; at_previous = refl; at_next = object_word k 3 first (omega arith) h };
    }

-- the place of a new last trailer
pub trailer_gap : {object number last : ℕ} {text : List ℕ} {old mid : Heap} → SomeWithQueue old object →
    ChargesCapsule object number text old mid → HasWord (mid.blocks object) 6 last → SomeGap sides.Trailers mid.blocks object last 0
trailer_gap {last = last} q c h =
    let k = still_kept c.charged q.keeps in
    record {
      row = q.row;
      before = q.row.trailers;
      behind = [];
      keeps = k;
      gap = record { whole = sym (append-nil q.row.trailers); at_previous = object_word k 6 last (omega arith) h; at_next = refl };
    }

-- a header came
pub adds_header : {object number first addr : ℕ} {text : List ℕ} {old mid new : Heap} → SomeWithQueue old object →
    ChargesCapsule object number text old mid → HasWord (mid.blocks object) 3 first →
    InsertsCapsule sides.Headers object 0 first text mid new addr → AddsCapsule with_header object number text old new
adds_header {object} {number} {first} {addr} {text} {old} {mid} {new} q c h i = record {
  kind = c.kind;
  fits = c.fits;
  addr = addr;
  new_block =
      free_before (c.charged.charges q.row q.tickets q.keeps) (queue_of q.keeps) i.new_block.nonzero i.new_block.small i.new_block.free;
  pays = λ row tickets k.
      let z = still_kept c.charged k in
      pays (c.charged.charges row tickets k) (queue_of k)
      (i.changes row [] row.headers
      (record { whole = refl; at_previous = refl; at_next = object_word z 3 first (omega arith) h })) i.made;
}

-- a trailer came
pub adds_trailer : {object number last addr : ℕ} {text : List ℕ} {old mid new : Heap} → SomeWithQueue old object →
    ChargesCapsule object number text old mid → HasWord (mid.blocks object) 6 last →
    InsertsCapsule sides.Trailers object last 0 text mid new addr → AddsCapsule with_trailer object number text old new
adds_trailer {object} {number} {last} {addr} {text} {old} {mid} {new} q c h i = record {
  kind = c.kind;
  fits = c.fits;
  addr = addr;
  new_block =
      free_before (c.charged.charges q.row q.tickets q.keeps) (queue_of q.keeps) i.new_block.nonzero i.new_block.small i.new_block.free;
  pays = λ row tickets k.
      let z = still_kept c.charged k in
      pays (c.charged.charges row tickets k) (queue_of k)
      (i.changes row row.trailers []
      (record { whole = sym (append-nil row.trailers); at_previous = object_word z 6 last (omega arith) h; at_next = refl })) i.made;
}
