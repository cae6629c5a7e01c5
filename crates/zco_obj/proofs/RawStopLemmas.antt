-- A part of a raw object is appended, which a source has taken over, or it isn't.
use Rattle.std.proofs.Common.{◌≡◌, ◌-◌, ◌<◌, ◌≤◌, ◌^◌, ℕ, List, [], ◌∷◌, ◌++◌, refl, sym, ap, ◌∙◌, arith, subst, append_assoc}
use Rattle.sdr_base.specs.Blocks.{IsKind}
use Rattle.sdr_base.specs.Entries.{Changes, Entries, BlocksAre}
use Rattle.sdr_base.specs.Objects.{Heap, OnlyShort}
use Rattle.sdr_base.specs.Raws.{raw_block, raw_entries}
use Rattle.sdr_base.specs.Wanting.{OnlyWanting}
use Rattle.sdr_base.specs.ZcoObjects.{ObjectRow, object_entries}
use Rattle.sdr_base.specs.declared.kind.Kind.TheVariants as kinds
use Rattle.sdr_base.specs.declared.kind.Space.TheVariants as spaces
use Rattle.sdr_base.specs.declared.medium.Medium.TheVariants as media
use Rattle.sdr_base.specs.declared.moves.Move.{Move}
use Rattle.sdr_base.specs.declared.moves.Move.TheVariants.{Took}
use Rattle.sdr_base.specs.declared.refusal.Refusal.TheVariants as refusals
use Rattle.sdr_base.specs.declared.stop.Stop.{Stop}
use Rattle.sdr_base.specs.declared.stop.Stop.TheVariants.{Refused, DiskFault, MediaFault, Failed}
use Rattle.sdr_base.proofs.GaveLemmas.{made_then}
use Rattle.sdr_base.proofs.StandingLemmas.{found, moved, moved_back}
use Rattle.sdr_model.specs.declared.accounts.Ticket.{Ticket}
use Rattle.zco_acct.specs.Charges.{charged}
use Rattle.zco_acct.specs.Kept.{queue_entries}
use Rattle.zco_obj.specs.Amounts.{extent_amounts}
use Rattle.zco_obj.specs.Appending.{AppendsRaw, HasPiece, IsWithin, NamesSource, OfRaw, taken_piece, taking_over}
use Rattle.zco_obj.specs.AppendStops.{LacksRooms, RangeRefused, RawAllowed, RawPieceStops}
use Rattle.zco_obj.specs.Beside.{IsWithRaw, KeepsPair, KeepsWithRaw, SomePair, SomeWithRaw}
use Rattle.zco_obj.specs.Charging.{ChargesObject, ObjectAllows, ObjectChargeStops, ObjectRefuses}
use Rattle.zco_obj.specs.Extents.{extent_of, with_extent}
use Rattle.zco_obj.specs.Kept.{SomeWithQueue}
use Rattle.zco_obj.specs.declared.extent.ExtentPiece.{ExtentPiece}
use Rattle.zco_obj.proofs.CauseLemmas.{object_cause}
use Rattle.zco_obj.proofs.ChargeLemmas.{charged_moves, free_before, lacks_after, pays, queue_of}
use Rattle.zco_obj.proofs.PairLemmas.{beside_still, swapped}
use Rattle.zco_obj.proofs.RoomLemmas.{first_lacks, second_lacks, took_neither}
use Rattle.zco_obj.proofs.SourceStopLemmas.{object_spare}
use Rattle.zco_ref.specs.Counting.{attached}
use Rattle.zco_ref.specs.Kept.{KeepsRaw, SomeRaw, counted_entries}
use Rattle.zco_ref.specs.Naming.{HasUnnamed, IsUnnamed, MakesRawSource, NamingStops}
use Rattle.zco_obj.proofs.RawLemmas.{count_none, more_stands, none_before, none_some, other_kind, raw_beside}

-- the object and the raw object that no source names
module _ {heap : Heap} {object raw : ℕ} (is : IsKind (heap.blocks object) kinds.Object) (w : IsWithRaw heap object raw)
    (u : IsUnnamed (heap.blocks raw)) where
  abbrev pub raw_there : SomeWithRaw heap object raw
  raw_there = w is u.kind

  pub with_raw : KeepsWithRaw heap object raw_there.row raw_there.tickets raw 0 raw_there.bytes
  with_raw =
      let q = raw_there in
      subst (λ (n : ℕ). KeepsWithRaw heap object q.row q.tickets raw n q.bytes) (u.none q.named_by q.bytes (raw_beside q.keeps)) q.keeps

  abbrev pub queue_with_raw : SomeWithQueue heap object
  queue_with_raw = record { row = raw_there.row; tickets = raw_there.tickets; keeps = with_raw.beside.keeps }

  pub of_raw : (P : List ℕ → Type 0) → ((bytes : List ℕ) → KeepsRaw (heap.blocks raw) 0 bytes → P bytes) → OfRaw P object raw heap
  of_raw P holds = record { is_object = is; unnamed = u; holds = holds }

module _ {object : ℕ} (number : ℕ) {old : Heap} (piece : ExtentPiece) (have : ℕ) (is : IsKind (old.blocks object) kinds.Object)
    (r : IsWithRaw old object piece.of) (h : HasUnnamed (old.blocks piece.of) have) where
  abbrev q : SomeWithQueue old object
  q = queue_with_raw is r h.unnamed

  -- its bytes are few
  pub raw_short : have ≤ 2 ^ 40
  raw_short =
      let k = with_raw is r h.unnamed in
      let e = h.counts 0 (raw_there is r h.unnamed).bytes (raw_beside k) in let s = k.short in omega (arith, e, s)

  -- so are those of a piece of it
  pub raw_piece_short : IsWithin piece have → piece.bytes ≤ 2 ^ 40
  raw_piece_short w = let s = raw_short in let i = w.within in omega (arith, s, i)

  -- it has not the bytes
  pub raw_range_stops : (new : Heap) (stop : Stop) → RangeRefused piece have stop → new ≡ old → RawPieceStops object number piece old new stop
  raw_range_stops new (Refused (refusals.BadRange offset bytes most)) f same = (
    of_raw is r h.unnamed _
        (λ text k. subst (λ n. RangeRefused piece n (Refused (refusals.BadRange offset bytes most))) (h.counts 0 text k) f),
    same,
  )
  raw_range_stops new (Refused refusal) f same = absurd f
  raw_range_stops new DiskFault f same = absurd f
  raw_range_stops new MediaFault f same = absurd f
  raw_range_stops new Failed f same = absurd f

  module _ (w : IsWithin piece have) where
    has_piece : (bytes : List ℕ) → KeepsRaw (old.blocks piece.of) 0 bytes → HasPiece piece bytes
    has_piece bytes k = subst (IsWithin piece) (h.counts 0 bytes k) w

    raw_allowed : ObjectAllows object number (λ acct. extent_amounts spaces.Heap have) old →
        OfRaw (RawAllowed object number piece old) object piece.of old
    raw_allowed a = of_raw is r h.unnamed _ (λ bytes k. record {
      has = has_piece bytes k;
      allows = subst (λ n. ObjectAllows object number (λ acct. extent_amounts spaces.Heap n) old) (h.counts 0 bytes k) a;
    })

    -- or the object's account isn't charged
    pub raw_uncharged : (new : Heap) (stop : Stop) → ObjectChargeStops object number (λ acct. extent_amounts spaces.Heap have) old new stop →
        RawPieceStops object number piece old new stop
    raw_uncharged new (Refused (refusals.BadAddress bad)) s = absurd (object_cause number (λ acct. extent_amounts spaces.Heap have) q s.0)
    raw_uncharged new (Refused (refusals.WrongKind bad kind)) s = absurd (object_cause number (λ acct. extent_amounts spaces.Heap have) q s.0)
    raw_uncharged new (Refused (refusals.InUse bad count)) s = absurd (object_cause number (λ acct. extent_amounts spaces.Heap have) q s.0)
    raw_uncharged new (Refused (refusals.BadRange offset bytes most)) s =
        absurd (object_cause number (λ acct. extent_amounts spaces.Heap have) q s.0)
    raw_uncharged new (Refused (refusals.NoBlock missing)) s = absurd (object_cause number (λ acct. extent_amounts spaces.Heap have) q s.0)
    raw_uncharged new (Refused (refusals.LogFull lines room)) s = (raw_allowed s.0, took_neither 48 32 s.1)
    raw_uncharged new (Refused refusal) s = (
      of_raw is r h.unnamed _ (λ bytes k. record {
        has = has_piece bytes k;
        refuses = subst (λ n. ObjectRefuses object number (λ acct. extent_amounts spaces.Heap n) old refusal) (h.counts 0 bytes k) s.0;
      }),
      s.1,
    )
    raw_uncharged new DiskFault s = s
    raw_uncharged new MediaFault s = s
    raw_uncharged new Failed s = s

    module _ {mid : Heap} (c : ChargesObject object number (λ acct. extent_amounts spaces.Heap have) old mid) where
      charged_of : mid.moves ≡ old.moves
      charged_of = charged_moves (c.charges q.row q.tickets q.keeps) (queue_of q.keeps)

      allowed_then : OfRaw (RawAllowed object number piece old) object piece.of old
      allowed_then = raw_allowed (record { allows = λ row tickets k. (c.charges row tickets k).allows.none tickets (queue_of k) })

      -- or there is no room then
      pub lacking : (new : Heap) (stop : Stop) → LacksRooms 48 32 old new stop → RawPieceStops object number piece old new stop
      lacking new (Refused (refusals.BadAddress bad)) l = absurd l
      lacking new (Refused (refusals.WrongKind bad kind)) l = absurd l
      lacking new (Refused (refusals.InUse bad count)) l = absurd l
      lacking new (Refused (refusals.BadRange offset bytes most)) l = absurd l
      lacking new (Refused (refusals.NoBlock missing)) l = (allowed_then, l)
      lacking new (Refused (refusals.LogFull lines room)) l = (allowed_then, l)
      lacking new (Refused refusal) l = absurd l
      lacking new DiskFault l = l
      lacking new MediaFault l = l
      lacking new Failed l = l

      -- the raw object is there once the account was charged
      raw_stands : {row : ObjectRow} {tickets : List Ticket} {bytes : List ℕ} (k : KeepsWithRaw old object row tickets piece.of 0 bytes) →
          BlocksAre mid.blocks
          (object_entries object row
          ++ (raw_entries piece.of 0 bytes
          ++ (queue_entries row.account (charged tickets number (extent_amounts spaces.Heap have)) ++ k.beside.behind)))
      raw_stands k = beside_still c k.beside

      raw_still : {row : ObjectRow} {tickets : List Ticket} {bytes : List ℕ} → KeepsWithRaw old object row tickets piece.of 0 bytes →
          KeepsRaw (mid.blocks piece.of) 0 bytes
      raw_still {row} {tickets} {bytes} k = record {
        block = found mid.blocks piece.of (raw_block 0 bytes) (object_entries object row) _ (raw_stands k);
        small = omega arith;
      }

      pub some_raw : SomeRaw mid.blocks piece.of
      some_raw = record {
        named_by = 0;
        bytes = (raw_there is r h.unnamed).bytes;
        keeps = raw_still (with_raw is r h.unnamed);
        named = λ n. absurd (n refl);
      }

      -- or the source isn't made
      pub source_stops : (new : Heap) (stop : Stop) → NamingStops piece.of mid new stop → RawPieceStops object number piece old new stop
      source_stops new (Refused (refusals.BadAddress bad)) s =
          absurd (none_some (sym s.0.1 ∙ (raw_still (with_raw is r h.unnamed)).block))
      source_stops new (Refused (refusals.WrongKind bad kind)) s =
          absurd (other_kind (mid.blocks piece.of) _ kind (raw_still (with_raw is r h.unnamed)).block s.0.1)
      source_stops new (Refused (refusals.InUse bad count)) s =
          absurd ((s.0.1.used 0 _ (raw_still (with_raw is r h.unnamed))).some refl)
      source_stops new (Refused (refusals.NoBlock missing)) s =
          lacking new (Refused (refusals.NoBlock missing))
          (first_lacks 48 32 old new (Refused (refusals.NoBlock missing)) (lacks_after 48 old mid new (Refused (refusals.NoBlock missing)) charged_of (object_spare q c) s.1))
      source_stops new (Refused (refusals.LogFull lines room)) s =
          lacking new (Refused (refusals.LogFull lines room))
          (first_lacks 48 32 old new (Refused (refusals.LogFull lines room)) (lacks_after 48 old mid new (Refused (refusals.LogFull lines room)) charged_of (object_spare q c) s.1))
      source_stops new (Refused refusal) s = absurd s.1
      source_stops new DiskFault s = s
      source_stops new MediaFault s = s
      source_stops new Failed s = s

      -- which is for want alone, since the raw object is there and no source names it
      pub source_wants : (new : Heap) (stop : Stop) → NamingStops piece.of mid new stop → OnlyWanting stop
      source_wants new (Refused (refusals.BadAddress bad)) s =
          absurd (none_some (sym s.0.1 ∙ (raw_still (with_raw is r h.unnamed)).block))
      source_wants new (Refused (refusals.WrongKind bad kind)) s =
          absurd (other_kind (mid.blocks piece.of) _ kind (raw_still (with_raw is r h.unnamed)).block s.0.1)
      source_wants new (Refused (refusals.InUse bad count)) s =
          absurd ((s.0.1.used 0 _ (raw_still (with_raw is r h.unnamed))).some refl)
      source_wants new (Refused (refusals.NoBlock missing)) s = tt
      source_wants new (Refused (refusals.LogFull lines room)) s = tt
      source_wants new (Refused refusal) s = absurd s.1
      source_wants new DiskFault s = tt
      source_wants new MediaFault s = s
      source_wants new Failed s = tt

      module _ {source : ℕ} {src : Heap} (m : MakesRawSource media.Heap piece.of source mid src) where
        -- the object, the source and the raw object are there once it was made
        made_stands : {row : ObjectRow} {tickets : List Ticket} {bytes : List ℕ} → KeepsWithRaw old object row tickets piece.of 0 bytes →
            (rest : Entries) → BlocksAre mid.blocks
            (object_entries object row ++ (raw_entries piece.of 0 bytes ++ rest)) →
            BlocksAre src.blocks
            (object_entries object row ++ (counted_entries source (taking_over piece.of bytes) ++ (raw_entries piece.of source bytes ++ rest)))
        made_stands {row} {tickets} {bytes} k rest s =
            let O = object_entries object row in
            let C = counted_entries source (taking_over piece.of bytes) in
            let R = raw_entries piece.of source bytes in
            moved_back O C (R ++ rest)
            (swapped src.blocks C R O rest
            (subst (λ (es : Entries). BlocksAre src.blocks es) (append_assoc C R (O ++ rest))
            ((m.adds bytes (raw_still k)).changes.kept (O ++ rest) (moved O (raw_entries piece.of 0 bytes) rest s))))

        module _ (small : piece.of < 2 ^ 64) where
          pair_then : {row : ObjectRow} {tickets : List Ticket} {bytes : List ℕ} → KeepsWithRaw old object row tickets piece.of 0 bytes →
              (rest : Entries) → BlocksAre mid.blocks (object_entries object row ++ (raw_entries piece.of 0 bytes ++ rest)) →
              KeepsPair src.blocks object row source (taking_over piece.of bytes)
          pair_then {row} {tickets} {bytes} k rest s = record {
            rest = raw_entries piece.of source bytes ++ rest;
            stands = made_stands k rest s;
            object_fits = k.beside.keeps.fits;
            source_fits = record {
              inbound = omega arith;
              outbound = omega arith;
              subject = small;
              length = let l = k.short in omega (arith, l);
            };
            below = let n = count_none row.account piece.of bytes in omega (arith, n);
          }

          pub taken_pair : SomePair src.blocks object source
          taken_pair =
              let k = with_raw is r h.unnamed in
              record { row = q.row; source = taking_over piece.of _; keeps = pair_then k _ (raw_stands k) }

          -- for one move more there is room
          pub taken_spare : 2 ≤ old.spare → 1 ≤ src.spare
          taken_spare le =
              let a = object_spare q c in
              let b : src.spare ≡ mid.spare - 1 = ap (λ (x : Heap). x.spare) m.made.all in omega (arith, a, b, le)

          -- there is none for the extent
          pub extent_stops : (new : Heap) (stop : Stop) → OnlyShort 32 src new stop → RawPieceStops object number piece old new stop
          extent_stops new stop s =
              lacking new stop
              (second_lacks 48 32 source old src new stop
              (ap (λ (x : Heap). x.moves) m.made.all ∙ ap (λ (ms : List Move). ms ++ Took 48 source ∷ []) charged_of)
              (let a = object_spare q c in
              let b : src.spare ≡ mid.spare - 1 = ap (λ (x : Heap). x.spare) m.made.all in omega (arith, a, b)) s)

          -- it is appended
          pub appends_raw : {new : Heap} → NamesSource object (taken_piece source piece) src new → AppendsRaw object number piece old new
          appends_raw {new} n =
              let k = with_raw is r h.unnamed in
              let a = m.adds _ (raw_still k) in
              let charge = c.charges q.row q.tickets q.keeps in
              record {
                may = of_raw is r h.unnamed _ has_piece;
                source = source;
                addr = n.addr;
                new_source = free_before charge (queue_of q.keeps) a.nonzero a.small a.fresh;
                new_block =
                    free_before charge (queue_of q.keeps) n.new_block.nonzero n.new_block.small
                    (none_before mid.blocks src.blocks _ _ n.addr (raw_stands k) (made_stands k _ (raw_stands k))
                    (more_stands n.addr piece.of source _ (object_entries object q.row) (counted_entries source (taking_over piece.of _)) _)
                    n.new_block.free);
                pays = λ row tickets bytes z.
                    let d = subst (λ n. ChargesObject object number (λ acct. extent_amounts spaces.Heap n) old mid)
                    (h.counts 0 bytes (raw_beside z)) c in
                    pays (d.charges row tickets z.beside.keeps) (queue_of z.beside.keeps) (changes_all n z)
                    (made_then (Took 48 source ∷ []) (Took 32 n.addr ∷ []) m.made n.made);
              }
            where
              changes_all : (n : NamesSource object (taken_piece source piece) src new) {row : ObjectRow} {tickets : List Ticket} {bytes : List ℕ} →
                  KeepsWithRaw old object row tickets piece.of 0 bytes →
                  Changes mid.blocks new.blocks (object_entries object row ++ raw_entries piece.of 0 bytes)
                  (object_entries object (with_extent row (extent_of n.addr (taken_piece source piece)))
                  ++ (counted_entries source (attached row.account (taking_over piece.of bytes)) ++ raw_entries piece.of source bytes))
              changes_all n {row} {tickets} {bytes} z = record {
                kept = λ rest s.
                    let O = object_entries object row in
                    let O' = object_entries object (with_extent row (extent_of n.addr (taken_piece source piece))) in
                    let C = counted_entries source (taking_over piece.of bytes) in
                    let C' = counted_entries source (attached row.account (taking_over piece.of bytes)) in
                    let R = raw_entries piece.of source bytes in
                    let s1 = subst (λ (es : Entries). BlocksAre mid.blocks es) (append_assoc O (raw_entries piece.of 0 bytes) rest) s in
                    let s2 = subst (λ (es : Entries). BlocksAre src.blocks es) (sym (append_assoc O C (R ++ rest))) (made_stands z rest s1) in
                    let s3 = (n.names row (taking_over piece.of bytes) (pair_then z rest s1)).kept (R ++ rest) s2 in
                    subst (λ (es : Entries). BlocksAre new.blocks es)
                    (append_assoc O' C' (R ++ rest) ∙ ap (λ (es : Entries). O' ++ es) (sym (append_assoc C' R rest))
                    ∙ sym (append_assoc O' (C' ++ R) rest)) s3;
              }
