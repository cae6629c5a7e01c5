-- An object is bonded, or why it isn't.
use Rattle.std.proofs.Common.{◌≡◌, ◌<◌, ◌^◌, ℕ, List, [], ◌∷◌, ◌++◌, length, refl, sym, ap, ◌∙◌, arith, subst, append_assoc, append-nil, length-append}
use Rattle.std.specs.Prelude.{All}
use Rattle.std.proofs.lemmas.List.Elements.{All-append, All-head, All-nil, All-cons, All-tail}
use Rattle.sdr_base.specs.Blocks.{IsKind, Reaches}
use Rattle.sdr_base.specs.Entries.{Changes, Entries, BlocksAre}
use Rattle.sdr_base.specs.Linked.{linked}
use Rattle.sdr_base.specs.Objects.{Heap, Misses, OnlyFault, OnlyUnmoved}
use Rattle.sdr_base.specs.ZcoObjects.{CapsuleRow, ExtentRow, ObjectRow, extent_entries, object_block, object_entries}
use Rattle.sdr_base.specs.declared.kind.Kind.TheVariants as kinds
use Rattle.sdr_base.specs.declared.moves.Move.{Move}
use Rattle.sdr_base.specs.declared.moves.Move.TheVariants.{Short}
use Rattle.sdr_base.specs.declared.refusal.Refusal.{Refusal}
use Rattle.sdr_base.specs.declared.refusal.Refusal.TheVariants as refusals
use Rattle.sdr_base.specs.declared.stop.Stop.{Stop}
use Rattle.sdr_base.specs.declared.stop.Stop.TheVariants.{Refused, DiskFault, MediaFault, Failed}
use Rattle.sdr_base.proofs.StandingLemmas.{found, moved}
use Rattle.sdr_base.proofs.WritingLemmas.{reaches}
use Rattle.sdr_model.specs.declared.accounts.Ticket.{Ticket}
use Rattle.zco_obj.specs.Kept.{CapsuleFits, ExtentFits, KeepsObject, KeepsWithQueue, SomeWithQueue}
use Rattle.zco_obj.specs.Walks.{ExtentsAt, SomeExtents, TellsExtents}
use Rattle.zco_obj.proofs.CauseLemmas.{IsCause, is_cause}
use Rattle.zco_obj.proofs.ChargeLemmas.{charged_moves, charged_spare, pays, queue_of, stands_still}
use Rattle.zco_obj.proofs.KeptLemmas.{object_words}
use Rattle.zco_bond.specs.Bonded.{BondedCapsule, IsSmall, bonded_extent, bonded_extents, bonded_sources, bonding_moves, capsules_of, joined, whole_of}
use Rattle.zco_bond.specs.Bonding.{BondsObject, BondsParts, BondStops, PartsBonded, PartsStop, SetsWhole, SomeBond, SomeToBond}
use Rattle.zco_bond.specs.Fresh.{is_free}
use Rattle.zco_bond.proofs.FreshLemmas.{free_charged, takes_more}
use Rattle.zco_bond.specs.Chaining.{IsBondRow}
use Rattle.zco_bond.specs.Charging.{BondAllowed, BondChargeStops, BondRefused, ChargesBond, bond_amounts, ends_of}
use Rattle.zco_bond.specs.Rows.{MadeAmong, RowStops}
use Rattle.zco_bond.specs.declared.gap.Chain.{Chain}
use Rattle.zco_bond.proofs.BondedLemmas.{capsules-append, capsules-unbonded, length-capsules, length-extents, unbonded}
use Rattle.zco_bond.proofs.RowLemmas.{Goes, NoMove, stops_then, unmoved_stops}

-- the extents that headers or trailers became fit
bonded_fit : (bs : List BondedCapsule) → All IsSmall bs → All CapsuleFits (capsules_of bs) → All ExtentFits (bonded_extents bs)
bonded_fit [] s f = All-nil ExtentFits
bonded_fit (b ∷ bs) s f =
    let a = All-head IsSmall b bs s in
    let c = All-head CapsuleFits b.capsule (capsules_of bs) f in
    All-cons ExtentFits (bonded_extent b) (bonded_extents bs)
    (record {
      addr = let e = a.extent in omega (arith, e);
      source = let e = a.source in omega (arith, e);
      inside = let t = c.short in omega (arith, t);
    })
    (bonded_fit bs (All-tail IsSmall b bs s) (All-tail CapsuleFits b.capsule (capsules_of bs) f))

-- where an object isn't there
pub missed : (object number : ℕ) (old new : Heap) (stop : Stop) → Misses (old.blocks object) object kinds.Object stop → new ≡ old →
    BondStops object number old new stop
missed object number old new (Refused (refusals.BadAddress bad)) m same = (m, same)
missed object number old new (Refused (refusals.WrongKind bad kind)) m same = (m, same)
missed object number old new (Refused refusal) m same = absurd m
missed object number old new DiskFault m same = m
missed object number old new MediaFault m same = m
missed object number old new Failed m same = m

-- a fault
pub bond_faults : (object number : ℕ) (old new : Heap) (stop : Stop) → OnlyFault stop → BondStops object number old new stop
bond_faults object number old new (Refused refusal) f = absurd f
bond_faults object number old new DiskFault f = f
bond_faults object number old new MediaFault f = f
bond_faults object number old new Failed f = f

-- the object with its queue
pub with_queue : {heap : Heap} {object : ℕ} → SomeBond heap object → SomeWithQueue heap object
with_queue q = record { row = q.row; tickets = q.tickets; keeps = q.keeps }

-- it stops after no move, from a heap that has made none
same_stops : (Row : List Move → Type 0) (old mid new : Heap) (stop : Stop) → mid.moves ≡ old.moves → mid.spare ≡ old.spare →
    RowStops Row mid new stop → RowStops Row old new stop
same_stops Row old mid new (Refused (refusals.NoBlock missing)) m e l = record {
  all = l.all;
  row = l.row;
  made = l.made;
  addr = l.addr;
  first = l.first;
  moves = l.moves ∙ ap (λ (ms : List Move). ms ++ (l.made ++ Short missing ∷ [])) m;
  spare = let s = l.spare in omega (arith, s, e);
}
same_stops Row old mid new (Refused (refusals.LogFull lines room)) m e l = record {
  all = l.all;
  row = l.row;
  made = l.made;
  first = l.first;
  moves = l.moves ∙ ap (λ (ms : List Move). ms ++ l.made) m;
  spare = let s = l.spare in omega (arith, s, e);
}
same_stops Row old mid new (Refused refusal) m e l = absurd l
same_stops Row old mid new DiskFault m e l = l
same_stops Row old mid new MediaFault m e l = l
same_stops Row old mid new Failed m e l = l

module _ {object : ℕ} {old : Heap} (is : IsKind (old.blocks object) kinds.Object) (q : SomeBond old object) where
  refused_cause : {number : ℕ} (refusal : Refusal) → BondRefused object number old refusal → IsCause refusal
  refused_cause {number} refusal r =
      is_cause old q.row.account number (bond_amounts q.row) q.tickets refusal (r.refuses q.row q.tickets q.keeps)

  -- the account isn't charged
  pub uncharged : (number : ℕ) (new : Heap) (stop : Stop) → BondChargeStops object number old new stop → BondStops object number old new stop
  uncharged number new (Refused (refusals.BadAddress bad)) s = absurd (refused_cause (refusals.BadAddress bad) s.0)
  uncharged number new (Refused (refusals.WrongKind bad kind)) s = absurd (refused_cause (refusals.WrongKind bad kind) s.0)
  uncharged number new (Refused (refusals.NoBlock missing)) s = absurd (refused_cause (refusals.NoBlock missing) s.0)
  uncharged number new (Refused (refusals.LogFull lines room)) s = (
    record { kind = is; holds = s.0 },
    record { made = λ row tickets k. none_of row },
  )
    where
      none_of : (row : ObjectRow) → MadeAmong (IsBondRow (ends_of row)) old new
      none_of row = record {
        all = bonding_moves (unbonded (ends_of row));
        row = record { bonded = unbonded (ends_of row); whole = capsules-unbonded (ends_of row); is = refl };
        made = [];
        first = record { rest = bonding_moves (unbonded (ends_of row)); whole = refl };
        moves = s.1.moves ∙ sym (append-nil old.moves);
        spare = let e = s.1.spare in omega (arith, e);
      }
  uncharged number new (Refused refusal) s = (record { kind = is; holds = s.0 }, s.1)
  uncharged number new DiskFault s = s
  uncharged number new MediaFault s = s
  uncharged number new Failed s = s

  module _ {number : ℕ} {mid : Heap} (c : ChargesBond object number old mid) where
    bond_allowed : BondAllowed object number old
    bond_allowed = record { allows = λ row tickets k. (c.charges row tickets k).allows.none tickets (queue_of k) }

    moves_still : mid.moves ≡ old.moves
    moves_still = charged_moves (c.charges q.row q.tickets q.keeps) (queue_of q.keeps)

    spare_still : mid.spare ≡ old.spare
    spare_still = charged_spare (c.charges q.row q.tickets q.keeps) (queue_of q.keeps)

    pub object_then : {row : ObjectRow} {tickets : List Ticket} → KeepsWithQueue old object row tickets → KeepsObject mid.blocks object row
    object_then {row} {tickets} k = record {
      rest = _;
      stands = stands_still (c.charges row tickets k) (queue_of k) (object_entries object row) k.rest k.stands;
      fits = k.fits;
    }

    -- what is free then was so before
    free_still : {row : ObjectRow} {tickets : List Ticket} → KeepsWithQueue old object row tickets → (q : ℕ) → is_free mid.blocks q →
        is_free old.blocks q
    free_still {row} {tickets} k q free =
        free_charged q number (bond_amounts row) row.account tickets (object_entries object row) k.rest k.stands
        (stands_still (c.charges row tickets k) (queue_of k) (object_entries object row) k.rest k.stands) free

    pub to_bond : SomeToBond mid object
    to_bond = record { row = q.row; keeps = object_then q.keeps; room = let r = q.room in let e = spare_still in omega (arith, r, e) }

    -- it stops behind the charge
    stopped : (new : Heap) (stop : Stop) → ((row : ObjectRow) → KeepsObject mid.blocks object row → RowStops (IsBondRow (ends_of row)) mid new stop) →
        BondStops object number old new stop
    stopped new (Refused (refusals.BadAddress bad)) s = absurd (s q.row (object_then q.keeps))
    stopped new (Refused (refusals.WrongKind bad kind)) s = absurd (s q.row (object_then q.keeps))
    stopped new (Refused (refusals.NoBlock missing)) s = (
      record { kind = is; holds = bond_allowed },
      record {
        lacks = λ row tickets k.
            same_stops (IsBondRow (ends_of row)) old mid new (Refused (refusals.NoBlock missing)) moves_still spare_still (s row (object_then k));
      },
    )
    stopped new (Refused (refusals.LogFull lines room)) s = (
      record { kind = is; holds = bond_allowed },
      record {
        made = λ row tickets k.
            same_stops (IsBondRow (ends_of row)) old mid new (Refused (refusals.LogFull lines room)) moves_still spare_still
            (s row (object_then k));
      },
    )
    stopped new (Refused refusal) s = absurd (s q.row (object_then q.keeps))
    stopped new DiskFault s = s q.row (object_then q.keeps)
    stopped new MediaFault s = s q.row (object_then q.keeps)
    stopped new Failed s = s q.row (object_then q.keeps)

    -- the parts aren't all bonded
    pub unbonded_stops : (new : Heap) (stop : Stop) → PartsStop object mid new stop → BondStops object number old new stop
    unbonded_stops new stop s = stopped new stop s.stops

    module _ {two : Heap} {chain : Chain} (p : BondsParts object mid two chain) where
      module _ {row : ObjectRow} (k : KeepsObject mid.blocks object row) where
        abbrev b : PartsBonded object row mid two chain
        b = p.bonds row k

        abbrev J : List ExtentRow
        J = joined b.headers row.extents b.trailers

        abbrev S : Entries
        S = bonded_sources row.account (b.headers ++ b.trailers)

        together : (rest : Entries) → BlocksAre mid.blocks (object_entries object row ++ rest) →
            BlocksAre two.blocks ((object, object_block row) ∷ ((extent_entries J ++ S) ++ rest))
        together rest s = b.changes.kept rest s

        fit_all : All ExtentFits J
        fit_all =
            All-append ExtentFits (bonded_extents b.headers) (row.extents ++ bonded_extents b.trailers)
            (bonded_fit b.headers b.are.headers_small (subst (All CapsuleFits) (sym b.are.of_headers) k.fits.headers))
            (All-append ExtentFits row.extents (bonded_extents b.trailers) k.fits.extents
            (bonded_fit b.trailers b.are.trailers_small (subst (All CapsuleFits) (sym b.are.of_trailers) k.fits.trailers)))

        few_all : length J < 2 ^ 22
        few_all =
            let f = k.fits.few in
            let l = length-append (bonded_extents b.headers) (row.extents ++ bonded_extents b.trailers) in
            let m = length-append row.extents (bonded_extents b.trailers) in
            let h = length-extents b.headers in
            let t = length-extents b.trailers in
            let g = length-capsules b.headers in
            let u = length-capsules b.trailers in
            let v = ap (length {A = CapsuleRow}) b.are.of_headers in
            let w = ap (length {A = CapsuleRow}) b.are.of_trailers in omega (arith, f, l, m, h, t, g, u, v, w)

        extents_then : ExtentsAt two.blocks chain.first J
        extents_then =
            let O : Entries = (object, object_block row) ∷ [] in
            record {
              rest = O ++ (S ++ k.rest);
              stands =
                  moved O (extent_entries J) (S ++ k.rest)
                  (subst (λ (es : Entries). BlocksAre two.blocks (O ++ es)) (append_assoc (extent_entries J) S k.rest) (together k.rest k.stands));
              at_first = b.ends.first;
              fits = fit_all;
              few = few_all;
            }

        -- the last word isn't written
        whole_row : (t : List Move) → NoMove t → Goes (IsBondRow (ends_of row)) (bonding_moves (b.headers ++ b.trailers)) t
        whole_row t r = record {
          more = [];
          is = record {
            bonded = b.headers ++ b.trailers;
            whole =
                capsules-append b.headers b.trailers ∙ ap (λ (ys : List CapsuleRow). ys ++ capsules_of b.trailers) b.are.of_headers
                ∙ ap (λ (ys : List CapsuleRow). row.headers ++ ys) b.are.of_trailers;
            is =
                ap (λ (l : List Move). bonding_moves (b.headers ++ b.trailers) ++ (l ++ [])) r.is
                ∙ append-nil (bonding_moves (b.headers ++ b.trailers));
          };
        }

      pub extents_there : SomeExtents two.blocks chain.first
      extents_there = record { rows = _; is = extents_then (object_then q.keeps) }

      pub block_there : Reaches (two.blocks object) 72
      block_there =
          let k = object_then q.keeps in
          reaches (two.blocks object) kinds.Object (object_words q.row) [] 72
          (found two.blocks object (object_block q.row) [] _ (together k k.rest k.stands)) (omega arith)

      pub unset_stops : (new : Heap) (stop : Stop) → OnlyUnmoved two new stop → BondStops object number old new stop
      unset_stops new stop u =
          stopped new stop
          (λ row k. stops_then NoMove (IsBondRow (ends_of row)) (bonding_moves ((b k).headers ++ (b k).trailers)) (b k).made (whole_row k) new stop
          (unmoved_stops two new stop u))

      -- it is bonded
      module _ (bytes : ℕ) (t : TellsExtents two.blocks chain.first bytes) {new : Heap} (w : SetsWhole object chain bytes two new) where
        whole_then : {row : ObjectRow} (k : KeepsObject mid.blocks object row) → Changes mid.blocks new.blocks (object_entries object row)
            (object_entries object (whole_of row (J k)) ++ S k)
        unfolding linked
        whole_then {row} k = record {
          kept = λ rest s.
              let e = t.tells (J k) (extents_then k) in
              let here = (w.sets row (J k) (b k).ends e).kept ((extent_entries (J k) ++ S k) ++ rest) (together k rest s) in
              subst (λ (es : Entries). BlocksAre new.blocks ((object, object_block (whole_of row (J k))) ∷ ((es ++ S k) ++ rest)))
              (sym (append-nil (extent_entries (J k)))) here;
        }

        pub bonds_object : BondsObject object number old new
        bonds_object = record {
          kind = is;
          bonds = λ row tickets k.
              let o = object_then k in
              record {
                headers = (b o).headers;
                trailers = (b o).trailers;
                are = (b o).are;
                takes =
                    takes_more (bonding_moves ((b o).headers ++ (b o).trailers)) (free_still k) (b o).fresh.takes;
                pays =
                    pays (c.charges row tickets k) (queue_of k) (whole_then o) (record { all = w.same ∙ (b o).made.all });
              };
        }
