-- Why a read of pieces stops.
use Rattle.std.proofs.Common.{◌≡◌, ℕ, List, [], ◌∷◌, Option, None, Some, Result, Ok, Err, refl, ◌∙◌, subst, arith, IfSome}
use Rattle.sdr_base.specs.Causes.{Rose}
use Rattle.sdr_base.specs.Media.{Told}
use Rattle.sdr_base.specs.Objects.{OnlyFault}
use Rattle.sdr_base.specs.Works.{Looks}
use Rattle.sdr_base.specs.declared.has_heap.HasHeap.{Ghosts as HeapGhosts}
use Rattle.sdr_base.specs.declared.media.Media.{Ghosts}
use Rattle.sdr_base.specs.declared.refusal.Refusal.TheVariants.{SourceShort}
use Rattle.sdr_base.specs.declared.stop.Stop.{Stop}
use Rattle.sdr_base.specs.declared.stop.Stop.TheVariants as stops
use Rattle.sdr_base.proofs.WorksLemmas.{looks_ok}
use Rattle.sdr_base.proofs.WrittenLemmas.{rose_later}
use Rattle.sdr_gather.specs.Gathering.{Gathering}
use Rattle.sdr_gather.specs.declared.gathering.Gap.TheVariants as gaps
use Rattle.sdr_gather.proofs.GatheringLemmas.{gathering-gap, gathering-start}
use Rattle.sdr_machine.specs.Agreeing.{IsFirstShort}
use Rattle.sdr_model.specs.declared.piece.Piece.{Piece}
use Rattle.zco_wire.specs.Stopping.{KeepsTold, StopsPiece, StopsPieces, past_media, past_stop}

-- a call on the heap alone meets no fault of media
looks_stopped : {T S : Type 0} {m : HeapGhosts S} {a b : S} (stop : Stop) → Looks {T = T} m a b (Err stop) → Looks m a b (past_stop stop)
looks_stopped (stops.Refused refusal) l = record {
  same = l.same;
  kept = l.kept;
  moved = l.moved;
  touched = l.touched;
  quiet = l.quiet;
  room = record { room = l.room.room; kept = l.room.kept; most = l.room.most; full = l.room.full };
  cause = record { later = l.cause.later; explained = l.cause.explained };
}
looks_stopped stops.DiskFault l = record {
  same = l.same;
  kept = l.kept;
  moved = l.moved;
  touched = l.touched;
  quiet = l.quiet;
  room = record { room = l.room.room; kept = l.room.kept; most = l.room.most; full = l.room.full };
  cause = record { later = l.cause.later; explained = l.cause.explained };
}
looks_stopped stops.MediaFault l = absurd l.cause.explained
looks_stopped stops.Failed l = record {
  same = l.same;
  kept = l.kept;
  moved = l.moved;
  touched = l.touched;
  quiet = l.quiet;
  room = record { room = l.room.room; kept = l.room.kept; most = l.room.most; full = l.room.full };
  cause = record { later = l.cause.later; explained = l.cause.explained };
}

pub looks_past : {T S : Type 0} {m : HeapGhosts S} {a b : S} (r : Result T Stop) → Looks m a b r → Looks m a b (past_media r)
looks_past (Ok value) l = looks_ok l
looks_past (Err stop) l = looks_stopped stop l

-- nothing of media changed
pub told_same : {M : Type 0} (m : Ghosts M) (old : M) → KeepsTold m old old
told_same m old = record { told = refl; faults = omega arith; short = omega arith }

-- one change of media after another
pub told_then : {M : Type 0} {m : Ghosts M} {a b c : M} → KeepsTold m a b → KeepsTold m b c → KeepsTold m a c
told_then f s = record {
  told = s.told ∙ f.told;
  faults = let x = f.faults in let y = s.faults in omega (arith, x, y);
  short = let x = f.short in let y = s.short in omega (arith, x, y);
}

-- where the first of pieces wasn't read, they weren't
pub stops_first : {M : Type 0} (m : Ghosts M) (p : Piece) (rest : List Piece) (old new : M) (stop : Stop) → StopsPiece m p old new stop →
    StopsPieces m (p ∷ rest) old new stop
stops_first m p rest old new (stops.Refused (SourceShort have want)) s =
    gathering-gap (p ∷ rest) p rest [] (Rose (m.faults old) (m.faults new)) (Rose (m.short old) (m.short new)) (m.told old)
    (gaps.Short have want) (gathering-start (m.told old) (p ∷ rest)) s
stops_first m p rest old new stops.MediaFault s =
    gathering-gap (p ∷ rest) p rest [] (Rose (m.faults old) (m.faults new)) (Rose (m.short old) (m.short new)) (m.told old)
    gaps.Fault (gathering-start (m.told old) (p ∷ rest)) s
stops_first m p rest old new stop s = s

-- where the rest of some pieces wasn't read, they weren't
short_later : (old now : Option Told) (all rest : List Piece) (bytes : List ℕ) (have want : ℕ) → now ≡ old → Gathering old all rest bytes →
    IfSome now (λ media. IsFirstShort media rest have want) → IfSome old (λ media. IsFirstShort media all have want)
short_later None now all rest bytes have want e g s = tt
short_later (Some media) now all rest bytes have want e g s =
    g.first have want (subst (λ (t : Option Told). IfSome t (λ media. IsFirstShort media rest have want)) e s)

pub stops_later : {M : Type 0} (m : Ghosts M) (all rest : List Piece) (bytes : List ℕ) (old now new : M) (stop : Stop) →
    Gathering (m.told old) all rest bytes → KeepsTold m old now → StopsPieces m rest now new stop → StopsPieces m all old new stop
stops_later m all rest bytes old now new (stops.Refused (SourceShort have want)) g k s = (
  s.0,
  (g.outside s.1.0, rose_later (m.short old) (m.short now) (m.short new) k.short s.1.1),
  short_later (m.told old) (m.told now) all rest bytes have want k.told g s.2,
)
stops_later m all rest bytes old now new stops.MediaFault g k s =
    (g.outside s.0, rose_later (m.faults old) (m.faults now) (m.faults new) k.faults s.1)
stops_later m all rest bytes old now new stop g k s = s

-- where the heap failed, nothing is said of pieces
pub only_fault : {M : Type 0} (m : Ghosts M) (ps : List Piece) (old new : M) (stop : Stop) → OnlyFault stop → StopsPieces m ps old new stop
only_fault m ps old new (stops.Refused refusal) f = absurd f
only_fault m ps old new stops.MediaFault f = absurd f
only_fault m ps old new stops.DiskFault f = tt
only_fault m ps old new stops.Failed f = tt

pub only_fault_of : {M : Type 0} (m : Ghosts M) (p : Piece) (old new : M) (stop : Stop) → OnlyFault stop → StopsPiece m p old new stop
only_fault_of m p old new (stops.Refused refusal) f = absurd f
only_fault_of m p old new stops.MediaFault f = absurd f
only_fault_of m p old new stops.DiskFault f = tt
only_fault_of m p old new stops.Failed f = tt
