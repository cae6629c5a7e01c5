-- An object is put, or it is refused.
use Rattle.std.proofs.Common.{◌≡◌, ◌≢◌, ℕ, ◌+◌, ◌≤◌, ◌<◌, List, [], ◌∷◌, ◌++◌, Option, Some, None, sym, ap, ◌∙◌, subst, arith}
use Rattle.std.proofs.lemmas.List.{map-append}
use Rattle.std.proofs.lemmas.List.Elements.{All-map}
use Rattle.sdr_base.specs.Blocks.{Block, Blocks, IsKind}
use Rattle.sdr_base.specs.Entries.{BlocksAre, Entries}
use Rattle.sdr_base.specs.Objects.{Heap, Misses, OnlyFault}
use Rattle.sdr_base.specs.declared.kind.Kind.TheVariants as kinds
use Rattle.sdr_base.specs.declared.refusal.Refusal.TheVariants as refusals
use Rattle.sdr_base.specs.declared.stop.Stop.{Stop}
use Rattle.sdr_base.specs.declared.stop.Stop.TheVariants.{Refused, DiskFault, MediaFault, Failed}
use Rattle.sdr_base.proofs.StandingLemmas.{at-nowhere}
use Rattle.sdr_list.specs.Calls.{TellsOfList}
use Rattle.bp_queue.specs.Kept.{KeepsQueues, Row, last_number, waiting_of}
use Rattle.bp_queue.specs.Lacking.{LacksRoom}
use Rattle.bp_queue.specs.Putting.{Admits, Allows, FindsItem, IsFull, IsTaken, NewStops, PutsLast, PutStops, row_of}
use Rattle.bp_queue.specs.declared.putting.Wanted.{Wanted}
use Rattle.bp_queue.specs.declared.queues.Queues.{Queues}
use Rattle.bp_queue.proofs.QueueLemmas.{line_list}

-- no object stands at 0
pub object_some : {b : Blocks} {es : Entries} {object : ℕ} → BlocksAre b es → IsKind (b object) kinds.Object → object ≢ 0
object_some {b} {es} {object} s kind zero =
    let P : Option Block → Type 0 = λ o. IsKind o kinds.Object in
    subst P (ap b zero ∙ s.same 0 ∙ at-nowhere 0 es s.null) kind

module _ {q : Queues} {number : ℕ} {b : Blocks} (t : TellsOfList q.line (λ row. row.user) b number) where
  number_is : {next : ℕ} {rows : List Row} {rest : Entries} → KeepsQueues b q next rows rest → number ≡ next
  number_is k = t.tells _ (line_list k)

  pub is_full : {object : ℕ} → FindsItem q object b None → last_number ≤ number → IsFull q object b
  is_full f most = record {
    full = λ next rows rest k.
        (f.finds next rows rest k, let e = number_is k in let m = k.fits.bound in omega (arith, e, m, most));
  }

  pub is_allowed : {object : ℕ} → FindsItem q object b None → number < last_number → Allows q object b
  is_allowed f less = record {
    allows = λ next rows rest k. (f.finds next rows rest k, let e = number_is k in omega (arith, e, less));
  }

pub is_taken : {q : Queues} {object item : ℕ} {b : Blocks} → FindsItem q object b (Some item) → IsTaken q object item b
is_taken f = record { taken = f.finds }

-- the item was made: its object waits
pub puts_last : {q : Queues} {w : Wanted} {item : ℕ} {old new : Heap} → IsKind (old.blocks w.object) kinds.Object →
    FindsItem q w.object old.blocks None → TellsOfList q.line (λ row. row.user) old.blocks w.number → w.number < last_number →
    Admits q w item old new →
    PutsLast q (record { item = item; class = w.class; ordinal = w.ordinal; deadline = w.deadline; object = w.object }) old new
puts_last {q} {w} {item} {old} {new} kind f t less a = record {
  kind = kind;
  at = a.at;
  puts = λ next rows rest k.
      let e = number_is t k in
      let unnamed = f.finds next rows rest k in
      let P : ℕ → Type 0 = λ n. KeepsQueues new.blocks q (n + 1) (rows ++ (record (row_of w item a.at) { number = n } ∷ [])) rest in
      let kept =
      a.admits rows rest (subst (λ (n : ℕ). KeepsQueues old.blocks q n rows rest) (sym e) k) unnamed (object_some k.stands kind) in
      record {
        reached = omega (arith, e, less);
        keeps = subst P e kept;
        step = (All-map (λ v. v.object ≢ w.object) waiting_of rows unnamed, map-append waiting_of rows (record (row_of w item a.at) { number = next } ∷ []));
      };
  made = a.made;
}

-- why none is put
pub put_missed : (q : Queues) (object : ℕ) (old new : Heap) (stop : Stop) → new ≡ old →
    Misses (old.blocks object) object kinds.Object stop → PutStops q object old new stop
put_missed q object old new (Refused (refusals.BadAddress bad)) same m = (m, same)
put_missed q object old new (Refused (refusals.WrongKind bad number)) same m = (m, same)
put_missed q object old new (Refused refusal) same m = absurd m
put_missed q object old new DiskFault same m = m
put_missed q object old new MediaFault same m = m
put_missed q object old new Failed same m = m

pub put_fault : (q : Queues) (object : ℕ) (old new : Heap) (stop : Stop) → OnlyFault stop → PutStops q object old new stop
put_fault q object old new (Refused refusal) m = absurd m
put_fault q object old new DiskFault m = m
put_fault q object old new MediaFault m = m
put_fault q object old new Failed m = m

-- an object that doesn't wait wasn't put
pub put_new_stops : (q : Queues) (object number : ℕ) (old new : Heap) (stop : Stop) → IsKind (old.blocks object) kinds.Object →
    FindsItem q object old.blocks None → TellsOfList q.line (λ row. row.user) old.blocks number → NewStops number old new stop →
    PutStops q object old new stop
put_new_stops q object number old new (Refused (refusals.BadRow row rows)) kind f t u = (kind, is_full t f u.0, u.1, u.2, u.3)
put_new_stops q object number old new (Refused (refusals.NoBlock need)) kind f t u = (kind, is_allowed t f u.0, u.1)
put_new_stops q object number old new (Refused (refusals.LogFull lines room)) kind f t u = (kind, is_allowed t f u.0, u.1)
put_new_stops q object number old new (Refused refusal) kind f t u = absurd u.1
put_new_stops q object number old new DiskFault kind f t u = u
put_new_stops q object number old new MediaFault kind f t u = u
put_new_stops q object number old new Failed kind f t u = u

pub new_lacks : (number : ℕ) (old new : Heap) (stop : Stop) → number < last_number → LacksRoom (56 ∷ 32 ∷ 32 ∷ []) old new stop →
    NewStops number old new stop
new_lacks number old new (Refused (refusals.NoBlock need)) less l = (less, l)
new_lacks number old new (Refused (refusals.LogFull lines room)) less l = (less, l)
new_lacks number old new (Refused refusal) less l = absurd l
new_lacks number old new DiskFault less l = l
new_lacks number old new MediaFault less l = l
new_lacks number old new Failed less l = l

pub new_fault : (number : ℕ) (old new : Heap) (stop : Stop) → OnlyFault stop → NewStops number old new stop
new_fault number old new (Refused refusal) m = absurd m
new_fault number old new DiskFault m = m
new_fault number old new MediaFault m = m
new_fault number old new Failed m = m
