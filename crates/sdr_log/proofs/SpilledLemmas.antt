-- What stands of an open transaction on the bytes of a disk, without a crash.
use Rattle.std.proofs.Common.{◌≡◌, ◌≤◌, ◌<◌, ◌∙◌, ℕ, ◌+◌, ◌*◌, true, List, [], ◌∷◌, length, refl, sym, ap, subst}
use Rattle.std.proofs.Common.{arith}
use Rattle.std.proofs.lemmas.Option.{same_Some}
use Rattle.sdr_base.specs.Parts.{overwrite}
use Rattle.sdr_log.specs.Batch.{batch_of, batch_size, with_batch}
use Rattle.sdr_log.specs.Calls.{AreNamed, MayPut, Puts, PutsBack, with_records}
use Rattle.sdr_log.specs.Frame.{heap_place}
use Rattle.sdr_log.specs.Log.{AreLines, heap_of, names_line, put_records}
use Rattle.sdr_log.specs.Spilled.{Ends, Just, KeepsBegin, MaySpill, PutsThrough, Spills}
use Rattle.sdr_log.specs.declared.frame.Frame.{Frame}
use Rattle.sdr_log.specs.declared.record.Record.{Record}
use Rattle.sdr_log.proofs.BatchLemmas.{length-batch_of}
use Rattle.sdr_log.proofs.ClosingLemmas.{closes}
use Rattle.sdr_log.proofs.EndingLemmas.{closes_ends, keeps_open, spilled_ends, spilled_open, through_keeps, through_put}
use Rattle.sdr_log.proofs.LoggedLemmas.{HasRegions-limits}
use Rattle.sdr_log.proofs.OpeningLemmas.{opens_written, with_batch-written}
use Rattle.sdr_log.proofs.PuttingLemmas.{put_end, put_gate, put_heap, put_log, put_logs, put_same}
use Rattle.sdr_log.proofs.RestoringLemmas.{alone}
use Rattle.sdr_log.proofs.SpillingLemmas.{spill_open, spill_put, spilled}

-- lines that are put one after another
puts_bytes : (f : Frame) (lines : List Record) (x : List ℕ) → MayPut f lines x (Just x) → AreLines lines →
    Puts f lines x (with_records f lines x) (Just (with_records f lines x))
unfolding alone
puts_bytes f [] x m long = record {
  logged = m.logged;
  heap = refl;
  log = refl;
  ends = refl;
  gate = refl;
  back = refl;
}
puts_bytes f (r ∷ lines) x m long =
    let l = m.logged in
    let put = overwrite (heap_place f + 64 * r.line) r.bytes x in
    let now = alone f put l.records (put_logs f x _ l r m.named.0 long.0) in
    let rest = puts_bytes f lines put (record { logged = now; named = m.named.1 }) long.1 in
    record {
      logged = rest.logged;
      heap = rest.heap ∙ ap (put_records lines) (put_heap f x _ l r m.named.0 long.0);
      log = rest.log ∙ put_log f x _ l r m.named.0 long.0;
      ends = rest.ends ∙ put_end f x _ l r m.named.0 long.0;
      gate = rest.gate ∙ put_gate f x _ l r m.named.0 long.0;
      back = rest.back ∙ put_same f x _ l r m.named.0 long.0;
    }

-- lines that are spilled
pub spills_bytes : (f : Frame) (begun : List ℕ) (place : ℕ) (records olds news : List Record) (x y : List ℕ) →
    MaySpill f begun place records olds x (Just x) → AreLines olds → 0 < length olds →
    place + batch_size (length olds) < 64 * f.log_lines → AreNamed olds news → AreLines news →
    y ≡ with_records f news (with_batch place olds x) → Spills f begun place records olds news x y (Just y)
spills_bytes f begun place records olds news x y m lines some fits named long is =
    let limits = HasRegions-limits f x m.keeps.logged.logs.regions in
    let n = spill_open f begun place records olds x _ m in
    let inside : 64 + place + 1 + length (batch_of olds) ≤ length x =
    omega (arith, length-batch_of olds lines, fits, m.keeps.logged.logs.regions.inside, limits.least_heap) in
    let o = opens_written f place olds x _ n lines some fits (with_batch place olds x) (Just (with_batch place olds x))
    (sym (with_batch-written place olds x inside)) (λ image e. e) in
    let p = puts_bytes f news (with_batch place olds x)
    (spill_put f begun place records olds x _ m _ _ o news named) long in
    subst (λ (z : List ℕ). Spills f begun place records olds news x z (Just z)) (sym is)
    (spilled f begun place records olds x _ m _ _ o news named (with_records f news (with_batch place olds x)) _ p)

-- a line that is put through
pub through_bytes : (f : Frame) (begun : List ℕ) (place : ℕ) (records : List Record) (line : Record) (x y : List ℕ) →
    KeepsBegin f begun place records x (Just x) → names_line records line.line ≡ true → length line.bytes ≡ 64 →
    y ≡ overwrite (heap_place f + 64 * line.line) line.bytes x →
    PutsThrough f begun place records line x y (Just y)
through_bytes f begun place records line x y k named long is =
    subst (λ (z : List ℕ). PutsThrough f begun place records line x z (Just z)) (sym is)
    (through_keeps f begun place records x _ k line _ _
    (puts_bytes f (line ∷ []) x (through_put f begun place records x _ k line named) (long, tt)))

-- a transaction that ends
pub ends_bytes : (f : Frame) (begun : List ℕ) (place : ℕ) (records : List Record) (x y : List ℕ) →
    KeepsBegin f begun place records x (Just x) → 0 < length records → y ≡ overwrite 64 (0 ∷ []) x →
    Ends f (heap_of f x) y (Just y)
ends_bytes f begun place records x y k some is =
    closes_ends f begun place records x _ k y _
    (closes f x y _ (Just y) (keeps_open f begun place records x _ k some) is (λ image e. e))

-- and one that ends with the lines that are left
pub ends_with_bytes : (f : Frame) (begun : List ℕ) (place : ℕ) (records olds news : List Record) (x y : List ℕ) →
    MaySpill f begun place records olds x (Just x) → AreLines olds → 0 < length olds →
    place + batch_size (length olds) < 64 * f.log_lines → AreNamed olds news → AreLines news →
    y ≡ overwrite 64 (0 ∷ []) (with_records f news (with_batch place olds x)) →
    Ends f (put_records news (heap_of f x)) y (Just y)
ends_with_bytes f begun place records olds news x y m lines some fits named long is =
    let z = with_records f news (with_batch place olds x) in
    let s = spills_bytes f begun place records olds news x z m lines some fits named long refl in
    spilled_ends f begun place records olds news x z _ s some y _
    (closes f z y _ (Just y) (spilled_open f begun place records olds news x z _ s some) is (λ image e. e))

-- and one that is undone
pub undone_bytes : (f : Frame) (begun : List ℕ) (place : ℕ) (records : List Record) (x y : List ℕ) →
    KeepsBegin f begun place records x (Just x) → PutsBack f (length records) x y → Ends f begun y (Just y)
undone_bytes f begun place records x y k p = record {
  rest = record { regions = p.regions; gate = p.gate; only = λ image e. e };
  heap = same_Some _ _ (sym p.gives ∙ k.gives);
}
