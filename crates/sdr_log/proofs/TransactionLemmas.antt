-- What the calls of a transaction need of one another, from rest to rest.
use Rattle.std.proofs.Common.{◌≡◌, ℕ, suc, ◌-◌, ◌*◌, true, Bool, ◌||◌, ◌==◌, List, [], ◌∷◌, ◌++◌, sym, ap, ◌∙◌}
use Rattle.std.proofs.Common.{subst, arith, Some}
use Rattle.std.specs.Prelude.{option_map}
use Rattle.std.proofs.lemmas.Option.{same_Some}
use Rattle.sdr_disk.specs.History.{MayLeave}
use Rattle.sdr_base.specs.Parts.{part}
use Rattle.sdr_disk.proofs.RangesLemmas.{Agrees-nil}
use Rattle.sdr_log.specs.Batch.{end_of, log_end}
use Rattle.sdr_log.specs.Calls.{AreNamed, HoldLines, MayOpen, MayPut, OpensBatch}
use Rattle.sdr_log.specs.Log.{are_good, first_gate, heap_of, names_line, read_log}
use Rattle.sdr_log.specs.Logged.{HasRegions, IsAtRest}
use Rattle.sdr_log.specs.declared.frame.Frame.{Frame}
use Rattle.sdr_log.specs.declared.record.Record.{Record}
use Rattle.sdr_log.proofs.FoundLemmas.{end_of-closed}
use Rattle.sdr_log.proofs.LogLemmas.{log_of-cons, read_log_closed}
use Rattle.sdr_log.proofs.LoggedLemmas.{HasRegions-limits, rest_logged}

-- a disk in memory of bytes with a head and a closed first gate is at rest
pub rest_fresh : (f : Frame) (bytes : List ℕ) → HasRegions f bytes → first_gate bytes ≡ 0 →
    IsAtRest f bytes (MayLeave (record { first = bytes; changes = [] }) 0)
rest_fresh f bytes r shut = record {
  regions = r;
  gate = shut;
  only = λ image left. Agrees-nil bytes image (record { long = left.long; same = left.same });
}

-- where no batch is open, the open batches end at the first place
pub log_end-closed : (f : Frame) (x : List ℕ) → HasRegions f x → first_gate x ≡ 0 → log_end f x ≡ Some 0
unfolding log_end
log_end-closed f x r shut =
    let w = HasRegions-limits f x r in
    let k = 64 * f.log_lines - 1 in
    let is : 64 * f.log_lines ≡ suc k = omega (arith, w.least_log) in
    ap (end_of (64 * f.log_lines)) (log_of-cons f x k is (omega (arith, r.inside)))
    ∙ ap (λ (n : ℕ). end_of n (first_gate x ∷ part 65 k x)) is
    ∙ end_of-closed k (first_gate x) (part 65 k x) shut

-- at rest, a batch of lines' own bytes may be opened at the first place
pub rest_may_open : (f : Frame) (records : List Record) (x : List ℕ) (left : List ℕ → Type 0) → IsAtRest f x left →
    are_good f.heap_lines records ≡ true → HoldLines (heap_of f x) records → MayOpen f 0 records x left
unfolding rest_logged
rest_may_open f records x left r good own = record {
  logged = rest_logged f x left r;
  ends = log_end-closed f x r.regions r.gate;
  good = good;
  own = own;
}

-- once a batch is open, the lines that it names may be put
pub opens_may_put : (f : Frame) (place : ℕ) (records lines earlier : List Record) (x y : List ℕ)
    (left : List ℕ → Type 0) → OpensBatch f place records x y left → read_log f x ≡ Some earlier →
    AreNamed records lines → MayPut f lines y left
opens_may_put f place records lines earlier x y left o log named =
    let l = o.is_open.logged in
    let all : earlier ++ records ≡ l.records =
    same_Some (earlier ++ records) l.records
    (sym (ap (option_map (λ rs. rs ++ records)) log) ∙ sym o.log ∙ l.logs.log) in
    record {
      logged = l;
      named = subst (λ (rs : List Record). AreNamed rs lines) all (behind earlier records lines named);
    }
  where
    named_behind : (earlier records : List Record) (line : ℕ) → names_line records line ≡ true →
        names_line (earlier ++ records) line ≡ true
    named_behind [] records line is = is
    named_behind (r ∷ earlier) records line is = or_true (r.line == line) (named_behind earlier records line is)
      where
        or_true : (b : Bool) {c : Bool} → c ≡ true → (b || c) ≡ true
        or_true b e = grind arith

    behind : (earlier records lines : List Record) → AreNamed records lines → AreNamed (earlier ++ records) lines
    behind earlier records [] named = tt
    behind earlier records (r ∷ lines) named =
        (named_behind earlier records r.line named.0, behind earlier records lines named.1)

-- at rest no batch is open
pub rest_reads : (f : Frame) (x : List ℕ) (left : List ℕ → Type 0) → IsAtRest f x left → read_log f x ≡ Some []
rest_reads f x left r =
    let w = HasRegions-limits f x r.regions in
    read_log_closed f x (omega (arith, w.least_log)) r.regions.inside r.gate

-- a batch that was opened at rest is the only one
pub opens_alone : (f : Frame) (records : List Record) (x y : List ℕ) (left left' : List ℕ → Type 0) →
    IsAtRest f x left → OpensBatch f 0 records x y left' → read_log f y ≡ Some records
opens_alone f records x y left left' r o = o.log ∙ ap (option_map (λ rs. rs ++ records)) (rest_reads f x left r)
