-- What opening a disk gives, and worked examples of a log region.
use Rattle.std.proofs.Common.{◌≡◌, ◌≤◌, ◌<◌, ℕ, suc, ◌+◌, ◌-◌, ◌*◌}
use Rattle.std.proofs.Common.{List, [], ◌∷◌, ◌++◌, length, take, get_or, refl, ap, ◌∙◌, arith}
use Rattle.std.proofs.Common.{Some, None}
use Rattle.std.specs.Prelude.{replicate}
use Rattle.std.proofs.lemmas.List.{drop_more}
use Rattle.std.proofs.lemmas.Bool.{le-leb, lt-leb}
use Rattle.sdr_log.specs.Frame.{four, first_number, frame_of, disk_bytes}
use Rattle.sdr_log.specs.Log.{log_of, heap_of, batches_of, records_of, read_log, put_back_in, put_back_of}
use Rattle.sdr_log.specs.declared.frame.Frame.{Frame}
use Rattle.sdr_base.specs.Parts.{part}

-- a closed gate: no batch is open
row_of_a_closed_gate : batches_of 128 (replicate 128 0) ≡ Some []
unfolding batches_of
row_of_a_closed_gate = refl

-- an open batch of one record, with a closed gate behind it
row_of_one_record :
    batches_of 128 (1 ∷ four 1 ++ four 5 ++ replicate 64 9 ++ replicate 55 0)
    ≡ Some (record { line = 5; bytes = replicate 64 9 } ∷ [])
unfolding batches_of records_of four first_number
row_of_one_record = refl

-- two open batches
row_of_two_batches :
    batches_of 192 (1 ∷ four 1 ++ four 5 ++ replicate 64 9 ++ 7 ∷ four 1 ++ four 300 ++ replicate 64 8 ++ replicate
    46 0)
    ≡ Some (record { line = 5; bytes = replicate 64 9 } ∷ record { line = 300; bytes = replicate 64 8 } ∷ [])
unfolding batches_of records_of four first_number
row_of_two_batches = refl

-- an open batch without a record
row_of_an_empty_batch : batches_of 128 (1 ∷ replicate 127 0) ≡ None
unfolding batches_of first_number
row_of_an_empty_batch = refl

-- an open batch of two records in two lines, which ends behind the region
row_of_a_long_batch : batches_of 128 (1 ∷ four 2 ++ replicate 123 0) ≡ None
unfolding batches_of four first_number
row_of_a_long_batch = refl

-- an open batch that ends where the region does, so that there is no place for the next gate
row_of_a_batch_to_the_end : batches_of 73 (1 ∷ four 1 ++ replicate 68 0) ≡ None
unfolding batches_of four first_number
row_of_a_batch_to_the_end = refl

-- the log region begins with the first gate
pub log_of-cons : (f : Frame) (x : List ℕ) (k : ℕ) → 64 * f.log_lines ≡ suc k → 64 + 64 * f.log_lines ≤ length x →
    log_of f x ≡ get_or x 64 0 ∷ part 65 k x
unfolding log_of
log_of-cons f x k is le =
    ap (λ (n : ℕ). part 64 n x) is ∙ ap (λ (l : List ℕ). take (suc k) l) (drop_more x 64 0 (omega arith))

batches_closed : (bytes gate : ℕ) (log : List ℕ) → gate ≡ 0 → batches_of (suc bytes) (gate ∷ log) ≡ Some []
unfolding batches_of
batches_closed bytes gate log is = rw is refl

-- with the first gate closed no batch is open
pub read_log_closed : (f : Frame) (x : List ℕ) → 1 ≤ f.log_lines → disk_bytes f ≤ length x → get_or x 64 0 ≡ 0 →
    read_log f x ≡ Some []
unfolding read_log
read_log_closed f x some le gate =
    let k = 64 * f.log_lines - 1 in
    let is : 64 * f.log_lines ≡ suc k = omega arith in
    ap (λ (l : List ℕ). batches_of (64 * f.log_lines) l) (log_of-cons f x k is (omega arith))
    ∙ ap (λ (n : ℕ). batches_of n (get_or x 64 0 ∷ part 65 k x)) is
    ∙ batches_closed k (get_or x 64 0) (part 65 k x) gate

-- and the heap put back is the heap region
pub put_back_of-closed : (f : Frame) (x : List ℕ) → frame_of (part 0 64 x) ≡ Some f → 1 ≤ f.log_lines →
    disk_bytes f ≤ length x → get_or x 64 0 ≡ 0 → put_back_of x ≡ Some (heap_of f x)
unfolding put_back_of put_back_in
put_back_of-closed f x head some le gate =
    rw (head, le-leb (disk_bytes f) (length x) le, read_log_closed f x some le gate) refl

-- bytes without a head give no heap
pub put_back_of-headless : (x : List ℕ) → frame_of (part 0 64 x) ≡ None → put_back_of x ≡ None
unfolding put_back_of
put_back_of-headless x none = rw none refl

-- nor do bytes that are too few
pub put_back_of-short : (f : Frame) (x : List ℕ) → frame_of (part 0 64 x) ≡ Some f → length x < disk_bytes f →
    put_back_of x ≡ None
unfolding put_back_of
put_back_of-short f x head short = rw (head, lt-leb (disk_bytes f) (length x) short) refl
