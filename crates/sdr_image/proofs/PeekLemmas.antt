-- What a disk gives depends on its head and its regions alone.
use Rattle.std.proofs.Common.{◌≡◌, ◌≤◌, ℕ, ◌+◌, ◌-◌, ◌*◌, List, ◌++◌, length, Result, Ok, Err, take, drop, refl, ap, sym, subst, ◌∙◌, arith, Some, None, take-take}
use Rattle.std.specs.Prelude.{IfErr, IfOk}
use Rattle.std.proofs.lemmas.Bool.{le-leb}
use Rattle.std.proofs.lemmas.List.{drop-take}
use Rattle.sdr_base.proofs.PartsLemmas.{length-part}
use Rattle.sdr_base.specs.Parts.{part}
use Rattle.sdr_image.proofs.VecLemmas.{items_anew}
use Rattle.sdr_image.specs.Opening.{OnNotFormatted}
use Rattle.sdr_image.specs.declared.error.ImageError.{ImageError}
use Rattle.sdr_image.specs.declared.error.ImageError.TheVariants as errors
use Rattle.sdr_log.specs.Calls.{GivesNone, IsFramed}
use Rattle.sdr_log.proofs.LogLemmas.{put_back_of-closed}
use Rattle.sdr_log.specs.Frame.{disk_bytes, frame_of, heap_place}
use Rattle.sdr_log.specs.Log.{first_gate, heap_of, log_of, put_back_in, put_back_of, read_log}
use Rattle.sdr_log.specs.Logged.{GivesHeap}
use Rattle.sdr_log.specs.declared.frame.Frame.{Frame}
use Rattle.sdr_image.specs.Peeking.{IsCopied}

-- a part of the first bytes is that part of all
part-part : (p n most : ℕ) (x : List ℕ) → p + n ≤ most → part p n (part 0 most x) ≡ part p n x
part-part p n most x le =
    let is : most ≡ p + (most - p) = omega arith in
    ap (λ (m : ℕ). take n (drop p (take m x))) is
    ∙ ap (λ (l : List ℕ). take n l) (drop-take p (most - p) x)
    ∙ take-take n (most - p) (drop p x) (omega arith)

module _ (f : Frame) (x : List ℕ) (fits : disk_bytes f ≤ length x) where
  -- the head and the regions
  abbrev front : List ℕ
  front = part 0 (disk_bytes f) x

  log_same : log_of f front ≡ log_of f x
  unfolding log_of
  log_same = part-part 64 (64 * f.log_lines) (disk_bytes f) x (omega arith)

  heap_same : heap_of f front ≡ heap_of f x
  unfolding heap_of
  heap_same = part-part (heap_place f) (64 * f.heap_lines) (disk_bytes f) x (omega arith)

  pub head_same : part 0 64 front ≡ part 0 64 x
  head_same = part-part 0 64 (disk_bytes f) x (omega arith)

  back_same : put_back_in f front ≡ put_back_in f x
  unfolding put_back_in read_log
  back_same = rw (log_same, heap_same) refl

  -- they give what the disk gives
  pub put_back_of-front : frame_of (part 0 64 x) ≡ Some f → put_back_of front ≡ put_back_of x
  unfolding put_back_of
  put_back_of-front head =
      rw (head_same, head, length-part 0 (disk_bytes f) x (omega (arith, fits)), le-leb (disk_bytes f) (disk_bytes f) (omega arith), le-leb (disk_bytes f) (length x) fits) back_same

-- what is read of a disk that is long enough, from its front up to the end of its regions, is a copy
pub is_copied : (f : Frame) (x copy : List ℕ) → IsFramed x f → copy ≡ part 0 (disk_bytes f) x → IsCopied f x copy
is_copied f x copy framed read =
    subst (λ (y : List ℕ). IsCopied f x y) (sym read) (record {
      head = subst (λ (h : List ℕ). frame_of h ≡ Some f) (sym (head_same f x framed.fits)) framed.head;
      gives = put_back_of-front f x framed.fits framed.head;
    })

-- where a copy gives no heap of these regions, the disk gives none
pub none_copied : (f : Frame) (x copy : List ℕ) → IsCopied f x copy → GivesNone f copy → put_back_of x ≡ None
none_copied f x copy is none = sym is.gives ∙ none is.head

-- the heap that a copy gives is the disk's
pub heap_copied : (f : Frame) (x copy heap : List ℕ) → IsCopied f x copy → GivesHeap heap copy → put_back_of x
    ≡ Some heap
heap_copied f x copy heap is gives = sym is.gives ∙ gives

-- of the bytes that were read into a vector
pub copy_read : (f : Frame) (len : ℕ) (new old x copy : List ℕ) → len ≡ disk_bytes f → length new ≡ len → new ≡ part 0 (length new) x
    → copy ≡ take len (new ++ drop (length new) old) → copy ≡ part 0 (disk_bytes f) x
copy_read f len new old x copy len_is long read is = is ∙ items_anew len new old long ∙ read ∙ ap (λ (n : ℕ). part 0 n x) (long ∙ len_is)

-- what follows where a heap was given, or none was
pub if_given : (r : Result (List ℕ) ImageError) (P Q : List ℕ → Type 0) → ((s : List ℕ) → P s → Q s) → IfOk r P → IfOk r Q
if_given (Ok s) P Q then p = then s p
if_given (Err why) P Q then p = tt

pub if_none : (r : Result (List ℕ) ImageError) (P Q : Type 0) → (P → Q) → IfErr r (λ why. OnNotFormatted why P) → IfErr r (λ why. OnNotFormatted why Q)
if_none (Ok s) P Q then p = tt
if_none (Err errors.NotFormatted) P Q then p = then p
if_none (Err errors.DiskFault) P Q then p = tt
if_none (Err errors.NoMemory) P Q then p = tt

-- where no batch is open, the heap region is what the disk gives
pub heap_closed : (f : Frame) (x heap : List ℕ) → IsFramed x f → first_gate x ≡ 0 → heap ≡ heap_of f x → put_back_of x ≡ Some heap
heap_closed f x heap framed gate region =
    put_back_of-closed f x framed.head (omega (arith, framed.limits.least_log)) framed.fits gate ∙ ap Some (sym region)
