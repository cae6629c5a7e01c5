-- Sources of files and items that were made.
use Rattle.std.proofs.Common.{◌≡◌, ℕ, ◌+◌, ◌*◌, ◌≤◌, List, [], ◌++◌, length, drop, inl, inr, length-append, length-drop, sym, ap, ◌∙◌, arith, subst}
use Rattle.std.proofs.Math.ListN.{drop_of_length-le}
use Rattle.std.proofs.lemmas.List.{append-nil, take-append-le, take_all}
use Rattle.sdr_base.specs.Making.{MakesThing}
use Rattle.sdr_base.specs.Objects.{Heap, OnlyShort}
use Rattle.sdr_base.specs.Parts.{overwrite}
use Rattle.sdr_base.specs.Sources.{SourceRow}
use Rattle.sdr_base.specs.Words.{layout}
use Rattle.sdr_base.specs.declared.medium.Medium.TheVariants as media
use Rattle.sdr_base.specs.declared.refusal.Refusal.TheVariants as refusals
use Rattle.sdr_base.specs.declared.stop.Stop.{Stop}
use Rattle.sdr_base.specs.declared.stop.Stop.TheVariants.{Refused, DiskFault, MediaFault, Failed}
use Rattle.sdr_base.proofs.LayoutLemmas.{layout-append, length-layout}
use Rattle.sdr_base.proofs.MakingLemmas.{taken_makes}
use Rattle.zco_ref.specs.Kept.{counted_block, counted_entries}
use Rattle.zco_ref.specs.Making.{BulkStops, FileStops, IsPathLength, MakesBulk, MakesFile, PathRefused, SourceRefused, TakesSource, file_row, plain_row, unused}
use Rattle.zco_ref.proofs.KeptLemmas.{source_words}

-- a source of these words and this path fills so many bytes
length-block : (row : SourceRow) → length (counted_block (unused row)).bytes ≡ 48 + length row.path
length-block row = length-layout (source_words (unused row)) row.path

-- the block of a source that was taken is a source that was made
pub source_made : {addr : ℕ} {old new : Heap} (row : SourceRow) → TakesSource row addr old new →
    MakesThing (48 + length row.path) addr (counted_entries addr (unused row)) old new
source_made {addr} {old} {new} row t =
    subst (λ (n : ℕ). MakesThing n addr (counted_entries addr (unused row)) old new) (length-block row) (taken_makes t)

pub file_made : {addr : ℕ} {old new : Heap} (path : List ℕ) (bytes : ℕ) → IsPathLength (length path) → bytes ≤ 1099511627776 →
    TakesSource (file_row path bytes) addr old new → MakesFile path bytes addr old new
file_made path bytes fits short t = record { path_length = fits; short = short; makes = source_made (file_row path bytes) t }

pub bulk_made : {addr : ℕ} {old new : Heap} (item bytes : ℕ) → bytes ≤ 1099511627776 →
    TakesSource (plain_row media.Bulk item bytes) addr old new → MakesBulk item bytes addr old new
bulk_made item bytes short t = record { short = short; makes = source_made (plain_row media.Bulk item bytes) t }

-- bytes in front, and others behind them to the end
pub filled : (front behind x : List ℕ) → length x ≡ length front + length behind →
    overwrite (length front) behind (overwrite 0 front x) ≡ front ++ behind
filled front behind x long =
    let rest = drop (0 + length front) x in
    let a = length-append front rest in
    let d = length-drop (0 + length front) x in
    let whole : length (front ++ rest) ≤ length front + length behind = omega (arith, a, d, long) in
    ap (λ (l : List ℕ). (l ++ behind) ++ drop (length front + length behind) (front ++ rest))
    (take-append-le (length front) front rest (omega arith) ∙ take_all (length front) front (omega arith))
    ∙ ap (λ (l : List ℕ). (front ++ behind) ++ l) (drop_of_length-le (front ++ rest) {i = length front + length behind} whole)
    ∙ append-nil (front ++ behind)

-- the words in front, and the path behind them
pub file_is : (words path head x : List ℕ) → head ≡ layout words [] → length words ≡ 6 → length x ≡ 48 + length path →
    overwrite 48 path (overwrite 0 head x) ≡ layout words path
file_is words path head x e six long =
    let l : length head ≡ 48 = ap length e ∙ length-layout words [] ∙ ap (λ (n : ℕ). 8 * n + 0) six in
    ap (λ (n : ℕ). overwrite n path (overwrite 0 head x)) (sym l)
    ∙ filled head path x (omega (arith, l, long))
    ∙ ap (λ (h : List ℕ). h ++ path) e
    ∙ layout-append words path

-- why none is made: for its path
pub path_stops : (path : List ℕ) (bytes : ℕ) (old new : Heap) (stop : Stop) → PathRefused (length path) stop → new ≡ old →
    FileStops path bytes old new stop
path_stops path bytes old new (Refused (refusals.BadLength bad most)) p e = (inl p, e)
path_stops path bytes old new (Refused refusal) p e = absurd p
path_stops path bytes old new DiskFault p e = absurd p
path_stops path bytes old new MediaFault p e = absurd p
path_stops path bytes old new Failed p e = absurd p

-- or for its length
pub bytes_stops : (path : List ℕ) (bytes : ℕ) (old new : Heap) (stop : Stop) → IsPathLength (length path) → SourceRefused bytes stop →
    new ≡ old → FileStops path bytes old new stop
bytes_stops path bytes old new (Refused (refusals.BadLength bad most)) f p e = (inr (f, p), e)
bytes_stops path bytes old new (Refused refusal) f p e = absurd p
bytes_stops path bytes old new DiskFault f p e = absurd p
bytes_stops path bytes old new MediaFault f p e = absurd p
bytes_stops path bytes old new Failed f p e = absurd p

-- or for want of a block or of log room
pub file_stops : (path : List ℕ) (bytes : ℕ) (old new : Heap) (stop : Stop) → IsPathLength (length path) → bytes ≤ 1099511627776 →
    OnlyShort (48 + length path) old new stop → FileStops path bytes old new stop
file_stops path bytes old new (Refused (refusals.BadLength bad most)) f short s = absurd s
file_stops path bytes old new (Refused refusal) f short s = (f, short, s)
file_stops path bytes old new DiskFault f short s = s
file_stops path bytes old new MediaFault f short s = s
file_stops path bytes old new Failed f short s = s

pub bulk_refused : (bytes : ℕ) (old new : Heap) (stop : Stop) → SourceRefused bytes stop → new ≡ old → BulkStops bytes old new stop
bulk_refused bytes old new (Refused (refusals.BadLength bad most)) p e = (p, e)
bulk_refused bytes old new (Refused refusal) p e = absurd p
bulk_refused bytes old new DiskFault p e = absurd p
bulk_refused bytes old new MediaFault p e = absurd p
bulk_refused bytes old new Failed p e = absurd p

pub bulk_stops : (bytes : ℕ) (old new : Heap) (stop : Stop) → bytes ≤ 1099511627776 → OnlyShort 48 old new stop →
    BulkStops bytes old new stop
bulk_stops bytes old new (Refused (refusals.BadLength bad most)) short s = absurd s
bulk_stops bytes old new (Refused refusal) short s = (short, s)
bulk_stops bytes old new DiskFault short s = s
bulk_stops bytes old new MediaFault short s = s
bulk_stops bytes old new Failed short s = s
