-- How the bytes now change with a line that is written.
use Rattle.std.proofs.Common.{◌≡◌, ◌≤◌, ◌<◌, ◌∙◌, ◌⊎◌, inl, inr, ℕ, ◌+◌, ◌*◌, false, ◌==◌, List, [], ◌∷◌, ◌++◌, length}
use Rattle.std.proofs.Common.{refl, sym, ap, arith}
use Rattle.std.proofs.lemmas.Bool.Decides.{nat_tests}
use Rattle.sdr_base.specs.Parts.{overwrite, part}
use Rattle.sdr_base.proofs.PartsLemmas.{length-overwrite, length-part, overwrite-apart, overwrite-inside, overwrite-part}
use Rattle.sdr_log.specs.Calls.{AreBelow}
use Rattle.sdr_log.specs.Log.{AreLines, names_line, put_records}
use Rattle.sdr_log.specs.declared.record.Record.{Record}
use Rattle.sdr_log.proofs.RecordsLemmas.{put_records-push}

apart : (a b : ℕ) → (a == b) ≡ false → (a < b) ⊎ (b < a)
apart a b ne = grind (arith, nat_tests)

first_other : (r : Record) (news : List Record) (line : ℕ) → names_line (r ∷ news) line ≡ false →
    ((r.line == line) ≡ false) × (names_line news line ≡ false)
first_other r news line none = (grind (arith, none), grind (arith, none))

-- bytes of a line that isn't put may be written before or after
pub put_records-apart : (n : ℕ) (news : List Record) (heap : List ℕ) (line at : ℕ) (from : List ℕ) →
    AreBelow n news → AreLines news → 64 * n ≤ length heap → line < n → names_line news line ≡ false →
    at + length from ≤ 64 →
    put_records news (overwrite (64 * line + at) from heap) ≡ overwrite (64 * line + at) from (put_records news heap)
put_records-apart n [] heap line at from below long wide lt other inside = refl
put_records-apart n (r ∷ news) heap line at from below long wide lt other inside =
    let o = first_other r news line other in
    let within : 64 * r.line + length r.bytes ≤ length heap = omega (arith, below.0, long.0, wide) in
    let same = length-overwrite (64 * r.line) r.bytes heap within in
    ap (put_records news) (swap (apart r.line line o.0))
    ∙ put_records-apart n news (overwrite (64 * r.line) r.bytes heap) line at from below.1 long.1
    (omega (arith, same, wide)) lt o.1 inside
  where
    swap : (r.line < line) ⊎ (line < r.line) →
        overwrite (64 * r.line) r.bytes (overwrite (64 * line + at) from heap)
        ≡ overwrite (64 * line + at) from (overwrite (64 * r.line) r.bytes heap)
    swap (inl less) =
        sym (overwrite-apart (64 * r.line) (64 * line + at) r.bytes from heap (omega (arith, less, long.0))
        (omega (arith, lt, inside, wide)))
    swap (inr more) =
        overwrite-apart (64 * line + at) (64 * r.line) from r.bytes heap (omega (arith, more, inside))
        (omega (arith, below.0, long.0, wide))

-- a line that enters the buffer with other bytes
pub entered : (news : List Record) (heap : List ℕ) (line at : ℕ) (from : List ℕ) →
    64 * line + 64 ≤ length (put_records news heap) → at + length from ≤ 64 →
    put_records (news ++ record { line = line; bytes = overwrite at from (part (64 * line) 64 (put_records news heap)) } ∷ [])
    heap ≡ overwrite (64 * line + at) from (put_records news heap)
entered news heap line at from wide inside =
    let now = put_records news heap in
    let ys = part (64 * line) 64 now in
    let long : length ys ≡ 64 = length-part (64 * line) 64 now wide in
    put_records-push news (record { line = line; bytes = overwrite at from ys }) heap
    ∙ sym (overwrite-inside (64 * line) at ys from now (omega (arith, long, wide)) (omega (arith, long, inside)))
    ∙ ap (overwrite (64 * line + at) from) (overwrite-part (64 * line) 64 now wide)

-- a line that is written in the buffer
pub changed : (n : ℕ) (r : Record) (later : List Record) (heap : List ℕ) (at : ℕ) (from : List ℕ) →
    AreBelow n (r ∷ later) → AreLines (r ∷ later) → 64 * n ≤ length heap → names_line later r.line ≡ false →
    at + length from ≤ 64 →
    put_records (record { line = r.line; bytes = overwrite at from r.bytes } ∷ later) heap
    ≡ overwrite (64 * r.line + at) from (put_records (r ∷ later) heap)
changed n r later heap at from below long wide other inside =
    let p = 64 * r.line in
    let within : p + length r.bytes ≤ length heap = omega (arith, below.0, long.0, wide) in
    ap (put_records later) (sym (overwrite-inside p at r.bytes from heap within (omega (arith, long.0, inside))))
    ∙ put_records-apart n later (overwrite p r.bytes heap) r.line at from below.1 long.1
    (omega (arith, length-overwrite p r.bytes heap within, wide)) below.0 other inside

-- a logged line that is written through
pub through : (n : ℕ) (news : List Record) (heap : List ℕ) (line at : ℕ) (from : List ℕ) → AreBelow n news →
    AreLines news → 64 * n ≤ length heap → line < n → names_line news line ≡ false → at + length from ≤ 64 →
    put_records news (overwrite (64 * line) (overwrite at from (part (64 * line) 64 heap)) heap)
    ≡ overwrite (64 * line + at) from (put_records news heap)
through n news heap line at from below long wide lt other inside =
    let ys = part (64 * line) 64 heap in
    let size : length ys ≡ 64 = length-part (64 * line) 64 heap (omega (arith, lt, wide)) in
    ap (put_records news)
    (sym (overwrite-inside (64 * line) at ys from heap (omega (arith, size, lt, wide)) (omega (arith, size, inside)))
    ∙ ap (overwrite (64 * line + at) from) (overwrite-part (64 * line) 64 heap (omega (arith, lt, wide))))
    ∙ put_records-apart n news heap line at from below long wide lt other inside
