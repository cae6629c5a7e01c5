-- Records that may stand together in the log, and those that change nothing.
use Rattle.std.proofs.Common.{◌≡◌, ◌≤◌, ◌<◌, ℕ, ◌+◌, ◌*◌, Bool, true, false, ◌||◌, ◌==◌, List, [], ◌∷◌, ◌++◌, length}
use Rattle.std.proofs.Common.{refl, sym, ap, ◌∙◌, arith, append-nil, append_assoc}
use Rattle.std.proofs.lemmas.Bool.Decides.{nat_tests}
use Rattle.sdr_base.proofs.PartsLemmas.{length-overwrite, part-overwrite}
use Rattle.sdr_base.specs.Parts.{overwrite, part}
use Rattle.sdr_log.specs.Calls.{AreBelow, AreNamed, HoldLines}
use Rattle.sdr_log.specs.Log.{AreLines, are_good, names_line, put_records}
use Rattle.sdr_log.specs.declared.record.Record.{Record}
use Rattle.sdr_log.proofs.RecordsLemmas.{AreLines-push, SameBut-put_records, are_good-cons, names_line-push, part-same_but}
use Rattle.sdr_log.proofs.RecordsLemmas.{put_records-own}

-- the first of good records are good
pub are_good-before : (n : ℕ) (records more : List Record) → are_good n (records ++ more) ≡ true →
    are_good n records ≡ true
are_good-before n [] more good = refl
are_good-before n (r ∷ records) more good =
    let g = are_good-cons n r (records ++ more) good in
    let rest = are_good-before n records more g.2 in
    let new = unnamed records more r.line g.1 in
    grind (arith, nat_tests, g.0)
  where
    unnamed : (records more : List Record) (line : ℕ) → names_line (records ++ more) line ≡ false →
        names_line records line ≡ false
    unnamed [] more line other = refl
    unnamed (o ∷ records) more line other =
        let rest = unnamed records more line (grind (arith, nat_tests)) in grind (arith, nat_tests)

-- the last of good records is of the heap, and no other names its line
pub are_good-last : (n : ℕ) (records : List Record) (r : Record) → are_good n (records ++ r ∷ []) ≡ true →
    (r.line < n) × (names_line records r.line ≡ false)
are_good-last n [] r good = (grind (arith, nat_tests), refl)
are_good-last n (o ∷ records) r good =
    let g = are_good-cons n o (records ++ r ∷ []) good in
    let rest = are_good-last n records r g.2 in (
      rest.0,
      apart o.line r.line (names_line records r.line) rest.1 (other (names_line records o.line) (r.line == o.line)
          (sym (names_line-push records r o.line) ∙ g.1)),
    )
  where
    other : (a b : Bool) → (a || b) ≡ false → b ≡ false
    other true b is = absurd cc
    other false b is = is

    apart : (a b : ℕ) (named : Bool) → named ≡ false → (b == a) ≡ false → (a == b || named) ≡ false
    apart a b named is ne = grind (arith, nat_tests)

-- a record among others names its line below the end of the heap
pub names_line-below : (n : ℕ) (records : List Record) (line : ℕ) → are_good n records ≡ true →
    names_line records line ≡ true → line < n
names_line-below n [] line good is = absurd cc
names_line-below n (r ∷ records) line good is =
    let g = are_good-cons n r records good in by (r.line == line) refl is g.0
    (λ e. names_line-below n records line g.2 e)
  where
    by : (b : Bool) → (r.line == line) ≡ b → (b || names_line records line) ≡ true → r.line < n →
        (names_line records line ≡ true → line < n) → line < n
    by true same is below rest = let e : r.line ≡ line = grind (arith, nat_tests) in omega (arith, e, below)
    by false same is below rest = rest is

-- lines' own bytes put there change nothing
pub put_records-all_own : (n : ℕ) (earlier records : List Record) (heap : List ℕ) →
    are_good n (earlier ++ records) ≡ true → AreLines earlier → AreLines records → 64 * n ≤ length heap →
    HoldLines heap records → put_records (earlier ++ records) heap ≡ put_records earlier heap
put_records-all_own n earlier [] heap good lines own_lines le own =
    ap (λ (l : List Record). put_records l heap) (append-nil earlier)
put_records-all_own n earlier (r ∷ records) heap good lines own_lines le own =
    let split : earlier ++ (r ∷ records) ≡ (earlier ++ r ∷ []) ++ records =
    sym (append_assoc earlier (r ∷ []) records) in
    let all : are_good n ((earlier ++ r ∷ []) ++ records) ≡ true = ap (are_good n) (sym split) ∙ good in
    let pushed = are_good-before n (earlier ++ r ∷ []) records all in
    let last = are_good-last n earlier r pushed in
    ap (λ (l : List Record). put_records l heap) split
    ∙ put_records-all_own n (earlier ++ r ∷ []) records heap all (AreLines-push earlier r lines own_lines.0)
    own_lines.1 le own.1
    ∙ put_records-own n earlier r heap (are_good-before n earlier (r ∷ []) pushed) lines le last.0 last.1 own.0

-- records name their own lines
pub AreNamed-own : (records : List Record) → AreNamed records records
AreNamed-own [] = tt
AreNamed-own (r ∷ records) = (grind (arith, nat_tests), again r records records (AreNamed-own records))
  where
    again : (r : Record) (records lines : List Record) → AreNamed records lines → AreNamed (r ∷ records) lines
    again r records [] named = tt
    again r records (l ∷ lines) named = (or_true (r.line == l.line) named.0, again r records lines named.1)
      where
        or_true : (b : Bool) {c : Bool} → c ≡ true → (b || c) ≡ true
        or_true b e = grind arith

-- good records are of the heap's lines
pub AreBelow-good : (n : ℕ) (records : List Record) → are_good n records ≡ true → AreBelow n records
AreBelow-good n [] good = tt
AreBelow-good n (r ∷ records) good =
    let g = are_good-cons n r records good in (g.0, AreBelow-good n records g.2)

-- records put into a heap stand there
pub HoldLines-put_records : (n : ℕ) (records : List Record) (heap : List ℕ) → are_good n records ≡ true →
    AreLines records → 64 * n ≤ length heap → HoldLines (put_records records heap) records
HoldLines-put_records n [] heap good lines le = tt
HoldLines-put_records n (r ∷ records) heap good lines le =
    let g = are_good-cons n r records good in
    let inside : 64 * r.line + length r.bytes ≤ length heap = omega (arith, g.0, lines.0) in
    let one = overwrite (64 * r.line) r.bytes heap in
    let long = length-overwrite (64 * r.line) r.bytes heap inside in
    let rest = SameBut-put_records n records one g.2 lines.1 (omega (arith, long)) in (
      sym (part-same_but records r.line one (put_records records one) rest g.1 (omega (arith, long, inside, lines.0))
          ∙ ap (λ (k : ℕ). part (64 * r.line) k one) (sym lines.0)
          ∙ part-overwrite (64 * r.line) r.bytes heap inside),
      HoldLines-put_records n records one g.2 lines.1 (omega (arith, long)),
    )
