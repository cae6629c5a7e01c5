-- Records put in place of their lines.
use Rattle.std.proofs.Common.{◌≡◌, ◌≤◌, ◌<◌, ◌⊎◌, inl, inr, ℕ, ◌+◌, ◌*◌, ◌/◌, Bool, true, false}
use Rattle.std.proofs.Common.{◌||◌, ◌==◌}
use Rattle.std.proofs.Common.{List, [], ◌∷◌, ◌++◌, length, get_or, refl, sym, ap, ◌∙◌, subst, arith}
use Rattle.std.proofs.lemmas.List.{ext_get_or}
use Rattle.std.proofs.lemmas.Bool.Decides.{nat_tests}
use Rattle.sdr_base.proofs.PartsLemmas.{sides, length-overwrite, length-part, get_or-part, overwrite-part}
use Rattle.sdr_base.proofs.PartsLemmas.{get_or-overwrite_inside, get_or-overwrite_outside}
use Rattle.sdr_base.specs.Parts.{overwrite, part}
use Rattle.sdr_log.specs.Log.{names_line, are_good, AreLines, put_records}
use Rattle.sdr_log.specs.declared.record.Record.{Record}

-- two heaps that differ in the lines of these records alone
pub record SameBut (records : List Record) (a b : List ℕ) : Type 0 where
  pub long : length b ≡ length a
  pub same : (i : ℕ) → names_line records (i / 64) ≡ false → get_or b i 0 ≡ get_or a i 0

pub are_good-cons : (n : ℕ) (r : Record) (records : List Record) → are_good n (r ∷ records) ≡ true →
    (r.line < n) × (names_line records r.line ≡ false) × (are_good n records ≡ true)
are_good-cons n r records g = grind (arith, nat_tests)

-- a record of another line at the end
pub names_line-push : (records : List Record) (r : Record) (line : ℕ) →
    names_line (records ++ r ∷ []) line ≡ (names_line records line || r.line == line)
names_line-push [] r line = or_false (r.line == line)
  where
    or_false : (b : Bool) → (b || false) ≡ (false || b)
    or_false true = refl
    or_false false = refl
names_line-push (o ∷ records) r line =
    ap (λ (b : Bool). o.line == line || b) (names_line-push records r line)
    ∙ or_assoc (o.line == line) (names_line records line) (r.line == line)
  where
    or_assoc : (a b c : Bool) → (a || (b || c)) ≡ (a || b || c)
    or_assoc true b c = refl
    or_assoc false b c = refl

pub are_good-push : (n : ℕ) (records : List Record) (r : Record) → are_good n records ≡ true → r.line < n →
    names_line records r.line ≡ false → are_good n (records ++ r ∷ []) ≡ true
are_good-push n [] r good below new = grind (arith, nat_tests)
are_good-push n (o ∷ records) r good below new =
    let g = are_good-cons n o records good in
    let rest = are_good-push n records r g.2 below (grind (arith, nat_tests)) in
    grind (arith, nat_tests, names_line-push records r o.line)

pub AreLines-push : (records : List Record) (r : Record) → AreLines records → length r.bytes ≡ 64 →
    AreLines (records ++ r ∷ [])
AreLines-push [] r lines long = (long, tt)
AreLines-push (o ∷ records) r lines long = (lines.0, AreLines-push records r lines.1 long)

pub put_records-push : (records : List Record) (r : Record) (heap : List ℕ) →
    put_records (records ++ r ∷ []) heap ≡ overwrite (64 * r.line) r.bytes (put_records records heap)
put_records-push [] r heap = refl
put_records-push (o ∷ records) r heap = put_records-push records r (overwrite (64 * o.line) o.bytes heap)

-- a byte within a line
line_of : (i line : ℕ) → 64 * line ≤ i → i < 64 * line + 64 → i / 64 ≡ line
line_of i line ge lt = omega arith

-- what names none of these lines names neither the first nor another
unnamed : (r : Record) (records : List Record) (line : ℕ) → names_line (r ∷ records) line ≡ false →
    (names_line (r ∷ []) line ≡ false) × (names_line records line ≡ false)
unnamed r records line other = (grind (arith, nat_tests), grind (arith, nat_tests))

-- the line put is the only one that changes
SameBut-one : (r : Record) (heap : List ℕ) → length r.bytes ≡ 64 → 64 * r.line + 64 ≤ length heap →
    SameBut (r ∷ []) heap (overwrite (64 * r.line) r.bytes heap)
SameBut-one r heap long le = record {
  long = length-overwrite (64 * r.line) r.bytes heap (omega (arith, long));
  same = λ i other.
      get_or-overwrite_outside (64 * r.line) r.bytes heap i (omega (arith, long)) (beside i other);
}
  where
    beside : (i : ℕ) → names_line (r ∷ []) (i / 64) ≡ false → (i < 64 * r.line) ⊎ (64 * r.line + length r.bytes ≤ i)
    beside i other = elim (sides (64 * r.line) (length r.bytes) i) [
      | inl out ↦ out
      | inr w ↦ let at : i / 64 ≡ r.line = line_of i r.line w.0 (omega (arith, w.1, long)) in absurd
          (grind (arith, nat_tests))
    ]

-- records put leave all lines but their own
pub SameBut-put_records : (n : ℕ) (records : List Record) (heap : List ℕ) → are_good n records ≡ true →
    AreLines records → 64 * n ≤ length heap → SameBut records heap (put_records records heap)
SameBut-put_records n [] heap good lines le = record { long = refl; same = λ i other. refl }
SameBut-put_records n (r ∷ records) heap good lines le =
    let g = are_good-cons n r records good in
    let one = SameBut-one r heap lines.0 (omega (arith, g.0)) in
    let rest = SameBut-put_records n records (overwrite (64 * r.line) r.bytes heap) g.2 lines.1
    (omega (arith, one.long)) in
    record {
      long = rest.long ∙ one.long;
      same = λ i other. rest.same i (unnamed r records (i / 64) other).1 ∙ one.same i
          (unnamed r records (i / 64) other).0;
    }

-- the lines that are put don't matter before
pub put_records-same_but : (n : ℕ) (records : List Record) (a b : List ℕ) → are_good n records ≡ true →
    AreLines records → 64 * n ≤ length a → SameBut records a b → put_records records b ≡ put_records records a
put_records-same_but n [] a b good lines le s = ext_get_or 0 b a s.long (λ i lt. s.same i refl)
put_records-same_but n (r ∷ records) a b good lines le s =
    let g = are_good-cons n r records good in
    let p = 64 * r.line in
    let in_a : p + length r.bytes ≤ length a = omega (arith, g.0, lines.0) in
    let in_b : p + length r.bytes ≤ length b = omega (arith, in_a, s.long) in
    put_records-same_but n records (overwrite p r.bytes a) (overwrite p r.bytes b) g.2 lines.1
    (omega (arith, length-overwrite p r.bytes a in_a))
    (record {
      long = length-overwrite p r.bytes b in_b ∙ s.long ∙ sym (length-overwrite p r.bytes a in_a);
      same = λ i other. here i in_a in_b other (sides p (length r.bytes) i);
    })
  where
    here : (i : ℕ) → 64 * r.line + length r.bytes ≤ length a → 64 * r.line + length r.bytes ≤ length b →
        names_line records (i / 64) ≡ false →
        ((i < 64 * r.line) ⊎ (64 * r.line + length r.bytes ≤ i)) ⊎
        ((64 * r.line ≤ i) × (i < 64 * r.line + length r.bytes)) →
        get_or (overwrite (64 * r.line) r.bytes b) i 0 ≡ get_or (overwrite (64 * r.line) r.bytes a) i 0
    here i in_a in_b other (inr w) =
        get_or-overwrite_inside (64 * r.line) r.bytes b i in_b w.0 w.1
        ∙ sym (get_or-overwrite_inside (64 * r.line) r.bytes a i in_a w.0 w.1)
    here i in_a in_b other (inl out) =
        get_or-overwrite_outside (64 * r.line) r.bytes b i in_b out
        ∙ s.same i (apart i out other)
        ∙ sym (get_or-overwrite_outside (64 * r.line) r.bytes a i in_a out)
      where
        apart : (i : ℕ) → (i < 64 * r.line) ⊎ (64 * r.line + length r.bytes ≤ i) → names_line records (i / 64) ≡ false →
            names_line (r ∷ records) (i / 64) ≡ false
        apart i (inl lt) other = let ne : i / 64 < r.line = omega arith in grind (arith, nat_tests)
        apart i (inr ge) other = let ne : r.line < i / 64 = omega (arith, ge, lines.0) in grind (arith, nat_tests)

-- a line that isn't put is the same
pub part-same_but : (records : List Record) (line : ℕ) (heap put : List ℕ) → SameBut records heap put →
    names_line records line ≡ false → 64 * line + 64 ≤ length heap →
    part (64 * line) 64 put ≡ part (64 * line) 64 heap
part-same_but records line heap put s new inside =
    let long = length-part (64 * line) 64 put (omega (arith, inside, s.long)) in
    ext_get_or 0 (part (64 * line) 64 put) (part (64 * line) 64 heap)
    (long ∙ sym (length-part (64 * line) 64 heap inside))
    (λ i lt. let lt' : i < 64 = omega (arith, lt, long) in
    get_or-part (64 * line) 64 put i lt'
    ∙ s.same (64 * line + i) (subst (λ (k : ℕ). names_line records k ≡ false)
    (sym (line_of (64 * line + i) line (omega arith) (omega arith))) new)
    ∙ sym (get_or-part (64 * line) 64 heap i lt'))

-- a line's own bytes put there change nothing
pub put_records-own : (n : ℕ) (records : List Record) (r : Record) (heap : List ℕ) → are_good n records ≡ true →
    AreLines records → 64 * n ≤ length heap → r.line < n → names_line records r.line ≡ false →
    r.bytes ≡ part (64 * r.line) 64 heap → put_records (records ++ r ∷ []) heap ≡ put_records records heap
put_records-own n records r heap good lines le below new own =
    let put = put_records records heap in
    let s = SameBut-put_records n records heap good lines le in
    let inside : 64 * r.line + 64 ≤ length heap = omega arith in
    let same : part (64 * r.line) 64 put ≡ part (64 * r.line) 64 heap = part-same_but records r.line heap put s new inside in
    put_records-push records r heap
    ∙ ap (λ (l : List ℕ). overwrite (64 * r.line) l put) (own ∙ sym same)
    ∙ overwrite-part (64 * r.line) 64 put (omega (arith, inside, s.long))
