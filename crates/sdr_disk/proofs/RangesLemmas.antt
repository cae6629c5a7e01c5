-- Lists of bytes that differ in ranges alone.
use Rattle.std.proofs.Common.{◌≡◌, ℕ, ◌+◌, ◌-◌, ◌<◌, ◌≤◌, ◌⊎◌, inl, inr, List, [], ◌∷◌, length, get_or, refl, sym, ◌∙◌, ap}
use Rattle.std.proofs.Common.{subst, arith}
use Rattle.std.proofs.lemmas.List.{ext_get_or}
use Rattle.sdr_base.specs.Parts.{overwrite, part}
use Rattle.sdr_base.proofs.PartsLemmas.{get_or-overwrite_inside, get_or-overwrite_outside, get_or-part, length-overwrite, length-part, sides}
use Rattle.sdr_disk.specs.Ranges.{Agrees, IsInNone, Range, range}

-- Lists that agree outside ranges.

pub Agrees-refl : (ranges : List Range) (a : List ℕ) → Agrees ranges a a
Agrees-refl ranges a = record { long = refl; same = λ i o. refl }

pub Agrees-sym : (ranges : List Range) (a b : List ℕ) → Agrees ranges a b → Agrees ranges b a
Agrees-sym ranges a b f = record { long = sym f.long; same = λ i o. sym (f.same i o) }

pub Agrees-trans : (ranges : List Range) (a b c : List ℕ) → Agrees ranges a b → Agrees ranges b c → Agrees ranges a c
Agrees-trans ranges a b c f g = record { long = g.long ∙ f.long; same = λ i o. g.same i o ∙ f.same i o }

-- with more ranges, fewer places have to agree
pub Agrees-more : (ranges more : List Range) (a b : List ℕ) → ((i : ℕ) → IsInNone more i → IsInNone ranges i)
    → Agrees ranges a b → Agrees more a b
Agrees-more ranges more a b sub f = record { long = f.long; same = λ i o. f.same i (sub i o) }

pub Agrees-one_more : (r : Range) (ranges : List Range) (a b : List ℕ) → Agrees ranges a b → Agrees (r ∷ ranges) a b
Agrees-one_more r ranges a b f = record { long = f.long; same = λ i o. f.same i o.1 }

-- outside no range are all places
pub Agrees-nil : (a b : List ℕ) → Agrees [] a b → b ≡ a
Agrees-nil a b f = ext_get_or 0 b a f.long (λ i lt. f.same i tt)

-- bytes that were put into a list change it in their range alone
pub Agrees-overwrite : (place : ℕ) (from x : List ℕ) (ranges : List Range) → place + length from ≤ length x
    → Agrees (range place (length from) ∷ ranges) x (overwrite place from x)
Agrees-overwrite place from x ranges le =
    record { long = length-overwrite place from x le; same = λ i o. get_or-overwrite_outside place from x i le o.0 }

-- of lists into which the same bytes were put, their range need not agree before
pub Agrees-overwrite_both : (place count : ℕ) (from a b : List ℕ) (ranges : List Range)
    → length from ≡ count → place + count ≤ length a → Agrees (range place count ∷ ranges) a b
    → Agrees ranges (overwrite place from a) (overwrite place from b)
Agrees-overwrite_both place count from a b ranges is le f = record {
  long =
      length-overwrite place from b (omega (arith, f.long))
      ∙ f.long
      ∙ sym (length-overwrite place from a (omega arith));
  same = λ i o. at i o (sides place count i);
}
  where
    at : (i : ℕ) → IsInNone ranges i → ((i < place) ⊎ (place + count ≤ i)) ⊎ ((place ≤ i) × (i < place + count))
        → get_or (overwrite place from b) i 0 ≡ get_or (overwrite place from a) i 0
    at i o (inl out) =
        let out' = subst (λ (n : ℕ). (i < place) ⊎ (place + n ≤ i)) (sym is) out in
        get_or-overwrite_outside place from b i (omega (arith, f.long)) out'
        ∙ f.same i (out, o)
        ∙ sym (get_or-overwrite_outside place from a i (omega arith) out')
    at i o (inr in') =
        get_or-overwrite_inside place from b i (omega (arith, f.long)) in'.0 (omega (arith, in'.1))
        ∙ sym (get_or-overwrite_inside place from a i (omega arith) in'.0 (omega (arith, in'.1)))

-- a part that no range touches is the same
pub Agrees-part : (ranges : List Range) (place count : ℕ) (a b : List ℕ) → place + count ≤ length a
    → ((i : ℕ) → place ≤ i → i < place + count → IsInNone ranges i)
    → Agrees ranges a b → part place count b ≡ part place count a
Agrees-part ranges place count a b le out f =
    let long : length (part place count b) ≡ count = length-part place count b (omega (arith, f.long)) in
    ext_get_or 0 (part place count b) (part place count a)
    (long ∙ sym (length-part place count a le))
    (λ i lt. get_or-part place count b i (omega (arith, long, lt))
    ∙ f.same (place + i) (out (place + i) (omega arith) (omega (arith, long, lt)))
    ∙ sym (get_or-part place count a i (omega (arith, long, lt))))

-- a part is put back where it was, over anything: then its range need not agree before
pub Agrees-part_back : (place count : ℕ) (a b : List ℕ) (ranges : List Range) → place + count ≤ length a
    → Agrees (range place count ∷ ranges) a b → Agrees ranges a (overwrite place (part place count a) b)
Agrees-part_back place count a b ranges le f =
    let long = length-part place count a le in
    record {
      long = length-overwrite place (part place count a) b (omega (arith, long, f.long)) ∙ f.long;
      same = λ i o. at long i o (sides place count i);
    }
  where
    at : length (part place count a) ≡ count → (i : ℕ) → IsInNone ranges i
        → ((i < place) ⊎ (place + count ≤ i)) ⊎ ((place ≤ i) × (i < place + count))
        → get_or (overwrite place (part place count a) b) i 0 ≡ get_or a i 0
    at long i o (inl out) =
        get_or-overwrite_outside place (part place count a) b i (omega (arith, long, f.long))
        (subst (λ (n : ℕ). (i < place) ⊎ (place + n ≤ i)) (sym long) out)
        ∙ f.same i (out, o)
    at long i o (inr in') =
        get_or-overwrite_inside place (part place count a) b i (omega (arith, long, f.long)) in'.0
        (omega (arith, long, in'.1))
        ∙ get_or-part place count a (i - place) (omega (arith, in'.0, in'.1))
        ∙ ap (λ (n : ℕ). get_or a n 0) (omega (arith, in'.0))

-- what bytes were put over comes back when it is put over them
pub overwrite-overwrite : (place : ℕ) (from x : List ℕ) → place + length from ≤ length x
    → overwrite place (part place (length from) x) (overwrite place from x) ≡ x
overwrite-overwrite place from x le =
    Agrees-nil x (overwrite place (part place (length from) x) (overwrite place from x))
    (Agrees-part_back place (length from) x (overwrite place from x) [] le (Agrees-overwrite place from x [] le))
